use Rattle.std.proofs.Common.{◌≡◌, ◌++◌, List, ℕ, false, is_some, length, take, sym, subst, ◌∙◌, arith}
use Rattle.std.proofs.lemmas.List.{take_all}
use Rattle.pgs_follow.specs.Standing.{StandsFor}
use Rattle.pgs_follow.proofs.Standing.{stands_ended, stands_kept, stands_on, through_end, through_all, front_ended}
use Rattle.pgs_follow.proofs.follower.Follower.push.Goals as goal

pub returns-then-has_fault-clause-stands : goal.returns-then-has_fault-clause-stands
returns-then-has_fault-clause-stands c = λ bytes stands.
    stands_on c.args.self.now (take (length c.args.piece.now) c.args.piece.now) bytes (sym c.has_fault.ensures ∙ c.if-has_fault.true) stands

pub returns-in_ok-end_line-in-Some-clause-taken : goal.returns-in_ok-end_line-in-Some-clause-taken
returns-in_ok-end_line-in-Some-clause-taken c =
    let none : is_some c.args.self.now.followed.fault ≡ false = sym c.has_fault.ensures ∙ c.if-has_fault.false in
    rw none (sym (through_end c.args.piece.now c.in-Some.end c.in-Some.ensures))

pub returns-in_ok-end_line-in-Some-clause-stands : goal.returns-in_ok-end_line-in-Some-clause-stands
returns-in_ok-end_line-in-Some-clause-stands c = λ bytes stands.
    let none : is_some c.args.self.now.followed.fault ≡ false = sym c.has_fault.ensures ∙ c.if-has_fault.false in
    let piece = c.args.piece.now in
    subst (λ (taken : List ℕ). StandsFor (bytes ++ taken) c.end_line.new.self) (sym (front_ended piece c.in-Some.end c.in-Some.ensures))
    (stands_ended c.args.self.now c.end_line.new.self (take c.in-Some.end piece) bytes c.in-Some.ensures.line none c.in_ok-end_line-in-Some.ensures.limits
    c.in_ok-end_line-in-Some.ensures.ok c.in_ok-end_line-in-Some.ensures.line stands)

pub returns-in_ok-keep-in-None-clause-taken : goal.returns-in_ok-keep-in-None-clause-taken
returns-in_ok-keep-in-None-clause-taken c =
    let none : is_some c.args.self.now.followed.fault ≡ false = sym c.has_fault.ensures ∙ c.if-has_fault.false in
    rw none (sym (through_all c.args.piece.now c.in-None.ensures))

pub returns-in_ok-keep-in-None-clause-stands : goal.returns-in_ok-keep-in-None-clause-stands
returns-in_ok-keep-in-None-clause-stands c = λ bytes stands.
    let none : is_some c.args.self.now.followed.fault ≡ false = sym c.has_fault.ensures ∙ c.if-has_fault.false in
    let piece = c.args.piece.now in
    subst (λ (taken : List ℕ). StandsFor (bytes ++ taken) c.keep.new.self) (sym (take_all (length piece) piece (omega arith)))
    (stands_kept c.args.self.now c.keep.new.self piece bytes c.in-None.ensures none c.in_ok-keep-in-None.ensures.limits
    c.in_ok-keep-in-None.ensures.ok c.in_ok-keep-in-None.ensures.line stands)
