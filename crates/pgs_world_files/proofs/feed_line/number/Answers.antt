use Rattle.std.proofs.Common.{◌∙◌, ◌+◌, sym, ap, refl, arith, ℕ, drop, option_and_then}
use Rattle.std.proofs.lemmas.List.{drop_all}
use Rattle.pgs_world_files.specs.FeedLines.{number_after}
use Rattle.pgs_world_files.proofs.FeedLines.{number_on}
use Rattle.pgs_world_files.proofs.feed_line.number.Goals as goal

pub loop-byte-init : goal.loop-byte-init
loop-byte-init c = refl

pub returns-in_err-number : goal.returns-in_err-number
returns-in_err-number c =
    let word = c.args.digits.now in
    let i = c.loop-byte.byte-index in
    c.from_residual.ensures
    ∙ ap (option_and_then (λ (n : ℕ). number_after n (drop (i + 1) word))) c.in_err-number.ensures
    ∙ sym (number_on c.loop-byte.number word i 0 c.loop-byte-test.true) ∙ c.loop-byte.invariant

pub loop-byte-preserved : goal.loop-byte-preserved
loop-byte-preserved c =
    let word = c.args.digits.now in
    let i = c.loop-byte.byte-index in
    ap (option_and_then (λ (n : ℕ). number_after n (drop (i + 1) word))) c.in_ok-number.ensures
    ∙ sym (number_on c.loop-byte.number word i 0 c.loop-byte-test.true) ∙ c.loop-byte.invariant

pub returns : goal.returns
returns c = ap (number_after c.loop-byte.number) (sym (drop_all c.loop-byte.byte-index c.args.digits.now (omega arith))) ∙ c.loop-byte.invariant
