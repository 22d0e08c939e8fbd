use Rattle.std.proofs.Common.{subst}
use Rattle.std.specs.List.{All}
use Rattle.std.proofs.lemmas.Bool.{and_parts}
use Rattle.pgs_check_affected.specs.Changes.{ChangeState}
use Rattle.pgs_check_affected.specs.Local.{IsAlike}
use Rattle.pgs_check_affected.specs.Met.{IsApart}
use Rattle.pgs_check_affected.proofs.Apart.{all_alike}
use Rattle.pgs_check_affected.proofs.change.Change.can_alter.Goals as goal

pub returns : goal.returns
returns c = λ no elem.
    let inside = c.self.inside in
    let resolved = c.args.compiled.now in
    let key = c.args.key.now in
    let change = c.self.invariant in
    let valid = (and_parts _ _ (and_parts _ _ c.requires).0).0 in
    let apart = subst (All (IsApart resolved key)) c.as_slice.ensures (c.can_meet.ensures.apart no) in
    subst (λ (s : ChangeState). IsAlike resolved s.before s.after key elem) c.self.view_is
    (all_alike resolved inside.before.now.graph inside.after.now inside.known change.rows key valid (c.can_meet.ensures.alone no) apart change.agree change.before change.after elem)
