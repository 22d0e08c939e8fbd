use Rattle.std.proofs.Common.{◌+◌, [], List, ℕ, Option, take, sym, ◌∙◌}
use denote.Bor.{Bor}
use Rattle.pgs_syntax.specs.declared.specification.Leaf.{Leaf}
use Rattle.pgs_syntax.specs.declared.specification.Spec.{Spec}
use Rattle.pgs_resolve_declared.proofs.Walks.{kept_through, more_kept}
use Rattle.pgs_advice.specs.Parts.{label_in}
use Rattle.pgs_advice.proofs.parts.labels_of.Goals as goal

abbrev lent : Bor (Spec Leaf) → Spec Leaf
lent part = part.now

abbrev label_at : Bor (Spec Leaf) → Option (List ℕ)
label_at part = label_in part.now

pub loop-part-preserved : goal.loop-part-preserved
loop-part-preserved c =
    let parts = c.args.parts.now in
    let i = c.loop-part.part-index in
    more_kept label_at [] parts i c.part-item.result c.loop-part.labels c.push_label.new.labels c.loop-part-test.true c.part-item.is
    (c.loop-part.invariant ∙ sym (kept_through lent label_in (take i parts))) c.in_ok-push_label.ensures
    ∙ kept_through lent label_in (take (i + 1) parts)
