use Rattle.std.proofs.Common.{sym, ap, ◌∙◌, subst}
use Rattle.pgs_syntax.specs.declared.resolved.Resolved.{Resolved}
use Rattle.pgs_keyindex.specs.Standing.{exclusive_keys}
use Rattle.tests_graph.specs.Kept.{IsKept}
use Rattle.tests_graph.proofs.Empty.{empty_kept}
use Rattle.tests_graph.proofs.check.checked.tally_by.Goals as goal

pub loop-number-init : goal.loop-number-init
loop-number-init g c =
    let resolved = c.args.schema.now.resolved in
    let keys = ap (λ (r : Resolved). exclusive_keys r.guard.keys) (c.resolved.ensures.same ∙ c.compiled.ensures.schema) in
    subst (λ x. IsKept resolved x c.in_ok-index.index) (sym c.new-tables.ensures.graph)
    (empty_kept resolved c.compiled.ensures.valid c.in_ok-index.index (c.in_ok-index.ensures.exclusive ∙ keys) c.in_ok-index.ensures.rows)
