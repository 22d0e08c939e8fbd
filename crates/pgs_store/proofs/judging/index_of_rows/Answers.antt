use Rattle.std.proofs.Common.{ap, ◌∙◌}
use Rattle.pgs_base.specs.Graph.{empty_graph}
use Rattle.pgs_syntax.specs.declared.resolved.Resolved.{Resolved}
use Rattle.pgs_keyindex.specs.Rows.{rows_changed}
use Rattle.pgs_keyindex.specs.Standing.{exclusive_keys}
use Rattle.pgs_check.proofs.FromNothing.{new_stands, whole_stands}
use Rattle.pgs_check.proofs.Indexed.{owned_after}
use Rattle.pgs_check.proofs.Whole.{no_of_keys}
use Rattle.pgs_store.proofs.Decided.{by_verdict}
use Rattle.pgs_store.proofs.Judged.{rows_make_changes}
use Rattle.pgs_store.proofs.judging.index_of_rows.Goals as goal

pub prepare-requires : goal.prepare-requires
prepare-requires g c =
    let resolved = c.args.compiled.now in
    let h = g.G.GraphRead.meaning c.args.graph.now in
    let index = c.in_ok-index.index in
    owned_after resolved empty_graph h c.count-count.ensures.graph resolved.guard.keys index
    (new_stands resolved resolved.guard.keys index
    (c.in_ok-index.ensures.exclusive ∙ ap (λ (r : Resolved). exclusive_keys r.guard.keys) c.resolved.ensures.same) c.in_ok-index.ensures.rows)
    c.facts.ensures.ascending c.args.rows (rows_make_changes resolved h c.count-count.ensures.graph resolved.guard.keys c.args.rows c.requires.rows)
    (no_of_keys resolved h (by_verdict resolved h c.requires.conforms))

pub returns-clause-stands : goal.returns-clause-stands
returns-clause-stands g c =
    let resolved = c.args.compiled.now in
    let h = g.G.GraphRead.meaning c.args.graph.now in
    let index = c.in_ok-index.index in
    whole_stands resolved h c.count-count.ensures.graph resolved.guard.keys index
    (new_stands resolved resolved.guard.keys index
    (c.in_ok-index.ensures.exclusive ∙ ap (λ (r : Resolved). exclusive_keys r.guard.keys) c.resolved.ensures.same) c.in_ok-index.ensures.rows)
    c.facts.ensures.ascending c.args.rows (rows_make_changes resolved h c.count-count.ensures.graph resolved.guard.keys c.args.rows c.requires.rows)
    c.commit.new.self (c.commit.ensures.exclusive ∙ c.prepare.ensures.exclusive)
    (c.commit.ensures.rows ∙ ap (λ rows. rows_changed rows c.in_ok-ready.ready.changes) c.prepare.ensures.rows
    ∙ ap (rows_changed index.rows) c.in_ok-ready.ensures.changes)
