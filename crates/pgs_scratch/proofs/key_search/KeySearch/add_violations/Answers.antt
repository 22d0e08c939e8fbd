use Rattle.std.proofs.Common.{◌++◌, ap, ◌∙◌}
use Rattle.pgs_syntax.specs.declared.key.Key.{Key}
use Rattle.pgs_scratch.specs.Rows.{rows_violations}
use Rattle.pgs_scratch.proofs.KeyRows.{rows_ascend, rows_are_scope}
use Rattle.pgs_scratch.proofs.key_search.KeySearch.add_violations.Goals as goal

pub add_rows_violations-requires : goal.add_rows_violations-requires
add_rows_violations-requires g c =
    rows_ascend c.args.self.now.compiled.now (g.G.GraphRead.meaning c.args.self.now.graph.now) c.requires.graph c.args.self.now.number c.args.self.now.key.now
    c.as_slice.result.now (c.as_slice.ensures.value ∙ c.in_ok-rows.ensures.rows)

pub returns-clause-key : goal.returns-clause-key
returns-clause-key g c =
    c.in_ok-add_rows_violations.ensures
    ∙ ap (λ more. c.args.found.now.items ++ more)
    (ap (λ (key : Key). rows_violations key.qualifiers c.args.self.now.number c.as_slice.result.now) c.key.ensures
    ∙ ap (rows_violations c.args.self.now.key.now.qualifiers c.args.self.now.number) (c.as_slice.ensures.value ∙ c.in_ok-rows.ensures.rows)
    ∙ rows_are_scope c.args.self.now.compiled.now (g.G.GraphRead.meaning c.args.self.now.graph.now) c.requires.graph c.args.self.now.number c.args.self.now.key.now)
