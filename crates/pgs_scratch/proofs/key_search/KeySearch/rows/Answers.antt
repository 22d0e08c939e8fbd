use Rattle.std.proofs.Common.{map, filter, ap, ◌∙◌}
use Rattle.std.proofs.lemmas.Bool.{and_parts}
use Rattle.pgs_syntax.specs.KeyValues.{is_in_scope, key_values}
use Rattle.pgs_match.proofs.Along.{take_whole}
use Rattle.pgs_match.proofs.Scopes.{kind_is_scope}
use Rattle.pgs_scratch.specs.Rows.{row_of}
use Rattle.pgs_scratch.proofs.key_search.KeySearch.rows.Goals as goal

pub returns-clause-rows : goal.returns-clause-rows
returns-clause-rows g c =
    let graph = g.G.GraphRead.meaning c.args.self.now.graph.now in
    let in_scope = is_in_scope c.args.self.now.compiled.now graph c.args.self.now.key.now in
    let listed = c.as_slice-elems.ensures ∙ c.in_ok-elements.ensures.elems in
    c.loop-elem.invariant.so_far
    ∙ ap (map (row_of (key_values c.args.self.now.compiled.now graph c.args.self.now.key.now)))
    (ap (filter in_scope) (take_whole c.as_slice-elems.result.now c.loop-elem.elem-index c.loop-elem-test.false ∙ listed)
    ∙ kind_is_scope c.args.self.now.compiled.now graph c.args.self.now.key.now (and_parts _ _ (and_parts _ _ c.requires).0).0)
