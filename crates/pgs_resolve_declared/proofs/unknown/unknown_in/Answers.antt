use Rattle.std.proofs.Common.{not, filter, sym, ◌∙◌, ap}
use Rattle.std.specs.List.{flat_map, slice_get}
use Rattle.pgs_resolve_declared.specs.Declarations.{is_graph_type}
use Rattle.pgs_resolve_declared.specs.Refused.{unknown_member}
use Rattle.pgs_resolve_declared.proofs.Firsts.{first_of_two, first_stays, none_first}
use Rattle.pgs_resolve_declared.proofs.unknown.unknown_in.Goals as goal

pub returns-in-Some : goal.returns-in-Some
returns-in-Some c script are =
    first_stays (filter (λ name. not (is_graph_type script name)) c.args.graph.now.imports) (flat_map (unknown_member script) c.args.graph.now.members) _
    (c.in-Some.ensures script are ∙ ap (λ names. slice_get (filter (λ name. not (is_graph_type script name)) names) 0) c.as_slice.ensures)

pub returns-in-None : goal.returns-in-None
returns-in-None c script are =
    c.unknown_listed.ensures script are ∙ ap (λ members. slice_get (flat_map (unknown_member script) members) 0) c.as_slice-in-None.ensures
    ∙ sym (first_of_two (filter (λ name. not (is_graph_type script name)) c.args.graph.now.imports) (flat_map (unknown_member script) c.args.graph.now.members)
    (none_first _ (c.in-None.ensures script are ∙ ap (λ names. slice_get (filter (λ name. not (is_graph_type script name)) names) 0) c.as_slice.ensures)))
