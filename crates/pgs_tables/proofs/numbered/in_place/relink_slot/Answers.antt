use Rattle.std.proofs.Common.{◌∙◌, Option, sym, ap}
use Rattle.std.specs.Map.{lookup}
use Rattle.indexmap.specs.Layout.{set_value_at}
use Rattle.std.specs.Option.{option_flatten}
use Rattle.pgs_tables.specs.declared.node_edges.NodeTable.{NodeTable}
use Rattle.pgs_tables.specs.Commits.{relinked}
use Rattle.pgs_tables.proofs.Rows.{set_value_absent}
use Rattle.pgs_tables.proofs.Placed.{none_found, value_found}
use Rattle.pgs_tables.proofs.numbered.in_place.relink_slot.Goals as goal

pub returns-in_default-clause-entries : goal.returns-in_default-clause-entries
returns-in_default-clause-entries g c =
    let test = g.K.PartialEq.eq c.args.id in
    let slots = c.args.slots.now.entries in
    sym (set_value_absent {W = Option NodeTable} test slots (relinked c.args.edges (option_flatten (lookup test slots))) (none_found test slots c.find.result c.in_default.is c.find.ensures.place))

pub returns-in-Some-get_index_mut-clause-entries : goal.returns-in-Some-get_index_mut-clause-entries
returns-in-Some-get_index_mut-clause-entries g c =
    let slots = c.args.slots.now.entries in
    let found = value_found (g.K.PartialEq.eq c.args.id) slots c.in-Some.place c.in-Some.ensures.place in
    let there = ap option_flatten (c.in-Some-get_index_mut.ensures.value ∙ sym found) in
    ap (set_value_at slots c.in-Some.place) (c.relink_table.ensures ∙ ap (relinked c.args.edges) there) ∙ c.in-Some.ensures.place.sets _
