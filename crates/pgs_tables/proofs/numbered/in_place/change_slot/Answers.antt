use Rattle.std.proofs.Common.{◌∙◌, Option, sym, ap}
use Rattle.std.specs.Map.{lookup}
use Rattle.indexmap.specs.Layout.{set_value_at}
use Rattle.std.specs.Option.{option_flatten}
use Rattle.pgs_tables.specs.declared.node_edges.NodeTable.{NodeTable}
use Rattle.pgs_tables.specs.Commits.{row_changed}
use Rattle.pgs_tables.specs.Slots.{row_count}
use Rattle.pgs_tables.proofs.Rows.{set_value_absent}
use Rattle.pgs_tables.proofs.Placed.{none_found, value_found}
use Rattle.pgs_tables.proofs.numbered.in_place.change_slot.Goals as goal

pub returns-in_default-clause-entries : goal.returns-in_default-clause-entries
returns-in_default-clause-entries g c =
    let test = g.K.PartialEq.eq c.args.id in
    let slots = c.args.slots.now.entries in
    sym (set_value_absent {W = Option NodeTable} test slots (row_changed c.args.row (option_flatten (lookup test slots))) (none_found test slots c.find.result c.in_default.is c.find.ensures.place))

pub returns-in_default-clause-count : goal.returns-in_default-clause-count
returns-in_default-clause-count g c =
    let test = g.K.PartialEq.eq c.args.id in
    let slots = c.args.slots.now.entries in
    sym (ap (λ o. row_count (option_flatten o)) (none_found test slots c.find.result c.in_default.is c.find.ensures.place))

pub returns-in-Some-get_index_mut-clause-count : goal.returns-in-Some-get_index_mut-clause-count
returns-in-Some-get_index_mut-clause-count g c =
    let found = value_found (g.K.PartialEq.eq c.args.id) c.args.slots.now.entries c.in-Some.place c.in-Some.ensures.place in
    c.count_row-before.ensures ∙ ap (λ o. row_count (option_flatten o)) (c.in-Some-get_index_mut.ensures.value ∙ sym found)

pub returns-in-Some-get_index_mut-clause-entries : goal.returns-in-Some-get_index_mut-clause-entries
returns-in-Some-get_index_mut-clause-entries g c =
    let slots = c.args.slots.now.entries in
    let found = value_found (g.K.PartialEq.eq c.args.id) slots c.in-Some.place c.in-Some.ensures.place in
    let there = ap option_flatten (c.in-Some-get_index_mut.ensures.value ∙ sym found) in
    ap (set_value_at slots c.in-Some.place) (c.change_table.ensures ∙ ap (row_changed c.args.row) there) ∙ c.in-Some.ensures.place.sets _
