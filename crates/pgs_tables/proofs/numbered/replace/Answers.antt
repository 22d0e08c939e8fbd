use Rattle.std.proofs.Common.{◌∙◌, Option, sym, ap}
use Rattle.std.specs.Option.{option_flatten}
use Rattle.pgs_tables.proofs.Rows.{set_value_absent}
use Rattle.pgs_tables.proofs.Placed.{none_found, value_found}
use Rattle.pgs_tables.proofs.numbered.replace.Goals as goal

pub returns-in_default-clause-entries : goal.returns-in_default-clause-entries
returns-in_default-clause-entries g c =
    sym (set_value_absent {W = Option g.row.V.Denot} (g.K.PartialEq.eq c.args.id) c.args.slots.now.entries c.args.row (none_found (g.K.PartialEq.eq c.args.id) c.args.slots.now.entries c.find.result c.in_default.is c.find.ensures.place))

pub returns-in-Some-get_index_mut-clause-old : goal.returns-in-Some-get_index_mut-clause-old
returns-in-Some-get_index_mut-clause-old g c =
    let found = value_found (g.K.PartialEq.eq c.args.id) c.args.slots.now.entries c.in-Some.place c.in-Some.ensures.place in
    c.replace.ensures.value ∙ ap option_flatten (c.in-Some-get_index_mut.ensures.value ∙ sym found)
