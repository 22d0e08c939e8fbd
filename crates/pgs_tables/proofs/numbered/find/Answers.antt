use Rattle.std.proofs.Common.{sym}
use Rattle.std.proofs.lemmas.Map.Made.{lookup_key_passes}
use Rattle.pgs_tables.proofs.Placed.{found_at, laws_of}
use Rattle.pgs_tables.proofs.numbered.find.Goals as goal

pub returns-clause-place : goal.returns-clause-place
returns-clause-place g c =
    let slots = c.args.slots.now.entries in
    found_at (laws_of g.met.K.Ord.total g.met.K.Ord.matches_eq) c.args.id slots c.in_ok-place.place (c.in_ok-place.field-0-1.now, c.in_ok-place.field-0-2.now)
    c.len-unique.ensures.unique c.in_ok-place.ensures.entry (lookup_key_passes (g.K.PartialEq.eq c.args.id) slots c.in_ok-place.field-0-1.now (sym c.in_ok-place.ensures.key))
