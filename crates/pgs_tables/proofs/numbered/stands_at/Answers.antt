use Rattle.std.proofs.Common.{◌∙◌, sym}
use Rattle.pgs_tables.proofs.Placed.{found_at, laws_of}
use Rattle.pgs_tables.proofs.numbered.stands_at.Goals as goal

pub returns-in-Some : goal.returns-in-Some
returns-in-Some g c same =
    found_at (laws_of g.met.K.Ord.total g.met.K.Ord.matches_eq) c.args.id c.args.slots.now.entries c.args.place (c.in-Some.key.now, c.in-Some.field-0-1.now)
    c.len-unique.ensures.unique (sym c.in-Some.ensures.entry) (sym c.eq.ensures ∙ same)
