use Rattle.std.proofs.Common.{◌∙◌, sym, ap, refl}
use Rattle.std.specs.List.{list_any}
use Rattle.std.specs.BTreeMap.{is_at}
use Rattle.pgs_tables.proofs.Rows.{slot-found}
use Rattle.pgs_tables.proofs.Placed.{some_at}
use Rattle.pgs_tables.proofs.numbered.Numbered.make_slot.Goals as goal

pub returns-then-stands_at-clause-there : goal.returns-then-stands_at-clause-there
returns-then-stands_at-clause-there g c =
    let slots = c.self.inside.slots.entries in
    ap (λ s. list_any (is_at (g.K.Ord.cmp c.args.id)) s.numbers) (sym c.self.view_is) ∙ slot-found g.met.K.Ord.total g.met.K.Ord.matches_eq c.args.id slots
    ∙ some_at (g.K.PartialEq.eq c.args.id) slots slots c.near.result (c.stands_at.ensures c.if-stands_at.true)

pub returns-then-stands_at-clause-ok : goal.returns-then-stands_at-clause-ok
returns-then-stands_at-clause-ok g c = rw (returns-then-stands_at-clause-there g c) refl

pub returns-clause-there : goal.returns-clause-there
returns-clause-there g c =
    slot-found g.met.K.Ord.total g.met.K.Ord.matches_eq c.args.id c.slot_of.new.slots.entries ∙ c.in_ok-place.ensures.there
