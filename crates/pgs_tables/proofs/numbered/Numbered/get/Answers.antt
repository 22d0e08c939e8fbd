use Rattle.std.proofs.Common.{◌≡◌, ◌∙◌, false, sym, ap}
use Rattle.std.specs.Option.{option_flatten}
use Rattle.std.specs.Map.{keys_of, lookup}
use Rattle.std.specs.BTreeMap.{is_at}
use Rattle.std.specs.List.{list_any}
use Rattle.pgs_tables.proofs.Rows.{row-found, slot-found}
use Rattle.pgs_tables.proofs.Above.{no_row}
use Rattle.pgs_tables.proofs.numbered.Numbered.get.Goals as goal

pub returns-in-Some : goal.returns-in-Some
returns-in-Some g c =
    let slots = c.self.inside.slots.entries in
    let found = row-found g.met.K.Ord.total g.met.K.Ord.matches_eq c.args.id slots c.self.invariant.distinct in
    c.as_ref.ensures.value ∙ ap option_flatten c.in-Some.ensures ∙ sym found ∙ ap (λ s. lookup (is_at (g.K.Ord.cmp c.args.id)) s.rows) c.self.view_is

pub returns-in-None : goal.returns-in-None
returns-in-None g c =
    let slots = c.self.inside.slots.entries in
    let found = row-found g.met.K.Ord.total g.met.K.Ord.matches_eq c.args.id slots c.self.invariant.distinct in
    ap option_flatten c.in-None.ensures ∙ sym found ∙ ap (λ s. lookup (is_at (g.K.Ord.cmp c.args.id)) s.rows) c.self.view_is

pub returns-then-is_above : goal.returns-then-is_above
returns-then-is_above g c =
    let slots = c.self.inside.slots.entries in
    let none : list_any (is_at (g.K.Ord.cmp c.args.id)) (keys_of slots) ≡ false = c.self.invariant.below c.args.id (sym c.is_above.ensures ∙ c.if-is_above.true) in
    let found = row-found g.met.K.Ord.total g.met.K.Ord.matches_eq c.args.id slots c.self.invariant.distinct in
    let slot = slot-found g.met.K.Ord.total g.met.K.Ord.matches_eq c.args.id slots in
    sym (no_row (lookup (g.K.PartialEq.eq c.args.id) slots) (sym slot ∙ none)) ∙ sym found ∙ ap (λ s. lookup (is_at (g.K.Ord.cmp c.args.id)) s.rows) c.self.view_is
