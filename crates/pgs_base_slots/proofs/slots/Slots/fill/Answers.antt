use Rattle.std.proofs.Common.{◌≡◌, ◌∙◌, true≢false, None, IsSome, is_some, length, sym, ap, arith}
use Rattle.std.specs.Option.{option_flatten}
use Rattle.std.specs.Map.{keys_of, lookup}
use Rattle.std.specs.BTreeMap.{is_at}
use Rattle.std.proofs.lemmas.Map.Made.{is_some-lookup}
use Rattle.pgs_base_slots.specs.Slots.{has_slot, present, row_count}
use Rattle.pgs_base_slots.proofs.Present.{count-filled, count-present, one_row}
use Rattle.pgs_base_slots.proofs.slots.Slots.fill.Goals as goal

pub overflow_sub-self : goal.overflow_sub-self
overflow_sub-self g c =
    let slots = c.self.inside.slots.entries in
    let key = c.args.key in
    let counted = count-filled g.met.K.Ord.total key None slots c.len-slots.ensures.ordered in
    let old : c.in-Ok.old ≡ row_count (option_flatten (lookup (is_at (g.K.Ord.cmp key)) slots)) = c.in-Ok.ensures.old in
    omega (arith, c.self.invariant)

pub overflow_add-self : goal.overflow_add-self
overflow_add-self g c =
    let most = count-present c.self.inside.slots.entries in
    let one = one_row c.args.row in
    omega (arith, c.self.invariant, c.len-slots.ensures.small, c.len-slots.ensures.len, c.count_row-new.ensures)

pub invariant_of-self : goal.invariant_of-self
invariant_of-self g c =
    let slots = c.self.inside.slots.entries in
    let key = c.args.key in
    let before = count-filled g.met.K.Ord.total key None slots c.len-slots.ensures.ordered in
    let counted = count-filled g.met.K.Ord.total key c.args.row slots c.len-slots.ensures.ordered in
    let old : c.in-Ok.old ≡ row_count (option_flatten (lookup (is_at (g.K.Ord.cmp key)) slots)) = c.in-Ok.ensures.old in
    let left = ap (λ l. length (present l)) c.in-Ok.ensures.entries in
    omega (arith, c.self.invariant, c.count_row-new.ensures)

pub returns-clause-slots : goal.returns-clause-slots
returns-clause-slots g c =
    let there : IsSome (lookup (is_at (g.K.Ord.cmp c.args.key)) c.self.inside.slots.entries) =
    is_some-lookup (is_at (g.K.Ord.cmp c.args.key)) c.self.inside.slots.entries ∙ ap (λ s. has_slot g.K.Ord.cmp s c.args.key) c.self.view_is ∙ c.requires in
    c.in-Ok.ensures.keys there ∙ ap keys_of c.self.view_is

pub unreachable-requires : goal.unreachable-requires
unreachable-requires g c =
    let there : IsSome (lookup (is_at (g.K.Ord.cmp c.args.key)) c.self.inside.slots.entries) =
    is_some-lookup (is_at (g.K.Ord.cmp c.args.key)) c.self.inside.slots.entries ∙ ap (λ s. has_slot g.K.Ord.cmp s c.args.key) c.self.view_is ∙ c.requires in
    true≢false (sym there ∙ ap is_some c.in-Err.ensures.only_new)
