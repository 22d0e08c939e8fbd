use Rattle.std.proofs.Common.{◌∙◌, ap, subst}
use Rattle.std.specs.List.Sorted.{IsPermutation}
use Rattle.std.specs.Map.{keys_of}
use Rattle.pgs_tables.specs.Slots.{present}
use Rattle.pgs_tables.proofs.Rows.{ids-sorted}
use Rattle.pgs_tables.proofs.numbered.Numbered.ids.Goals as goal

pub returns : goal.returns
returns g c =
    let slots = c.self.inside.slots.entries in
    let sorted = c.sort_unstable.new.self.items in
    let moved : IsPermutation (keys_of (present slots)) sorted = subst (λ l. IsPermutation l sorted) c.in_ok-ids.ensures c.sort_unstable.ensures.permutation in
    c.from_vec.ensures ∙ ids-sorted g.met.K.Ord.total g.met.K.Ord.matches_eq g.met.K.Number.exact slots sorted c.self.invariant.distinct moved c.sort_unstable.ensures.sorted
    ∙ ap (λ s. keys_of s.rows) c.self.view_is
