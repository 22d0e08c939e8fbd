-- What a look at one place of a list that ascends says of the others.
use Rattle.std.proofs.Common.{◌≡◌, ◌∙◌, ℕ, zero, suc, ◌+◌, ◌-◌, ◌<◌, ◌≤◌, List, length, Some, None, ap, sym, arith, inl, inr}
use Rattle.std.specs.List.{slice_get}
use Rattle.std.specs.List.Sorted.{IsStrictlySortedBy}
use Rattle.std.proofs.lemmas.Bool.{cases_lt}
use Rattle.std.proofs.lemmas.Option.{slice_get_within, get_or_from_slice_get, slice_get-get_or}
use Rattle.pgs_base.specs.declared.element.EdgeId.{EdgeId}
use Rattle.pgs_base.specs.Graph.{edge_cmp}
use Rattle.pgs_tables_edges.specs.Numbers.{numbered, number_at, AllBelow, AllAbove, IsBetween}
use Rattle.pgs_tables_edges.proofs.Searched.{numbers_same, ascends}
use Rattle.pgs_overlay.specs.Found.{AllFrom, IsLower, StandsAt}

module _ (xs : List EdgeId) (up : IsStrictlySortedBy edge_cmp xs) (edge : EdgeId) (place : ℕ) where
  number_found : (found : EdgeId) → slice_get xs place ≡ Some found → number_at xs place ≡ found.0
  number_found found e = numbers_same (get_or_from_slice_get xs place found (numbered 0) e)

  not_falling : (k : ℕ) → place ≤ k → k < length xs → number_at xs place ≤ number_at xs k
  not_falling k le high = elim (cases_lt place k) [
    | inl earlier ↦ omega (arith, ascends xs place k up earlier high)
    | inr same ↦ let e : place ≡ k = omega arith in omega (arith, ap (number_at xs) e)
  ]

  pub lower_at : (found : EdgeId) → slice_get xs place ≡ Some found → found.0 < edge.0 → IsLower edge xs place
  lower_at found e less =
      let within = slice_get_within xs place found e in
      record { in_range = within; all = below }
    where
      below : AllBelow edge xs (place + 1)
      below k low =
          let within = slice_get_within xs place found e in
          elim (cases_lt k place) [
            | inl earlier ↦ omega (arith, ascends xs k place up earlier within, number_found found e, less)
            | inr same ↦ let at : k ≡ place = omega arith in omega (arith, ap (number_at xs) at, number_found found e, less)
          ]

  pub from_at : (found : EdgeId) → slice_get xs place ≡ Some found → edge.0 ≤ found.0 → AllFrom edge xs place
  from_at found e le k after high = omega (arith, not_falling k after high, number_found found e, le)

  rises : (d : ℕ) → place + d < length xs → number_at xs place + d ≤ number_at xs (place + d)
  rises zero within = let e : place + 0 ≡ place = omega arith in omega (arith, ap (number_at xs) e)
  rises (suc d) within = omega (arith, rises d (omega arith), ascends xs (place + d) (place + suc d) up (omega arith) within)

  -- the numbers behind a place rise by one at least, from one place to the next
  pub above_gap : (found : EdgeId) → slice_get xs place ≡ Some found → (last : ℕ) → place ≤ last → edge.0 ≤ found.0 + (last - place) + 1
      → AllFrom edge xs (last + 1)
  above_gap found e last le gap k after high =
      let at : place + (k - place) ≡ k = omega arith in
      omega (arith, rises (k - place) (omega arith), ap (number_at xs) at, number_found found e)

  pub past_end : slice_get xs place ≡ None → AllFrom edge xs place
  past_end e k after high =
      let some = slice_get-get_or xs place (numbered 0) (omega arith) in
      absurd (cc)

  -- the first place from which no edge is lower, where the edge is the one that stands there
  pub stands_here : (found : EdgeId) → slice_get xs place ≡ Some found → found ≡ edge → StandsAt edge xs place
  stands_here found e same =
      record { in_range = slice_get_within xs place found e; here = number_found found e ∙ ap (λ (x : EdgeId). x.0) same }

  -- and where it isn't
  stands_before : place ≤ length xs → AllBelow edge xs place → AllFrom edge xs place
      → (place < length xs → number_at xs place ≡ edge.0 → ⊥) → IsBetween edge xs place
  stands_before le below from other = record { in_range = le; below = below; above = above }
    where
      above : AllAbove edge xs place
      above k after high = elim (cases_lt edge.0 (number_at xs k)) [
        | inl less ↦ less
        | inr le ↦
            let within : place < length xs = omega arith in
            let same : number_at xs place ≡ edge.0 = omega (arith, not_falling k after high, from place (omega arith) within, le) in
            absurd (other within same)
      ]

  pub stands_before_other : place ≤ length xs → AllBelow edge xs place → AllFrom edge xs place
      → (found : EdgeId) → slice_get xs place ≡ Some found → (found.0 ≡ edge.0 → ⊥) → IsBetween edge xs place
  stands_before_other le below from found e other =
      stands_before le below from (λ within same. other (sym (number_found found e) ∙ same))

  pub stands_last : place ≤ length xs → AllBelow edge xs place → AllFrom edge xs place → slice_get xs place ≡ None → IsBetween edge xs place
  stands_last le below from e =
      stands_before le below from (λ within same. let some = slice_get-get_or xs place (numbered 0) within in absurd (cc))
