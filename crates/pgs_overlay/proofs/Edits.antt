-- What one edit of a list that stands over the base's makes of it.
use Rattle.std.proofs.Common.{◌≡◌, ◌∙◌, ℕ, ◌+◌, ◌≤◌, append_assoc, true, false, List, [], ◌∷◌, ◌++◌, take, drop, sym, true≢false, arith, inl, inr}
use Rattle.std.specs.List.{list_any}
use Rattle.std.specs.List.Sorted.{IsStrictlySortedBy}
use Rattle.std.specs.BTreeMap.{is_at}
use Rattle.std.specs.BTreeSet.{insert_key}
use Rattle.std.specs.Set.{remove_key}
use Rattle.std.proofs.lemmas.Bool.{cases_lt}
use Rattle.pgs_base.specs.declared.element.EdgeId.{EdgeId}
use Rattle.pgs_base.specs.Graph.{edge_cmp}
use Rattle.pgs_tables_edges.proofs.Copied.{IsCopied, copied_without, copied_with}
use Rattle.pgs_tables_edges.specs.Numbers.{IsBetween}
use Rattle.pgs_tables_edges.proofs.Searched.{key_here, key_between}
use Rattle.pgs_overlay.specs.declared.edited_list.EditedList.{EditedList}
use Rattle.pgs_overlay.specs.Edited.{IsEdited}
use Rattle.pgs_overlay.specs.Found.{StandsAt}
use Rattle.pgs_overlay.specs.Parts.{IsBuiltOn, built}

module _ (xs : List EdgeId) (up : IsStrictlySortedBy edge_cmp xs) (edge : EdgeId) (place : ℕ) where
  -- an edge that stands there is in the list, and one that would isn't
  pub not_there : StandsAt edge xs place → list_any (is_at (edge_cmp edge)) xs ≡ false → ⊥
  not_there at absent = true≢false (sym (key_here edge xs place up at.in_range at.here).there ∙ absent)

  pub not_absent : IsBetween edge xs place → list_any (is_at (edge_cmp edge)) xs ≡ true → ⊥
  not_absent gap there = true≢false (sym there ∙ (key_between edge xs place up gap).absent)

  module _ (edited later : List EdgeId) (old : EditedList) (was : IsEdited xs edited (edge ∷ later) old) (rising : IsStrictlySortedBy edge_cmp (edge ∷ later)) where
    pub found_behind : StandsAt edge xs place → old.done ≤ place
    found_behind at = elim (cases_lt place old.done) [
      | inl earlier ↦ absurd (omega (arith, at.here, was.copied.done_below place 0 earlier (omega arith)))
      | inr le ↦ le
    ]

    pub gap_behind : IsBetween edge xs place → old.done ≤ place
    gap_behind gap = elim (cases_lt place old.done) [
      | inl earlier ↦ absurd (omega (arith, gap.above place (omega arith) (omega (arith, was.copied.in_range)), was.copied.done_below place 0 earlier (omega arith)))
      | inr le ↦ le
    ]

    pub taken : (new : EditedList) → StandsAt edge xs place → IsBuiltOn xs (drop old.done (take place xs)) (place + 1) old new
        → IsEdited xs (remove_key (is_at (edge_cmp edge)) edited) later new
    taken new at on =
        record { stands = on.stands; copied = rw (on.done, on.edges) without }
      where
        without : IsCopied xs (place + 1) (built xs old ++ drop old.done (take place xs)) (remove_key (is_at (edge_cmp edge)) edited) later
        without = copied_without xs old.done (built xs old) edited edge later was.copied rising place at.in_range at.here up

    pub put : (new : EditedList) → IsBetween edge xs place → IsBuiltOn xs (drop old.done (take place xs) ++ edge ∷ []) place old new
        → IsEdited xs (insert_key edge_cmp edited edge) later new
    put new gap on =
        record { stands = on.stands; copied = rw (on.done, on.edges, sym (append_assoc (built xs old) (drop old.done (take place xs)) (edge ∷ []))) with_edge }
      where
        with_edge : IsCopied xs place ((built xs old ++ drop old.done (take place xs)) ++ edge ∷ []) (insert_key edge_cmp edited edge) later
        with_edge = copied_with xs old.done (built xs old) edited edge later was.copied rising place (key_between edge xs place up gap)
