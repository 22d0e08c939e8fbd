-- Ids that are put in or taken out in ascending order, while the list is copied once from its start to its end.
use Rattle.std.proofs.Common.{◌≡◌, ℕ, zero, suc, ◌+◌, ◌-◌, ◌<◌, ◌≤◌, List, [], ◌∷◌, ◌++◌, length, take, drop, insert, refl, sym, ap, subst, ◌∙◌, inl, inr, arith, length-append, length-drop, length-take, append_assoc}
use Rattle.pgs_base.specs.Graph.{edge_cmp}
use Rattle.std.specs.List.Sorted.{IsStrictlySortedBy}
use Rattle.std.specs.BTreeMap.{is_at}
use Rattle.std.specs.BTreeSet.{insert_key}
use Rattle.std.specs.Set.{remove_key}
use Rattle.std.proofs.lemmas.Bool.{cases_lt}
use Rattle.std.proofs.lemmas.List.{get_or_append_left, get_or_at, get_or-append-add, get_or-drop, get_or-take, drop-take, drop-drop}
use Rattle.std.proofs.lemmas.List.Edits.{length-insert, get_or-insert_below, get_or-insert_at, get_or-insert_above}
use Rattle.std.proofs.Math.Seq.{take-append-add, drop-append-add}
use Rattle.pgs_base.specs.Places.{IsKeyAt, IsKeyGap}
use Rattle.pgs_base.specs.declared.element.EdgeId.{EdgeId}
use Rattle.pgs_tables_edges.specs.Numbers.{numbered, number_at}
use Rattle.pgs_tables_edges.proofs.Searched.{numbers_same, ascends, key_here, key_between}

-- the list xs, edited, is what is built and what xs has from a place on; all that comes before is below the ids still to come
pub record IsCopied (xs : List EdgeId) (done : ℕ) (built edited later : List EdgeId) : Type 0 where
  pub in_range : done ≤ length xs
  pub edited_is : edited ≡ built ++ drop done xs
  pub built_below : (k j : ℕ) → k < length built → j < length later → number_at built k < number_at later j
  pub done_below : (k j : ℕ) → k < done → j < length later → number_at xs k < number_at later j
  pub ascending : IsStrictlySortedBy edge_cmp edited

-- what stands round a gap
gap_below : (id : EdgeId) (xs : List EdgeId) (p : ℕ) → IsKeyGap edge_cmp id xs p → (k : ℕ) → k < p → number_at xs k < id.0
gap_below id xs p g k low =
    let rises = ascends (insert xs p id) k p g.ascends low (omega (arith, length-insert xs p id g.in_range, g.in_range)) in
    omega (arith, rises, numbers_same (get_or-insert_below xs p id (numbered 0) k low g.in_range), numbers_same (get_or-insert_at xs p id (numbered 0) g.in_range))

gap_above : (id : EdgeId) (xs : List EdgeId) (p : ℕ) → IsKeyGap edge_cmp id xs p → (k : ℕ) → p ≤ k → k < length xs → id.0 < number_at xs k
gap_above id xs p g k low high =
    let rises = ascends (insert xs p id) p (k + 1) g.ascends (omega arith) (omega (arith, length-insert xs p id g.in_range)) in
    omega (arith, rises, numbers_same (get_or-insert_above xs p id (numbered 0) k low g.in_range), numbers_same (get_or-insert_at xs p id (numbered 0) g.in_range))

module _ (xs : List EdgeId) (done : ℕ) (built edited : List EdgeId) (id : EdgeId) (rest : List EdgeId) (copied : IsCopied xs done built edited (id ∷ rest)) (rising : IsStrictlySortedBy edge_cmp (id ∷ rest)) where
  item_moved : (p : ℕ) → done ≤ p → number_at edited (length built + (p - done)) ≡ number_at xs p
  item_moved p le =
      let plus : done + (p - done) ≡ p = omega arith in
      ap (λ l. number_at l (length built + (p - done))) copied.edited_is ∙ numbers_same (get_or-append-add built (drop done xs) (p - done) (numbered 0)) ∙ numbers_same (get_or-drop done xs (p - done) (numbered 0)) ∙ ap (number_at xs) plus

  item_built : (k : ℕ) → k < length built → number_at edited k ≡ number_at built k
  item_built k low = ap (λ l. number_at l k) copied.edited_is ∙ numbers_same (get_or_append_left built (drop done xs) (numbered 0) k low)

  item_rest : (k : ℕ) → length built ≤ k → number_at edited k ≡ number_at xs (done + (k - length built))
  item_rest k le =
      let plus : k ≡ length built + ((done + (k - length built)) - done) = omega arith in
      ap (number_at edited) plus ∙ item_moved (done + (k - length built)) (omega arith)

  front_is : (p : ℕ) → done ≤ p → take (length built + (p - done)) edited ≡ built ++ drop done (take p xs)
  front_is p le =
      let plus : done + (p - done) ≡ p = omega arith in
      ap (take (length built + (p - done))) copied.edited_is ∙ take-append-add built (drop done xs) (p - done) ∙ ap (λ l. built ++ l) (sym (drop-take done (p - done) xs) ∙ ap (λ n. drop done (take n xs)) plus)

  back_is : (p m : ℕ) → done + m ≡ p → drop (length built + m) edited ≡ drop p xs
  back_is p m plus =
      ap (drop (length built + m)) copied.edited_is ∙ drop-append-add built (drop done xs) m ∙ drop-drop m done xs ∙ ap (λ n. drop n xs) plus

  length-front : (p : ℕ) → done ≤ p → p ≤ length xs → length (built ++ drop done (take p xs)) ≡ length built + (p - done)
  length-front p le within = omega (arith, length-append built (drop done (take p xs)), length-drop done (take p xs), length-take p xs)

  item_front : (p k : ℕ) → done ≤ p → k < length built + (p - done) → number_at (built ++ drop done (take p xs)) k ≡ number_at edited k
  item_front p k le low = ap (λ l. number_at l k) (sym (front_is p le)) ∙ numbers_same (get_or-take (length built + (p - done)) edited k (numbered 0) low)

  length-edited : length edited ≡ length built + (length xs - done)
  length-edited = omega (arith, ap length copied.edited_is, length-append built (drop done xs), length-drop done xs)

  -- the id is below those after it
  id_below : (j : ℕ) → j < length rest → id.0 < number_at rest j
  id_below j lt = ascends (id ∷ rest) 0 (suc j) rising (omega arith) (omega arith)

  module _ (p : ℕ) (lt : p < length xs) (here : number_at xs p ≡ id.0) where
    at_done : done ≤ p
    at_done = elim (cases_lt p done) [ inl earlier ↦ absurd (omega (arith, here, copied.done_below p 0 earlier (omega arith))) | inr le ↦ le ]

    key_moved : IsKeyAt edge_cmp id edited (length built + (p - done))
    key_moved = key_here id edited (length built + (p - done)) copied.ascending (omega (arith, at_done, length-edited)) (item_moved p at_done ∙ here)

    -- an id put in that is there
    pub copied_there : IsCopied xs done built (insert_key edge_cmp edited id) rest
    copied_there = record {
      in_range = copied.in_range;
      edited_is = key_moved.inserts ∙ copied.edited_is;
      built_below = λ k j low high. copied.built_below k (suc j) low (omega arith);
      done_below = λ k j low high. copied.done_below k (suc j) low (omega arith);
      ascending = subst (IsStrictlySortedBy edge_cmp) (sym key_moved.inserts) copied.ascending;
    }

    -- an id taken out that is there
    pub copied_without : IsStrictlySortedBy edge_cmp xs → IsCopied xs (p + 1) (built ++ drop done (take p xs)) (remove_key (is_at (edge_cmp id)) edited) rest
    copied_without up = record {
      in_range = omega arith;
      edited_is = sym key_moved.removes ∙ ap (λ l. l ++ drop (suc (length built + (p - done))) edited) (front_is p at_done) ∙ ap (λ l. (built ++ drop done (take p xs)) ++ l) after;
      built_below = λ k j low high. omega (arith, before k (omega (arith, length-front p at_done (omega arith), low)), id_below j high);
      done_below = λ k j low high. omega (arith, upto k (omega arith), id_below j high);
      ascending = subst (IsStrictlySortedBy edge_cmp) key_moved.removes key_moved.ascends;
    }
      where
        after : drop (suc (length built + (p - done))) edited ≡ drop (p + 1) xs
        after =
            let plus : suc (length built + (p - done)) ≡ length built + suc (p - done) = omega arith in
            ap (λ n. drop n edited) plus ∙ back_is (p + 1) (suc (p - done)) (omega (arith, at_done))

        before : (k : ℕ) → k < length built + (p - done) → number_at (built ++ drop done (take p xs)) k < id.0
        before k low =
            omega (arith, item_front p k at_done low, ascends edited k (length built + (p - done)) copied.ascending low (omega (arith, at_done, length-edited)), item_moved p at_done, here)

        upto : (k : ℕ) → k ≤ p → number_at xs k ≤ id.0
        upto k le = elim (cases_lt k p) [ inl earlier ↦ omega (arith, ascends xs k p up earlier lt, here) | inr same ↦ let e : k ≡ p = omega arith in rw e (omega (arith, here)) ]

  module _ (p : ℕ) (g : IsKeyGap edge_cmp id xs p) where
    gap_done : done ≤ p
    gap_done = elim (cases_lt p done) [ inl earlier ↦ absurd (omega (arith, gap_above id xs p g p (omega arith) (omega (arith, copied.in_range)), copied.done_below p 0 earlier (omega arith))) | inr le ↦ le ]

    below_gap : (k : ℕ) → k < length built + (p - done) → number_at edited k < id.0
    below_gap k low =
        elim (cases_lt k (length built)) [
          | inl earlier ↦ omega (arith, item_built k earlier, copied.built_below k 0 earlier (omega arith))
          | inr later ↦ omega (arith, item_rest k later, gap_below id xs p g (done + (k - length built)) (omega arith))
        ]

    above_gap : (k : ℕ) → length built + (p - done) ≤ k → k < length edited → id.0 < number_at edited k
    above_gap k low high =
        omega (arith, item_rest k (omega arith), gap_above id xs p g (done + (k - length built)) (omega (arith, gap_done)) (omega (arith, length-edited, copied.in_range)))

    gap_moved : IsKeyGap edge_cmp id edited (length built + (p - done))
    gap_moved =
        key_between id edited (length built + (p - done)) copied.ascending
        (record { in_range = omega (arith, gap_done, length-edited, g.in_range); below = below_gap; above = above_gap })

    -- an id put in that is not there
    pub copied_with : IsCopied xs p ((built ++ drop done (take p xs)) ++ id ∷ []) (insert_key edge_cmp edited id) rest
    copied_with = record {
      in_range = g.in_range;
      edited_is = sym gap_moved.inserts ∙ ap (λ l. l ++ id ∷ drop (length built + (p - done)) edited) (front_is p gap_done) ∙ ap (λ l. (built ++ drop done (take p xs)) ++ id ∷ l) (back_is p (p - done) (omega (arith, gap_done))) ∙ sym (append_assoc (built ++ drop done (take p xs)) (id ∷ []) (drop p xs));
      built_below = λ k j low high. omega (arith, upto k (omega (arith, low, length-append (built ++ drop done (take p xs)) (id ∷ []), length-front p gap_done g.in_range)), id_below j high);
      done_below = λ k j low high. omega (arith, gap_below id xs p g k low, id_below j high);
      ascending = subst (IsStrictlySortedBy edge_cmp) gap_moved.inserts gap_moved.ascends;
    }
      where
        upto : (k : ℕ) → k ≤ length built + (p - done) → number_at ((built ++ drop done (take p xs)) ++ id ∷ []) k ≤ id.0
        upto k le =
            let front = length-front p gap_done g.in_range in
            elim (cases_lt k (length built + (p - done))) [
              | inl earlier ↦ omega (arith, numbers_same (get_or_append_left (built ++ drop done (take p xs)) (id ∷ []) (numbered 0) k (omega (arith, front))), item_front p k gap_done earlier, below_gap k earlier)
              | inr same ↦ omega (arith, numbers_same (get_or_at (built ++ drop done (take p xs)) id [] (numbered 0) k (omega (arith, front))))
            ]

    -- an id taken out that is not there
    pub copied_absent : IsCopied xs done built (remove_key (is_at (edge_cmp id)) edited) rest
    copied_absent = record {
      in_range = copied.in_range;
      edited_is = gap_moved.removes ∙ copied.edited_is;
      built_below = λ k j low high. copied.built_below k (suc j) low (omega arith);
      done_below = λ k j low high. copied.done_below k (suc j) low (omega arith);
      ascending = subst (IsStrictlySortedBy edge_cmp) (sym gap_moved.removes) copied.ascending;
    }

-- the start and the end of a copy
pub copied_none : (xs ids : List EdgeId) → IsStrictlySortedBy edge_cmp xs → IsCopied xs 0 [] xs ids
copied_none xs ids up = record {
  in_range = omega arith;
  edited_is = refl;
  built_below = λ k j low high. absurd (omega arith);
  done_below = λ k j low high. absurd (omega arith);
  ascending = up;
}

pub ascending-drop : (i : ℕ) (xs : List EdgeId) → IsStrictlySortedBy edge_cmp xs → IsStrictlySortedBy edge_cmp (drop i xs)
unfolding IsStrictlySortedBy
ascending-drop zero xs s = s
ascending-drop (suc i) [] s = tt
ascending-drop (suc i) (x ∷ xs) s = ascending-drop i xs s.1
