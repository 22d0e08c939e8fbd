-- A walk over the labels that are asked for and those that are there: what holds of the labels left, and each step.
use Rattle.std.proofs.Common.{◌≡◌, ℕ, ◌<◌, ◌≤◌, ◌==◌, Bool, true, false, ◌&&◌, ◌||◌, List, [], ◌∷◌, length, get_or, sym, ap, subst, ◌∙◌, arith, Ordering, Less, Equal, Greater}
use Rattle.std.specs.Ordering.{nat_cmp, ordering_reverse}
use Rattle.std.specs.Cmp.Lexicographic.{slice_cmp, nat_list_cmp_total}
use Rattle.std.proofs.lemmas.Bool.{and_parts}
use Rattle.pgs_base.specs.Order.{ascends}
use Rattle.pgs_base.specs.OrderLaws.{exact_name}
use Rattle.pgs_conform.specs.Shapes.{labels_meet}
use Rattle.pgs_conform.proofs.Walks.{label_missing, label_met, label_passed, all_free, or_false, order, before, later, later_is}

-- what has been seen, and what is left
pub record LabelsLeft (asked : List (List ℕ)) (more : Bool) (labels asked_left left : List (List ℕ)) : Type 0 where
  pub asked_ascends : ascends (slice_cmp nat_cmp) asked_left ≡ true
  pub ascend : ascends (slice_cmp nat_cmp) left ≡ true
  pub same : labels_meet asked more labels ≡ labels_meet asked_left more left

turned : (o : Ordering) → o ≡ Greater → ordering_reverse o ≡ Less
turned o e = ap ordering_reverse e

module _ (asked : List (List ℕ)) (more : Bool) (labels : List (List ℕ)) where
  missing_at : (a l : List ℕ) (rest ls : List (List ℕ)) → order a l ≡ Less → LabelsLeft asked more labels (a ∷ rest) (l ∷ ls) →
      false ≡ labels_meet asked more labels
  missing_at a l rest ls less left =
      let parts = and_parts _ _ left.ascend in sym (left.same ∙ label_missing a l rest ls more less parts.0)

  met_at : (a l : List ℕ) (rest ls : List (List ℕ)) → order a l ≡ Equal → LabelsLeft asked more labels (a ∷ rest) (l ∷ ls) →
      LabelsLeft asked more labels rest ls
  met_at a l rest ls equal left =
      let same : a ≡ l = exact_name a l equal in
      let asked_parts = and_parts _ _ left.asked_ascends in
      let parts = and_parts _ _ left.ascend in
      record {
        asked_ascends = asked_parts.1;
        ascend = parts.1;
        same =
            left.same ∙ ap (λ z. labels_meet (a ∷ rest) more (z ∷ ls)) (sym same)
            ∙ label_met a rest ls more asked_parts.0 (subst (λ z. before z ls ≡ true) (sym same) parts.0);
      }

  passed_at : (a l : List ℕ) (rest ls : List (List ℕ)) → order a l ≡ Greater → LabelsLeft asked more labels (a ∷ rest) (l ∷ ls) →
      labels_meet asked more labels ≡ (more && labels_meet (a ∷ rest) more ls)
  passed_at a l rest ls greater left =
      let asked_parts = and_parts _ _ left.asked_ascends in
      left.same ∙ label_passed a l rest ls more (nat_list_cmp_total.antisymm l a ∙ turned (order a l) greater) asked_parts.0

  -- at two lists of which each has a first: the label that is asked for is missing
  pub missing : (xs ys : List (List ℕ)) (x y : List ℕ) → 1 ≤ length xs → 1 ≤ length ys → x ≡ get_or xs 0 x → y ≡ get_or ys 0 y →
      order x y ≡ Less → LabelsLeft asked more labels xs ys → false ≡ labels_meet asked more labels
  missing [] ys x y some_x some_y first_x first_y less left = absurd (omega arith)
  missing (a ∷ rest) [] x y some_x some_y first_x first_y less left = absurd (omega arith)
  missing (a ∷ rest) (l ∷ ls) x y some_x some_y first_x first_y less left =
      missing_at a l rest ls (subst (λ z. order a z ≡ Less) first_y (subst (λ z. order z y ≡ Less) first_x less)) left

  -- the label is the one that is asked for
  pub met : (xs ys : List (List ℕ)) (x y : List ℕ) → 1 ≤ length xs → 1 ≤ length ys → x ≡ get_or xs 0 x → y ≡ get_or ys 0 y →
      order x y ≡ Equal → LabelsLeft asked more labels xs ys → LabelsLeft asked more labels (later xs) (later ys)
  met [] ys x y some_x some_y first_x first_y equal left = absurd (omega arith)
  met (a ∷ rest) [] x y some_x some_y first_x first_y equal left = absurd (omega arith)
  met (a ∷ rest) (l ∷ ls) x y some_x some_y first_x first_y equal left =
      rw (later_is a rest, later_is l ls)
      (met_at a l rest ls (subst (λ z. order a z ≡ Equal) first_y (subst (λ z. order z y ≡ Equal) first_x equal)) left)

  -- the label isn't asked for, and is free
  pub passed : (xs ys : List (List ℕ)) (x y : List ℕ) → 1 ≤ length xs → 1 ≤ length ys → x ≡ get_or xs 0 x → y ≡ get_or ys 0 y →
      order x y ≡ Greater → more ≡ true → LabelsLeft asked more labels xs ys → LabelsLeft asked more labels xs (later ys)
  passed [] ys x y some_x some_y first_x first_y greater free left = absurd (omega arith)
  passed (a ∷ rest) [] x y some_x some_y first_x first_y greater free left = absurd (omega arith)
  passed (a ∷ rest) (l ∷ ls) x y some_x some_y first_x first_y greater free left =
      let step = passed_at a l rest ls (subst (λ z. order a z ≡ Greater) first_y (subst (λ z. order z y ≡ Greater) first_x greater)) left in
      rw (later_is l ls)
      (record {
        asked_ascends = left.asked_ascends;
        ascend = (and_parts _ _ left.ascend).1;
        same = step ∙ ap (λ b. b && labels_meet (a ∷ rest) more ls) free;
      })

  -- the label isn't asked for, and isn't free
  pub refused : (xs ys : List (List ℕ)) (x y : List ℕ) → 1 ≤ length xs → 1 ≤ length ys → x ≡ get_or xs 0 x → y ≡ get_or ys 0 y →
      order x y ≡ Greater → more ≡ false → LabelsLeft asked more labels xs ys → false ≡ labels_meet asked more labels
  refused [] ys x y some_x some_y first_x first_y greater closed left = absurd (omega arith)
  refused (a ∷ rest) [] x y some_x some_y first_x first_y greater closed left = absurd (omega arith)
  refused (a ∷ rest) (l ∷ ls) x y some_x some_y first_x first_y greater closed left =
      let step = passed_at a l rest ls (subst (λ z. order a z ≡ Greater) first_y (subst (λ z. order z y ≡ Greater) first_x greater)) left in
      sym (step ∙ ap (λ b. b && labels_meet (a ∷ rest) more ls) closed)

  -- no label is asked for any more
  pub ended : (xs ys : List (List ℕ)) → length xs < 1 → LabelsLeft asked more labels xs ys →
      labels_meet asked more labels ≡ (more || (length ys == 0))
  ended [] ys none left = left.same ∙ all_free (λ (name : List ℕ). more || false) more (λ name. or_false more) ys
  ended (a ∷ rest) ys none left = absurd (omega arith)
