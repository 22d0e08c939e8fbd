-- A 39 stands for exactly the elements whose number of different key values isn't within a key's bounds.
use Rattle.std.proofs.Common.{◌≡◌, ℕ, ◌<◌, Bool, true, false, ◌⊎◌, inl, inr, ⊎_elim, List, [], ◌∷◌, length, Some, None, refl, sym, ◌∙◌, ap, subst, arith, Ordering, Less}
use Rattle.std.specs.Prelude.{Contains, if◌then◌else◌, nat_le}
use Rattle.std.specs.Cmp.{IsTotalOrder}
use Rattle.std.proofs.lemmas.Bool.{and_parts, leb-false, lt-leb}
use Rattle.pgs_base.specs.declared.element.Elem.{Elem}
use Rattle.pgs_base.specs.Graph.{Graph}
use Rattle.pgs_base.specs.Order.{ascends}
use Rattle.pgs_base.specs.OrderLaws.{tuple_cmp_total}
use Rattle.pgs_syntax.specs.declared.resolved.Resolved.{Resolved}
use Rattle.pgs_syntax.specs.KeyValues.{scope_of, key_values}
use Rattle.pgs_syntax.proofs.InOrder.{values_ascend}
use Rattle.pgs_syntax.proofs.Members.{contains_first, contains_later, contains_cases, contains_none, all_above, never_itself, one_least, first_least}
use Rattle.pgs_violation.specs.declared.violation.Violation.{Violation}
use Rattle.pgs_violation.specs.declared.violation.Violation.TheVariants.{CountOutside}
use Rattle.pgs_violation.specs.Meaning.{IsKeyOf, AreSoMany, HasCountOutside}
use Rattle.pgs_violation.specs.Violations.{is_within, violations}
use Rattle.pgs_violation.proofs.InOrder.{untyped_node_says, untyped_edge_says, mandatory_violation_says, two_least_says, first_says}
use Rattle.pgs_violation.proofs.Origins.{Origin, of_node, of_edge, missing, several, shared, counted, origin, listed}

-- ---- lists that ascend and have the same members are one

module _ {X : Type 0} {cmp : X → X → Ordering} (total : IsTotalOrder cmp) where
  one_list : (xs ys : List X) → ascends cmp xs ≡ true → ascends cmp ys ≡ true → ((x : X) → Contains xs x → Contains ys x) →
      ((x : X) → Contains ys x → Contains xs x) → xs ≡ ys
  one_list [] [] p q there back = refl
  one_list [] (y ∷ ys) p q there back = absurd (contains_none y (back y (contains_first y ys)))
  one_list (x ∷ xs) [] p q there back = absurd (contains_none x (there x (contains_first x xs)))
  one_list (x ∷ xs) (y ∷ ys) p q there back =
      let first = first_least total x xs p in
      let one : x ≡ y =
      one_least total x y (record { is = there x first.is; others_after = λ z h. first.others_after z (back z h) }) (first_least total y ys q) in
      let rest : xs ≡ ys =
      one_list xs ys (and_parts _ _ p).1 (and_parts _ _ q).1
      (λ z h. ⊎_elim
      (λ own. absurd (never_itself total x (subst (λ w. cmp x w ≡ Less) (sym own ∙ sym one) (all_above total x xs z (and_parts _ _ p).0 h))))
      (λ later. later) (contains_cases y ys z (there z (contains_later x xs z h))))
      (λ z h. ⊎_elim
      (λ own. absurd (never_itself total y (subst (λ w. cmp y w ≡ Less) (sym own ∙ one) (all_above total y ys z (and_parts _ _ q).0 h))))
      (λ later. later) (contains_cases x xs z (back z (contains_later y ys z h)))) in
      λ i. one i ∷ rest i

-- ---- bounds

unless : (b : Bool) (u v : Violation) → (if b then None else Some u) ≡ Some v → (b ≡ false) × (u ≡ v)
unless true u v e = cc
unless false u v e = (refl, cc)

outside_found : (bounds : ℕ × ℕ) (count : ℕ) → is_within bounds count ≡ false → (count < bounds.0) ⊎ (bounds.1 < count)
outside_found bounds count e = by (nat_le bounds.0 count) refl
  where
    by : (b : Bool) → nat_le bounds.0 count ≡ b → (count < bounds.0) ⊎ (bounds.1 < count)
    by false least = inl (leb-false bounds.0 count least)
    by true least = inr (leb-false count bounds.1 (let within : is_within bounds count ≡ nat_le count bounds.1 = rw least refl in sym within ∙ e))

outside_given : (bounds : ℕ × ℕ) (count : ℕ) → (count < bounds.0) ⊎ (bounds.1 < count) → is_within bounds count ≡ false
outside_given bounds count (inl few) = let least : nat_le bounds.0 count ≡ false = lt-leb bounds.0 count few in rw least refl
outside_given bounds count (inr many) = by (nat_le bounds.0 count) refl
  where
    by : (b : Bool) → nat_le bounds.0 count ≡ b → is_within bounds count ≡ false
    by false least = rw least refl
    by true least = let most : nat_le count bounds.1 ≡ false = lt-leb count bounds.1 many in rw (least, most) refl

-- ---- the violation

module _ (resolved : Resolved) (g : Graph) where
  pub counted_found : (number : ℕ) (elem : Elem) (count least most : ℕ) → Contains (violations resolved g) (CountOutside number elem count least most) →
      HasCountOutside resolved g number elem count least most
  counted_found number elem count least most h = by (origin resolved g (CountOutside number elem count least most) h)
    where
      by : Origin resolved g (CountOutside number elem count least most) → HasCountOutside resolved g number elem count least most
      by (counted n key bounds e is asked there gives) =
          let tuples = key_values resolved g key e in
          let facts =
          unless (is_within bounds (length tuples)) (CountOutside n e (length tuples) bounds.0 bounds.1) (CountOutside number elem count least most) gives in
          let both = facts.1 in
          let numbers : n ≡ number = cc in
          let elems : e ≡ elem = cc in
          let counts : length tuples ≡ count = cc in
          let firsts : bounds.0 ≡ least = cc in
          let seconds : bounds.1 ≡ most = cc in
          let out = outside_found bounds (length tuples) facts.0 in (
            key,
            subst (λ m. IsKeyOf resolved m key) numbers is,
            asked ∙ (λ i. Some (firsts i, seconds i)),
            subst (Contains (scope_of resolved g key)) elems there,
            subst (λ x. AreSoMany (Contains (key_values resolved g key x)) count) elems
                (tuples, values_ascend resolved g key e, λ tuple. (λ own. own, λ own. own), counts),
            ⊎_elim (λ (few : length tuples < bounds.0). inl (omega arith)) (λ (many : bounds.1 < length tuples). inr (omega arith)) out,
          )
      by (of_node own strict there gives) = let n = (untyped_node_says resolved own _ gives).1 in absurd (omega arith)
      by (of_edge own strict there gives) = let n = (untyped_edge_says resolved g own _ gives).1 in absurd (omega arith)
      by (missing n key e is asked there gives) = let m = (mandatory_violation_says n (key_values resolved g key) e _ gives).1 in absurd (omega arith)
      by (several n key e is asked there gives) = let m = (two_least_says n (key_values resolved g key) e _ _ gives).1 in absurd (omega arith)
      by (shared n key e is asked there gives) = let m = (first_says n (key_values resolved g key) e _ _ gives).1 in absurd (omega arith)

  pub counted_given : (number : ℕ) (elem : Elem) (count least most : ℕ) → HasCountOutside resolved g number elem count least most →
      Contains (violations resolved g) (CountOutside number elem count least most)
  counted_given number elem count least most (key, is, asked, there, (tuples, order, same, size), out) =
      let one : key_values resolved g key elem ≡ tuples =
      one_list tuple_cmp_total (key_values resolved g key elem) tuples (values_ascend resolved g key elem) order
      (λ tuple h. (same tuple).1 h) (λ tuple h. (same tuple).0 h) in
      let counts : length (key_values resolved g key elem) ≡ count = ap length one ∙ size in
      listed resolved g (CountOutside number elem count least most) (counted number key (least, most) elem is asked there
      (subst (λ n. (if is_within (least, most) n then None else Some (CountOutside number elem n least most)) ≡ Some (CountOutside number elem count least most))
      (sym counts) (let fails = outside_given (least, most) count out in rw fails refl)))
