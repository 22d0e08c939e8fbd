-- The orders of values, elements, parts and tuples are total, and tell different ones apart.
use Rattle.std.proofs.Common.{◌≡◌, Decides, nat_eq, ℕ, ℤ, Bool, true, false, List, [], ◌∷◌, ◌⊎◌, inl, inr, refl, ap, subst, Ordering, Less, Equal, Greater}
use Rattle.std.specs.Ordering.{nat_cmp, int_cmp, bool_cmp, ordering_then, ordering_reverse, on, eq_by_cmp}
use Rattle.std.specs.Cmp.{IsTotalOrder, nat_cmp_total, int_cmp_total, bool_cmp_total, on_total, then_total, Equal-is, eq_by_cmp_equiv}
use Rattle.std.specs.Cmp.Lexicographic.{pointwise, pointwise_decides, bytes_decides, slice_cmp, nat_list_cmp_total, lists_total}
use Rattle.std.proofs.lemmas.Map.Lookups.{CmpEqualImpliesEq, exact_unsigned, exact_signed, exact_bytes, exact_pairs}
use Rattle.pgs_base.specs.declared.element.Elem.{Elem}
use Rattle.pgs_base.specs.declared.element.Elem.TheVariants.{Node, Edge}
use Rattle.pgs_base.specs.declared.part.Part.{Part}
use Rattle.pgs_base.specs.declared.part.Part.TheVariants as parts
use Rattle.pgs_base.specs.declared.value.Value.{Value}
use Rattle.pgs_base.specs.declared.value.Value.TheVariants as values
use Rattle.pgs_base.specs.Order.{day_cmp, value_cmp, elem_cmp, part_cmp, tuple_cmp, props_cmp}

pub day_cmp_total : IsTotalOrder day_cmp
day_cmp_total =
    then_total (on_total (λ (a : ℕ × ℕ × ℕ). a.0) nat_cmp_total)
    (then_total (on_total (λ (a : ℕ × ℕ × ℕ). a.1) nat_cmp_total) (on_total (λ (a : ℕ × ℕ × ℕ). a.2) nat_cmp_total))

-- ---- the first kind before the second, and each by its own order

abbrev sum_cmp : {A B : Type 0} → (A → A → Ordering) → (B → B → Ordering) → A ⊎ B → A ⊎ B → Ordering
sum_cmp R S (inl a) (inl b) = R a b
sum_cmp R S (inl a) (inr b) = Less
sum_cmp R S (inr a) (inl b) = Greater
sum_cmp R S (inr a) (inr b) = S a b

module _ {A B : Type 0} {R : A → A → Ordering} {S : B → B → Ordering} (r : IsTotalOrder R) (s : IsTotalOrder S) where
  sum_antisymm : (x y : A ⊎ B) → sum_cmp R S x y ≡ ordering_reverse (sum_cmp R S y x)
  sum_antisymm (inl a) (inl b) = r.antisymm a b
  sum_antisymm (inl a) (inr b) = refl
  sum_antisymm (inr a) (inl b) = refl
  sum_antisymm (inr a) (inr b) = s.antisymm a b

  sum_trans : (x y z : A ⊎ B) → sum_cmp R S x y ≡ Less → sum_cmp R S y z ≡ Less → sum_cmp R S x z ≡ Less
  sum_trans (inl a) (inl b) (inl c) h k = r.trans a b c h k
  sum_trans (inl a) (inr b) (inl c) h k = cc
  sum_trans (inl a) y (inr c) h k = refl
  sum_trans (inr a) (inl b) z h k = cc
  sum_trans (inr a) (inr b) (inl c) h k = cc
  sum_trans (inr a) (inr b) (inr c) h k = s.trans a b c h k

  sum_congr : (x y z : A ⊎ B) → sum_cmp R S x y ≡ Equal → sum_cmp R S x z ≡ sum_cmp R S y z
  sum_congr (inl a) (inl b) (inl c) h = r.congr a b c h
  sum_congr (inl a) (inl b) (inr c) h = refl
  sum_congr (inl a) (inr b) z h = cc
  sum_congr (inr a) (inl b) z h = cc
  sum_congr (inr a) (inr b) (inl c) h = refl
  sum_congr (inr a) (inr b) (inr c) h = s.congr a b c h

  sum_total : IsTotalOrder (sum_cmp R S)
  sum_total = record { antisymm = sum_antisymm; trans = sum_trans; congr = sum_congr }

-- an order that reads its values as such sums is total too
read_total : {K J : Type 0} {Q : K → K → Ordering} {R : J → J → Ordering} (read : K → J) →
    ((x y : K) → on read R x y ≡ Q x y) → IsTotalOrder R → IsTotalOrder Q
read_total read same r = subst IsTotalOrder (λ i x y. same x y i) (on_total read r)

-- ---- the orders are total

abbrev value_sum : Value → List ℕ ⊎ (ℤ ⊎ (Bool ⊎ (ℕ × ℕ × ℕ)))
value_sum (values.Text a) = inl a
value_sum (values.Int a) = inr (inl a)
value_sum (values.Bool a) = inr (inr (inl a))
value_sum (values.Date a) = inr (inr (inr a))

value_as_sum : (x y : Value) →
    on value_sum (sum_cmp (slice_cmp nat_cmp) (sum_cmp int_cmp (sum_cmp bool_cmp day_cmp))) x y ≡ value_cmp x y
value_as_sum (values.Text a) (values.Text b) = refl
value_as_sum (values.Int a) (values.Int b) = refl
value_as_sum (values.Bool a) (values.Bool b) = refl
value_as_sum (values.Date a) (values.Date b) = refl
value_as_sum x y = refl

pub value_cmp_total : IsTotalOrder value_cmp
value_cmp_total =
    read_total value_sum value_as_sum
    (sum_total nat_list_cmp_total (sum_total int_cmp_total (sum_total bool_cmp_total day_cmp_total)))

abbrev elem_sum : Elem → ℕ ⊎ ℕ
elem_sum (Node a) = inl a.0
elem_sum (Edge a) = inr a.0

elem_as_sum : (x y : Elem) → on elem_sum (sum_cmp nat_cmp nat_cmp) x y ≡ elem_cmp x y
elem_as_sum (Node a) (Node b) = refl
elem_as_sum (Edge a) (Edge b) = refl
elem_as_sum x y = refl

pub elem_cmp_total : IsTotalOrder elem_cmp
elem_cmp_total = read_total elem_sum elem_as_sum (sum_total nat_cmp_total nat_cmp_total)

abbrev part_sum : Part → Value ⊎ Elem
part_sum (parts.Value a) = inl a
part_sum (parts.Elem a) = inr a

part_as_sum : (x y : Part) → on part_sum (sum_cmp value_cmp elem_cmp) x y ≡ part_cmp x y
part_as_sum (parts.Value a) (parts.Value b) = refl
part_as_sum (parts.Elem a) (parts.Elem b) = refl
part_as_sum x y = refl

pub part_cmp_total : IsTotalOrder part_cmp
part_cmp_total = read_total part_sum part_as_sum (sum_total value_cmp_total elem_cmp_total)

pub tuple_cmp_total : IsTotalOrder tuple_cmp
tuple_cmp_total = lists_total part_cmp_total

pub props_cmp_total : IsTotalOrder props_cmp
props_cmp_total =
    lists_total (then_total (on_total (λ (row : List ℕ × Value). row.0) nat_list_cmp_total)
    (on_total (λ (row : List ℕ × Value). row.1) value_cmp_total))

-- ---- what compares `Equal` is equal

-- both of two comparisons, one after the other, are `Equal` where they together are
pub both_Equal : (a b : Ordering) → ordering_then a b ≡ Equal → (a ≡ Equal) × (b ≡ Equal)
both_Equal Less b h = cc
both_Equal Equal b h = (refl, h)
both_Equal Greater b h = cc

pub exact_bool : (x y : Bool) → bool_cmp x y ≡ Equal → x ≡ y
exact_bool true true h = refl
exact_bool false false h = refl
exact_bool x y h = cc

pub exact_day : CmpEqualImpliesEq day_cmp
exact_day x y h =
    let year = both_Equal _ _ h in
    let month = both_Equal _ _ year.1 in
    λ i. (exact_unsigned x.0 y.0 year.0 i, exact_unsigned x.1 y.1 month.0 i, exact_unsigned x.2 y.2 month.1 i)

-- values that compare `Equal` are equal
pub exact_value : CmpEqualImpliesEq value_cmp
exact_value (values.Text a) (values.Text b) h = ap values.Text (exact_bytes a b h)
exact_value (values.Int a) (values.Int b) h = ap values.Int (exact_signed a b h)
exact_value (values.Bool a) (values.Bool b) h = ap values.Bool (exact_bool a b h)
exact_value (values.Date a) (values.Date b) h = ap values.Date (exact_day a b h)
exact_value x y h = cc

pub exact_elem : CmpEqualImpliesEq elem_cmp
exact_elem (Node a) (Node b) h = ap (λ n. Node (record { 0 = n })) (exact_unsigned a.0 b.0 h)
exact_elem (Edge a) (Edge b) h = ap (λ n. Edge (record { 0 = n })) (exact_unsigned a.0 b.0 h)
exact_elem x y h = cc

-- so are parts
pub exact_part : CmpEqualImpliesEq part_cmp
exact_part (parts.Value a) (parts.Value b) h = ap parts.Value (exact_value a b h)
exact_part (parts.Elem a) (parts.Elem b) h = ap parts.Elem (exact_elem a b h)
exact_part x y h = cc

exact_lists : {A : Type 0} {R : A → A → Ordering} → CmpEqualImpliesEq R → CmpEqualImpliesEq (slice_cmp R)
exact_lists exact [] [] h = refl
exact_lists {R = R} exact (x ∷ xs) (y ∷ ys) h =
    let both = both_Equal (R x y) (slice_cmp R xs ys) h in
    λ i. exact x y both.0 i ∷ exact_lists exact xs ys both.1 i
exact_lists exact xs ys h = cc

-- tuples
pub exact_tuple : CmpEqualImpliesEq tuple_cmp
exact_tuple = exact_lists exact_part

-- properties
pub exact_props : CmpEqualImpliesEq props_cmp
exact_props = exact_lists (exact_pairs (slice_cmp nat_cmp) value_cmp exact_bytes exact_value)

-- and names
pub exact_name : CmpEqualImpliesEq (slice_cmp nat_cmp)
exact_name = exact_bytes

-- ---- so `==`, where it goes by the order, holds exactly of equal values

same_decides : {K : Type 0} {R : K → K → Ordering} → IsTotalOrder R → CmpEqualImpliesEq R → (x y : K) → Decides (eq_by_cmp R x y) (x ≡ y)
same_decides {R = R} total exact x y =
    (λ t. exact x y ((Equal-is (R x y)).0 t), λ e. subst (λ z. eq_by_cmp R x z ≡ true) e ((eq_by_cmp_equiv total).refl x))

pub part_eq_decides : (x y : Part) → Decides (eq_by_cmp part_cmp x y) (x ≡ y)
part_eq_decides = same_decides part_cmp_total exact_part

pub tuple_eq_decides : (x y : List Part) → Decides (eq_by_cmp tuple_cmp x y) (x ≡ y)
tuple_eq_decides = same_decides tuple_cmp_total exact_tuple

pub props_eq_decides : (xs ys : List (List ℕ × Value)) → Decides (eq_by_cmp props_cmp xs ys) (xs ≡ ys)
props_eq_decides = same_decides props_cmp_total exact_props

-- of labels, whose `==` goes name by name
pub labels_eq_decides : (xs ys : List (List ℕ)) → Decides (pointwise (pointwise nat_eq) xs ys) (xs ≡ ys)
labels_eq_decides = pointwise_decides bytes_decides
