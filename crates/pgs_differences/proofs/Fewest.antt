-- Where there are candidates one is told: one of them has the fewest differences of its own labels.
use Rattle.std.proofs.Common.{◌≡◌, ℕ, ◌≤◌, Bool, true, false, List, [], ◌∷◌, take, filter, count_by, nat_le, refl, arith}
use Rattle.std.specs.List.{Contains, list_all}
use Rattle.std.proofs.lemmas.Bool.{and_from, and_parts, leb-true, leb-false, le-leb, or_right}
use Rattle.pgs_syntax.specs.Join.{is_empty}
use Rattle.pgs_differences.specs.declared.near_type.NearType.{NearType}
use Rattle.pgs_differences.specs.Nearest.{is_of_label, goes_before, by_measure, has_fitting_ends, is_eligible, nearest}
use Rattle.pgs_differences.proofs.Among.{among_none, first, later}
use Rattle.pgs_differences.proofs.Nearer.{orders}
use Rattle.pgs_differences.proofs.Sorted.{in_order_has, kept_has}

module _ {X : Type 0} (f : X → ℕ) where
  abbrev all_above : ℕ → List X → Bool
  all_above n xs = list_all (λ x. nat_le n (f x)) xs

  above_less : (m n : ℕ) (xs : List X) → m ≤ n → all_above n xs ≡ true → all_above m xs ≡ true
  above_less m n [] low h = refl
  above_less m n (x ∷ xs) low h =
      let parts = and_parts (nat_le n (f x)) (all_above n xs) h in
      let above = leb-true n (f x) parts.0 in
      and_from (nat_le m (f x)) (all_above m xs) (le-leb m (f x) (omega arith)) (above_less m n xs low parts.1)

  record Least (xs : List X) : Type 0 where
    one : X
    among : Contains xs one
    least : all_above (f one) xs ≡ true

  least_of : (x : X) (xs : List X) → Least (x ∷ xs)
  least_of x [] = record { one = x; among = first x []; least = and_from _ true (le-leb (f x) (f x) (omega arith)) refl }
  least_of x (y ∷ ys) = by (least_of y ys)
    where
      lesser : (rest : Least (y ∷ ys)) (b : Bool) → nat_le (f x) (f rest.one) ≡ b → Least (x ∷ y ∷ ys)
      lesser rest true e = record {
        one = x;
        among = first x (y ∷ ys);
        least = and_from (nat_le (f x) (f x)) (all_above (f x) (y ∷ ys)) (le-leb (f x) (f x) (omega arith))
            (above_less (f x) (f rest.one) (y ∷ ys) (leb-true (f x) (f rest.one) e) rest.least);
      }
      lesser rest false e =
          let above = leb-false (f x) (f rest.one) e in
          record {
            one = rest.one;
            among = later x rest.one (y ∷ ys) rest.among;
            least = and_from (nat_le (f rest.one) (f x)) (all_above (f rest.one) (y ∷ ys)) (le-leb (f rest.one) (f x) (omega arith)) rest.least;
          }

      by : Least (y ∷ ys) → Least (x ∷ y ∷ ys)
      by rest = lesser rest (nat_le (f x) (f rest.one)) refl

some_first : {X : Type 0} (xs : List X) (x : X) → Contains xs x → is_empty (take 3 xs) ≡ false
some_first [] x h = among_none x h
some_first (y ∷ ys) x h = refl

abbrev own_labels : NearType → ℕ
own_labels near = count_by is_of_label near.own

pub one_told : (near : NearType) (nears : List NearType) → is_empty (nearest (near ∷ nears)) ≡ false
unfolding nearest
one_told near nears =
    let all = near ∷ nears in
    let least = least_of own_labels near nears in
    let passes = or_right (has_fitting_ends least.one) (list_all (λ other. nat_le (own_labels least.one) (own_labels other)) all) least.least in
    some_first (by_measure (filter (is_eligible all) all)) least.one
    (in_order_has goes_before orders (filter (is_eligible all) all) least.one (kept_has (is_eligible all) all least.one least.among passes))
