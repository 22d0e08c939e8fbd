-- How long names and texts are, and that all of what has no size of its own is small.
use Rattle.std.proofs.Common.{◌≡◌, ℕ, ◌<◌, ◌≤◌, Bool, true, ◌&&◌, List, [], ◌∷◌, length, refl, arith}
use Rattle.std.specs.Prelude.{leb}
use Rattle.std.specs.List.{list_all}
use Rattle.std.specs.Str.{IsUtf8}
use Rattle.std.proofs.lemmas.Bool.{leb-true, le-leb, and_parts, and_from}
use Rattle.std.proofs.lemmas.Str.{is_utf8-from_IsUtf8}
use Rattle.std.specs.declared.cmp.Ordering.{Ordering}
use Rattle.std.specs.List.Sorted.{IsStrictlySortedBy}
use Rattle.pgs_base.specs.Order.{ascends}
use Rattle.pgs_base.specs.Name.{is_name, is_name_start, is_name_byte}
use Rattle.pgs_base.specs.Value.{is_text}
use Rattle.pgs_base.proofs.Ascending.{ascends_decides}

pub name_length : (name : List ℕ) → is_name name ≡ true → length name ≤ 64
name_length [] e = absurd cc
name_length (b ∷ bs) e =
    let short : length bs ≤ 63 = leb-true (length bs) 63 (and_parts (is_name_start b && list_all is_name_byte bs) (leb (length bs) 63) e).1 in
    omega arith

pub text_fits : (text : List ℕ) → IsUtf8 text → length text ≤ 65535 → is_text text ≡ true
text_fits text utf8 short = and_from _ _ (is_utf8-from_IsUtf8 text utf8) (le-leb (length text) 65535 short)

pub all_so : {A : Type 0} (test : A → Bool) (xs : List A) → ((x : A) → test x ≡ true) → list_all test xs ≡ true
all_so test [] so = refl
all_so test (x ∷ xs) so = and_from (test x) (list_all test xs) (so x) (all_so test xs so)

-- ---- order

pub sorted_from_test : {K : Type 0} (cmp : K → K → Ordering) (ks : List K) → ascends cmp ks ≡ true → IsStrictlySortedBy cmp ks
sorted_from_test cmp ks = (ascends_decides cmp ks).0

pub test_from_sorted : {K : Type 0} (cmp : K → K → Ordering) (ks : List K) → IsStrictlySortedBy cmp ks → ascends cmp ks ≡ true
test_from_sorted cmp ks = (ascends_decides cmp ks).1

-- ---- names are small

pub names_small : (names : List (List ℕ)) → list_all (λ _. true) names ≡ true
names_small names = all_so (λ _. true) names (λ x. refl)

-- a count is at most the limit of its bytes
pub count_fits : (n limit : ℕ) → n < limit → leb n limit ≡ true
count_fits n limit lt = le-leb n limit (omega arith)
