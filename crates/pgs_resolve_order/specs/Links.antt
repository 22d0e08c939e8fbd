-- Names that lead to names, by the numbers of their places.
use Rattle.std.specs.Prelude.{◌≡◌, ℕ, zero, suc, Bool, true, false, ◌||◌, ◌==◌, List, [], length, Some, None, map, filter_map, nat_le, slice_index_or, ◌<◌, Option, MatchOption, unwrap_or}
use Rattle.std.specs.Option.{option_map_or}
use Rattle.pgs_resolve_declared.specs.Refused.{lesser}
use Rattle.std.specs.List.{list_any, list_all, position}
use Rattle.std.specs.Ordering.{nat_cmp, is_lt}
use Rattle.std.specs.Cmp.Lexicographic.{slice_cmp}
use Rattle.pgs_base.specs.Pair.{same_name, has_name}
use Rattle.pgs_resolve_declared.specs.Order.{number_in}

-- whether rows are, for each of some names, the numbers of those among them that it leads to; no other name leads anywhere
pub record AreLinks (next : List ℕ → List (List ℕ)) (names rows : List (List ℕ)) : Type 0 where
  pub closed : (name : List ℕ) → has_name name names ≡ false → next name ≡ []
  pub rows_are : rows ≡ map (λ name. filter_map (number_in names) (next name)) names

abbrev pub row_at : List (List ℕ) → ℕ → List ℕ
row_at rows number = slice_index_or rows number []

-- whether one number leads to another in at most so many steps, one or more
abbrev pub leads_in : List (List ℕ) → ℕ → ℕ → ℕ → Bool
leads_in rows zero from to = false
leads_in rows (suc steps) from to = list_any (λ number. number == to || leads_in rows steps number to) (row_at rows from)

-- whether a number leads back to itself
abbrev pub leads_back : List (List ℕ) → ℕ → Bool
leads_back rows number = leads_in rows (length rows) number number

-- that some number leads back to itself, and whether such a number was found
abbrev pub SomeBack : List (List ℕ) → Type 0
SomeBack rows = (number : ℕ) × (leads_back rows number ≡ true)

abbrev pub IsSomeBack : List (List ℕ) → Option ℕ → Type 0
IsSomeBack rows found = MatchOption found ((number : ℕ) → leads_back rows number ≡ false) (λ number. leads_back rows number ≡ true)

-- whether a number is that of the first place of its name
abbrev pub IsFirst : List (List ℕ) → ℕ → Type 0
IsFirst names number = position (same_name (slice_index_or names number [])) names ≡ Some number

-- whether the name of one number is before that of another
abbrev pub is_before : List (List ℕ) → ℕ → ℕ → Bool
is_before names a b = is_lt (slice_cmp nat_cmp (slice_index_or names a []) (slice_index_or names b []))

-- whether ranks never fall along a link from a number, and whether they stay along one
abbrev pub rank_of : List ℕ → ℕ → ℕ
rank_of ranks number = slice_index_or ranks number 0

abbrev pub never_falls : List (List ℕ) → List ℕ → ℕ → Bool
never_falls rows ranks number = list_all (λ other. nat_le (rank_of ranks number) (rank_of ranks other)) (row_at rows number)

abbrev pub stays : List (List ℕ) → List ℕ → ℕ → Bool
stays rows ranks number = list_any (λ other. rank_of ranks other == rank_of ranks number) (row_at rows number)

-- whether a flag is set
abbrev pub is_set : List Bool → ℕ → Bool
is_set flags number = slice_index_or flags number false

-- whether a number is that of the least name of those below a bound whose flags are set
abbrev pub IsLeastSet : List (List ℕ) → List Bool → ℕ → Option ℕ → Type 0
IsLeastSet names flags bound found = MatchOption found
    ((number : ℕ) → number < bound → is_set flags number ≡ false)
    (λ least. (least < bound) × (is_set flags least ≡ true) ×
    ((number : ℕ) → number < bound → is_set flags number ≡ true → is_before names number least ≡ false))

-- the number of the first place of the name of a number
abbrev pub first_of : List (List ℕ) → ℕ → ℕ
first_of names number = unwrap_or (position (same_name (slice_index_or names number [])) names) number

-- whether a number is that of the least name that leads back to itself
abbrev pub IsLeastBack : List (List ℕ) → List (List ℕ) → Option ℕ → Type 0
IsLeastBack names rows found = MatchOption found
    ((number : ℕ) → IsFirst names number → leads_back rows number ≡ false)
    (λ least. IsFirst names least × (leads_back rows least ≡ true) ×
    ((number : ℕ) → IsFirst names number → leads_back rows number ≡ true → is_before names number least ≡ false))

-- the lesser of two names, where there are two
abbrev pub lesser_of : Option (List ℕ) → Option (List ℕ) → Option (List ℕ)
lesser_of None other = other
lesser_of (Some a) other = Some (option_map_or (lesser a) other a)
