-- Which bytes a new store isn't made over.
use Rattle.std.specs.Prelude.{ℕ, Bool, false, not, ◌&&◌, ◌||◌, ◌==◌, List, [], ◌∷◌, ◌++◌, nat_lt, codes}
use Rattle.std.specs.List.{starts_with}

-- Each head has behind its gate the word of its format, and then the epoch, of which the first five bytes are 00.
abbrev pub behind_gate : List ℕ → List ℕ
behind_gate word = word ++ 0 ∷ 0 ∷ 0 ∷ 0 ∷ 0 ∷ []

-- bytes behind a gate are those with which a head goes on, or the first of them
abbrev pub goes_on : List ℕ → Bool
goes_on bytes = starts_with ◌==◌ (behind_gate (codes "PGSGRD1")) bytes || starts_with ◌==◌ (behind_gate (codes "PGSGRD2")) bytes

-- Of a file of so many bytes the first ones, at most 13, are something else's: there are at least two, the first isn't 00, and behind it a
-- head doesn't go on. One of at least 17 bytes that begins with 01 is left to the store, which tells another program's.
abbrev pub is_of_others : ℕ → List ℕ → Bool
is_of_others len [] = false
is_of_others len (first ∷ []) = false
is_of_others len (first ∷ second ∷ more) = nat_lt 0 first && not (first == 1 && nat_lt 16 len) && not (goes_on (second ∷ more))
