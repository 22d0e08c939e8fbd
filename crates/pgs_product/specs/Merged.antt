-- Two lists of names that ascend, as one; and two lists of keys, with what may stand at each key of a join.
use Rattle.std.specs.Prelude.{ℕ, List, [], ◌∷◌, map}
use Rattle.std.specs.Ordering.{nat_cmp, match_ordering}
use Rattle.std.specs.Cmp.Lexicographic.{slice_cmp}
use Rattle.pgs_conform.specs.declared.options.Options.{Options}
use Rattle.pgs_conform.specs.JoinedOptions.{joined_options}

-- keys with what may stand at each
abbrev pub Keys : Type 0
Keys = List (List ℕ × Options)

-- a name before others that follow, each in its place among names
abbrev pub united_with : List ℕ → (List (List ℕ) → List (List ℕ)) → List (List ℕ) → List (List ℕ)
united_with x rest [] = x ∷ rest []
united_with x rest (y ∷ ys) =
    match_ordering (slice_cmp nat_cmp x y) (x ∷ rest (y ∷ ys)) (x ∷ rest ys) (y ∷ united_with x rest ys)

abbrev pub united : List (List ℕ) → List (List ℕ) → List (List ℕ)
united [] ys = ys
united (x ∷ xs) ys = united_with x (united xs) ys

-- What may stand at a key of a join that only the first names, where what may stand there in the second is given; at one that
-- only the second names; and at one that both name.
abbrev pub of_first : Options → List ℕ × Options → List ℕ × Options
of_first second_free x = (x.0, joined_options x.1 second_free)

abbrev pub of_second : Options → List ℕ × Options → List ℕ × Options
of_second first_free y = (y.0, joined_options first_free y.1)

abbrev pub of_both : List ℕ × Options → List ℕ × Options → List ℕ × Options
of_both x y = (x.0, joined_options x.1 y.1)

-- the keys of a join
module _ (first_free second_free : Options) where
  abbrev pub merged_with : List ℕ × Options → (Keys → Keys) → Keys → Keys
  merged_with x rest [] = of_first second_free x ∷ rest []
  merged_with x rest (y ∷ ys) =
      match_ordering (slice_cmp nat_cmp x.0 y.0) (of_first second_free x ∷ rest (y ∷ ys)) (of_both x y ∷ rest ys)
      (of_second first_free y ∷ merged_with x rest ys)

  abbrev pub merged : Keys → Keys → Keys
  merged [] ys = map (of_second first_free) ys
  merged (x ∷ xs) ys = merged_with x (merged xs) ys
