-- The candidates of some types, and of one more.
use Rattle.std.proofs.Common.{◌≡◌, ℕ, ◌+◌, ◌<◌, List, [], ◌∷◌, ◌++◌, length, take, get_or, flat_map, refl, sym, ap, ◌∙◌, subst}
use Rattle.std.specs.List.{AllZip}
use Rattle.std.proofs.lemmas.List.{take_more}
use Rattle.std.proofs.lemmas.List.Concat.{flat_map-append}
use Rattle.pgs_syntax.specs.declared.resolved.TypeNo.{TypeNo}
use Rattle.pgs_differences.specs.declared.near_type.NearType.{NearType}
use Rattle.pgs_differences.specs.Nearest.{Candidates}

zip_more : {A B : Type 0} (R : A → B → Type 0) (xs : List A) (ys : List B) (x : A) (y : B) → AllZip R xs ys → R x y →
    AllZip R (xs ++ x ∷ []) (ys ++ y ∷ [])
zip_more R [] [] x y h own = (own, tt)
zip_more R [] (z ∷ ys) x y h own = absurd h
zip_more R (w ∷ xs) [] x y h own = absurd h
zip_more R (w ∷ xs) (z ∷ ys) x y h own = (h.0, zip_more R xs ys x y h.1 own)

append_none : {A : Type 0} (xs : List A) → xs ++ [] ≡ xs
append_none [] = refl
append_none (x ∷ xs) = ap (λ zs. x ∷ zs) (append_none xs)

pub candidates_more : (R : TypeNo → List NearType → Type 0) (types : List TypeNo) (i : ℕ) (d : TypeNo) (nears found all : List NearType) →
    i < length types → Candidates R (take i types) nears → R (get_or types i d) found → all ≡ nears ++ found →
    Candidates R (take (i + 1) types) all
candidates_more R types i d nears found all low h own e = (
  h.0 ++ found ∷ [],
  subst (λ ts. AllZip R ts (h.0 ++ found ∷ [])) (sym (take_more types i d low)) (zip_more R (take i types) h.0 (get_or types i d) found h.1 own),
  e ∙ ap (λ zs. zs ++ found) h.2 ∙ ap (λ zs. flat_map (λ x. x) h.0 ++ zs) (sym (append_none found))
      ∙ sym (flat_map-append (λ x. x) h.0 (found ∷ [])),
)
