-- Words gathered one on, and rows found by a word.
use Rattle.std.proofs.Common.{◌≡◌, ◌∙◌, ℕ, ◌+◌, ◌<◌, Bool, true, false, List, [], ◌∷◌, ◌++◌, append_assoc, drop, length, map, ap, refl, sym, Option, Some, option_map, cond}
use Rattle.std.proofs.lemmas.List.{drop_more, map-append}
use Rattle.std.proofs.lemmas.Option.{get_or_from_slice_get}
use Rattle.std.specs.List.{slice_get, find}
use Rattle.std.specs.Str.{bytes_eq}
use denote.Bor.{Bor}

drop_at : {X : Type 0} (xs : List X) (i : ℕ) (x : X) → i < length xs → slice_get xs i ≡ Some x → drop i xs ≡ x ∷ drop (i + 1) xs
drop_at xs i x h e = drop_more xs i x h ∙ ap (λ y. y ∷ drop (i + 1) xs) (get_or_from_slice_get xs i x x e)

-- a word more is gathered, and one less is left
pub gathered_on : {X Y : Type 0} (f : X → Y) (done : List X) (word : X) (ys : List Y) (i : ℕ)
    → i < length ys → slice_get ys i ≡ Some (f word) → map f (done ++ word ∷ []) ++ drop (i + 1) ys ≡ map f done ++ drop i ys
gathered_on f done word ys i h e =
    ap (λ ws. ws ++ drop (i + 1) ys) (map-append f done (word ∷ []))
    ∙ append_assoc (map f done) (f word ∷ []) (drop (i + 1) ys)
    ∙ ap (λ rest. map f done ++ rest) (sym (drop_at ys i (f word) h e))

-- a row that is chosen, or one that is found among others
found_step : {A B C : Type 0} (f : A → C) (g : B → C) (b : Bool) (x : A) (y : B) (xs : Option A) (ys : Option B)
    → f x ≡ g y → option_map f xs ≡ option_map g ys → option_map f (cond b (Some x) xs) ≡ option_map g (cond b (Some y) ys)
found_step f g true x y xs ys e h = ap Some e
found_step f g false x y xs ys e h = h

-- a row is found by what its word is
pub found_by_now : {K : Type 0} (word : List ℕ) (rows : List (Bor (List ℕ) × K))
    → option_map (λ (row : Bor (List ℕ) × K). row.1) (find (λ (row : Bor (List ℕ) × K). bytes_eq row.0.now word) rows)
    ≡ option_map (λ (row : List ℕ × K). row.1)
    (find (λ (row : List ℕ × K). bytes_eq row.0 word) (map (λ (row : Bor (List ℕ) × K). (row.0.now, row.1)) rows))
found_by_now word [] = refl
found_by_now {K} word (row ∷ rows) =
    found_step (λ (r : Bor (List ℕ) × K). r.1) (λ (r : List ℕ × K). r.1) (bytes_eq row.0.now word) row (row.0.now, row.1) _ _ refl
    (found_by_now word rows)
