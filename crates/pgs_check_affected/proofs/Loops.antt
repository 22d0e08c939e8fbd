-- What a loop that adds to a list has added after one turn more, and after all.
use Rattle.std.proofs.Common.{◌≡◌, ℕ, ◌+◌, ◌<◌, ◌≤◌, List, [], ◌∷◌, ◌++◌, map, flat_map, length, take, get_or, refl, sym, ◌∙◌, ap, append_assoc}
use Rattle.std.proofs.lemmas.List.{take_more}
use Rattle.pgs_match.proofs.Along.{take_whole}

pub front_more : {X : Type 0} (xs : List X) (i : ℕ) (x : X) → i < length xs → get_or xs i x ≡ x → take (i + 1) xs ≡ take i xs ++ x ∷ []
front_more xs i x below is = take_more xs i x below ∙ ap (λ y. take i xs ++ y ∷ []) is

pub map_append : {X Y : Type 0} (f : X → Y) (xs ys : List X) → map f (xs ++ ys) ≡ map f xs ++ map f ys
map_append f [] ys = refl
map_append f (x ∷ xs) ys = ap (λ rest. f x ∷ rest) (map_append f xs ys)

pub flat_append : {X Y : Type 0} (f : X → List Y) (xs ys : List X) → flat_map f (xs ++ ys) ≡ flat_map f xs ++ flat_map f ys
flat_append f [] ys = refl
flat_append f (x ∷ xs) ys = ap (λ rest. f x ++ rest) (flat_append f xs ys) ∙ sym (append_assoc (f x) (flat_map f xs) (flat_map f ys))

pub flat_one : {X Y : Type 0} (f : X → List Y) (x : X) → flat_map f (x ∷ []) ≡ f x
flat_one f x = append_nil (f x)
  where
    append_nil : {Z : Type 0} (zs : List Z) → zs ++ [] ≡ zs
    append_nil [] = refl
    append_nil (z ∷ zs) = ap (λ rest. z ∷ rest) (append_nil zs)

-- one item more, by a function of the item
pub mapped_more : {X Y : Type 0} (f : X → Y) (start now : List Y) (xs : List X) (i : ℕ) (x : X) → i < length xs → get_or xs i x ≡ x →
    now ≡ start ++ map f (take i xs) → now ++ f x ∷ [] ≡ start ++ map f (take (i + 1) xs)
mapped_more f start now xs i x below is so_far =
    ap (λ ys. ys ++ f x ∷ []) so_far ∙ append_assoc start (map f (take i xs)) (f x ∷ [])
    ∙ ap (λ ys. start ++ ys) (sym (ap (map f) (front_more xs i x below is) ∙ map_append f (take i xs) (x ∷ [])))

pub mapped_all : {X Y : Type 0} (f : X → Y) (start now : List Y) (xs : List X) (i : ℕ) → length xs ≤ i → now ≡ start ++ map f (take i xs) → now ≡ start ++ map f xs
mapped_all f start now xs i end so_far = so_far ∙ ap (λ ys. start ++ map f ys) (take_whole xs i end)

-- a list of items more
pub flat_more : {X Y : Type 0} (f : X → List Y) (xs : List X) (i : ℕ) (x : X) → i < length xs → get_or xs i x ≡ x →
    flat_map f (take i xs) ++ f x ≡ flat_map f (take (i + 1) xs)
flat_more f xs i x below is =
    sym (ap (flat_map f) (front_more xs i x below is) ∙ flat_append f (take i xs) (x ∷ []) ∙ ap (λ ys. flat_map f (take i xs) ++ ys) (flat_one f x))

pub flat_mapped : {X Y Z : Type 0} (f : Y → List Z) (e : X → Y) (xs : List X) → flat_map (λ x. f (e x)) xs ≡ flat_map f (map e xs)
flat_mapped f e [] = refl
flat_mapped f e (x ∷ xs) = ap (λ rest. f (e x) ++ rest) (flat_mapped f e xs)

pub flat_all : {X Y : Type 0} (f : X → List Y) (xs : List X) (i : ℕ) → length xs ≤ i → flat_map f (take i xs) ≡ flat_map f xs
flat_all f xs i end = ap (flat_map f) (take_whole xs i end)
