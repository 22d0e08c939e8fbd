-- The front of a text: as many bytes as there is room for.
use Rattle.std.proofs.Common.{◌≡◌, ℕ, zero, suc, ◌+◌, ◌-◌, ◌≤◌, ◌<◌, min, Bool, true, false, nat_lt, List, [], ◌∷◌, ◌++◌, length, take, refl, sym, ap, ◌∙◌, arith}
use Rattle.std.proofs.Math.Seq.{take-append-add}
use Rattle.std.proofs.lemmas.List.{take_min, length-take}
use Rattle.std.proofs.lemmas.Bool.Decides.{nat_tests}
use Rattle.pgs_run_lines.specs.Input.{front_of}

-- what is put behind a front, as far as there is room
front_push : {A : Type 0} (old more : List A) (room taken : ℕ) → length old ≤ room → taken ≡ min (room - length old) (length more) → old ++ take taken more ≡ take room (old ++ more)
front_push old more room taken fits is =
    let e : room ≡ length old + (room - length old) = omega arith in
    ap (λ n. old ++ take n more) is ∙ ap (λ xs. old ++ xs) (take_min (room - length old) more)
    ∙ sym (ap (λ n. take n (old ++ more)) e ∙ take-append-add old more (room - length old))

-- the same of the front of a text
pub front_of_push : (limit : ℕ) (old more : List ℕ) (taken : ℕ) → length old ≤ limit + 1 → taken ≡ min (limit + 1 - length old) (length more) → old ++ take taken more ≡ front_of limit (old ++ more)
unfolding front_of
front_of_push limit old more taken fits is = front_push old more (limit + 1) taken fits is

take_left : {A : Type 0} (n : ℕ) (xs ys : List A) → take n (take n xs ++ ys) ≡ take n (xs ++ ys)
take_left zero xs ys = refl
take_left (suc n) [] ys = refl
take_left (suc n) (x ∷ xs) ys = ap (λ front. x ∷ front) (take_left n xs ys)

take_right : {A : Type 0} (n m : ℕ) (xs ys : List A) → n ≤ m → take n (xs ++ take m ys) ≡ take n (xs ++ ys)
take_right zero m xs ys room = refl
take_right (suc n) m (x ∷ xs) ys room = ap (λ front. x ∷ front) (take_right n m xs ys (omega arith))
take_right (suc n) zero [] ys room = absurd (omega arith)
take_right (suc n) (suc m) [] [] room = refl
take_right (suc n) (suc m) [] (y ∷ ys) room = ap (λ front. y ∷ front) (take_right n m [] ys (omega arith))

-- the front of a front with more behind it
pub front_left : (limit : ℕ) (text more : List ℕ) → front_of limit (front_of limit text ++ more) ≡ front_of limit (text ++ more)
unfolding front_of
front_left limit text more = take_left (limit + 1) text more

-- the front of a text with a front behind it
pub front_right : (limit : ℕ) (text more : List ℕ) → front_of limit (text ++ front_of limit more) ≡ front_of limit (text ++ more)
unfolding front_of
front_right limit text more = take_right (limit + 1) (limit + 1) text more (omega arith)

-- a front on its own
pub front_front : (limit : ℕ) (text : List ℕ) → front_of limit (front_of limit text) ≡ front_of limit text
front_front limit text = front_right limit [] text

take_all : {A : Type 0} (n : ℕ) (xs : List A) → length xs ≤ n → take n xs ≡ xs
take_all zero [] few = refl
take_all (suc n) [] few = refl
take_all zero (x ∷ xs) few = absurd (omega arith)
take_all (suc n) (x ∷ xs) few = ap (λ front. x ∷ front) (take_all n xs (omega arith))

-- a text that isn't too long is its own front
pub front_whole : (limit : ℕ) (text : List ℕ) → length text ≤ limit + 1 → front_of limit text ≡ text
unfolding front_of
front_whole limit text few = take_all (limit + 1) text few

-- no bytes
pub front_none : (limit : ℕ) → front_of limit [] ≡ []
front_none limit = front_whole limit [] (omega arith)

-- the front of a text that is too long is too long
front_long : (limit : ℕ) (text : List ℕ) → limit < length text → limit < length (front_of limit text)
unfolding front_of
front_long limit text long = let e = length-take (limit + 1) text in omega (arith, e)

front_same : {A : Type 0} (limit : ℕ) (f : List ℕ → A) (d : A) (text : List ℕ) (long : Bool) → nat_lt limit (length text) ≡ long → ((t : List ℕ) → limit < length t → f t ≡ d) → f (front_of limit text) ≡ f text
front_same limit f d text false e const = ap f (front_whole limit text (grind (arith, nat_tests)))
front_same limit f d text true e const =
    let h : limit < length text = grind (arith, nat_tests) in const (front_of limit text) (front_long limit text h) ∙ sym (const text h)

-- what says the same of all texts that are too long says the same of a text and of its front
pub same_of_front : {A : Type 0} (limit : ℕ) (f : List ℕ → A) (d : A) (text : List ℕ) → ((t : List ℕ) → limit < length t → f t ≡ d) → f (front_of limit text) ≡ f text
same_of_front limit f d text const = front_same limit f d text (nat_lt limit (length text)) refl const
