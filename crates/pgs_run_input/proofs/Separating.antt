-- How the schema part and the transaction lines grow when more lines come.
use Rattle.std.proofs.Common.{◌≡◌, ℕ, Bool, true, false, ◌||◌, List, [], ◌∷◌, ◌++◌, cond, refl, sym, ap, ◌∙◌, append_assoc}
use Rattle.std.specs.List.{list_any, join_with_byte}
use Rattle.pgs_run_input.specs.Input.{is_separator, before_separator, after_separator}
use Rattle.pgs_run_input.specs.Part.{has_none}

abbrev pub HasOne : List (List ℕ) → Type 0
HasOne lines = list_any is_separator lines ≡ true

abbrev pub HasNo : List (List ℕ) → Type 0
HasNo lines = list_any is_separator lines ≡ false

any_step : (b rest more : Bool) → (b || (rest || more)) ≡ ((b || rest) || more)
any_step true rest more = refl
any_step false rest more = refl

-- whether some line of two lists is a separator
pub any-append : (xs ys : List (List ℕ)) → list_any is_separator (xs ++ ys) ≡ (list_any is_separator xs || list_any is_separator ys)
any-append [] ys = refl
any-append (x ∷ xs) ys =
    ap (λ b. is_separator x || b) (any-append xs ys) ∙ any_step (is_separator x) (list_any is_separator xs) (list_any is_separator ys)

pub none_more : (lines : List (List ℕ)) (line : List ℕ) → HasNo lines → is_separator line ≡ false → HasNo (lines ++ line ∷ [])
none_more lines line none is = any-append lines (line ∷ []) ∙ rw (none, is) refl

pub one_first : (lines : List (List ℕ)) (line : List ℕ) → HasNo lines → is_separator line ≡ true → HasOne (lines ++ line ∷ [])
one_first lines line none is = any-append lines (line ∷ []) ∙ rw (none, is) refl

pub one_more : (lines more : List (List ℕ)) → HasOne lines → HasOne (lines ++ more)
one_more lines more has = any-append lines more ∙ rw has refl

before_step : (x : List ℕ) (xs ys : List (List ℕ)) (b : Bool) → is_separator x ≡ b → (HasOne xs → before_separator (xs ++ ys) ≡ before_separator xs) → HasOne (x ∷ xs) → before_separator (x ∷ (xs ++ ys)) ≡ before_separator (x ∷ xs)
before_step x xs ys true e later has = rw e refl
before_step x xs ys false e later has = rw e (ap (λ lines. x ∷ lines) (later (rw e at has)))

-- behind a separator the schema part stays
pub before-append : (xs ys : List (List ℕ)) → HasOne xs → before_separator (xs ++ ys) ≡ before_separator xs
before-append [] ys has = cc
before-append (x ∷ xs) ys has = before_step x xs ys (is_separator x) refl (before-append xs ys) has

after_step : (x : List ℕ) (xs ys : List (List ℕ)) (b : Bool) → is_separator x ≡ b → (HasOne xs → after_separator (xs ++ ys) ≡ after_separator xs ++ ys) → HasOne (x ∷ xs) → after_separator (x ∷ (xs ++ ys)) ≡ after_separator (x ∷ xs) ++ ys
after_step x xs ys true e later has = rw e refl
after_step x xs ys false e later has = rw e (later (rw e at has))

-- behind a separator each line is a transaction line
pub after-append : (xs ys : List (List ℕ)) → HasOne xs → after_separator (xs ++ ys) ≡ after_separator xs ++ ys
after-append [] ys has = cc
after-append (x ∷ xs) ys has = after_step x xs ys (is_separator x) refl (after-append xs ys) has

before_none_step : (x : List ℕ) (xs : List (List ℕ)) (b : Bool) → is_separator x ≡ b → (HasNo xs → before_separator xs ≡ xs) → HasNo (x ∷ xs) → before_separator (x ∷ xs) ≡ x ∷ xs
before_none_step x xs true e later none = let h = rw e at none in cc
before_none_step x xs false e later none = rw e (ap (λ lines. x ∷ lines) (later (rw e at none)))

-- without a separator all lines are the schema part
pub before-none : (xs : List (List ℕ)) → HasNo xs → before_separator xs ≡ xs
before-none [] none = refl
before-none (x ∷ xs) none = before_none_step x xs (is_separator x) refl (before-none xs) none

after_none_step : (x : List ℕ) (xs : List (List ℕ)) (b : Bool) → is_separator x ≡ b → (HasNo xs → after_separator xs ≡ []) → HasNo (x ∷ xs) → after_separator (x ∷ xs) ≡ []
after_none_step x xs true e later none = let h = rw e at none in cc
after_none_step x xs false e later none = rw e (later (rw e at none))

-- without a separator there are no transaction lines
pub after-none : (xs : List (List ℕ)) → HasNo xs → after_separator xs ≡ []
after-none [] none = refl
after-none (x ∷ xs) none = after_none_step x xs (is_separator x) refl (after-none xs) none

before_first_step : (x end : List ℕ) (xs : List (List ℕ)) (b : Bool) → is_separator x ≡ b → (HasNo xs → before_separator (xs ++ end ∷ []) ≡ xs) → HasNo (x ∷ xs) → before_separator (x ∷ (xs ++ end ∷ [])) ≡ x ∷ xs
before_first_step x end xs true e later none = let h = rw e at none in cc
before_first_step x end xs false e later none = rw e (ap (λ lines. x ∷ lines) (later (rw e at none)))

-- the first separator ends the schema part
pub before-first : (xs : List (List ℕ)) (end : List ℕ) → is_separator end ≡ true → HasNo xs → before_separator (xs ++ end ∷ []) ≡ xs
before-first [] end is none = rw is refl
before-first (x ∷ xs) end is none = before_first_step x end xs (is_separator x) refl (before-first xs end is) none

after_first_step : (x end : List ℕ) (xs : List (List ℕ)) (b : Bool) → is_separator x ≡ b → (HasNo xs → after_separator (xs ++ end ∷ []) ≡ []) → HasNo (x ∷ xs) → after_separator (x ∷ (xs ++ end ∷ [])) ≡ []
after_first_step x end xs true e later none = let h = rw e at none in cc
after_first_step x end xs false e later none = rw e (later (rw e at none))

-- no transaction line stands behind it yet
pub after-first : (xs : List (List ℕ)) (end : List ℕ) → is_separator end ≡ true → HasNo xs → after_separator (xs ++ end ∷ []) ≡ []
after-first [] end is none = rw is refl
after-first (x ∷ xs) end is none = after_first_step x end xs (is_separator x) refl (after-first xs end is) none

-- a line more in the schema text
pub join_more : (xs : List (List ℕ)) (line : List ℕ) → join_with_byte 10 (xs ++ line ∷ []) ≡ cond (has_none xs) line (join_with_byte 10 xs ++ 10 ∷ line)
join_more [] line = refl
join_more (x ∷ []) line = refl
join_more (x ∷ y ∷ ys) line =
    ap (λ text. x ++ (10 ∷ text)) (join_more (y ∷ ys) line) ∙ sym (append_assoc x (10 ∷ join_with_byte 10 (y ∷ ys)) (10 ∷ line))
