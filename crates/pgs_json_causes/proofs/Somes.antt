-- Whether something is there, through options one after another and side by side.
use Rattle.std.proofs.Common.{◌≡◌, ℕ, Bool, true, false, not, ◌&&◌, ◌||◌, cond, List, [], ◌∷◌, Option, Some, None, is_some, option_map, option_and_then, refl, sym, ap, ◌∙◌}
use Rattle.std.specs.List.{find, list_all}
use Rattle.std.specs.Option.{option_or}
use Rattle.pgs_json_causes.specs.Cause.{where_none, lesser}

pub or_false : (b : Bool) → (b || false) ≡ b
or_false true = refl
or_false false = refl

pub or_true : (b : Bool) → (b || true) ≡ true
or_true true = refl
or_true false = refl

-- two sides, each of two tests
pub or_sides : (a b c d : Bool) → ((a || b) || (c || d)) ≡ ((a || c) || (b || d))
or_sides true b c d = refl
or_sides false true true d = refl
or_sides false true false d = refl
or_sides false false c d = refl

pub not_and : (a b : Bool) → not (a && b) ≡ (not a || not b)
not_and true b = refl
not_and false b = refl

pub some_or : {A : Type 0} (o p : Option A) → is_some (option_or o p) ≡ (is_some o || is_some p)
some_or None p = refl
some_or (Some x) p = refl

pub some_map : {A B : Type 0} (f : A → B) (o : Option A) → is_some (option_map f o) ≡ is_some o
some_map f None = refl
some_map f (Some x) = refl

pub some_where_none : {A : Type 0} (words : List ℕ) (o : Option A) → is_some (where_none words o) ≡ not (is_some o)
some_where_none words None = refl
some_where_none words (Some x) = refl

-- what is there twice, where the second doesn't depend on the first
pub some_bind : {A B : Type 0} (o : Option A) (f : A → Option B) (b : Bool) → ((x : A) → is_some (f x) ≡ b) → is_some (option_and_then f o) ≡ (is_some o && b)
some_bind None f b h = refl
some_bind (Some x) f b h = h x

pub some_bind_last : {A B : Type 0} (o : Option A) (f : A → B) → is_some (option_and_then (λ x. Some (f x)) o) ≡ is_some o
some_bind_last None f = refl
some_bind_last (Some x) f = refl

pub some_lesser : (a b : Option (List ℕ)) → is_some (lesser a b) ≡ (is_some a || is_some b)
some_lesser None b = refl
some_lesser (Some a) None = refl
some_lesser (Some a) (Some b) = refl

pub some_cond : {A : Type 0} (b : Bool) (x : A) → is_some (cond b (Some x) None) ≡ b
some_cond true x = refl
some_cond false x = refl

pub some_cond_not : {A : Type 0} (b : Bool) (x : A) → is_some (cond b None (Some x)) ≡ not b
some_cond_not true x = refl
some_cond_not false x = refl

-- ---- the first of a list that a test passes

module _ {A : Type 0} (test good : A → Bool) (h : (x : A) → test x ≡ not (good x)) where
  some_find_at : (g t : Bool) (x : A) (rest : Option A) (all : Bool) → t ≡ not g → is_some rest ≡ not all → is_some (cond t (Some x) rest) ≡ not (g && all)
  some_find_at true true x rest all e r = absurd (let e2 : true ≡ false = e in cc)
  some_find_at true false x rest all e r = r
  some_find_at false true x rest all e r = refl
  some_find_at false false x rest all e r = absurd (let e2 : false ≡ true = e in cc)

  -- there is one exactly where not all are good
  pub some_find : (xs : List A) → is_some (find test xs) ≡ not (list_all good xs)
  some_find [] = refl
  some_find (x ∷ xs) = some_find_at (good x) (test x) x (find test xs) (list_all good xs) (h x) (some_find xs)

module _ {A : Type 0} (test more : A → Bool) (h : (x : A) → test x ≡ true → more x ≡ true) where
  find_more_at : (t m : Bool) (x : A) (o p : Option A) → (t ≡ true → m ≡ true) → (is_some o ≡ true → is_some p ≡ true) → is_some (cond t (Some x) o) ≡ true → is_some (cond m (Some x) p) ≡ true
  find_more_at t true x o p e r s = refl
  find_more_at true false x o p e r s = absurd (let e2 : false ≡ true = e refl in cc)
  find_more_at false false x o p e r s = r s

  -- where one passes a test, one passes a weaker one
  pub find_more : (xs : List A) → is_some (find test xs) ≡ true → is_some (find more xs) ≡ true
  find_more [] s = s
  find_more (x ∷ xs) s = find_more_at (test x) (more x) x (find test xs) (find more xs) (h x) (find_more xs) s
