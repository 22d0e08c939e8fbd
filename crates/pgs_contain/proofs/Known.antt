-- Names that are put in one after another.
use Rattle.std.proofs.Common.{◌≡◌, ℕ, ◌+◌, ◌<◌, Bool, true, false, ◌&&◌, ◌||◌, List, [], ◌∷◌, ◌++◌, length, take, get_or, refl, sym, ◌∙◌, ap}
use Rattle.std.specs.List.{list_any}
use Rattle.std.specs.Map.{keys_of}
use Rattle.std.proofs.Math.Bool.{or-false}
use Rattle.std.proofs.lemmas.List.{take_more}
use Rattle.std.proofs.lemmas.List.Folds.{list_any-append}
use Rattle.pgs_base.specs.Pair.{same_name, has_name, put_name}
use Rattle.pgs_syntax.proofs.Parts.{one_name}
use Rattle.pgs_conform.specs.declared.options.Options.{Options}
use Rattle.pgs_product.proofs.Asked.{own_name}
use Rattle.pgs_contain.specs.Frames.{Names, Keys}
use Rattle.pgs_contain.proofs.Framing.{has_put}

pub same_bool : (a b : Bool) → (a ≡ true → b ≡ true) → (b ≡ true → a ≡ true) → a ≡ b
same_bool true b f g = sym (f refl)
same_bool false true f g = g refl
same_bool false false f g = refl

same_swap : (a b : List ℕ) → same_name a b ≡ same_name b a
same_swap a b =
    same_bool (same_name a b) (same_name b a)
    (λ e. ap (λ z. same_name b z) (one_name a b e) ∙ own_name b) (λ e. ap (λ z. same_name a z) (one_name b a e) ∙ own_name a)

or_turn : (a b c : Bool) → (a || (b || c)) ≡ (b || (c || a))
or_turn true true c = refl
or_turn true false true = refl
or_turn true false false = refl
or_turn false true c = refl
or_turn false false true = refl
or_turn false false false = refl

-- a name put in, and one more of names
learnt : (n x : List ℕ) (old start names : Names) → has_name n old ≡ (has_name n start || has_name n names) →
    has_name n (put_name old x) ≡ (has_name n start || has_name n (names ++ x ∷ []))
learnt n x old start names before =
    has_put n x old ∙ ap (λ b. b || has_name n old) (same_swap x n) ∙ ap (λ b. same_name n x || b) before
    ∙ or_turn (same_name n x) (has_name n start) (has_name n names)
    ∙ ap (λ b. has_name n start || (has_name n names || b)) (sym (or-false (same_name n x)))
    ∙ ap (λ b. has_name n start || b) (sym (list_any-append (same_name n) names (x ∷ [])))

pub learnt_name : (names : Names) (i : ℕ) (x given : List ℕ) (old start new : Names) → i < length names → x ≡ get_or names i x → given ≡ x → new ≡ put_name old given →
    ((n : List ℕ) → has_name n old ≡ (has_name n start || has_name n (take i names))) → (n : List ℕ) → has_name n new ≡ (has_name n start || has_name n (take (i + 1) names))
learnt_name names i x given old start new lt is copied put before n =
    ap (has_name n) (put ∙ ap (put_name old) copied) ∙ learnt n x old start (take i names) (before n)
    ∙ ap (λ ns. has_name n start || has_name n ns) (sym (take_more names i x lt ∙ ap (λ y. take i names ++ y ∷ []) (sym is)))

pub learnt_key : (keys : Keys) (i : ℕ) (x : List ℕ × Options) (given : List ℕ) (old start new : Names) → i < length keys → x ≡ get_or keys i x → given ≡ x.0 → new ≡ put_name old given →
    ((n : List ℕ) → has_name n old ≡ (has_name n start || has_name n (keys_of (take i keys)))) → (n : List ℕ) → has_name n new ≡ (has_name n start || has_name n (keys_of (take (i + 1) keys)))
learnt_key keys i x given old start new lt is copied put before n =
    ap (has_name n) (put ∙ ap (put_name old) copied) ∙ learnt n x.0 old start (keys_of (take i keys)) (before n)
    ∙ ap (λ ns. has_name n start || has_name n ns) (sym (ap keys_of (take_more keys i x lt ∙ ap (λ y. take i keys ++ y ∷ []) (sym is)) ∙ keys_push (take i keys) x))
  where
    keys_push : (ks : Keys) (y : List ℕ × Options) → keys_of (ks ++ y ∷ []) ≡ keys_of ks ++ y.0 ∷ []
    keys_push [] y = refl
    keys_push (k ∷ ks) y = ap (λ zs. k.0 ∷ zs) (keys_push ks y)

-- ---- the keys of some values, as they are put in one after another

pub any_learnt : {X : Type 0} (f : X → List ℕ → Bool) (xs : List X) (i : ℕ) (x : X) (old start new : Names) → i < length xs → x ≡ get_or xs i x →
    ((k : List ℕ) → has_name k new ≡ (has_name k old || f x k)) → ((k : List ℕ) → has_name k old ≡ (has_name k start || list_any (λ y. f y k) (take i xs))) →
    (k : List ℕ) → has_name k new ≡ (has_name k start || list_any (λ y. f y k) (take (i + 1) xs))
any_learnt {X} f xs i x old start new lt is step before k =
    step k ∙ ap (λ b. b || f x k) (before k) ∙ or_step (has_name k start) (list_any (λ y. f y k) (take i xs)) (f x k)
    ∙ ap (λ b. has_name k start || (list_any (λ y. f y k) (take i xs) || b)) (sym (or-false (f x k)))
    ∙ ap (λ b. has_name k start || b) (sym (list_any-append (λ y. f y k) (take i xs) (x ∷ [])))
    ∙ ap (λ (ys : List X). has_name k start || list_any (λ y. f y k) ys) (sym (take_more xs i x lt ∙ ap (λ (y : X). take i xs ++ y ∷ []) (sym is)))
  where
    or_step : (a b c : Bool) → ((a || b) || c) ≡ (a || (b || c))
    or_step true b c = refl
    or_step false b c = refl

-- what is put in where a test passes, and isn't where it doesn't
pub learnt_then : (k : List ℕ) (old new names : Names) (test : Bool) → test ≡ true → has_name k new ≡ (has_name k old || has_name k names) → has_name k new ≡ (has_name k old || (test && has_name k names))
learnt_then k old new names test is h = h ∙ ap (λ b. has_name k old || (b && has_name k names)) (sym is)

-- two after one another, from nothing
pub learnt_both : (k : List ℕ) (none first second : Names) (a b : Bool) → none ≡ [] → has_name k first ≡ (has_name k none || a) → has_name k second ≡ (has_name k first || b) → has_name k second ≡ (a || b)
learnt_both k none first second a b is one two = two ∙ ap (λ x. x || b) (one ∙ ap (λ ns. has_name k ns || a) is)

pub learnt_three : (k : List ℕ) (old first second third : Names) (a b d : Bool) → has_name k first ≡ (has_name k old || a) → has_name k second ≡ (has_name k first || b) →
    has_name k third ≡ (has_name k second || d) → has_name k third ≡ (has_name k old || (a || (b || d)))
learnt_three k old first second third a b d one two three =
    three ∙ ap (λ x. x || d) (two ∙ ap (λ x. x || b) one) ∙ or_four (has_name k old) a b d
  where
    or_four : (x a b d : Bool) → (((x || a) || b) || d) ≡ (x || (a || (b || d)))
    or_four true a b d = refl
    or_four false true b d = refl
    or_four false false b d = refl
