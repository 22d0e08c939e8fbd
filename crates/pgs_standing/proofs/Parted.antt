-- Whether some pass a test, or pass two tests, by what they are in, one more at a time.
use Rattle.std.proofs.Common.{◌≡◌, inl, inr, ℕ, ◌+◌, ◌<◌, ◌≤◌, Bool, true, false, ◌&&◌, ◌||◌, List, [], length, take, get_or, refl, sym, ap, ◌∙◌, subst, true≢false}
use Rattle.std.specs.Bool.{MatchBool}
use Rattle.std.specs.List.{list_any}
use Rattle.std.proofs.lemmas.Bool.{and_parts, and_from, or_left, or_right, false_from_ne_true, MatchBool-at_true, MatchBool-at_false}
use Rattle.std.proofs.lemmas.List.{take_all}
use Rattle.std.proofs.lemmas.List.Folds.{list_any_at, list_any_more}
use Rattle.pgs_conform.specs.declared.shape.Triple.{Triple as ShapeTriple}
use Rattle.pgs_conform.specs.Shapes.{triple_of, in_shape, in_triple}
use Rattle.pgs_standing.specs.Apart.{SomePasses, Apart, NotApart}
use Rattle.pgs_standing.specs.Example.{Carried, by_nodes, by_edges, NonePasses}

never_second : (a : Bool) → (a && false) ≡ false
never_second true = refl
never_second false = refl

either : (a m n : Bool) → (a && m) ≡ false → (a && n) ≡ false → (a && (m || n)) ≡ false
either true true n before here = before
either true false n before here = here
either false m n before here = refl

either_first : (m n b : Bool) → (m && b) ≡ false → (n && b) ≡ false → ((m || n) && b) ≡ false
either_first true n b before here = before
either_first false n b before here = here

module _ {P : Type 0} (carried : Carried P) where
  -- whether some pass a test, or none
  abbrev pub Tells : Bool → (P → Bool) → Type 0
  Tells b test = MatchBool b (SomePasses carried test) (NonePasses carried test)

  abbrev pub Same : (P → Bool) → (P → Bool) → Type 0
  Same f g = (q : P) → carried.is_one q ≡ true → f q ≡ g q

  some_same : (f g : P → Bool) → Same f g → SomePasses carried f → SomePasses carried g
  some_same f g same some = (some.0, some.1, sym (same some.0 some.1) ∙ some.2)

  none_same : (f g : P → Bool) → Same f g → NonePasses carried f → NonePasses carried g
  none_same f g same none q one = sym (same q one) ∙ none q one

  pub tells_same : (b : Bool) (f g : P → Bool) → Same f g → Tells b f → Tells b g
  tells_same true f g same some = some_same f g same some
  tells_same false f g same none = none_same f g same none

  -- what is told, where it is known which
  pub some_told : (b : Bool) (test : P → Bool) → b ≡ true → Tells b test → SomePasses carried test
  some_told b test is tells = MatchBool-at_true (SomePasses carried test) (NonePasses carried test) is tells

  pub none_told : (b : Bool) (test : P → Bool) → b ≡ false → Tells b test → NonePasses carried test
  none_told b test is tells = MatchBool-at_false (SomePasses carried test) (NonePasses carried test) is tells

  -- so of two types
  both_same : (base own f g : P → Bool) → Same base f → Same own g → Same (λ q. own q && base q) (λ q. g q && f q)
  both_same base own f g bases owns q one = ap (λ b. b && base q) (owns q one) ∙ ap (λ b. g q && b) (bases q one)

  pub apart_same : (b : Bool) (base own f g : P → Bool) → Same base f → Same own g → MatchBool b (Apart carried base own) (NotApart carried base own)
      → MatchBool b (Apart carried f g) (NotApart carried f g)
  apart_same true base own f g bases owns apart =
      (some_same own g owns apart.0, none_same (λ q. own q && base q) (λ q. g q && f q) (both_same base own f g bases owns) apart.1)
  apart_same false base own f g bases owns (inl none) = inl (none_same own g owns none)
  apart_same false base own f g bases owns (inr some) = inr (some_same (λ q. own q && base q) (λ q. g q && f q) (both_same base own f g bases owns) some)

  module _ {S : Type 0} (inside : S → P → Bool) where
    abbrev in_list : List S → P → Bool
    in_list xs p = list_any (λ s. inside s p) xs

    more : (xs : List S) (i : ℕ) (x : S) → i < length xs → x ≡ get_or xs i x → (q : P) → in_list (take (i + 1) xs) q ≡ (in_list (take i xs) q || inside x q)
    more xs i x lt is q = list_any_more (λ s. inside s q) xs i x lt ∙ ap (λ s. in_list (take i xs) q || inside s q) (sym is)

    among : (xs : List S) (i : ℕ) (x : S) → i < length xs → x ≡ get_or xs i x → (q : P) → inside x q ≡ true → in_list xs q ≡ true
    among xs i x lt is q h = list_any_at (λ s. inside s q) xs i x lt (sym (ap (λ s. inside s q) is) ∙ h)

    -- none passes a test and is in some, and one more
    pub none_yet : (test : P → Bool) → NonePasses carried (λ p. test p && in_list [] p)
    none_yet test q one = never_second (test q)

    pub none_more : (test : P → Bool) (xs : List S) (i : ℕ) (x : S) → i < length xs → x ≡ get_or xs i x →
        NonePasses carried (λ p. test p && in_list (take i xs) p) → NonePasses carried (λ p. test p && inside x p) →
        NonePasses carried (λ p. test p && in_list (take (i + 1) xs) p)
    none_more test xs i x lt is before here q one =
        ap (λ b. test q && b) (more xs i x lt is q) ∙ either (test q) (in_list (take i xs) q) (inside x q) (before q one) (here q one)

    pub none_all : (test : P → Bool) (xs : List S) (i : ℕ) → length xs ≤ i → NonePasses carried (λ p. test p && in_list (take i xs) p) → NonePasses carried (λ p. test p && in_list xs p)
    none_all test xs i end none q one = sym (ap (λ ys. test q && in_list ys q) (take_all i xs end)) ∙ none q one

    pub one_of : (test : P → Bool) (xs : List S) (i : ℕ) (x : S) → i < length xs → x ≡ get_or xs i x → SomePasses carried (λ p. test p && inside x p) → SomePasses carried (λ p. test p && in_list xs p)
    one_of test xs i x lt is some =
        let parts = and_parts (test some.0) (inside x some.0) some.2 in
        (some.0, some.1, and_from _ _ parts.0 (among xs i x lt is some.0 parts.1))

    -- whether some is in some of the first, and none of these passes the test of a base
    pub record GoesOn (base : P → Bool) (xs : List S) (i : ℕ) (fits : Bool) : Type 0 where
      pub none : NonePasses carried (λ p. in_list (take i xs) p && base p)
      pub fit : Tells fits (in_list (take i xs))

    pub begins : (base : P → Bool) (xs : List S) → GoesOn base xs 0 false
    begins base xs = record { none = λ q one. refl; fit = λ q one. refl }

    kept_fit : (xs : List S) (i : ℕ) (x : S) → i < length xs → x ≡ get_or xs i x → Tells true (in_list (take i xs)) → Tells true (in_list (take (i + 1) xs))
    kept_fit xs i x lt is some = (some.0, some.1, more xs i x lt is some.0 ∙ or_left _ _ some.2)

    first_fit : (xs : List S) (i : ℕ) (x : S) → i < length xs → x ≡ get_or xs i x → (has : Bool) → Tells false (in_list (take i xs)) → Tells has (inside x) → Tells has (in_list (take (i + 1) xs))
    first_fit xs i x lt is true none some = (some.0, some.1, more xs i x lt is some.0 ∙ or_right _ _ some.2)
    first_fit xs i x lt is false none here = λ q one. more xs i x lt is q ∙ ap (λ b. b || inside x q) (none q one) ∙ here q one

    none_of_both : (base : P → Bool) (xs : List S) (i : ℕ) (x : S) → i < length xs → x ≡ get_or xs i x → NonePasses carried (λ p. in_list (take i xs) p && base p) →
        NonePasses carried (λ p. inside x p && base p) → NonePasses carried (λ p. in_list (take (i + 1) xs) p && base p)
    none_of_both base xs i x lt is before none q one =
        ap (λ b. b && base q) (more xs i x lt is q) ∙ either_first (in_list (take i xs) q) (inside x q) (base q) (before q one) (none q one)

    -- where some was in one before, and where it wasn't
    pub goes_on_fit : (base : P → Bool) (xs : List S) (i : ℕ) (x : S) (fits new : Bool) → i < length xs → x ≡ get_or xs i x → GoesOn base xs i fits →
        NonePasses carried (λ p. inside x p && base p) → fits ≡ true → new ≡ true → GoesOn base xs (i + 1) new
    goes_on_fit base xs i x fits new lt is before none fit same = record {
      none = none_of_both base xs i x lt is before.none none;
      fit = subst (λ b. Tells b (in_list (take (i + 1) xs))) (sym same) (kept_fit xs i x lt is (subst (λ b. Tells b (in_list (take i xs))) fit before.fit));
    }

    pub goes_on_else : (base : P → Bool) (xs : List S) (i : ℕ) (x : S) (fits has new : Bool) → i < length xs → x ≡ get_or xs i x → GoesOn base xs i fits →
        NonePasses carried (λ p. inside x p && base p) → fits ≡ false → Tells has (inside x) → new ≡ has → GoesOn base xs (i + 1) new
    goes_on_else base xs i x fits has new lt is before none unfit here same = record {
      none = none_of_both base xs i x lt is before.none none;
      fit = subst (λ b. Tells b (in_list (take (i + 1) xs))) (sym same) (first_fit xs i x lt is has (subst (λ b. Tells b (in_list (take i xs))) unfit before.fit) here);
    }

    pub found_both : (base : P → Bool) (xs : List S) (i : ℕ) (x : S) → i < length xs → x ≡ get_or xs i x → SomePasses carried (λ p. inside x p && base p) → NotApart carried base (in_list xs)
    found_both base xs i x lt is some =
        let parts = and_parts (inside x some.0) (base some.0) some.2 in
        inr (some.0, some.1, and_from _ _ (among xs i x lt is some.0 parts.0) parts.1)

    pub ends : (base : P → Bool) (xs : List S) (i : ℕ) (fits : Bool) → length xs ≤ i → GoesOn base xs i fits → MatchBool fits (Apart carried base (in_list xs)) (NotApart carried base (in_list xs))
    ends base xs i true end at = (
      some_same (in_list (take i xs)) (in_list xs) (λ q one. ap (λ ys. in_list ys q) (take_all i xs end)) at.fit,
      none_same (λ p. in_list (take i xs) p && base p) (λ p. in_list xs p && base p) (λ q one. ap (λ ys. in_list ys q && base q) (take_all i xs end)) at.none,
    )
    ends base xs i false end at = inl (none_same (in_list (take i xs)) (in_list xs) (λ q one. ap (λ ys. in_list ys q) (take_all i xs end)) at.fit)

-- ---- triples

-- some triple is in three shapes where some pair is in each
pub three_tell : (shapes : ShapeTriple) (source middle target : Bool) → Tells by_nodes source (in_shape shapes.source) → Tells by_nodes middle (in_shape shapes.middle) →
    Tells by_nodes target (in_shape shapes.target) → Tells by_edges (source && middle && target) (in_triple shapes)
three_tell shapes true true true s m t =
    (triple_of s.0 m.0 t.0, and_from _ _ (and_from _ _ s.1 m.1) t.1, and_from _ _ (and_from _ _ s.2 m.2) t.2)
three_tell shapes true true false s m t = λ q one.
    false_from_ne_true (in_triple shapes q) (λ h. true≢false (sym (and_parts _ _ h).1 ∙ t q.target (and_parts _ _ one).1))
three_tell shapes true false target s m t = λ q one.
    false_from_ne_true (in_triple shapes q) (λ h. true≢false (sym (and_parts _ _ (and_parts _ _ h).0).1 ∙ m q.own (and_parts _ _ (and_parts _ _ one).0).1))
three_tell shapes false middle target s m t = λ q one.
    false_from_ne_true (in_triple shapes q) (λ h. true≢false (sym (and_parts _ _ (and_parts _ _ h).0).0 ∙ s q.source (and_parts _ _ (and_parts _ _ one).0).0))
