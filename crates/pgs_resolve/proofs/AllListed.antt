-- All types are listed, each once, where their names differ and none leads back to itself.
use Rattle.std.proofs.Common.{◌≡◌, ℕ, zero, suc, ◌<◌, ◌≤◌, Bool, true, false, not, cond, ◌&&◌, ◌⊎◌, inl, inr, List, [], ◌∷◌, ◌++◌, length, map, filter, Option, Some, None, refl, sym, ◌∙◌, ap, subst, true≢false, arith, append_assoc}
use Rattle.std.specs.Prelude.{Contains, IsPermutation}
use Rattle.std.specs.List.{list_all}
use Rattle.std.proofs.lemmas.Bool.{or_from, or_parts, not_from_true}
use Rattle.std.proofs.lemmas.List.{append-nil}
use Rattle.std.proofs.lemmas.List.Sorted.{IsPermutation-refl, IsPermutation-trans, IsPermutation-cons, IsPermutation-append_right, IsPermutation-middle}
use Rattle.pgs_base.specs.Pair.{same_name, has_name}
use Rattle.pgs_syntax.proofs.Members.{contains_first, contains_later, contains_cases, contains_none, kept_found, kept_given}
use Rattle.pgs_resolve_declared.specs.Order.{Entry, is_ready, soonest, listing}
use Rattle.pgs_resolve_declared.proofs.Same.{itself, in_turn}
use Rattle.pgs_resolve.specs.Ways.{LeadsTo}
use Rattle.pgs_resolve.proofs.Listing.{AreLeft, others, left_then, none_soonest, soonest_is}
use Rattle.pgs_resolve.proofs.Members.{named, has, none_at, filter_fewer, Apart}
use Rattle.pgs_resolve.proofs.Trails.{some_back}

abbrev pub names_of : List Entry → List (List ℕ)
names_of entries = map (λ (entry : Entry). entry.name) entries

in_names : (all : List Entry) (entry : Entry) → Contains all entry → Contains (names_of all) entry.name
in_names [] entry i = absurd (contains_none entry i)
in_names (x ∷ xs) entry i = elim (contains_cases x xs entry i) [
  | inl same ↦ subst (Contains (names_of (x ∷ xs))) (ap (λ (y : Entry). y.name) same) (contains_first x.name (names_of xs))
  | inr later ↦ contains_later x.name (names_of xs) entry.name (in_names xs entry later)
]

of_name : (all : List Entry) (name : List ℕ) → Contains (names_of all) name → (entry : Entry) × Contains all entry × (entry.name ≡ name)
of_name [] name i = absurd (contains_none name i)
of_name (x ∷ xs) name i = elim (contains_cases x.name (names_of xs) name i) [
  | inl same ↦ (x, contains_first x xs, same)
  | inr later ↦ let it = of_name xs name later in (it.0, contains_later x xs it.0 it.1, it.2)
]

-- ---- what a filter keeps of entries whose names differ

kept_away : (p : Entry → Bool) (all : List Entry) (name : List ℕ) → has_name name (names_of all) ≡ false → has_name name (names_of (filter p all)) ≡ false
kept_away p [] name h = refl
kept_away p (x ∷ xs) name h =
    let parts = or_parts (same_name name x.name) (has_name name (names_of xs)) h in by (p x) parts.0 (kept_away p xs name parts.1)
  where
    by : (b : Bool) → same_name name x.name ≡ false → has_name name (names_of (filter p xs)) ≡ false →
        has_name name (names_of (cond b (x ∷ filter p xs) (filter p xs))) ≡ false
    by true here rest = or_from _ _ here rest
    by false here rest = rest

kept_apart : (p : Entry → Bool) (all : List Entry) → Apart (names_of all) → Apart (names_of (filter p all))
kept_apart p [] a = tt
kept_apart p (x ∷ xs) a = by (p x) (kept_apart p xs a.1)
  where
    by : (b : Bool) → Apart (names_of (filter p xs)) → Apart (names_of (cond b (x ∷ filter p xs) (filter p xs)))
    by true rest = (kept_away p xs x.name a.0, rest)
    by false rest = rest

kept_fewer : (p : Entry → Bool) (all : List Entry) (entry : Entry) → Contains all entry → p entry ≡ false → length (filter p all) < length all
kept_fewer p [] entry i e = absurd (contains_none entry i)
kept_fewer p (x ∷ xs) entry i e = by (p x) refl (contains_cases x xs entry i) (filter_fewer p xs) (λ later. kept_fewer p xs entry later e)
  where
    by : (b : Bool) → p x ≡ b → (x ≡ entry) ⊎ Contains xs entry → length (filter p xs) ≤ length xs → (Contains xs entry → length (filter p xs) < length xs) →
        length (cond b (x ∷ filter p xs) (filter p xs)) < length (x ∷ xs)
    by true f (inl same) most rest = absurd (true≢false (sym f ∙ ap p same ∙ e))
    by true f (inr later) most rest = let less = rest later in omega arith
    by false f way most rest = omega arith

all_others : (entry : Entry) (all : List Entry) → has_name entry.name (names_of all) ≡ false → others entry all ≡ all
all_others entry [] h = refl
all_others entry (x ∷ xs) h =
    let parts = or_parts (same_name entry.name x.name) (has_name entry.name (names_of xs)) h in
    ap (λ b. cond (not b) (x ∷ others entry xs) (others entry xs)) parts.0 ∙ ap (λ (es : List Entry). x ∷ es) (all_others entry xs parts.1)

-- an entry in front of the others
to_front : (all : List Entry) (entry : Entry) → Apart (names_of all) → Contains all entry → IsPermutation (names_of all) (entry.name ∷ names_of (others entry all))
to_front [] entry a i = absurd (contains_none entry i)
to_front (x ∷ xs) entry a i = elim (contains_cases x xs entry i) [
  | inl same ↦
      let Goal : Entry → Type 0 = λ e. IsPermutation (names_of (x ∷ xs)) (e.name ∷ names_of (others e (x ∷ xs))) in
      let kept : others x (x ∷ xs) ≡ xs = ap (λ b. cond (not b) (x ∷ others x xs) (others x xs)) (itself x.name) ∙ all_others x xs a.0 in
      subst Goal same
      (subst (λ (es : List Entry). IsPermutation (names_of (x ∷ xs)) (x.name ∷ names_of es)) (sym kept) (IsPermutation-refl (names_of (x ∷ xs))))
  | inr later ↦
      let apart : same_name entry.name x.name ≡ false = in_turn entry.name x.name ∙ none_at (same_name x.name) (names_of xs) entry.name a.0 (in_names xs entry later) in
      let kept : others entry (x ∷ xs) ≡ x ∷ others entry xs = ap (λ b. cond (not b) (x ∷ others entry xs) (others entry xs)) apart in
      let rest : List (List ℕ) = names_of (others entry xs) in
      subst (λ (es : List Entry). IsPermutation (names_of (x ∷ xs)) (entry.name ∷ names_of es)) (sym kept)
      (IsPermutation-trans (x.name ∷ names_of xs) (x.name ∷ entry.name ∷ rest) (entry.name ∷ x.name ∷ rest)
      (IsPermutation-cons x.name (names_of xs) (entry.name ∷ rest) (to_front xs entry a.1 later)) (IsPermutation-middle (x.name ∷ []) entry.name rest))
]

module _ (entries : List Entry) (next : List ℕ → List (List ℕ)) (differ : Apart (names_of entries))
    (leads_to : (entry : Entry) → Contains entries entry → (name : List ℕ) → Contains entry.names name → Contains (next entry.name) name × (has_name name (names_of entries) ≡ true))
    (none_back : (name : List ℕ) → LeadsTo next name name → ⊥) where
  -- where none is ready, nothing is left
  first_false : {X : Type 0} (p : X → Bool) (xs : List X) → list_all p xs ≡ false → (x : X) × Contains xs x × (p x ≡ false)
  first_false p [] h = absurd (true≢false h)
  first_false p (x ∷ xs) h = by (p x) refl h (first_false p xs)
    where
      by : (b : Bool) → p x ≡ b → (b && list_all p xs) ≡ false → (list_all p xs ≡ false → (y : _) × Contains xs y × (p y ≡ false)) →
          (y : _) × Contains (x ∷ xs) y × (p y ≡ false)
      by true e rest later = let it = later rest in (it.0, contains_later x xs it.0 it.1, it.2)
      by false e rest later = (x, contains_first x xs, e)

  module _ (listed : List (List ℕ)) (left : List Entry) (are : AreLeft entries listed left) where
    goes : filter (is_ready listed) left ≡ [] → (name : List ℕ) → has_name name (names_of left) ≡ true →
        (to : List ℕ) × Contains (next name) to × (has_name to (names_of left) ≡ true)
    goes none name there =
        let it = of_name left name (named name (names_of left) there) in
        let mine = are.kept it.0 it.1 in
        let waits : is_ready listed it.0 ≡ false = unready it.0 it.1 (is_ready listed it.0) refl in
        let on = first_false (λ n. has_name n listed) it.0.names waits in
        let led = leads_to it.0 mine.0 on.0 on.1 in
        let other = of_name entries on.0 (named on.0 (names_of entries) led.1) in
        let stays = are.all other.0 other.1 (ap (λ n. has_name n listed) other.2 ∙ on.2) in
        (on.0, subst (λ n. Contains (next n) on.0) it.2 led.0, has on.0 (names_of left) (subst (Contains (names_of left)) other.2 (in_names left other.0 stays)))
      where
        unready : (entry : Entry) → Contains left entry → (b : Bool) → is_ready listed entry ≡ b → b ≡ false
        unready entry i false e = refl
        unready entry i true e =
            absurd (contains_none entry (subst (λ (es : List Entry). Contains es entry) none (kept_given (is_ready listed) left entry i e)))

    pub none_waits : filter (is_ready listed) left ≡ [] → left ≡ []
    none_waits none = by left refl
      where
        by : (all : List Entry) → left ≡ all → all ≡ []
        by [] e = refl
        by (entry ∷ rest) e =
            let there : has_name entry.name (names_of left) ≡ true = has entry.name (names_of left) (in_names left entry (subst (λ (es : List Entry). Contains es entry) (sym e) (contains_first entry rest))) in
            let back = some_back next (names_of left) (goes none) entry.name there in
            absurd (none_back back.0 back.1)

  all_listed : (further : ℕ) (listed : List (List ℕ)) (left : List Entry) → AreLeft entries listed left → Apart (names_of left) → length left ≤ further →
      IsPermutation (listed ++ names_of left) (listing further listed left)
  all_listed zero listed left are apart short = by left short
    where
      by : (all : List Entry) → length all ≤ 0 → IsPermutation (listed ++ names_of all) listed
      by [] h = subst (λ (ns : List (List ℕ)). IsPermutation ns listed) (sym (append-nil listed)) (IsPermutation-refl listed)
      by (entry ∷ rest) h = absurd (omega arith)
  all_listed (suc further) listed left are apart short =
      by (soonest (filter (is_ready listed) left)) refl (λ entry. all_listed further (listed ++ entry.name ∷ []) (others entry left) (left_then entries listed left entry are))
    where
      by : (o : Option Entry) → soonest (filter (is_ready listed) left) ≡ o →
          ((entry : Entry) → Apart (names_of (others entry left)) → length (others entry left) ≤ further →
          IsPermutation ((listed ++ entry.name ∷ []) ++ names_of (others entry left)) (listing further (listed ++ entry.name ∷ []) (others entry left))) →
          IsPermutation (listed ++ names_of left) (elim o [ None ↦ listed | Some entry ↦ listing further (listed ++ entry.name ∷ []) (others entry left) ])
      by None e rest =
          let none : left ≡ [] = none_waits listed left are (none_soonest (filter (is_ready listed) left) e) in
          subst (λ (es : List Entry). IsPermutation (listed ++ names_of es) listed) (sym none)
          (subst (λ (ns : List (List ℕ)). IsPermutation ns listed) (sym (append-nil listed)) (IsPermutation-refl listed))
      by (Some entry) e rest =
          let mine = (kept_found (is_ready listed) left entry (soonest_is (filter (is_ready listed) left) entry e).among).0 in
          let p : Entry → Bool = λ other. not (same_name entry.name other.name) in
          let less = kept_fewer p left entry mine (not_from_true (same_name entry.name entry.name) (itself entry.name)) in
          IsPermutation-trans (listed ++ names_of left) ((listed ++ entry.name ∷ []) ++ names_of (others entry left)) (listing further (listed ++ entry.name ∷ []) (others entry left))
          (subst (IsPermutation (listed ++ names_of left)) (sym (append_assoc listed (entry.name ∷ []) (names_of (others entry left))))
          (IsPermutation-append_right listed (names_of left) (entry.name ∷ names_of (others entry left)) (to_front left entry apart mine)))
          (rest entry (kept_apart p left apart) (omega arith))

  pub each_listed : (further : ℕ) → length entries ≤ further → IsPermutation (names_of entries) (listing further [] entries)
  each_listed further short = all_listed further [] entries (record { kept = λ entry i. (i, refl); all = λ entry i new. i }) differ short
