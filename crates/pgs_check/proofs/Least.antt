-- Of edges that pass a test, the least: none that passes is less than it, and it passes. One that was tested before changes nothing.
use Rattle.std.proofs.Common.{◌≡◌, ℕ, zero, suc, ◌<◌, Bool, true, false, ⊎_elim, List, [], ◌∷◌, length, Option, Some, None, Result, Ok, Err, HoldsAt, refl, sym, ◌∙◌, ap, subst, true≢false, arith, Equal, is_lt}
use Rattle.std.specs.Prelude.{Contains, not, if◌then◌else◌}
use Rattle.std.specs.Cmp.{tied_itself}
use Rattle.std.specs.List.Sorted.{IsBinarySearchResult, IsSearchInRange}
use Rattle.std.specs.Map.{keys_of}
use Rattle.std.specs.Result.{is_ok}
use Rattle.pgs_base.specs.declared.element.EdgeId.{EdgeId}
use Rattle.pgs_base.specs.Graph.{edge_cmp}
use Rattle.pgs_graph.proofs.Deltas.{edge_cmp_total, exact_edge}
use Rattle.pgs_syntax.proofs.Members.{contains_none, contains_cases, contains_later, is_less}
use Rattle.pgs_check.specs.Untyped.{IsSettled, is_found_before, least_edge}

-- a key that a search found is there
module _ {V : Type 0} (id : EdgeId) where
  found_there : (es : List (EdgeId × V)) (i : ℕ) → i < length es → HoldsAt (λ (e : EdgeId × V). edge_cmp e.0 id ≡ Equal) es i → Contains (keys_of es) id
  found_there [] i below at = absurd (omega arith)
  found_there (e ∷ es) zero below at = (0, omega arith, exact_edge e.0 id (at e))
  found_there (e ∷ es) (suc i) below at = contains_later e.0 (keys_of es) id (found_there es i (omega arith) at)

  pub named_there : (es : List (EdgeId × V)) (place : Result ℕ ℕ) → IsBinarySearchResult (λ (e : EdgeId × V). edge_cmp e.0 id) es place →
      IsSearchInRange place (length es) → is_ok place ≡ true → Contains (keys_of es) id
  named_there es (Ok i) position bound found = found_there es i bound position
  named_there es (Err i) position bound found = absurd (true≢false (sym found))

same_both : {X : Type 0} (b : Bool) (x : X) → (if b then x else x) ≡ x
same_both true x = refl
same_both false x = refl

module _ (test : EdgeId → Bool) where
  abbrev next : Option EdgeId → EdgeId → Option EdgeId
  next found id = if is_found_before found id then found else if test id then Some id else found

  -- nothing that passes is less than what is found
  abbrev pub Below : Option EdgeId → EdgeId → Type 0
  Below None id = ⊥
  Below (Some least) id = is_lt (edge_cmp id least) ≡ false

  itself : (id : EdgeId) → is_lt (edge_cmp id id) ≡ false
  itself id = ap is_lt (tied_itself edge_cmp_total id)

  lower : (id least z : EdgeId) → is_lt (edge_cmp id least) ≡ true → is_lt (edge_cmp z least) ≡ false → is_lt (edge_cmp z id) ≡ false
  lower id least z less above = by (is_lt (edge_cmp z id)) refl
    where
      by : (b : Bool) → is_lt (edge_cmp z id) ≡ b → is_lt (edge_cmp z id) ≡ false
      by false is = is
      by true is =
          absurd (true≢false (sym (ap is_lt (edge_cmp_total.trans z id least (is_less _ is) (is_less _ less))) ∙ above))

  next_below : (found : Option EdgeId) (id z : EdgeId) → Below found z → Below (next found id) z
  next_below None id z below = absurd below
  next_below (Some least) id z below = by (is_lt (edge_cmp id least)) refl (test id)
    where
      by : (b : Bool) → is_lt (edge_cmp id least) ≡ b → (c : Bool) → Below (if not b then Some least else if c then Some id else Some least) z
      by false is c = below
      by true is true = lower id least z is below
      by true is false = below

  next_own : (found : Option EdgeId) (id : EdgeId) → test id ≡ true → Below (next found id) id
  next_own None id passes = subst (λ b. Below (if b then Some id else None) id) (sym passes) (itself id)
  next_own (Some least) id passes = by (is_lt (edge_cmp id least)) refl
    where
      by : (b : Bool) → is_lt (edge_cmp id least) ≡ b → Below (if not b then Some least else if test id then Some id else Some least) id
      by false is = is
      by true is = subst (λ c. Below (if c then Some id else Some least) id) (sym passes) (itself id)

  keeps_below : (found : Option EdgeId) (ids : List EdgeId) (z : EdgeId) → Below found z → Below (least_edge test found ids) z
  keeps_below found [] z below = below
  keeps_below found (id ∷ ids) z below = keeps_below (next found id) ids z (next_below found id z below)

  pub all_below : (found : Option EdgeId) (ids : List EdgeId) (z : EdgeId) → Contains ids z → test z ≡ true → Below (least_edge test found ids) z
  all_below found [] z has passes = absurd (contains_none z has)
  all_below found (id ∷ ids) z has passes =
      ⊎_elim (λ (same : id ≡ z). keeps_below (next found id) ids z (subst (λ x. Below (next found x) z) (sym same) (next_own found z passes)))
      (λ later. all_below (next found id) ids z later passes) (contains_cases id ids z has)

  abbrev pub Passes : Option EdgeId → Type 0
  Passes found = (id : EdgeId) → found ≡ Some id → test id ≡ true

  next_passes : (found : Option EdgeId) (id : EdgeId) → Passes found → Passes (next found id)
  next_passes found id one = by (is_found_before found id) (test id) refl
    where
      by : (b c : Bool) → test id ≡ c → Passes (if b then found else if c then Some id else found)
      by true c is = one
      by false true is = λ z e. let same : id ≡ z = cc in ap test (sym same) ∙ is
      by false false is = one

  pub least_passes : (found : Option EdgeId) (ids : List EdgeId) → Passes found → Passes (least_edge test found ids)
  least_passes found [] one = one
  least_passes found (id ∷ ids) one = least_passes (next found id) ids (next_passes found id one)

  -- ---- edges that were tested before

  before_below : (found : Option EdgeId) (id : EdgeId) → is_found_before found id ≡ true → Below found id
  before_below None id before = absurd (true≢false (sym before))
  before_below (Some least) id before = by (is_lt (edge_cmp id least)) before
    where
      by : (b : Bool) → not b ≡ true → b ≡ false
      by true h = absurd (true≢false (sym h))
      by false h = refl

  below_before : (found : Option EdgeId) (id : EdgeId) → Below found id → is_found_before found id ≡ true
  below_before None id below = absurd below
  below_before (Some least) id below = ap not below

  -- what was found of some edges is settled for these
  pub all_settled : (found next : Option EdgeId) (ids : List EdgeId) → next ≡ least_edge test found ids → IsSettled test next ids
  all_settled found next ids is =
      subst (λ f. IsSettled test f ids) (sym is) (λ id has passes. below_before (least_edge test found ids) id (all_below found ids id has passes))

  -- and stays so with others
  pub still_settled : (tested : List EdgeId) (found next : Option EdgeId) (ids : List EdgeId) → IsSettled test found tested → next ≡ least_edge test found ids →
      IsSettled test next tested
  still_settled tested found next ids settled is =
      subst (λ f. IsSettled test f tested) (sym is)
      (λ id has passes. below_before (least_edge test found ids) id (keeps_below found ids id (before_below found id (settled id has passes))))

  -- so one of them changes nothing
  pub settled_stays : (tested : List EdgeId) (found : Option EdgeId) → IsSettled test found tested → (id : EdgeId) → Contains tested id →
      found ≡ least_edge test found (id ∷ [])
  settled_stays tested found settled id has = by (test id) refl
    where
      by : (b : Bool) → test id ≡ b → found ≡ (if is_found_before found id then found else if b then Some id else found)
      by true is = sym (ap (λ b. if b then found else Some id) (settled id has is))
      by false is = sym (same_both (is_found_before found id) found)
