-- Types in their order: each is one of the script's, is listed once, and names only types before it.
use Rattle.std.proofs.Common.{◌≡◌, ℕ, zero, suc, ◌<◌, Bool, true, false, not, cond, ◌⊎◌, inl, inr, List, [], ◌∷◌, ◌++◌, length, take, filter, get_or, Option, Some, None, refl, sym, ◌∙◌, ap, subst, arith, leb, length-append}
use Rattle.std.specs.Option.{option_map_or}
use Rattle.std.proofs.lemmas.Bool.{or_from, cases_lt, not-true}
use Rattle.std.proofs.lemmas.List.{get_or_append_left, get_or_at, take-append-le, take_at}
use Rattle.std.proofs.lemmas.List.Folds.{list_any-append}
use Rattle.pgs_base.specs.Pair.{same_name, has_name}
use Rattle.pgs_resolve_declared.specs.Order.{Entry, is_ready, sooner, soonest, listing}
use Rattle.pgs_resolve.proofs.Fresh.{In}
use Rattle.pgs_resolve_declared.proofs.Same.{in_turn}

-- the entry of the name at a place: all that it names stands before, and it doesn't
pub record EntryAt (entries : List Entry) (names : List (List ℕ)) (k : ℕ) : Type 0 where
  pub entry : Entry
  pub among : In entry entries
  pub named : entry.name ≡ get_or names k []
  pub ready : is_ready (take k names) entry ≡ true
  pub new : has_name entry.name (take k names) ≡ false

abbrev pub InOrder : List Entry → List (List ℕ) → Type 0
InOrder entries names = (k : ℕ) → k < length names → EntryAt entries names k

order_push : (entries : List Entry) (names : List (List ℕ)) (entry : Entry) → InOrder entries names → In entry entries → is_ready names entry ≡ true →
    has_name entry.name names ≡ false → InOrder entries (names ++ entry.name ∷ [])
order_push entries names entry order among ready new k lt = elim (cases_lt k (length names)) [
  | inl h ↦
      let old = order k h in
      let front = take-append-le k names (entry.name ∷ []) (omega (arith, h)) in
      record {
        entry = old.entry;
        among = old.among;
        named = old.named ∙ sym (get_or_append_left names (entry.name ∷ []) [] k h);
        ready = ap (λ ns. is_ready ns old.entry) front ∙ old.ready;
        new = ap (has_name old.entry.name) front ∙ old.new;
      }
  | inr h ↦
      let at : length names ≡ k = omega (arith, h, lt, length-append names (entry.name ∷ [])) in
      let front = take_at names (entry.name ∷ []) k at in
      record {
        entry = entry;
        among = among;
        named = sym (get_or_at names entry.name [] [] k at);
        ready = ap (λ ns. is_ready ns entry) front ∙ ready;
        new = ap (has_name entry.name) front ∙ new;
      }
]

-- the soonest of entries is one of them
soonest_in : (entries : List Entry) (entry : Entry) → soonest entries ≡ Some entry → In entry entries
soonest_in [] entry h = cc
soonest_in (first ∷ rest) entry h = by (soonest rest) (λ other e. soonest_in rest other e) refl h
  where
    which : (b : Bool) (other : Entry) → Some (cond b first other) ≡ Some entry → In other rest → (entry ≡ first) ⊎ In entry rest
    which true other e i = inl (cc)
    which false other e i = let same : other ≡ entry = cc in let P : Entry → Type 0 = λ x. In x rest in inr (subst P same i)

    by : (o : Option Entry) → ((other : Entry) → soonest rest ≡ Some other → In other rest) → soonest rest ≡ o →
        Some (option_map_or (sooner first) o first) ≡ Some entry → (entry ≡ first) ⊎ In entry rest
    by None later e h = inl (cc)
    by (Some other) later e h = which (leb first.place other.place) other h (later other e)

-- what is kept of entries
kept_in : (p : Entry → Bool) (entries : List Entry) (entry : Entry) → In entry (filter p entries) → In entry entries × (p entry ≡ true)
kept_in p [] entry i = absurd i
kept_in p (first ∷ rest) entry i = by (p first) (λ j. kept_in p rest entry j) refl i
  where
    by : (b : Bool) → (In entry (filter p rest) → In entry rest × (p entry ≡ true)) → p first ≡ b →
        In entry (cond b (first ∷ filter p rest) (filter p rest)) → ((entry ≡ first) ⊎ In entry rest) × (p entry ≡ true)
    by true later e (inl same) = (inl same, ap p same ∙ e)
    by true later e (inr j) = (inr (later j).0, (later j).1)
    by false later e j = (inr (later j).0, (later j).1)

pub in_order : (entries : List Entry) (further : ℕ) (listed : List (List ℕ)) (left : List Entry) → InOrder entries listed →
    ((entry : Entry) → In entry left → In entry entries) → ((entry : Entry) → In entry left → has_name entry.name listed ≡ false) →
    InOrder entries (listing further listed left)
in_order entries zero listed left order among new = order
in_order entries (suc further) listed left order among new =
    by (soonest (filter (is_ready listed) left)) (λ entry. in_order entries further (listed ++ entry.name ∷ []) (others entry)) refl
  where
    others : Entry → List Entry
    others entry = filter (λ (other : Entry). not (same_name entry.name other.name)) left

    Next : Entry → Type 0
    Next entry =
        InOrder entries (listed ++ entry.name ∷ []) → ((other : Entry) → In other (others entry) → In other entries) →
        ((other : Entry) → In other (others entry) → has_name other.name (listed ++ entry.name ∷ []) ≡ false) →
        InOrder entries (listing further (listed ++ entry.name ∷ []) (others entry))

    by : (o : Option Entry) → ((entry : Entry) → Next entry) → soonest (filter (is_ready listed) left) ≡ o →
        InOrder entries (elim o [ None ↦ listed | Some entry ↦ listing further (listed ++ entry.name ∷ []) (others entry) ])
    by None next e = order
    by (Some entry) next e =
        let mine = kept_in (is_ready listed) left entry (soonest_in (filter (is_ready listed) left) entry e) in
        next entry (order_push entries listed entry order (among entry mine.0) mine.1 (new entry mine.0))
        (λ other i. among other (kept_in (λ (x : Entry). not (same_name entry.name x.name)) left other i).0)
        (λ other i.
        let its = kept_in (λ (x : Entry). not (same_name entry.name x.name)) left other i in
        list_any-append (same_name other.name) listed (entry.name ∷ [])
        ∙ or_from _ _ (new other its.0)
        (or_from _ _ (in_turn other.name entry.name ∙ not-true (same_name entry.name other.name) its.1) refl))

pub all_in_order : (entries : List Entry) → InOrder entries (listing (length entries) [] entries)
all_in_order entries = in_order entries (length entries) [] entries (λ k h. absurd (omega (arith, h))) (λ entry i. i) (λ entry i. refl)
