-- The list of types: what it contains, and what stands in it next.
use Rattle.std.proofs.Common.{◌≡◌, ℕ, zero, suc, ◌≤◌, Bool, true, false, not, cond, ◌||◌, ◌⊎◌, inl, inr, List, [], ◌∷◌, ◌++◌, map, filter, Option, Some, None, refl, sym, ◌∙◌, ap, subst, true≢false, arith, leb, append_assoc}
use Rattle.std.specs.Prelude.{Contains}
use Rattle.std.specs.Option.{option_map_or}
use Rattle.std.proofs.lemmas.Bool.{or_from, or_parts, leb-true, not-true, false_from_ne_true, not_from_false}
use Rattle.std.proofs.lemmas.Bool.Decides.{nat_tests}
use Rattle.std.proofs.lemmas.List.{append-nil}
use Rattle.std.proofs.lemmas.List.Elements.{Contains-append_cases}
use Rattle.std.proofs.lemmas.List.Folds.{list_any-append}
use Rattle.pgs_base.specs.Pair.{same_name, has_name}
use Rattle.pgs_syntax.proofs.Members.{contains_first, contains_later, contains_cases, contains_none, kept_found, kept_given}
use Rattle.pgs_resolve_declared.specs.Order.{Entry, is_ready, sooner, soonest, listing}
use Rattle.pgs_resolve_declared.proofs.Same.{in_turn}
use Rattle.pgs_resolve.specs.Standing.{IsNext}
use Rattle.pgs_resolve.proofs.Members.{named, has, all_at, all_given}

-- ---- the soonest of entries

pub record IsSoonest (entries : List Entry) (entry : Entry) : Type 0 where
  pub among : Contains entries entry
  pub least : (other : Entry) → Contains entries other → entry.place ≤ other.place

pub soonest_is : (entries : List Entry) (entry : Entry) → soonest entries ≡ Some entry → IsSoonest entries entry
soonest_is [] entry h = cc
soonest_is (x ∷ xs) entry h = by (soonest xs) refl h (soonest_is xs)
  where
    none_left : (all : List Entry) → soonest all ≡ None → all ≡ []
    none_left [] e = refl
    none_left (y ∷ ys) e = cc

    of_both : (z : Entry) → IsSoonest xs z → (b : Bool) → leb x.place z.place ≡ b → IsSoonest (x ∷ xs) (cond b x z)
    of_both z rest true e =
        let first = leb-true x.place z.place e in record {
          among = contains_first x xs;
          least = λ other i. elim (contains_cases x xs other i) [
            | inl same ↦ let p : x.place ≡ other.place = ap (λ (y : Entry). y.place) same in omega arith
            | inr later ↦ let l = rest.least other later in omega arith
          ];
        }
    of_both z rest false e =
        let second : z.place ≤ x.place = grind (arith, nat_tests) in record {
          among = contains_later x xs z rest.among;
          least = λ other i. elim (contains_cases x xs other i) [
            | inl same ↦ let p : x.place ≡ other.place = ap (λ (y : Entry). y.place) same in omega arith
            | inr later ↦ rest.least other later
          ];
        }

    alone : xs ≡ [] → IsSoonest (x ∷ xs) x
    alone none = record {
      among = contains_first x xs;
      least = λ other i. elim (contains_cases x xs other i) [
        | inl same ↦ let p : x.place ≡ other.place = ap (λ (y : Entry). y.place) same in omega arith
        | inr later ↦ absurd (contains_none other (subst (λ (all : List Entry). Contains all other) none later))
      ];
    }

    by : (o : Option Entry) → soonest xs ≡ o → Some (option_map_or (sooner x) o x) ≡ Some entry → ((z : Entry) → soonest xs ≡ Some z → IsSoonest xs z) →
        IsSoonest (x ∷ xs) entry
    by None e found rest = let same : x ≡ entry = cc in subst (IsSoonest (x ∷ xs)) same (alone (none_left xs e))
    by (Some z) e found rest =
        let same : sooner x z ≡ entry = cc in subst (IsSoonest (x ∷ xs)) same (of_both z (rest z e) (leb x.place z.place) refl)

pub none_soonest : (entries : List Entry) → soonest entries ≡ None → entries ≡ []
none_soonest [] h = refl
none_soonest (entry ∷ entries) h = cc

-- ---- what is left to be listed

abbrev pub others : Entry → List Entry → List Entry
others entry left = filter (λ (other : Entry). not (same_name entry.name other.name)) left

-- whether what is left are the entries that aren't listed
pub record AreLeft (entries : List Entry) (listed : List (List ℕ)) (left : List Entry) : Type 0 where
  pub kept : (entry : Entry) → Contains left entry → Contains entries entry × (has_name entry.name listed ≡ false)
  pub all : (entry : Entry) → Contains entries entry → has_name entry.name listed ≡ false → Contains left entry

module _ (entries : List Entry) where
  left_at_first : AreLeft entries [] entries
  left_at_first = record { kept = λ entry i. (i, refl); all = λ entry i new. i }

  pub left_then : (listed : List (List ℕ)) (left : List Entry) (entry : Entry) → AreLeft entries listed left →
      AreLeft entries (listed ++ entry.name ∷ []) (others entry left)
  left_then listed left entry are = record {
    kept = λ other i.
        let its = kept_found (λ (x : Entry). not (same_name entry.name x.name)) left other i in
        let before = are.kept other its.0 in (
          before.0,
          list_any-append (same_name other.name) listed (entry.name ∷ [])
              ∙ or_from _ _ before.1 (or_from _ _ (in_turn other.name entry.name ∙ not-true (same_name entry.name other.name) its.1) refl),
        );
    all = λ other i new.
        let parts = or_parts (has_name other.name listed) (same_name other.name entry.name || false)
        (sym (list_any-append (same_name other.name) listed (entry.name ∷ [])) ∙ new) in
        let apart = or_parts (same_name other.name entry.name) false parts.1 in
        kept_given (λ (x : Entry). not (same_name entry.name x.name)) left other (are.all other i parts.0)
        (not_from_false (same_name entry.name other.name) (in_turn entry.name other.name ∙ apart.0));
  }

  -- ---- each that is listed next

  abbrev EachNext : List (List ℕ) → List (List ℕ) → Type 0
  EachNext listed [] = Unit {0}
  EachNext listed (name ∷ names) = IsNext entries listed name × EachNext (listed ++ name ∷ []) names

  -- what is listed behind names
  record Behind (listed whole : List (List ℕ)) : Type 0 where
    more : List (List ℕ)
    is : whole ≡ listed ++ more
    next : EachNext listed more

  is_next : (listed : List (List ℕ)) (left : List Entry) (entry : Entry) → AreLeft entries listed left → IsSoonest (filter (is_ready listed) left) entry →
      IsNext entries listed entry.name
  is_next listed left entry are soonest =
      let ready = kept_found (is_ready listed) left entry soonest.among in
      let mine = are.kept entry ready.0 in record {
        entry = entry;
        among = mine.0;
        named = refl;
        follows = record {
          new = λ i. true≢false (sym (has entry.name listed i) ∙ mine.1);
          behind = λ other i. named other listed (all_at (λ name. has_name name listed) entry.names other ready.1 i);
        };
        least = λ other i can.
            soonest.least other
            (kept_given (is_ready listed) left other
            (are.all other i (false_from_ne_true (has_name other.name listed) (λ there. can.new (named other.name listed there))))
            (all_given (λ name. has_name name listed) other.names (λ name there. has name listed (can.behind name there))));
      }

  behind : (further : ℕ) (listed : List (List ℕ)) (left : List Entry) → AreLeft entries listed left → Behind listed (listing further listed left)
  behind zero listed left are = record { more = []; is = sym (append-nil listed); next = tt }
  behind (suc further) listed left are =
      by (soonest (filter (is_ready listed) left)) refl (λ entry. behind further (listed ++ entry.name ∷ []) (others entry left) (left_then listed left entry are))
    where
      by : (o : Option Entry) → soonest (filter (is_ready listed) left) ≡ o →
          ((entry : Entry) → Behind (listed ++ entry.name ∷ []) (listing further (listed ++ entry.name ∷ []) (others entry left))) →
          Behind listed (elim o [ None ↦ listed | Some entry ↦ listing further (listed ++ entry.name ∷ []) (others entry left) ])
      by None e rest = record { more = []; is = sym (append-nil listed); next = tt }
      by (Some entry) e rest =
          let later = rest entry in record {
            more = entry.name ∷ later.more;
            is = later.is ∙ append_assoc listed (entry.name ∷ []) later.more;
            next = (is_next listed left entry are (soonest_is (filter (is_ready listed) left) entry e), later.next);
          }

  -- at a place of what is listed
  at_cut : (listed more before : List (List ℕ)) (name : List ℕ) (after : List (List ℕ)) → EachNext listed more → more ≡ before ++ name ∷ after →
      IsNext entries (listed ++ before) name
  at_cut listed [] [] name after each e = cc
  at_cut listed [] (b ∷ before) name after each e = cc
  at_cut listed (m ∷ more) [] name after each e =
      let same : m ≡ name = cc in
      subst (λ (all : List (List ℕ)). IsNext entries all name) (sym (append-nil listed)) (subst (IsNext entries listed) same each.0)
  at_cut listed (m ∷ more) (b ∷ before) name after each e =
      let same : m ≡ b = cc in
      let rest : more ≡ before ++ name ∷ after = cc in
      subst (λ (all : List (List ℕ)). IsNext entries all name)
      (append_assoc listed (m ∷ []) before ∙ ap (λ (x : List ℕ). listed ++ x ∷ before) same)
      (at_cut (listed ++ m ∷ []) more before name after each.1 rest)

  pub next_at : (further : ℕ) (before : List (List ℕ)) (name : List ℕ) (after : List (List ℕ)) → listing further [] entries ≡ before ++ name ∷ after →
      IsNext entries before name
  next_at further before name after e =
      let all = behind further [] entries left_at_first in at_cut [] all.more before name after all.next (sym all.is ∙ e)

  -- ---- what is listed are names of entries

  pub listed_from : (further : ℕ) (listed : List (List ℕ)) (left : List Entry) (name : List ℕ) → Contains (listing further listed left) name →
      Contains listed name ⊎ Contains (map (λ (entry : Entry). entry.name) left) name
  listed_from zero listed left name h = inl h
  listed_from (suc further) listed left name h =
      by (soonest (filter (is_ready listed) left)) refl (λ entry. listed_from further (listed ++ entry.name ∷ []) (others entry left) name) h
    where
      names_of : List Entry → List (List ℕ)
      names_of = map (λ (entry : Entry). entry.name)

      in_names : (all : List Entry) (entry : Entry) → Contains all entry → Contains (names_of all) entry.name
      in_names [] entry i = absurd (contains_none entry i)
      in_names (x ∷ xs) entry i = elim (contains_cases x xs entry i) [
        | inl same ↦ subst (Contains (names_of (x ∷ xs))) (ap (λ (y : Entry). y.name) same) (contains_first x.name (names_of xs))
        | inr later ↦ contains_later x.name (names_of xs) entry.name (in_names xs entry later)
      ]

      still : (p : Entry → Bool) (all : List Entry) → Contains (names_of (filter p all)) name → Contains (names_of all) name
      still p [] i = i
      still p (x ∷ xs) i = kept (p x) (still p xs) i
        where
          kept : (b : Bool) → (Contains (names_of (filter p xs)) name → Contains (names_of xs) name) → Contains (names_of (cond b (x ∷ filter p xs) (filter p xs))) name →
              Contains (names_of (x ∷ xs)) name
          kept true rest j = elim (contains_cases x.name (names_of (filter p xs)) name j) [
            | inl same ↦ subst (Contains (names_of (x ∷ xs))) same (contains_first x.name (names_of xs))
            | inr later ↦ contains_later x.name (names_of xs) name (rest later)
          ]
          kept false rest j = contains_later x.name (names_of xs) name (rest j)

      by : (o : Option Entry) → soonest (filter (is_ready listed) left) ≡ o →
          ((entry : Entry) → Contains (listing further (listed ++ entry.name ∷ []) (others entry left)) name →
          Contains (listed ++ entry.name ∷ []) name ⊎ Contains (names_of (others entry left)) name) →
          Contains (elim o [ None ↦ listed | Some entry ↦ listing further (listed ++ entry.name ∷ []) (others entry left) ]) name →
          Contains listed name ⊎ Contains (names_of left) name
      by None e rest i = inl i
      by (Some entry) e rest i = elim (rest entry i) [
        | inl there ↦ elim (Contains-append_cases listed (entry.name ∷ []) name there) [
          | inl old ↦ inl old
          | inr mine ↦ elim (contains_cases entry.name [] name mine) [
            | inl same ↦
                let ready = kept_found (is_ready listed) left entry (soonest_is (filter (is_ready listed) left) entry e).among in
                inr (subst (Contains (names_of left)) same (in_names left entry ready.0))
            | inr none ↦ absurd (contains_none name none)
          ]
        ]
        | inr later ↦ inr (still (λ (other : Entry). not (same_name entry.name other.name)) left later)
      ]
