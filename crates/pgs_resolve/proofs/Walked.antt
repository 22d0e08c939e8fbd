-- Imports are walked once, each behind its own imports, and to the last of them.
use Rattle.std.proofs.Common.{◌≡◌, ℕ, zero, suc, ◌+◌, ◌≤◌, Bool, true, false, cond, ◌⊎◌, inl, inr, List, [], ◌∷◌, ◌++◌, length, Some, refl, sym, ◌∙◌, ap, subst, true≢false, arith, append_assoc}
use Rattle.std.specs.Prelude.{Contains, find}
use Rattle.std.specs.List.{fold}
use Rattle.std.proofs.lemmas.Bool.{false_from_ne_true}
use Rattle.std.proofs.lemmas.List.{append-nil}
use Rattle.std.proofs.lemmas.List.Elements.{Contains-append_left, Contains-append_right, Contains-append_cases}
use Rattle.pgs_base.specs.Pair.{has_name}
use Rattle.pgs_syntax.specs.declared.script.Script.{Script}
use Rattle.pgs_syntax.proofs.Members.{contains_first, contains_later, contains_cases, contains_none}
use Rattle.pgs_resolve_declared.specs.Imports.{walked}
use Rattle.pgs_resolve_declared.specs.Refused.{imported_by}
use Rattle.pgs_resolve.specs.Standing.{CanFollow}
use Rattle.pgs_resolve.specs.Ways.{LeadsTo, step, further, graph_names}
use Rattle.pgs_resolve.proofs.Members.{named, has, Apart, few}
use Rattle.pgs_resolve.proofs.Trails.{after}

-- the first that passes a test passes it
pub found_passes : {X : Type 0} (p : X → Bool) (xs : List X) (x : X) → find p xs ≡ Some x → p x ≡ true
found_passes p [] x h = cc
found_passes p (y ∷ ys) x h = by (p y) refl h (found_passes p ys x)
  where
    by : (b : Bool) → p y ≡ b → cond b (Some y) (find p ys) ≡ Some x → (find p ys ≡ Some x → p x ≡ true) → p x ≡ true
    by true e found rest = let same : y ≡ x = cc in ap p (sym same) ∙ e
    by false e found rest = rest found

module _ (script : Script) where
  abbrev next : List ℕ → List (List ℕ)
  next = imported_by script

  abbrev graphs : List (List ℕ)
  graphs = graph_names script

  -- names each of which can follow those before it
  abbrev EachFollows : List (List ℕ) → List (List ℕ) → Type 0
  EachFollows listed [] = Unit {0}
  EachFollows listed (name ∷ names) = CanFollow listed name (next name) × EachFollows (listed ++ name ∷ []) names

  follows_then : (listed more later : List (List ℕ)) → EachFollows listed more → EachFollows (listed ++ more) later → EachFollows listed (more ++ later)
  follows_then listed [] later each rest = subst (λ (ns : List (List ℕ)). EachFollows ns later) (append-nil listed) rest
  follows_then listed (name ∷ more) later each rest =
      (each.0, follows_then (listed ++ name ∷ []) more later each.1 (subst (λ (ns : List (List ℕ)). EachFollows ns later) (sym (append_assoc listed (name ∷ []) more)) rest))

  follows_at : (listed more before : List (List ℕ)) (name : List ℕ) (rest : List (List ℕ)) → EachFollows listed more → more ≡ before ++ name ∷ rest →
      CanFollow (listed ++ before) name (next name)
  follows_at listed [] [] name rest each e = cc
  follows_at listed [] (b ∷ before) name rest each e = cc
  follows_at listed (m ∷ more) [] name rest each e =
      let same : m ≡ name = cc in
      subst (λ (all : List (List ℕ)). CanFollow all name (next name)) (sym (append-nil listed)) (subst (λ (n : List ℕ). CanFollow listed n (next n)) same each.0)
  follows_at listed (m ∷ more) (b ∷ before) name rest each e =
      let same : m ≡ b = cc in
      let later : more ≡ before ++ name ∷ rest = cc in
      subst (λ (all : List (List ℕ)). CanFollow all name (next name))
      (append_assoc listed (m ∷ []) before ∙ ap (λ (x : List ℕ). listed ++ x ∷ before) same)
      (follows_at (listed ++ m ∷ []) more before name rest each.1 later)

  -- what is behind names once names are walked
  record Walk (starts before whole : List (List ℕ)) : Type 0 where
    more : List (List ℕ)
    is : whole ≡ before ++ more
    each : EachFollows before more
    there : (name : List ℕ) → Contains starts name → Contains whole name
    from : (name : List ℕ) → Contains more name → (start : List ℕ) × Contains starts start × ((name ≡ start) ⊎ LeadsTo next start name)

  module _ (declared : (name to : List ℕ) → Contains (next name) to → has_name to graphs ≡ true) (none_back : (name : List ℕ) → LeadsTo next name name → ⊥) where
    all_walks : (walk : List (List ℕ) → List ℕ → List (List ℕ)) (starts : List (List ℕ)) →
        ((start : List ℕ) → Contains starts start → (before : List (List ℕ)) → Walk (start ∷ []) before (walk before start)) →
        (before : List (List ℕ)) → Walk starts before (fold walk before starts)
    all_walks walk [] one before = record {
      more = [];
      is = sym (append-nil before);
      each = tt;
      there = λ name i. absurd (contains_none name i);
      from = λ name i. absurd (contains_none name i);
    }
    all_walks walk (start ∷ starts) one before =
        let first = one start (contains_first start starts) before in
        let rest = all_walks walk starts (λ s i. one s (contains_later start starts s i)) (walk before start) in record {
          more = first.more ++ rest.more;
          is = rest.is ∙ ap (λ (ns : List (List ℕ)). ns ++ rest.more) first.is ∙ append_assoc before first.more rest.more;
          each = follows_then before first.more rest.more first.each (subst (λ (ns : List (List ℕ)). EachFollows ns rest.more) first.is rest.each);
          there = λ name i. elim (contains_cases start starts name i) [
            | inl same ↦
                subst (λ (ns : List (List ℕ)). Contains ns name) (sym rest.is)
                (Contains-append_left (walk before start) rest.more name (subst (Contains (walk before start)) same (first.there start (contains_first start []))))
            | inr later ↦ rest.there name later
          ];
          from = λ name i. elim (Contains-append_cases first.more rest.more name i) [
            | inl mine ↦ let it = first.from name mine in elim (contains_cases start [] it.0 it.1) [
              | inl same ↦ (start, contains_first start starts, subst (λ (s : List ℕ). (name ≡ s) ⊎ LeadsTo next s name) (sym same) it.2)
              | inr none ↦ absurd (contains_none it.0 none)
            ]
            | inr later ↦ let it = rest.from name later in (it.0, contains_later start starts it.0 it.1, it.2)
          ];
        }

    -- a name behind all its imports
    then_itself : (name : List ℕ) (before whole : List (List ℕ)) → has_name name before ≡ false → Walk (next name) before whole → Walk (name ∷ []) before (whole ++ name ∷ [])
    then_itself name before whole new w = record {
      more = w.more ++ name ∷ [];
      is = ap (λ (ns : List (List ℕ)). ns ++ name ∷ []) w.is ∙ append_assoc before w.more (name ∷ []);
      each = follows_then before w.more (name ∷ []) w.each (subst (λ (ns : List (List ℕ)). CanFollow ns name (next name)) w.is follows, tt);
      there = λ other i. elim (contains_cases name [] other i) [
        | inl same ↦ subst (Contains (whole ++ name ∷ [])) same (Contains-append_right whole (name ∷ []) name (contains_first name []))
        | inr none ↦ absurd (contains_none other none)
      ];
      from = λ other i. elim (Contains-append_cases w.more (name ∷ []) other i) [
        | inl import ↦ (name, contains_first name [], inr (led other (w.from other import)))
        | inr mine ↦ elim (contains_cases name [] other mine) [
          | inl same ↦ (name, contains_first name [], inl (sym same))
          | inr none ↦ absurd (contains_none other none)
        ]
      ];
    }
      where
        led : (other : List ℕ) → (start : List ℕ) × Contains (next name) start × ((other ≡ start) ⊎ LeadsTo next start other) → LeadsTo next name other
        led other it = elim it.2 [
          | inl same ↦ step (subst (Contains (next name)) (sym same) it.1)
          | inr way ↦ further it.1 way
        ]

        fresh : Contains whole name → ⊥
        fresh i = elim (Contains-append_cases before w.more name (subst (λ (ns : List (List ℕ)). Contains ns name) w.is i)) [
          | inl old ↦ true≢false (sym (has name before old) ∙ new)
          | inr import ↦ none_back name (led name (w.from name import))
        ]

        follows : CanFollow whole name (next name)
        follows = record { new = fresh; behind = w.there }

    walk : (depth : ℕ) (path : List (List ℕ)) (name : List ℕ) → Apart path → ((other : List ℕ) → Contains path other → has_name other graphs ≡ true) →
        ((other : List ℕ) → Contains path other → LeadsTo next other name) → has_name name graphs ≡ true → length graphs ≤ depth + length path →
        (before : List (List ℕ)) → Walk (name ∷ []) before (walked script depth before name)
    walk zero path name apart among led mine short before =
        let new : has_name name path ≡ false = false_from_ne_true (has_name name path) (λ there. none_back name (led name (named name path there))) in
        let most : length (name ∷ path) ≤ length graphs = few (name ∷ path) graphs (new, apart)
        (λ other i. elim (contains_cases name path other i) [
          | inl same ↦ ap (λ n. has_name n graphs) (sym same) ∙ mine
          | inr later ↦ among other later
        ]) in
        absurd (omega arith)
    walk (suc depth) path name apart among led mine short before =
        by (has_name name before) refl
        (all_walks (walked script depth) (next name)
        (λ start import. walk depth (name ∷ path) start (new, apart)
        (λ other i. elim (contains_cases name path other i) [
          | inl same ↦ ap (λ n. has_name n graphs) (sym same) ∙ mine
          | inr later ↦ among other later
        ])
        (λ other i. elim (contains_cases name path other i) [
          | inl same ↦ subst (λ n. LeadsTo next n start) same (step import)
          | inr later ↦ after next other name start (led other later) import
        ])
        (declared name start import) (omega arith)) before)
      where
        new : has_name name path ≡ false
        new = false_from_ne_true (has_name name path) (λ there. none_back name (led name (named name path there)))

        by : (b : Bool) → has_name name before ≡ b → Walk (next name) before (fold (walked script depth) before (next name)) →
            Walk (name ∷ []) before (cond b before (fold (walked script depth) before (next name) ++ name ∷ []))
        by true e w = record {
          more = [];
          is = sym (append-nil before);
          each = tt;
          there = λ other i. elim (contains_cases name [] other i) [
            | inl same ↦ subst (Contains before) same (named name before e)
            | inr none ↦ absurd (contains_none other none)
          ];
          from = λ other i. absurd (contains_none other i);
        }
        by false e w = then_itself name before (fold (walked script depth) before (next name)) e w

    -- ---- the graph types that are walked from one

    module _ (depth : ℕ) (deep : length graphs ≤ depth) (first : List ℕ) (mine : has_name first graphs ≡ true) where
      abbrev names : List (List ℕ)
      names = walked script depth [] first

      whole : Walk (first ∷ []) [] names
      whole = walk depth [] first tt (λ other i. absurd (contains_none other i)) (λ other i. absurd (contains_none other i)) mine (omega arith) []

      each_there : EachFollows [] names
      each_there = subst (EachFollows []) (sym whole.is) whole.each

      pub walked_from : (name : List ℕ) → Contains names name → (name ≡ first) ⊎ LeadsTo next first name
      walked_from name i =
          let it = whole.from name (subst (λ (ns : List (List ℕ)). Contains ns name) whole.is i) in elim (contains_cases first [] it.0 it.1) [
            | inl same ↦ subst (λ (s : List ℕ). (name ≡ s) ⊎ LeadsTo next s name) (sym same) it.2
            | inr none ↦ absurd (contains_none it.0 none)
          ]

      pub walked_at : (before : List (List ℕ)) (name : List ℕ) (rest : List (List ℕ)) → names ≡ before ++ name ∷ rest → CanFollow before name (next name)
      walked_at before name rest e = follows_at [] names before name rest each_there e

      cut_at : (all : List (List ℕ)) (name : List ℕ) → Contains all name → (before : List (List ℕ)) × (rest : List (List ℕ)) × (all ≡ before ++ name ∷ rest)
      cut_at [] name i = absurd (contains_none name i)
      cut_at (x ∷ xs) name i = elim (contains_cases x xs name i) [
        | inl same ↦ ([], xs, ap (λ (n : List ℕ). n ∷ xs) same)
        | inr later ↦ let it = cut_at xs name later in (x ∷ it.0, it.1, ap (λ (ns : List (List ℕ)). x ∷ ns) it.2)
      ]

      goes_on : (from to : List ℕ) → LeadsTo next from to → Contains names from → Contains names to
      goes_on from to (step h) there =
          let cut = cut_at names from there in
          subst (λ (ns : List (List ℕ)). Contains ns to) (sym cut.2)
          (Contains-append_left cut.0 (from ∷ cut.1) to ((walked_at cut.0 from cut.1 cut.2).behind to h))
      goes_on from to (further {via = via} h rest) there =
          let cut = cut_at names from there in
          goes_on via to rest
          (subst (λ (ns : List (List ℕ)). Contains ns via) (sym cut.2)
          (Contains-append_left cut.0 (from ∷ cut.1) via ((walked_at cut.0 from cut.1 cut.2).behind via h)))

      pub walked_to : (name : List ℕ) → (name ≡ first) ⊎ LeadsTo next first name → Contains names name
      walked_to name (inl same) = subst (Contains names) (sym same) (whole.there first (contains_first first []))
      walked_to name (inr way) = goes_on first name way (whole.there first (contains_first first []))

      way_declared : (from to : List ℕ) → LeadsTo next from to → has_name to graphs ≡ true
      way_declared from to (step h) = declared from to h
      way_declared from to (further {via = via} h rest) = way_declared via to rest

      pub all_declared : (name : List ℕ) → Contains names name → has_name name graphs ≡ true
      all_declared name i = elim (walked_from name i) [
        | inl same ↦ ap (λ n. has_name n graphs) same ∙ mine
        | inr way ↦ way_declared first name way
      ]
