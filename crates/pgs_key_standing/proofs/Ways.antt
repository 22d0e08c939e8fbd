-- The ways to meet demands: one more way, and the demands behind the first.
use Rattle.std.proofs.Common.{◌≡◌, ℕ, ◌+◌, ◌<◌, Bool, true, false, ◌&&◌, ◌||◌, List, [], ◌∷◌, ◌++◌, length, take, get_or, Option, MatchBool, refl, sym, ◌∙◌, ap}
use Rattle.std.specs.List.{list_any, list_all}
use Rattle.std.proofs.Math.Bool.{or-false}
use Rattle.std.proofs.lemmas.Bool.{and_parts, and_from, and_left, and_right}
use Rattle.std.proofs.lemmas.List.{take_more}
use Rattle.std.proofs.lemmas.List.Folds.{list_any-append, list_any_at}
use Rattle.pgs_base.specs.declared.row.NodeRow.{NodeRow}
use Rattle.pgs_conform.specs.declared.shape.Shape.{Shape}
use Rattle.pgs_key_standing.specs.declared.demand.Demand.{Demand}
use Rattle.pgs_key_standing.specs.Demands.{are_small, are_in, meets, in_way, in_some_way, HaveSmall, LackSmall, CanMeet, CannotMeet}

abbrev Pairs : Type 0
Pairs = List NodeRow

abbrev Ways : Type 0
Ways = List (List Shape)

any_more : {S : Type 0} (q : S → Bool) (xs : List S) (i : ℕ) (x : S) → i < length xs → x ≡ get_or xs i x → list_any q (take (i + 1) xs) ≡ (list_any q (take i xs) || q x)
any_more q xs i x lt is =
    ap (list_any q) (take_more xs i x lt ∙ ap (λ y. take i xs ++ y ∷ []) (sym is)) ∙ list_any-append q (take i xs) (x ∷ [])
    ∙ ap (λ b. list_any q (take i xs) || b) (or-false (q x))

-- a way that is put last
pub way_pushed : (old new : Ways) (places : List Shape) → new ≡ old ++ places ∷ [] → (ps : Pairs) → in_some_way new ps ≡ (in_some_way old ps || are_in places ps)
way_pushed old new places pushed ps =
    ap (λ ws. in_some_way ws ps) pushed ∙ list_any-append (λ ss. are_in ss ps) old (places ∷ []) ∙ ap (λ b. in_some_way old ps || b) (or-false (are_in places ps))

or_and : (a m n : Bool) → ((a && m) || (a && n)) ≡ (a && (m || n))
or_and true m n = refl
or_and false m n = refl

-- one alternative more, each of which is a test of the pairs
pub way_more : {X : Type 0} (test : Pairs → X → Bool) (places : List Shape) (xs : List X) (i : ℕ) (x : X) (old new : Ways) (way : Option (List Shape)) → i < length xs → x ≡ get_or xs i x →
    ((ps : Pairs) → in_some_way new ps ≡ (in_some_way old ps || in_way way ps)) →
    ((ps : Pairs) → are_small ps ≡ true → in_way way ps ≡ (are_in places ps && test ps x)) →
    ((ps : Pairs) → are_small ps ≡ true → in_some_way old ps ≡ (are_in places ps && list_any (test ps) (take i xs))) →
    (ps : Pairs) → are_small ps ≡ true → in_some_way new ps ≡ (are_in places ps && list_any (test ps) (take (i + 1) xs))
way_more test places xs i x old new way lt is pushed own before ps small =
    pushed ps ∙ ap (λ b. b || in_way way ps) (before ps small) ∙ ap (λ b. (are_in places ps && list_any (test ps) (take i xs)) || b) (own ps small)
    ∙ or_and (are_in places ps) (list_any (test ps) (take i xs)) (test ps x)
    ∙ ap (λ b. are_in places ps && b) (sym (any_more (test ps) xs i x lt is))

pub no_way : (a : Bool) → false ≡ (a && false)
no_way a = sym (and_right a false refl)

-- ---- the first demand, and those behind it

-- no pairs of some ways meet demands
abbrev pub NoneOf : Ways → List Demand → Type 0
NoneOf ways later = (ps : Pairs) → are_small ps ≡ true → (in_some_way ways ps && list_all (meets ps) later) ≡ false

pub none_at_first : (later : List Demand) → NoneOf [] later
none_at_first later ps small = refl

abbrev pub IsWays : Ways → List Shape → Demand → Type 0
IsWays ways places demand = (ps : Pairs) → are_small ps ≡ true → in_some_way ways ps ≡ (are_in places ps && meets ps demand)

module _ (places : List Shape) (demand : Demand) (later : List Demand) (ways : Ways) (are : IsWays ways places demand) where
  assoc : (a b c : Bool) → ((a && b) && c) ≡ (a && (b && c))
  assoc true b c = refl
  assoc false b c = refl

  pub can_by : (i : ℕ) (way : List Shape) → i < length ways → way ≡ get_or ways i way → CanMeet way later → CanMeet places (demand ∷ later)
  can_by i way lt is can =
      let parts = and_parts (are_in way can.0) (list_all (meets can.0) later) can.2 in
      let some = list_any_at (λ ss. are_in ss can.0) ways i way lt (ap (λ ss. are_in ss can.0) (sym is) ∙ parts.0) in
      (can.0, can.1, sym (assoc (are_in places can.0) (meets can.0 demand) (list_all (meets can.0) later)) ∙ and_from _ _ (sym (are can.0 can.1) ∙ some) parts.1)

  pub cannot_by : NoneOf ways later → CannotMeet places (demand ∷ later)
  cannot_by none ps small =
      sym (assoc (are_in places ps) (meets ps demand) (list_all (meets ps) later)) ∙ ap (λ b. b && list_all (meets ps) later) (sym (are ps small)) ∙ none ps small

pub none_more : (ways : Ways) (later : List Demand) (i : ℕ) (way : List Shape) → i < length ways → way ≡ get_or ways i way → CannotMeet way later → NoneOf (take i ways) later →
    NoneOf (take (i + 1) ways) later
none_more ways later i way lt is cannot before ps small =
    ap (λ b. b && list_all (meets ps) later) (any_more (λ ss. are_in ss ps) ways i way lt is)
    ∙ either (in_some_way (take i ways) ps) (are_in way ps) (list_all (meets ps) later) (before ps small) (cannot ps small)
  where
    either : (a b c : Bool) → (a && c) ≡ false → (b && c) ≡ false → ((a || b) && c) ≡ false
    either true b c f g = f
    either false b c f g = g

-- ---- no demand is left

pub can_at_end : (places : List Shape) → HaveSmall places → CanMeet places []
can_at_end places have = (have.0, have.1, and_from (are_in places have.0) true have.2 refl)

pub cannot_at_end : (places : List Shape) → LackSmall places → CannotMeet places []
cannot_at_end places lack ps small = and_left (are_in places ps) true (lack ps small)

pub met_at_end : (places : List Shape) (answer : Bool) → MatchBool answer (HaveSmall places) (LackSmall places) → MatchBool answer (CanMeet places []) (CannotMeet places [])
met_at_end places true h = can_at_end places h
met_at_end places false h = cannot_at_end places h
