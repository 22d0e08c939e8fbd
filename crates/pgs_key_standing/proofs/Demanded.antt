-- Demands that are put last, and what they ask of small pairs.
use Rattle.std.proofs.Common.{◌≡◌, ℕ, zero, suc, ◌+◌, ◌-◌, ◌≤◌, Bool, true, false, ◌&&◌, ◌||◌, List, [], ◌∷◌, ◌++◌, length, take, drop, ◌==◌, Result, OnOk, Option, Some, None, slice_get, refl, sym, ◌∙◌, ap, arith, true≢false}
use Rattle.std.specs.Option.{option_map_or}
use Rattle.std.specs.List.{list_any, list_all}
use Rattle.std.proofs.lemmas.Result.{on_ok_weaker}
use Rattle.std.proofs.lemmas.Bool.{and_parts, and_from, and_right, false_from_ne_true, eqb-true, eq-eqb}
use Rattle.pgs_base.specs.declared.row.NodeRow.{NodeRow}
use Rattle.pgs_base.specs.Pair.{is_pair}
use Rattle.pgs_syntax.specs.declared.resolved.Resolved.{Resolved}
use Rattle.pgs_syntax.specs.Join.{PairTriple}
use Rattle.pgs_conform.specs.declared.shape.Shape.{Shape}
use Rattle.pgs_conform.specs.declared.shape.Triple.{Triple as ShapeTriple}
use Rattle.pgs_conform.specs.Shapes.{in_shape, triple_of, Denotes, DenotesTriples}
use Rattle.pgs_standing.specs.Standing.{is_small, admits_node, admits_edge, can_stand_node, can_stand_edge}
use Rattle.pgs_key_standing.specs.declared.demand.Demand.{Demand}
use Rattle.pgs_key_standing.specs.declared.demand.Demand.TheVariants.{One, Three}
use Rattle.pgs_key_standing.specs.Demands.{are_small, are_in, is_in, are_in_three, meets, Adds}
use Rattle.pgs_key_standing.specs.Placed.{passes_at, pass_at}

abbrev Pairs : Type 0
Pairs = List NodeRow

pub small_at : (ps : Pairs) (i : ℕ) (p : NodeRow) → are_small ps ≡ true → slice_get ps i ≡ Some p → (is_pair p ≡ true) × (is_small p ≡ true)
small_at [] i p small at = cc
small_at (q ∷ ps) zero p small at =
    let parts = and_parts (is_pair q) (is_small q) (and_parts (is_pair q && is_small q) (are_small ps) small).0 in
    (ap is_pair (sym (one q p at)) ∙ parts.0, ap is_small (sym (one q p at)) ∙ parts.1)
  where
    one : (a b : NodeRow) → Some a ≡ Some b → a ≡ b
    one a b e = cc
small_at (q ∷ ps) (suc i) p small at = small_at ps i p (and_parts (is_pair q && is_small q) (are_small ps) small).1 at

all_last : {X : Type 0} (test : X → Bool) (xs : List X) (x : X) → list_all test (xs ++ x ∷ []) ≡ (list_all test xs && test x)
all_last test [] x = last (test x)
  where
    last : (b : Bool) → (b && true) ≡ (true && b)
    last true = refl
    last false = refl
all_last test (y ∷ xs) x = ap (λ b. test y && b) (all_last test xs x) ∙ sym (assoc (test y) (list_all test xs) (test x))
  where
    assoc : (a b c : Bool) → ((a && b) && c) ≡ (a && (b && c))
    assoc true b c = refl
    assoc false b c = refl

-- ---- one place

any_none : {X : Type 0} (xs : List X) → list_any (λ (x : X). false) xs ≡ false
any_none [] = refl
any_none (x ∷ xs) = any_none xs

one_met : (ps : Pairs) (place : ℕ) (shapes : List Shape) (test : NodeRow → Bool) → Denotes shapes test → are_small ps ≡ true → list_any (is_in ps place) shapes ≡ passes_at ps place test
one_met ps place shapes test denote small = by (slice_get ps place) refl
  where
    by : (o : Option NodeRow) → slice_get ps place ≡ o → list_any (λ shape. option_map_or (in_shape shape) o false) shapes ≡ option_map_or test o false
    by None e = any_none shapes
    by (Some p) e = denote p (small_at ps place p small e).0

pub one_added : (old new : List Demand) (place : ℕ) (shapes : List Shape) → new ≡ old ++ One place shapes ∷ [] → (test : NodeRow → Bool) → Denotes shapes test →
    Adds old new (λ ps. passes_at ps place test)
one_added old new place shapes pushed test denote ps small =
    ap (list_all (meets ps)) pushed ∙ all_last (meets ps) old (One place shapes) ∙ ap (λ b. list_all (meets ps) old && b) (one_met ps place shapes test denote small)

-- ---- three places

any_false : {X : Type 0} (test : X → Bool) (xs : List X) → ((x : X) → test x ≡ false) → list_any test xs ≡ false
any_false test [] h = refl
any_false test (x ∷ xs) h = ap (λ b. b || list_any test xs) (h x) ∙ any_false test xs h

abbrev three : Option NodeRow → Option NodeRow → Option NodeRow → ShapeTriple → Bool
three a b c shapes = option_map_or (in_shape shapes.source) a false && option_map_or (in_shape shapes.middle) b false && option_map_or (in_shape shapes.target) c false

three_met : (ps : Pairs) (edge : ℕ) (ends : ℕ × ℕ) (triples : List ShapeTriple) (test : PairTriple → Bool) → DenotesTriples triples test → are_small ps ≡ true →
    list_any (are_in_three ps ends.0 edge ends.1) triples ≡ pass_at ps edge ends test
three_met ps edge ends triples test denote small = by (slice_get ps ends.0) (slice_get ps edge) (slice_get ps ends.1) refl refl refl
  where
    by : (a b c : Option NodeRow) → slice_get ps ends.0 ≡ a → slice_get ps edge ≡ b → slice_get ps ends.1 ≡ c →
        list_any (three a b c) triples ≡ option_map_or (λ source. option_map_or (λ own. option_map_or (λ target. test (triple_of source own target)) c false) b false) a false
    by None b c e f g = any_false (three None b c) triples (λ shapes. refl)
    by (Some s) None c e f g = any_false (three (Some s) None c) triples (λ shapes. ap (λ x. x && option_map_or (in_shape shapes.target) c false) (and_right (in_shape shapes.source s) false refl))
    by (Some s) (Some o) None e f g = any_false (three (Some s) (Some o) None) triples (λ shapes. and_right (in_shape shapes.source s && in_shape shapes.middle o) false refl)
    by (Some s) (Some o) (Some t) e f g =
        denote (triple_of s o t)
        (and_from _ _ (and_from _ _ (small_at ps ends.0 s small e).0 (small_at ps edge o small f).0) (small_at ps ends.1 t small g).0)

pub three_added : (old new : List Demand) (edge : ℕ) (ends : ℕ × ℕ) (triples : List ShapeTriple) → new ≡ old ++ Three ends.0 edge ends.1 triples ∷ [] → (test : PairTriple → Bool) →
    DenotesTriples triples test → Adds old new (λ ps. pass_at ps edge ends test)
three_added old new edge ends triples pushed test denote ps small =
    ap (list_all (meets ps)) pushed ∙ all_last (meets ps) old (Three ends.0 edge ends.1 triples)
    ∙ ap (λ b. list_all (meets ps) old && b) (three_met ps edge ends triples test denote small)

-- ---- what can stand

pub node_stands_where : (resolved : Resolved) (ps : Pairs) (place : ℕ) → are_small ps ≡ true → passes_at ps place (admits_node resolved) ≡ passes_at ps place (can_stand_node resolved)
node_stands_where resolved ps place small = by (slice_get ps place) refl
  where
    by : (o : Option NodeRow) → slice_get ps place ≡ o → option_map_or (admits_node resolved) o false ≡ option_map_or (can_stand_node resolved) o false
    by None e = refl
    by (Some p) e = ap (λ b. b && admits_node resolved p) (sym (small_at ps place p small e).1)

pub edge_stands_where : (resolved : Resolved) (ps : Pairs) (edge : ℕ) (ends : ℕ × ℕ) → are_small ps ≡ true →
    ((pass_at ps edge ends (admits_edge resolved) && passes_at ps ends.0 (can_stand_node resolved)) && passes_at ps ends.1 (can_stand_node resolved))
    ≡ pass_at ps edge ends (can_stand_edge resolved)
edge_stands_where resolved ps edge ends small = by (slice_get ps ends.0) (slice_get ps edge) (slice_get ps ends.1) refl refl refl
  where
    order : (a s t m : Bool) → m ≡ true → ((a && s) && t) ≡ (((s && t) && m) && a)
    order a s t true e = go a s t
      where
        go : (a s t : Bool) → ((a && s) && t) ≡ (((s && t) && true) && a)
        go true true true = refl
        go true true false = refl
        go true false t = refl
        go false true true = refl
        go false true false = refl
        go false false t = refl
    order a s t false e = absurd (true≢false (sym e))

    by : (a b c : Option NodeRow) → slice_get ps ends.0 ≡ a → slice_get ps edge ≡ b → slice_get ps ends.1 ≡ c →
        ((option_map_or (λ source. option_map_or (λ own. option_map_or (λ target. admits_edge resolved (triple_of source own target)) c false) b false) a false
        && option_map_or (can_stand_node resolved) a false) && option_map_or (can_stand_node resolved) c false)
        ≡ option_map_or (λ source. option_map_or (λ own. option_map_or (λ target. can_stand_edge resolved (triple_of source own target)) c false) b false) a false
    by None b c e f g = refl
    by (Some s) None c e f g = refl
    by (Some s) (Some o) None e f g = refl
    by (Some s) (Some o) (Some t) e f g =
        order (admits_edge resolved (triple_of s o t)) (can_stand_node resolved s) (can_stand_node resolved t) (is_small o) (small_at ps edge o small f).1

-- ---- one after another

pub adds_nothing : (demands : List Demand) → Adds demands demands (λ ps. true)
adds_nothing demands ps small = last (list_all (meets ps) demands)
  where
    last : (b : Bool) → b ≡ (b && true)
    last true = refl
    last false = refl

pub adds_both : (first second third : List Demand) (a b : Pairs → Bool) → Adds first second a → Adds second third b → Adds first third (λ ps. a ps && b ps)
adds_both first second third a b f g ps small =
    g ps small ∙ ap (λ x. x && b ps) (f ps small) ∙ assoc (list_all (meets ps) first) (a ps) (b ps)
  where
    assoc : (x y z : Bool) → ((x && y) && z) ≡ (x && (y && z))
    assoc true y z = refl
    assoc false y z = refl

pub adds_same : (old new : List Demand) (a b : Pairs → Bool) → ((ps : Pairs) → are_small ps ≡ true → a ps ≡ b ps) → Adds old new a → Adds old new b
adds_same old new a b same adds ps small = adds ps small ∙ ap (λ x. list_all (meets ps) old && x) (same ps small)

pub asked_in_order : (s a e : Bool) → ((true && a) && e) && s ≡ ((s && a) && e)
asked_in_order true true true = refl
asked_in_order true true false = refl
asked_in_order true false e = refl
asked_in_order false true true = refl
asked_in_order false true false = refl
asked_in_order false false e = refl

-- ---- as many pairs as places

pub rest_count : (xs : List Bool) → 1 ≤ length xs → length (take (length xs - 1) (drop 1 xs)) + 1 ≡ length xs
rest_count [] some = absurd (omega arith)
rest_count (x ∷ xs) some = ap (λ n. n + 1) (whole xs (length (x ∷ xs) - 1) (omega arith)) ∙ omega arith
  where
    whole : (ys : List Bool) (n : ℕ) → n ≡ length ys → length (take n ys) ≡ length ys
    whole [] zero e = refl
    whole [] (suc n) e = refl
    whole (y ∷ ys) zero e = absurd (omega arith)
    whole (y ∷ ys) (suc n) e = let rest : length (take n ys) ≡ length ys = whole ys n (omega arith) in omega arith

-- shapes of all pairs
abbrev pub AreAny : List Shape → Type 0
AreAny [] = Unit {0}
AreAny (shape ∷ shapes) = ((p : NodeRow) → in_shape shape p ≡ true) × AreAny shapes

pub any_last : (shapes : List Shape) (shape : Shape) → AreAny shapes → ((p : NodeRow) → in_shape shape p ≡ true) → AreAny (shapes ++ shape ∷ [])
any_last [] shape are own = (own, tt)
any_last (first ∷ shapes) shape are own = (are.0, any_last shapes shape are.1 own)

apart : (a b : ℕ) → (a ≡ b → ⊥) → (a == b) ≡ false
apart a b ne = false_from_ne_true (a == b) (λ h. ne (eqb-true a b h))

one_more : (a b : ℕ) → (a == b) ≡ (suc a == suc b)
one_more a b = by (a == b) refl
  where
    by : (t : Bool) → (a == b) ≡ t → t ≡ (suc a == suc b)
    by true e = sym (eq-eqb (suc a) (suc b) (ap suc (eqb-true a b e)))
    by false e = sym (false_from_ne_true (suc a == suc b) (λ h. true≢false (sym (eq-eqb a b (let f : suc a ≡ suc b = eqb-true (suc a) (suc b) h in omega arith)) ∙ e)))

pub in_any_places : (shapes : List Shape) (count : ℕ) → AreAny shapes → length shapes ≡ count → (ps : Pairs) → are_in shapes ps ≡ (length ps == count)
in_any_places shapes count are size ps = by shapes ps are ∙ ap (λ n. length ps == n) size
  where
    by : (ss : List Shape) (qs : Pairs) → AreAny ss → are_in ss qs ≡ (length qs == length ss)
    by [] [] are = refl
    by [] (q ∷ qs) are = sym (apart (suc (length qs)) 0 (λ e. absurd (omega arith)))
    by (s ∷ ss) [] are = sym (apart 0 (suc (length ss)) (λ e. absurd (omega arith)))
    by (s ∷ ss) (q ∷ qs) are = ap (λ b. b && are_in ss qs) (are.0 q) ∙ by ss qs are.1 ∙ one_more (length qs) (length ss)

-- ---- what calls add

abbrev pub OnPlace : List Shape → List Demand → List Demand → ℕ → Type 0
OnPlace shapes old new place = (test : NodeRow → Bool) → Denotes shapes test → Adds old new (λ ps. passes_at ps place test)

abbrev pub OnEdge : List ShapeTriple → List Demand → List Demand → ℕ → ℕ × ℕ → Type 0
OnEdge triples old new edge ends = (test : PairTriple → Bool) → DenotesTriples triples test → Adds old new (λ ps. pass_at ps edge ends test)

pub on_place : {T E : Type 0} (r : Result T E) (shapes : List Shape) (old new : List Demand) (place : ℕ) (test : NodeRow → Bool) (goal : Pairs → Bool) → OnOk r (OnPlace shapes old new place) →
    Denotes shapes test → ((ps : Pairs) → are_small ps ≡ true → passes_at ps place test ≡ goal ps) → OnOk r (Adds old new goal)
on_place r shapes old new place test goal h denote same =
    on_ok_weaker r (λ (adds : OnPlace shapes old new place). adds_same old new (λ ps. passes_at ps place test) goal same (adds test denote)) h

pub on_edge : {T E : Type 0} (r : Result T E) (triples : List ShapeTriple) (old new : List Demand) (edge : ℕ) (ends : ℕ × ℕ) (test : PairTriple → Bool) (goal : Pairs → Bool) →
    OnOk r (OnEdge triples old new edge ends) → DenotesTriples triples test → ((ps : Pairs) → are_small ps ≡ true → pass_at ps edge ends test ≡ goal ps) → OnOk r (Adds old new goal)
on_edge r triples old new edge ends test goal h denote same =
    on_ok_weaker r (λ (adds : OnEdge triples old new edge ends). adds_same old new (λ ps. pass_at ps edge ends test) goal same (adds test denote)) h

pub on_third : {T E : Type 0} (r : Result T E) (old first second new : List Demand) (a b last goal : Pairs → Bool) → OnOk r (Adds second new last) → Adds old first a → Adds first second b →
    ((ps : Pairs) → are_small ps ≡ true → ((a ps && b ps) && last ps) ≡ goal ps) → OnOk r (Adds old new goal)
on_third r old first second new a b last goal h f g same =
    on_ok_weaker r (λ (adds : Adds second new last).
    adds_same old new (λ ps. (a ps && b ps) && last ps) goal same
    (adds_both old second new (λ ps. a ps && b ps) last (adds_both old first second a b f g) adds)) h

-- one of several is added, and the others are left
pub added_one : (old before now : List Demand) (own rest all : Pairs → Bool) →
    ((ps : Pairs) → are_small ps ≡ true → (list_all (meets ps) before && (own ps && rest ps)) ≡ (list_all (meets ps) old && all ps)) → Adds before now own →
    (ps : Pairs) → are_small ps ≡ true → (list_all (meets ps) now && rest ps) ≡ (list_all (meets ps) old && all ps)
added_one old before now own rest all so_far adds ps small =
    ap (λ b. b && rest ps) (adds ps small) ∙ assoc (list_all (meets ps) before) (own ps) (rest ps) ∙ so_far ps small
  where
    assoc : (x y z : Bool) → ((x && y) && z) ≡ (x && (y && z))
    assoc true y z = refl
    assoc false y z = refl

pub added_all : (old now : List Demand) (all : Pairs → Bool) → ((ps : Pairs) → are_small ps ≡ true → (list_all (meets ps) now && true) ≡ (list_all (meets ps) old && all ps)) → Adds old now all
added_all old now all so_far ps small = last (list_all (meets ps) now) ∙ so_far ps small
  where
    last : (b : Bool) → b ≡ (b && true)
    last true = refl
    last false = refl
