-- The patterns of a valid key: what they speak of is there, and each edge has ends. So their places are placed.
use Rattle.std.proofs.Common.{◌≡◌, ℕ, zero, suc, ◌+◌, ◌-◌, ◌<◌, ◌≤◌, Bool, true, false, ◌||◌, ◌==◌, cond, List, [], ◌∷◌, ◌++◌, map, drop, length, slice_get, Some, not, ⊎_elim, refl, sym, ◌∙◌, ap, arith}
use Rattle.std.specs.Prelude.{nat_lt, nat_le}
use Rattle.std.specs.Option.{option_map_or}
use Rattle.std.specs.List.{list_any, list_all, enumerate_from}
use Rattle.std.proofs.lemmas.Bool.{true≢false, and_parts, and_from, or_cases, or_left, or_right, eqb-true, eq-eqb, ltb-true, lt-ltb}
use Rattle.std.proofs.lemmas.Bool.Decides.{nat_tests}
use Rattle.std.proofs.lemmas.List.{length-append, length-drop}
use Rattle.std.proofs.lemmas.Option.{same_Some, slice_get_within}
use Rattle.pgs_syntax.specs.declared.key.Key.{Key}
use Rattle.pgs_syntax.specs.declared.pattern.Atom.{Atom}
use Rattle.pgs_syntax.specs.declared.pattern.Atom.TheVariants.{Ends, HasLabel, FitsNode, FitsEdge, Equals}
use Rattle.pgs_syntax.specs.declared.pattern.Expr.{Expr}
use Rattle.pgs_syntax.specs.declared.pattern.Expr.TheVariants.{Element, Property}
use Rattle.pgs_syntax.specs.declared.pattern.Pattern.{Pattern}
use Rattle.pgs_syntax.specs.Valid.{is_edge_var, is_node_var, speaks_of, gives_ends, has_all_ends, is_valid_pattern, is_valid_key, are_one_kind, read_var}
use Rattle.pgs_key_standing.specs.Joint.{beside, joint, joint_exprs, with_ends, classes_of, place_of, placed_of, numbers}
use Rattle.pgs_key_standing.specs.Placed.{IsPlaced, ends_of, fits_places}
use Rattle.pgs_key_standing.specs.Renamed.{renamed, renamed_expr}
use Rattle.pgs_key_standing.proofs.Classes.{AreClasses, HaveEnds, at_first, after_are, after_joins, is_joined}
use Rattle.pgs_key_standing.proofs.Gathered.{KeepsKinds, get_within, get_first, get_later, get_dropped}
use Rattle.pgs_key_standing.proofs.Renamings.{speaks_ends, edge_kind, node_kind, renamed_same}

-- ---- kinds kept

edge_var : (kinds : List Bool) (var : ℕ) → slice_get kinds var ≡ Some true → is_edge_var kinds var ≡ true
edge_var kinds var at = ap (λ o. option_map_or (λ (is_edge : Bool). is_edge) o false) at

node_var : (kinds : List Bool) (var : ℕ) → slice_get kinds var ≡ Some false → is_node_var kinds var ≡ true
node_var kinds var at = ap (λ o. option_map_or not o false) at

module _ (kinds more : List Bool) (f : ℕ → ℕ) (keeps : KeepsKinds kinds more f) where
  kept_within : (var : ℕ) → nat_lt var (length kinds) ≡ true → nat_lt (f var) (length more) ≡ true
  kept_within var h =
      let kind = get_within kinds var (ltb-true var (length kinds) h) in
      lt-ltb (f var) (length more) (slice_get_within more (f var) kind.0 (keeps var kind.0 kind.1))

  pub speaks_renamed : (atom : Atom) → speaks_of kinds atom ≡ true → speaks_of more (renamed f atom) ≡ true
  speaks_renamed (Ends edge source target) h =
      let of = speaks_ends kinds edge source target h in
      and_from _ _ (and_from _ _ (edge_var more (f edge) (keeps edge true of.edge_is)) (node_var more (f source) (keeps source false of.source_is)))
      (node_var more (f target) (keeps target false of.target_is))
  speaks_renamed (HasLabel var label) h = kept_within var h
  speaks_renamed (FitsNode var number) h = node_var more (f var) (keeps var false (node_kind kinds var h))
  speaks_renamed (FitsEdge var number) h = edge_var more (f var) (keeps var true (edge_kind kinds var h))
  speaks_renamed (Equals var key value) h = kept_within var h

  pub all_speak : (atoms : List Atom) → list_all (speaks_of kinds) atoms ≡ true → list_all (speaks_of more) (map (renamed f) atoms) ≡ true
  all_speak [] h = refl
  all_speak (atom ∷ atoms) h = let parts = and_parts _ _ h in and_from _ _ (speaks_renamed atom parts.0) (all_speak atoms parts.1)

  pub all_read : (exprs : List Expr) → list_all (λ (expr : Expr). nat_lt (read_var expr) (length kinds)) exprs ≡ true →
      list_all (λ (expr : Expr). nat_lt (read_var expr) (length more)) (map (renamed_expr f) exprs) ≡ true
  all_read [] h = refl
  all_read (expr ∷ exprs) h = let parts = and_parts _ _ h in and_from _ _ (one expr parts.0) (all_read exprs parts.1)
    where
      one : (e : Expr) → nat_lt (read_var e) (length kinds) ≡ true → nat_lt (read_var (renamed_expr f e)) (length more) ≡ true
      one (Element var) h = kept_within var h
      one (Property var key) h = kept_within var h

pub keeps_more : (kinds more : List Bool) → KeepsKinds kinds (kinds ++ more) (λ v. v)
keeps_more kinds more var kind at = get_first kinds more var (slice_get_within kinds var kind at) ∙ at

pub speak_more : (kinds more : List Bool) (atoms : List Atom) → list_all (speaks_of kinds) atoms ≡ true → list_all (speaks_of (kinds ++ more)) atoms ≡ true
speak_more kinds more atoms h =
    ap (list_all (speaks_of (kinds ++ more))) (sym (renamed_same atoms)) ∙ all_speak kinds (kinds ++ more) (λ v. v) (keeps_more kinds more) atoms h

-- ---- lists of atoms

pub all_append : {X : Type 0} (test : X → Bool) (xs ys : List X) → list_all test xs ≡ true → list_all test ys ≡ true → list_all test (xs ++ ys) ≡ true
all_append test [] ys f g = g
all_append test (x ∷ xs) ys f g = let parts = and_parts _ _ f in and_from _ _ parts.0 (all_append test xs ys parts.1 g)

pub all_first : {X : Type 0} (test : X → Bool) (xs ys : List X) → list_all test (xs ++ ys) ≡ true → list_all test xs ≡ true
all_first test [] ys h = refl
all_first test (x ∷ xs) ys h = let parts = and_parts (test x) (list_all test (xs ++ ys)) h in and_from _ _ parts.0 (all_first test xs ys parts.1)

pub all_later : {X : Type 0} (test : X → Bool) (xs ys : List X) → list_all test (xs ++ ys) ≡ true → list_all test ys ≡ true
all_later test [] ys h = h
all_later test (x ∷ xs) ys h = all_later test xs ys (and_parts (test x) (list_all test (xs ++ ys)) h).1

any_first : {X : Type 0} (test : X → Bool) (xs ys : List X) → list_any test xs ≡ true → list_any test (xs ++ ys) ≡ true
any_first test [] ys h = absurd (true≢false (sym h))
any_first test (x ∷ xs) ys h =
    ⊎_elim (λ here. or_left (test x) (list_any test (xs ++ ys)) here) (λ later. or_right (test x) (list_any test (xs ++ ys)) (any_first test xs ys later))
    (or_cases (test x) (list_any test xs) h)

any_later : {X : Type 0} (test : X → Bool) (xs ys : List X) → list_any test ys ≡ true → list_any test (xs ++ ys) ≡ true
any_later test [] ys h = h
any_later test (x ∷ xs) ys h = or_right (test x) (list_any test (xs ++ ys)) (any_later test xs ys h)

-- an edge whose ends are given has them given under its new number
gives_renamed : (f : ℕ → ℕ) (edge : ℕ) (atoms : List Atom) → list_any (gives_ends edge) atoms ≡ true → list_any (gives_ends (f edge)) (map (renamed f) atoms) ≡ true
gives_renamed f edge [] h = absurd (true≢false (sym h))
gives_renamed f edge (Ends e source target ∷ atoms) h =
    ⊎_elim (λ here. or_left (f edge == f e) _ (eq-eqb (f edge) (f e) (ap f (eqb-true edge e here))))
    (λ later. or_right (f edge == f e) _ (gives_renamed f edge atoms later))
    (or_cases (edge == e) (list_any (gives_ends edge) atoms) h)
gives_renamed f edge (HasLabel var label ∷ atoms) h = gives_renamed f edge atoms h
gives_renamed f edge (FitsNode var number ∷ atoms) h = gives_renamed f edge atoms h
gives_renamed f edge (FitsEdge var number ∷ atoms) h = gives_renamed f edge atoms h
gives_renamed f edge (Equals var key value ∷ atoms) h = gives_renamed f edge atoms h

-- the ends that an edge is first given are nodes
first_ends : (kinds : List Bool) (edge : ℕ) (atoms : List Atom) → list_all (speaks_of kinds) atoms ≡ true → list_any (gives_ends edge) atoms ≡ true →
    (slice_get kinds (ends_of atoms edge).0 ≡ Some false) × (slice_get kinds (ends_of atoms edge).1 ≡ Some false)
first_ends kinds edge [] speak h = absurd (true≢false (sym h))
first_ends kinds edge (Ends e source target ∷ atoms) speak h =
    let parts = and_parts (speaks_of kinds (Ends e source target)) (list_all (speaks_of kinds) atoms) speak in
    let of = speaks_ends kinds e source target parts.0 in
    by of.source_is of.target_is (first_ends kinds edge atoms parts.1) (edge == e) h
  where
    by : slice_get kinds source ≡ Some false → slice_get kinds target ≡ Some false →
        (list_any (gives_ends edge) atoms ≡ true → (slice_get kinds (ends_of atoms edge).0 ≡ Some false) × (slice_get kinds (ends_of atoms edge).1 ≡ Some false)) →
        (b : Bool) → (b || list_any (gives_ends edge) atoms) ≡ true →
        (slice_get kinds (cond b (source, target) (ends_of atoms edge)).0 ≡ Some false) × (slice_get kinds (cond b (source, target) (ends_of atoms edge)).1 ≡ Some false)
    by s t rest true h = (s, t)
    by s t rest false h = rest h
first_ends kinds edge (HasLabel var label ∷ atoms) speak h = first_ends kinds edge atoms (and_parts _ _ speak).1 h
first_ends kinds edge (FitsNode var number ∷ atoms) speak h = first_ends kinds edge atoms (and_parts _ _ speak).1 h
first_ends kinds edge (FitsEdge var number ∷ atoms) speak h = first_ends kinds edge atoms (and_parts _ _ speak).1 h
first_ends kinds edge (Equals var key value ∷ atoms) speak h = first_ends kinds edge atoms (and_parts _ _ speak).1 h

-- ---- patterns of keys

-- a pattern speaks of what is there, and each edge but perhaps variable 0 has ends
pub record IsSound (pattern : Pattern) : Type 0 where
  pub some : 0 < length pattern.edge_vars
  pub few : length pattern.edge_vars ≤ 40
  pub speak : list_all (speaks_of pattern.edge_vars) pattern.atoms ≡ true
  pub given : (edge : ℕ) → slice_get pattern.edge_vars edge ≡ Some true → 0 < edge → list_any (gives_ends edge) pattern.atoms ≡ true

abbrev is_given : List Atom → ℕ × Bool → Bool
is_given atoms place = not place.1 || list_any (gives_ends place.0) atoms

given_at : (atoms : List Atom) (kinds : List Bool) (i j : ℕ) → list_all (is_given atoms) (enumerate_from i kinds) ≡ true →
    slice_get kinds j ≡ Some true → list_any (gives_ends (i + j)) atoms ≡ true
given_at atoms [] i j all at = cc
given_at atoms (k ∷ kinds) i zero all at =
    ap (λ n. list_any (gives_ends n) atoms) (let e : i + 0 ≡ i = omega arith in e)
    ∙ ap (λ b. not b || list_any (gives_ends i) atoms) (sym (same_Some k true at))
    ∙ (and_parts (is_given atoms (i, k)) (list_all (is_given atoms) (enumerate_from (i + 1) kinds)) all).0
given_at atoms (k ∷ kinds) i (suc j) all at =
    ap (λ n. list_any (gives_ends n) atoms) (let e : i + suc j ≡ (i + 1) + j = omega arith in e) ∙ given_at atoms kinds (i + 1) j
    (and_parts (is_given atoms (i, k)) (list_all (is_given atoms) (enumerate_from (i + 1) kinds)) all).1 at

record ValidParts (pattern : Pattern) : Type 0 where
  some : nat_le 1 (length pattern.edge_vars) ≡ true
  few : nat_le (length pattern.edge_vars) 20 ≡ true
  speak : list_all (speaks_of pattern.edge_vars) pattern.atoms ≡ true
  ends : has_all_ends pattern ≡ true

valid_parts : (pattern : Pattern) → is_valid_pattern pattern ≡ true → ValidParts pattern
valid_parts pattern valid =
    let last = and_parts _ _ valid in
    let ends = and_parts _ _ last.0 in
    let speak = and_parts _ _ ends.0 in
    let edges = and_parts _ _ speak.0 in
    let counts = and_parts _ _ edges.0 in
    record { some = counts.0; few = counts.1; speak = speak.1; ends = ends.1 }

pub count_few : (pattern : Pattern) → is_valid_pattern pattern ≡ true → (0 < length pattern.edge_vars) × (length pattern.edge_vars ≤ 20)
count_few pattern valid =
    let parts = valid_parts pattern valid in
    (ltb-true 0 (length pattern.edge_vars) parts.some, by (length pattern.edge_vars) parts.few)
  where
    by : (n : ℕ) → nat_le n 20 ≡ true → n ≤ 20
    by n h = grind (arith, nat_tests)

pub valid_sound : (pattern : Pattern) → is_valid_pattern pattern ≡ true → IsSound pattern
valid_sound pattern valid =
    let parts = valid_parts pattern valid in
    let counts = count_few pattern valid in
    record {
      some = counts.0;
      few = omega arith;
      speak = parts.speak;
      given = λ edge at lt.
          ⊎_elim
          (λ one. let n : length pattern.edge_vars ≡ 1 = eqb-true (length pattern.edge_vars) 1 one in
          let below = slice_get_within pattern.edge_vars edge true at in absurd (omega arith))
          (λ all. ap (λ n. list_any (gives_ends n) pattern.atoms) (let e : edge ≡ 0 + edge = omega arith in e) ∙ given_at pattern.atoms pattern.edge_vars 0 edge all at)
          (or_cases (length pattern.edge_vars == 1) _ parts.ends);
    }

-- ---- with the ends of variable 0

same_number : (n : ℕ) → (n == n) ≡ true
same_number n = eq-eqb n n refl

module _ (pattern : Pattern) (sound : IsSound pattern) where
  abbrev kinds : List Bool
  kinds = pattern.edge_vars

  abbrev wide : List Bool
  wide = kinds ++ false ∷ false ∷ []

  abbrev own_ends : Atom
  own_ends = Ends 0 (length kinds) (length kinds + 1)

  first_end : slice_get wide (length kinds) ≡ Some false
  first_end = ap (slice_get wide) (let e : length kinds ≡ length kinds + 0 = omega arith in e) ∙ get_later kinds (false ∷ false ∷ []) 0

  second_end : slice_get wide (length kinds + 1) ≡ Some false
  second_end = get_later kinds (false ∷ false ∷ []) 1

  -- an edge of the wider pattern is one of the pattern
  edge_inside : (edge : ℕ) → slice_get wide edge ≡ Some true → slice_get kinds edge ≡ Some true
  edge_inside edge at = by (nat_lt edge (length kinds)) refl
    where
      past : (n : ℕ) → slice_get (false ∷ false ∷ []) n ≡ Some true → ⊥
      past zero h = true≢false (sym (same_Some false true h))
      past (suc zero) h = true≢false (sym (same_Some false true h))
      past (suc (suc n)) h = cc

      by : (b : Bool) → nat_lt edge (length kinds) ≡ b → slice_get kinds edge ≡ Some true
      by true h = sym (get_first kinds (false ∷ false ∷ []) edge (ltb-true edge (length kinds) h)) ∙ at
      by false h =
          let le : length kinds ≤ edge = grind (arith, nat_tests) in
          absurd (past (edge - length kinds) (sym (get_later kinds (false ∷ false ∷ []) (edge - length kinds))
          ∙ ap (slice_get wide) (let e : length kinds + (edge - length kinds) ≡ edge = omega arith in e) ∙ at))

  wide_speak : is_edge_var kinds 0 ≡ true → list_all (speaks_of wide) (own_ends ∷ pattern.atoms) ≡ true
  wide_speak h =
      and_from _ _
      (and_from _ _ (and_from _ _ (edge_var wide 0 (keeps_more kinds (false ∷ false ∷ []) 0 true (edge_kind kinds 0 h))) (node_var wide (length kinds) first_end))
      (node_var wide (length kinds + 1) second_end))
      (speak_more kinds (false ∷ false ∷ []) pattern.atoms sound.speak)

  wide_given : is_edge_var kinds 0 ≡ true → (edge : ℕ) → slice_get wide edge ≡ Some true → list_any (gives_ends edge) (own_ends ∷ pattern.atoms) ≡ true
  wide_given h zero at = or_left (0 == 0) (list_any (gives_ends 0) pattern.atoms) (same_number 0)
  wide_given h (suc n) at =
      or_right (suc n == 0) (list_any (gives_ends (suc n)) pattern.atoms) (sound.given (suc n) (edge_inside (suc n) at) (omega arith))

  own_given : is_edge_var kinds 0 ≡ false → (edge : ℕ) → slice_get kinds edge ≡ Some true → list_any (gives_ends edge) pattern.atoms ≡ true
  own_given h zero at = absurd (true≢false (sym (edge_var kinds 0 at) ∙ h))
  own_given h (suc n) at = sound.given (suc n) at (omega arith)

  wide_few : length wide ≤ 42
  wide_few = let few = sound.few in let size = length-append kinds (false ∷ false ∷ []) in omega arith

-- what each edge of a pattern has ends in
pub record IsWhole (pattern : Pattern) : Type 0 where
  pub few : length pattern.edge_vars ≤ 42
  pub speak : list_all (speaks_of pattern.edge_vars) pattern.atoms ≡ true
  pub ends : HaveEnds pattern.edge_vars pattern.atoms

whole_from : (pattern : Pattern) → length pattern.edge_vars ≤ 42 → list_all (speaks_of pattern.edge_vars) pattern.atoms ≡ true →
    ((edge : ℕ) → slice_get pattern.edge_vars edge ≡ Some true → list_any (gives_ends edge) pattern.atoms ≡ true) → IsWhole pattern
whole_from pattern few speak given = record {
  few = few;
  speak = speak;
  ends = λ edge at. let is = first_ends pattern.edge_vars edge pattern.atoms speak (given edge at) in (is.0, is.1, given edge at);
}

pub ends_whole : (pattern : Pattern) → IsSound pattern → IsWhole (with_ends pattern)
ends_whole pattern sound = by (is_edge_var pattern.edge_vars 0) refl
  where
    by : (b : Bool) → is_edge_var pattern.edge_vars 0 ≡ b → IsWhole (cond b (record {
      edge_vars = pattern.edge_vars ++ false ∷ false ∷ [];
      atoms = Ends 0 (length pattern.edge_vars) (length pattern.edge_vars + 1) ∷ pattern.atoms;
    }) pattern)
    by true h = whole_from _ (wide_few pattern sound) (wide_speak pattern sound h) (wide_given pattern sound h)
    by false h = whole_from pattern (let few = sound.few in omega arith) sound.speak (own_given pattern sound h)

-- ---- scope and descriptor together

module _ (key : Key) (valid : is_valid_key key ≡ true) where
  record KeyParts : Type 0 where
    scope : is_valid_pattern key.scope ≡ true
    descriptor : is_valid_pattern key.descriptor ≡ true
    one_kind : are_one_kind (is_edge_var key.scope.edge_vars 0) (is_edge_var key.descriptor.edge_vars 0) ≡ true
    read : list_all (λ (expr : Expr). nat_lt (read_var expr) (length key.descriptor.edge_vars)) key.exprs ≡ true

  parts : KeyParts
  parts =
      let last = and_parts _ _ valid in
      let count = and_parts _ _ last.0 in
      let kinds = and_parts _ _ count.0 in
      let patterns = and_parts _ _ kinds.0 in
      record { scope = patterns.0; descriptor = patterns.1; one_kind = kinds.1; read = last.1 }

  pub scope_valid : is_valid_pattern key.scope ≡ true
  scope_valid = parts.scope

  pub descriptor_valid : is_valid_pattern key.descriptor ≡ true
  descriptor_valid = parts.descriptor

  pub exprs_read : list_all (λ (expr : Expr). nat_lt (read_var expr) (length key.descriptor.edge_vars)) key.exprs ≡ true
  exprs_read = parts.read

  abbrev own : List Bool
  own = key.scope.edge_vars

  abbrev other : List Bool
  other = key.descriptor.edge_vars

  -- variable 0 is of one kind in both
  first_kind : (kind : Bool) → slice_get other 0 ≡ Some kind → slice_get own 0 ≡ Some kind
  first_kind kind at =
      let counts = count_few key.scope scope_valid in
      let own_kind = get_within own 0 counts.0 in
      own_kind.1 ∙ ap Some (one own_kind.0 kind
      (ap (λ o. are_one_kind own_kind.0 (option_map_or (λ (is_edge : Bool). is_edge) o false)) (sym at)
      ∙ ap (λ o. are_one_kind (option_map_or (λ (is_edge : Bool). is_edge) o false) (is_edge_var other 0)) (sym own_kind.1) ∙ parts.one_kind))
    where
      one : (a b : Bool) → are_one_kind a b ≡ true → a ≡ b
      one true true h = refl
      one true false h = absurd (true≢false (sym h))
      one false true h = absurd (true≢false (sym h))
      one false false h = refl

  pub keeps_own : KeepsKinds own (joint key).edge_vars (λ v. v)
  keeps_own = keeps_more own (drop 1 other)

  pub keeps_other : KeepsKinds other (joint key).edge_vars (beside (length own))
  keeps_other zero kind at = keeps_own 0 kind (first_kind kind at)
  keeps_other (suc var) kind at = get_later own (drop 1 other) var ∙ get_dropped other var ∙ at

  joint_given : (edge : ℕ) → slice_get (joint key).edge_vars edge ≡ Some true → 0 < edge → list_any (gives_ends edge) (joint key).atoms ≡ true
  joint_given edge at lt = by (nat_lt edge (length own)) refl
    where
      by : (b : Bool) → nat_lt edge (length own) ≡ b → list_any (gives_ends edge) (joint key).atoms ≡ true
      by true h =
          any_first (gives_ends edge) key.scope.atoms _
          ((valid_sound key.scope scope_valid).given edge (sym (get_first own (drop 1 other) edge (ltb-true edge (length own) h)) ∙ at) lt)
      by false h =
          let le : length own ≤ edge = grind (arith, nat_tests) in
          let e : length own + (edge - length own) ≡ edge = omega arith in
          let there : slice_get other (suc (edge - length own)) ≡ Some true =
          sym (get_dropped other (edge - length own)) ∙ sym (get_later own (drop 1 other) (edge - length own)) ∙ ap (slice_get (joint key).edge_vars) e ∙ at in
          any_later (gives_ends edge) key.scope.atoms _
          (ap (λ n. list_any (gives_ends n) (map (renamed (beside (length own))) key.descriptor.atoms)) (sym e)
          ∙ gives_renamed (beside (length own)) (suc (edge - length own)) key.descriptor.atoms
          ((valid_sound key.descriptor descriptor_valid).given (suc (edge - length own)) there (omega arith)))

  pub joint_sound : IsSound (joint key)
  joint_sound =
      let first = count_few key.scope scope_valid in
      let second = count_few key.descriptor descriptor_valid in
      let size = length-append own (drop 1 other) in
      let less = length-drop 1 other in
      record {
        some = omega arith;
        few = omega arith;
        speak = all_append (speaks_of (joint key).edge_vars) key.scope.atoms _
            (speak_more own (drop 1 other) key.scope.atoms (valid_sound key.scope scope_valid).speak)
            (all_speak other (joint key).edge_vars (beside (length own)) keeps_other key.descriptor.atoms (valid_sound key.descriptor descriptor_valid).speak);
        given = joint_given;
      }

  pub joint_read : list_all (λ (expr : Expr). nat_lt (read_var expr) (length (joint key).edge_vars)) (joint_exprs key) ≡ true
  joint_read = all_read other (joint key).edge_vars (beside (length own)) keeps_other key.exprs exprs_read

-- ---- places

module _ (pattern : Pattern) (whole : IsWhole pattern) where
  abbrev pub at_place : ℕ → ℕ
  at_place = place_of pattern

  pub are_classes : AreClasses pattern.edge_vars (classes_of pattern)
  are_classes = after_are pattern.edge_vars pattern.atoms whole.ends pattern.atoms (numbers pattern.edge_vars) whole.speak (at_first pattern.edge_vars)

  are_joined : list_all (is_joined pattern.atoms (classes_of pattern)) pattern.atoms ≡ true
  are_joined = after_joins pattern.edge_vars pattern.atoms whole.ends pattern.atoms (numbers pattern.edge_vars) whole.speak (at_first pattern.edge_vars)

  pub keeps_place : KeepsKinds pattern.edge_vars pattern.edge_vars at_place
  keeps_place var kind at = are_classes.kind var (slice_get_within pattern.edge_vars var kind at) ∙ at

  abbrev placed_atoms : List Atom
  placed_atoms = map (renamed at_place) pattern.atoms

  -- the ends that an edge is first given at its places are the places of those
  ends_placed : (edge : ℕ) → slice_get pattern.edge_vars edge ≡ Some true → (atoms : List Atom) → list_all (speaks_of pattern.edge_vars) atoms ≡ true →
      list_any (gives_ends edge) atoms ≡ true →
      ((ends_of (map (renamed at_place) atoms) edge).0 ≡ at_place (ends_of atoms edge).0) × ((ends_of (map (renamed at_place) atoms) edge).1 ≡ at_place (ends_of atoms edge).1)
  ends_placed edge at [] speak given = absurd (true≢false (sym given))
  ends_placed edge at (Ends e source target ∷ atoms) speak given =
      let parts = and_parts (speaks_of pattern.edge_vars (Ends e source target)) (list_all (speaks_of pattern.edge_vars) atoms) speak in
      let of = speaks_ends pattern.edge_vars e source target parts.0 in
      by (ends_placed edge at atoms parts.1) (edge == e) (edge == at_place e) (ap (λ n. edge == n) (are_classes.alone e of.edge_is)) given
    where
      by : (list_any (gives_ends edge) atoms ≡ true →
          ((ends_of (map (renamed at_place) atoms) edge).0 ≡ at_place (ends_of atoms edge).0) × ((ends_of (map (renamed at_place) atoms) edge).1 ≡ at_place (ends_of atoms edge).1)) →
          (b c : Bool) → c ≡ b → (b || list_any (gives_ends edge) atoms) ≡ true →
          ((cond c (at_place source, at_place target) (ends_of (map (renamed at_place) atoms) edge)).0 ≡ at_place (cond b (source, target) (ends_of atoms edge)).0)
          × ((cond c (at_place source, at_place target) (ends_of (map (renamed at_place) atoms) edge)).1 ≡ at_place (cond b (source, target) (ends_of atoms edge)).1)
      by rest true true e given = (refl, refl)
      by rest false false e given = rest given
      by rest true false e given = absurd (true≢false (sym e))
      by rest false true e given = absurd (true≢false e)
  ends_placed edge at (HasLabel var label ∷ atoms) speak given = ends_placed edge at atoms (and_parts _ _ speak).1 given
  ends_placed edge at (FitsNode var number ∷ atoms) speak given = ends_placed edge at atoms (and_parts _ _ speak).1 given
  ends_placed edge at (FitsEdge var number ∷ atoms) speak given = ends_placed edge at atoms (and_parts _ _ speak).1 given
  ends_placed edge at (Equals var key value ∷ atoms) speak given = ends_placed edge at atoms (and_parts _ _ speak).1 given

  -- so each atom fits the places
  fit_all : (atoms : List Atom) → list_all (speaks_of pattern.edge_vars) atoms ≡ true → list_all (is_joined pattern.atoms (classes_of pattern)) atoms ≡ true →
      list_all (fits_places pattern.edge_vars placed_atoms) (map (renamed at_place) atoms) ≡ true
  fit_all [] speak joins = refl
  fit_all (Ends edge source target ∷ atoms) speak joins =
      let parts = and_parts (speaks_of pattern.edge_vars (Ends edge source target)) (list_all (speaks_of pattern.edge_vars) atoms) speak in
      let of = speaks_ends pattern.edge_vars edge source target parts.0 in
      let joined = and_parts (is_joined pattern.atoms (classes_of pattern) (Ends edge source target)) (list_all (is_joined pattern.atoms (classes_of pattern)) atoms) joins in
      let both = and_parts (at_place (ends_of pattern.atoms edge).0 == at_place source) (at_place (ends_of pattern.atoms edge).1 == at_place target) joined.0 in
      let ends = whole.ends edge of.edge_is in
      let now = ends_placed edge of.edge_is pattern.atoms whole.speak ends.2 in
      let alone = are_classes.alone edge of.edge_is in
      and_from _ _
      (and_from _ _
      (and_from _ _ (edge_var pattern.edge_vars (at_place edge) (keeps_place edge true of.edge_is))
      (eq-eqb _ _ (ap (λ n. (ends_of placed_atoms n).0) alone ∙ now.0 ∙ eqb-true _ _ both.0)))
      (eq-eqb _ _ (ap (λ n. (ends_of placed_atoms n).1) alone ∙ now.1 ∙ eqb-true _ _ both.1)))
      (fit_all atoms parts.1 joined.1)
  fit_all (HasLabel var label ∷ atoms) speak joins = fit_all atoms (and_parts _ _ speak).1 joins
  fit_all (FitsNode var number ∷ atoms) speak joins =
      let parts = and_parts (speaks_of pattern.edge_vars (FitsNode var number)) (list_all (speaks_of pattern.edge_vars) atoms) speak in
      and_from _ _ (node_var pattern.edge_vars (at_place var) (keeps_place var false (node_kind pattern.edge_vars var parts.0))) (fit_all atoms parts.1 joins)
  fit_all (FitsEdge var number ∷ atoms) speak joins =
      let parts = and_parts (speaks_of pattern.edge_vars (FitsEdge var number)) (list_all (speaks_of pattern.edge_vars) atoms) speak in
      and_from _ _ (edge_var pattern.edge_vars (at_place var) (keeps_place var true (edge_kind pattern.edge_vars var parts.0))) (fit_all atoms parts.1 joins)
  fit_all (Equals var key value ∷ atoms) speak joins = fit_all atoms (and_parts _ _ speak).1 joins

  pub is_placed : (exprs : List Expr) → IsPlaced (placed_of pattern exprs)
  is_placed exprs = record {
    ends = λ edge at.
        let ends = whole.ends edge at in
        let now = ends_placed edge at pattern.atoms whole.speak ends.2 in (
          ap (slice_get pattern.edge_vars) now.0 ∙ keeps_place (ends_of pattern.atoms edge).0 false ends.0,
          ap (slice_get pattern.edge_vars) now.1 ∙ keeps_place (ends_of pattern.atoms edge).1 false ends.1,
          ap (λ n. list_any (gives_ends n) placed_atoms) (sym (are_classes.alone edge at)) ∙ gives_renamed at_place edge pattern.atoms ends.2,
        );
    atoms = fit_all pattern.atoms whole.speak are_joined;
  }
