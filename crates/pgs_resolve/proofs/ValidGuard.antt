-- What the guard lists: types that are there, and each graph type's keys once.
use Rattle.std.proofs.Common.{◌≡◌, ℕ, zero, suc, ◌+◌, ◌-◌, ◌<◌, ◌≤◌, Bool, true, false, cond, ◌||◌, ◌⊎◌, inl, inr, List, [], ◌∷◌, ◌++◌, length, map, filter, Option, Some, None, refl, sym, ◌∙◌, ap, arith, ltb, leb, length-append}
use Rattle.std.specs.List.{list_all, list_any, flat_map, filter_map, cons_option, find, fold}
use Rattle.std.specs.Option.{option_map, option_map_or}
use Rattle.std.proofs.lemmas.Bool.{and_from, or_parts, or_from, or_cases, or_left, or_right, both_ways, lt-ltb, ltb-false, le-leb, false_from_ne_true}
use Rattle.std.proofs.lemmas.List.{length-map}
use Rattle.std.proofs.lemmas.List.Folds.{list_any-append}
use Rattle.pgs_base.specs.Pair.{same_name, has_name}
use Rattle.pgs_syntax.specs.declared.raw.RawKey.{RawKey}
use Rattle.pgs_syntax.specs.declared.resolved.Resolved.{Resolved}
use Rattle.pgs_syntax.specs.declared.resolved.TypeNo.TheVariants.{Node, Edge}
use Rattle.pgs_syntax.specs.declared.script.GraphType.{GraphType}
use Rattle.pgs_syntax.specs.declared.script.Script.{Script}
use Rattle.pgs_syntax.specs.Valid.{is_type}
use Rattle.pgs_resolve_declared.specs.Declarations.{graphs_of, graph_named, keys_of}
use Rattle.pgs_resolve_declared.specs.Imports.{walked, last_of, walked_graphs}
use Rattle.pgs_resolve.specs.Guard.{type_no}
use Rattle.pgs_resolve_keys.specs.KeyFaults.{are_too_large, within_of}
use Rattle.pgs_resolve_declared.specs.declared.order.Numbering.{Numbering}
use Rattle.pgs_resolve_declared.specs.Order.{number_in}
use Rattle.pgs_resolve_declared.specs.Refused.{imported_by, leads, cyclic, least}
use Rattle.pgs_resolve.proofs.Each.{keys_in}
use Rattle.pgs_resolve.proofs.FirstBad.{AllSound, is_sound}
use Rattle.pgs_resolve.proofs.Fresh.{Fresh, In, fresh_none}
use Rattle.pgs_resolve_declared.proofs.Same.{one_name, in_turn}
use Rattle.pgs_resolve.proofs.ValidSpecs.{number_within}

-- ---- the types that are listed

module _ (schema : Resolved) (numbering : Numbering) (nodes : length schema.nodes ≡ length numbering.nodes) (edges : length schema.edges ≡ length numbering.edges) where
  pub node_there : (name : List ℕ) (n : ℕ) → number_in numbering.nodes name ≡ Some n → ltb n (length schema.nodes) ≡ true
  node_there name n e = let h = number_within numbering.nodes name n e in lt-ltb n (length schema.nodes) (omega (arith, h, nodes))

  pub edge_there : (name : List ℕ) (n : ℕ) → number_in numbering.edges name ≡ Some n → ltb n (length schema.edges) ≡ true
  edge_there name n e = let h = number_within numbering.edges name n e in lt-ltb n (length schema.edges) (omega (arith, h, edges))

  pub types_there : (names : List (List ℕ)) → list_all (is_type schema) (filter_map (type_no numbering) names) ≡ true
  types_there [] = refl
  types_there (name ∷ names) = node (number_in numbering.nodes name) refl (types_there names)
    where
      edge : (o : Option ℕ) → number_in numbering.edges name ≡ o → list_all (is_type schema) (filter_map (type_no numbering) names) ≡ true →
          list_all (is_type schema) (cons_option (option_map Edge o) (filter_map (type_no numbering) names)) ≡ true
      edge None e rest = rest
      edge (Some n) e rest = and_from _ _ (edge_there name n e) rest

      node : (o : Option ℕ) → number_in numbering.nodes name ≡ o → list_all (is_type schema) (filter_map (type_no numbering) names) ≡ true →
          list_all (is_type schema)
          (cons_option (option_map_or (λ number. Some (Node number)) o (option_map Edge (number_in numbering.edges name))) (filter_map (type_no numbering) names)) ≡ true
      node None e rest = edge (number_in numbering.edges name) refl rest
      node (Some n) e rest = and_from _ _ (node_there name n e) rest

-- ---- imports that are on no cycle are walked once

fresh_push : (before names : List (List ℕ)) (name : List ℕ) → Fresh before names → has_name name before ≡ false → has_name name names ≡ false →
    Fresh before (names ++ name ∷ [])
fresh_push before [] name f b n = (b, tt)
fresh_push before (x ∷ xs) name f b n =
    let parts = or_parts (same_name name x) (has_name name xs) n in
    (f.0, fresh_push (x ∷ before) xs name f.1 (or_from _ _ parts.0 b) parts.1)

module _ (script : Script) where
  abbrev next : List ℕ → List (List ℕ)
  next = imported_by script

  -- whether a walk so deep from one name may come to another
  abbrev reaches : ℕ → List ℕ → List ℕ → Bool
  reaches zero from to = false
  reaches (suc depth) from to = same_name to from || leads next depth from to

  none_reached : (names : List (List ℕ)) (to : List ℕ) → list_any (λ name. reaches 0 name to) names ≡ false
  none_reached [] to = refl
  none_reached (name ∷ names) to = none_reached names to

  by_one : (depth : ℕ) (from to : List ℕ) → list_any (λ name. reaches depth name to) (next from) ≡ leads next depth from to
  by_one zero from to = none_reached (next from) to
  by_one (suc depth) from to = refl

  -- what is walked was there or is reached: from one name, and from some
  abbrev Reached : ℕ → Type 0
  Reached depth =
      (before : List (List ℕ)) (name to : List ℕ) → has_name to (walked script depth before name) ≡ true →
      (has_name to before ≡ true) ⊎ (reaches depth name to ≡ true)

  all_reached : (depth : ℕ) → Reached depth → (names before : List (List ℕ)) (to : List ℕ) → has_name to (fold (walked script depth) before names) ≡ true →
      (has_name to before ≡ true) ⊎ (list_any (λ name. reaches depth name to) names ≡ true)
  all_reached depth one [] before to h = inl h
  all_reached depth one (name ∷ names) before to h = elim (all_reached depth one names (walked script depth before name) to h) [
    | inl there ↦ elim (one before name to there) [
      | inl old ↦ inl old
      | inr new ↦ inr (or_left (reaches depth name to) _ new)
    ]
    | inr later ↦ inr (or_right (reaches depth name to) _ later)
  ]

  reached : (depth : ℕ) → Reached depth
  reached zero before name to h = inl h
  reached (suc depth) before name to h = by (has_name name before) (all_reached depth (reached depth) (next name) before to) h
    where
      after : List (List ℕ)
      after = fold (walked script depth) before (next name)

      by : (b : Bool) → (has_name to after ≡ true → (has_name to before ≡ true) ⊎ (list_any (λ n. reaches depth n to) (next name) ≡ true)) →
          has_name to (cond b before (after ++ name ∷ [])) ≡ true → (has_name to before ≡ true) ⊎ (reaches (suc depth) name to ≡ true)
      by true earlier e = inl e
      by false earlier e = elim (or_cases (has_name to after) (same_name to name || false) (sym (list_any-append (same_name to) after (name ∷ [])) ∙ e)) [
        | inl there ↦ elim (earlier there) [
          | inl old ↦ inl old
          | inr new ↦ inr (or_right (same_name to name) _ (sym (by_one depth name to) ∙ new))
        ]
        | inr mine ↦ elim (or_cases (same_name to name) false mine) [
          | inl same ↦ inr (or_left (same_name to name) _ same)
          | inr none ↦ cc
        ]
      ]

  module _ (most : ℕ) (acyclic : (depth : ℕ) → depth < most → (name : List ℕ) → leads next depth name name ≡ false) where
    abbrev Kept : ℕ → Type 0
    Kept depth = (before : List (List ℕ)) (name : List ℕ) → Fresh [] before → Fresh [] (walked script depth before name)

    all_kept : (depth : ℕ) → Kept depth → (names before : List (List ℕ)) → Fresh [] before → Fresh [] (fold (walked script depth) before names)
    all_kept depth one [] before f = f
    all_kept depth one (name ∷ names) before f = all_kept depth one names (walked script depth before name) (one before name f)

    kept : (depth : ℕ) → depth ≤ most → Kept depth
    kept zero low before name f = f
    kept (suc depth) low before name f =
        by (has_name name before) refl (all_kept depth (kept depth (omega (arith, low))) (next name) before f) (all_reached depth (reached depth) (next name) before name)
      where
        after : List (List ℕ)
        after = fold (walked script depth) before (next name)

        not_after : has_name name before ≡ false →
            (has_name name after ≡ true → (has_name name before ≡ true) ⊎ (list_any (λ n. reaches depth n name) (next name) ≡ true)) → has_name name after ≡ false
        not_after new earlier = false_from_ne_true (has_name name after)
            (λ there. elim (earlier there) [
              | inl old ↦ both_ways (has_name name before) new old
              | inr led ↦ both_ways (leads next depth name name) (acyclic depth (omega (arith, low)) name) (sym (by_one depth name name) ∙ led)
            ])

        by : (b : Bool) → has_name name before ≡ b → Fresh [] after →
            (has_name name after ≡ true → (has_name name before ≡ true) ⊎ (list_any (λ n. reaches depth n name) (next name) ≡ true)) →
            Fresh [] (cond b before (after ++ name ∷ []))
        by true e g earlier = f
        by false e g earlier = fresh_push [] after name g refl (not_after e earlier)

    pub walked_once : (name : List ℕ) → Fresh [] (walked script most [] name)
    walked_once name = kept most (omega arith) [] name tt

  -- a name that leads to another in fewer steps does so in more
  any_more : (p q : List ℕ → Bool) → ((name : List ℕ) → p name ≡ true → q name ≡ true) → (names : List (List ℕ)) → list_any p names ≡ true →
      list_any q names ≡ true
  any_more p q each [] h = cc
  any_more p q each (name ∷ names) h = elim (or_cases (p name) (list_any p names) h) [
    | inl here ↦ or_left (q name) _ (each name here)
    | inr later ↦ or_right (q name) _ (any_more p q each names later)
  ]

  one_more : (steps : ℕ) (from to : List ℕ) → leads next steps from to ≡ true → leads next (suc steps) from to ≡ true
  one_more zero from to h = cc
  one_more (suc steps) from to h =
      any_more (λ name. same_name to name || leads next steps name to) (λ name. same_name to name || leads next (suc steps) name to)
      (λ name e. elim (or_cases (same_name to name) (leads next steps name to) e) [
        | inl same ↦ or_left (same_name to name) _ same
        | inr led ↦ or_right (same_name to name) _ (one_more steps name to led)
      ]) (next from) h

  more_steps : (more steps : ℕ) (from to : List ℕ) → leads next steps from to ≡ true → leads next (more + steps) from to ≡ true
  more_steps zero steps from to h = let same : 0 + steps ≡ steps = omega arith in ap (λ n. leads next n from to) same ∙ h
  more_steps (suc more) steps from to h =
      let same : suc more + steps ≡ suc (more + steps) = omega arith in
      ap (λ n. leads next n from to) same ∙ one_more (more + steps) from to (more_steps more steps from to h)

  -- ---- no import is on a cycle

  abbrev graph_names : List (List ℕ)
  graph_names = map (λ (type : GraphType). type.name) (graphs_of script)

  no_least : (names : List (List ℕ)) → least names ≡ None → names ≡ []
  no_least [] h = refl
  no_least (name ∷ names) h = cc

  back_none : (xs ys : List (List ℕ)) → xs ++ ys ≡ [] → ys ≡ []
  back_none [] ys h = h
  back_none (x ∷ xs) ys h = cc

  filter_none : (p : List ℕ → Bool) (names : List (List ℕ)) (name : List ℕ) → filter p names ≡ [] → In name names → p name ≡ false
  filter_none p [] name h i = absurd i
  filter_none p (n ∷ ns) name h i = by (p n) refl h i (λ e j. filter_none p ns name e j)
    where
      by : (b : Bool) → p n ≡ b → cond b (n ∷ filter p ns) (filter p ns) ≡ [] → (name ≡ n) ⊎ In name ns →
          (filter p ns ≡ [] → In name ns → p name ≡ false) → p name ≡ false
      by true e h i later = cc
      by false e h (inl same) later = ap p same ∙ e
      by false e h (inr j) later = later h j

  found_in : (name : List ℕ) (types : List GraphType) (type : GraphType) → find (λ (t : GraphType). same_name name t.name) types ≡ Some type →
      In name (map (λ (t : GraphType). t.name) types)
  found_in name [] type h = cc
  found_in name (t ∷ ts) type h = by (same_name name t.name) refl h (λ e. found_in name ts type e)
    where
      by : (b : Bool) → same_name name t.name ≡ b → cond b (Some t) (find (λ (u : GraphType). same_name name u.name) ts) ≡ Some type →
          (find (λ (u : GraphType). same_name name u.name) ts ≡ Some type → In name (map (λ (u : GraphType). u.name) ts)) →
          (name ≡ t.name) ⊎ In name (map (λ (u : GraphType). u.name) ts)
      by true e h later = inl (one_name name t.name e)
      by false e h later = inr (later h)

  nowhere : (depth : ℕ) (from to : List ℕ) → next from ≡ [] → leads next depth from to ≡ false
  nowhere zero from to h = refl
  nowhere (suc depth) from to h = ap (list_any (λ name. same_name to name || leads next depth name to)) h

  acyclic : (names : List (List ℕ)) → least (names ++ cyclic next graph_names) ≡ None → (depth : ℕ) → depth < length (graphs_of script) → (name : List ℕ) →
      leads next depth name name ≡ false
  acyclic names none depth low name = by (graph_named script name) refl
    where
      by : (o : Option GraphType) → graph_named script name ≡ o → leads next depth name name ≡ false
      by None e = nowhere depth name name (ap (λ o. option_map_or (λ (type : GraphType). type.imports) o []) e)
      by (Some type) e = false_from_ne_true (leads next depth name name)
          (λ led.
          let all : length graph_names ≡ length (graphs_of script) = length-map (graphs_of script) (λ (t : GraphType). t.name) in
          let most : (length graph_names - depth) + depth ≡ length graph_names = omega (arith, low, all) in
          both_ways (leads next (length graph_names) name name)
          (filter_none (λ n. leads next (length graph_names) n n) graph_names name (back_none names (cyclic next graph_names) (no_least _ none))
          (found_in name (graphs_of script) type e))
          (sym (ap (λ n. leads next n name name) most) ∙ more_steps (length graph_names - depth) depth name name led))

-- ---- keys

abbrev keys_at : List GraphType → List ℕ → Option GraphType
keys_at types name = find (λ (type : GraphType). same_name name type.name) types

abbrev count_of : Option GraphType → ℕ
count_of o = option_map_or (λ (type : GraphType). length type.keys) o 0

abbrev keys_count : List GraphType → List (List ℕ) → ℕ
keys_count types names = length (flat_map keys_in (filter_map (keys_at types) names))

one_count : (o : Option GraphType) (rest : List GraphType) → length (flat_map keys_in (cons_option o rest)) ≡ count_of o + length (flat_map keys_in rest)
one_count None rest = omega arith
one_count (Some type) rest = length-append type.keys (flat_map keys_in rest)

no_types : (names : List (List ℕ)) → keys_count [] names ≡ 0
no_types [] = refl
no_types (name ∷ names) = no_types names

no_hit : (type : GraphType) (types : List GraphType) (names : List (List ℕ)) → has_name type.name names ≡ false → keys_count (type ∷ types) names ≡ keys_count types names
no_hit type types [] h = refl
no_hit type types (name ∷ names) h =
    let parts = or_parts (same_name type.name name) (has_name type.name names) h in
    let miss : keys_at (type ∷ types) name ≡ keys_at types name =
    ap (λ b. cond b (Some type) (keys_at types name)) (in_turn name type.name ∙ parts.0) in
    let rest = no_hit type types names parts.1 in
    let a = one_count (keys_at (type ∷ types) name) (filter_map (keys_at (type ∷ types)) names) in
    let b = one_count (keys_at types name) (filter_map (keys_at types) names) in
    let c = ap count_of miss in
    omega (arith, a, b, c, rest)

one_type : (before : List (List ℕ)) (type : GraphType) (types : List GraphType) (names : List (List ℕ)) → Fresh before names →
    keys_count (type ∷ types) names ≤ length type.keys + keys_count types names
one_type before type types [] f = omega arith
one_type before type types (name ∷ names) f =
    by (same_name name type.name) refl (one_type (name ∷ before) type types names f.1)
    (one_count (keys_at (type ∷ types) name) (filter_map (keys_at (type ∷ types)) names)) (one_count (keys_at types name) (filter_map (keys_at types) names))
  where
    by : (b : Bool) → same_name name type.name ≡ b → keys_count (type ∷ types) names ≤ length type.keys + keys_count types names →
        keys_count (type ∷ types) (name ∷ names) ≡ count_of (keys_at (type ∷ types) name) + keys_count (type ∷ types) names →
        keys_count types (name ∷ names) ≡ count_of (keys_at types name) + keys_count types names →
        keys_count (type ∷ types) (name ∷ names) ≤ length type.keys + keys_count types (name ∷ names)
    by true e rest a b =
        let same : name ≡ type.name = one_name name type.name e in
        let miss = no_hit type types names (ap (λ n. has_name n names) (sym same) ∙ fresh_none (name ∷ before) names name (inl refl) f.1) in
        let hit : count_of (keys_at (type ∷ types) name) ≡ length type.keys = ap (λ c. count_of (cond c (Some type) (keys_at types name))) e in
        omega (arith, miss, hit, a, b)
    by false e rest a b =
        let hit : count_of (keys_at (type ∷ types) name) ≡ count_of (keys_at types name) = ap (λ c. count_of (cond c (Some type) (keys_at types name))) e in
        omega (arith, hit, a, b, rest)

few_keys : (types : List GraphType) (before names : List (List ℕ)) → Fresh before names → keys_count types names ≤ length (flat_map keys_in types)
few_keys [] before names f = let n = no_types names in omega (arith, n)
few_keys (type ∷ types) before names f =
    let a = one_type before type types names f in
    let b = few_keys types before names f in
    let c = length-append type.keys (flat_map keys_in types) in
    omega (arith, a, b, c)

-- a script whose keys have no fault has at most 256
few_sound : (n : ℕ) (keys : List RawKey) → n ≤ 257 → AllSound n keys → n + length keys ≤ 257
few_sound n [] low sound = omega (arith, low)
few_sound n (key ∷ keys) low sound =
    let small = (is_sound n key sound.0).small in
    let last = (or_parts (are_too_large key.scope || are_too_large (within_of key) || ltb 16 (length key.exprs)) (ltb 256 n) small).1 in
    let le = ltb-false 256 n last in
    let rest = few_sound (n + 1) keys (omega (arith, le)) sound.1 in
    omega (arith, rest)

module _ (script : Script) (names : List (List ℕ)) (none : least (names ++ cyclic (imported_by script) (map (λ (type : GraphType). type.name) (graphs_of script))) ≡ None) where
  guard_keys : length (flat_map keys_in (walked_graphs script)) ≤ length (keys_of script)
  guard_keys = by (last_of (graphs_of script))
    where
      walk : GraphType → List (List ℕ)
      walk type = walked script (length (graphs_of script)) [] type.name

      by : (o : Option GraphType) → keys_count (graphs_of script) (option_map_or walk o []) ≤ length (keys_of script)
      by None = omega arith
      by (Some type) =
          few_keys (graphs_of script) [] (walk type) (walked_once script (length (graphs_of script)) (acyclic script names none) type.name)

  pub few_guard_keys : AllSound 1 (keys_of script) → leb (length (flat_map keys_in (walked_graphs script))) 256 ≡ true
  few_guard_keys sound =
      let few = few_sound 1 (keys_of script) (omega arith) sound in
      le-leb (length (flat_map keys_in (walked_graphs script))) 256 (omega (arith, few, guard_keys))
