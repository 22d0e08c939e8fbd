-- A script that isn't refused: each type is listed once, and each import is walked.
use Rattle.std.proofs.Common.{◌≡◌, ℕ, Bool, true, false, not, cond, ⊎_elim, ◌⊎◌, inl, inr, ◌≤◌, List, [], ◌∷◌, ◌++◌, length, map, filter, Option, Some, None, refl, sym, ◌∙◌, ap, subst, true≢false, arith}
use Rattle.std.specs.Prelude.{Contains, IsPermutation, filter_map, find, flat_map}
use Rattle.std.specs.List.{cons_option}
use Rattle.std.specs.Option.{option_map_or}
use Rattle.std.proofs.lemmas.Bool.{or_from, or_parts, false_from_ne_true}
use Rattle.std.proofs.lemmas.List.{length-map, map-append}
use Rattle.std.proofs.lemmas.List.Elements.{Contains-append_left, Contains-append_right}
use Rattle.pgs_base.specs.Pair.{same_name, has_name}
use Rattle.pgs_syntax.specs.declared.element_type.EdgeType.{EdgeType}
use Rattle.pgs_syntax.specs.declared.element_type.NodeType.{NodeType}
use Rattle.pgs_syntax.specs.declared.script.GraphType.{GraphType}
use Rattle.pgs_syntax.specs.declared.script.Member.{Member}
use Rattle.pgs_syntax.specs.declared.script.Member.TheVariants as members
use Rattle.pgs_syntax.specs.declared.script.Script.{Script}
use Rattle.pgs_syntax.specs.declared.specification.Spec.{Empty}
use Rattle.pgs_syntax.proofs.Members.{contains_first, contains_later, contains_cases, contains_none, kept_found, kept_given, given_found}
use Rattle.pgs_resolve_declared.specs.Declarations.{words_of, types_of, nodes_of, edges_of, graphs_of, node_in, edge_in, node_named, edge_named, graph_named, is_node_type, is_edge_type, is_graph_type}
use Rattle.pgs_resolve_declared.specs.Imports.{walked, last_of, walked_graphs}
use Rattle.pgs_resolve_declared.specs.Order.{Entry, listing, node_entry, edge_entry, numbering_of, resolved_node, resolved_edge, resolved_nodes, resolved_edges}
use Rattle.pgs_resolve_declared.specs.Refused.{named_by, imported_by, marks_of, seconds_after, duplicates, unknown_member, unknown_in, unknowns, cycle}
use Rattle.pgs_resolve_declared.proofs.Firsts.{some_found}
use Rattle.pgs_resolve_declared.proofs.Same.{one_name}
use Rattle.pgs_resolve.specs.declared.fault.ResolveFault.{ResolveFault}
use Rattle.pgs_resolve.specs.declared.fault.ResolveFault.TheVariants as faults
use Rattle.pgs_resolve.specs.Guard.{name_of}
use Rattle.pgs_resolve.specs.Resolution.{refusals}
use Rattle.pgs_resolve.proofs.Fresh.{In, Fresh, fresh_none, types_fresh, node_found, edge_found}
use Rattle.pgs_resolve.proofs.Refusing.{not_refused}
use Rattle.pgs_resolve.specs.Standing.{CanFollow}
use Rattle.pgs_resolve.specs.Ways.{LeadsTo, graph_names}
use Rattle.pgs_resolve.proofs.AllListed.{names_of, each_listed}
use Rattle.pgs_resolve.proofs.Cycles.{cycle_none}
use Rattle.pgs_resolve.proofs.Members.{has, Apart}
use Rattle.pgs_resolve.proofs.Named.{type_named, names_same}
use Rattle.pgs_resolve.proofs.Resolved.{resolved_permute}
use Rattle.pgs_resolve.proofs.Walked.{found_passes, walked_from, walked_to, walked_at, all_declared}

abbrev node_name : NodeType (List ℕ) → List ℕ
node_name type = type.name

abbrev edge_name : EdgeType (List ℕ) → List ℕ
edge_name type = type.name

abbrev graph_name : GraphType → List ℕ
graph_name type = type.name

in_of : {X : Type 0} (xs : List X) (x : X) → Contains xs x → In x xs
in_of [] x i = absurd (contains_none x i)
in_of (y ∷ ys) x i = ⊎_elim (λ same. inl (sym same)) (λ later. inr (in_of ys x later)) (contains_cases y ys x i)

of_map : {X Y : Type 0} (f : X → Y) (xs : List X) (y : Y) → Contains (map f xs) y → (x : X) × Contains xs x × (f x ≡ y)
of_map f [] y i = absurd (contains_none y i)
of_map f (x ∷ xs) y i = elim (contains_cases (f x) (map f xs) y i) [
  | inl same ↦ (x, contains_first x xs, same)
  | inr later ↦ let it = of_map f xs y later in (it.0, contains_later x xs it.0 it.1, it.2)
]

-- ---- names of a kind differ where those of all types do

nodes_away : (name : List ℕ) (list : List Member) → has_name name (map name_of list) ≡ false → has_name name (map node_name (filter_map node_in list)) ≡ false
nodes_away name [] h = refl
nodes_away name (members.Named other ∷ rest) h = nodes_away name rest (or_parts (same_name name other) (has_name name (map name_of rest)) h).1
nodes_away name (members.Node type ∷ rest) h =
    let parts = or_parts (same_name name type.name) (has_name name (map name_of rest)) h in or_from _ _ parts.0 (nodes_away name rest parts.1)
nodes_away name (members.Edge type ∷ rest) h =
    nodes_away name rest (or_parts (same_name name type.name) (has_name name (map name_of rest)) h).1

edges_away : (name : List ℕ) (list : List Member) → has_name name (map name_of list) ≡ false → has_name name (map edge_name (filter_map edge_in list)) ≡ false
edges_away name [] h = refl
edges_away name (members.Named other ∷ rest) h = edges_away name rest (or_parts (same_name name other) (has_name name (map name_of rest)) h).1
edges_away name (members.Node type ∷ rest) h = edges_away name rest (or_parts (same_name name type.name) (has_name name (map name_of rest)) h).1
edges_away name (members.Edge type ∷ rest) h =
    let parts = or_parts (same_name name type.name) (has_name name (map name_of rest)) h in or_from _ _ parts.0 (edges_away name rest parts.1)

nodes_apart : (before : List (List ℕ)) (list : List Member) → Fresh before (map name_of list) → Apart (map node_name (filter_map node_in list))
nodes_apart before [] f = tt
nodes_apart before (members.Named name ∷ rest) f = nodes_apart (name ∷ before) rest f.1
nodes_apart before (members.Edge type ∷ rest) f = nodes_apart (type.name ∷ before) rest f.1
nodes_apart before (members.Node type ∷ rest) f =
    (nodes_away type.name rest (fresh_none (type.name ∷ before) (map name_of rest) type.name (inl refl) f.1), nodes_apart (type.name ∷ before) rest f.1)

edges_apart : (before : List (List ℕ)) (list : List Member) → Fresh before (map name_of list) → Apart (map edge_name (filter_map edge_in list))
edges_apart before [] f = tt
edges_apart before (members.Named name ∷ rest) f = edges_apart (name ∷ before) rest f.1
edges_apart before (members.Node type ∷ rest) f = edges_apart (type.name ∷ before) rest f.1
edges_apart before (members.Edge type ∷ rest) f =
    (edges_away type.name rest (fresh_none (type.name ∷ before) (map name_of rest) type.name (inl refl) f.1), edges_apart (type.name ∷ before) rest f.1)

-- ---- one kind: a type's entry leads to types of the kind, by what the type names

module _ {T : Type 0} (key : T → List ℕ) (entry_of : T → Entry) (same : (type : T) → (entry_of type).name ≡ key type) (types : List T) (next : List ℕ → List (List ℕ))
    (differ : Apart (map key types))
    (leads_to : (type : T) → Contains types type → (name : List ℕ) → Contains (entry_of type).names name → Contains (next (key type)) name × (has_name name (map key types) ≡ true))
    (none_back : (name : List ℕ) → LeadsTo next name name → ⊥) where
  kind_listed : IsPermutation (map key types) (listing (length types) [] (map entry_of types))
  kind_listed =
      let names : names_of (map entry_of types) ≡ map key types = names_same key entry_of same types in
      let count : length (map entry_of types) ≡ length types = length-map types entry_of in
      subst (λ (ns : List (List ℕ)). IsPermutation ns (listing (length types) [] (map entry_of types))) names
      (each_listed (map entry_of types) next (subst Apart (sym names) differ)
      (λ entry i name there.
      let it = of_map entry_of types entry i in
      let of : (entry_of it.0).name ≡ entry.name = ap (λ (e : Entry). e.name) it.2 in
      let led = leads_to it.0 it.1 name (subst (λ (e : Entry). Contains e.names name) (sym it.2) there) in
      (subst (λ n. Contains (next n) name) (sym (same it.0) ∙ of) led.0, ap (has_name name) names ∙ led.1)) none_back (length types) (omega arith))

-- ---- lists that are empty

none_mapped : (fault : List ℕ → ResolveFault) (names : List (List ℕ)) → map fault names ≡ [] → names ≡ []
none_mapped fault [] h = refl
none_mapped fault (name ∷ names) h = cc

no_cycle : (o : Option (List ℕ)) → option_map_or (λ name. faults.Cycle name ∷ []) o [] ≡ [] → o ≡ None
no_cycle None h = refl
no_cycle (Some name) h = cc

none_of_both : {X : Type 0} (xs ys : List X) → xs ++ ys ≡ [] → (xs ≡ []) × (ys ≡ [])
none_of_both [] ys h = (refl, h)
none_of_both (x ∷ xs) ys h = cc

none_given : {X Y : Type 0} (f : X → List Y) (xs : List X) (x : X) → flat_map f xs ≡ [] → Contains xs x → f x ≡ []
none_given f [] x h i = absurd (contains_none x i)
none_given f (y ∷ ys) x h i =
    let parts = none_of_both (f y) (flat_map f ys) h in
    ⊎_elim (λ same. ap f (sym same) ∙ parts.0) (λ later. none_given f ys x parts.1 later) (contains_cases y ys x i)

none_kept : {X : Type 0} (p : X → Bool) (xs : List X) (x : X) → filter p xs ≡ [] → Contains xs x → p x ≡ false
none_kept p xs x h i =
    false_from_ne_true (p x) (λ yes. contains_none x (subst (λ (ys : List _). Contains ys x) h (kept_given p xs x i yes)))

found_in : {X : Type 0} (p : X → Bool) (xs : List X) (x : X) → find p xs ≡ Some x → Contains xs x
found_in p [] x h = cc
found_in p (y ∷ ys) x h = by (p y) h (found_in p ys x)
  where
    by : (b : Bool) → cond b (Some y) (find p ys) ≡ Some x → (find p ys ≡ Some x → Contains ys x) → Contains (y ∷ ys) x
    by true found rest = let same : y ≡ x = cc in subst (Contains (y ∷ ys)) same (contains_first y ys)
    by false found rest = contains_later y ys x (rest found)

last_in : (types : List GraphType) (last : GraphType) → last_of types ≡ Some last → Contains types last
last_in [] last h = cc
last_in (type ∷ types) last h = by (last_of types) refl h (last_in types)
  where
    by : (o : Option GraphType) → last_of types ≡ o → Some (option_map_or (λ (t : GraphType). t) o type) ≡ Some last →
        ((t : GraphType) → last_of types ≡ Some t → Contains types t) → Contains (type ∷ types) last
    by None e found rest = let same : type ≡ last = cc in subst (Contains (type ∷ types)) same (contains_first type types)
    by (Some t) e found rest = let same : t ≡ last = cc in subst (Contains (type ∷ types)) same (contains_later type types t (rest t e))

in_map : {X Y : Type 0} (f : X → Y) (xs : List X) (x : X) → Contains xs x → Contains (map f xs) (f x)
in_map f [] x i = absurd (contains_none x i)
in_map f (y ∷ ys) x i = elim (contains_cases y ys x i) [
  | inl same ↦ subst (Contains (map f (y ∷ ys))) (ap f same) (contains_first (f y) (map f ys))
  | inr later ↦ contains_later (f y) (map f ys) (f x) (in_map f ys x later)
]

-- ---- a script

module _ (script : Script) (none : refusals script ≡ []) where
  once : seconds_after [] (flat_map marks_of script.statements) ≡ []
  once = none_mapped faults.Duplicate (duplicates script) (not_refused script none).duplicates

  all_known : unknowns script ≡ []
  all_known = none_mapped faults.Unknown (unknowns script) (not_refused script none).unknowns

  acyclic : cycle script ≡ None
  acyclic = no_cycle (cycle script) (not_refused script none).cycle

  fresh : Fresh [] (map name_of (types_of script))
  fresh = types_fresh script once

  no_type_back : (name : List ℕ) → LeadsTo (named_by script) name name → ⊥
  no_type_back name way = cycle_none script acyclic name (inl way)

  no_graph_back : (name : List ℕ) → LeadsTo (imported_by script) name name → ⊥
  no_graph_back name way = cycle_none script acyclic name (inr way)

  -- ---- node types

  abbrev words_of_node : NodeType (List ℕ) → List (List ℕ)
  words_of_node type = words_of type.spec

  abbrev words_of_edge : EdgeType (List ℕ) → List (List ℕ)
  words_of_edge type = words_of type.source ++ words_of type.middle ++ words_of type.target

  node_by : (type : NodeType (List ℕ)) → Contains (nodes_of script) type → node_named script type.name ≡ Some type
  node_by type i = node_found [] (types_of script) type fresh (in_of (nodes_of script) type i)

  node_leads : (type : NodeType (List ℕ)) → Contains (nodes_of script) type → (name : List ℕ) → Contains (node_entry script type).names name →
      Contains (named_by script type.name) name × (has_name name (map node_name (nodes_of script)) ≡ true)
  node_leads type i name there =
      let kept = kept_found (is_node_type script) (words_of type.spec) name there in (
        Contains-append_left (option_map_or words_of_node (node_named script type.name) []) (option_map_or words_of_edge (edge_named script type.name) []) name
            (subst (λ (o : Option (NodeType (List ℕ))). Contains (option_map_or words_of_node o []) name) (sym (node_by type i)) kept.0),
        some_found node_name (same_name name) (nodes_of script) ∙ kept.1,
      )

  pub nodes_listed : IsPermutation (map node_name (nodes_of script)) (numbering_of script).nodes
  nodes_listed =
      kind_listed node_name (node_entry script) (λ type. refl) (nodes_of script) (named_by script) (nodes_apart [] (types_of script) fresh) node_leads no_type_back

  pub nodes_resolved : IsPermutation (map (resolved_node (numbering_of script)) (nodes_of script)) (resolved_nodes script (numbering_of script))
  nodes_resolved =
      resolved_permute node_name (nodes_of script) (resolved_node (numbering_of script)) (record { name = []; hidden = false; place = 0; spec = Empty })
      node_by (numbering_of script).nodes nodes_listed

  -- ---- edge types

  edge_by : (type : EdgeType (List ℕ)) → Contains (edges_of script) type → edge_named script type.name ≡ Some type
  edge_by type i = edge_found [] (types_of script) type fresh (in_of (edges_of script) type i)

  edge_leads : (type : EdgeType (List ℕ)) → Contains (edges_of script) type → (name : List ℕ) → Contains (edge_entry script type).names name →
      Contains (named_by script type.name) name × (has_name name (map edge_name (edges_of script)) ≡ true)
  edge_leads type i name there =
      let kept = kept_found (is_edge_type script) (words_of type.middle) name there in (
        Contains-append_right (option_map_or words_of_node (node_named script type.name) []) (option_map_or words_of_edge (edge_named script type.name) []) name
            (subst (λ (o : Option (EdgeType (List ℕ))). Contains (option_map_or words_of_edge o []) name) (sym (edge_by type i))
            (Contains-append_left (words_of type.source ++ words_of type.middle) (words_of type.target) name
            (Contains-append_right (words_of type.source) (words_of type.middle) name kept.0))),
        some_found edge_name (same_name name) (edges_of script) ∙ kept.1,
      )

  pub edges_listed : IsPermutation (map edge_name (edges_of script)) (numbering_of script).edges
  edges_listed =
      kind_listed edge_name (edge_entry script) (λ type. refl) (edges_of script) (named_by script) (edges_apart [] (types_of script) fresh) edge_leads no_type_back

  pub edges_resolved : IsPermutation (map (resolved_edge (numbering_of script)) (edges_of script)) (resolved_edges script (numbering_of script))
  edges_resolved =
      resolved_permute edge_name (edges_of script) (resolved_edge (numbering_of script))
      (record { name = []; hidden = false; place = 0; source = Empty; middle = Empty; target = Empty }) edge_by (numbering_of script).edges edges_listed

  -- ---- graph types

  imports_known : (type : GraphType) → Contains (graphs_of script) type → (to : List ℕ) → Contains type.imports to → has_name to (graph_names script) ≡ true
  imports_known type i to import =
      let parts = none_of_both (filter (λ name. not (is_graph_type script name)) type.imports) (flat_map (unknown_member script) type.members)
      (none_given (unknown_in script) (graphs_of script) type all_known i) in
      some_found graph_name (same_name to) (graphs_of script)
      ∙ by (is_graph_type script to) (none_kept (λ name. not (is_graph_type script name)) type.imports to parts.0 import)
    where
      by : (b : Bool) → not b ≡ false → b ≡ true
      by true h = refl
      by false h = absurd (true≢false h)

  imports_declared : (name to : List ℕ) → Contains (imported_by script name) to → has_name to (graph_names script) ≡ true
  imports_declared name to h = by (graph_named script name) refl h
    where
      by : (o : Option GraphType) → graph_named script name ≡ o → Contains (option_map_or (λ (type : GraphType). type.imports) o []) to →
          has_name to (graph_names script) ≡ true
      by None e i = absurd (contains_none to i)
      by (Some type) e i = imports_known type (found_in (λ (t : GraphType). same_name name t.name) (graphs_of script) type e) to i

  module _ (last : GraphType) (is_last : last_of (graphs_of script) ≡ Some last) where
    abbrev names : List (List ℕ)
    names = walked script (length (graphs_of script)) [] last.name

    deep : length (graph_names script) ≤ length (graphs_of script)
    deep = let same : length (graph_names script) ≡ length (graphs_of script) = length-map (graphs_of script) graph_name in omega arith

    mine : has_name last.name (graph_names script) ≡ true
    mine = has last.name (graph_names script) (in_map graph_name (graphs_of script) last (last_in (graphs_of script) last is_last))

    those : walked_graphs script ≡ filter_map (graph_named script) names
    those =
        ap (λ (o : Option GraphType). filter_map (graph_named script) (option_map_or (λ (type : GraphType). walked script (length (graphs_of script)) [] type.name) o [])) is_last

    named_all : (some : List (List ℕ)) → ((name : List ℕ) → Contains some name → has_name name (graph_names script) ≡ true) →
        map graph_name (filter_map (graph_named script) some) ≡ some
    named_all [] known = refl
    named_all (name ∷ some) known =
        let it = type_named graph_name (graphs_of script) name (known name (contains_first name some)) in
        ap (λ (o : Option GraphType). map graph_name (cons_option o (filter_map (graph_named script) some))) it.1
        ∙ ap (λ (n : List ℕ). n ∷ map graph_name (filter_map (graph_named script) some)) it.2
        ∙ ap (λ (ns : List (List ℕ)). name ∷ ns) (named_all some (λ n i. known n (contains_later name some n i)))

    names_same_graphs : map graph_name (walked_graphs script) ≡ names
    names_same_graphs =
        ap (map graph_name) those
        ∙ named_all names (all_declared script imports_declared no_graph_back (length (graphs_of script)) deep last.name mine)

    pub graphs_from : (name : List ℕ) → Contains (map graph_name (walked_graphs script)) name → (name ≡ last.name) ⊎ LeadsTo (imported_by script) last.name name
    graphs_from name i =
        walked_from script imports_declared no_graph_back (length (graphs_of script)) deep last.name mine name
        (subst (λ (ns : List (List ℕ)). Contains ns name) names_same_graphs i)

    pub graphs_to : (name : List ℕ) → (name ≡ last.name) ⊎ LeadsTo (imported_by script) last.name name → Contains (map graph_name (walked_graphs script)) name
    graphs_to name way =
        subst (λ (ns : List (List ℕ)). Contains ns name) (sym names_same_graphs)
        (walked_to script imports_declared no_graph_back (length (graphs_of script)) deep last.name mine name way)

    pub graphs_follow : (before after : List GraphType) (type : GraphType) → walked_graphs script ≡ before ++ type ∷ after →
        CanFollow (map graph_name before) type.name type.imports
    graphs_follow before after type e =
        let cut : names ≡ map graph_name before ++ type.name ∷ map graph_name after =
        sym names_same_graphs ∙ ap (map graph_name) e ∙ map-append graph_name before (type ∷ after) in
        let listed : Contains (filter_map (graph_named script) names) type =
        subst (λ (ts : List GraphType). Contains ts type) (sym e ∙ those) (Contains-append_right before (type ∷ after) type (contains_first type after)) in
        let it = given_found (graph_named script) names type listed in
        let same : it.0 ≡ type.name = one_name it.0 type.name (found_passes (λ (t : GraphType). same_name it.0 t.name) (graphs_of script) type it.2) in
        let found : graph_named script type.name ≡ Some type = ap (graph_named script) (sym same) ∙ it.2 in
        subst (CanFollow (map graph_name before) type.name) (ap (λ (o : Option GraphType). option_map_or (λ (t : GraphType). t.imports) o []) found)
        (walked_at script imports_declared no_graph_back (length (graphs_of script)) deep last.name mine (map graph_name before) type.name (map graph_name after) cut)

  pub each_follows : (before after : List GraphType) (type : GraphType) → walked_graphs script ≡ before ++ type ∷ after →
      CanFollow (map graph_name before) type.name type.imports
  each_follows before after type e = by (last_of (graphs_of script)) refl
    where
      not_none : (front : List GraphType) → [] ≡ front ++ type ∷ after → ⊥
      not_none [] h = cc
      not_none (x ∷ xs) h = cc

      by : (o : Option GraphType) → last_of (graphs_of script) ≡ o → CanFollow (map graph_name before) type.name type.imports
      by None f =
          absurd (not_none before
          (sym (ap (λ (o : Option GraphType). filter_map (graph_named script) (option_map_or (λ (t : GraphType). walked script (length (graphs_of script)) [] t.name) o [])) f) ∙ e))
      by (Some last) f = graphs_follow last f before after type e
