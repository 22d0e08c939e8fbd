-- Types resolved in their order: valid, and as many as their names.
use Rattle.std.proofs.Common.{◌≡◌, ℕ, suc, ◌+◌, ◌<◌, Bool, true, false, ◌&&◌, inl, inr, List, [], ◌∷◌, ◌++◌, length, take, drop, map, filter, get_or, Option, Some, refl, sym, ◌∙◌, ap, arith}
use Rattle.std.specs.List.{list_all, flat_map, filter_map, cons_option}
use Rattle.std.specs.Option.{option_map, is_some}
use Rattle.std.proofs.lemmas.Bool.{and_from, or_cases}
use Rattle.std.proofs.lemmas.List.{length-take-le, take-append-drop}
use Rattle.pgs_base.specs.Pair.{same_name, has_name}
use Rattle.pgs_syntax.specs.declared.element_type.NodeType.{NodeType}
use Rattle.pgs_syntax.specs.declared.element_type.EdgeType.{EdgeType}
use Rattle.pgs_syntax.specs.declared.script.Member.TheVariants as members
use Rattle.pgs_syntax.specs.declared.script.Script.{Script}
use Rattle.pgs_syntax.specs.declared.specification.Leaf.{Leaf}
use Rattle.pgs_syntax.specs.declared.specification.Spec.{Spec}
use Rattle.pgs_syntax.specs.Valid.{is_valid_spec, are_valid_nodes, are_valid_edges}
use Rattle.pgs_resolve_declared.specs.Declarations.{words_of, types_of, nodes_of, edges_of, node_named, edge_named, is_node_type, is_edge_type}
use Rattle.pgs_resolve_declared.specs.declared.order.Numbering.{Numbering}
use Rattle.pgs_resolve_declared.specs.Order.{Entry, is_ready, node_entry, edge_entry, numbering_of, resolved_spec, resolved_node, resolved_edge, resolved_nodes, resolved_edges}
use Rattle.pgs_resolve_declared.specs.Refused.{marks_in, marks_of, seconds_after}
use Rattle.pgs_resolve.proofs.Each.{all_parts}
use Rattle.pgs_resolve.proofs.Fresh.{In, in_all, is_single, member_single, types_fresh, types_single, all_single, node_found, edge_found, nodes_among, edges_among}
use Rattle.pgs_resolve.proofs.InOrder.{EntryAt, in_order}
use Rattle.pgs_resolve_declared.proofs.Same.{one_name}
use Rattle.pgs_resolve.proofs.ValidSpecs.{is_below, spec_valid, words_below, each_below}

-- the type of the name at a place
pub record TypeAt {T : Type 0} (lookup : List ℕ → Option T) (types : List T) (entry_of : T → Entry) (names : List (List ℕ)) (k : ℕ) : Type 0 where
  pub type : T
  pub among : In type types
  pub found : lookup (get_or names k []) ≡ Some type
  pub named : (entry_of type).name ≡ get_or names k []
  pub ready : is_ready (take k names) (entry_of type) ≡ true
  pub new : has_name (entry_of type).name (take k names) ≡ false

in_unmap : {X Y : Type 0} (f : X → Y) (y : Y) (xs : List X) → In y (map f xs) → (x : X) × (In x xs) × (y ≡ f x)
in_unmap f y [] i = absurd i
in_unmap f y (x ∷ xs) (inl e) = (x, inl refl, e)
in_unmap f y (x ∷ xs) (inr i) = let rest = in_unmap f y xs i in (rest.0, inr rest.1, rest.2)

module _ {T : Type 0} (lookup : List ℕ → Option T) (types : List T) (entry_of : T → Entry)
    (found_by : (type : T) → In type types → lookup (entry_of type).name ≡ Some type) where
  pub type_at : (names : List (List ℕ)) (k : ℕ) → EntryAt (map entry_of types) names k → TypeAt lookup types entry_of names k
  type_at names k at =
      let of = in_unmap entry_of at.entry types at.among in
      let named : (entry_of of.0).name ≡ get_or names k [] = ap (λ (e : Entry). e.name) (sym of.2) ∙ at.named in
      record {
        type = of.0;
        among = of.1;
        found = ap lookup (sym named) ∙ found_by of.0 of.1;
        named = named;
        ready = ap (is_ready (take k names)) (sym of.2) ∙ at.ready;
        new = ap (λ (e : Entry). has_name e.name (take k names)) (sym of.2) ∙ at.new;
      }

-- what is looked up for each name, and resolved
module _ {T R : Type 0} (lookup : List ℕ → Option T) (resolve : T → R) where
  abbrev pub resolved_of : List ℕ → Option R
  resolved_of name = option_map resolve (lookup name)

  pub as_many : (names : List (List ℕ)) → ((j : ℕ) → j < length names → (type : T) × (lookup (get_or names j []) ≡ Some type)) →
      length (filter_map resolved_of names) ≡ length names
  as_many [] h = refl
  as_many (name ∷ names) h =
      let first = h 0 (omega arith) in
      let rest = as_many names (λ j lt. h (suc j) (omega (arith, lt))) in
      ap (λ o. length (cons_option (option_map resolve o) (filter_map resolved_of names))) first.1 ∙ ap suc rest

  module _ (valid : ℕ → R → Bool) (all_valid : ℕ → List R → Bool) (none : (k : ℕ) → all_valid k [] ≡ true)
      (more : (k : ℕ) (r : R) (rs : List R) → all_valid k (r ∷ rs) ≡ (valid k r && all_valid (k + 1) rs)) where
    pub valid_from : (k : ℕ) (names : List (List ℕ)) →
        ((j : ℕ) → j < length names → (type : T) × (lookup (get_or names j []) ≡ Some type) × (valid (k + j) (resolve type) ≡ true)) →
        all_valid k (filter_map resolved_of names) ≡ true
    valid_from k [] h = none k
    valid_from k (name ∷ names) h =
        let first = h 0 (omega arith) in
        let same : k ≡ k + 0 = omega arith in
        ap (λ o. all_valid k (cons_option (option_map resolve o) (filter_map resolved_of names))) first.1
        ∙ more k (resolve first.0) (filter_map resolved_of names)
        ∙ and_from _ _ (ap (λ n. valid n (resolve first.0)) same ∙ first.2)
        (valid_from (k + 1) names
        (λ j lt.
        let later = h (suc j) (omega (arith, lt)) in
        let shift : k + 1 + j ≡ k + suc j = omega arith in
        (later.0, later.1, ap (λ n. valid n (resolve later.0)) shift ∙ later.2)))

-- each name among others is a type's
known : (is_type : List ℕ → Bool) (names : List (List ℕ)) → ((j : ℕ) → j < length names → is_type (get_or names j []) ≡ true) →
    (name : List ℕ) → has_name name names ≡ true → is_type name ≡ true
known is_type [] h name there = cc
known is_type (n ∷ ns) h name there = elim (or_cases (same_name name n) (has_name name ns) there) [
  | inl e ↦ ap is_type (one_name name n e) ∙ h 0 (omega arith)
  | inr e ↦ known is_type ns (λ j lt. h (suc j) (omega (arith, lt))) name e
]

-- what a specification names stands before a place
early : (names : List (List ℕ)) (k : ℕ) → k < length names → (is_type : List ℕ → Bool) →
    ((j : ℕ) → j < length names → is_type (get_or names j []) ≡ true) → (words : List (List ℕ)) →
    list_all (λ name. has_name name (take k names)) (filter is_type words) ≡ true → list_all (is_below names k) words ≡ true
early names k lt is_type each words h =
    let whole : take k names ++ drop k names ≡ names = take-append-drop k names in
    let count : length (take k names) ≡ k = length-take-le k names (omega (arith, lt)) in
    ap (λ ns. list_all (is_below ns k) words) (sym whole) ∙ ap (λ n. list_all (is_below (take k names ++ drop k names) n) words) (sym count)
    ∙ words_below (take k names) (drop k names) is_type
    (λ name there. known is_type names each name (ap (has_name name) (sym whole) ∙ there)) words h

module _ (script : Script) (once : seconds_after [] (flat_map marks_of script.statements) ≡ []) where
  abbrev numbering : Numbering
  numbering = numbering_of script

  singles : list_all member_single (types_of script) ≡ true
  singles = types_single script.statements (all_single [] (flat_map marks_of script.statements) once)

  node_by : (type : NodeType (List ℕ)) → In type (nodes_of script) → node_named script type.name ≡ Some type
  node_by type i = node_found [] (types_of script) type (types_fresh script once) i

  edge_by : (type : EdgeType (List ℕ)) → In type (edges_of script) → edge_named script type.name ≡ Some type
  edge_by type i = edge_found [] (types_of script) type (types_fresh script once) i

  abbrev pub NodeAt : ℕ → Type 0
  NodeAt = TypeAt (node_named script) (nodes_of script) (node_entry script) numbering.nodes

  abbrev pub EdgeAt : ℕ → Type 0
  EdgeAt = TypeAt (edge_named script) (edges_of script) (edge_entry script) numbering.edges

  pub node_at : (k : ℕ) → k < length numbering.nodes → NodeAt k
  node_at k lt =
      let entries : List Entry = map (node_entry script) (nodes_of script) in
      type_at (node_named script) (nodes_of script) (node_entry script) node_by numbering.nodes k
      (in_order entries (length (nodes_of script)) [] entries (λ j h. absurd (omega (arith, h))) (λ entry i. i) (λ entry i. refl) k lt)

  pub edge_at : (k : ℕ) → k < length numbering.edges → EdgeAt k
  edge_at k lt =
      let entries : List Entry = map (edge_entry script) (edges_of script) in
      type_at (edge_named script) (edges_of script) (edge_entry script) edge_by numbering.edges k
      (in_order entries (length (edges_of script)) [] entries (λ j h. absurd (omega (arith, h))) (λ entry i. i) (λ entry i. refl) k lt)

  pub node_count : length (resolved_nodes script numbering) ≡ length numbering.nodes
  node_count = as_many (node_named script) (resolved_node numbering) numbering.nodes (λ j lt. let at = node_at j lt in (at.type, at.found))

  pub edge_count : length (resolved_edges script numbering) ≡ length numbering.edges
  edge_count = as_many (edge_named script) (resolved_edge numbering) numbering.edges (λ j lt. let at = edge_at j lt in (at.type, at.found))

  node_valid : (k : ℕ) → k < length numbering.nodes → (at : NodeAt k) → is_valid_spec k (resolved_spec numbering.nodes at.type.spec) ≡ true
  node_valid k lt at =
      spec_valid numbering.nodes k at.type.spec
      (early numbering.nodes k lt (is_node_type script) (λ j h. ap is_some (node_at j h).found) (words_of at.type.spec) at.ready)
      (in_all member_single (members.Node at.type) (types_of script) singles (nodes_among script at.type at.among))

  pub nodes_valid : are_valid_nodes 0 (resolved_nodes script numbering) ≡ true
  nodes_valid =
      valid_from (node_named script) (resolved_node numbering) (λ k (type : NodeType Leaf). is_valid_spec k type.spec) are_valid_nodes (λ k. refl)
      (λ k r rs. refl) 0 numbering.nodes
      (λ j lt.
      let at = node_at j lt in
      let same : 0 + j ≡ j = omega arith in
      (at.type, at.found, ap (λ n. is_valid_spec n (resolved_spec numbering.nodes at.type.spec)) same ∙ node_valid j lt at))

  end_valid : (spec : Spec (List ℕ)) → list_all is_single (marks_in spec) ≡ true →
      is_valid_spec (length (resolved_nodes script numbering)) (resolved_spec numbering.nodes spec) ≡ true
  end_valid spec single =
      ap (λ n. is_valid_spec n (resolved_spec numbering.nodes spec)) node_count
      ∙ spec_valid numbering.nodes (length numbering.nodes) spec (each_below numbering.nodes (words_of spec)) single

  edge_valid : (k : ℕ) → k < length numbering.edges → (at : EdgeAt k) →
      (is_valid_spec (length (resolved_nodes script numbering)) (resolved_spec numbering.nodes at.type.source)
      && is_valid_spec k (resolved_spec numbering.edges at.type.middle)
      && is_valid_spec (length (resolved_nodes script numbering)) (resolved_spec numbering.nodes at.type.target)) ≡ true
  edge_valid k lt at =
      let type = at.type in
      let single = in_all member_single (members.Edge type) (types_of script) singles (edges_among script type at.among) in
      let last = all_parts is_single (marks_in type.source ++ marks_in type.middle) (marks_in type.target) single in
      let first = all_parts is_single (marks_in type.source) (marks_in type.middle) last.0 in
      and_from _ _
      (and_from _ _ (end_valid type.source first.0)
      (spec_valid numbering.edges k type.middle
      (early numbering.edges k lt (is_edge_type script) (λ j h. ap is_some (edge_at j h).found) (words_of type.middle) at.ready) first.1))
      (end_valid type.target last.1)

  pub edges_valid : are_valid_edges (length (resolved_nodes script numbering)) 0 (resolved_edges script numbering) ≡ true
  edges_valid =
      let nodes = length (resolved_nodes script numbering) in
      valid_from (edge_named script) (resolved_edge numbering)
      (λ k (type : EdgeType Leaf). is_valid_spec nodes type.source && is_valid_spec k type.middle && is_valid_spec nodes type.target)
      (are_valid_edges nodes) (λ k. refl) (λ k r rs. refl) 0 numbering.edges
      (λ j lt.
      let at = edge_at j lt in
      let same : 0 + j ≡ j = omega arith in (
        at.type,
        at.found,
        ap (λ n. is_valid_spec nodes (resolved_spec numbering.nodes at.type.source) && is_valid_spec n (resolved_spec numbering.edges at.type.middle)
            && is_valid_spec nodes (resolved_spec numbering.nodes at.type.target)) same ∙ edge_valid j lt at,
      ))
