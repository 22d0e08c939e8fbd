-- Types that are found by their names: none is dropped.
use Rattle.std.proofs.Common.{◌≡◌, ℕ, Bool, true, false, cond, ◌||◌, ⊎_elim, List, [], ◌∷◌, length, map, Option, Some, refl, sym, ◌∙◌, ap, subst, true≢false}
use Rattle.std.specs.Prelude.{Contains, filter_map, option_map, find}
use Rattle.std.specs.List.{cons_option}
use Rattle.pgs_base.specs.Pair.{same_name, has_name}
use Rattle.pgs_syntax.specs.declared.element_type.NodeType.{NodeType}
use Rattle.pgs_syntax.specs.declared.element_type.EdgeType.{EdgeType}
use Rattle.pgs_syntax.specs.declared.script.Script.{Script}
use Rattle.pgs_syntax.specs.declared.specification.Leaf.{Leaf}
use Rattle.pgs_syntax.proofs.Members.{contains_first, contains_later, contains_none}
use Rattle.pgs_resolve_declared.specs.Declarations.{nodes_of, edges_of}
use Rattle.pgs_resolve_declared.specs.Order.{Entry, listing, node_entry, edge_entry, numbering_of, resolved_node, resolved_edge, resolved_nodes, resolved_edges}
use Rattle.pgs_resolve_declared.proofs.Same.{one_name}
use Rattle.pgs_resolve.proofs.Listing.{listed_from}
use Rattle.pgs_resolve.proofs.Members.{has}

module _ {T : Type 0} (key : T → List ℕ) where
  -- a type of a name that some type has
  pub type_named : (types : List T) (name : List ℕ) → has_name name (map key types) ≡ true →
      (type : T) × (find (λ t. same_name name (key t)) types ≡ Some type) × (key type ≡ name)
  type_named [] name h = absurd (true≢false (sym h))
  type_named (x ∷ xs) name h = by (same_name name (key x)) refl h (type_named xs name)
    where
      by : (b : Bool) → same_name name (key x) ≡ b → (b || has_name name (map key xs)) ≡ true →
          (has_name name (map key xs) ≡ true → (type : T) × (find (λ t. same_name name (key t)) xs ≡ Some type) × (key type ≡ name)) →
          (type : T) × (cond b (Some x) (find (λ t. same_name name (key t)) xs) ≡ Some type) × (key type ≡ name)
      by true e there rest = (x, refl, sym (one_name name (key x) e))
      by false e there rest = rest there

  module _ (types : List T) where
    abbrev Known : List (List ℕ) → Type 0
    Known names = (name : List ℕ) → Contains names name → has_name name (map key types) ≡ true

    module _ {R : Type 0} (resolve : T → R) (of : R → List ℕ) (same : (type : T) → of (resolve type) ≡ key type) where
      abbrev resolved_of : List ℕ → Option R
      resolved_of name = option_map resolve (find (λ t. same_name name (key t)) types)

      pub none_dropped : (names : List (List ℕ)) → Known names → map of (filter_map resolved_of names) ≡ names
      none_dropped [] known = refl
      none_dropped (name ∷ names) known =
          let it = type_named types name (known name (contains_first name names)) in
          let rest = none_dropped names (λ n i. known n (contains_later name names n i)) in
          ap (λ (o : Option T). map of (cons_option (option_map resolve o) (filter_map resolved_of names))) it.1
          ∙ ap (λ (n : List ℕ). n ∷ map of (filter_map resolved_of names)) (same it.0 ∙ it.2) ∙ ap (λ (ns : List (List ℕ)). name ∷ ns) rest

module _ {T : Type 0} (key : T → List ℕ) (entry_of : T → Entry) (same : (type : T) → (entry_of type).name ≡ key type) where
  pub names_same : (types : List T) → map (λ (entry : Entry). entry.name) (map entry_of types) ≡ map key types
  names_same [] = refl
  names_same (type ∷ types) = ap (λ (n : List ℕ). n ∷ map (λ (entry : Entry). entry.name) (map entry_of types)) (same type) ∙ ap (λ (ns : List (List ℕ)). key type ∷ ns) (names_same types)

  -- what is listed are names of types
  listed_known : (types : List T) (name : List ℕ) → Contains (listing (length types) [] (map entry_of types)) name → has_name name (map key types) ≡ true
  listed_known types name h =
      ⊎_elim (λ none. absurd (contains_none name none))
      (λ there. has name (map key types) (subst (λ (ns : List (List ℕ)). Contains ns name) (names_same types) there))
      (listed_from (map entry_of types) (length types) [] (map entry_of types) name h)

module _ (script : Script) where
  pub nodes_kept : map (λ (type : NodeType Leaf). type.name) (resolved_nodes script (numbering_of script)) ≡ (numbering_of script).nodes
  nodes_kept =
      none_dropped (λ (type : NodeType (List ℕ)). type.name) (nodes_of script) (resolved_node (numbering_of script)) (λ (type : NodeType Leaf). type.name) (λ type. refl)
      (numbering_of script).nodes (listed_known (λ (type : NodeType (List ℕ)). type.name) (node_entry script) (λ type. refl) (nodes_of script))

  pub edges_kept : map (λ (type : EdgeType Leaf). type.name) (resolved_edges script (numbering_of script)) ≡ (numbering_of script).edges
  edges_kept =
      none_dropped (λ (type : EdgeType (List ℕ)). type.name) (edges_of script) (resolved_edge (numbering_of script)) (λ (type : EdgeType Leaf). type.name) (λ type. refl)
      (numbering_of script).edges (listed_known (λ (type : EdgeType (List ℕ)). type.name) (edge_entry script) (λ type. refl) (edges_of script))
