-- What stands in the parts of several specifications.
use Rattle.std.proofs.Common.{◌≡◌, Bool, ◌||◌, List, [], ◌∷◌, ◌++◌, map, refl, sym, ap, ◌∙◌, append_assoc}
use Rattle.std.specs.List.{flat_map, list_any}
use denote.Bor.{Bor}
use Rattle.std.proofs.lemmas.List.Concat.{flat_map-append}
use Rattle.pgs_syntax.specs.declared.element_type.NodeType.{NodeType}
use Rattle.pgs_syntax.specs.declared.element_type.EdgeType.{EdgeType}
use Rattle.pgs_syntax.specs.declared.resolved.Resolved.{Resolved}
use Rattle.pgs_syntax.specs.declared.specification.Leaf.{Leaf}
use Rattle.pgs_syntax.specs.declared.specification.Spec.{Spec}
use Rattle.pgs_resolve_declared.proofs.Firsts.{flat_map_through}
use Rattle.pgs_advice.specs.Parts.{parts_of}
use Rattle.pgs_advice.specs.Words.{ends_of, node_specs, edge_specs}

abbrev pub parts_of_node : NodeType Leaf → List (Spec Leaf)
parts_of_node type = parts_of type.spec

abbrev pub parts_of_ends : EdgeType Leaf → List (Spec Leaf)
parts_of_ends type = parts_of type.source ++ parts_of type.target

abbrev pub parts_of_middle : EdgeType Leaf → List (Spec Leaf)
parts_of_middle type = parts_of type.middle

parts_at_ends : (types : List (EdgeType Leaf)) → flat_map parts_of_ends types ≡ flat_map parts_of (flat_map ends_of types)
parts_at_ends [] = refl
parts_at_ends (type ∷ types) =
    ap (λ (rest : List (Spec Leaf)). parts_of_ends type ++ rest) (parts_at_ends types)
    ∙ append_assoc (parts_of type.source) (parts_of type.target) (flat_map parts_of (flat_map ends_of types))

pub node_parts : (resolved : Resolved) → flat_map parts_of_node resolved.nodes ++ flat_map parts_of_ends resolved.edges ≡ flat_map parts_of (node_specs resolved)
node_parts resolved =
    let spec_of : NodeType Leaf → Spec Leaf = λ type. type.spec in
    ap (λ (front : List (Spec Leaf)). front ++ flat_map parts_of_ends resolved.edges) (flat_map_through spec_of parts_of resolved.nodes)
    ∙ ap (λ (back : List (Spec Leaf)). flat_map parts_of (map spec_of resolved.nodes) ++ back) (parts_at_ends resolved.edges)
    ∙ sym (flat_map-append parts_of (map spec_of resolved.nodes) (flat_map ends_of resolved.edges))

pub edge_parts : (resolved : Resolved) → flat_map parts_of_middle resolved.edges ≡ flat_map parts_of (edge_specs resolved)
edge_parts resolved = let middle_of : EdgeType Leaf → Spec Leaf = λ type. type.middle in flat_map_through middle_of parts_of resolved.edges

-- a test of each of mapped items
pub some_through : {X Y : Type 0} (f : X → Y) (test : Y → Bool) (xs : List X) → list_any (λ x. test (f x)) xs ≡ list_any test (map f xs)
some_through f test [] = refl
some_through f test (x ∷ xs) = ap (λ b. test (f x) || b) (some_through f test xs)

abbrev pub lent : Bor (Spec Leaf) → Spec Leaf
lent part = part.now

-- behind nothing
pub from_none : (old : List (Bor (Spec Leaf))) (more new : List (Spec Leaf)) → old ≡ [] → new ≡ map lent old ++ more → new ≡ more
from_none old more new none is = is ∙ ap (λ (parts : List (Bor (Spec Leaf))). map lent parts ++ more) none
