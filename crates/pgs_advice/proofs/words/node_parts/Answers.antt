use Rattle.std.proofs.Common.{List, ◌++◌, ◌∙◌, ap, ap₂}
use Rattle.std.specs.List.{flat_map}
use Rattle.pgs_syntax.specs.declared.element_type.NodeType.{NodeType}
use Rattle.pgs_syntax.specs.declared.element_type.EdgeType.{EdgeType}
use Rattle.pgs_syntax.specs.declared.specification.Leaf.{Leaf}
use Rattle.pgs_syntax.specs.declared.specification.Spec.{Spec}
use Rattle.pgs_advice.proofs.Gathered.{from_none, node_parts, parts_of_node, parts_of_ends}
use Rattle.pgs_advice.proofs.words.node_parts.Goals as goal

pub returns : goal.returns
returns c =
    c.in_ok-push_ends.ensures
    ∙ ap (λ (front : List (Spec Leaf)). front ++ flat_map parts_of_ends c.as_slice-2.result.now)
    (from_none c.new-parts.result.items (flat_map parts_of_node c.as_slice.result.now) _ c.new-parts.ensures.items c.in_ok-push_nodes.ensures)
    ∙ ap₂ (λ (nodes : List (NodeType Leaf)) (edges : List (EdgeType Leaf)). flat_map parts_of_node nodes ++ flat_map parts_of_ends edges) c.as_slice.ensures c.as_slice-2.ensures
    ∙ node_parts c.args.resolved.now
