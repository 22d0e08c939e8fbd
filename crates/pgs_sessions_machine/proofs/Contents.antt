-- Contents that are told alike are equal, and which commit changed an element last comes no later than the last commit.
use Rattle.std.proofs.Common.{◌≡◌, ℕ, ◌+◌, ◌≤◌, Bool, true, false, List, [], ◌∷◌, length, Some, None, refl, ap, arith}
use Rattle.std.specs.Prelude.{if◌then◌else◌}
use Rattle.std.proofs.lemmas.Bool.{and_parts, eqb-true, le-ltb}
use Rattle.pgs_base.specs.declared.element.Elem.{Elem}
use Rattle.pgs_base.specs.declared.row.NodeRow.{NodeRow}
use Rattle.pgs_base.specs.declared.row.EdgeRow.{EdgeRow}
use Rattle.pgs_base.specs.declared.value.Value.{Value}
use Rattle.pgs_base.specs.Graph.{Graph}
use Rattle.pgs_base.specs.OrderLaws.{props_eq_decides, labels_eq_decides}
use Rattle.pgs_sessions_machine.specs.declared.event.Content.{Content}
use Rattle.pgs_sessions_machine.specs.declared.event.Content.TheVariants.{Absent, Node, Edge}
use Rattle.pgs_sessions_machine.specs.Content.{carries_same, is_same_content, is_kept, last_change}
use Rattle.pgs_sessions_machine.specs.Machine.{if_after}

carried : (labels : List (List ℕ)) (props : List (List ℕ × Value)) (labels' : List (List ℕ)) (props' : List (List ℕ × Value)) →
    carries_same labels props labels' props' ≡ true → (labels ≡ labels') × (props ≡ props')
carried labels props labels' props' h =
    let parts = and_parts _ _ h in ((labels_eq_decides labels labels').0 parts.0, (props_eq_decides props props').0 parts.1)

same_node : (a b : NodeRow) → carries_same a.labels a.props b.labels b.props ≡ true → a ≡ b
same_node a b h = let same = carried a.labels a.props b.labels b.props h in λ i. record { labels = same.0 i; props = same.1 i }

same_edge : (a b : EdgeRow) → is_same_content (Edge a) (Edge b) ≡ true → a ≡ b
same_edge a b h =
    let ends = and_parts _ _ h in
    let both = and_parts _ _ ends.0 in
    let same = carried a.labels a.props b.labels b.props ends.1 in
    let source = eqb-true a.source.0 b.source.0 both.0 in
    let target = eqb-true a.target.0 b.target.0 both.1 in
    λ i. record { source = record { 0 = source i }; target = record { 0 = target i }; labels = same.0 i; props = same.1 i }

pub content_same : (a b : Content) → is_same_content a b ≡ true → a ≡ b
content_same Absent Absent h = refl
content_same (Node a) (Node b) h = ap Node (same_node a b h)
content_same (Edge a) (Edge b) h = ap Edge (same_edge a b h)
content_same x y h = cc

-- ---- no commit comes after the last one

pub none_after : (elem : Elem) (graph : Graph) (earlier : List Graph) (n : ℕ) → length earlier ≤ n → if_after n (last_change elem graph earlier) ≡ None
none_after elem graph [] n h = refl
none_after elem graph (before ∷ earlier) n h = by (none_after elem before earlier n (omega arith)) (is_kept before graph elem)
  where
    by : if_after n (last_change elem before earlier) ≡ None → (b : Bool) → if_after n (if b then last_change elem before earlier else Some (length earlier + 1)) ≡ None
    by rest true = rest
    by rest false = rw (le-ltb n (length earlier + 1) (omega arith))
