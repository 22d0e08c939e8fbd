-- The causes of an element that fits no type, by its pair or its triple, and by what of it is there.
use Rattle.std.proofs.Common.{◌≡◌, ℕ, List, [], Option, Some, None, Result, IfOk, option_and_then, option_map, refl, sym, ap, subst, ◌∙◌}
use Rattle.pgs_base.specs.declared.element.EdgeId.{EdgeId}
use Rattle.pgs_base.specs.declared.row.EdgeRow.{EdgeRow}
use Rattle.pgs_base.specs.declared.row.NodeRow.{NodeRow}
use Rattle.pgs_base.specs.Graph.{Graph, edge_at, node_at}
use Rattle.pgs_base.specs.Pair.{pair_of}
use Rattle.pgs_conform.specs.Shapes.{triple_of}
use Rattle.pgs_syntax.specs.declared.resolved.Resolved.{Resolved}
use Rattle.pgs_syntax.specs.Join.{PairTriple}
use Rattle.pgs_syntax.specs.Typed.{triple_at}
use Rattle.pgs_differences.specs.declared.near_type.NearType.{NearType}
use Rattle.pgs_differences.specs.Nearest.{AreNearest, IsEdgeCandidate, IsNodeCandidate}
use Rattle.pgs_violation_causes.specs.Types.{AreEdgeCauses, AreNodeCauses, nearest_texts, no_edge_type_text, no_node_type_text, triple_of_edge}

-- an answer that is right of one thing is right of the same thing
pub ok_of : {X Y E : Type 0} (r : Result X E) (P : Y → X → Type 0) (x y : Y) → x ≡ y → IfOk r (P x) → IfOk r (P y)
ok_of r P x y same h = subst (λ z. IfOk r (P z)) same h

-- ---- the texts of nearest types

module _ (compiled resolved : Resolved) (nears slice : List NearType) (texts : List (List ℕ)) (same : resolved ≡ compiled) (all : slice ≡ nears) where
  texts_are : (none : List ℕ) → texts ≡ nearest_texts resolved none slice → texts ≡ nearest_texts compiled none nears
  texts_are none told = told ∙ ap (λ (r : Resolved). nearest_texts r none slice) same ∙ ap (nearest_texts compiled none) all

  pub node_told : (own : NodeRow) → AreNearest (IsNodeCandidate compiled own) compiled.guard.types nears → texts ≡ nearest_texts resolved no_node_type_text slice
      → AreNodeCauses compiled (Some own) texts
  node_told own are told = (nears, are, texts_are no_node_type_text told)

  pub edge_told : (t : PairTriple) → AreNearest (IsEdgeCandidate compiled t) compiled.guard.types nears → texts ≡ nearest_texts resolved no_edge_type_text slice
      → AreEdgeCauses compiled (Some t) texts
  edge_told t are told = (nears, are, texts_are no_edge_type_text told)

-- ---- what isn't there

pub no_node : (resolved : Resolved) (o : Option NodeRow) (texts : List (List ℕ)) → None ≡ o → texts ≡ [] → AreNodeCauses resolved o texts
no_node resolved o texts none empty = subst (λ (o : Option NodeRow). AreNodeCauses resolved o texts) none empty

pub no_edge : (resolved : Resolved) (o : Option PairTriple) (texts : List (List ℕ)) → None ≡ o → texts ≡ [] → AreEdgeCauses resolved o texts
no_edge resolved o texts none empty = subst (λ (o : Option PairTriple). AreEdgeCauses resolved o texts) none empty

-- ---- the triple of an edge

module _ (g : Graph) (row : EdgeRow) where
  abbrev triple_from : Option NodeRow → Option NodeRow → Option PairTriple
  triple_from source target =
      option_and_then (λ source. option_map (λ target. record { source = source; own = pair_of row.labels row.props; target = target }) target) source

  pub of_ends : (source target : NodeRow) → Some source ≡ node_at g row.source → Some target ≡ node_at g row.target
      → Some (triple_of source (pair_of row.labels row.props) target) ≡ triple_at g row
  of_ends source target from to = rw (← from, ← to) refl

  pub without_source : None ≡ node_at g row.source → None ≡ triple_at g row
  without_source none = ap (λ (o : Option NodeRow). triple_from o (node_at g row.target)) none

  pub without_target : None ≡ node_at g row.target → None ≡ triple_at g row
  without_target none = sym (by (node_at g row.source)) ∙ ap (λ (o : Option NodeRow). triple_from (node_at g row.source) o) none
    where
      by : (o : Option NodeRow) → triple_from o None ≡ None
      by None = refl
      by (Some p) = refl

pub triple_of_none : (g : Graph) (id : EdgeId) → None ≡ edge_at g id → None ≡ triple_of_edge g id
triple_of_none g id none = ap (option_and_then (triple_at g)) none

pub triple_of_some : (g : Graph) (id : EdgeId) (row : EdgeRow) → Some row ≡ edge_at g id → triple_at g row ≡ triple_of_edge g id
triple_of_some g id row some = ap (option_and_then (triple_at g)) some
