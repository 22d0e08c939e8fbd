-- Before the first commit no number is kept.
use Rattle.std.proofs.Common.{◌≡◌, ℕ, List, [], None, refl}
use Rattle.pgs_base.specs.declared.element.NodeId.{NodeId}
use Rattle.pgs_base.specs.declared.element.EdgeId.{EdgeId}
use Rattle.pgs_base.specs.declared.element.Elem.{Elem}
use Rattle.pgs_base.specs.declared.element.Elem.TheVariants.{Node, Edge}
use Rattle.pgs_sessions.specs.Changes.{number_in}

pub none_kept : (nodes : List (NodeId × ℕ)) (edges : List (EdgeId × ℕ)) → nodes ≡ [] → edges ≡ [] →
    (elem : Elem) → number_in nodes edges elem ≡ None
none_kept nodes edges n e (Node id) = rw n refl
none_kept nodes edges n e (Edge id) = rw e refl
