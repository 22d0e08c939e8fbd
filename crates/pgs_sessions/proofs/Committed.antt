-- What comes of a decision on what a session staged.
use Rattle.std.proofs.Common.{◌≡◌, ℕ, ◌+◌, Bool, true, false, List, Option, Some, Ok, Err, refl, sym, ap, subst, ◌∙◌}
use Rattle.std.specs.Prelude.{if◌then◌else◌, nat_lt}
use Rattle.pgs_base.specs.declared.element.Elem.{Elem}
use Rattle.pgs_base.specs.declared.element.NodeId.{NodeId}
use Rattle.pgs_base.specs.declared.element.EdgeId.{EdgeId}
use Rattle.pgs_base.specs.declared.limits.Limits.{Limits}
use Rattle.pgs_base.specs.Graph.{Graph, element_count, is_graph}
use Rattle.pgs_graph.specs.declared.delta.Delta.{Delta}
use Rattle.pgs_graph.specs.declared.operation.Txn.{Txn}
use Rattle.pgs_graph.specs.Changed.{changed, is_sound}
use Rattle.pgs_sessions_machine.specs.declared.event.Reply.TheVariants.{Committed, Rejected}
use Rattle.pgs_sessions_machine.specs.Content.{is_kept}
use Rattle.pgs_sessions.specs.declared.changes.Changes.{Changes}
use Rattle.pgs_sessions.specs.Changes.{number_in, last_in, number_after, IsSame}
use Rattle.pgs_sessions.specs.Committing.{Follows}
use Rattle.pgs_sessions.specs.Differing.{differing}
use Rattle.pgs_sessions.proofs.Differing.{number_kept}
use Rattle.pgs_store.specs.State.{GuardState}
use Rattle.pgs_violation.specs.declared.rejection.Rejection.{Rejection}
use Rattle.pgs_violation.specs.declared.rejection.Rejection.TheVariants as rejections
use Rattle.pgs_violation.specs.declared.structural.Structural.{Structural}
use Rattle.pgs_violation.specs.declared.structural.Structural.TheVariants.{TooManyElements}
use Rattle.pgs_violation.specs.declared.violation.Verdict.{Verdict}
use Rattle.pgs_violation.specs.declared.violation.Verdict.TheVariants.{Conforms, Refused}
use Rattle.pgs_violation.specs.Decision.{conforming, judged, judging, decide}
use Rattle.pgs_violation.specs.Staging.{staged}
use Rattle.pgs_violation.specs.Violations.{verdict}

pub same_number : (before after : Changes) → IsSame before after → (elem : Elem) → last_in after elem ≡ last_in before elem
same_number before after same elem =
    ap (λ (nodes : List (NodeId × ℕ)). number_in nodes after.edges.rows elem) same.nodes ∙ ap (λ (edges : List (EdgeId × ℕ)). number_in before.nodes.rows edges elem) same.edges

-- a graph that is accepted is the one that was staged
conforming_same : (g next : Graph) (v : Verdict) → conforming g v ≡ Ok next → next ≡ g
conforming_same g next Conforms h = cc
conforming_same g next (Refused violation) h = cc

judged_same : (limits : Limits) (v : Graph → Verdict) (g next : Graph) → judged limits v g ≡ Ok next → next ≡ g
judged_same limits v g next h = by (nat_lt limits.elements (element_count g)) h
  where
    by : (b : Bool) → (if b then Err (rejections.Structural (TooManyElements (element_count g))) else conforming g (v g)) ≡ Ok next → next ≡ g
    by true h = cc
    by false h = conforming_same g next (v g) h

pub staged_same : (limits : Limits) (v : Graph → Verdict) (g h next : Graph) (txn : Txn) → staged limits g txn ≡ Ok h → decide limits v g txn ≡ Ok next → next ≡ h
staged_same limits v g h next txn made accepted = judged_same limits v h next (ap (judging limits v) (sym made) ∙ accepted)

module _ (old : GuardState) (before : Changes) (txn : Txn) where
  pub refused_early : (after : Changes) (structural : Structural) → IsSame before after → staged old.limits old.graph txn ≡ Err structural →
      Follows old old before after (Rejected (rejections.Structural structural)) (decide old.limits (verdict old.schema) old.graph txn)
  refused_early after structural same refused =
      subst (Follows old old before after (Rejected (rejections.Structural structural))) (sym (ap (judging old.limits (verdict old.schema)) refused))
      (record { replied = refl; guard = refl; numbers = same })

  pub refused_late : (new : GuardState) (after : Changes) (rejection : Rejection) → new ≡ old → IsSame before after →
      decide old.limits (verdict old.schema) old.graph txn ≡ Err rejection →
      Follows old new before after (Rejected rejection) (decide old.limits (verdict old.schema) old.graph txn)
  refused_late new after rejection unchanged same rejected =
      subst (Follows old new before after (Rejected rejection)) (sym rejected) (record { replied = refl; guard = unchanged; numbers = same })

  pub done : (new : GuardState) (middle after : Changes) (delta : Delta) (elems : List Elem) (commit : ℕ) → IsSame before middle → is_graph old.graph ≡ true →
      is_sound old.graph delta ≡ true → staged old.limits old.graph txn ≡ Ok (changed old.graph delta) → elems ≡ differing old.graph delta →
      decide old.limits (verdict old.schema) old.graph txn ≡ Ok new.graph → new ≡ record old { graph = new.graph; commits = old.commits + 1 } →
      commit ≡ old.commits + 1 → ((q : Elem) → last_in after q ≡ number_after commit q (last_in middle q) elems) →
      Follows old new before after (Committed commit) (decide old.limits (verdict old.schema) old.graph txn)
  done new middle after delta elems commit same graph sound made listed accepted guard numbered set =
      subst (Follows old new before after (Committed commit)) (sym accepted) (record { replied = ap Committed numbered; guard = guard; numbers = numbers })
    where
      next : new.graph ≡ changed old.graph delta
      next = staged_same old.limits (verdict old.schema) old.graph (changed old.graph delta) new.graph txn made accepted

      numbers : (q : Elem) → last_in after q ≡ if is_kept old.graph new.graph q then last_in before q else Some (old.commits + 1)
      numbers q =
          set q ∙ ap (number_after commit q (last_in middle q)) listed ∙ number_kept old.graph delta commit q (last_in middle q) graph sound
          ∙ ap (λ (g : Graph). if is_kept old.graph g q then last_in middle q else Some commit) (sym next)
          ∙ ap (λ (o : Option ℕ). if is_kept old.graph new.graph q then o else Some commit) (same_number before middle same q)
          ∙ ap (λ (n : ℕ). if is_kept old.graph new.graph q then last_in before q else Some n) numbered

  -- the same, by what the graph of the guard was read as
  pub done_from : (new : GuardState) (middle after : Changes) (delta : Delta) (elems : List Elem) (commit : ℕ) (limits : Limits) → old.limits ≡ limits → (first second : Graph) →
      first ≡ old.graph → second ≡ old.graph → IsSame before middle → is_graph second ≡ true → is_sound first delta ≡ true →
      staged limits first txn ≡ Ok (changed first delta) → elems ≡ differing second delta →
      decide old.limits (verdict old.schema) old.graph txn ≡ Ok new.graph → new ≡ record old { graph = new.graph; commits = old.commits + 1 } →
      commit ≡ old.commits + 1 → ((q : Elem) → last_in after q ≡ number_after commit q (last_in middle q) elems) →
      Follows old new before after (Committed commit) (decide old.limits (verdict old.schema) old.graph txn)
  done_from new middle after delta elems commit limits bound first second one other same graph sound made listed accepted guard numbered set =
      done new middle after delta elems commit same (ap is_graph (sym other) ∙ graph) (ap (λ (g : Graph). is_sound g delta) (sym one) ∙ sound)
      ((λ i. staged (bound i) (sym one i) txn) ∙ made ∙ ap (λ (g : Graph). Ok (changed g delta)) one) (listed ∙ ap (λ (g : Graph). differing g delta) other)
      accepted guard numbered set
