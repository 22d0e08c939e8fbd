-- The look-ups of a commit: those of staging and of comparing are within the guard's bound, and so are the guard's own.
use Rattle.std.proofs.Common.{◌≡◌, ℕ, ◌+◌, ◌*◌, ◌≤◌, true, length, Option, Some, sym, subst, arith}
use Rattle.std.proofs.Math.Nat.{mul-le-mul}
use Rattle.pgs_base.specs.Graph.{Graph, is_graph}
use Rattle.pgs_decide.specs.Touched.{guarding_count, staged_after, touched_by}
use Rattle.pgs_decide.proofs.Degrees.{staging_low}
use Rattle.pgs_decide.proofs.Parts.{whole_cost}
use Rattle.pgs_decide.proofs.Summed.{staged_only}
use Rattle.pgs_graph.specs.declared.delta.Delta.{Delta}
use Rattle.pgs_graph.specs.declared.operation.Txn.{Txn}
use Rattle.pgs_graph.specs.Changed.{is_sound}
use Rattle.pgs_sessions.specs.Costs.{IsWithinTwice, txn_in}
use Rattle.pgs_sessions_machine.specs.Machine.{Session}
use Rattle.pgs_store.specs.Costs.{IsWithin}
use Rattle.pgs_store.specs.State.{GuardState}
use Rattle.pgs_txn.specs.Listing.{has_degrees_upto, lists_only}

grows : (n more : ℕ) → n ≤ n + more
grows n more = omega arith

-- rows that are looked up, one look-up each, are within what a check of them may take
rows_within : (rows most more start after : ℕ) → after ≤ start + rows → after ≤ start + (16 * (rows + 1) * (most + 2) + more)
rows_within rows most more start after fewer =
    let each : (rows + 1) * 1 ≤ (rows + 1) * (most + 2) = mul-le-mul (omega arith) (omega arith) in omega arith

-- what staging took
abbrev pub StagesWithin : Graph → Txn → ℕ → ℕ → Type 0
StagesWithin g txn before after = (most : ℕ) → has_degrees_upto g most txn.ops ≡ true → after ≤ before + 16 * (length txn.ops + 1) * (most + 2)

module _ (guard : GuardState) (txn : Txn) where
  nothing : (n : ℕ) → IsWithin guard txn n n
  nothing n = λ edges most few sparse. grows n _

  pub none_within : (n : ℕ) → IsWithinTwice guard txn n n
  none_within n = (n, nothing n, nothing n)

  -- the guard wasn't asked
  one_within : (before after : ℕ) → IsWithin guard txn before after → IsWithinTwice guard txn before after
  one_within before after one = (after, one, nothing after)

  module _ (g : Graph) (same : g ≡ guard.graph) (before staged : ℕ) (stages : StagesWithin g txn before staged) where
    here : StagesWithin guard.graph txn before staged
    here = subst (λ (k : Graph). StagesWithin k txn before staged) same stages

    pub staged_within : IsWithinTwice guard txn before staged
    staged_within =
        one_within before staged
        (λ edges most few sparse.
        staged_only most edges (guarding_count guard.schema) (length txn.ops) (length (touched_by guard.graph txn.ops)) before staged
        (here most (staging_low guard.graph (staged_after guard.limits guard.graph txn) (2 * edges) most txn.ops sparse)))

    module _ (delta : Delta) (after : ℕ) (only : lists_only g txn.ops delta ≡ true) (sound : is_sound g delta ≡ true) (graph : is_graph guard.graph ≡ true)
        (looks : after ≤ staged + (length delta.nodes + length delta.edges)) where
      compared : IsWithin guard txn before after
      compared = λ edges most few sparse.
          whole_cost guard.limits guard.graph txn delta (subst (λ (k : Graph). lists_only k txn.ops delta ≡ true) same only)
          graph (subst (λ (k : Graph). is_sound k delta ≡ true) same sound)
          most edges (guarding_count guard.schema) 0 (omega arith) before staged after
          (here most (staging_low guard.graph (staged_after guard.limits guard.graph txn) (2 * edges) most txn.ops sparse))
          (rows_within (length delta.nodes + length delta.edges) most _ staged after looks)

      pub compared_within : IsWithinTwice guard txn before after
      compared_within = one_within before after compared

      -- and then the guard was asked
      pub asked_within : (last : ℕ) → IsWithin guard txn after last → IsWithinTwice guard txn before last
      asked_within last asked = (after, compared, asked)

-- what the open session of a number staged
pub session_within : (guard : GuardState) (found : Option Session) (session : Session) (before after : ℕ) → found ≡ Some session
    → IsWithinTwice guard (record { ops = session.staged }) before after → IsWithinTwice guard (txn_in found) before after
session_within guard found session before after is within = subst (λ (o : Option Session). IsWithinTwice guard (txn_in o) before after) (sym is) within
