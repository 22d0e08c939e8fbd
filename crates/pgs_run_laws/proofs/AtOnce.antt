-- The operations of a dump, all of them one transaction, make its graph from the empty graph.
use Rattle.std.proofs.Common.{◌≡◌, ℕ, ◌+◌, ◌≤◌, Bool, true, false, List, [], ◌∷◌, length, Result, Ok, Err, refl, ap, ◌∙◌}
use Rattle.std.specs.Prelude.{if◌then◌else◌, nat_lt}
use Rattle.std.proofs.lemmas.Bool.{and_parts, le-ltb}
use Rattle.pgs_base.specs.declared.limits.Limits.{Limits}
use Rattle.pgs_base.specs.Graph.{Graph, element_count, empty_graph}
use Rattle.pgs_codec.proofs.Exact.{IsBytes}
use Rattle.pgs_dump.specs.Lines.{graph_ops}
use Rattle.pgs_graph.specs.declared.operation.Op.{Op}
use Rattle.pgs_saved_graph.specs.Small.{has_small_rows}
use Rattle.pgs_snapshot.specs.Saved.{saved, store}
use Rattle.pgs_syntax.specs.declared.resolved.Resolved.{Resolved}
use Rattle.pgs_violation.specs.declared.rejection.Rejection.TheVariants.{Structural as ByStructure}
use Rattle.pgs_violation.specs.declared.structural.Structural.{Structural}
use Rattle.pgs_violation.specs.declared.structural.Structural.TheVariants.{TooManyElements, TooManyOps}
use Rattle.pgs_violation.specs.declared.violation.Verdict.{Verdict}
use Rattle.pgs_violation.specs.declared.violation.Verdict.TheVariants.{Conforms}
use Rattle.pgs_violation.specs.Decision.{conforming, decide, judging}
use Rattle.pgs_violation.specs.Staging.{◌>>=◌, StepFault, after_ops, going_on, step, within_limit}
use Rattle.pgs_violation.specs.Violations.{verdict}
use Rattle.pgs_run_input.specs.Answers.{schema_answer}
use Rattle.pgs_run_input.specs.Session.{standard}
use Rattle.pgs_run_store.proofs.Conforming.{saved_conforms}
use Rattle.pgs_run_try.specs.Judging.{judges_nothing}
use Rattle.pgs_run_laws.specs.DumpOps.{txn_of_op}
use Rattle.pgs_run_laws.proofs.Rebuilt.{Builds, HasSmallRows, rebuilt}
use Rattle.pgs_run_laws.proofs.Saved.{saved_is}

-- ---- one operation

judged_is : (many : Bool) (after next : Graph) → (if many then Err (ByStructure (TooManyElements (element_count after))) else Ok after) ≡ Ok next → after ≡ next
judged_is true after next is = cc
judged_is false after next is = cc

within_is : (many again : Bool) (after next : Graph) → nat_lt 1000000 (element_count after) ≡ many
    → judging standard judges_nothing (if many then Err (TooManyElements (element_count after)) else Ok after) ≡ Ok next → after ≡ next
within_is true again after next e is = cc
within_is false again after next e is = judged_is (nat_lt 1000000 (element_count after)) after next is

-- an operation that is accepted alone can be done
step_by : (r : Result Graph StepFault) (next : Graph) → judging standard judges_nothing (going_on 1 r (λ after. Ok after) >>= within_limit standard) ≡ Ok next → r ≡ Ok next
step_by (Ok after) next is = ap Ok (within_is (nat_lt 1000000 (element_count after)) false after next refl is)
step_by (Err fault) next is = cc

step_of : (g next : Graph) (op : Op) → decide standard judges_nothing g (txn_of_op op) ≡ Ok next → step g op ≡ Ok next
step_of g next op is = step_by (step g op) next is

-- ---- all of them

all_ops : (g h : Graph) (place : ℕ) (ops : List Op) → Builds g ops h → after_ops g place ops ≡ Ok h
all_ops g h place [] same = ap Ok same
all_ops g h place (op ∷ ops) built =
    ap (λ (r : Result Graph StepFault). going_on place r (λ next. after_ops next (place + 1) ops)) (step_of g built.0 op built.1)
    ∙ all_ops built.0 h (place + 1) ops built.2

module _ (limits : Limits) (judge : Graph → Verdict) (g : Graph) (ops : List Op) where
  at_once : length ops ≤ limits.ops → element_count g ≤ limits.elements → judge g ≡ Conforms → Builds empty_graph ops g → decide limits judge empty_graph (record { ops = ops }) ≡ Ok g
  at_once few small conforms built =
      let ops_fit : nat_lt limits.ops (length ops) ≡ false = le-ltb limits.ops (length ops) few in
      let fits : nat_lt limits.elements (element_count g) ≡ false = le-ltb limits.elements (element_count g) small in
      ap (λ (b : Bool). judging limits judge (if b then Err (TooManyOps (length ops)) else (after_ops empty_graph 1 ops >>= within_limit limits))) ops_fit
      ∙ ap (λ (r : Result Graph Structural). judging limits judge (r >>= within_limit limits)) (all_ops empty_graph g 1 ops built)
      ∙ ap (λ (b : Bool). judging limits judge (if b then Err (TooManyElements (element_count g)) else Ok g)) fits
      ∙ ap (λ (b : Bool). if b then Err (ByStructure (TooManyElements (element_count g))) else conforming g (judge g)) fits
      ∙ ap (conforming g) conforms

small_rows : (g : Graph) → has_small_rows g ≡ true → HasSmallRows g
small_rows g small =
    let parts = and_parts _ _ small in
    record { nodes = parts.0; edges = parts.1 }

-- the graph that two areas of bytes save
pub dump_at_once : (a b text : List ℕ) (commits : ℕ) (graph : Graph) (resolved : Resolved) (limits : Limits) → IsBytes a → IsBytes b → saved standard a b ≡ store text commits graph → schema_answer text ≡ Ok resolved
    → length (graph_ops graph) ≤ limits.ops → element_count graph ≤ limits.elements → decide limits (verdict resolved) empty_graph (record { ops = graph_ops graph }) ≡ Ok graph
dump_at_once a b text commits graph resolved limits one other saves answer few small =
    let kept = saved_is standard text commits graph a b one other saves in
    at_once limits (verdict resolved) graph (graph_ops graph) few small (saved_conforms standard a b text commits graph resolved saves answer)
    (rebuilt graph kept.graph (small_rows graph kept.small) kept.within)
