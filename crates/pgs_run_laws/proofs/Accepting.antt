-- The lines of a dump's operations are accepted, and nothing is told of them.
use Rattle.std.proofs.Common.{◌≡◌, ℕ, ◌+◌, Bool, List, [], ◌∷◌, ◌++◌, map, Ok, refl, ap, ◌∙◌}
use Rattle.std.specs.Prelude.{if◌then◌else◌}
use Rattle.std.specs.List.{AllByRecursion}
use Rattle.pgs_base.specs.Graph.{Graph}
use Rattle.pgs_graph.specs.declared.operation.Op.{Op}
use Rattle.pgs_violation.specs.Decision.{decide}
use Rattle.pgs_run_input.specs.Session.{Standing, standard, decision_on, with_text, answer_to_txn, answer_to, after_answer, refusals_alone, after_line, pieces_of_line, after_lines, pieces_of_lines}
use Rattle.pgs_run_try.specs.Judging.{judges_nothing}
use Rattle.pgs_run_laws.specs.DumpOps.{IsDumpOp, txn_of_op, line_of_op, AreReadBack}
use Rattle.pgs_run_laws.proofs.OpLines.{op_not_skipped, rest_is_skipped, op_is_answered}
use Rattle.pgs_run_laws.proofs.Rebuilt.{Builds}

-- where the run stands after one more commit
abbrev committed : Standing → Graph → Standing
committed s next = record { number = s.number + 1; commits = s.commits + 1; refused = s.refused; graph = next }

-- lines lead a run to a graph, refuse nothing and tell nothing
pub record LeadsTo (s : Standing) (lines : List (List ℕ)) (h : Graph) : Type 0 where
  pub graph : (after_lines judges_nothing s lines).graph ≡ h
  pub refused : (after_lines judges_nothing s lines).refused ≡ s.refused
  pub silent : pieces_of_lines refusals_alone judges_nothing s lines ≡ []

module _ (reads : AreReadBack) where
  answered : (op : Op) (g next : Graph) → IsDumpOp op → decide standard judges_nothing g (txn_of_op op) ≡ Ok next → answer_to judges_nothing g (line_of_op op) ≡ Ok next
  unfolding answer_to decision_on
  answered op g next is taken = ap (answer_to_txn judges_nothing g) (op_is_answered reads op is) ∙ ap with_text taken

  stands_after : (op : Op) (s : Standing) (next : Graph) → IsDumpOp op → decide standard judges_nothing s.graph (txn_of_op op) ≡ Ok next
      → after_line judges_nothing s (line_of_op op) ≡ committed s next
  unfolding after_line
  stands_after op s next is taken =
      ap (λ (b : Bool). if b then s else after_answer s (answer_to judges_nothing s.graph (line_of_op op))) (op_not_skipped op)
      ∙ ap (after_answer s) (answered op s.graph next is taken)

  tells_nothing : (op : Op) (s : Standing) (next : Graph) → IsDumpOp op → decide standard judges_nothing s.graph (txn_of_op op) ≡ Ok next
      → pieces_of_line refusals_alone judges_nothing s (line_of_op op) ≡ []
  unfolding pieces_of_line
  tells_nothing op s next is taken =
      ap (λ (b : Bool). if b then [] else refusals_alone s (answer_to judges_nothing s.graph (line_of_op op))) (op_not_skipped op)
      ∙ ap (refusals_alone s) (answered op s.graph next is taken)

  -- the empty rest behind the last line feed is skipped
  rest_leads : (s : Standing) (h : Graph) → s.graph ≡ h → LeadsTo s ([] ∷ []) h
  unfolding after_line pieces_of_line
  rest_leads s h same = record {
    graph = ap (λ (b : Bool). (if b then s else after_answer s (answer_to judges_nothing s.graph [])).graph) rest_is_skipped ∙ same;
    refused = ap (λ (b : Bool). (if b then s else after_answer s (answer_to judges_nothing s.graph [])).refused) rest_is_skipped;
    silent = ap (λ (b : Bool). (if b then [] else refusals_alone s (answer_to judges_nothing s.graph [])) ++ []) rest_is_skipped;
  }

  line_leads : (s next : Standing) (line : List ℕ) (lines : List (List ℕ)) (h : Graph) → after_line judges_nothing s line ≡ next
      → pieces_of_line refusals_alone judges_nothing s line ≡ [] → next.refused ≡ s.refused → LeadsTo next lines h → LeadsTo s (line ∷ lines) h
  line_leads s next line lines h moves silent refused rest = record {
    graph = ap (λ (t : Standing). (after_lines judges_nothing t lines).graph) moves ∙ rest.graph;
    refused = ap (λ (t : Standing). (after_lines judges_nothing t lines).refused) moves ∙ rest.refused ∙ refused;
    silent =
        ap (λ (front : List (List ℕ)). front ++ pieces_of_lines refusals_alone judges_nothing (after_line judges_nothing s line) lines) silent
        ∙ ap (λ (t : Standing). pieces_of_lines refusals_alone judges_nothing t lines) moves ∙ rest.silent;
  }

  -- the lines of operations that make a graph, and the empty rest behind them
  pub ops_lead : (ops : List Op) (s : Standing) (h : Graph) → AllByRecursion IsDumpOp ops → Builds s.graph ops h → LeadsTo s (map line_of_op ops ++ [] ∷ []) h
  ops_lead [] s h all built = rest_leads s h built
  ops_lead (op ∷ ops) s h all built =
      line_leads s (committed s built.0) (line_of_op op) (map line_of_op ops ++ [] ∷ []) h
      (stands_after op s built.0 all.0 built.1) (tells_nothing op s built.0 all.0 built.1) refl
      (ops_lead ops (committed s built.0) h all.1 built.2)
