-- The causes of a refused line: texts, by what refuses it.
use Rattle.std.specs.Prelude.{◌≡◌, ℕ, List, [], length, MatchBool, Option, Result, Ok, Err, nat_lt}
use Rattle.std.specs.Option.{option_to_list}
use Rattle.pgs_base.specs.Graph.{Graph}
use Rattle.pgs_graph.specs.declared.operation.Txn.{Txn}
use Rattle.pgs_json_causes.specs.LineCause.{IsLineCause}
use Rattle.pgs_syntax.specs.declared.resolved.Resolved.{Resolved}
use Rattle.pgs_violation_causes.specs.Causes.{AreViolationCauses}
use Rattle.pgs_violation.specs.declared.structural.Structural.{Structural}
use Rattle.pgs_violation.specs.declared.violation.Verdict.{Verdict}
use Rattle.pgs_violation.specs.declared.violation.Verdict.TheVariants.{Conforms, Refused}
use Rattle.pgs_violation.specs.Staging.{staged}
use Rattle.pgs_violation.specs.Violations.{verdict}
use Rattle.pgs_run_input.specs.Answers.{txn_answer}
use Rattle.pgs_run_input.specs.Input.{text_limit}
use Rattle.pgs_run_input.specs.Session.{standard}

-- of a graph under the schema of a text, by the verdict on it: those of its violation
abbrev pub AreVerdictCauses : (text : List ℕ) → Resolved → Graph → Verdict → List (List ℕ) → Type 0
AreVerdictCauses text schema g Conforms causes = causes ≡ []
AreVerdictCauses text schema g (Refused violation) causes = AreViolationCauses text schema g violation causes

-- of what comes of staging: those of the graph behind the transaction, and none where it can't be done
abbrev pub AreStagedCauses : (text : List ℕ) → Resolved → Result Graph Structural → List (List ℕ) → Type 0
AreStagedCauses text schema (Ok g) causes = AreVerdictCauses text schema g (verdict schema g) causes
AreStagedCauses text schema (Err structural) causes = causes ≡ []

-- of a line that is no transaction: why it is none; nothing where it is too long
abbrev pub HasReadCause : List ℕ → List (List ℕ) → Type 0
HasReadCause line causes = (found : Option (List ℕ)) × IsLineCause line found × (causes ≡ option_to_list found)

abbrev pub AreReadCauses : List ℕ → List (List ℕ) → Type 0
AreReadCauses line causes = MatchBool (nat_lt text_limit (length line)) (causes ≡ []) (HasReadCause line causes)

-- of a transaction on a graph, or of a line that is none
abbrev pub AreTxnCauses : (text : List ℕ) → Resolved → Graph → List ℕ → Result Txn (List ℕ) → List (List ℕ) → Type 0
AreTxnCauses text schema g line (Ok txn) causes = AreStagedCauses text schema (staged standard g txn) causes
AreTxnCauses text schema g line (Err refusal) causes = AreReadCauses line causes

-- of a line on a graph
unfoldable pub AreLineCauses : (text : List ℕ) → Resolved → Graph → List ℕ → List (List ℕ) → Type 0
AreLineCauses text schema g line causes = AreTxnCauses text schema g line (txn_answer line) causes
