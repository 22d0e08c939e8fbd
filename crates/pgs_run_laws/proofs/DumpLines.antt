-- The lines of a dump: those of the schema's text, the separator, and one for each operation.
use Rattle.std.proofs.Common.{◌≡◌, ℕ, true, false, List, [], ◌∷◌, ◌++◌, map, refl, ap, ◌∙◌, append_assoc}
use Rattle.std.specs.Prelude.{codes}
use Rattle.std.specs.List.{AllByRecursion, concat, list_all, list_any}
use Rattle.std.proofs.lemmas.Bool.{and_from}
use Rattle.pgs_run_lines.specs.Input.{Lines, lines_of, has_no_feed}
use Rattle.pgs_graph.specs.declared.operation.Op.{Op}
use Rattle.pgs_answer.specs.Lines.{schema_line, separator_line, txn_line}
use Rattle.pgs_run_input.specs.Input.{is_separator, schema_part, after_separator}
use Rattle.pgs_run_laws.specs.Lines.{all_lines}
use Rattle.pgs_run_laws.specs.DumpOps.{IsDumpOp, txn_of_op, line_of_op}
use Rattle.pgs_run_laws.proofs.Cut.{lines_of_joined, lines_of_line, lines_of_each, schema_part_is, after_first_separator}
use Rattle.pgs_run_laws.proofs.OpLines.{op_has_no_feed}

ops_have_no_feed : (ops : List Op) → AllByRecursion IsDumpOp ops → list_all has_no_feed (map line_of_op ops) ≡ true
ops_have_no_feed [] all = refl
ops_have_no_feed (op ∷ ops) all = and_from (has_no_feed (line_of_op op)) _ (op_has_no_feed op all.0) (ops_have_no_feed ops all.1)

-- the lines of the operations with their feeds
two_maps : (ops : List Op) → map (λ (op : Op). txn_line (txn_of_op op)) ops ≡ map (λ (line : List ℕ). line ++ 10 ∷ []) (map line_of_op ops)
two_maps [] = refl
two_maps (op ∷ ops) = ap (λ (lines : List (List ℕ)). txn_line (txn_of_op op) ∷ lines) (two_maps ops)

lines_of_ops : (ops : List Op) → AllByRecursion IsDumpOp ops
    → lines_of (concat (map (λ (op : Op). txn_line (txn_of_op op)) ops)) ≡ record { ended = map line_of_op ops; rest = [] }
lines_of_ops ops all = ap (λ (lines : List (List ℕ)). lines_of (concat lines)) (two_maps ops) ∙ lines_of_each (map line_of_op ops) (ops_have_no_feed ops all)

-- The pieces of a dump, as lines. Behind the last line feed nothing is left.
pub dump_lines : (text : List ℕ) (ops : List Op) → AllByRecursion IsDumpOp ops
    → lines_of (concat (schema_line text ∷ separator_line ∷ map (λ (op : Op). txn_line (txn_of_op op)) ops))
    ≡ record { ended = all_lines text ++ codes "---" ∷ map line_of_op ops; rest = [] }
dump_lines text ops all =
    let tail = concat (map (λ (op : Op). txn_line (txn_of_op op)) ops) in
    let more : lines_of (codes "---\n" ++ tail) ≡ record { ended = codes "---" ∷ map line_of_op ops; rest = [] } =
    lines_of_line (codes "---") tail refl
    ∙ ap (λ (l : Lines). let r : Lines = record { ended = codes "---" ∷ l.ended; rest = l.rest } in r) (lines_of_ops ops all) in
    ap lines_of (append_assoc text (10 ∷ []) (codes "---\n" ++ tail)) ∙ lines_of_joined text (codes "---\n" ++ tail)
    ∙ ap (λ (l : Lines). let r : Lines = record { ended = all_lines text ++ l.ended; rest = l.rest } in r) more

-- ---- the lines of the whole input, and the empty one behind its last line feed

-- every line of a dump
abbrev pub dump_cut : List ℕ → List Op → List (List ℕ)
dump_cut text ops = all_lines (concat (schema_line text ∷ separator_line ∷ map (λ (op : Op). txn_line (txn_of_op op)) ops))

pub whole_dump : (text : List ℕ) (ops : List Op) → AllByRecursion IsDumpOp ops
    → dump_cut text ops ≡ all_lines text ++ codes "---" ∷ (map line_of_op ops ++ [] ∷ [])
whole_dump text ops all =
    ap (λ (l : Lines). l.ended ++ l.rest ∷ []) (dump_lines text ops all)
    ∙ append_assoc (all_lines text) (codes "---" ∷ map line_of_op ops) ([] ∷ [])

-- the schema part is the schema's text
pub dump_schema : (text : List ℕ) (ops : List Op) → AllByRecursion IsDumpOp ops → list_any is_separator (all_lines text) ≡ false
    → schema_part (dump_cut text ops) ≡ text
dump_schema text ops all none = ap schema_part (whole_dump text ops all) ∙ schema_part_is text (map line_of_op ops ++ [] ∷ []) none

-- and behind the separator come the lines of the operations
pub dump_transactions : (text : List ℕ) (ops : List Op) → AllByRecursion IsDumpOp ops → list_any is_separator (all_lines text) ≡ false
    → after_separator (dump_cut text ops) ≡ map line_of_op ops ++ [] ∷ []
dump_transactions text ops all none =
    ap after_separator (whole_dump text ops all) ∙ after_first_separator (all_lines text) (map line_of_op ops ++ [] ∷ []) none
