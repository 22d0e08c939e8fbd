use Rattle.std.proofs.Common.{◌≡◌, ℕ, List, map, slice_index, IfOk, ap, subst, ◌∙◌, arith}
use Rattle.pgs_syntax.specs.declared.pattern.Expr.{Expr}
use Rattle.pgs_key_standing.specs.Joint.{beside}
use Rattle.pgs_key_standing.specs.Renamed.{renamed_expr}
use Rattle.pgs_key_standing.proofs.Tables.{exprs_beside}
use Rattle.pgs_key_standing.proofs.joint.joint_exprs.Goals as goal

pub returns : goal.returns
returns c =
    subst (λ (all : List Expr). IfOk c.renamed_exprs.result (λ exprs. exprs.items ≡ all))
    (ap (λ (xs : List Expr). map (renamed_expr (λ var. slice_index c.as_slice-2.result.now var)) xs) c.as_slice.ensures
    ∙ ap (λ (table : List ℕ). map (renamed_expr (λ var. slice_index table var)) c.args.key.now.exprs) c.as_slice-2.ensures.value
    ∙ exprs_beside c.args.key.now.descriptor.edge_vars c.len-count.result c.in_ok-table.table.items c.args.key.now.exprs c.key_facts.ensures.read
    (λ var below. c.in_ok-table.ensures.numbers var (omega arith))
    ∙ ap (λ (n : ℕ). map (renamed_expr (beside n)) c.args.key.now.exprs) c.len-count.ensures)
    c.renamed_exprs.ensures
