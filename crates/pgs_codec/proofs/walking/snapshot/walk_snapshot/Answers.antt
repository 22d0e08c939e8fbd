use Rattle.std.proofs.Common.{◌≡◌, ℕ, List, Option, ◌∙◌, sym, ap, arith}
use Rattle.std.specs.Int.{w64}
use Rattle.std.proofs.lemmas.Result.{err_from_is_err_and}
use Rattle.pgs_codec.specs.Reading.{number_at}
use Rattle.pgs_codec.proofs.SnapshotWalk.{no_commits, no_node_ids, no_edge_ids, snapshot_ended, snapshot_goes_on}
use Rattle.pgs_codec.proofs.walking.snapshot.walk_snapshot.Goals as goal

-- a reader of all bytes reads what stands there
read : (rows rest : List ℕ) → rest ≡ rows → (o : Option (ℕ × List ℕ)) → number_at w64 rest ≡ o → number_at w64 rows ≡ o
read rows rest e o h = ap (number_at w64) (sym e) ∙ h

pub returns-in_err-commits : goal.returns-in_err-commits
returns-in_err-commits c =
    let p = err_from_is_err_and c.from_residual.result c.from_residual.ensures.1 in
    rw (p.1, p.2) (no_commits c.args.rows.now (read c.args.rows.now _ c.new-reader.ensures _ c.in_err-commits.ensures))

pub returns-in_err-nodes : goal.returns-in_err-nodes
returns-in_err-nodes c =
    let p = err_from_is_err_and c.from_residual-in_err-nodes.result c.from_residual-in_err-nodes.ensures.1 in
    rw (p.1, p.2) (no_node_ids c.args.rows.now c.number64.new.self.rest.now c.in_ok-commits.commits (λ i. omega (arith, c.type_inv.rows i)) (read c.args.rows.now _ c.new-reader.ensures _ c.in_ok-commits.ensures)
    c.in_err-nodes.field-0.0 c.in_err-nodes.ensures)

pub returns-in_err-walk_edges : goal.returns-in_err-walk_edges
returns-in_err-walk_edges c =
    let p = err_from_is_err_and c.from_residual-in_err-walk_edges.result c.from_residual-in_err-walk_edges.ensures.1 in
    rw (p.1, p.2) (no_edge_ids c.args.rows.now c.number64.new.self.rest.now c.in_ok-commits.commits (λ i. omega (arith, c.type_inv.rows i)) (read c.args.rows.now _ c.new-reader.ensures _ c.in_ok-commits.ensures)
    c.in_ok-nodes.nodes c.walk_nodes.new.reader.rest.now c.in_ok-nodes.ensures c.in_err-walk_edges.ensures)

pub returns-then-is_empty : goal.returns-then-is_empty
returns-then-is_empty c =
    snapshot_ended c.args.rows.now c.number64.new.self.rest.now c.in_ok-commits.commits (λ i. omega (arith, c.type_inv.rows i)) (read c.args.rows.now _ c.new-reader.ensures _ c.in_ok-commits.ensures)
    c.in_ok-nodes.nodes c.walk_nodes.new.reader.rest.now c.in_ok-nodes.ensures c.walk_edges.new.reader.rest.now c.in_ok-walk_edges.ensures (sym c.is_empty.ensures ∙ c.if-is_empty.true)

pub returns : goal.returns
returns c =
    snapshot_goes_on c.args.rows.now c.number64.new.self.rest.now c.in_ok-commits.commits (λ i. omega (arith, c.type_inv.rows i)) (read c.args.rows.now _ c.new-reader.ensures _ c.in_ok-commits.ensures)
    c.in_ok-nodes.nodes c.walk_nodes.new.reader.rest.now c.in_ok-nodes.ensures c.walk_edges.new.reader.rest.now c.in_ok-walk_edges.ensures (sym c.is_empty.ensures ∙ c.if-is_empty.false)
