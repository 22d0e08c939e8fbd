use Rattle.std.proofs.Common.{sym, ◌∙◌}
use Rattle.std.proofs.lemmas.Result.{err_from_is_err_and}
use Rattle.pgs_codec.proofs.SnapshotWalk.{no_edge, no_source, no_target, no_edge_row, edge_among, edge_apart}
use Rattle.pgs_codec.proofs.walking.snapshot.walk_edge.Goals as goal

pub returns-in_err-id : goal.returns-in_err-id
returns-in_err-id c =
    let p = err_from_is_err_and c.from_residual.result c.from_residual.ensures.1 in
    rw p.1 (no_edge c.args.nodes.now c.args.reader.now.rest.now c.in_err-id.ensures)

pub returns-in_err-source : goal.returns-in_err-source
returns-in_err-source c =
    let p = err_from_is_err_and c.from_residual-in_err-source.result c.from_residual-in_err-source.ensures.1 in
    rw p.1 (no_source c.args.nodes.now c.args.reader.now.rest.now c.number64.new.self.rest.now c.in_ok-id.id c.in_ok-id.ensures c.in_err-source.ensures)

pub returns-in_err-target : goal.returns-in_err-target
returns-in_err-target c =
    let p = err_from_is_err_and c.from_residual-in_err-target.result c.from_residual-in_err-target.ensures.1 in
    rw p.1 (no_target c.args.nodes.now c.args.reader.now.rest.now c.number64.new.self.rest.now c.in_ok-id.id c.in_ok-id.ensures
    c.number64-2.new.self.rest.now c.in_ok-source.source c.in_ok-source.ensures c.in_err-target.ensures)

pub returns-in_err-walk_row : goal.returns-in_err-walk_row
returns-in_err-walk_row c =
    let p = err_from_is_err_and c.from_residual-in_err-walk_row.result c.from_residual-in_err-walk_row.ensures.1 in
    rw p.1 (no_edge_row c.args.nodes.now c.args.reader.now.rest.now c.number64.new.self.rest.now c.in_ok-id.id c.in_ok-id.ensures
    c.number64-2.new.self.rest.now c.in_ok-source.source c.in_ok-source.ensures c.number64-3.new.self.rest.now c.in_ok-target.target c.in_ok-target.ensures
    c.in_err-walk_row.ensures)

pub returns-then-are_among : goal.returns-then-are_among
returns-then-are_among c =
    edge_among c.args.nodes.now c.args.reader.now.rest.now c.number64.new.self.rest.now c.in_ok-id.id c.in_ok-id.ensures
    c.number64-2.new.self.rest.now c.in_ok-source.source c.in_ok-source.ensures c.number64-3.new.self.rest.now c.in_ok-target.target c.in_ok-target.ensures
    c.walk_row.new.reader.rest.now c.in_ok-walk_row.ensures (sym c.are_among.ensures ∙ c.if-are_among.true)

pub returns-else-are_among : goal.returns-else-are_among
returns-else-are_among c =
    edge_apart c.args.nodes.now c.args.reader.now.rest.now c.number64.new.self.rest.now c.in_ok-id.id c.in_ok-id.ensures
    c.number64-2.new.self.rest.now c.in_ok-source.source c.in_ok-source.ensures c.number64-3.new.self.rest.now c.in_ok-target.target c.in_ok-target.ensures
    c.walk_row.new.reader.rest.now c.in_ok-walk_row.ensures (sym c.are_among.ensures ∙ c.if-are_among.false)
