use Rattle.std.proofs.Common.{length, flat_map, ap, arith}
use Rattle.pgs_json.specs.Canonical.{op_text}
use Rattle.pgs_json.specs.Pieces.{further}
use Rattle.pgs_json.proofs.Rooms.{txn_enough, txn_bounded}
use Rattle.pgs_json.proofs.room.txn_room.Goals as goal

pub returns-clause-enough : goal.returns-clause-enough
returns-clause-enough c commit fits =
    omega (arith, txn_enough c.args.txn.now commit fits, ap (λ ops. length (flat_map (further op_text) ops)) c.as_slice.ensures, c.ops_room.ensures.enough)

pub returns-clause-bounded : goal.returns-clause-bounded
returns-clause-bounded c =
    omega (arith, txn_bounded c.args.txn.now, ap (λ ops. length (flat_map (further op_text) ops)) c.as_slice.ensures, c.ops_room.ensures.bounded)
