use Rattle.std.proofs.Common.{◌≡◌, ◌++◌, ◌∷◌, []}
use Rattle.std.proofs.lemmas.Result.{err_from_is_err_and}
use Rattle.pgs_codec.specs.Reading.{named_at, many_at, node_at}
use Rattle.pgs_codec.specs.declared.unread.Unread.TheVariants as unread
use Rattle.pgs_codec.proofs.Loops.{goes_on, ends, is_done}
use Rattle.pgs_codec.proofs.walking.snapshot.walk_node_rows.Goals as goal

pub returns-in_err-id : goal.returns-in_err-id
returns-in_err-id c =
    let p = err_from_is_err_and c.from_residual.result c.from_residual.ensures.1 in
    rw (p.1, p.2) (ends (named_at (λ node. node.0) node_at) c.loop.ids.items c.args.count c.loop.counter c.loop.reader.rest.now
    (many_at (named_at (λ node. node.0) node_at) c.args.count c.args.reader.now.rest.now) unread.Unfit c.loop-test.true c.in_err-id.ensures c.loop.invariant)

pub loop-preserved : goal.loop-preserved
loop-preserved c =
    let e : c.push.new.self.items ≡ c.loop.ids.items ++ c.in_ok-id.id ∷ [] = c.in_ok-push.ensures.items in
    rw e (goes_on (named_at (λ node. node.0) node_at) c.loop.ids.items c.args.count c.loop.counter c.loop.reader.rest.now
    (many_at (named_at (λ node. node.0) node_at) c.args.count c.args.reader.now.rest.now) c.in_ok-id.id c.walk_node.new.reader.rest.now c.loop-test.true c.in_ok-id.ensures c.loop.invariant)

pub returns : goal.returns
returns c =
    is_done (named_at (λ node. node.0) node_at) c.loop.ids.items c.args.count c.loop.counter c.loop.reader.rest.now
    (many_at (named_at (λ node. node.0) node_at) c.args.count c.args.reader.now.rest.now) c.loop-test.false c.loop.invariant
