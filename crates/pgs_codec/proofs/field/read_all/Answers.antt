use Rattle.std.proofs.Common.{◌≡◌, ◌++◌, ◌∷◌, []}
use Rattle.std.proofs.lemmas.Result.{err_from_is_err_and}
use Rattle.pgs_codec.specs.Reading.{many_at}
use Rattle.pgs_codec.proofs.Loops.{goes_on, ends, is_done}
use Rattle.pgs_codec.proofs.field.read_all.Goals as goal

pub returns-in_err-field : goal.returns-in_err-field
returns-in_err-field g c =
    let p = err_from_is_err_and c.from_residual-in_err-field.result c.from_residual-in_err-field.ensures.1 in
    rw (p.1, p.2) (ends g.F.Field.field_at c.loop.fields.items c.args.count c.loop.counter c.loop.reader.rest.now
    (many_at g.F.Field.field_at c.args.count c.args.reader.now.rest.now) c.in_err-field.field-0.0 c.loop-test.true c.in_err-field.ensures c.loop.invariant)

pub loop-preserved : goal.loop-preserved
loop-preserved g c =
    let e : c.push.new.self.items ≡ c.loop.fields.items ++ c.in_ok-field.field ∷ [] = c.in_ok-push.ensures.items in
    rw e (goes_on g.F.Field.field_at c.loop.fields.items c.args.count c.loop.counter c.loop.reader.rest.now
    (many_at g.F.Field.field_at c.args.count c.args.reader.now.rest.now) c.in_ok-field.field c.read.new.reader.rest.now c.loop-test.true c.in_ok-field.ensures c.loop.invariant)

pub returns : goal.returns
returns g c =
    is_done g.F.Field.field_at c.loop.fields.items c.args.count c.loop.counter c.loop.reader.rest.now
    (many_at g.F.Field.field_at c.args.count c.args.reader.now.rest.now) c.loop-test.false c.loop.invariant
