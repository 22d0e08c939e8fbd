use Rattle.std.proofs.Common.{refl, sym}
use Rattle.std.proofs.lemmas.List.{append-nil}
use Rattle.pgs_base.proofs.Edits.{failed_on_ok}
use Rattle.pgs_codec.proofs.Writing.{tested_at, written_more, tested_more, written_all, tested_all}
use Rattle.pgs_codec.proofs.field.write_all.Goals as goal

pub loop-field-init : goal.loop-field-init
loop-field-init g c = record { written = sym (append-nil c.args.out.now.items); fit = refl }

pub write-requires : goal.write-requires
write-requires g c =
    tested_at g.F.Field.field g.F.Field.is_small c.args.fields.now c.loop-field.field-index c.field-item.result c.loop-field-test.true c.field-item.is c.requires

pub returns-in_err-write-clause-bytes : goal.returns-in_err-write-clause-bytes
returns-in_err-write-clause-bytes g c = failed_on_ok c.from_residual.result c.from_residual.ensures.0 _

pub returns-in_err-write-clause-fit : goal.returns-in_err-write-clause-fit
returns-in_err-write-clause-fit g c = failed_on_ok c.from_residual.result c.from_residual.ensures.0 _

pub loop-field-preserved : goal.loop-field-preserved
loop-field-preserved g c = record {
  written =
      written_more g.F.Field.field g.F.Field.is_field c.args.fields.now c.loop-field.field-index c.field-item.result c.loop-field-test.true c.field-item.is
      c.args.out.now.items c.loop-field.out.items c.write.new.out.items c.loop-field.invariant.written c.in_ok-write.ensures.bytes;
  fit =
      tested_more g.F.Field.field g.F.Field.is_field c.args.fields.now c.loop-field.field-index c.field-item.result c.loop-field-test.true c.field-item.is
      c.loop-field.invariant.fit c.in_ok-write.ensures.fit;
}

pub returns-clause-bytes : goal.returns-clause-bytes
returns-clause-bytes g c =
    written_all g.F.Field.field g.F.Field.is_field c.args.fields.now c.loop-field.field-index c.loop-field-test.false c.args.out.now.items c.loop-field.out.items c.loop-field.invariant.written

pub returns-clause-fit : goal.returns-clause-fit
returns-clause-fit g c =
    tested_all g.F.Field.field g.F.Field.is_field c.args.fields.now c.loop-field.field-index c.loop-field-test.false c.loop-field.invariant.fit
