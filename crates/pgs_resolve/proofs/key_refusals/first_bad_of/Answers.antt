use Rattle.std.proofs.Common.{sym, ◌∙◌, arith}
use denote.Bor.{Bor}
use Rattle.pgs_syntax.specs.declared.raw.RawKey.{RawKey}
use Rattle.pgs_resolve.proofs.FirstBad.{none_bad, first_bad}
use Rattle.pgs_resolve.proofs.key_refusals.first_bad_of.Goals as goal

abbrev lent : Bor RawKey → RawKey
lent key = key.now

pub returns-in-Some : goal.returns-in-Some
returns-in-Some c =
    first_bad lent c.args.keys.now c.loop-place.place c.index-keys-place.result (omega arith) c.index-keys-place.is c.in-Some.cause c.loop-place.invariant
    (sym c.in-Some.is ∙ c.in_ok-cause.ensures)

pub loop-place-preserved : goal.loop-place-preserved
loop-place-preserved c =
    none_bad lent c.args.keys.now c.loop-place.place c.index-keys-place.result (omega arith) c.index-keys-place.is c.loop-place.invariant
    (sym c.in_ok-cause.ensures ∙ c.in_default.is)
