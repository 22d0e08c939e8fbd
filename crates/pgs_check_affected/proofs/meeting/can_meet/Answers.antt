use Rattle.std.proofs.Common.{sym, subst, arith}
use Rattle.std.specs.List.{All}
use Rattle.std.proofs.lemmas.List.Elements.{All-push}
use Rattle.pgs_match.proofs.Along.{take_whole}
use Rattle.pgs_check_affected.specs.Met.{IsApart}
use Rattle.pgs_check_affected.proofs.Loops.{front_more}
use Rattle.pgs_check_affected.proofs.meeting.can_meet.Goals as goal

pub loop-one-preserved : goal.loop-one-preserved
loop-one-preserved c =
    let apart = IsApart c.args.compiled.now c.args.key.now in
    record {
      apart = subst (All apart) (sym (front_more c.args.known.now c.loop-one.one-index c.one-item.result c.loop-one-test.true (sym c.one-item.is)))
          (All-push apart _ c.one-item.result c.loop-one.invariant.apart (c.is_taken.ensures c.if-is_taken.false));
    }

pub returns-clause-apart : goal.returns-clause-apart
returns-clause-apart c = λ is.
    subst (All (IsApart c.args.compiled.now c.args.key.now)) (take_whole c.args.known.now c.loop-one.one-index (omega (arith, c.loop-one-test.false))) c.loop-one.invariant.apart
