-- What is found in two areas, over calls that only read.
use Rattle.std.proofs.Common.{◌≡◌, ◌∙◌, subst, Result}
use Rattle.std.proofs.lemmas.Result.{IfOk-weaker, IfErr-weaker}
use Rattle.pgs_world.specs.Moment.{IsQuiet}
use Rattle.pgs_world.specs.World.{Triple, View}
use Rattle.pgs_snapshot.specs.Choice.{choice_of, chosen}
use Rattle.pgs_snapshot.specs.declared.choosing.Chosen.{Chosen}
use Rattle.pgs_snapshot.specs.declared.choose_fault.ChooseFault.{ChooseFault}
use Rattle.pgs_snapshot.specs.Standing.{Finds, Refuses}

-- what is found behind a quiet call is found before it
pub finds_before : (old mid new : View) (result : Result Chosen ChooseFault) → IsQuiet old mid → Finds result mid new → Finds result old new
finds_before old mid new result quiet found =
    record {
      chosen =
          IfOk-weaker result _ _
          (λ it is told.
          subst (λ (t : Triple). choice_of t.a t.b ≡ chosen it.area it.epoch it.end it.next it.payloads) quiet.shown (is (quiet.passes.tells_bytes ∙ told))) found.chosen;
      refused =
          IfErr-weaker result _ _ (λ fault is told. subst (λ (t : Triple). Refuses fault (choice_of t.a t.b)) quiet.shown (is (quiet.passes.tells_bytes ∙ told))) found.refused;
      stands = found.stands;
      bounds = found.bounds;
    }
