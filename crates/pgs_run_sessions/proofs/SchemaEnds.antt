-- The end of an input in which no separator came: all of it is the schema text.
use Rattle.std.proofs.Common.{◌≡◌, ℕ, Bool, true, List, [], Result, Ok, Err, refl, sym, ap, subst, ◌∙◌}
use Rattle.pgs_run_lines.specs.declared.stop.Stop.{Stop}
use Rattle.pgs_run_lines.specs.declared.stop.Stop.TheVariants as stops
use Rattle.pgs_run_lines.specs.Ending.{Shows, Ends}
use Rattle.pgs_run_lines.specs.Pieces.{Shown, ShowsAll, ShowsTorn}
use Rattle.pgs_syntax.specs.declared.resolved.Resolved.{Resolved}
use Rattle.pgs_command.specs.declared.status.Status.{Status}
use Rattle.pgs_command.specs.declared.status.Status.TheVariants.{SchemaRefused}
use Rattle.pgs_run_sessions.specs.EventLines.{Standing, first}
use Rattle.pgs_run_input.specs.Judged.{pieces_of_schema}
use Rattle.pgs_run_sessions.specs.InputMachine.{Lines, after_schema}
use Rattle.pgs_run_sessions.specs.InputMachine as stands
use Rattle.pgs_run_sessions.specs.State.{brief_sessions}
use Rattle.pgs_run_sessions.specs.Told.{status_after, told_schema}
use Rattle.pgs_sessions.specs.Summary.{Summary}

schema_torn : (answer : Result Resolved (List ℕ)) (start now : Shown) → ShowsTorn start (pieces_of_schema answer) now → ShowsTorn start (told_schema brief_sessions true answer []).pieces now
schema_torn (Err text) start now torn = torn
schema_torn (Ok schema) start now torn = torn

-- the line of a refusal couldn't be put
pub schema_stop : (answer : Result Resolved (List ℕ)) (pieces : List (List ℕ)) (stop : Stop Status) (start now : Shown) → pieces ≡ pieces_of_schema answer → stop ≡ stops.PutFault → Shows start pieces stop now → Ends start (told_schema brief_sessions true answer []) stop now
schema_stop answer pieces stop start now is fault shows =
    subst (λ s. Ends start (told_schema brief_sessions true answer []) s now) (sym fault)
    (schema_torn answer start now
    (subst (λ ps. ShowsTorn start ps now) is (subst (λ s. Shows start pieces s now) fault shows)))

-- the schema isn't refused, and no line is
pub schema_ends : (answer : Result Resolved (List ℕ)) (schema : Resolved) (s : Standing Summary) (refused : Bool) (pieces : List (List ℕ)) (start now : Shown) → Lines schema s ≡ after_schema answer → refused ≡ s.refused → pieces ≡ pieces_of_schema answer → ShowsAll start pieces now → Ends start (told_schema brief_sessions true answer []) (stops.Ended (status_after refused)) now
schema_ends (Err text) schema s refused pieces start now is same told shows = cc
schema_ends (Ok found) schema s refused pieces start now is same told shows =
    let begun : s ≡ first brief_sessions.begin = cc in
    (subst (λ ps. ShowsAll start ps now) told shows, ap status_after (sym (ap (λ (t : Standing Summary). t.refused) begun)) ∙ ap status_after (sym same))

-- the schema is refused
pub schema_refused : (answer : Result Resolved (List ℕ)) (pieces : List (List ℕ)) (start now : Shown) → stands.Refused ≡ after_schema answer → pieces ≡ pieces_of_schema answer → ShowsAll start pieces now → Ends start (told_schema brief_sessions true answer []) (stops.Ended SchemaRefused) now
schema_refused (Err text) pieces start now is told shows = (subst (λ ps. ShowsAll start ps now) told shows, refl)
schema_refused (Ok found) pieces start now is told shows = cc
