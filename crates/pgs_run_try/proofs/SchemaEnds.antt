-- The end of an input in which no separator came: all of it is the schema text.
use Rattle.std.proofs.Common.{◌≡◌, ℕ, true, List, [], Result, Ok, Err, sym, subst}
use Rattle.pgs_run_lines.specs.declared.stop.Stop.{Stop}
use Rattle.pgs_run_lines.specs.declared.stop.Stop.TheVariants as stops
use Rattle.pgs_run_lines.specs.Ending.{Shows, Ends}
use Rattle.pgs_run_lines.specs.Pieces.{Shown, ShowsAll, ShowsTorn}
use Rattle.pgs_run_lines.proofs.Showing.{ends_on, torn_of_more}
use Rattle.pgs_syntax.specs.declared.resolved.Resolved.{Resolved}
use Rattle.pgs_command.specs.declared.status.Status.{Status}
use Rattle.pgs_run_input.specs.Judged.{pieces_of_schema}
use Rattle.pgs_run_try.specs.declared.judging.Judging.{Judging}
use Rattle.pgs_run_try.specs.declared.phase.Phase.TheVariants.{Lines}
use Rattle.pgs_run_try.specs.State.{SessionState}
use Rattle.pgs_run_try.specs.Told.{start as first_standing, told_end, told_schema}
use Rattle.pgs_run_try.specs.Trying.{after_schema}

schema_torn : (judging : Judging) (answer : Result Resolved (List ℕ)) (start now : Shown) → ShowsTorn start (pieces_of_schema answer) now → ShowsTorn start (told_schema judging true answer []).pieces now
schema_torn judging (Err text) start now torn = torn
schema_torn judging (Ok schema) start now torn = torn_of_more start now [] (told_end judging schema first_standing).pieces torn

-- the line of a refusal couldn't be put
pub schema_stop : (judging : Judging) (answer : Result Resolved (List ℕ)) (pieces : List (List ℕ)) (stop : Stop Status) (start now : Shown) → pieces ≡ pieces_of_schema answer → stop ≡ stops.PutFault → Shows start pieces stop now → Ends start (told_schema judging true answer []) stop now
schema_stop judging answer pieces stop start now is fault shows =
    subst (λ s. Ends start (told_schema judging true answer []) s now) (sym fault)
    (schema_torn judging answer start now
    (subst (λ ps. ShowsTorn start ps now) is (subst (λ s. Shows start pieces s now) fault shows)))

-- the schema isn't refused, and the graph is empty
pub schema_ends : (judging : Judging) (answer : Result Resolved (List ℕ)) (s : SessionState) (pieces : List (List ℕ)) (stop : Stop Status) (start mid now : Shown) → Lines s ≡ after_schema judging answer → pieces ≡ pieces_of_schema answer → ShowsAll start pieces mid → Ends mid (told_end s.judging s.schema s.standing) stop now → Ends start (told_schema judging true answer []) stop now
schema_ends judging (Err text) s pieces stop start mid now is told shows ends = cc
schema_ends judging (Ok schema) s pieces stop start mid now is told shows ends =
    let same : s ≡ record { judging = judging; schema = schema; standing = first_standing } = cc in
    ends_on stop start mid now [] (told_end judging schema first_standing)
    (subst (λ ps. ShowsAll start ps mid) told shows)
    (subst (λ (t : SessionState). Ends mid (told_end t.judging t.schema t.standing) stop now) same ends)
