-- How a run ends whose text was judged last.
use Rattle.std.proofs.Common.{◌≡◌, ℕ, List, [], ◌∷◌, true, Result, Ok, Err, IfOk, refl, sym, subst}
use Rattle.pgs_run_lines.specs.declared.stop.Stop.{Stop}
use Rattle.pgs_run_lines.specs.declared.stop.Stop.TheVariants as stops
use Rattle.pgs_run_lines.specs.Ending.{Ends}
use Rattle.pgs_run_lines.specs.May.{MayPut}
use Rattle.pgs_run_lines.specs.Pieces.{Shown, shown_of}
use Rattle.pgs_run_lines.specs.Puts.{PutsUntil}
use Rattle.pgs_run_lines.proofs.Fronts.{front_none}
use Rattle.pgs_syntax.specs.declared.resolved.Resolved.{Resolved}
use Rattle.pgs_world.specs.World.{View}
use Rattle.pgs_run_input.specs.Answers.{schema_answer}
use Rattle.pgs_run_input.specs.Input.{text_limit}
use Rattle.pgs_run_input.specs.Part.{Part, no_part}
use Rattle.pgs_run_contain.specs.declared.ending.Ending.{Ending}
use Rattle.pgs_run_contain.specs.Names.{Names, names_in}
use Rattle.pgs_run_contain.specs.Told.{refused_by, told_first, told_second}

-- a line that was made, or any where there was no memory for it
pub made_line : {E : Type 0} (made : Result (List ℕ) E) → (line : List ℕ) × IfOk made (λ own. own ≡ line)
made_line (Ok own) = (own, refl)
made_line (Err fault) = ([], tt)

-- the line of a refusal couldn't be put, or made
pub refusing_stop : (line kept : List ℕ) (stop : Stop Ending) (old new : View) → PutsUntil old (line ∷ []) stop new → Ends (shown_of old) (refused_by line kept) stop (shown_of new)
refusing_stop line kept (stops.Ended ending) old new puts = absurd puts.only
refusing_stop line kept stops.ReadFault old new puts = absurd puts.only
refusing_stop line kept stops.DiskFault old new puts = absurd puts.only
refusing_stop line kept stops.PutFault old new puts = puts.shows
refusing_stop line kept stops.Memory old new puts = puts.shows

pub refusing_may : (line : List ℕ) (stop : Stop Ending) (old new : View) → PutsUntil old (line ∷ []) stop new → MayPut stop
refusing_may line (stops.Ended ending) old new puts = tt
refusing_may line stops.ReadFault old new puts = absurd puts.only
refusing_may line stops.DiskFault old new puts = absurd puts.only
refusing_may line stops.PutFault old new puts = tt
refusing_may line stops.Memory old new puts = tt

-- behind a first schema without a separator the second text is empty
pub first_ends : (kept : List ℕ) (first : Resolved) (names : Names) (part : Part) (stop : Stop Ending) (start now : Shown) → schema_answer kept ≡ Ok first → names ≡ names_in kept → part ≡ no_part
    → Ends start (told_second first names part.text (schema_answer part.text)) stop now → Ends start (told_first true kept (schema_answer kept) []) stop now
first_ends kept first names part stop start now is named none ends =
    subst (λ (answer : Result Resolved (List ℕ)). Ends start (told_first true kept answer []) stop now) (sym is)
    (subst (λ (text : List ℕ). Ends start (told_second first (names_in kept) text (schema_answer [])) stop now) (sym (front_none text_limit))
    (subst (λ (ns : Names). Ends start (told_second first ns [] (schema_answer [])) stop now) named
    (subst (λ (p : Part). Ends start (told_second first names p.text (schema_answer p.text)) stop now) none ends)))
