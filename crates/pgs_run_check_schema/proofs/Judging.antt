-- All lines of a text, by what was put.
use Rattle.std.proofs.Common.{◌≡◌, ℕ, List, ◌++◌, ap, subst, ◌∙◌, append_assoc}
use Rattle.pgs_lexer.specs.Token.{Lexeme}
use Rattle.pgs_syntax.specs.declared.resolved.Resolved.{Resolved}
use Rattle.pgs_syntax.specs.declared.resolved.TypeNo.{TypeNo}
use Rattle.pgs_syntax.specs.declared.script.Script.{Script}
use Rattle.pgs_key_standing.specs.declared.reached.Reach.{Reach}
use Rattle.pgs_key_standing.specs.Reach.{AreReached}
use Rattle.pgs_advice.specs.declared.subtypes.Subtype.{Subtype}
use Rattle.pgs_advice.specs.Apart.{AreApartOf}
use Rattle.pgs_advice_lines.specs.declared.line.Line.{Line}
use Rattle.pgs_advice_lines.specs.Telling.{guard_lines, advice_lines}
use Rattle.pgs_run_contain.specs.Answers.{listed}
use Rattle.pgs_run_check_schema.specs.Examples.{example_lines, type_lines, AreExamples, HasTypes}
use Rattle.pgs_run_check_schema.specs.Judged.{HasLinesOf}
use Rattle.pgs_run_check_schema.specs.Read.{tokens_in, script_in}

-- all lines of a text
pub gathered : (text : List ℕ) (compiled : Resolved) (tokens : List Lexeme) (script : Script) (resolved : Resolved) (one two three : List Line) (numbers : List TypeNo) (reached : List Reach) (apart : List (List Subtype)) →
    tokens ≡ tokens_in text → script ≡ script_in text → resolved ≡ compiled → numbers ≡ compiled.guard.types → AreReached compiled compiled.guard.keys reached → AreApartOf compiled compiled.guard.keys apart →
    one ≡ guard_lines script resolved.guard → HasTypes compiled numbers one two → three ≡ two ++ advice_lines tokens script resolved reached apart → HasLinesOf text compiled three
gathered text compiled tokens script resolved one two three numbers reached apart tokens_are script_is same listed_are keys subtypes before types after = record {
  judged = record { types = types.answers; keys = reached; apart = apart };
  right = record {
    types = subst (λ (ns : List TypeNo). AreExamples compiled (listed compiled ns) types.answers) listed_are types.right;
    keys = keys;
    apart = subtypes;
  };
  is = after
      ∙ ap (λ (lines : List Line). lines ++ advice_lines tokens script resolved reached apart) (types.is ∙ ap (λ (lines : List Line). lines ++ example_lines (listed compiled numbers) types.answers) before)
      ∙ append_assoc (guard_lines script resolved.guard) (example_lines (listed compiled numbers) types.answers) (advice_lines tokens script resolved reached apart)
      ∙ ap (λ (ns : List TypeNo). guard_lines script resolved.guard ++ (example_lines (listed compiled ns) types.answers ++ advice_lines tokens script resolved reached apart)) listed_are
      ∙ ap (λ (r : Resolved). guard_lines script r.guard ++ (type_lines compiled types.answers ++ advice_lines tokens script r reached apart)) same
      ∙ ap (λ (s : Script). guard_lines s compiled.guard ++ (type_lines compiled types.answers ++ advice_lines tokens s compiled reached apart)) script_is
      ∙ ap (λ (ts : List Lexeme). guard_lines (script_in text) compiled.guard ++ (type_lines compiled types.answers ++ advice_lines ts (script_in text) compiled reached apart)) tokens_are;
}
