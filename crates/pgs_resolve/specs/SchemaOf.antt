-- The schema of a text: why it has none, or the one resolved schema.
use Rattle.std.specs.Prelude.{◌≡◌, ℕ, List, Result, Ok, Err, Some, None}
use Rattle.std.specs.Option.{option_map_or}
use Rattle.pgs_syntax.specs.declared.resolved.Resolved.{Resolved}
use Rattle.pgs_syntax.specs.declared.script.Script.{Script}
use Rattle.pgs_parser.specs.Text.{Found, IsFound, found, too_long, no_item, no_statement, script}
use Rattle.pgs_resolve.specs.declared.fault.ResolveFault.{ResolveFault}
use Rattle.pgs_resolve.specs.Resolution.{resolution}
use Rattle.pgs_syntax.specs.Width.{first_too_wide}

-- what is said of a schema text
pub data Answer : Type 0 where
  longer_than_allowed : Answer
  begins_no_item : ℕ → Answer
  is_no_statement : ℕ → Answer
  refused : ResolveFault → Answer
  has_wide_type : List ℕ → Answer
  schema : Resolved → Answer

-- The answer to a text, in the order in which it is tested: 19, that it is too long; 10, the line of a byte that begins no item;
-- 11, the number of a statement that is none; then the refusals of its script; then 17, the name of a type that is too wide; or
-- its schema.
pub data IsSchemaOf (text : List ℕ) : Answer → Type 0 where
  of_length : IsFound text too_long → IsSchemaOf text longer_than_allowed
  of_items : {line : ℕ} → IsFound text (no_item line) → IsSchemaOf text (begins_no_item line)
  of_statements : {n : ℕ} → IsFound text (no_statement n) → IsSchemaOf text (is_no_statement n)
  of_refusal : {tree : Script} {fault : ResolveFault}
      → IsFound text (script tree) → resolution tree ≡ Err fault → IsSchemaOf text (refused fault)
  of_width : {tree : Script} {resolved : Resolved} {name : List ℕ} → IsFound text (script tree) → resolution tree ≡ Ok resolved
      → first_too_wide resolved ≡ Some name → IsSchemaOf text (has_wide_type name)
  of_script : {tree : Script} {resolved : Resolved} → IsFound text (script tree) → resolution tree ≡ Ok resolved
      → first_too_wide resolved ≡ None → IsSchemaOf text (schema resolved)

-- the same as functions: of a resolved schema, of a script, and of what a text is found to be
abbrev pub answer_of_schema : Resolved → Answer
answer_of_schema resolved = option_map_or has_wide_type (first_too_wide resolved) (schema resolved)

abbrev pub answer_of_script : Result Resolved ResolveFault → Answer
answer_of_script (Ok resolved) = answer_of_schema resolved
answer_of_script (Err fault) = refused fault

abbrev pub answer_of_finding : Found → Answer
answer_of_finding too_long = longer_than_allowed
answer_of_finding (no_item line) = begins_no_item line
answer_of_finding (no_statement n) = is_no_statement n
answer_of_finding (script tree) = answer_of_script (resolution tree)

-- and of a text
unfoldable pub schema_of : List ℕ → Answer
schema_of text = answer_of_finding (found text)
