-- The schema of a text and the transaction of a line, or the text of the refusal.
use Rattle.std.specs.Prelude.{◌≡◌, ℕ, List, [], length, Option, Some, None, Result, Ok, Err, nat_lt, if◌then◌else◌}
use Rattle.pgs_graph.specs.declared.operation.Txn.{Txn}
use Rattle.pgs_json.specs.Line.{txn_of}
use Rattle.pgs_resolve.specs.declared.fault.ResolveFault.{ResolveFault}
use Rattle.pgs_resolve.specs.declared.fault.ResolveFault.TheVariants.{Memory, NoGraphType, Duplicate, Unknown, Kind, Cycle, BadKey}
use Rattle.pgs_resolve.specs.SchemaOf.{Answer, longer_than_allowed, begins_no_item, is_no_statement, refused, has_wide_type, schema, schema_of}
use Rattle.pgs_syntax.specs.declared.resolved.Resolved.{Resolved}
use Rattle.pgs_answer.specs.Lines.{schema_refused_line}
use Rattle.pgs_answer.specs.Refusals.{lex_text, syntax_text, no_graph_type_text, duplicate_text, unknown_text, kind_text, cycle_text, too_wide_text, bad_key_text, too_long_text, unreadable_text, line_too_long_text}
use Rattle.pgs_run_input.specs.Input.{text_limit}

-- the text of the refusal of a script; no script is refused for want of memory
abbrev pub script_refusal : ResolveFault → List ℕ
script_refusal NoGraphType = no_graph_type_text
script_refusal (Duplicate name) = duplicate_text name
script_refusal (Unknown name) = unknown_text name
script_refusal (Kind name) = kind_text name
script_refusal (Cycle name) = cycle_text name
script_refusal (BadKey key cause) = bad_key_text key cause
script_refusal Memory = []

-- what is said of a schema text, with the text of a refusal
abbrev pub schema_or_text : Answer → Result Resolved (List ℕ)
schema_or_text longer_than_allowed = Err too_long_text
schema_or_text (begins_no_item line) = Err (lex_text line)
schema_or_text (is_no_statement n) = Err (syntax_text n)
schema_or_text (refused fault) = Err (script_refusal fault)
schema_or_text (has_wide_type name) = Err (too_wide_text name)
schema_or_text (schema resolved) = Ok resolved

-- the schema of a text, or the text of its refusal: 19 first, then 10 to 16, 18 and 17
unfoldable pub schema_answer : List ℕ → Result Resolved (List ℕ)
schema_answer text = schema_or_text (schema_of text)

-- the line of a schema text that is refused so
pub record IsRefusedLine (answer : Answer) (line : List ℕ) : Type 0 where
  pub text : List ℕ
  pub refused : schema_or_text answer ≡ Err text
  pub is : line ≡ schema_refused_line text

-- a transaction, or the text of refusal 20
abbrev pub txn_or_text : Option Txn → Result Txn (List ℕ)
txn_or_text None = Err unreadable_text
txn_or_text (Some txn) = Ok txn

-- the transaction of a line, or the text of its refusal: 21 first, then 20
unfoldable pub txn_answer : List ℕ → Result Txn (List ℕ)
txn_answer line = if nat_lt text_limit (length line) then Err line_too_long_text else txn_or_text (txn_of line)
