-- The answer to a text, step by step as it is read.
use Rattle.std.proofs.Common.{◌≡◌, ℕ, ◌<◌, ◌≤◌, List, length, Ok, Err, refl, ◌∙◌, ap, cond, None}
use Rattle.std.proofs.lemmas.Bool.{le-leb, lt-leb}
use Rattle.pgs_base.specs.declared.text_limit.TheConstants.{TEXT_LIMIT}
use Rattle.pgs_lexer.specs.Cut.{tokens_of}
use Rattle.pgs_lexer.specs.Token.{Lexeme}
use Rattle.pgs_parser.specs.StatementReaders.{script_of}
use Rattle.pgs_parser.specs.Text.{found_in, found, too_long, no_statement, script as found_script}
use Rattle.pgs_resolve.specs.Resolution.{resolution}
use Rattle.pgs_resolve.specs.SchemaOf.{answer_of_finding, answer_of_script, answer_of_schema, schema_of, longer_than_allowed, schema}
use Rattle.pgs_syntax.specs.declared.resolved.Resolved.{Resolved}
use Rattle.pgs_syntax.specs.declared.script.Script.{Script}
use Rattle.pgs_syntax.specs.Width.{first_too_wide}

pub of_long : (text : List ℕ) → TEXT_LIMIT < length text → schema_of text ≡ longer_than_allowed
unfolding schema_of found
of_long text long = ap answer_of_finding (ap (λ is_short. cond is_short (found_in (tokens_of text)) too_long) (lt-leb (length text) TEXT_LIMIT long))

pub of_short : (text : List ℕ) → length text ≤ TEXT_LIMIT → schema_of text ≡ answer_of_finding (found_in (tokens_of text))
unfolding schema_of found
of_short text short = ap answer_of_finding (ap (λ is_short. cond is_short (found_in (tokens_of text)) too_long) (le-leb (length text) TEXT_LIMIT short))

pub of_tokens : (text : List ℕ) (tokens : List Lexeme) → length text ≤ TEXT_LIMIT → tokens_of text ≡ Ok tokens
    → schema_of text ≡ answer_of_finding (found_in (Ok tokens))
of_tokens text tokens short e = of_short text short ∙ ap (λ found. answer_of_finding (found_in found)) e

pub of_script : (text : List ℕ) (tokens : List Lexeme) (script : Script) → length text ≤ TEXT_LIMIT → tokens_of text ≡ Ok tokens
    → script_of tokens ≡ Ok script → schema_of text ≡ answer_of_script (resolution script)
of_script text tokens script short e read = of_tokens text tokens short e ∙ ap (λ read. answer_of_finding (elim read [ Ok tree ↦ found_script tree | Err n ↦ no_statement n ])) read

pub of_resolved : (text : List ℕ) (tokens : List Lexeme) (script : Script) (resolved : Resolved) → length text ≤ TEXT_LIMIT
    → tokens_of text ≡ Ok tokens → script_of tokens ≡ Ok script → resolution script ≡ Ok resolved
    → schema_of text ≡ answer_of_schema resolved
of_resolved text tokens script resolved short e read is = of_script text tokens script short e read ∙ ap answer_of_script is

pub of_narrow : (resolved : Resolved) → first_too_wide resolved ≡ None → answer_of_schema resolved ≡ schema resolved
of_narrow resolved narrow = rw narrow refl
