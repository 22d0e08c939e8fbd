-- A text that is a schema has tokens and is a script.
use Rattle.std.proofs.Common.{◌≡◌, ℕ, ◌≤◌, Bool, true, false, cond, nat_le, List, [], length, Result, Ok, Err, refl, sym, ap, ◌∙◌, arith}
use Rattle.std.proofs.lemmas.Bool.Decides.{nat_tests}
use Rattle.pgs_base.specs.declared.text_limit.TheConstants.{TEXT_LIMIT}
use Rattle.pgs_lexer.specs.Cut.{tokens_of}
use Rattle.pgs_lexer.specs.Token.{Lexeme}
use Rattle.pgs_parser.specs.StatementReaders.{script_of}
use Rattle.pgs_parser.specs.Text.{Found, found, found_in, too_long, no_item, no_statement, script}
use Rattle.pgs_resolve.specs.SchemaOf.{schema, schema_of, answer_of_finding}
use Rattle.pgs_syntax.specs.declared.resolved.Resolved.{Resolved}
use Rattle.pgs_syntax.specs.declared.script.Script.{Script}
use Rattle.pgs_run_check_schema.specs.Read.{given, no_script, tokens_in, script_in}

by_finding : (finding : Found) (resolved : Resolved) → answer_of_finding finding ≡ schema resolved → (tree : Script) × (finding ≡ script tree)
by_finding too_long resolved is = cc
by_finding (no_item line) resolved is = cc
by_finding (no_statement n) resolved is = cc
by_finding (script tree) resolved is = (tree, refl)

by_script : (read : Result Script ℕ) (tree : Script) → elim read [ Ok tree ↦ script tree | Err n ↦ no_statement n ] ≡ script tree → read ≡ Ok tree
by_script (Ok other) tree is = cc
by_script (Err n) tree is = cc

by_tokens : (told : Result (List Lexeme) ℕ) (tree : Script) → found_in told ≡ script tree → (tokens : List Lexeme) × (told ≡ Ok tokens) × (script_of tokens ≡ Ok tree)
by_tokens (Ok tokens) tree is = (tokens, refl, by_script (script_of tokens) tree is)
by_tokens (Err line) tree is = cc

by_length : (short : Bool) (finding : Found) (tree : Script) → cond short finding too_long ≡ script tree → (short ≡ true) × (finding ≡ script tree)
by_length true finding tree is = (refl, is)
by_length false finding tree is = cc

pub record IsRead (text : List ℕ) : Type 0 where
  pub short : length text ≤ TEXT_LIMIT
  pub tokens : tokens_of text ≡ Ok (tokens_in text)
  pub script : script_of (tokens_in text) ≡ Ok (script_in text)

pub is_read : (text : List ℕ) (resolved : Resolved) → schema_of text ≡ schema resolved → IsRead text
unfolding schema_of found
is_read text resolved is =
    let finding = by_finding (found text) resolved is in
    let whole = by_length (nat_le (length text) TEXT_LIMIT) (found_in (tokens_of text)) finding.0 finding.1 in
    let read = by_tokens (tokens_of text) finding.0 whole.1 in
    let same : tokens_in text ≡ read.0 = ap (given []) read.1 in
    let h = whole.0 in
    record {
      short = grind (arith, nat_tests);
      tokens = read.1 ∙ ap Ok (sym same);
      script =
          let own : script_of (tokens_in text) ≡ Ok finding.0 = ap script_of same ∙ read.2 in
          own ∙ ap Ok (sym (ap (given no_script) own));
    }
