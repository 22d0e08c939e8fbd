-- What parsing returns, by the grammar.
use Rattle.std.proofs.Common.{◌≡◌, ℕ, List, Result, Ok, Err, IfOk, IsErrOf, ap, ◌∙◌, subst}
use Rattle.pgs_lexer.specs.Token.{Lexeme}
use Rattle.pgs_syntax.specs.declared.script.Script.{Script}
use Rattle.pgs_parser.specs.declared.fault.ParseFault.{ParseFault}
use Rattle.pgs_parser.specs.declared.fault.ParseFault.TheVariants as faults
use Rattle.pgs_parser.specs.Parsed.{Parses}
use Rattle.pgs_parser.specs.Statements.{IsScript, IsNoScriptFrom}
use Rattle.pgs_parser.specs.StatementReaders.{script_of}
use Rattle.pgs_parser.proofs.WholeScripts.{scripts, no_scripts}

-- a script, or the fault of a statement, was returned
abbrev Returned : Result Script ParseFault → List Lexeme → Type 0
Returned result tokens = Parses (λ (script : Script). script) result (script_of tokens)

pub is_script : (tokens : List Lexeme) (result : Result Script ParseFault) → Returned result tokens → IfOk result (λ script. IsScript script tokens)
is_script tokens (Ok script) h = (scripts tokens script).0 h
is_script tokens (Err fault) h = tt

pub is_no_script : (tokens : List Lexeme) (result : Result Script ParseFault) → Returned result tokens → (n : ℕ) → IsErrOf result (faults.Syntax n) →
    IsNoScriptFrom n tokens
is_no_script tokens (Ok script) h n e = cc
is_no_script tokens (Err faults.Memory) h n e = cc
is_no_script tokens (Err (faults.Syntax m)) h n e = let same : m ≡ n = cc in (no_scripts tokens n).0 (h ∙ ap Err same)

pub only_script : (tokens : List Lexeme) (result : Result Script ParseFault) → Returned result tokens → (script : Script) → IsScript script tokens →
    Parses (λ (script : Script). script) result (Ok script)
only_script tokens result h script s = subst (Parses (λ (script : Script). script) result) ((scripts tokens script).1 s) h

pub only_statement : (tokens : List Lexeme) (result : Result Script ParseFault) → Returned result tokens → (n : ℕ) → IsNoScriptFrom n tokens →
    Parses (λ (script : Script). script) result (Err n)
only_statement tokens result h n s = subst (Parses (λ (script : Script). script) result) ((no_scripts tokens n).1 s) h
