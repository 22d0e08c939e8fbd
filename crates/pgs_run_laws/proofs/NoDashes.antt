-- No text of a schema that is taken has a line that begins with two dashes.
use Rattle.std.proofs.Common.{◌≡◌, ℕ, inl, inr, Result, Ok, Err, List, [], ◌∷◌, ◌++◌, refl, sym, ap, ◌∙◌, subst, append_assoc}
use Rattle.pgs_lexer.specs.Cut.{with_line, tokens_from, tokens_of}
use Rattle.pgs_lexer.specs.Token.{Lexeme}
use Rattle.pgs_syntax.specs.declared.resolved.Resolved.{Resolved}
use Rattle.pgs_syntax.specs.declared.script.Script.{Script}
use Rattle.pgs_parser.specs.Statements.{IsScript}
use Rattle.pgs_parser.specs.Text.{Found, IsFound, found, script, too_long, no_item, no_statement, is_too_long, has_no_item, has_no_statement, is_script}
use Rattle.pgs_resolve.specs.SchemaOf.{schema, answer_of_finding, schema_of}
use Rattle.pgs_parser.proofs.Findings.{is_found}
use Rattle.pgs_run_laws.specs.Lines.{IsLineStart}
use Rattle.pgs_run_laws.proofs.Ahead.{HasPair, pair_after}
use Rattle.pgs_run_laws.proofs.LineTokens.{tokens_after_feed, dashes_are_pair}
use Rattle.pgs_run_laws.proofs.PairsInStatements.{script_has_no_pair}

-- the text has tokens, and they are a script
abbrev HasScript : List ℕ → Type 0
HasScript text = (tree : Script) × (tokens : List Lexeme) × (tokens_of text ≡ Ok tokens) × IsScript tree tokens

script_found : (text : List ℕ) (finding : Found) (tree : Script) → finding ≡ script tree → IsFound text finding → HasScript text
script_found text finding tree e (is_too_long _) = cc
script_found text finding tree e (has_no_item _ _) = cc
script_found text finding tree e (has_no_statement _ _ _) = cc
script_found text finding tree e (is_script {tree = found} {tokens = tokens} short cut are) = (found, tokens, cut, are)

answered_by_script : (finding : Found) (resolved : Resolved) → answer_of_finding finding ≡ schema resolved → (tree : Script) × (finding ≡ script tree)
answered_by_script too_long resolved e = cc
answered_by_script (no_item line) resolved e = cc
answered_by_script (no_statement n) resolved e = cc
answered_by_script (script tree) resolved e = (tree, refl)

schema_has_script : (text : List ℕ) (resolved : Resolved) → schema_of text ≡ schema resolved → HasScript text
unfolding schema_of
schema_has_script text resolved e =
    let read = answered_by_script (found text) resolved e in
    script_found text (found text) read.0 read.1 (is_found text)

tokens_without_line : (text : List ℕ) (read : Result (List Lexeme) ℕ) (tokens : List Lexeme) → with_line text read ≡ Ok tokens → read ≡ Ok tokens
tokens_without_line text (Ok found) tokens e = e
tokens_without_line text (Err place) tokens e = cc

tokens_from_first : (text : List ℕ) (tokens : List Lexeme) → tokens_of text ≡ Ok tokens → tokens_from 0 0 text ≡ Ok tokens
unfolding tokens_of
tokens_from_first text tokens e = tokens_without_line text (tokens_from 0 0 text) tokens e

-- a line that begins with two dashes has the sign `-` and after it a token that begins with `-`
pub dashes_have_pair : (front back : List ℕ) (tokens : List Lexeme) → tokens_of (front ++ 45 ∷ 45 ∷ back) ≡ Ok tokens → IsLineStart front → HasPair tokens
dashes_have_pair front back tokens e start = elim start [
  | inl first ↦ dashes_are_pair 0 back tokens (tokens_from_first (45 ∷ 45 ∷ back) tokens (subst (λ (l : List ℕ). tokens_of (l ++ 45 ∷ 45 ∷ back) ≡ Ok tokens) first e))
  | inr line ↦
      let text : front ++ 45 ∷ 45 ∷ back ≡ line.0 ++ 10 ∷ 45 ∷ 45 ∷ back =
      ap (λ (l : List ℕ). l ++ 45 ∷ 45 ∷ back) line.1 ∙ append_assoc line.0 (10 ∷ []) (45 ∷ 45 ∷ back) in
      let after = tokens_after_feed line.0 (45 ∷ 45 ∷ back) tokens (tokens_from_first _ tokens (subst (λ (l : List ℕ). tokens_of l ≡ Ok tokens) text e)) in
      subst HasPair (sym after.3) (pair_after after.0 after.1 (dashes_are_pair after.2 back after.1 after.4))
]

-- no line of the text of a schema begins with two dashes
pub no_dashes : (text front back : List ℕ) (resolved : Resolved) → schema_of text ≡ schema resolved → text ≡ front ++ 45 ∷ 45 ∷ back →
    IsLineStart front → ⊥
no_dashes text front back resolved taken same start =
    let read = schema_has_script text resolved taken in
    script_has_no_pair read.0 read.1 read.3 (dashes_have_pair front back read.1 (subst (λ (l : List ℕ). tokens_of l ≡ Ok read.1) same read.2) start)
