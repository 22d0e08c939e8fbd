-- A graph type without STRICT and LOOSE is no statement.
use Prim.Native.String.{String}
use Rattle.std.proofs.Common.{◌≡◌, ℕ, Bool, true, false, List, [], ◌∷◌, inl, inr, refl, arith, codes}
use Rattle.pgs_lexer.specs.Scan.{item_at}
use Rattle.pgs_lexer.specs.Cut.{tokens_of, tokens_from}
use Rattle.pgs_lexer.specs.Token.{Lexeme}
use Rattle.pgs_lexer.specs.declared.kind.TokenKind.{TokenKind}
use Rattle.pgs_lexer.specs.declared.kind.TokenKind.TheVariants.{Keyword, Name, Sign}
use Rattle.pgs_syntax.specs.declared.script.Statement.TheVariants.{Node, Edge, Graph}
use Rattle.pgs_parser.proofs.OneToken.{pass, is_asked}
use Rattle.pgs_parser.specs.Statements.{create, mode, IsNoStatement}
use Rattle.pgs_parser.specs.Samples.{no_mode_text}
use Rattle.pgs_parser.specs.Text.{IsFound, no_statement, has_no_statement}

not_created : (hidden : Bool) (what : String) (first second : Lexeme) (rest after : List Lexeme) →
    (second.bytes ≡ codes what → ⊥) → (second.bytes ≡ codes "ABSTRACT" → ⊥) → create hidden what (first ∷ second ∷ rest) after → ⊥
not_created false what first second rest after other no_abstract h = other (is_asked (pass h)).1
not_created true what first second rest after other no_abstract (inl h) = no_abstract (is_asked (pass h)).1
not_created true what first second rest after other no_abstract (inr h) = other (is_asked (pass h)).1

no_mode : (strict : Bool) (More : List Lexeme → Type 0) (token : Lexeme) (rest : List Lexeme) →
    (token.kind ≡ Keyword → ⊥) → (between : List Lexeme) × mode strict (token ∷ rest) between × More between → ⊥
no_mode true more token rest other h = other (is_asked h).0
no_mode false more token rest other h = other (is_asked h).0

abbrev token : TokenKind → ℕ → ℕ → List ℕ → Lexeme
token kind start end bytes = record { kind = kind; start = start; end = end; bytes = bytes }

abbrev tokens : List Lexeme
tokens =
    token Keyword 0 6 (codes "CREATE") ∷ token Keyword 7 12 (codes "GRAPH") ∷ token Keyword 13 17 (codes "TYPE")
    ∷ token Name 18 19 (codes "g") ∷ token Sign 20 21 (codes "{") ∷ token Sign 21 22 (codes "}") ∷ token Sign 22 23 (codes ";") ∷ []

none : IsNoStatement tokens
none (Node type) h = not_created type.hidden "NODE" _ _ _ _ (λ e. cc) (λ e. cc) h.1
none (Edge type) h = not_created type.hidden "EDGE" _ _ _ _ (λ e. cc) (λ e. cc) h.1
none (Graph type) h = no_mode type.strict _ _ _ (λ e. cc) (pass (pass (pass (pass h))))

pub no_mode_found : IsFound no_mode_text (no_statement 1)
unfolding tokens_of tokens_from item_at
no_mode_found = has_no_statement {tokens = tokens} (omega arith) refl (record {
  front = [];
  piece = tokens;
  back = [];
  trees = [];
  cut = refl;
  number = refl;
  earlier = tt;
  none = none;
})
