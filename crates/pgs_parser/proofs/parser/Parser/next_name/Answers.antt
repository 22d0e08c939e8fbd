use Rattle.std.proofs.Common.{◌≡◌, ℕ, false, List, [], ◌∷◌, Option, Some, None, option_map, slice_get, refl, sym, ap, subst, ◌∙◌, rules}
use denote.Enum.Bare.{same_true, same_false}
use Rattle.pgs_lexer.specs.Token.{HasForm, Lexeme}
use Rattle.pgs_lexer.specs.Tokens.{lexeme_of}
use Rattle.pgs_lexer.specs.contracts.kind.TokenKind.{the_type}
use Rattle.pgs_lexer.specs.declared.kind.TokenKind.{TokenKind}
use Rattle.pgs_lexer.specs.declared.kind.TokenKind.TheVariants.{Name, Keyword, Number, Text, Sign}
use Rattle.pgs_parser.specs.Gives.{Gives}
use Rattle.pgs_parser.specs.Literal.{name_in}
use Rattle.pgs_parser.specs.Reader.{a_name, name_at}
use Rattle.pgs_parser.proofs.parser.Parser.next_name.Goals.{in_default-via-in-Some+else-eq, in_default-via-in_default}
use Rattle.pgs_parser.proofs.parser.Parser.next_name.Goals as goal

abbrev name_in_front : List Lexeme → Option (List ℕ)
name_in_front tokens = option_map (λ (found : List ℕ × List Lexeme). found.0) (name_at tokens)

at_name : (tokens : List Lexeme) (token : Lexeme) → Some token ≡ slice_get tokens 0 → token.kind ≡ Name → name_in_front tokens ≡ Some (name_in token.bytes)
at_name [] token e is = cc
at_name (t ∷ ts) token e is =
    let same : token ≡ t = cc in
    subst (λ (t : Lexeme). name_in_front (t ∷ ts) ≡ Some (name_in token.bytes)) same (rw is refl)

no_name : (kind : TokenKind) (bytes : List ℕ) → (kind ≡ Name → ⊥) → a_name kind bytes ≡ false
no_name Name bytes other = absurd (other refl)
no_name Keyword bytes other = refl
no_name Number bytes other = refl
no_name Text bytes other = refl
no_name Sign bytes other = refl

at_other : (tokens : List Lexeme) (token : Lexeme) → Some token ≡ slice_get tokens 0 → (token.kind ≡ Name → ⊥) → name_in_front tokens ≡ None
at_other [] token e other = refl
at_other (t ∷ ts) token e other =
    let same : token ≡ t = cc in
    subst (λ (t : Lexeme). name_in_front (t ∷ ts) ≡ None) same (rw (no_name token.kind token.bytes other) refl)

at_end : (tokens : List Lexeme) → None ≡ slice_get tokens 0 → name_in_front tokens ≡ None
at_end [] e = refl
at_end (t ∷ ts) e = cc

pub name_of-requires : goal.name_of-requires
name_of-requires c =
    subst (λ (kind : TokenKind). HasForm kind c.in-Some.token.slice.now)
    (same_true the_type (search rules) c.in-Some.token.kind Name (sym c.eq.ensures ∙ c.if-eq.true)) c.in-Some.ensures.form

pub returns-in-Some : goal.returns-in-Some
returns-in-Some c =
    subst (Gives (λ (name : List ℕ). name) c.name_of.result)
    (sym (at_name c.args.self.now (lexeme_of c.in-Some.token) c.in-Some.ensures.token
    (same_true the_type (search rules) c.in-Some.token.kind Name (sym c.eq.ensures ∙ c.if-eq.true)))) c.name_of.ensures

pub returns-in_default : goal.returns-in_default
returns-in_default c =
    let none : name_in_front c.args.self.now ≡ None =
    elim c.in_default.branch [
      | in_default-via-in-Some+else-eq w ↦ at_other c.args.self.now (lexeme_of w.in-Some.token) w.in-Some.ensures.token
          (same_false the_type w.in-Some.token.kind Name (sym w.eq.ensures ∙ w.if-eq.false))
      | in_default-via-in_default w ↦ at_end c.args.self.now (ap (option_map lexeme_of) (sym w.in_default.is) ∙ c.next.ensures.token)
    ] in
    none
