use Rattle.std.proofs.Common.{sym, ap, ◌∙◌, arith, Some, subst}
use Rattle.std.specs.Prelude.{List, slice_get, option_map}
use Rattle.std.proofs.lemmas.Option.{slice_get-map}
use Rattle.pgs_lexer.specs.Token.{Lexeme, IsWellFormed}
use Rattle.pgs_lexer.specs.Cut.{lexeme, IsPartOf}
use Rattle.pgs_lexer.specs.declared.token.Span.{Span}
use Rattle.pgs_lexer.proofs.Spans.{span_is_part, span_is_formed}
use Rattle.pgs_lexer.proofs.token.Tokens.at.Goals as goal

part : (c : goal.After-token_at-arg-1) → IsPartOf c.self.inside.text.now (lexeme c.self.inside.text.now c.in-Some.span.now)
part c = span_is_part c.self.inside.text.now c.self.inside.spans.items c.args.place c.in-Some.span.now c.self.invariant
    (ap (λ (spans : List Span). slice_get spans c.args.place) (sym c.as_slice.ensures.value) ∙ sym c.in-Some.ensures)

pub token_at-requires-clause-start : goal.token_at-requires-clause-start
token_at-requires-clause-start c = let p = part c in omega (arith, p.0)

pub token_at-requires-clause-end : goal.token_at-requires-clause-end
token_at-requires-clause-end c = (part c).1

pub returns-in-Some : goal.returns-in-Some
returns-in-Some c =
    let text = c.self.inside.text.now in
    record {
      token = ap Some c.token_at.ensures ∙ ap (option_map (lexeme text)) (c.in-Some.ensures ∙ ap (λ (spans : List Span). slice_get spans c.args.place) c.as_slice.ensures.value)
          ∙ sym (slice_get-map (lexeme text) c.self.inside.spans.items c.args.place) ∙ ap (λ (tokens : List Lexeme). slice_get tokens c.args.place) c.self.view_is;
      form = subst IsWellFormed (sym c.token_at.ensures) (span_is_formed text c.self.inside.spans.items c.args.place c.in-Some.span.now c.self.invariant
          (ap (λ (spans : List Span). slice_get spans c.args.place) (sym c.as_slice.ensures.value) ∙ sym c.in-Some.ensures));
    }

pub returns-in-None : goal.returns-in-None
returns-in-None c =
    let text = c.self.inside.text.now in
    record {
      token = ap (option_map (lexeme text)) (c.in-None.ensures ∙ ap (λ (spans : List Span). slice_get spans c.args.place) c.as_slice.ensures.value)
          ∙ sym (slice_get-map (lexeme text) c.self.inside.spans.items c.args.place) ∙ ap (λ (tokens : List Lexeme). slice_get tokens c.args.place) c.self.view_is;
      form = tt;
    }
