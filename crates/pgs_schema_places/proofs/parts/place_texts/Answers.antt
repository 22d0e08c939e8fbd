use Rattle.std.proofs.Common.{◌+◌, ◌++◌, ap, ◌∙◌, map, drop, arith}
use Rattle.std.proofs.lemmas.List.{length-map}
use Rattle.pgs_lexer.specs.Tokens.{lexeme_of}
use Rattle.pgs_schema_places.specs.KeyTexts.{text_of}
use Rattle.pgs_schema_places.specs.KeyParts.{first_place, place_tokens}
use Rattle.pgs_schema_places.proofs.Tokens.{places_from, more_of, none_more, none_behind}
use Rattle.pgs_schema_places.proofs.parts.place_texts.Goals as goal

pub loop-place-preserved : goal.loop-place-preserved
loop-place-preserved c =
    let tokens = map lexeme_of c.args.tokens.now in
    let place = c.loop-place.place in
    let size = length-map c.args.tokens.now lexeme_of in
    more_of c.loop-place.texts.items _ _ (first_place (drop place tokens)) (place_tokens (drop (place + 1) tokens)) (place_tokens (drop place tokens))
    c.loop-place.invariant (places_from tokens place (omega (arith, size)))
    (c.in_ok-push_place.ensures ∙ ap (λ here. c.loop-place.texts.items ++ map text_of (first_place here)) c.behind.ensures)

pub returns : goal.returns
returns c =
    let tokens = map lexeme_of c.args.tokens.now in
    let size = length-map c.args.tokens.now lexeme_of in
    c.from_vec.ensures
    ∙ none_more c.loop-place.texts.items _ (place_tokens (drop c.loop-place.place tokens)) c.loop-place.invariant
    (ap place_tokens (none_behind tokens c.loop-place.place (omega (arith, size))))
