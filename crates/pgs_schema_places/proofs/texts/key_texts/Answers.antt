use Rattle.std.proofs.Common.{◌≡◌, ◌++◌, ap, sym, ◌∙◌, length, arith}
use Rattle.std.proofs.lemmas.List.{append-nil}
use Rattle.pgs_schema_places.specs.KeyTexts.{key_texts}
use Rattle.pgs_schema_places.proofs.Ranges.{none_left}
use Rattle.pgs_schema_places.proofs.texts.key_texts.Goals as goal

pub returns : goal.returns
returns c =
    let tokens = c.args.tokens.now in
    let all : c.loop-place.place ≡ length tokens = omega (arith, c.len-place-end.ensures.count) in
    c.from_vec.ensures ∙ sym (append-nil c.loop-place.texts.items) ∙ ap (λ rest. c.loop-place.texts.items ++ key_texts rest) (sym (none_left tokens c.loop-place.place all))
    ∙ c.loop-place.invariant
