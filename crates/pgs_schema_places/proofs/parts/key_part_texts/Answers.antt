use Rattle.std.proofs.Common.{◌≡◌, ◌++◌, ap, sym, ◌∙◌, map, length, arith}
use Rattle.std.proofs.lemmas.List.{append-nil}
use Rattle.pgs_schema_places.specs.KeyTexts.{key_tokens}
use Rattle.pgs_schema_places.specs.KeyParts.{part_texts}
use Rattle.pgs_schema_places.proofs.Ranges.{none_left}
use Rattle.pgs_schema_places.proofs.parts.key_part_texts.Goals as goal

pub returns : goal.returns
returns c =
    let tokens = c.args.tokens.now in
    let all : c.loop-place.place ≡ length tokens = omega (arith, c.len-place-end.ensures.count) in
    sym (append-nil c.loop-place.parts.items)
    ∙ ap (λ rest. c.loop-place.parts.items ++ map part_texts (key_tokens rest)) (sym (none_left tokens c.loop-place.place all)) ∙ c.loop-place.invariant
