use Rattle.std.proofs.Common.{ℕ, ◌-◌, List, [], length, take, drop, get_or, inl, refl, ap, ◌∙◌, arith}
use Rattle.std.proofs.lemmas.Option.{slice_get-get_or}
use Rattle.pgs_lexer.specs.Cut.{line_at}
use Rattle.pgs_schema_places.specs.Because.{because_line, column_at}
use Rattle.pgs_schema_places.proofs.Placed.{byte_placed, character_placed, rest_is}
use Rattle.pgs_schema_places.proofs.because.byte_line.Goals as goal

pub returns-in_ok-line-in-Some : goal.returns-in_ok-line-in-Some
returns-in_ok-line-in-Some c =
    let text = c.args.text.now in
    let place = c.args.place in
    character_placed text place c.in-Some.size (take (length text - place) (drop place text)) [] c.in_ok-line-in-Some.line (rest_is text place) (omega arith) c.in-Some.ensures.some c.in-Some.ensures.few
    c.in-Some.ensures.within c.in-Some.ensures.utf8 (inl refl) c.in_ok-line-in-Some.ensures

pub returns-in_ok-line-in-None : goal.returns-in_ok-line-in-None
returns-in_ok-line-in-None c =
    let text = c.args.text.now in
    let place = c.args.place in
    byte_placed text place (get_or text place 0) [] c.in_ok-line-in-None.line (slice_get-get_or text place 0 (omega arith)) (inl refl)
    (c.in_ok-line-in-None.ensures ∙ ap (λ (found : List ℕ). because_line (line_at text place) (column_at text place) found []) (c.as_slice.ensures ∙ c.in_ok-byte-in-None.ensures))
