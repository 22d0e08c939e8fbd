use Rattle.std.proofs.Common.{List, ◌++◌, ◌∷◌, [], ℕ, map, take, get_or, sym, ap, ◌∙◌}
use Rattle.std.proofs.lemmas.List.{map-append, take_all, take_more}
use Rattle.pgs_schema_places.specs.KeyTexts.{text_at}
use Rattle.pgs_schema_places.proofs.guard_texts.texts_at.Goals as goal

pub loop-place-preserved : goal.loop-place-preserved
loop-place-preserved c =
    let wanted = c.args.wanted.now in
    let i = c.loop-place.place-index in
    let text = text_at c.args.places.now c.args.texts.now in
    c.in_ok-push.ensures.items ∙ ap (λ (own : List ℕ). c.loop-place.found.items ++ own ∷ []) c.in_ok-text_at.ensures
    ∙ ap (λ (texts : List (List ℕ)). texts ++ text (get_or wanted i 0) ∷ []) c.loop-place.invariant ∙ sym (map-append text (take i wanted) (get_or wanted i 0 ∷ []))
    ∙ ap (map text) (sym (take_more wanted i 0 c.loop-place-test.true))

pub returns : goal.returns
returns c =
    c.from_vec.ensures ∙ c.loop-place.invariant
    ∙ ap (map (text_at c.args.places.now c.args.texts.now)) (take_all c.loop-place.place-index c.args.wanted.now c.loop-place-test.false)
