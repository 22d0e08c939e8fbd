use Rattle.std.proofs.Common.{List, ◌++◌, ◌∷◌, [], map, take, get_or, sym, ap, ◌∙◌}
use Rattle.std.proofs.lemmas.List.{map-append, take_all, take_more}
use Rattle.pgs_schema_places.specs.declared.parts.PartTexts.{PartTexts}
use Rattle.pgs_schema_places.specs.KeyParts.{parts_at}
use Rattle.pgs_schema_places.proofs.guard_texts.all_parts_at.Goals as goal

pub loop-place-preserved : goal.loop-place-preserved
loop-place-preserved c =
    let wanted = c.args.wanted.now in
    let i = c.loop-place.place-index in
    let parts = parts_at c.args.places.now c.args.parts.now in
    c.in_ok-push.ensures.items ∙ ap (λ (own : PartTexts). c.loop-place.found.items ++ own ∷ []) c.in_ok-parts_at.ensures
    ∙ ap (λ (found : List PartTexts). found ++ parts (get_or wanted i 0) ∷ []) c.loop-place.invariant ∙ sym (map-append parts (take i wanted) (get_or wanted i 0 ∷ []))
    ∙ ap (map parts) (sym (take_more wanted i 0 c.loop-place-test.true))

pub returns : goal.returns
returns c =
    c.from_vec.ensures ∙ c.loop-place.invariant
    ∙ ap (map (parts_at c.args.places.now c.args.parts.now)) (take_all c.loop-place.place-index c.args.wanted.now c.loop-place-test.false)
