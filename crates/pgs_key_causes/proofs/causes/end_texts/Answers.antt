use Rattle.std.proofs.Common.{ℕ, Option, Some, None, List, subst, ◌∙◌, ap}
use Rattle.std.proofs.lemmas.Result.{IfOk-weaker}
use Rattle.pgs_syntax.specs.declared.key.Key.{Key}
use Rattle.pgs_syntax.specs.Valid.{is_valid_key_of}
use Rattle.pgs_pattern_end.specs.declared.front.PatternEnd.{PatternEnd}
use Rattle.pgs_pattern_end.specs.End.{is_placed, least_before, IsEnd}
use Rattle.pgs_key_causes.specs.Causes.{place_end_texts}
use Rattle.pgs_key_causes.specs.Fronts.{Descriptor}
use Rattle.pgs_key_causes.specs.Walk.{walk}
use Rattle.pgs_key_causes.proofs.Ends.{AreMade, parts_valid, parts_of_schema, at_place, behind_places}
use Rattle.pgs_key_causes.proofs.causes.end_texts.Goals as goal

pub fronts_of-requires : goal.fronts_of-requires
fronts_of-requires g c =
    let made : AreMade c.args.resolving.now.numbering.now c.args.resolving.now.key.now c.in_ok-written.written c.in_ok-key.key.qualifiers c.deref-2.result.now = record {
      descriptor_is = c.in_ok-written.ensures c.args.resolving.now.numbering.now c.in_ok-key.ensures;
      qualifiers_is = ap (λ (key : Key). key.qualifiers) c.in_ok-key.ensures;
      visits_is = c.deref-2.ensures.value ∙ c.in_ok-visits.ensures ∙ ap walk (c.deref.ensures.value ∙ ap (λ (d : Descriptor). d.occurrences) c.written.view_is);
    } in
    parts_valid c.args.resolving.now.numbering.now c.args.resolving.now.key.now c.in_ok-written.written c.in_ok-key.key.qualifiers c.deref-2.result.now made
    c.args.compiled.now c.requires.valid

pub place_end-requires : goal.place_end-requires
place_end-requires g c =
    let made : AreMade c.args.resolving.now.numbering.now c.args.resolving.now.key.now c.in_ok-written.written c.in_ok-key.key.qualifiers c.deref-2.result.now = record {
      descriptor_is = c.in_ok-written.ensures c.args.resolving.now.numbering.now c.in_ok-key.ensures;
      qualifiers_is = ap (λ (key : Key). key.qualifiers) c.in_ok-key.ensures;
      visits_is = c.deref-2.ensures.value ∙ c.in_ok-visits.ensures ∙ ap walk (c.deref.ensures.value ∙ ap (λ (d : Descriptor). d.occurrences) c.written.view_is);
    } in
    parts_of_schema c.args.resolving.now.numbering.now c.args.resolving.now.key.now c.in_ok-written.written c.in_ok-key.key.qualifiers c.deref-2.result.now made
    c.args.compiled.now c.deref-3.result.now c.in_ok-fronts.fronts.items c.deref-3.ensures.value c.in_ok-fronts.ensures c.requires.valid

pub returns-in-Some-clause-texts : goal.returns-in-Some-clause-texts
returns-in-Some-clause-texts g c =
    let made : AreMade c.args.resolving.now.numbering.now c.args.resolving.now.key.now c.in_ok-written.written c.in_ok-key.key.qualifiers c.deref-2.result.now = record {
      descriptor_is = c.in_ok-written.ensures c.args.resolving.now.numbering.now c.in_ok-key.ensures;
      qualifiers_is = ap (λ (key : Key). key.qualifiers) c.in_ok-key.ensures;
      visits_is = c.deref-2.ensures.value ∙ c.in_ok-visits.ensures ∙ ap walk (c.deref.ensures.value ∙ ap (λ (d : Descriptor). d.occurrences) c.written.view_is);
    } in
    let schema = c.args.compiled.now in
    let graph = g.G.GraphRead.meaning c.args.graph.now in
    let ended : IsEnd (is_placed schema graph c.args.elem) (least_before schema graph c.args.elem) c.deref-3.result.now (Some c.in-Some.end) =
    subst (λ (o : Option PatternEnd). IsEnd (is_placed schema graph c.args.elem) (least_before schema graph c.args.elem) c.deref-3.result.now o) c.in-Some.is
    c.in_ok-end.ensures.end in
    IfOk-weaker c.place_end_texts.result _ _
    (λ told e. at_place c.args.resolving.now.numbering.now c.args.resolving.now.key.now c.in_ok-written.written c.in_ok-key.key.qualifiers c.deref-2.result.now made
    schema graph c.args.elem c.args.parts.now c.deref-3.result.now c.in_ok-fronts.fronts.items c.deref-3.ensures.value c.in_ok-fronts.ensures told.items c.in-Some.end ended
    (e ∙ ap (λ (texts : List (List ℕ)). place_end_texts texts c.in_ok-written.written c.in-Some.end) c.as_slice.ensures))
    c.place_end_texts.ensures

pub expr_texts-requires-clause-valid : goal.expr_texts-requires-clause-valid
expr_texts-requires-clause-valid g c = ap (is_valid_key_of c.args.compiled.now) c.in_ok-key.ensures ∙ c.requires.valid

pub returns-clause-texts : goal.returns-clause-texts
returns-clause-texts g c =
    let made : AreMade c.args.resolving.now.numbering.now c.args.resolving.now.key.now c.in_ok-written.written c.in_ok-key.key.qualifiers c.deref-2.result.now = record {
      descriptor_is = c.in_ok-written.ensures c.args.resolving.now.numbering.now c.in_ok-key.ensures;
      qualifiers_is = ap (λ (key : Key). key.qualifiers) c.in_ok-key.ensures;
      visits_is = c.deref-2.ensures.value ∙ c.in_ok-visits.ensures ∙ ap walk (c.deref.ensures.value ∙ ap (λ (d : Descriptor). d.occurrences) c.written.view_is);
    } in
    let schema = c.args.compiled.now in
    let graph = g.G.GraphRead.meaning c.args.graph.now in
    let ended : IsEnd (is_placed schema graph c.args.elem) (least_before schema graph c.args.elem) c.deref-3.result.now None =
    subst (λ (o : Option PatternEnd). IsEnd (is_placed schema graph c.args.elem) (least_before schema graph c.args.elem) c.deref-3.result.now o) c.in-None.is
    c.in_ok-end.ensures.end in
    IfOk-weaker c.expr_texts.result _ _
    (λ told e. behind_places c.args.resolving.now.numbering.now c.args.resolving.now.key.now c.in_ok-written.written c.in_ok-key.key.qualifiers c.deref-2.result.now
    made schema graph c.args.elem c.args.parts.now c.deref-3.result.now c.in_ok-fronts.fronts.items c.deref-3.ensures.value c.in_ok-fronts.ensures told.items c.in_ok-key.key
    c.as_slice-in-None.result.now c.in_ok-key.ensures c.as_slice-in-None.ensures ended e)
    c.expr_texts.ensures.texts
