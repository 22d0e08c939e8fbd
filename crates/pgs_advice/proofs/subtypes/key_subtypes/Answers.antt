use Rattle.std.proofs.Common.{◌≡◌, true, ap, ◌∙◌}
use Rattle.std.specs.List.{flat_map, list_all}
use Rattle.std.proofs.lemmas.List.{take_all, take_more}
use Rattle.pgs_syntax.specs.Valid.{is_type}
use Rattle.pgs_advice.specs.Subtypes.{subtypes_of}
use Rattle.pgs_advice.proofs.Subtyping.{one_passes, flat_more, bases_there}
use Rattle.pgs_advice.proofs.subtypes.key_subtypes.Goals as goal

pub loop-base-preserved : goal.loop-base-preserved
loop-base-preserved c = λ resolved are valid.
    let bases = c.deref-base-items.result.now in
    let i = c.loop-base.base-index in
    let all : list_all (is_type resolved) bases ≡ true =
    ap (list_all (is_type resolved)) (c.deref-base-items.ensures.value ∙ c.in_ok-bases.ensures) ∙ bases_there resolved c.args.key.now valid in
    flat_more (subtypes_of resolved) bases i _ c.loop-base.subtypes.items c.push_subtypes.new.subtypes.items (take_more bases i _ c.loop-base-test.true) (c.loop-base.invariant resolved are valid)
    (c.in_ok-push_subtypes.ensures resolved are (one_passes (is_type resolved) bases i _ c.loop-base-test.true all))

pub returns : goal.returns
returns c = λ resolved are valid.
    c.loop-base.invariant resolved are valid
    ∙ ap (flat_map (subtypes_of resolved)) (take_all c.loop-base.base-index c.deref-base-items.result.now c.loop-base-test.false ∙ c.deref-base-items.ensures.value ∙ c.in_ok-bases.ensures)
