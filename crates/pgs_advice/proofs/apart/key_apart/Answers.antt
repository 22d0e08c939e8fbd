use Rattle.std.proofs.Common.{◌≡◌, true, [], List, sym, ap, subst, ◌∙◌, ◌+◌, take}
use Rattle.std.specs.List.{list_all}
use Rattle.std.proofs.lemmas.Bool.{and_parts, MatchBool-at_true, MatchBool-at_false}
use Rattle.std.proofs.lemmas.List.{take_all, take_more}
use Rattle.pgs_advice.specs.declared.subtypes.Subtype.{Subtype}
use Rattle.pgs_advice.specs.Apart.{AreThoseApart, none}
use Rattle.pgs_advice.proofs.Apartness.{apart_more, not_apart_more}
use Rattle.pgs_advice.proofs.Subtyping.{one_passes, both_there, subtypes_there}
use Rattle.pgs_advice.specs.Subtypes.{key_subtypes}
use Rattle.pgs_advice.proofs.apart.key_apart.Goals as goal
use Rattle.pgs_advice.proofs.apart.key_apart.Goals.{then-branch+in_ok-push, else-branch}

pub are_apart-requires-clause-base : goal.are_apart-requires-clause-base
are_apart-requires-clause-base c =
    let resolved = c.args.schema.now in
    let items = c.deref-subtype-items.result.now in
    let all : list_all (both_there resolved) items ≡ true =
    ap (list_all (both_there resolved)) (c.deref-subtype-items.ensures.value ∙ c.in_ok-subtypes.ensures resolved c.requires.namings c.requires.valid) ∙ subtypes_there resolved c.args.key.now c.requires.valid in
    (and_parts _ _ (one_passes (both_there resolved) items c.loop-subtype.subtype-index _ c.loop-subtype-test.true all)).0

pub are_apart-requires-clause-own : goal.are_apart-requires-clause-own
are_apart-requires-clause-own c =
    let resolved = c.args.schema.now in
    let items = c.deref-subtype-items.result.now in
    let all : list_all (both_there resolved) items ≡ true =
    ap (list_all (both_there resolved)) (c.deref-subtype-items.ensures.value ∙ c.in_ok-subtypes.ensures resolved c.requires.namings c.requires.valid) ∙ subtypes_there resolved c.args.key.now c.requires.valid in
    (and_parts _ _ (one_passes (both_there resolved) items c.loop-subtype.subtype-index _ c.loop-subtype-test.true all)).1

pub loop-subtype-init : goal.loop-subtype-init
loop-subtype-init c = subst (λ (found : List Subtype). AreThoseApart c.args.schema.now [] found) (sym c.new-found.ensures.items) none

pub loop-subtype-preserved : goal.loop-subtype-preserved
loop-subtype-preserved c =
    let resolved = c.args.schema.now in
    let items = c.deref-subtype-items.result.now in
    let i = c.loop-subtype.subtype-index in
    let so_far = take (i + 1) items in
    elim c.if-branch.branch [
      | then-branch+in_ok-push w ↦
          subst (λ (found : List Subtype). AreThoseApart resolved so_far found) (sym (ap (λ v. v.items) w.found-is ∙ w.in_ok-push.ensures.items))
          (apart_more resolved items i _ c.loop-subtype.found.items (take_more items i _ c.loop-subtype-test.true) (MatchBool-at_true _ _ w.if-branch.true c.in_ok-are_apart.ensures) c.loop-subtype.invariant)
      | else-branch w ↦
          subst (λ (found : List Subtype). AreThoseApart resolved so_far found) (sym (ap (λ v. v.items) w.found-is))
          (not_apart_more resolved items i _ c.loop-subtype.found.items (take_more items i _ c.loop-subtype-test.true) (MatchBool-at_false _ _ w.if-branch.false c.in_ok-are_apart.ensures) c.loop-subtype.invariant)
    ]

pub returns : goal.returns
returns c =
    let resolved = c.args.schema.now in
    subst (λ (found : List Subtype). AreThoseApart resolved (key_subtypes resolved c.args.key.now) found) (sym c.from_vec.ensures)
    (subst (λ (all : List Subtype). AreThoseApart resolved all c.loop-subtype.found.items)
    (take_all c.loop-subtype.subtype-index c.deref-subtype-items.result.now c.loop-subtype-test.false ∙ c.deref-subtype-items.ensures.value
    ∙ c.in_ok-subtypes.ensures resolved c.requires.namings c.requires.valid) c.loop-subtype.invariant)
