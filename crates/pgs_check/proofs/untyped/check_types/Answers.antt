use Rattle.std.proofs.Common.{Some, None, length, refl, ap, sym, ◌∙◌, arith}
use Rattle.std.specs.Prelude.{filter_map, slice_get}
use Rattle.pgs_syntax.specs.declared.resolved.Resolved.{Resolved}
use Rattle.pgs_check.specs.Untyped.{untyped_change}
use Rattle.pgs_check.proofs.Retyped.{both_typed, all_cost, first_cost, retyped_cost, retyped_own}
use Rattle.pgs_check.proofs.Types.{types_are, least_touched}
use Rattle.pgs_check.proofs.untyped.check_types.Goals as goal

pub first_untyped_change-requires : goal.first_untyped_change-requires
first_untyped_change-requires g c =
    both_typed c.args.compiled.now c.args.old.now.graph (ap (λ (r : Resolved). r.guard.strict) (sym c.resolved.ensures.same) ∙ c.if-not-resolved.false) c.requires.typed

pub least_untyped-requires-clause-typed : goal.least_untyped-requires-clause-typed
least_untyped-requires-clause-typed g c =
    both_typed c.args.compiled.now c.args.old.now.graph (ap (λ (r : Resolved). r.guard.strict) (sym c.resolved.ensures.same) ∙ c.if-not-resolved.false) c.requires.typed

pub returns-in-Some-clause-first : goal.returns-in-Some-clause-first
returns-in-Some-clause-first g c =
    types_are c.args.compiled.now c.args.delta.now c.args.old.now.graph c.count.ensures.graph c.requires.sound c.args.new.now c.requires.overlay
    (ap (λ (r : Resolved). r.guard.strict) (sym c.resolved.ensures.same) ∙ c.if-not-resolved.false) c.requires.typed
    (Some c.in-Some.violation) (least_touched c.args.compiled.now c.args.delta.now c.args.new.now)
    (c.in-Some.ensures.first ∙ ap (λ nodes. slice_get (filter_map (untyped_change c.args.compiled.now) nodes) 0) c.as_slice.ensures) refl

pub returns-in-None-clause-first : goal.returns-in-None-clause-first
returns-in-None-clause-first g c =
    c.untyped_edge.ensures
    ∙ types_are c.args.compiled.now c.args.delta.now c.args.old.now.graph c.count.ensures.graph c.requires.sound c.args.new.now c.requires.overlay
    (ap (λ (r : Resolved). r.guard.strict) (sym c.resolved.ensures.same) ∙ c.if-not-resolved.false) c.requires.typed
    None c.least_untyped.result
    (c.in-None.ensures.first ∙ ap (λ nodes. slice_get (filter_map (untyped_change c.args.compiled.now) nodes) 0) c.as_slice.ensures) c.least_untyped.ensures.least

pub returns-in-Some-clause-cost : goal.returns-in-Some-clause-cost
returns-in-Some-clause-cost g c = λ most within.
    let nodes = ap (λ rows. length rows) c.as_slice.ensures in
    let cost = c.first_untyped_change.ensures.cost in
    first_cost most (length c.args.delta.now.nodes) (length c.args.delta.now.edges) c.args.steps.now c.first_untyped_change.new.steps (omega (arith, cost, nodes))

pub returns-in-None-clause-cost : goal.returns-in-None-clause-cost
returns-in-None-clause-cost g c = λ most within.
    let old = c.args.old.now.graph in
    let delta = c.args.delta.now in
    let nodes = ap (λ rows. length rows) c.as_slice.ensures in
    let cost = c.first_untyped_change.ensures.cost in
    all_cost old delta.nodes most (length delta.edges) c.args.steps.now c.first_untyped_change.new.steps c.least_untyped.new.steps (omega (arith, cost, nodes))
    (c.least_untyped.ensures.cost most (λ id has. within id (retyped_own old delta.nodes id has)))

pub returns-in-Some-clause-retyped : goal.returns-in-Some-clause-retyped
returns-in-Some-clause-retyped g c = λ most within.
    let nodes = ap (λ rows. length rows) c.as_slice.ensures in
    let cost = c.first_untyped_change.ensures.cost in
    omega (arith, cost, nodes)

pub returns-in-None-clause-retyped : goal.returns-in-None-clause-retyped
returns-in-None-clause-retyped g c = λ most within.
    let old = c.args.old.now.graph in
    let delta = c.args.delta.now in
    let nodes = ap (λ rows. length rows) c.as_slice.ensures in
    let cost = c.first_untyped_change.ensures.cost in
    retyped_cost old delta.nodes most (length delta.edges) c.args.steps.now c.first_untyped_change.new.steps c.least_untyped.new.steps (omega (arith, cost, nodes))
    (c.least_untyped.ensures.cost most within)
