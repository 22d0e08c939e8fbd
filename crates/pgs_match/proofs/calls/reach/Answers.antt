use Rattle.std.proofs.Common.{◌≡◌, ◌+◌, ◌*◌, ◌^◌, ◌<◌, ◌≤◌, true, ◌&&◌, ◌==◌, [], ◌∷◌, nat_lt, length, refl, sym, ap, ◌∙◌, subst, arith}
use Rattle.std.specs.Prelude.{filter_map}
use Rattle.std.proofs.lemmas.Bool.{and_from, or_right, lt-ltb}
use Rattle.pgs_syntax.specs.Valid.{edge_count, is_valid_pattern}
use Rattle.std.specs.List.{sum_by}
use Rattle.pgs_match.specs.declared.stand.Stand.{Stand}
use Rattle.pgs_match.specs.Answers.{IsClosed}
use Rattle.pgs_match.specs.Spread.{elem_degree}
use Rattle.pgs_match.specs.Plans.{is_plan}
use Rattle.pgs_match.specs.Reached.{reached}
use Rattle.pgs_match.specs.Branches.{is_tree, walked_from}
use Rattle.pgs_match.specs.Planned.{IsSplit, pattern_of, most_edges, first_elem}
use Rattle.pgs_match.proofs.Acyclic.{plan_is_tree}
use Rattle.pgs_match.proofs.Firsts.{firsts_are_reached, firsts_few}
use Rattle.pgs_match.proofs.Scopes.{ok_same, ok_fewer, side_edges, side_valid}
use Rattle.pgs_match.proofs.ToOne.{on_any}
use Rattle.pgs_match.proofs.Typed.{names}
use Rattle.pgs_match.proofs.calls.reach.Goals as goal

pub tuples-requires-clause-valid : goal.tuples-requires-clause-valid
tuples-requires-clause-valid g c = subst (λ pattern. is_valid_pattern pattern ≡ true) (sym c.pattern.ensures.pattern) (side_valid c.args.side c.args.key.now c.pattern.ensures.valid)

pub tuples-requires-clause-plan : goal.tuples-requires-clause-plan
tuples-requires-clause-plan g c = subst (λ p. IsSplit (0 ∷ []) p c.args.var c.plan-plan.result.now) (sym c.pattern.ensures.pattern) c.plan-plan.ensures

pub tuples-requires-clause-reads : goal.tuples-requires-clause-reads
tuples-requires-clause-reads g c =
    subst (λ p. (nat_lt 0 (length p.edge_vars) && true) ≡ true) (sym c.pattern.ensures.pattern) (and_from _ _ (lt-ltb 0 (length (pattern_of c.args.side c.args.key.now).edge_vars) (omega (arith, c.requires.in_range))) refl)

pub returns-clause-elems : goal.returns-clause-elems
returns-clause-elems g c =
    let graph = g.G.GraphRead.meaning c.args.graph.now in
    let resolved = c.args.compiled.now in
    let pattern = c.pattern.result.now in
    let plan = c.plan-plan.result.now.steps in
    let var = c.args.var in
    let same = c.pattern.ensures.pattern in
    ok_same c.first_elems.result _ (reached resolved graph (pattern_of c.args.side c.args.key.now) var c.args.elem)
    (ap (filter_map first_elem) c.as_slice.ensures.value
    ∙ firsts_are_reached resolved graph pattern (subst (λ p. is_valid_pattern p ≡ true) (sym same) (side_valid c.args.side c.args.key.now c.pattern.ensures.valid)) var
    (subst (λ p. var < length p.edge_vars) (sym same) c.requires.in_range) plan (subst (λ p. is_plan p var plan ≡ true) (sym same) c.plan-plan.ensures.0) c.args.elem c.in_ok-tuples.ensures.graph
    c.in_ok-tuples.tuples c.in_ok-tuples.ensures.value
    ∙ ap (λ p. reached resolved graph p var c.args.elem) same)
    c.first_elems.ensures

pub returns-clause-few : goal.returns-clause-few
returns-clause-few g c = λ most sparse.
    let key = c.args.key.now in
    let edges = subst (λ p. edge_count p.edge_vars ≤ most_edges key) (sym c.pattern.ensures.pattern) (side_edges c.args.side key) in
    let few = c.in_ok-tuples.ensures.few (most_edges key) most edges sparse in
    let firsts = firsts_few c.in_ok-tuples.tuples in
    let slice = ap (λ tuples. length (filter_map first_elem tuples)) c.as_slice.ensures.value in
    ok_fewer c.first_elems.result (filter_map first_elem c.as_slice.result.now) ((most + 2) ^ most_edges key) (omega (arith, few, firsts, slice)) c.first_elems.ensures

pub returns-clause-adds : goal.returns-clause-adds
returns-clause-adds g c = λ acyclic.
    let graph = g.G.GraphRead.meaning c.args.graph.now in
    let pattern = pattern_of c.args.side c.args.key.now in
    let plan = c.plan-plan.result.now.steps in
    let tree = plan_is_tree pattern (side_valid c.args.side c.args.key.now c.pattern.ensures.valid) acyclic c.args.var c.requires.in_range plan c.plan-plan.ensures.0 in (
      plan,
      c.plan-plan.ensures.0,
      subst (λ p. c.tuples.new.steps ≤ c.args.steps.now + 160 * walked_from c.args.compiled.now graph p plan c.args.var c.args.elem) c.pattern.ensures.pattern
          (c.tuples.ensures.walks (subst (λ p. is_tree p.atoms plan ≡ true) (sym c.pattern.ensures.pattern) tree) 0 (and_from _ _ (or_right (0 == c.args.var) _ refl) refl)),
    )

pub returns-in_err-tuples-clause-adds : goal.returns-in_err-tuples-clause-adds
returns-in_err-tuples-clause-adds g c = λ acyclic.
    let graph = g.G.GraphRead.meaning c.args.graph.now in
    let pattern = pattern_of c.args.side c.args.key.now in
    let plan = c.plan-plan.result.now.steps in
    let tree = plan_is_tree pattern (side_valid c.args.side c.args.key.now c.pattern.ensures.valid) acyclic c.args.var c.requires.in_range plan c.plan-plan.ensures.0 in (
      plan,
      c.plan-plan.ensures.0,
      subst (λ p. c.tuples.new.steps ≤ c.args.steps.now + 160 * walked_from c.args.compiled.now graph p plan c.args.var c.args.elem) c.pattern.ensures.pattern
          (c.tuples.ensures.walks (subst (λ p. is_tree p.atoms plan ≡ true) (sym c.pattern.ensures.pattern) tree) 0 (and_from _ _ (or_right (0 == c.args.var) _ refl) refl)),
    )

pub tuples-requires-clause-right : goal.tuples-requires-clause-right
tuples-requires-clause-right g c = c.new-notes.ensures.right c.args.compiled.now (g.G.GraphRead.meaning c.args.graph.now) c.pattern.result.now.atoms c.plan-plan.result.now.off

pub returns-clause-once : goal.returns-clause-once
returns-clause-once g c = λ acyclic pairs searched.
    let graph = g.G.GraphRead.meaning c.args.graph.now in
    let key = c.args.key.now in
    let pattern = pattern_of c.args.side key in
    let plan = c.plan-plan.result.now.steps in
    let tree = plan_is_tree pattern (side_valid c.args.side key c.pattern.ensures.valid) acyclic c.args.var c.requires.in_range plan c.plan-plan.ensures.0 in
    on_any c.first_elems.result (c.tuples.new.steps ≤ c.args.steps.now + 1400 * sum_by (λ (stand : Stand). elem_degree graph stand.elem + 2) pairs)
    (c.in_ok-tuples.ensures.once (subst (λ p. is_tree p.atoms plan ≡ true) (sym c.pattern.ensures.pattern) tree) 0 (and_from _ _ (or_right (0 == c.args.var) _ refl) refl) pairs searched.0
    (subst (λ p. IsClosed c.args.compiled.now graph p.atoms pairs plan) (sym c.pattern.ensures.pattern) (searched.1 plan c.plan-plan.ensures.0)))

pub tuples-requires-clause-names : goal.tuples-requires-clause-names
tuples-requires-clause-names g c = names c.args.compiled.now c.args.side c.args.key.now c.pattern.result.now c.pattern.ensures.pattern c.requires.typed

pub tuples-requires-clause-in_range : goal.tuples-requires-clause-in_range
tuples-requires-clause-in_range g c = subst (λ p. c.args.var < length p.edge_vars) (sym c.pattern.ensures.pattern) c.requires.in_range
