use Rattle.std.proofs.Common.{◌≡◌, ◌+◌, ◌*◌, ◌≤◌, true, ◌||◌, ◌==◌, List, [], length, map, nat_lt, sym, ap, subst, ◌∙◌}
use Rattle.std.specs.Option.{option_map_or}
use Rattle.std.specs.List.{list_all}
use Rattle.std.proofs.lemmas.Bool.{and_parts, leb-true}
use Rattle.pgs_syntax.specs.declared.pattern.Expr.{Expr}
use Rattle.pgs_syntax.specs.KeyValues.{key_values}
use Rattle.pgs_syntax.specs.Valid.{read_var, edge_count}
use Rattle.pgs_match.specs.declared.planned.Side.TheVariants.{Descriptor}
use Rattle.pgs_match.specs.Answers.{IsClosed}
use Rattle.pgs_match.specs.Branches.{is_tree, walked_from}
use Rattle.pgs_match.specs.Planned.{most_edges, IsSplit}
use Rattle.pgs_match.specs.Routes.{routed_from}
use Rattle.pgs_match.specs.Bounds.{with_bound, nothing_bound}
use Rattle.pgs_match.specs.Search.{gathered}
use Rattle.pgs_match.specs.Tests.{admitted}
use Rattle.pgs_match.proofs.Acyclic.{plan_is_tree}
use Rattle.pgs_match.proofs.Values.{descriptor_valid, gathered_are_values}
use Rattle.pgs_match.proofs.Scopes.{ok_same, some_variable, side_edges}
use Rattle.pgs_match.proofs.Typed.{is_valid, has_x, names}
use Rattle.pgs_match.proofs.calls.key_values.Goals as goal

pub tuples-requires-clause-plan : goal.tuples-requires-clause-plan
tuples-requires-clause-plan g c =
    let key = c.args.key.now in
    subst (λ p. IsSplit (map read_var c.as_slice-exprs.result.now) p 0 c.values.result.now) (sym c.pattern.ensures.pattern)
    (subst (λ exprs. IsSplit (map read_var exprs) key.descriptor 0 c.values.result.now) (sym (c.as_slice-exprs.ensures ∙ ap (λ k. k.exprs) c.key.ensures)) c.values.ensures)

pub tuples-requires-clause-reads : goal.tuples-requires-clause-reads
tuples-requires-clause-reads g c =
    let key = c.args.key.now in
    subst (λ p. list_all (λ (expr : Expr). nat_lt (read_var expr) (length p.edge_vars)) c.as_slice-exprs.result.now ≡ true) (sym c.pattern.ensures.pattern)
    (subst (λ exprs. list_all (λ (expr : Expr). nat_lt (read_var expr) (length key.descriptor.edge_vars)) exprs ≡ true) (sym (c.as_slice-exprs.ensures ∙ ap (λ k. k.exprs) c.key.ensures))
    (and_parts _ _ c.pattern.ensures.valid).1)

pub returns-clause-values : goal.returns-clause-values
returns-clause-values g c =
    let graph = g.G.GraphRead.meaning c.args.graph.now in
    let resolved = c.args.compiled.now in
    let key = c.args.key.now in
    let plan = c.values.result.now.steps in
    let valid = (and_parts _ _ (and_parts _ _ c.requires).0).0 in
    ok_same c.tuples.result _ (key_values resolved graph key c.args.elem)
    (ap (λ pattern. option_map_or (λ x. gathered resolved graph pattern.atoms c.as_slice-exprs.result.now plan (with_bound nothing_bound 0 x) []) (admitted resolved graph pattern 0 c.args.elem) [])
    c.pattern.ensures.pattern
    ∙ ap (λ exprs. option_map_or (λ x. gathered resolved graph key.descriptor.atoms exprs plan (with_bound nothing_bound 0 x) []) (admitted resolved graph key.descriptor 0 c.args.elem) [])
    (c.as_slice-exprs.ensures ∙ ap (λ k. k.exprs) c.key.ensures)
    ∙ gathered_are_values resolved graph key valid (some_variable key valid) plan c.values.ensures.0 c.args.elem)
    c.tuples.ensures.value

pub returns-clause-cost : goal.returns-clause-cost
returns-clause-cost g c = λ most sparse.
    let key = c.args.key.now in
    c.tuples.ensures.cost (most_edges key) most (subst (λ p. edge_count p.edge_vars ≤ most_edges key) (sym c.pattern.ensures.pattern) (side_edges Descriptor key)) sparse

pub returns-clause-few : goal.returns-clause-few
returns-clause-few g c = λ most sparse.
    let key = c.args.key.now in
    c.tuples.ensures.few (most_edges key) most (subst (λ p. edge_count p.edge_vars ≤ most_edges key) (sym c.pattern.ensures.pattern) (side_edges Descriptor key)) sparse

pub returns-clause-routes : goal.returns-clause-routes
returns-clause-routes g c = λ acyclic.
    let graph = g.G.GraphRead.meaning c.args.graph.now in
    let key = c.args.key.now in
    let plan = c.values.result.now.steps in
    let valid = descriptor_valid key c.pattern.ensures.valid in
    let tree = plan_is_tree key.descriptor valid acyclic 0 (some_variable key c.pattern.ensures.valid) plan c.values.ensures.0 in (
      plan,
      c.values.ensures.0,
      subst (λ exprs. c.tuples.new.steps ≤ c.args.steps.now + 80 * routed_from c.args.compiled.now graph key.descriptor (map read_var exprs) plan 0 c.args.elem) (c.as_slice-exprs.ensures ∙ ap (λ k. k.exprs) c.key.ensures)
          (subst (λ p. c.tuples.new.steps ≤ c.args.steps.now + 80 * routed_from c.args.compiled.now graph p (map read_var c.as_slice-exprs.result.now) plan 0 c.args.elem) c.pattern.ensures.pattern
          (c.tuples.ensures.routes (subst (λ p. is_tree p.atoms plan ≡ true) (sym c.pattern.ensures.pattern) tree))),
    )

pub returns-clause-adds : goal.returns-clause-adds
returns-clause-adds g c = λ acyclic var only.
    let graph = g.G.GraphRead.meaning c.args.graph.now in
    let key = c.args.key.now in
    let plan = c.values.result.now.steps in
    let valid = descriptor_valid key c.pattern.ensures.valid in
    let tree = plan_is_tree key.descriptor valid acyclic 0 (some_variable key c.pattern.ensures.valid) plan c.values.ensures.0 in (
      plan,
      c.values.ensures.0,
      subst (λ p. c.tuples.new.steps ≤ c.args.steps.now + 160 * walked_from c.args.compiled.now graph p plan 0 c.args.elem) c.pattern.ensures.pattern
          (c.tuples.ensures.walks (subst (λ p. is_tree p.atoms plan ≡ true) (sym c.pattern.ensures.pattern) tree) var
          (subst (λ exprs. list_all (λ v. v == 0 || v == var) (map read_var exprs) ≡ true) (sym (c.as_slice-exprs.ensures ∙ ap (λ k. k.exprs) c.key.ensures)) only)),
    )

pub tuples-requires-clause-right : goal.tuples-requires-clause-right
tuples-requires-clause-right g c = c.new-notes.ensures.right c.args.compiled.now (g.G.GraphRead.meaning c.args.graph.now) c.pattern.result.now.atoms c.values.result.now.off

pub returns-clause-once : goal.returns-clause-once
returns-clause-once g c = λ acyclic var only pairs searched.
    let graph = g.G.GraphRead.meaning c.args.graph.now in
    let key = c.args.key.now in
    let plan = c.values.result.now.steps in
    let valid = descriptor_valid key c.pattern.ensures.valid in
    let tree = plan_is_tree key.descriptor valid acyclic 0 (some_variable key c.pattern.ensures.valid) plan c.values.ensures.0 in
    c.tuples.ensures.once (subst (λ p. is_tree p.atoms plan ≡ true) (sym c.pattern.ensures.pattern) tree) var
    (subst (λ exprs. list_all (λ v. v == 0 || v == var) (map read_var exprs) ≡ true) (sym (c.as_slice-exprs.ensures ∙ ap (λ k. k.exprs) c.key.ensures)) only) pairs searched.0
    (subst (λ p. IsClosed c.args.compiled.now graph p.atoms pairs plan) (sym c.pattern.ensures.pattern) (searched.1 plan c.values.ensures.0))

pub tuples-requires-clause-valid : goal.tuples-requires-clause-valid
tuples-requires-clause-valid g c = is_valid Descriptor c.args.key.now c.pattern.result.now c.pattern.ensures.pattern c.pattern.ensures.valid

pub tuples-requires-clause-names : goal.tuples-requires-clause-names
tuples-requires-clause-names g c = names c.args.compiled.now Descriptor c.args.key.now c.pattern.result.now c.pattern.ensures.pattern c.requires

pub tuples-requires-clause-in_range : goal.tuples-requires-clause-in_range
tuples-requires-clause-in_range g c = has_x Descriptor c.args.key.now c.pattern.result.now c.pattern.ensures.pattern c.pattern.ensures.valid

pub tuples-requires-clause-few_exprs : goal.tuples-requires-clause-few_exprs
tuples-requires-clause-few_exprs g c =
    subst (λ (exprs : List Expr). length exprs ≤ 16) (sym (c.as_slice-exprs.ensures ∙ ap (λ k. k.exprs) c.key.ensures))
    (leb-true (length c.args.key.now.exprs) 16 (and_parts _ _ (and_parts _ _ c.pattern.ensures.valid).0).1)
