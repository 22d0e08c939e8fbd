use Rattle.std.proofs.Common.{◌≡◌, ◌≤◌, true, List, [], length, map, nat_lt, sym, ap, subst, ◌∙◌}
use Rattle.std.specs.Option.{IfSome, option_map_or}
use Rattle.std.specs.List.{list_all}
use Rattle.std.proofs.lemmas.Bool.{and_parts, leb-true}
use Rattle.pgs_syntax.specs.declared.pattern.Expr.{Expr}
use Rattle.pgs_syntax.specs.declared.pattern.Pattern.{Pattern}
use Rattle.pgs_syntax.specs.Valid.{read_var, edge_count, is_valid_pattern}
use Rattle.pgs_match.specs.declared.planned.Side.TheVariants.{Descriptor}
use Rattle.pgs_match.specs.Frontier.{AreNoted}
use Rattle.pgs_match.specs.Learned.{IsMemo, IsWayMemo}
use Rattle.pgs_match.specs.Planned.{most_edges, IsSplit}
use Rattle.pgs_match.specs.Bounds.{with_bound, nothing_bound}
use Rattle.pgs_match.specs.Search.{gathered}
use Rattle.pgs_match.specs.Tests.{admitted}
use Rattle.pgs_match.proofs.ToOne.{values_taken_right}
use Rattle.pgs_match.proofs.Values.{descriptor_valid, gathered_are_values}
use Rattle.pgs_match.proofs.Scopes.{some_variable, side_edges}
use Rattle.pgs_match.proofs.Typed.{has_x, names}
use Rattle.pgs_match.proofs.learned.key_values_learned.Goals as goal

pub tuples-requires-clause-plan : goal.tuples-requires-clause-plan
tuples-requires-clause-plan g c =
    let graph = g.G.GraphRead.meaning c.args.graph.now in
    let resolved = c.args.compiled.now in
    let key = c.args.key.now in
    let same = c.pattern-pattern.ensures.pattern in
    let exprs_is = c.as_slice-exprs.ensures ∙ ap (λ k. k.exprs) c.key.ensures in
    let memo = c.in_ok-memo.memo in
    let ready : IsWayMemo resolved graph key memo = values_taken_right resolved graph key c.args.learned.now.values c.values-plan.result.now memo c.requires.learned.1 c.in_ok-memo.ensures.memo c.values-plan.ensures in
    subst (λ p. IsSplit (map read_var c.as_slice-exprs.result.now) p 0 memo.plan) (sym same)
    (subst (λ exprs. IsSplit (map read_var exprs) key.descriptor 0 memo.plan) (sym exprs_is) ready.0)

pub tuples-requires-clause-reads : goal.tuples-requires-clause-reads
tuples-requires-clause-reads g c =
    let graph = g.G.GraphRead.meaning c.args.graph.now in
    let resolved = c.args.compiled.now in
    let key = c.args.key.now in
    let same = c.pattern-pattern.ensures.pattern in
    let exprs_is = c.as_slice-exprs.ensures ∙ ap (λ k. k.exprs) c.key.ensures in
    let memo = c.in_ok-memo.memo in
    let ready : IsWayMemo resolved graph key memo = values_taken_right resolved graph key c.args.learned.now.values c.values-plan.result.now memo c.requires.learned.1 c.in_ok-memo.ensures.memo c.values-plan.ensures in
    subst (λ p. list_all (λ (expr : Expr). nat_lt (read_var expr) (length p.edge_vars)) c.as_slice-exprs.result.now ≡ true) (sym same)
    (subst (λ exprs. list_all (λ (expr : Expr). nat_lt (read_var expr) (length key.descriptor.edge_vars)) exprs ≡ true) (sym exprs_is)
    (and_parts _ _ c.pattern-pattern.ensures.valid).1)

pub tuples-requires-clause-right : goal.tuples-requires-clause-right
tuples-requires-clause-right g c =
    let graph = g.G.GraphRead.meaning c.args.graph.now in
    let resolved = c.args.compiled.now in
    let key = c.args.key.now in
    let same = c.pattern-pattern.ensures.pattern in
    let exprs_is = c.as_slice-exprs.ensures ∙ ap (λ k. k.exprs) c.key.ensures in
    let memo = c.in_ok-memo.memo in
    let ready : IsWayMemo resolved graph key memo = values_taken_right resolved graph key c.args.learned.now.values c.values-plan.result.now memo c.requires.learned.1 c.in_ok-memo.ensures.memo c.values-plan.ensures in
    subst (λ (p : Pattern). AreNoted resolved graph p.atoms memo.plan.off memo.notes) (sym same) ready.1

pub returns-clause-values : goal.returns-clause-values
returns-clause-values g c =
    let graph = g.G.GraphRead.meaning c.args.graph.now in
    let resolved = c.args.compiled.now in
    let key = c.args.key.now in
    let same = c.pattern-pattern.ensures.pattern in
    let exprs_is = c.as_slice-exprs.ensures ∙ ap (λ k. k.exprs) c.key.ensures in
    let memo = c.in_ok-memo.memo in
    let ready : IsWayMemo resolved graph key memo = values_taken_right resolved graph key c.args.learned.now.values c.values-plan.result.now memo c.requires.learned.1 c.in_ok-memo.ensures.memo c.values-plan.ensures in
    let plan = memo.plan.steps in
    let valid = (and_parts _ _ (and_parts _ _ c.requires.typed).0).0 in
    c.in_ok-tuples.ensures.value
    ∙ ap (λ pattern. option_map_or (λ x. gathered resolved graph pattern.atoms c.as_slice-exprs.result.now plan (with_bound nothing_bound 0 x) []) (admitted resolved graph pattern 0 c.args.elem) []) same
    ∙ ap (λ exprs. option_map_or (λ x. gathered resolved graph key.descriptor.atoms exprs plan (with_bound nothing_bound 0 x) []) (admitted resolved graph key.descriptor 0 c.args.elem) []) exprs_is
    ∙ gathered_are_values resolved graph key valid (some_variable key valid) plan ready.0.0 c.args.elem

pub returns-clause-cost : goal.returns-clause-cost
returns-clause-cost g c =
    let graph = g.G.GraphRead.meaning c.args.graph.now in
    let resolved = c.args.compiled.now in
    let key = c.args.key.now in
    let same = c.pattern-pattern.ensures.pattern in
    let exprs_is = c.as_slice-exprs.ensures ∙ ap (λ k. k.exprs) c.key.ensures in
    let memo = c.in_ok-memo.memo in
    let ready : IsWayMemo resolved graph key memo = values_taken_right resolved graph key c.args.learned.now.values c.values-plan.result.now memo c.requires.learned.1 c.in_ok-memo.ensures.memo c.values-plan.ensures in
    λ most sparse. c.tuples.ensures.cost (most_edges key) most (subst (λ p. edge_count p.edge_vars ≤ most_edges key) (sym same) (side_edges Descriptor key)) sparse

pub returns-in_err-tuples-clause-cost : goal.returns-in_err-tuples-clause-cost
returns-in_err-tuples-clause-cost g c =
    let graph = g.G.GraphRead.meaning c.args.graph.now in
    let resolved = c.args.compiled.now in
    let key = c.args.key.now in
    let same = c.pattern-pattern.ensures.pattern in
    let exprs_is = c.as_slice-exprs.ensures ∙ ap (λ k. k.exprs) c.key.ensures in
    let memo = c.in_ok-memo.memo in
    let ready : IsWayMemo resolved graph key memo = values_taken_right resolved graph key c.args.learned.now.values c.values-plan.result.now memo c.requires.learned.1 c.in_ok-memo.ensures.memo c.values-plan.ensures in
    λ most sparse. c.tuples.ensures.cost (most_edges key) most (subst (λ p. edge_count p.edge_vars ≤ most_edges key) (sym same) (side_edges Descriptor key)) sparse

pub returns-clause-few : goal.returns-clause-few
returns-clause-few g c =
    let graph = g.G.GraphRead.meaning c.args.graph.now in
    let resolved = c.args.compiled.now in
    let key = c.args.key.now in
    let same = c.pattern-pattern.ensures.pattern in
    let exprs_is = c.as_slice-exprs.ensures ∙ ap (λ k. k.exprs) c.key.ensures in
    let memo = c.in_ok-memo.memo in
    let ready : IsWayMemo resolved graph key memo = values_taken_right resolved graph key c.args.learned.now.values c.values-plan.result.now memo c.requires.learned.1 c.in_ok-memo.ensures.memo c.values-plan.ensures in
    λ most sparse. c.in_ok-tuples.ensures.few (most_edges key) most (subst (λ p. edge_count p.edge_vars ≤ most_edges key) (sym same) (side_edges Descriptor key)) sparse

pub returns-clause-learned : goal.returns-clause-learned
returns-clause-learned g c =
    let graph = g.G.GraphRead.meaning c.args.graph.now in
    let resolved = c.args.compiled.now in
    let key = c.args.key.now in
    let same = c.pattern-pattern.ensures.pattern in
    let exprs_is = c.as_slice-exprs.ensures ∙ ap (λ k. k.exprs) c.key.ensures in
    let memo = c.in_ok-memo.memo in
    let ready : IsWayMemo resolved graph key memo = values_taken_right resolved graph key c.args.learned.now.values c.values-plan.result.now memo c.requires.learned.1 c.in_ok-memo.ensures.memo c.values-plan.ensures in
    let right = subst (λ (p : Pattern). AreNoted resolved graph p.atoms memo.plan.off c.tuples.new.notes) same c.tuples.ensures.right in
    (subst (λ o. IfSome o (IsMemo resolved graph key.scope)) (sym c.values_taken.ensures.others) c.requires.learned.0, (ready.0, right))

pub tuples-requires-clause-valid : goal.tuples-requires-clause-valid
tuples-requires-clause-valid g c =
    subst (λ p. is_valid_pattern p ≡ true) (sym c.pattern-pattern.ensures.pattern) (descriptor_valid c.args.key.now c.pattern-pattern.ensures.valid)

pub tuples-requires-clause-few_exprs : goal.tuples-requires-clause-few_exprs
tuples-requires-clause-few_exprs g c =
    subst (λ (exprs : List Expr). length exprs ≤ 16) (sym (c.as_slice-exprs.ensures ∙ ap (λ k. k.exprs) c.key.ensures))
    (leb-true (length c.args.key.now.exprs) 16 (and_parts _ _ (and_parts _ _ c.pattern-pattern.ensures.valid).0).1)

pub tuples-requires-clause-names : goal.tuples-requires-clause-names
tuples-requires-clause-names g c = names c.args.compiled.now Descriptor c.args.key.now c.pattern-pattern.result.now c.pattern-pattern.ensures.pattern c.requires.typed

pub tuples-requires-clause-in_range : goal.tuples-requires-clause-in_range
tuples-requires-clause-in_range g c = has_x Descriptor c.args.key.now c.pattern-pattern.result.now c.pattern-pattern.ensures.pattern c.pattern-pattern.ensures.valid
