use Rattle.std.proofs.Common.{◌≡◌, true, sym, ◌∙◌, ap, subst, arith}
use Rattle.std.specs.List.{list_any}
use Rattle.std.specs.Option.{IfSome}
use Rattle.pgs_syntax.specs.declared.pattern.Pattern.{Pattern}
use Rattle.pgs_syntax.specs.Matches.{matches}
use Rattle.pgs_syntax.specs.Valid.{is_valid_pattern}
use Rattle.pgs_match.specs.Answers.{AreRight, IsClosed}
use Rattle.pgs_match.specs.Bounds.{stands_at}
use Rattle.pgs_match.specs.Branches.{is_tree}
use Rattle.pgs_match.specs.Learned.{IsMemo, IsWayMemo, is_short}
use Rattle.pgs_match.specs.Plans.{is_plan}
use Rattle.pgs_match.proofs.Acyclic.{plan_is_tree}
use Rattle.pgs_match.proofs.Learning.{short_left, taken_right, taken_owed}
use Rattle.pgs_match.proofs.Scopes.{pattern_has}
use Rattle.pgs_match.proofs.Values.{scope_valid}
use Rattle.std.proofs.lemmas.Bool.{and_parts}
use Rattle.pgs_match.specs.declared.planned.Side.TheVariants.{Scope}
use Rattle.pgs_match.proofs.Typed.{is_valid, has_x, names}
use Rattle.pgs_match.proofs.learned.in_scope_learned.Goals as goal

pub returns-then-not-is_noted-clause-once : goal.returns-then-not-is_noted-clause-once
returns-then-not-is_noted-clause-once g c =
    λ acyclic pairs searched.
    let graph = g.G.GraphRead.meaning c.args.graph.now in
    let resolved = c.args.compiled.now in
    let key = c.args.key.now in
    let same = c.pattern-pattern.ensures.pattern in
    let plan = c.as_slice-plan.result.now in
    let plans = subst (λ steps. is_plan key.scope 0 steps ≡ true) (sym c.as_slice-plan.ensures) c.plan.ensures.0 in
    let valid = scope_valid key c.pattern-pattern.ensures.valid in
    let tree = plan_is_tree key.scope valid acyclic 0 (pattern_has key.scope valid) plan plans in
    let demands = c.as_slice-atoms.ensures ∙ ap (λ (p : Pattern). p.atoms) same in
    let asked = subst (λ atoms. is_tree atoms plan ≡ true) (sym demands) tree in
    let short = short_left (is_short plan) (is_tree c.as_slice-atoms.result.now plan) (sym c.is_noted.ensures ∙ c.if-not-is_noted.true) asked in
    let cost = c.has_match.ensures.short (subst (λ (p : Pattern). is_tree p.atoms plan ≡ true) (sym same) tree) short in
    omega (arith, cost)

pub has_match_by-found-requires-clause-valid : goal.has_match_by-found-requires-clause-valid
has_match_by-found-requires-clause-valid g c =
    let graph = g.G.GraphRead.meaning c.args.graph.now in
    let resolved = c.args.compiled.now in
    let key = c.args.key.now in
    let same = c.pattern-pattern.ensures.pattern in
    let plan = c.as_slice-plan.result.now in
    let plans = subst (λ steps. is_plan key.scope 0 steps ≡ true) (sym c.as_slice-plan.ensures) c.plan.ensures.0 in
    subst (λ p. is_valid_pattern p ≡ true) (sym same) (scope_valid key c.pattern-pattern.ensures.valid)

pub has_match_by-found-requires-clause-plan : goal.has_match_by-found-requires-clause-plan
has_match_by-found-requires-clause-plan g c =
    let graph = g.G.GraphRead.meaning c.args.graph.now in
    let resolved = c.args.compiled.now in
    let key = c.args.key.now in
    let same = c.pattern-pattern.ensures.pattern in
    let plan = c.as_slice-plan.result.now in
    let plans = subst (λ steps. is_plan key.scope 0 steps ≡ true) (sym c.as_slice-plan.ensures) c.plan.ensures.0 in
    let demands = c.as_slice-atoms.ensures ∙ ap (λ (p : Pattern). p.atoms) same in
    let tests = and_parts _ (is_tree c.as_slice-atoms.result.now plan) (sym c.is_noted.ensures ∙ c.if-not-is_noted.false) in
    let tree = subst (λ atoms. is_tree atoms plan ≡ true) demands tests.1 in
    let memo = c.in_ok-memo.memo in
    let ready : IsMemo resolved graph key.scope memo = taken_right resolved graph key.scope c.args.learned.now.scope plan memo c.requires.learned.0 c.in_ok-memo.ensures.memo plans tree in
    subst (λ p. is_plan p 0 c.as_slice.result.now ≡ true) (sym same) (subst (λ steps. is_plan key.scope 0 steps ≡ true) (sym c.as_slice.ensures) ready.0)

pub has_match_by-found-requires-clause-tree : goal.has_match_by-found-requires-clause-tree
has_match_by-found-requires-clause-tree g c =
    let graph = g.G.GraphRead.meaning c.args.graph.now in
    let resolved = c.args.compiled.now in
    let key = c.args.key.now in
    let same = c.pattern-pattern.ensures.pattern in
    let plan = c.as_slice-plan.result.now in
    let plans = subst (λ steps. is_plan key.scope 0 steps ≡ true) (sym c.as_slice-plan.ensures) c.plan.ensures.0 in
    let demands = c.as_slice-atoms.ensures ∙ ap (λ (p : Pattern). p.atoms) same in
    let tests = and_parts _ (is_tree c.as_slice-atoms.result.now plan) (sym c.is_noted.ensures ∙ c.if-not-is_noted.false) in
    let tree = subst (λ atoms. is_tree atoms plan ≡ true) demands tests.1 in
    let memo = c.in_ok-memo.memo in
    let ready : IsMemo resolved graph key.scope memo = taken_right resolved graph key.scope c.args.learned.now.scope plan memo c.requires.learned.0 c.in_ok-memo.ensures.memo plans tree in
    subst (λ (p : Pattern). is_tree p.atoms c.as_slice.result.now ≡ true) (sym same) (subst (λ steps. is_tree key.scope.atoms steps ≡ true) (sym c.as_slice.ensures) ready.1)

pub has_match_by-found-requires-clause-right : goal.has_match_by-found-requires-clause-right
has_match_by-found-requires-clause-right g c =
    let graph = g.G.GraphRead.meaning c.args.graph.now in
    let resolved = c.args.compiled.now in
    let key = c.args.key.now in
    let same = c.pattern-pattern.ensures.pattern in
    let plan = c.as_slice-plan.result.now in
    let plans = subst (λ steps. is_plan key.scope 0 steps ≡ true) (sym c.as_slice-plan.ensures) c.plan.ensures.0 in
    let demands = c.as_slice-atoms.ensures ∙ ap (λ (p : Pattern). p.atoms) same in
    let tests = and_parts _ (is_tree c.as_slice-atoms.result.now plan) (sym c.is_noted.ensures ∙ c.if-not-is_noted.false) in
    let tree = subst (λ atoms. is_tree atoms plan ≡ true) demands tests.1 in
    let memo = c.in_ok-memo.memo in
    let ready : IsMemo resolved graph key.scope memo = taken_right resolved graph key.scope c.args.learned.now.scope plan memo c.requires.learned.0 c.in_ok-memo.ensures.memo plans tree in
    subst (λ (p : Pattern). AreRight resolved graph p.atoms c.as_slice.result.now memo.answers) (sym same)
    (subst (λ steps. AreRight resolved graph key.scope.atoms steps memo.answers) (sym c.as_slice.ensures) ready.2)

pub returns-clause-found : goal.returns-clause-found
returns-clause-found g c =
    let graph = g.G.GraphRead.meaning c.args.graph.now in
    let resolved = c.args.compiled.now in
    let key = c.args.key.now in
    let same = c.pattern-pattern.ensures.pattern in
    let plan = c.as_slice-plan.result.now in
    let plans = subst (λ steps. is_plan key.scope 0 steps ≡ true) (sym c.as_slice-plan.ensures) c.plan.ensures.0 in
    c.has_match_by-found.ensures.found ∙ ap (λ p. list_any (stands_at 0 c.args.elem) (matches resolved graph p)) same

pub returns-clause-learned : goal.returns-clause-learned
returns-clause-learned g c =
    let graph = g.G.GraphRead.meaning c.args.graph.now in
    let resolved = c.args.compiled.now in
    let key = c.args.key.now in
    let same = c.pattern-pattern.ensures.pattern in
    let plan = c.as_slice-plan.result.now in
    let plans = subst (λ steps. is_plan key.scope 0 steps ≡ true) (sym c.as_slice-plan.ensures) c.plan.ensures.0 in
    let demands = c.as_slice-atoms.ensures ∙ ap (λ (p : Pattern). p.atoms) same in
    let tests = and_parts _ (is_tree c.as_slice-atoms.result.now plan) (sym c.is_noted.ensures ∙ c.if-not-is_noted.false) in
    let tree = subst (λ atoms. is_tree atoms plan ≡ true) demands tests.1 in
    let memo = c.in_ok-memo.memo in
    let ready : IsMemo resolved graph key.scope memo = taken_right resolved graph key.scope c.args.learned.now.scope plan memo c.requires.learned.0 c.in_ok-memo.ensures.memo plans tree in
    let right = subst (λ steps. AreRight resolved graph key.scope.atoms steps c.has_match_by-found.new.answers) c.as_slice.ensures
    (subst (λ (p : Pattern). AreRight resolved graph p.atoms c.as_slice.result.now c.has_match_by-found.new.answers) same c.has_match_by-found.ensures.right) in
    ((ready.0, ready.1, right), subst (λ o. IfSome o (IsWayMemo resolved graph key)) (sym c.taken.ensures.others) c.requires.learned.1)

pub returns-clause-once : goal.returns-clause-once
returns-clause-once g c =
    λ acyclic pairs searched.
    let graph = g.G.GraphRead.meaning c.args.graph.now in
    let resolved = c.args.compiled.now in
    let key = c.args.key.now in
    let same = c.pattern-pattern.ensures.pattern in
    let plan = c.as_slice-plan.result.now in
    let plans = subst (λ steps. is_plan key.scope 0 steps ≡ true) (sym c.as_slice-plan.ensures) c.plan.ensures.0 in
    let demands = c.as_slice-atoms.ensures ∙ ap (λ (p : Pattern). p.atoms) same in
    let tests = and_parts _ (is_tree c.as_slice-atoms.result.now plan) (sym c.is_noted.ensures ∙ c.if-not-is_noted.false) in
    let tree = subst (λ atoms. is_tree atoms plan ≡ true) demands tests.1 in
    let memo = c.in_ok-memo.memo in
    let ready : IsMemo resolved graph key.scope memo = taken_right resolved graph key.scope c.args.learned.now.scope plan memo c.requires.learned.0 c.in_ok-memo.ensures.memo plans tree in
    let closed = subst (λ (p : Pattern). IsClosed resolved graph p.atoms pairs c.as_slice.result.now) (sym same)
    (subst (IsClosed resolved graph key.scope.atoms pairs) (sym c.as_slice.ensures) (searched.1 memo.plan ready.0)) in
    let paid = c.has_match_by-found.ensures.once pairs searched.0 closed c.if-is_full.false in
    let less = taken_owed graph pairs c.args.learned.now.scope plan memo c.in_ok-memo.ensures.memo in
    omega (arith, paid, less)

pub has_match-requires-clause-valid : goal.has_match-requires-clause-valid
has_match-requires-clause-valid g c = is_valid Scope c.args.key.now c.pattern-pattern.result.now c.pattern-pattern.ensures.pattern c.pattern-pattern.ensures.valid

pub has_match-requires-clause-names : goal.has_match-requires-clause-names
has_match-requires-clause-names g c = names c.args.compiled.now Scope c.args.key.now c.pattern-pattern.result.now c.pattern-pattern.ensures.pattern c.requires.typed

pub has_match-requires-clause-in_range : goal.has_match-requires-clause-in_range
has_match-requires-clause-in_range g c = has_x Scope c.args.key.now c.pattern-pattern.result.now c.pattern-pattern.ensures.pattern c.pattern-pattern.ensures.valid

pub has_match-requires-clause-plan : goal.has_match-requires-clause-plan
has_match-requires-clause-plan g c =
    subst (λ p. is_plan p 0 c.as_slice-plan.result.now ≡ true) (sym c.pattern-pattern.ensures.pattern)
    (subst (λ steps. is_plan c.args.key.now.scope 0 steps ≡ true) (sym c.as_slice-plan.ensures) c.plan.ensures.0)

pub has_match_by-found-requires-clause-names : goal.has_match_by-found-requires-clause-names
has_match_by-found-requires-clause-names g c = names c.args.compiled.now Scope c.args.key.now c.pattern-pattern.result.now c.pattern-pattern.ensures.pattern c.requires.typed

pub has_match_by-found-requires-clause-in_range : goal.has_match_by-found-requires-clause-in_range
has_match_by-found-requires-clause-in_range g c = has_x Scope c.args.key.now c.pattern-pattern.result.now c.pattern-pattern.ensures.pattern c.pattern-pattern.ensures.valid
