use Rattle.std.proofs.Common.{◌≡◌, ℕ, ◌+◌, ◌*◌, ◌^◌, ◌≤◌, true, List, length, map, sym, subst, arith}
use Rattle.std.proofs.lemmas.Bool.{and_parts}
use Rattle.pgs_base.specs.Graph.{is_graph}
use Rattle.pgs_base.specs.declared.element.Elem.{Elem}
use Rattle.pgs_match.specs.Planned.{most_edges}
use Rattle.pgs_match.proofs.SpreadEnds.{sum_ones}
use Rattle.pgs_syntax.specs.declared.key.Key.{Key}
use Rattle.pgs_syntax.specs.declared.resolved.Resolved.{Resolved}
use Rattle.pgs_check_affected.specs.declared.known.Known.{Known}
use Rattle.pgs_check_affected.specs.Changes.{ChangeState, known_in}
use Rattle.pgs_check_affected.specs.Found.{IsFoundByAll}
use Rattle.pgs_check_affected.specs.Local.{is_one_of, AgreeBut}
use Rattle.pgs_check_affected.specs.Touched.{AreSparseInBoth}
use Rattle.pgs_check_affected.specs.Unseen.{seen_elems}
use Rattle.pgs_check_affected.proofs.Counting.{items_few, found_cost, own_sparse, all_near}
use Rattle.pgs_check_affected.proofs.Finding.{answered}
use Rattle.pgs_check_affected.proofs.Fronts.{seen_own, seen_size, seen_less, seen_sparse}
use Rattle.pgs_check_affected.proofs.Together.{has_found}
use Rattle.pgs_check_affected.proofs.change.Change.affected.Goals as goal

pub found_by_all-requires-clause-known : goal.found_by_all-requires-clause-known
found_by_all-requires-clause-known g c =
    let before = c.self.inside.before.now.graph in
    let after = c.self.inside.after.now in
    subst (λ known. known ≡ map (known_in before after) (map (λ (one : Known). one.elem) known)) (sym c.as_slice-known.ensures) c.self.invariant.rows

-- what is found from the elements of a change that a key may see
abbrev AllFound : Resolved → Key → ChangeState → List Elem → Type 0
AllFound resolved key change items = IsFoundByAll resolved change.before change.after key (seen_elems resolved change.before change.after key change.elems) items

pub returns-clause-holds : goal.returns-clause-holds
returns-clause-holds g c = λ elem none.
    let inside = c.self.inside in
    let change = c.args.self.now in
    let resolved = c.args.compiled.now in
    let key = c.args.key.now in
    let agree = subst (λ (s : ChangeState). AgreeBut (is_one_of s.elems) s.before s.after) c.self.view_is c.self.invariant.agree in
    let items = c.in_ok-found.found.items in
    let it = subst (λ (s : ChangeState). AllFound resolved key s items) c.self.view_is
    (subst (λ known. AllFound resolved key (record { before = inside.before.now.graph; after = inside.after.now; elems = map (λ (one : Known). one.elem) known }) items)
    c.as_slice-known.ensures c.in_ok-found.ensures.found) in
    answered resolved change.before change.after change.elems agree key (and_parts _ _ (and_parts _ _ c.requires).0).0 elem items c.in_order.result
    (λ y some. has_found resolved change.before change.after key (seen_elems resolved change.before change.after key change.elems) y items it some) c.in_order.ensures.kept none

-- the look-ups by the elements of a change that a key may see
abbrev SeenCost : Resolved → Key → ChangeState → ℕ → ℕ → Type 0
SeenCost resolved key change start now =
    (most : ℕ) → AreSparseInBoth change.before change.after (most_edges key) (seen_elems resolved change.before change.after key change.elems) most →
    now ≤ start + 1280 * length (seen_elems resolved change.before change.after key change.elems) * (most + 2) ^ (most_edges key + 1)

pub returns-in_err-found-clause-seen : goal.returns-in_err-found-clause-seen
returns-in_err-found-clause-seen g c =
    let inside = c.self.inside in
    let resolved = c.args.compiled.now in
    let key = c.args.key.now in
    subst (λ (s : ChangeState). SeenCost resolved key s c.args.steps.now c.found_by_all.new.steps) c.self.view_is
    (subst (λ known. SeenCost resolved key (record { before = inside.before.now.graph; after = inside.after.now; elems = map (λ (one : Known). one.elem) known }) c.args.steps.now c.found_by_all.new.steps)
    c.as_slice-known.ensures c.found_by_all.ensures.cost)

pub returns-clause-seen : goal.returns-clause-seen
returns-clause-seen g c =
    let inside = c.self.inside in
    let resolved = c.args.compiled.now in
    let key = c.args.key.now in
    subst (λ (s : ChangeState). SeenCost resolved key s c.args.steps.now c.found_by_all.new.steps) c.self.view_is
    (subst (λ known. SeenCost resolved key (record { before = inside.before.now.graph; after = inside.after.now; elems = map (λ (one : Known). one.elem) known }) c.args.steps.now c.found_by_all.new.steps)
    c.as_slice-known.ensures c.found_by_all.ensures.cost)

pub returns-in_err-found-clause-cost : goal.returns-in_err-found-clause-cost
returns-in_err-found-clause-cost g c = λ edges most few sparse.
    let change = c.args.self.now in
    let resolved = c.args.compiled.now in
    let key = c.args.key.now in
    let w = most_edges key in
    let agree = subst (λ (s : ChangeState). AgreeBut (is_one_of s.elems) s.before s.after) c.self.view_is c.self.invariant.agree in
    let before = subst (λ (s : ChangeState). is_graph s.before ≡ true) c.self.view_is c.self.invariant.before in
    let after = subst (λ (s : ChangeState). is_graph s.after ≡ true) c.self.view_is c.self.invariant.after in
    let valid = (and_parts _ _ (and_parts _ _ c.requires).0).0 in
    let whole = own_sparse resolved change.before change.after before after key valid most change.elems agree edges few sparse in
    found_cost resolved change.before change.after before after key valid most change.elems agree edges few sparse c.args.steps.now c.found_by_all.new.steps
    (seen_less resolved change.before change.after key change.elems ((most + 2) ^ (w + 1)) c.args.steps.now c.found_by_all.new.steps
    (returns-in_err-found-clause-seen g c most (seen_sparse resolved change.before change.after key change.elems w most whole)))

pub returns-clause-cost : goal.returns-clause-cost
returns-clause-cost g c = λ edges most few sparse.
    let change = c.args.self.now in
    let resolved = c.args.compiled.now in
    let key = c.args.key.now in
    let w = most_edges key in
    let agree = subst (λ (s : ChangeState). AgreeBut (is_one_of s.elems) s.before s.after) c.self.view_is c.self.invariant.agree in
    let before = subst (λ (s : ChangeState). is_graph s.before ≡ true) c.self.view_is c.self.invariant.before in
    let after = subst (λ (s : ChangeState). is_graph s.after ≡ true) c.self.view_is c.self.invariant.after in
    let valid = (and_parts _ _ (and_parts _ _ c.requires).0).0 in
    let whole = own_sparse resolved change.before change.after before after key valid most change.elems agree edges few sparse in
    found_cost resolved change.before change.after before after key valid most change.elems agree edges few sparse c.args.steps.now c.found_by_all.new.steps
    (seen_less resolved change.before change.after key change.elems ((most + 2) ^ (w + 1)) c.args.steps.now c.found_by_all.new.steps
    (returns-clause-seen g c most (seen_sparse resolved change.before change.after key change.elems w most whole)))

pub returns-clause-few : goal.returns-clause-few
returns-clause-few g c = λ edges most few sparse.
    let inside = c.self.inside in
    let change = c.args.self.now in
    let resolved = c.args.compiled.now in
    let key = c.args.key.now in
    let agree = subst (λ (s : ChangeState). AgreeBut (is_one_of s.elems) s.before s.after) c.self.view_is c.self.invariant.agree in
    let before = subst (λ (s : ChangeState). is_graph s.before ≡ true) c.self.view_is c.self.invariant.before in
    let after = subst (λ (s : ChangeState). is_graph s.after ≡ true) c.self.view_is c.self.invariant.after in
    let valid = (and_parts _ _ (and_parts _ _ c.requires).0).0 in
    let items = c.in_ok-found.found.items in
    let seen = seen_elems resolved change.before change.after key change.elems in
    let it = subst (λ (s : ChangeState). AllFound resolved key s items) c.self.view_is
    (subst (λ known. AllFound resolved key (record { before = inside.before.now.graph; after = inside.after.now; elems = map (λ (one : Known). one.elem) known }) items)
    c.as_slice-known.ensures c.in_ok-found.ensures.found) in
    let whole = own_sparse resolved change.before change.after before after key valid most change.elems agree edges few sparse in
    let all = items_few resolved change.before change.after before after key valid most change.elems agree edges few sparse seen items (seen_size resolved change.before change.after key change.elems)
    (seen_sparse resolved change.before change.after key change.elems (most_edges key) most whole) it in
    let less = c.in_order.ensures.few (λ x. 1) in
    let size = sum_ones items in
    let last = sum_ones c.in_order.result in
    omega (arith, all, less, size, last)

pub returns-clause-near : goal.returns-clause-near
returns-clause-near g c = λ edges most few sparse.
    let inside = c.self.inside in
    let change = c.args.self.now in
    let resolved = c.args.compiled.now in
    let key = c.args.key.now in
    let agree = subst (λ (s : ChangeState). AgreeBut (is_one_of s.elems) s.before s.after) c.self.view_is c.self.invariant.agree in
    let before = subst (λ (s : ChangeState). is_graph s.before ≡ true) c.self.view_is c.self.invariant.before in
    let after = subst (λ (s : ChangeState). is_graph s.after ≡ true) c.self.view_is c.self.invariant.after in
    let valid = (and_parts _ _ (and_parts _ _ c.requires).0).0 in
    let items = c.in_ok-found.found.items in
    let seen = seen_elems resolved change.before change.after key change.elems in
    let it = subst (λ (s : ChangeState). AllFound resolved key s items) c.self.view_is
    (subst (λ known. AllFound resolved key (record { before = inside.before.now.graph; after = inside.after.now; elems = map (λ (one : Known). one.elem) known }) items)
    c.as_slice-known.ensures c.in_ok-found.ensures.found) in
    all_near resolved change.before change.after before after key valid most change.elems agree edges few sparse c.in_order.result items seen
    c.in_order.ensures.no_other (seen_own resolved change.before change.after key change.elems) it
