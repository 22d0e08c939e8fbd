use Rattle.std.proofs.Common.{◌≡◌, ◌+◌, ◌*◌, ◌^◌, ◌≤◌, ◌++◌, length, map, true, false, sym, ap, ◌∙◌, subst, append_assoc}
use Rattle.std.proofs.lemmas.Bool.{and_parts}
use Rattle.pgs_match.specs.Planned.{most_edges, pattern_of}
use Rattle.pgs_match.specs.Spread.{are_in_range, AreSparseFrom}
use Rattle.pgs_match.proofs.Scopes.{side_valid}
use Rattle.pgs_check_affected.specs.declared.known.Known.{Known}
use Rattle.pgs_check_affected.specs.Unseen.{seen_elems}
use Rattle.pgs_check_affected.proofs.Together.{starts_are, starts_in_range, is_spread, IsSpreadIn, sparse_old, sparse_new, spread_cost, spread_cost_first}
use Rattle.pgs_check_affected.proofs.gathering.Sought.add_spread.Goals as goal

pub spread-requires-clause-in_range : goal.spread-requires-clause-in_range
spread-requires-clause-in_range g c =
    let before = g.G.GraphRead.meaning c.args.before.now in
    let after = g.H.GraphRead.meaning c.args.after.now in
    let resolved = c.args.self.now.compiled.now in
    let key = c.args.self.now.key.now in
    let side = c.args.self.now.side in
    let pattern = pattern_of side key in
    let known = c.args.known.now in
    let seen = seen_elems resolved before after key (map (λ (one : Known). one.elem) known) in
    let old_is = starts_are resolved before after key false pattern known c.in_ok-old.old.items c.requires.known c.in_ok-old.ensures in
    subst (λ xs. are_in_range pattern xs ≡ true) (sym old_is) (starts_in_range resolved before pattern seen)

pub spread-requires-2-clause-in_range : goal.spread-requires-2-clause-in_range
spread-requires-2-clause-in_range g c =
    let before = g.G.GraphRead.meaning c.args.before.now in
    let after = g.H.GraphRead.meaning c.args.after.now in
    let resolved = c.args.self.now.compiled.now in
    let key = c.args.self.now.key.now in
    let side = c.args.self.now.side in
    let pattern = pattern_of side key in
    let known = c.args.known.now in
    let seen = seen_elems resolved before after key (map (λ (one : Known). one.elem) known) in
    let new_is = starts_are resolved before after key true pattern known c.in_ok-new.new.items c.requires.known c.in_ok-new.ensures in
    subst (λ xs. are_in_range pattern xs ≡ true) (sym new_is) (starts_in_range resolved after pattern seen)

pub returns-clause-more : goal.returns-clause-more
returns-clause-more g c =
    let before = g.G.GraphRead.meaning c.args.before.now in
    let after = g.H.GraphRead.meaning c.args.after.now in
    let resolved = c.args.self.now.compiled.now in
    let key = c.args.self.now.key.now in
    let side = c.args.self.now.side in
    let pattern = pattern_of side key in
    let known = c.args.known.now in
    let seen = seen_elems resolved before after key (map (λ (one : Known). one.elem) known) in
    let old_is = starts_are resolved before after key false pattern known c.in_ok-old.old.items c.requires.known c.in_ok-old.ensures in
    let new_is = starts_are resolved before after key true pattern known c.in_ok-new.new.items c.requires.known c.in_ok-new.ensures in
    let valid = side_valid side key (and_parts _ _ (and_parts _ _ c.requires.typed).0).0 in
    let w = most_edges key in
    let first = c.in_ok-first.first in
    let second = c.in_ok-second.second in
    let one = subst (λ xs. IsSpreadIn resolved before after w pattern valid seen before xs first) old_is
    (record { all = c.in_ok-first.ensures.all; near = c.in_ok-first.ensures.near; few = c.in_ok-first.ensures.few }) in
    let other = subst (λ xs. IsSpreadIn resolved before after w pattern valid seen after xs second) new_is
    (record { all = c.in_ok-second.ensures.all; near = c.in_ok-second.ensures.near; few = c.in_ok-second.ensures.few }) in (
      first ++ second,
      c.in_ok-extend_from_slice-2.ensures.items ∙ ap (λ xs. xs ++ c.as_slice-2.result.now) c.in_ok-extend_from_slice.ensures.items
          ∙ ap (λ xs. (c.args.elems.now.items ++ c.as_slice.result.now) ++ xs) c.as_slice-2.ensures ∙ ap (λ xs. (c.args.elems.now.items ++ xs) ++ second) c.as_slice.ensures
          ∙ append_assoc c.args.elems.now.items first second,
      is_spread resolved before after w pattern valid seen c.requires.several first second one other,
    )

pub returns-in_err-first-clause-cost : goal.returns-in_err-first-clause-cost
returns-in_err-first-clause-cost g c = λ most sparse.
    let before = g.G.GraphRead.meaning c.args.before.now in
    let after = g.H.GraphRead.meaning c.args.after.now in
    let resolved = c.args.self.now.compiled.now in
    let key = c.args.self.now.key.now in
    let side = c.args.self.now.side in
    let pattern = pattern_of side key in
    let known = c.args.known.now in
    let seen = seen_elems resolved before after key (map (λ (one : Known). one.elem) known) in
    let old_is = starts_are resolved before after key false pattern known c.in_ok-old.old.items c.requires.known c.in_ok-old.ensures in
    let valid = side_valid side key (and_parts _ _ (and_parts _ _ c.requires.typed).0).0 in
    let w = most_edges key in
    let first_cost = subst (λ xs. c.spread.new.steps ≤ c.args.steps.now + length xs * (8 * (most + 2) ^ w)) old_is
    (c.spread.ensures.cost most (subst (λ xs. AreSparseFrom before w xs most) (sym old_is) (sparse_old resolved before after w pattern valid seen most sparse))) in
    spread_cost_first resolved before after w pattern valid seen most c.args.steps.now c.spread.new.steps first_cost

pub returns-in_err-second-clause-cost : goal.returns-in_err-second-clause-cost
returns-in_err-second-clause-cost g c = λ most sparse.
    let before = g.G.GraphRead.meaning c.args.before.now in
    let after = g.H.GraphRead.meaning c.args.after.now in
    let resolved = c.args.self.now.compiled.now in
    let key = c.args.self.now.key.now in
    let side = c.args.self.now.side in
    let pattern = pattern_of side key in
    let known = c.args.known.now in
    let seen = seen_elems resolved before after key (map (λ (one : Known). one.elem) known) in
    let old_is = starts_are resolved before after key false pattern known c.in_ok-old.old.items c.requires.known c.in_ok-old.ensures in
    let new_is = starts_are resolved before after key true pattern known c.in_ok-new.new.items c.requires.known c.in_ok-new.ensures in
    let valid = side_valid side key (and_parts _ _ (and_parts _ _ c.requires.typed).0).0 in
    let w = most_edges key in
    let first_cost = subst (λ xs. c.spread.new.steps ≤ c.args.steps.now + length xs * (8 * (most + 2) ^ w)) old_is
    (c.spread.ensures.cost most (subst (λ xs. AreSparseFrom before w xs most) (sym old_is) (sparse_old resolved before after w pattern valid seen most sparse))) in
    let second_cost = subst (λ xs. c.spread-2.new.steps ≤ c.spread.new.steps + length xs * (8 * (most + 2) ^ w)) new_is
    (c.spread-2.ensures.cost most (subst (λ xs. AreSparseFrom after w xs most) (sym new_is) (sparse_new resolved before after w pattern valid seen most sparse))) in
    spread_cost resolved before after w pattern valid seen most c.args.steps.now c.spread.new.steps c.spread-2.new.steps first_cost second_cost

pub returns-in_err-extend_from_slice-clause-cost : goal.returns-in_err-extend_from_slice-clause-cost
returns-in_err-extend_from_slice-clause-cost g c = λ most sparse.
    let before = g.G.GraphRead.meaning c.args.before.now in
    let after = g.H.GraphRead.meaning c.args.after.now in
    let resolved = c.args.self.now.compiled.now in
    let key = c.args.self.now.key.now in
    let side = c.args.self.now.side in
    let pattern = pattern_of side key in
    let known = c.args.known.now in
    let seen = seen_elems resolved before after key (map (λ (one : Known). one.elem) known) in
    let old_is = starts_are resolved before after key false pattern known c.in_ok-old.old.items c.requires.known c.in_ok-old.ensures in
    let new_is = starts_are resolved before after key true pattern known c.in_ok-new.new.items c.requires.known c.in_ok-new.ensures in
    let valid = side_valid side key (and_parts _ _ (and_parts _ _ c.requires.typed).0).0 in
    let w = most_edges key in
    let first_cost = subst (λ xs. c.spread.new.steps ≤ c.args.steps.now + length xs * (8 * (most + 2) ^ w)) old_is
    (c.spread.ensures.cost most (subst (λ xs. AreSparseFrom before w xs most) (sym old_is) (sparse_old resolved before after w pattern valid seen most sparse))) in
    let second_cost = subst (λ xs. c.spread-2.new.steps ≤ c.spread.new.steps + length xs * (8 * (most + 2) ^ w)) new_is
    (c.spread-2.ensures.cost most (subst (λ xs. AreSparseFrom after w xs most) (sym new_is) (sparse_new resolved before after w pattern valid seen most sparse))) in
    spread_cost resolved before after w pattern valid seen most c.args.steps.now c.spread.new.steps c.spread-2.new.steps first_cost second_cost

pub returns-in_err-extend_from_slice-2-clause-cost : goal.returns-in_err-extend_from_slice-2-clause-cost
returns-in_err-extend_from_slice-2-clause-cost g c = λ most sparse.
    let before = g.G.GraphRead.meaning c.args.before.now in
    let after = g.H.GraphRead.meaning c.args.after.now in
    let resolved = c.args.self.now.compiled.now in
    let key = c.args.self.now.key.now in
    let side = c.args.self.now.side in
    let pattern = pattern_of side key in
    let known = c.args.known.now in
    let seen = seen_elems resolved before after key (map (λ (one : Known). one.elem) known) in
    let old_is = starts_are resolved before after key false pattern known c.in_ok-old.old.items c.requires.known c.in_ok-old.ensures in
    let new_is = starts_are resolved before after key true pattern known c.in_ok-new.new.items c.requires.known c.in_ok-new.ensures in
    let valid = side_valid side key (and_parts _ _ (and_parts _ _ c.requires.typed).0).0 in
    let w = most_edges key in
    let first_cost = subst (λ xs. c.spread.new.steps ≤ c.args.steps.now + length xs * (8 * (most + 2) ^ w)) old_is
    (c.spread.ensures.cost most (subst (λ xs. AreSparseFrom before w xs most) (sym old_is) (sparse_old resolved before after w pattern valid seen most sparse))) in
    let second_cost = subst (λ xs. c.spread-2.new.steps ≤ c.spread.new.steps + length xs * (8 * (most + 2) ^ w)) new_is
    (c.spread-2.ensures.cost most (subst (λ xs. AreSparseFrom after w xs most) (sym new_is) (sparse_new resolved before after w pattern valid seen most sparse))) in
    spread_cost resolved before after w pattern valid seen most c.args.steps.now c.spread.new.steps c.spread-2.new.steps first_cost second_cost

pub returns-clause-cost : goal.returns-clause-cost
returns-clause-cost g c = λ most sparse.
    let before = g.G.GraphRead.meaning c.args.before.now in
    let after = g.H.GraphRead.meaning c.args.after.now in
    let resolved = c.args.self.now.compiled.now in
    let key = c.args.self.now.key.now in
    let side = c.args.self.now.side in
    let pattern = pattern_of side key in
    let known = c.args.known.now in
    let seen = seen_elems resolved before after key (map (λ (one : Known). one.elem) known) in
    let old_is = starts_are resolved before after key false pattern known c.in_ok-old.old.items c.requires.known c.in_ok-old.ensures in
    let new_is = starts_are resolved before after key true pattern known c.in_ok-new.new.items c.requires.known c.in_ok-new.ensures in
    let valid = side_valid side key (and_parts _ _ (and_parts _ _ c.requires.typed).0).0 in
    let w = most_edges key in
    let first_cost = subst (λ xs. c.spread.new.steps ≤ c.args.steps.now + length xs * (8 * (most + 2) ^ w)) old_is
    (c.spread.ensures.cost most (subst (λ xs. AreSparseFrom before w xs most) (sym old_is) (sparse_old resolved before after w pattern valid seen most sparse))) in
    let second_cost = subst (λ xs. c.spread-2.new.steps ≤ c.spread.new.steps + length xs * (8 * (most + 2) ^ w)) new_is
    (c.spread-2.ensures.cost most (subst (λ xs. AreSparseFrom after w xs most) (sym new_is) (sparse_new resolved before after w pattern valid seen most sparse))) in
    spread_cost resolved before after w pattern valid seen most c.args.steps.now c.spread.new.steps c.spread-2.new.steps first_cost second_cost
