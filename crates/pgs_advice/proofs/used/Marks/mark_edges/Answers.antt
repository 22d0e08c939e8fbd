use Rattle.std.proofs.Common.{◌≡◌, ℕ, suc, ◌-◌, ◌<◌, List, map, length, slice_get, Some, sym, ap, subst, ◌∙◌, refl, arith}
use Rattle.std.specs.List.{fold}
use Rattle.std.proofs.lemmas.Option.{slice_get_read}
use Rattle.pgs_syntax.specs.declared.resolved.TypeNo.{TypeNo}
use Rattle.pgs_syntax.specs.declared.resolved.TypeNo.TheVariants.{Edge}
use Rattle.pgs_advice.specs.Used.{AreMarks, numbers_below, with_named}
use Rattle.pgs_advice.proofs.used.Marks.mark_edges.Goals as goal

pub loop-place-preserved : goal.loop-place-preserved
loop-place-preserved c = λ used are.
    let resolved = c.args.resolved.now in
    let place = c.loop-place.place in
    let before = c.loop-place.invariant used are in
    let items = c.as_slice-edges.result.now in
    let within : place - 1 < length items = omega arith in
    let at : slice_get resolved.edges (place - 1) ≡ Some c.index-edges-place.result =
    ap (λ xs. slice_get xs (place - 1)) (sym c.as_slice-edges.ensures) ∙ slice_get_read items (length items) (place - 1) c.index-edges-place.result refl within c.index-edges-place.is in
    let next : suc (place - 1) ≡ place = omega arith in
    (with_named resolved before.0 (Edge (place - 1)), c.in_ok-mark_edge.ensures resolved before.0 at before.1, ap (λ n. fold (with_named resolved) before.0 (map Edge (numbers_below n))) next ∙ before.2)

pub returns : goal.returns
returns c = λ used are.
    let resolved = c.args.resolved.now in
    let before = c.loop-place.invariant used are in
    let none : 0 ≡ c.loop-place.place = omega arith in
    subst (λ (ts : List TypeNo). AreMarks resolved ts c.loop-place.self) (ap (λ n. fold (with_named resolved) before.0 (map Edge (numbers_below n))) none ∙ before.2) before.1
