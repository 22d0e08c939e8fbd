use Rattle.std.proofs.Common.{◌≡◌, List, ◌++◌, ap, ap₂, subst, ◌∙◌}
use Rattle.std.specs.List.{flat_map}
use Rattle.pgs_syntax.specs.declared.key.Key.{Key}
use Rattle.pgs_syntax.specs.declared.resolved.TypeNo.{TypeNo}
use Rattle.pgs_advice.specs.Used.{AreMarks, first_types, named_by_key}
use Rattle.pgs_advice.proofs.used.Marks.of.Goals as goal

pub returns : goal.returns
returns c =
    let resolved = c.args.resolved.now in
    let both = c.mark_all-2.ensures resolved c.as_slice-2.result.now (c.mark_all.ensures resolved _ c.in_ok-marks.ensures) in
    let asked : c.deref.result.now ≡ flat_map named_by_key resolved.guard.keys =
    c.deref.ensures.value ∙ c.in_ok-push_keys.ensures
    ∙ ap₂ (λ (xs : List TypeNo) (keys : List Key). xs ++ flat_map named_by_key keys) c.new-types.ensures.items c.as_slice.ensures in
    let are : AreMarks resolved (first_types resolved) c.mark_all-2.new.self =
    subst (λ (ts : List TypeNo). AreMarks resolved ts c.mark_all-2.new.self) (ap₂ (λ (xs ys : List TypeNo). xs ++ ys) c.as_slice-2.ensures asked) both in
    c.in_ok-mark_named.ensures _ are
