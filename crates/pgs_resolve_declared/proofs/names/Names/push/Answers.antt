use Rattle.std.proofs.Common.{◌++◌, ◌∷◌, [], ◌∙◌, ap}
use Rattle.std.specs.BTreeMap.{get}
use Rattle.std.specs.Cmp.Lexicographic.{slice_cmp}
use Rattle.std.specs.Ordering.{nat_cmp}
use Rattle.pgs_resolve_declared.proofs.Same.{placed}
use Rattle.pgs_resolve_declared.proofs.names.Names.push.Goals as goal

pub invariant_of-self-2 : goal.invariant_of-self-2
invariant_of-self-2 c q =
    let items = c.self.inside.items.items in
    placed items c.push.new.self.items c.args.name c.in_ok-number.number (get (slice_cmp nat_cmp) c.self.inside.places) (get (slice_cmp nat_cmp) c.place_first.new.places)
    c.self.invariant (c.in_ok-number.ensures.number ∙ c.len.ensures ∙ c.self.inside.items.ok.0) (c.in_ok-push.ensures.items ∙ ap (λ names. names ++ c.args.name ∷ []) c.in_ok-reserve.ensures.items) q (c.in_ok-place_first.ensures.ok q)
