use Rattle.std.proofs.Common.{List, ◌∷◌, ◌++◌, sym, subst}
use Rattle.pgs_conform.specs.declared.shape.Shape.{Shape}
use Rattle.pgs_key_standing.specs.Demands.{AreSame}
use Rattle.pgs_key_standing.proofs.Between.{between_same}
use Rattle.pgs_key_standing.proofs.places.with_between.Goals as goal

pub returns : goal.returns
returns c =
    subst (λ (made : List Shape). AreSame made (c.args.before.now ++ c.args.own ∷ c.args.after.now)) (sym c.from_vec.ensures)
    (between_same c.args.before.now c.args.after.now c.push_copies.new.all.items c.push.new.self.items c.push_copies-2.new.all.items c.args.own
    (subst (λ (first : List Shape). AreSame c.push_copies.new.all.items (first ++ c.args.before.now)) c.in_ok-places.ensures.items c.in_ok-push_copies.ensures)
    c.in_ok-push.ensures.items c.in_ok-push_copies-2.ensures)
