use Rattle.std.proofs.Common.{◌≡◌, ◌+◌, List, [], ◌∷◌, length, length-append, sym, ap, subst, ◌∙◌, arith}
use Rattle.pgs_conform.specs.declared.shape.Shape.{Shape}
use Rattle.pgs_key_standing.proofs.Demanded.{AreAny, any_last, in_any_places, rest_count}
use Rattle.pgs_key_standing.proofs.reach.any_places.Goals as goal

pub loop-left-preserved : goal.loop-left-preserved
loop-left-preserved c =
    let pushed : length c.push.new.self.items ≡ length c.loop-left.places.items + 1 = ap length c.in_ok-push.ensures.items ∙ length-append c.loop-left.places.items (c.any_shape.result ∷ []) in
    let rest = rest_count c.loop-left.left.now c.in-len1-up.len_at_least in
    record {
      count = omega arith;
      any = subst (λ (places : List Shape). AreAny places) (sym c.in_ok-push.ensures.items)
          (any_last c.loop-left.places.items c.any_shape.result c.loop-left.invariant.any c.any_shape.ensures);
    }

pub returns : goal.returns
returns c = λ ps. in_any_places c.loop-left.places.items (length c.args.kinds.now) c.loop-left.invariant.any (omega arith) ps
