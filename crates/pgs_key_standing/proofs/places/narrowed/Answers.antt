use Rattle.std.proofs.Common.{List, ◌∷◌, ◌++◌, drop, sym, ◌∙◌, ap, subst, arith}
use Rattle.pgs_conform.specs.declared.shape.Shape.{Shape}
use Rattle.pgs_standing.specs.Common.{in_common}
use Rattle.pgs_key_standing.specs.Demands.{AreSame}
use Rattle.pgs_key_standing.proofs.Between.{rest_whole, past_places, is_cut, narrowed_to, narrowed_away}
use Rattle.pgs_key_standing.proofs.places.narrowed.Goals as goal

pub returns-then-place-places : goal.returns-then-place-places
returns-then-place-places c = λ ps small. past_places c.args.places.now c.args.place c.args.shape.now (omega arith) ps

pub returns-in_default-2 : goal.returns-in_default-2
returns-in_default-2 c = λ ps small.
    narrowed_away c.args.places.now c.split_at.result.0.now (drop 1 c.split_at.result.1.now) c.args.place c.old-item.result c.args.shape.now
    (is_cut c.args.places.now c.split_at.result.0.now c.split_at.result.1.now c.args.place c.old-item.result c.split_at.ensures.by_index.0 c.split_at.ensures.front_len
    c.in-len1-up.len_at_least c.old-item.is)
    (λ p one. ap (λ o. in_common o p) (sym c.in_default-2.is) ∙ c.in_ok-own.ensures p one) ps small

pub returns : goal.returns
returns c = λ ps small.
    narrowed_to c.args.places.now c.split_at.result.0.now (drop 1 c.split_at.result.1.now) c.in_ok-next.next c.args.place c.old-item.result c.args.shape.now c.in-Some.own
    (is_cut c.args.places.now c.split_at.result.0.now c.split_at.result.1.now c.args.place c.old-item.result c.split_at.ensures.by_index.0 c.split_at.ensures.front_len
    c.in-len1-up.len_at_least c.old-item.is)
    (subst (λ (after : List Shape). AreSame c.in_ok-next.next (c.split_at.result.0.now ++ c.in-Some.own ∷ after)) (rest_whole c.split_at.result.1.now) c.in_ok-next.ensures)
    (λ p one. ap (λ o. in_common o p) (sym c.in-Some.is) ∙ c.in_ok-own.ensures p one) ps small
