use Rattle.std.proofs.Common.{Bool, sym, ◌∙◌, ap, arith}
use Rattle.std.specs.Option.{option_map}
use Rattle.pgs_resolve_keys.specs.Patterns.{Variable}
use Rattle.pgs_resolve_keys.proofs.Listed.{kind_later, kind_here}
use Rattle.pgs_resolve_keys.proofs.variables.kind_of.Goals as goal

pub returns-then-is_named : goal.returns-then-is_named
returns-then-is_named c =
    sym (ap (option_map (λ (v : Variable × Bool). v.1)) (c.loop-place.invariant
    ∙ kind_here c.args.x.now c.args.places.now c.loop-place.place-index c.place-item.result (omega arith) c.place-item.is
    (sym (c.is_named.ensures c.loop-place.place-index) ∙ c.if-is_named.true)))

pub loop-place-preserved : goal.loop-place-preserved
loop-place-preserved c =
    c.loop-place.invariant
    ∙ kind_later c.args.x.now c.args.places.now c.loop-place.place-index c.place-item.result (omega arith) c.place-item.is
    (sym (c.is_named.ensures c.loop-place.place-index) ∙ c.if-is_named.false)
