use Rattle.std.proofs.Common.{◌==◌, Bool, List, length, sym, ap, ◌∙◌}
use Rattle.std.specs.List.{list_all}
use Rattle.pgs_key_standing.specs.Kinds.{all_agree, has_literal}
use Rattle.pgs_key_standing.proofs.Named.{decided}
use Rattle.pgs_key_standing.proofs.reach.has_pairs.Goals as goal

pub returns : goal.returns
returns c =
    decided c.can_meet.result c.args.schema.now c.args.placed.now c.in_ok-places.places.items c.as_slice-2.result.now c.in_ok-demands.demands.items c.as_slice-3.result.now
    c.as_slice-2.ensures.value c.as_slice-3.ensures.value
    (ap (list_all has_literal) (sym c.as_slice-atoms.ensures) ∙ c.literals_facts.ensures)
    (ap all_agree (sym c.as_slice-atoms.ensures) ∙ sym c.all_agree-agreed.ensures ∙ c.if-not-agreed.false)
    (λ ps. c.in_ok-places.ensures ps ∙ ap (λ (kinds : List Bool). length ps == length kinds) c.as_slice.ensures)
    c.in_ok-demands.ensures c.can_meet.ensures
