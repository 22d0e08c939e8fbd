use Rattle.std.proofs.Common.{◌++◌, Option, ap, ◌∙◌}
use Rattle.std.specs.Option.{option_to_list}
use Rattle.pgs_syntax.specs.declared.resolved.TypeNo.{TypeNo}
use Rattle.pgs_resolve_declared.proofs.Walks.{more_kept}
use Rattle.pgs_advice.specs.Used.{type_at}
use Rattle.pgs_advice.proofs.used.push_atoms.Goals as goal

pub loop-atom-preserved : goal.loop-atom-preserved
loop-atom-preserved c =
    more_kept type_at c.args.types.now.items c.args.atoms.now c.loop-atom.atom-index c.atom-item.result c.loop-atom.types.items c.push_type.new.types.items c.loop-atom-test.true c.atom-item.is
    c.loop-atom.invariant (c.in_ok-push_type.ensures ∙ ap (λ (o : Option TypeNo). c.loop-atom.types.items ++ option_to_list o) c.type_at.ensures)
