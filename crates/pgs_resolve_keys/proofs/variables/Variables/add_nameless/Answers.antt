use Rattle.std.proofs.Common.{refl, sym, ◌∙◌, ap, arith}
use Rattle.std.specs.Option.{is_some}
use Rattle.std.proofs.lemmas.Grind.{common_steps}
use Rattle.pgs_resolve_keys.specs.Patterns.{nameless}
use Rattle.pgs_resolve_keys.proofs.Held.{known, hold_nameless}
use Rattle.pgs_resolve_keys.proofs.variables.Variables.add_nameless.Goals as goal

pub returns-then-contains_key : goal.returns-then-contains_key
returns-then-contains_key c variables holds =
    known variables (nameless c.args.place, c.args.is_edge) c.args.self.now
    (ap is_some (sym (holds.unnamed c.args.place)) ∙ sym c.contains_key.ensures ∙ c.if-contains_key.true) holds

pub returns : goal.returns
returns c variables holds =
    hold_nameless variables c.args.is_edge c.args.self.now _ c.in_ok-number.number holds (grind (arith, common_steps)) (grind (arith, common_steps)) c.args.place
    (sym c.contains_key.ensures ∙ c.if-contains_key.false) c.in_ok-insert.ensures.updates.0 refl
