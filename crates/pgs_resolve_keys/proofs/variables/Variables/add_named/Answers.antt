use Rattle.std.proofs.Common.{ℕ, cond, Some, List, refl, sym, ◌∙◌, ap, arith}
use Rattle.std.specs.Option.{is_some}
use Rattle.std.specs.Ordering.{nat_cmp}
use Rattle.std.specs.Cmp.Lexicographic.{slice_cmp}
use Rattle.std.specs.BTreeMap.{get}
use Rattle.pgs_base.specs.Pair.{same_name}
use Rattle.std.proofs.lemmas.Grind.{common_steps}
use Rattle.pgs_resolve_keys.specs.Patterns.{called}
use Rattle.pgs_resolve_keys.proofs.Held.{known, hold_named}
use Rattle.pgs_resolve_keys.proofs.variables.Variables.add_named.Goals as goal

pub returns-then-contains_key : goal.returns-then-contains_key
returns-then-contains_key c variables holds =
    known variables (called c.args.name.now, c.args.is_edge) c.args.self.now
    (ap is_some (sym (holds.named c.args.name.now)) ∙ sym c.contains_key.ensures ∙ c.if-contains_key.true) holds

pub returns : goal.returns
returns c variables holds =
    hold_named variables c.args.is_edge c.args.self.now _ c.in_ok-number.number holds (grind (arith, common_steps)) (grind (arith, common_steps)) c.args.name.now
    (sym c.contains_key.ensures ∙ c.if-contains_key.false)
    (λ q. c.in_ok-insert.ensures.updates.0 q
    ∙ ap (λ (n : List ℕ). cond (same_name n q) (Some c.in_ok-number.number) (get (slice_cmp nat_cmp) c.args.self.now.named q)) c.in_ok-copy.ensures)
    refl
