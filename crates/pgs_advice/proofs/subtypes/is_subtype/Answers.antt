use Rattle.std.proofs.Common.{◌&&◌, sym, ap, ◌∙◌}
use Rattle.pgs_advice.specs.Subtypes.{names}
use Rattle.pgs_advice.proofs.subtypes.is_subtype.Goals as goal

pub returns-then-is_one_kind : goal.returns-then-is_one_kind
returns-then-is_one_kind c = λ resolved are there.
    c.has.ensures ∙ are.are c.args.base there ∙ sym (ap (λ b. b && names resolved c.args.naming.now.number c.args.base) (sym c.is_one_kind.ensures ∙ c.if-is_one_kind.true))

pub returns-else-is_one_kind : goal.returns-else-is_one_kind
returns-else-is_one_kind c = λ resolved are there.
    c.if-is_one_kind.false ∙ sym (ap (λ b. b && names resolved c.args.naming.now.number c.args.base) (sym c.is_one_kind.ensures ∙ c.if-is_one_kind.false))
