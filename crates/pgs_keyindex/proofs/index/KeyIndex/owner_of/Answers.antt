use Rattle.std.proofs.Common.{◌≡◌, ◌↔◌, true, Some, ◌∙◌, ap, subst}
use Rattle.pgs_base.specs.declared.element.Elem.{Elem}
use Rattle.pgs_keyindex.specs.Rows.{has_value, is_exclusive}
use Rattle.pgs_keyindex.proofs.Held.{one_owner}
use Rattle.pgs_keyindex.proofs.index.KeyIndex.owner_of.Goals as goal

pub returns-clause-owner : goal.returns-clause-owner
returns-clause-owner g c =
    let key = c.args.key in
    let tuple = c.args.tuple.now in
    let table = c.self.inside.table in
    subst (λ s. (elem : Elem) → (has_value s.rows key elem tuple ≡ true) ↔ (c.owner.result ≡ Some elem)) c.self.view_is
    (one_owner table.exclusive table.rows.rows c.self.invariant.owned key tuple (ap (λ s. is_exclusive s.exclusive key) c.self.view_is ∙ c.requires) c.owner.result c.owner.ensures)
