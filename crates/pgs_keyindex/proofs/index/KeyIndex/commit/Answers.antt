use Rattle.std.proofs.Common.{◌∙◌, sym, ap, subst, IfSome}
use Rattle.pgs_keyindex.specs.Index.{IsReady}
use Rattle.pgs_keyindex.specs.Rows.{IsOwned, rows_changed}
use Rattle.pgs_keyindex.specs.Table.{TableState}
use Rattle.pgs_keyindex.proofs.index.KeyIndex.commit.Goals as goal

pub invariant_of-self : goal.invariant_of-self
invariant_of-self c =
    let table = c.self.inside.table in
    let changes = c.args.ready.changes in
    let ready : IsReady table changes =
    subst (λ o. IfSome o (IsReady table)) (ap (λ s. s.ready) c.self.view_is ∙ c.requires) c.self.invariant.prepared in
    let rows = c.put_changes.ensures.rows ∙ ap (λ (t : TableState). rows_changed t.rows.rows c.into_vec.result.items) c.settle.ensures ∙ ap (rows_changed table.rows.rows) c.into_vec.ensures.items in
    record {
      owned = subst (λ flags. IsOwned flags c.put_changes.new.table.rows.rows) (sym (c.put_changes.ensures.exclusive ∙ ap (λ (t : TableState). t.exclusive) c.settle.ensures))
          (subst (λ rows. IsOwned table.exclusive rows) (sym rows) ready.owned);
      prepared = tt;
    }
