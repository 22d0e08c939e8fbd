use Rattle.std.proofs.Common.{◌≡◌, Bool, ◌||◌, ◌∙◌, get_or, sym, ap, subst}
use Rattle.std.specs.List.{list_any}
use Rattle.std.proofs.lemmas.List.{take_all}
use Rattle.std.proofs.lemmas.List.Folds.{list_any_more}
use Rattle.pgs_base.specs.declared.element.Elem.{Elem}
use Rattle.pgs_base.specs.declared.element.Elem.TheVariants.{Node}
use Rattle.pgs_keyindex.specs.Digests.{digest_of}
use Rattle.pgs_keyindex.specs.Rows.{has_value}
use Rattle.pgs_keyindex.specs.Table.{IsHeld, listed_at}
use Rattle.pgs_keyindex.proofs.Held.{none_has}
use Rattle.pgs_keyindex.proofs.table.KeyTable.owner.Goals as goal

pub returns : goal.returns
returns c elem =
    let table = c.args.self.now in
    let key = c.args.key in
    let tuple = c.args.tuple.now in
    let held = subst IsHeld c.self.view_is c.self.invariant in
    let elems = c.as_slice-elems.result.now in
    let is : elems ≡ listed_at table.holders.rows (digest_of table.seed key tuple) =
    c.as_slice-elems.ensures ∙ c.elements_at-lent.ensures ∙ ap (listed_at c.self.inside.holders.rows) c.of-digest.ensures
    ∙ ap (λ t. listed_at t.holders.rows (digest_of t.seed key tuple)) c.self.view_is in
    none_has table key tuple elem (held.held key tuple elem c.requires)
    (ap (list_any (λ other. has_value table.rows.rows key other tuple)) (sym (take_all c.loop-elem.elem-index elems c.loop-elem-test.false ∙ is)) ∙ c.loop-elem.invariant)

pub loop-elem-preserved : goal.loop-elem-preserved
loop-elem-preserved c =
    let elems = c.as_slice-elems.result.now in
    let test : Elem → Bool = λ other. has_value c.args.self.now.rows.rows c.args.key other c.args.tuple.now in
    list_any_more test elems c.loop-elem.elem-index (Node (record { 0 = 0 })) c.loop-elem-test.true
    ∙ ap (λ b. b || test (get_or elems c.loop-elem.elem-index (Node (record { 0 = 0 })))) c.loop-elem.invariant ∙ sym c.has_value.ensures ∙ c.if-has_value.false
