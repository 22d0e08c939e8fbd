use Rattle.std.proofs.Common.{◌≡◌, Some, None, sym, ap, ◌∙◌}
use Rattle.std.specs.List.{slice_get}
use Rattle.std.specs.Option.{option_copied}
use Rattle.std.proofs.lemmas.Result.{IfOk-weaker}
use Rattle.pgs_base.proofs.Items.{item_read}
use Rattle.pgs_key_causes.specs.Causes.{written_keys}
use Rattle.pgs_key_causes.proofs.Ends.{guided_valid, guided_key, of_number, no_number, no_key, no_parts}
use Rattle.pgs_key_causes.proofs.guide.KeyGuide.ends.Goals as goal

pub ends_of-requires : goal.ends_of-requires
ends_of-requires g c =
    guided_valid c.args.compiled.now c.args.self.now c.in-Some.place c.in-Some-get.key.now.now c.resolved-facts.ensures.valid c.requires
    (guided_key c.args.self.now c.deref.result.now c.in-Some.place (Some c.in-Some-get.key.now) c.deref.ensures.value
    (sym (item_read c.deref.result.now c.in-Some.place c.get.result c.get.ensures.lookup) ∙ ap option_copied c.in-Some-get.is))

pub returns-clause-texts : goal.returns-clause-texts
returns-clause-texts g c =
    let key_is : slice_get (written_keys c.args.self.now) c.in-Some.place ≡ Some c.in-Some-get.key.now.now =
    guided_key c.args.self.now c.deref.result.now c.in-Some.place (Some c.in-Some-get.key.now) c.deref.ensures.value
    (sym (item_read c.deref.result.now c.in-Some.place c.get.result c.get.ensures.lookup) ∙ ap option_copied c.in-Some-get.is) in
    IfOk-weaker c.ends_of.result _ _
    (λ told e. of_number c.args.compiled.now (g.G.GraphRead.meaning c.args.graph.now) c.args.elem told.items c.args.self.now c.args.number c.in-Some.place
    c.in-Some-get.key.now.now c.in-Some-at.parts.now (sym c.in-Some.ensures) key_is (sym c.in-Some-at.ensures.value) e)
    c.ends_of.ensures.texts

pub returns-in_default-clause-texts : goal.returns-in_default-clause-texts
returns-in_default-clause-texts g c =
    no_number c.args.compiled.now (g.G.GraphRead.meaning c.args.graph.now) c.args.elem c.new.result.items c.args.self.now c.args.number (sym c.in_default.ensures) c.new.ensures.items

pub returns-in_default-get-clause-texts : goal.returns-in_default-get-clause-texts
returns-in_default-get-clause-texts g c =
    no_key c.args.compiled.now (g.G.GraphRead.meaning c.args.graph.now) c.args.elem c.new-in_default-get.result.items c.args.self.now c.args.number c.in-Some.place
    (sym c.in-Some.ensures)
    (guided_key c.args.self.now c.deref.result.now c.in-Some.place None c.deref.ensures.value
    (sym (item_read c.deref.result.now c.in-Some.place c.get.result c.get.ensures.lookup) ∙ ap option_copied c.in_default-get.is))
    c.new-in_default-get.ensures.items

pub returns-in_default-at-clause-texts : goal.returns-in_default-at-clause-texts
returns-in_default-at-clause-texts g c =
    no_parts c.args.compiled.now (g.G.GraphRead.meaning c.args.graph.now) c.args.elem c.new-in_default-at.result.items c.args.self.now c.args.number c.in-Some.place
    c.in-Some-get.key.now.now (sym c.in-Some.ensures)
    (guided_key c.args.self.now c.deref.result.now c.in-Some.place (Some c.in-Some-get.key.now) c.deref.ensures.value
    (sym (item_read c.deref.result.now c.in-Some.place c.get.result c.get.ensures.lookup) ∙ ap option_copied c.in-Some-get.is))
    (sym c.in_default-at.ensures.value) c.new-in_default-at.ensures.items
