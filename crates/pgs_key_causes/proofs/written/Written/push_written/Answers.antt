use Rattle.std.proofs.Common.{◌≡◌, ◌++◌, List, map, OnOk, sym, ap, subst, ◌∙◌}
use Rattle.std.specs.Option.{option_copied}
use Rattle.std.proofs.lemmas.List.{append-nil}
use Rattle.pgs_base.proofs.Items.{item_read}
use Rattle.pgs_syntax.specs.declared.pattern.Atom.{Atom}
use Rattle.pgs_resolve_keys.specs.Placed.{placed}
use Rattle.pgs_key_causes.specs.Fronts.{Descriptor}
use Rattle.pgs_key_causes.proofs.Places.{written_at, none_written}
use Rattle.pgs_key_causes.proofs.written.Written.push_written.Goals as goal

pub returns-in-Some : goal.returns-in-Some
returns-in-Some c =
    let P : List Atom → Type 0 = λ more. OnOk c.push_place.result (c.push_place.new.atoms.items ≡ c.args.atoms.now.items ++ more) in
    subst P
    (written_at c.args.numbering.now c.args.self.now c.deref.result.now c.args.vars.now c.args.place c.in_ok-number.number c.in-Some.written.now
    (ap (λ (d : Descriptor). d.places) (sym c.self.view_is) ∙ ap (map placed) (sym c.deref.ensures.value))
    (sym (item_read c.deref.result.now c.args.place c.get.result c.get.ensures.lookup) ∙ ap option_copied c.in-Some.is) c.in_ok-number.ensures)
    c.push_place.ensures

pub returns-in-None : goal.returns-in-None
returns-in-None c =
    sym (ap (λ more. c.args.atoms.now.items ++ more)
    (none_written c.args.numbering.now c.args.self.now c.deref.result.now c.args.vars.now c.args.place
    (ap (λ (d : Descriptor). d.places) (sym c.self.view_is) ∙ ap (map placed) (sym c.deref.ensures.value))
    (sym (item_read c.deref.result.now c.args.place c.get.result c.get.ensures.lookup) ∙ ap option_copied c.in-None.is))
    ∙ append-nil c.args.atoms.now.items)
