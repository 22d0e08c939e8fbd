use Rattle.std.proofs.Common.{◌∙◌, ap, sym, is_le}
use Rattle.std.specs.List.{find}
use Rattle.std.specs.Map.{keys_of}
use Rattle.pgs_base_keyed.specs.Form.{form_rows}
use Rattle.pgs_base_keyed.proofs.First.{first_of_part, none_of_part}
use Rattle.pgs_base_keyed.proofs.keyed.Keyed.first_from.Goals as goal

pub returns-in-Some : goal.returns-in-Some
returns-in-Some g c =
    let compare = g.K.Ord.cmp c.args.start.now in
    let same = sym (ap form_rows c.in-Many.is) ∙ c.self.view_is in
    first_of_part compare c.in-Many.map.entries (c.in-Some.key.now, c.in-Some.field-0-1.now) c.next.new.self
    (sym (c.range.ensures.between tt) ∙ c.in-Some.ensures.steps)
    ∙ ap (λ rows. find (λ key. is_le (compare key)) (keys_of rows)) same

pub returns-in-None : goal.returns-in-None
returns-in-None g c =
    let compare = g.K.Ord.cmp c.args.start.now in
    let same = sym (ap form_rows c.in-Many.is) ∙ c.self.view_is in
    none_of_part compare c.in-Many.map.entries (sym (c.range.ensures.between tt) ∙ c.in-None.ensures.steps.0)
    ∙ ap (λ rows. find (λ key. is_le (compare key)) (keys_of rows)) same
