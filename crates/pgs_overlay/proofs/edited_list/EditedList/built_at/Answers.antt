use Rattle.std.proofs.Common.{◌∙◌, ◌+◌, ◌-◌, min, get_or, ap}
use Rattle.std.specs.List.{slice_get}
use Rattle.pgs_overlay.proofs.Standing.{in_part, read_range, read_added, unread}
use Rattle.pgs_overlay.proofs.edited_list.EditedList.built_at.Goals as goal

pub overflow_sub-place : goal.overflow_sub-place
overflow_sub-place g c =
    (in_part c.args.base.now c.args.self.now c.as_slice-parts.result.now c.as_slice-parts.ensures.value c.requires.stands c.args.place c.requires.within
    c.part_at.result c.part_at.ensures).begun

pub returns-in-Range-clause-value : goal.returns-in-Range-clause-value
returns-in-Range-clause-value g c =
    let inside = in_part c.args.base.now c.args.self.now c.as_slice-parts.result.now c.as_slice-parts.ensures.value c.requires.stands c.args.place
    c.requires.within c.part_at.result c.part_at.ensures in
    c.at.ensures.value ∙ ap (λ n. slice_get c.args.base.now (c.in-Range.from + n)) c.min-offset.ensures
    ∙ ap (λ n. slice_get c.args.base.now (c.in-Range.from + min (c.args.place - (get_or c.as_slice-parts.result.now c.part_at.result unread).start) n)) c.saturating_sub.ensures
    ∙ read_range c.args.base.now c.args.self.now _ c.args.place c.in-Range.from c.in-Range.to inside c.in-Range.is

pub returns-in-Added-clause-value : goal.returns-in-Added-clause-value
returns-in-Added-clause-value g c =
    let inside = in_part c.args.base.now c.args.self.now c.as_slice-parts.result.now c.as_slice-parts.ensures.value c.requires.stands c.args.place
    c.requires.within c.part_at.result c.part_at.ensures in
    read_added c.args.base.now c.args.self.now _ c.args.place c.in-Added.edge inside c.in-Added.is
