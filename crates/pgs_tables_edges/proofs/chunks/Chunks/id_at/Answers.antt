use Rattle.std.proofs.Common.{◌∙◌, length, Some, refl, ap, arith}
use Rattle.std.proofs.lemmas.Option.{slice_get-get_or}
use Rattle.pgs_tables_edges.specs.declared.chunks.Part.{Part}
use Rattle.pgs_tables_edges.proofs.Joined.{item_in}
use Rattle.pgs_tables_edges.specs.Numbers.{numbered}
use Rattle.pgs_tables_edges.proofs.chunks.Chunks.id_at.Goals as goal

pub overflow_sub-result : goal.overflow_sub-result
overflow_sub-result c =
    let starts = rw (← c.as_slice-parts.ensures.value) at c.self.invariant.placed.starts in
    (item_in (λ (part : Part). part.start) (λ part. part.first) (λ part. part.ids) _ _ _ starts c.part_at.ensures.in_range c.index-parts-part_at.is c.args.place c.part_at.ensures.before c.part_at.ensures.after).begun

pub bounds-as_slice-place : goal.bounds-as_slice-place
bounds-as_slice-place c =
    let starts = rw (← c.as_slice-parts.ensures.value) at c.self.invariant.placed.starts in
    let stands = item_in (λ (part : Part). part.start) (λ part. part.first) (λ part. part.ids) _ _ _ starts c.part_at.ensures.in_range c.index-parts-part_at.is c.args.place c.part_at.ensures.before c.part_at.ensures.after in
    rw c.as_slice.ensures stands.in_range

pub offset_bounds-as_slice-place : goal.offset_bounds-as_slice-place
offset_bounds-as_slice-place c =
    let starts = rw (← c.as_slice-parts.ensures.value) at c.self.invariant.placed.starts in
    let stands = item_in (λ (part : Part). part.start) (λ part. part.first) (λ part. part.ids) _ _ _ starts c.part_at.ensures.in_range c.index-parts-part_at.is c.args.place c.part_at.ensures.before c.part_at.ensures.after in
    omega (arith, stands.in_range, ap length c.as_slice.ensures)

pub returns : goal.returns
returns c =
    let starts = rw (← c.as_slice-parts.ensures.value) at c.self.invariant.placed.starts in
    let stands = item_in (λ (part : Part). part.start) (λ part. part.first) (λ part. part.ids) _ _ _ starts c.part_at.ensures.in_range c.index-parts-part_at.is c.args.place c.part_at.ensures.before c.part_at.ensures.after in
    slice_get-get_or c.args.self.now c.args.place (numbered 0) c.requires ∙ ap Some (rw (c.as_slice.ensures, stands.item (numbered 0), c.as_slice-parts.ensures.value, c.self.view_is) refl)
