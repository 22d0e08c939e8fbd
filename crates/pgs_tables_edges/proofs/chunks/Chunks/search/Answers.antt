use Rattle.std.proofs.Common.{length, Some, ◌∙◌, ap, arith}
use Rattle.std.proofs.lemmas.Option.{slice_get-get_or}
use Rattle.std.specs.List.{flat_map}
use Rattle.pgs_tables_edges.specs.declared.chunks.Part.{Part}
use Rattle.pgs_tables_edges.specs.Numbers.{numbered}
use Rattle.pgs_tables_edges.proofs.Searched.{key_between, between_none}
use Rattle.pgs_tables_edges.proofs.PartSearched.{found_in, parted_in}
use Rattle.pgs_tables_edges.proofs.chunks.Chunks.search.Goals as goal

pub returns-then-self-eq0-clause-there : goal.returns-then-self-eq0-clause-there
returns-then-self-eq0-clause-there c =
    key_between c.args.id c.args.self.now 0 c.requires (between_none c.args.id c.args.self.now (omega (arith, c.self.invariant.placed.counted, ap length c.self.view_is)))

pub returns-then-self-eq0-clause-between : goal.returns-then-self-eq0-clause-between
returns-then-self-eq0-clause-between c = between_none c.args.id c.args.self.now (omega (arith, c.self.invariant.placed.counted, ap length c.self.view_is))

pub overflow_add-result : goal.overflow_add-result
overflow_add-result c =
    let starts = rw (← c.as_slice-parts.ensures.value) at c.self.invariant.placed.starts in
    let up = rw (← c.self.view_is, ← c.as_slice-parts.ensures.value) at c.requires in
    let found = found_in (λ (p : Part). p.start) (λ p. p.first) (λ p. p.ids) c.args.id _ up _ _ starts c.part_for.ensures.in_range c.index-parts-part_for.is c.in-Ok.place (rw c.as_slice.ensures at c.in-Ok.ensures.position) in
    omega (arith, found.0, c.self.invariant.placed.counted, ap (λ l. length (flat_map (λ (p : Part). p.ids) l)) c.as_slice-parts.ensures.value)

pub overflow_add-result-in-Err : goal.overflow_add-result-in-Err
overflow_add-result-in-Err c =
    let starts = rw (← c.as_slice-parts.ensures.value) at c.self.invariant.placed.starts in
    let up = rw (← c.self.view_is, ← c.as_slice-parts.ensures.value) at c.requires in
    let parted = parted_in (λ (p : Part). p.start) (λ p. p.first) (λ p. p.ids) c.args.id _ up _ _ starts c.part_for.ensures.in_range c.index-parts-part_for.is c.in-Err.place (rw c.as_slice.ensures at c.in-Err.ensures.position) c.part_for.ensures.below c.part_for.ensures.above in
    omega (arith, parted.in_range, c.self.invariant.placed.counted, ap (λ l. length (flat_map (λ (p : Part). p.ids) l)) c.as_slice-parts.ensures.value)

pub returns-in-Ok-clause-there : goal.returns-in-Ok-clause-there
returns-in-Ok-clause-there c =
    let starts = rw (← c.as_slice-parts.ensures.value) at c.self.invariant.placed.starts in
    let up = rw (← c.self.view_is, ← c.as_slice-parts.ensures.value) at c.requires in
    let found = found_in (λ (p : Part). p.start) (λ p. p.first) (λ p. p.ids) c.args.id _ up _ _ starts c.part_for.ensures.in_range c.index-parts-part_for.is c.in-Ok.place (rw c.as_slice.ensures at c.in-Ok.ensures.position) in
    rw (← c.self.view_is, ← c.as_slice-parts.ensures.value) found.2

pub returns-in-Ok-clause-found : goal.returns-in-Ok-clause-found
returns-in-Ok-clause-found c =
    let starts = rw (← c.as_slice-parts.ensures.value) at c.self.invariant.placed.starts in
    let up = rw (← c.self.view_is, ← c.as_slice-parts.ensures.value) at c.requires in
    let found = found_in (λ (p : Part). p.start) (λ p. p.first) (λ p. p.ids) c.args.id _ up _ _ starts c.part_for.ensures.in_range c.index-parts-part_for.is c.in-Ok.place (rw c.as_slice.ensures at c.in-Ok.ensures.position) in
    rw (← c.self.view_is, ← c.as_slice-parts.ensures.value) (slice_get-get_or _ _ (numbered 0) found.0 ∙ ap (λ n. Some (numbered n)) found.1)

pub returns-in-Ok-clause-small : goal.returns-in-Ok-clause-small
returns-in-Ok-clause-small c =
    let starts = rw (← c.as_slice-parts.ensures.value) at c.self.invariant.placed.starts in
    let up = rw (← c.self.view_is, ← c.as_slice-parts.ensures.value) at c.requires in
    let found = found_in (λ (p : Part). p.start) (λ p. p.first) (λ p. p.ids) c.args.id _ up _ _ starts c.part_for.ensures.in_range c.index-parts-part_for.is c.in-Ok.place (rw c.as_slice.ensures at c.in-Ok.ensures.position) in
    omega (arith, found.0, c.self.invariant.placed.counted, ap (λ l. length (flat_map (λ (p : Part). p.ids) l)) c.as_slice-parts.ensures.value)

pub returns-in-Err-clause-there : goal.returns-in-Err-clause-there
returns-in-Err-clause-there c =
    let starts = rw (← c.as_slice-parts.ensures.value) at c.self.invariant.placed.starts in
    let up = rw (← c.self.view_is, ← c.as_slice-parts.ensures.value) at c.requires in
    let parted = parted_in (λ (p : Part). p.start) (λ p. p.first) (λ p. p.ids) c.args.id _ up _ _ starts c.part_for.ensures.in_range c.index-parts-part_for.is c.in-Err.place (rw c.as_slice.ensures at c.in-Err.ensures.position) c.part_for.ensures.below c.part_for.ensures.above in
    rw (← c.self.view_is, ← c.as_slice-parts.ensures.value) (key_between c.args.id _ _ up parted)

pub returns-in-Err-clause-between : goal.returns-in-Err-clause-between
returns-in-Err-clause-between c =
    let starts = rw (← c.as_slice-parts.ensures.value) at c.self.invariant.placed.starts in
    let up = rw (← c.self.view_is, ← c.as_slice-parts.ensures.value) at c.requires in
    let parted = parted_in (λ (p : Part). p.start) (λ p. p.first) (λ p. p.ids) c.args.id _ up _ _ starts c.part_for.ensures.in_range c.index-parts-part_for.is c.in-Err.place (rw c.as_slice.ensures at c.in-Err.ensures.position) c.part_for.ensures.below c.part_for.ensures.above in
    rw (← c.self.view_is, ← c.as_slice-parts.ensures.value) parted
