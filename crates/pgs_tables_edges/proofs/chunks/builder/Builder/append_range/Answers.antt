use Rattle.std.proofs.Common.{◌-◌, ◌++◌, ◌≤◌, ◌∙◌, length, refl, sym, ap, subst, arith, take, append_assoc}
use Rattle.std.specs.List.{flat_map}
use Rattle.pgs_tables_edges.specs.declared.chunks.Part.{Part}
use Rattle.pgs_tables_edges.proofs.Counted.{counted_left, counted_more}
use Rattle.pgs_tables_edges.proofs.Joined.{range, range_more, range_all, start_is, end_is, first_item}
use Rattle.pgs_tables_edges.proofs.Packed.{packed_small}
use Rattle.pgs_tables_edges.proofs.chunks.builder.Builder.append_range.Goals as goal

pub append_cut-requires : goal.append_cut-requires
append_cut-requires c =
    let xs = c.as_slice-parts.result.now in
    let part = c.index-parts-next-in-loop-next.result in
    let starts = rw (← c.as_slice-parts.ensures.value) at c.other.invariant.placed.starts in
    let packed = rw (← c.as_slice-parts.ensures.value) at c.other.invariant.packed in
    let small = packed_small (λ (p : Part). p.ids) 1024 xs c.loop-next.next part c.loop-next-test.true packed in
    let begins = start_is (λ (p : Part). p.start) (λ p. p.first) (λ p. p.ids) xs c.loop-next.next c.index-parts-next.result starts c.loop-next-test.true c.index-parts-next.is in
    record {
      first = first_item (λ (p : Part). p.start) (λ p. p.first) (λ p. p.ids) xs c.loop-next.next part starts c.loop-next-test.true c.index-parts-next-in-loop-next.is;
      small = subst (λ (p : Part). length p.ids ≤ 1024) (sym c.index-parts-next-in-loop-next.is) small;
      left = counted_left (λ (p : Part). p.ids) xs _ c.loop-next.next c.args.range.0 c.args.range.1 c.args.copies.now c.loop-next.copies c.loop-next.self.last c.loop-next.invariant.counted (omega (arith, c.requires)) (omega (arith, begins, c.if-parts-next.true, ap (λ (p : Part). p.start) c.index-parts-next.is));
    }

pub loop-next-preserved : goal.loop-next-preserved
loop-next-preserved c =
    let xs = c.as_slice-parts.result.now in
    let i = c.loop-next.next in
    let part = c.index-parts-next-in-loop-next.result in
    let from = c.args.range.0 in
    let to = c.args.range.1 in
    let starts = rw (← c.as_slice-parts.ensures.value) at c.other.invariant.placed.starts in
    let packed = rw (← c.as_slice-parts.ensures.value) at c.other.invariant.packed in
    let more = range_more (λ (p : Part). p.start) (λ p. p.first) (λ p. p.ids) xs i part starts c.loop-next-test.true c.index-parts-next-in-loop-next.is from to in
    let begins = start_is (λ (p : Part). p.start) (λ p. p.first) (λ p. p.ids) xs i part starts c.loop-next-test.true c.index-parts-next-in-loop-next.is in
    let ends = end_is (λ (p : Part). p.start) (λ p. p.first) (λ p. p.ids) xs i part starts c.loop-next-test.true c.index-parts-next-in-loop-next.is in
    let read = start_is (λ (p : Part). p.start) (λ p. p.first) (λ p. p.ids) xs i c.index-parts-next.result starts c.loop-next-test.true c.index-parts-next.is in
    record {
      in_range = omega arith;
      appended = rw (c.in_ok-append_cut.ensures.ids, c.loop-next.invariant.appended, c.saturating_sub.ensures, c.saturating_sub-in-loop-next.ensures, more) (append_assoc c.args.self.now.ids (range from to (flat_map (λ (p : Part). p.ids) (take i xs))) (range (from - part.start) (to - part.start) part.ids));
      counted = counted_more (λ (p : Part). p.ids) xs _ i from to c.args.copies.now c.loop-next.copies c.loop-next.self.last c.loop-next.invariant.counted
          part c.loop-next-test.true c.index-parts-next-in-loop-next.is packed (omega (arith, read, c.if-parts-next.true, ap (λ (p : Part). p.start) c.index-parts-next.is)) (omega (arith, begins, ends)) c.part_at-begin.ensures.after
          c.append_cut.new.copies c.append_cut.new.self.last c.in_ok-append_cut.ensures.copies
          (λ front back full. c.in_ok-append_cut.ensures.shared (omega (arith, front, begins, c.saturating_sub.ensures)) (omega (arith, back, begins, c.saturating_sub-in-loop-next.ensures)) full)
          (λ front back. c.in_ok-append_cut.ensures.last (omega (arith, front, begins, c.saturating_sub.ensures)) (omega (arith, back, begins, c.saturating_sub-in-loop-next.ensures)));
    }

pub returns-else-parts-next-clause-ids : goal.returns-else-parts-next-clause-ids
returns-else-parts-next-clause-ids c =
    let xs = c.as_slice-parts.result.now in
    let i = c.loop-next.next in
    let starts = rw (← c.as_slice-parts.ensures.value) at c.other.invariant.placed.starts in
    let begins = start_is (λ (p : Part). p.start) (λ p. p.first) (λ p. p.ids) xs i c.index-parts-next.result starts c.loop-next-test.true c.index-parts-next.is in
    let read = ap (λ (p : Part). p.start) c.index-parts-next.is in
    let all = range_all (λ (p : Part). p.start) (λ p. p.first) (λ p. p.ids) c.args.range.0 c.args.range.1 xs i (omega (arith, begins, read)) in
    c.loop-next.invariant.appended ∙ ap (λ l. c.args.self.now.ids ++ l) (all ∙ rw (c.as_slice-parts.ensures.value, c.other.view_is) refl)
