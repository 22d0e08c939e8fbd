use Rattle.std.proofs.Common.{◌≡◌, ◌∙◌, length, slice_get, true≢false, refl, sym, ap, arith}
use Rattle.std.proofs.lemmas.Option.{slice_get_within}
use Rattle.pgs_tables_edges.specs.declared.chunks.Part.{Part}
use Rattle.pgs_tables_edges.proofs.Packed.{no_room, roomy_last}
use Rattle.pgs_tables_edges.proofs.chunks.builder.Builder.append_part.Goals as goal

pub append_to_last-requires : goal.append_to_last-requires
append_to_last-requires c =
    let room = rw (c.as_slice.ensures.value, c.len.ensures) at c.if-is_roomy.ensures in
    record {
      room = omega (arith, roomy_last (λ (p : Part). p.ids) c.self.inside.parts.items (length c.args.part.now.ids) (room.0 refl), ap (λ b. b.last) c.self.view_is, ap length c.as_slice-then-is_roomy.ensures);
      left = c.requires.left;
    }

pub returns-then-is_roomy-clause-shared : goal.returns-then-is_roomy-clause-shared
returns-then-is_roomy-clause-shared c = λ more.
    let room = rw (c.as_slice.ensures.value, c.len.ensures) at c.if-is_roomy.ensures in
    let fits = roomy_last (λ (p : Part). p.ids) c.self.inside.parts.items (length c.args.part.now.ids) (room.0 refl) in
    absurd (omega (arith, fits, more, ap (λ b. b.last) c.self.view_is))

pub push_chunk-requires : goal.push_chunk-requires
push_chunk-requires c =
    let ids = c.args.part.now.ids in
    let same : length c.in_ok-chunk.chunk ≡ length ids = ap length c.in_ok-chunk.ensures in
    let full = rw (c.as_slice.ensures.value, c.len.ensures) at c.if-is_roomy.ensures in
    let above = no_room (λ (p : Part). p.ids) c.self.inside.parts.items (length ids) (λ h. true≢false (sym (full.1 h))) (slice_get_within ids 0 c.args.part.now.first c.requires.first) in
    record {
      begins = ap (λ l. slice_get l 0) c.in_ok-chunk.ensures ∙ c.requires.first;
      small = omega (arith, same, c.requires.small);
      full = omega (arith, same, above, ap (λ b. b.last) c.self.view_is);
    }
