use Rattle.std.proofs.Common.{◌≡◌, ◌∙◌, length, slice_get, Some, true≢false, refl, sym, ap, arith}
use Rattle.std.proofs.lemmas.List.{append-nil}
use Rattle.std.proofs.lemmas.Option.{slice_get_within}
use Rattle.pgs_tables_edges.specs.declared.chunks.Part.{Part}
use Rattle.pgs_tables_edges.proofs.Packed.{no_room, roomy_last}
use Rattle.pgs_tables_edges.proofs.chunks.builder.Builder.append_piece.Goals as goal

pub append_to_last-requires : goal.append_to_last-requires
append_to_last-requires c =
    let room = rw c.as_slice.ensures.value at c.if-is_roomy.ensures in
    record {
      room = omega (arith, roomy_last (λ (p : Part). p.ids) c.self.inside.parts.items (length c.args.ids.now) (room.0 refl), ap (λ b. b.last) c.self.view_is);
      left = c.requires.left;
    }

pub push_chunk-requires : goal.push_chunk-requires
push_chunk-requires c =
    let ids = c.args.ids.now in
    let begins : slice_get ids 0 ≡ Some c.in-Some.first.now = sym c.in-Some.ensures.value in
    let all : c.in_ok-chunk.chunk ≡ ids = c.in_ok-chunk.ensures.value ∙ append-nil ids in
    let same : length c.in_ok-chunk.chunk ≡ length ids = ap length all in
    let full = rw c.as_slice.ensures.value at c.if-is_roomy.ensures in
    let above = no_room (λ (p : Part). p.ids) c.self.inside.parts.items (length ids) (λ h. true≢false (sym (full.1 h))) (slice_get_within ids 0 c.in-Some.first.now begins) in
    record {
      begins = ap (λ l. slice_get l 0) all ∙ begins;
      small = omega (arith, same, c.requires.small);
      full = omega (arith, same, above, ap (λ b. b.last) c.self.view_is);
    }
