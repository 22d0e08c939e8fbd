use Rattle.std.proofs.Common.{◌≡◌, ℕ, ◌+◌, ◌≤◌, ◌∙◌, List, [], ◌∷◌, ◌++◌, length, refl, ap, arith, length-append}
use Rattle.pgs_tables_edges.specs.declared.chunks.Part.{Part}
use Rattle.pgs_tables_edges.specs.Packed.{last_count}
use Rattle.pgs_tables_edges.proofs.Joined.{placed_pop, placed_joined}
use Rattle.pgs_tables_edges.proofs.Packed.{packed_pop, packed_joined, last-push}
use Rattle.pgs_tables_edges.proofs.chunks.builder.Builder.append_to_last.Goals as goal

-- the last part has room
has_room : (all xs : List Part) (last : Part) (more : ℕ) → all ≡ xs ++ last ∷ [] → last_count (λ (p : Part). p.ids) 1024 all + more ≤ 1024 → length last.ids + more ≤ 1024
has_room all xs last more e room = omega (arith, room, ap (last_count (λ (p : Part). p.ids) 1024) e, last-push (λ (p : Part). p.ids) 1024 xs last)

pub copied-requires : goal.copied-requires
copied-requires c =
    let room = has_room c.self.inside.parts.items c.pop.new.self.items c.in-Some-pop.last (length c.args.ids.now) c.in-Some-pop.ensures.items (omega (arith, c.requires.room, ap (λ b. b.last) c.self.view_is)) in
    omega (arith, room, c.requires.left, ap length c.as_slice.ensures)

pub invariant_of-self-in_err-ids : goal.invariant_of-self-in_err-ids
invariant_of-self-in_err-ids c =
    let before = rw c.in-Some-pop.ensures.items at c.self.invariant in
    record {
      placed = placed_pop (λ (p : Part). p.start) (λ p. p.first) (λ p. p.ids) c.self.inside.len c.pop.new.self.items c.in-Some-pop.last before.placed;
      packed = (packed_pop (λ (p : Part). p.ids) 1024 c.pop.new.self.items c.in-Some-pop.last before.packed).0;
    }

pub invariant_of-self-2 : goal.invariant_of-self-2
invariant_of-self-2 c =
    let xs = c.pop.new.self.items in
    let last = c.in-Some-pop.last in
    let joined : Part = record { start = last.start; first = last.first; ids = c.in_ok-ids.ids } in
    let before = rw c.in-Some-pop.ensures.items at c.self.invariant in
    let all : c.in_ok-ids.ids ≡ last.ids ++ c.args.ids.now = c.in_ok-ids.ensures.value ∙ ap (λ l. l ++ c.args.ids.now) c.as_slice.ensures in
    let longer : length c.in_ok-ids.ids ≡ length last.ids + length c.args.ids.now = ap length all ∙ length-append last.ids c.args.ids.now in
    let room = has_room c.self.inside.parts.items xs last (length c.args.ids.now) c.in-Some-pop.ensures.items (omega (arith, c.requires.room, ap (λ b. b.last) c.self.view_is)) in
    rw c.in_ok-push.ensures.items (record {
      placed = placed_joined (λ (p : Part). p.start) (λ p. p.first) (λ p. p.ids) c.self.inside.len c.in-Some.len xs last joined c.args.ids.now before.placed refl refl all (omega (arith, c.in-Some.ensures));
      packed = packed_joined (λ (p : Part). p.ids) 1024 xs last joined before.packed (omega (arith, longer)) (omega (arith, longer, room));
    })

pub returns-in_err-ids-clause-copies : goal.returns-in_err-ids-clause-copies
returns-in_err-ids-clause-copies c =
    let room = has_room c.self.inside.parts.items c.pop.new.self.items c.in-Some-pop.last (length c.args.ids.now) c.in-Some-pop.ensures.items (omega (arith, c.requires.room, ap (λ b. b.last) c.self.view_is)) in
    omega (arith, room, c.copied.ensures.copies, ap length c.as_slice.ensures)

pub returns-in_err-push-clause-copies : goal.returns-in_err-push-clause-copies
returns-in_err-push-clause-copies c =
    let room = has_room c.self.inside.parts.items c.pop.new.self.items c.in-Some-pop.last (length c.args.ids.now) c.in-Some-pop.ensures.items (omega (arith, c.requires.room, ap (λ b. b.last) c.self.view_is)) in
    omega (arith, room, c.copied.ensures.copies, ap length c.as_slice.ensures)

pub returns-clause-copies : goal.returns-clause-copies
returns-clause-copies c =
    let room = has_room c.self.inside.parts.items c.pop.new.self.items c.in-Some-pop.last (length c.args.ids.now) c.in-Some-pop.ensures.items (omega (arith, c.requires.room, ap (λ b. b.last) c.self.view_is)) in
    omega (arith, room, c.copied.ensures.copies, ap length c.as_slice.ensures)

pub returns-clause-last : goal.returns-clause-last
returns-clause-last c =
    let last = c.in-Some-pop.last in
    let joined : Part = record { start = last.start; first = last.first; ids = c.in_ok-ids.ids } in
    rw c.in_ok-push.ensures.items (omega (arith, last-push (λ (p : Part). p.ids) 1024 c.pop.new.self.items joined, ap length c.in_ok-ids.ensures.value, length-append c.as_slice.result.now c.args.ids.now))
