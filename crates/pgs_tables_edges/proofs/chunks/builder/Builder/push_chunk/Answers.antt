use Rattle.std.proofs.Common.{refl, ap, arith}
use Rattle.pgs_tables_edges.specs.declared.chunks.Part.{Part}
use Rattle.pgs_tables_edges.proofs.Joined.{placed_push}
use Rattle.pgs_tables_edges.proofs.Packed.{packed_push, last-push}
use Rattle.pgs_tables_edges.proofs.chunks.builder.Builder.push_chunk.Goals as goal

pub invariant_of-self-2 : goal.invariant_of-self-2
invariant_of-self-2 c =
    let part : Part = record { start = c.self.inside.len; first = c.args.first; ids = c.args.ids } in
    rw c.in_ok-push.ensures.items (record {
      placed = placed_push (λ (p : Part). p.start) (λ p. p.first) (λ p. p.ids) c.self.inside.len c.in-Some.len c.self.inside.parts.items part c.self.invariant.placed refl c.requires.begins (omega (arith, c.in-Some.ensures, c.len.ensures));
      packed = packed_push (λ (p : Part). p.ids) 1024 c.self.inside.parts.items part c.self.invariant.packed c.requires.small (omega (arith, c.requires.full, ap (λ b. b.last) c.self.view_is));
    })

pub returns-clause-last : goal.returns-clause-last
returns-clause-last c =
    let part : Part = record { start = c.self.inside.len; first = c.args.first; ids = c.args.ids } in
    rw c.in_ok-push.ensures.items (last-push (λ (p : Part). p.ids) 1024 c.self.inside.parts.items part)
