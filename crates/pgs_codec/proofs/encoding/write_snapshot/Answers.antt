use Rattle.std.proofs.Common.{◌≡◌, ℕ, List, ◌++◌, append_assoc}
use Rattle.std.specs.Int.{w64, to_be_bytes}
use Rattle.pgs_codec.specs.Payload.{nodes_field, edges_field}
use Rattle.pgs_codec.proofs.encoding.write_snapshot.Goals as goal

-- three parts, appended one after another
appended : (old a b c n₁ n₂ n₃ : List ℕ) → n₁ ≡ old ++ a → n₂ ≡ n₁ ++ b → n₃ ≡ n₂ ++ c → n₃ ≡ old ++ (a ++ (b ++ c))
appended old a b c n₁ n₂ n₃ h₁ h₂ h₃ = rw (h₃, h₂, h₁) (simp append_assoc)

pub returns-clause-bytes : goal.returns-clause-bytes
returns-clause-bytes c =
    appended c.args.out.now.items (to_be_bytes w64 c.args.commits) (nodes_field c.args.nodes.now) (edges_field c.args.edges.now) _ _ _
    (rw c.to_be_bytes.ensures at c.in_ok-extend_from_slice.ensures.items) c.in_ok-write_rows.ensures.bytes c.in_ok-write_rows-2.ensures.bytes
