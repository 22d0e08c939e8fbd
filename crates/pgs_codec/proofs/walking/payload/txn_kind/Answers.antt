use Rattle.std.proofs.Common.{◌≡◌, ℕ, List, Option, ◌∙◌, sym, ap}
use Rattle.pgs_codec.specs.Reading.{txn_at}
use Rattle.pgs_codec.specs.Unread.{end_of}
use Rattle.pgs_codec.proofs.Walked.{txn_ended}
use Rattle.pgs_codec.proofs.walking.payload.txn_kind.Goals as goal

-- a walk over all bytes ends where it does there
ends : (ops rest : List ℕ) → rest ≡ ops → (o : Option (List ℕ)) → end_of (txn_at rest) ≡ o → end_of (txn_at ops) ≡ o
ends ops rest e o h = ap (λ l. end_of (txn_at l)) (sym e) ∙ h

pub returns-then-is_empty : goal.returns-then-is_empty
returns-then-is_empty c =
    sym (txn_ended c.args.ops.now c.walk_txn.new.reader.rest.now (ends c.args.ops.now _ c.new-reader.ensures _ c.in-Ok.ensures) (sym c.is_empty.ensures ∙ c.if-is_empty.true))
