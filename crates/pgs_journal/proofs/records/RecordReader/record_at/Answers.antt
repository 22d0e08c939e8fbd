use Rattle.std.proofs.Common.{◌+◌, ◌++◌, ◌∷◌, [], sym, ◌∙◌, ap, subst, arith}
use Rattle.pgs_world.specs.Answers.{Read}
use Rattle.pgs_journal.specs.Area.{is_fit}
use Rattle.pgs_journal.specs.Format.{field_bytes}
use Rattle.pgs_journal.specs.Seen.{AreShown}
use Rattle.pgs_journal.proofs.Stepping.{torn_unsound, record_read, unfit_settled}
use Rattle.pgs_journal.proofs.Telling.{length_still, shown_back, stand_shown}
use Rattle.pgs_journal.proofs.records.RecordReader.record_at.Goals as goal

pub payload_at-requires-clause-inside : goal.payload_at-requires-clause-inside
payload_at-requires-clause-inside g c = λ told.
    let size = rw c.in-Some.is at c.in_ok-size.ensures.size in
    let view = g.W.World.view c.args.world.now in
    let mid = g.W.World.view c.size_at.new.world in
    omega (arith, size.0, length_still view mid c.args.self.now.area c.size_at.new.known c.size_at.ensures.quiet c.size_at.ensures.len told, c.field_bytes.ensures)

pub returns-in_default-clause-record : goal.returns-in_default-clause-record
returns-in_default-clause-record g c =
    let self = c.args.self.now in
    torn_unsound g.W.World.answered (g.W.World.view c.args.world.now) self.area c.args.at self.format c.args.number c.args.world.now c.size_at.new.world self.epoch (rw c.in_default.is at c.in_ok-size.ensures.size)

pub returns-then-branch-clause-record : goal.returns-then-branch-clause-record
returns-then-branch-clause-record g c =
    let view = g.W.World.view c.args.world.now in
    let mid = g.W.World.view c.size_at.new.world in
    let self = c.args.self.now in
    let payload = c.in_ok-payload.payload in
    let gate = c.in_ok-payload.gate in
    let read = c.in_ok-payload.ensures in
    let size = rw c.in-Some.is at c.in_ok-size.ensures.size in
    record_read g.W.World.answered view self.area c.args.at self.format c.args.number c.in-Some.size c.args.world.now c.size_at.new.world c.payload_at.new.world payload gate read.size (omega (arith, size.0, c.size_at.ensures.limit)) size.1
    (subst (λ n. g.W.World.answered c.size_at.new.world self.area (Read (c.args.at + n) (payload ++ gate ∷ [])) c.payload_at.new.world) c.field_bytes.ensures read.answered)
    (shown_back view mid self.area (Read (c.args.at + field_bytes self.format) (payload ++ gate ∷ []) ∷ []) c.size_at.ensures.quiet
    (subst (λ n. AreShown mid self.area (Read (c.args.at + n) (payload ++ gate ∷ []) ∷ [])) c.field_bytes.ensures (stand_shown mid self.area (c.args.at + c.field_bytes.result) (payload ++ gate ∷ []) read.stand))) self.epoch
    (ap (is_fit self.format self.epoch c.args.number) (sym c.as_slice.ensures) ∙ sym c.in_ok-fits.ensures ∙ c.if-branch.true)

pub returns-else-branch-clause-record : goal.returns-else-branch-clause-record
returns-else-branch-clause-record g c =
    let view = g.W.World.view c.args.world.now in
    let mid = g.W.World.view c.size_at.new.world in
    let self = c.args.self.now in
    let payload = c.in_ok-payload.payload in
    let gate = c.in_ok-payload.gate in
    let read = c.in_ok-payload.ensures in
    let size = rw c.in-Some.is at c.in_ok-size.ensures.size in
    unfit_settled g.W.World.answered view self.area c.args.at self.format c.args.number c.in-Some.size c.args.world.now c.size_at.new.world c.payload_at.new.world payload gate read.size (omega (arith, size.0, c.size_at.ensures.limit)) size.1
    (subst (λ n. g.W.World.answered c.size_at.new.world self.area (Read (c.args.at + n) (payload ++ gate ∷ [])) c.payload_at.new.world) c.field_bytes.ensures read.answered)
    (shown_back view mid self.area (Read (c.args.at + field_bytes self.format) (payload ++ gate ∷ []) ∷ []) c.size_at.ensures.quiet
    (subst (λ n. AreShown mid self.area (Read (c.args.at + n) (payload ++ gate ∷ []) ∷ [])) c.field_bytes.ensures (stand_shown mid self.area (c.args.at + c.field_bytes.result) (payload ++ gate ∷ []) read.stand))) self.epoch
    (omega arith) (ap (is_fit self.format self.epoch c.args.number) (sym c.as_slice.ensures) ∙ sym c.in_ok-fits.ensures ∙ c.if-branch.false)
