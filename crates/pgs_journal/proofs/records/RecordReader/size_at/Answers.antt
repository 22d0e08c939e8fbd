use Rattle.std.proofs.Common.{ℕ, ◌+◌, ◌≤◌, ◌<◌, [], ◌∷◌, sym, ◌∙◌, subst, arith, length-take}
use Rattle.pgs_world.specs.Answers.{Read}
use Rattle.pgs_world.proofs.Moments.{quiet_on}
use Rattle.pgs_journal.specs.Seen.{IsTorn, IsTold}
use Rattle.pgs_journal.proofs.Stepping.{beyond, is_inside, few_fields, few_settled, fields_told, other_settled, size_told, long_settled}
use Rattle.pgs_journal.proofs.Telling.{shown_back, read_shown, asked_back}
use Rattle.pgs_journal.proofs.records.RecordReader.size_at.Goals as goal

pub returns-then-not-branch-clause-size : goal.returns-then-not-branch-clause-size
returns-then-not-branch-clause-size g c =
    let self = c.args.self.now in
    let asked = c.in_ok-reaches.ensures in
    let few : c.reaches.new.known ≤ c.args.at + c.field_bytes.result = beyond (c.args.at + c.field_bytes.result) c.reaches.new.known (sym asked.within ∙ c.if-not-branch.true) in
    few_settled g.W.World.answered (g.W.World.view c.args.world.now) self.area c.args.at self.format c.args.number c.args.world.now c.reaches.new.world c.reaches.new.known c.in_ok-reaches.field-0 asked.asked c.if-not-branch.true
    c.requires.at (omega (arith, few, c.field_bytes.ensures))

pub returns-in_default-clause-size : goal.returns-in_default-clause-size
returns-in_default-clause-size g c =
    let self = c.args.self.now in
    let view = g.W.World.view c.args.world.now in
    let mid = g.W.World.view c.reaches.new.world in
    let asked = c.in_ok-reaches.ensures in
    let room : c.args.at + c.field_bytes.result < c.reaches.new.known = is_inside (c.args.at + c.field_bytes.result) c.reaches.new.known (sym asked.within ∙ c.if-not-branch.false) in
    other_settled g.W.World.answered view self.area c.args.at self.format c.args.number c.args.world.now c.read_at.new.self c.read_at.new.buf
    (omega (arith, length-take {A = ℕ}, few_fields self.format, room, asked.limit, c.field_bytes.ensures, c.field_bytes-2.ensures))
    (fields_told g.W.World.answered view self.area c.args.at self.format c.args.number c.args.world.now c.reaches.new.world c.read_at.new.self c.reaches.new.known c.in_ok-reaches.field-0 c.read_at.new.buf asked.asked
    c.in_ok-read_at.ensures.answered
    (shown_back view mid self.area (Read c.args.at c.read_at.new.buf ∷ []) c.reaches.ensures.quiet (read_shown mid self.area c.args.at _ c.read_at.new.buf c.read_at.auto.buf c.in_ok-read_at.ensures.bytes)))
    c.in_default.ensures

pub returns-then-not-branch-2-clause-size : goal.returns-then-not-branch-2-clause-size
returns-then-not-branch-2-clause-size g c =
    let self = c.args.self.now in
    let view = g.W.World.view c.args.world.now in
    let mid = g.W.World.view c.reaches.new.world in
    let last = g.W.World.view c.read_at.new.self in
    let asked = c.in_ok-reaches.ensures in
    let again = c.in_ok-reaches-2.ensures in
    let size = c.in-Some.size in
    let room : c.args.at + c.field_bytes.result < c.reaches.new.known = is_inside (c.args.at + c.field_bytes.result) c.reaches.new.known (sym asked.within ∙ c.if-not-branch.false) in
    let few : c.reaches-2.new.known ≤ c.saturating_add.result = beyond c.saturating_add.result c.reaches-2.new.known (sym again.within ∙ c.if-not-branch-2.true) in
    long_settled g.W.World.answered view self.area c.args.at self.format c.args.number size c.args.world.now c.read_at.new.self c.reaches-2.new.world c.reaches-2.new.known c.in_ok-reaches-2.field-0 (omega arith) (omega arith)
    (omega (arith, room, asked.limit, c.field_bytes.ensures)) (omega (arith, few, c.saturating_add.ensures, c.field_bytes.ensures))
    (subst (IsTold g.W.World.answered view self.area c.args.world.now c.read_at.new.self (IsTorn self.format c.args.number) c.args.at) c.in-Some.ensures
    (fields_told g.W.World.answered view self.area c.args.at self.format c.args.number c.args.world.now c.reaches.new.world c.read_at.new.self c.reaches.new.known c.in_ok-reaches.field-0 c.read_at.new.buf asked.asked
    c.in_ok-read_at.ensures.answered
    (shown_back view mid self.area (Read c.args.at c.read_at.new.buf ∷ []) c.reaches.ensures.quiet (read_shown mid self.area c.args.at _ c.read_at.new.buf c.read_at.auto.buf c.in_ok-read_at.ensures.bytes))))
    (asked_back g.W.World.answered view last self.area c.reaches-2.new.known c.in_ok-reaches-2.field-0 c.read_at.new.self c.reaches-2.new.world (quiet_on view mid last c.reaches.ensures.quiet c.read_at.ensures.quiet) again.asked)
    c.if-not-branch-2.true

pub returns-then-not-branch-2-clause-quiet : goal.returns-then-not-branch-2-clause-quiet
returns-then-not-branch-2-clause-quiet g c =
    let view = g.W.World.view c.args.world.now in
    let mid = g.W.World.view c.reaches.new.world in
    let last = g.W.World.view c.read_at.new.self in
    quiet_on view last (g.W.World.view c.reaches-2.new.world) (quiet_on view mid last c.reaches.ensures.quiet c.read_at.ensures.quiet) c.reaches-2.ensures.quiet

pub returns-clause-quiet : goal.returns-clause-quiet
returns-clause-quiet g c =
    let view = g.W.World.view c.args.world.now in
    let mid = g.W.World.view c.reaches.new.world in
    let last = g.W.World.view c.read_at.new.self in
    quiet_on view last (g.W.World.view c.reaches-2.new.world) (quiet_on view mid last c.reaches.ensures.quiet c.read_at.ensures.quiet) c.reaches-2.ensures.quiet

pub returns-clause-size : goal.returns-clause-size
returns-clause-size g c =
    let self = c.args.self.now in
    let view = g.W.World.view c.args.world.now in
    let mid = g.W.World.view c.reaches.new.world in
    let last = g.W.World.view c.read_at.new.self in
    let asked = c.in_ok-reaches.ensures in
    let again = c.in_ok-reaches-2.ensures in
    let size = c.in-Some.size in
    let room : c.saturating_add.result < c.reaches-2.new.known = is_inside c.saturating_add.result c.reaches-2.new.known (sym again.within ∙ c.if-not-branch-2.false) in (
      omega (arith, room, again.limit, c.saturating_add.ensures, c.field_bytes.ensures),
      size_told g.W.World.answered view self.area c.args.at self.format c.args.number size c.args.world.now c.read_at.new.self c.reaches-2.new.world c.reaches-2.new.known c.in_ok-reaches-2.field-0
          (subst (IsTold g.W.World.answered view self.area c.args.world.now c.read_at.new.self (IsTorn self.format c.args.number) c.args.at) c.in-Some.ensures
          (fields_told g.W.World.answered view self.area c.args.at self.format c.args.number c.args.world.now c.reaches.new.world c.read_at.new.self c.reaches.new.known c.in_ok-reaches.field-0 c.read_at.new.buf asked.asked
          c.in_ok-read_at.ensures.answered
          (shown_back view mid self.area (Read c.args.at c.read_at.new.buf ∷ []) c.reaches.ensures.quiet (read_shown mid self.area c.args.at _ c.read_at.new.buf c.read_at.auto.buf c.in_ok-read_at.ensures.bytes))))
          (asked_back g.W.World.answered view last self.area c.reaches-2.new.known c.in_ok-reaches-2.field-0 c.read_at.new.self c.reaches-2.new.world (quiet_on view mid last c.reaches.ensures.quiet c.read_at.ensures.quiet) again.asked),
    )
