use Rattle.std.proofs.Common.{◌≡◌, ◌+◌, ◌∷◌, ◌++◌, [], ℕ, List, Ok, false, length, refl, sym, ◌∙◌, ap, subst, inl, arith}
use Rattle.std.proofs.lemmas.Result.{err_from_is_err_and}
use Rattle.pgs_codec.specs.declared.command.Command.TheVariants.{Txn as Transaction}
use Rattle.pgs_codec.specs.Payload.{payload_of}
use Rattle.pgs_decide.specs.declared.refusal.GuardRefusal.TheVariants as refusals
use Rattle.pgs_decide.specs.Refused.{IsRejected}
use Rattle.pgs_graph.specs.Changed.{changed}
use Rattle.pgs_journal.specs.declared.journal.Journal.{Journal}
use Rattle.pgs_journal.specs.Format.{Holds}
use Rattle.pgs_store.specs.Applies.{Journals, decided, is_disk_fault}
use Rattle.pgs_store.specs.Costs.{IsWithin}
use Rattle.pgs_store.specs.State.{GuardState}
use Rattle.pgs_store.specs.Stored.{IsBounded, StandsOn, IsAppliedIn, committed, longer}
use Rattle.pgs_world.specs.World.{part}
use Rattle.pgs_store.proofs.Applied.{applied, may_append_txn, same_journal, small_frame, stands_after, stops_after, txn_leads}
use Rattle.pgs_store.proofs.Composed.{none_beside}
use Rattle.pgs_store.proofs.Answered.{uncounted, unfailed, untaken}
use Rattle.pgs_store.proofs.Exits.{ends_later, never, same_guard, still_bounded, still_saved}
use Rattle.pgs_store.proofs.Indexed.{made_graph, made_indexed, still_indexed}
use Rattle.pgs_store.proofs.applying.journal_txn.Goals as goal

-- ---- before the first call on the world

pub returns-in_err-decided-clause-answer : goal.returns-in_err-decided-clause-answer
returns-in_err-decided-clause-answer g c =
    let p = err_from_is_err_and c.from_residual.result c.from_residual.ensures.1 in
    let refusal = c.in_err-decided.field-0.0 in
    untaken c.from_residual.result p.0 refusal p.1 p.2 c.args.guard.now c.args.journal.now c.args.txn.now (g.W.World.view c.args.world.now)
    (subst (λ (s : GuardState). IsRejected (decided s c.args.txn.now) refusal) c.guard.view_is c.in_err-decided.ensures.rejected)

pub returns-in_err-decided-clause-bounded : goal.returns-in_err-decided-clause-bounded
returns-in_err-decided-clause-bounded g c = c.requires.bounded

pub returns-in_err-decided-clause-early : goal.returns-in_err-decided-clause-early
returns-in_err-decided-clause-early g c = λ early. refl

pub returns-in_err-decided-clause-faults : goal.returns-in_err-decided-clause-faults
returns-in_err-decided-clause-faults g c =
    let p = err_from_is_err_and c.from_residual.result c.from_residual.ensures.1 in
    uncounted c.from_residual.result p.0 c.in_err-decided.field-0.0 p.1 p.2 (g.W.World.view c.args.world.now)

pub returns-in_err-decided-clause-last : goal.returns-in_err-decided-clause-last
returns-in_err-decided-clause-last g c =
    let p = err_from_is_err_and c.from_residual.result c.from_residual.ensures.1 in
    never (is_disk_fault c.from_residual.result) (unfailed c.from_residual.result p.0 c.in_err-decided.field-0.0 p.1 p.2)

pub returns-in_err-decided-clause-beside : goal.returns-in_err-decided-clause-beside
returns-in_err-decided-clause-beside g c = none_beside c.args.journal.now.area (g.W.World.view c.args.world.now) (g.met.W.World.timed c.args.world.now)

pub returns-in_err-decided-clause-stops : goal.returns-in_err-decided-clause-stops
returns-in_err-decided-clause-stops g c = λ honest told triple left.
    inl
    (still_saved c.args.guard.now c.args.journal.now (g.W.World.view c.args.world.now) (g.met.W.World.timed c.args.world.now) c.requires.stands honest told triple left)

pub returns-in_err-decided-clause-no_step_back : goal.returns-in_err-decided-clause-no_step_back
returns-in_err-decided-clause-no_step_back g c = c.framed_decision.ensures.no_step_back

pub returns-in_err-decided-clause-cost : goal.returns-in_err-decided-clause-cost
returns-in_err-decided-clause-cost g c =
    subst (λ (s : GuardState). IsWithin s c.args.txn.now c.args.steps.now c.framed_decision.new.steps) c.guard.view_is c.framed_decision.ensures.cost

pub returns-in_err-ready-clause-answer : goal.returns-in_err-ready-clause-answer
returns-in_err-ready-clause-answer g c =
    let p = err_from_is_err_and c.from_residual-in_err-ready.result c.from_residual-in_err-ready.ensures.1 in
    let inside = c.guard.inside in
    let journal = c.args.journal.now in
    let txn = c.args.txn.now in
    let view = g.W.World.view c.args.world.now in
    subst (λ (s : GuardState). Journals c.from_residual-in_err-ready.result c.args.guard.now s journal journal txn view)
    (sym
    (same_guard inside.schema.text inside.schema.resolved inside.limits inside.commits inside.seed inside.graph.graph c.prepare.new.tables.graph c.args.guard.now c.prepare.ensures.graph c.guard.view_is))
    (untaken c.from_residual-in_err-ready.result p.0 refusals.Memory p.1 p.2 c.args.guard.now journal txn view tt)

pub returns-in_err-ready-clause-bounded : goal.returns-in_err-ready-clause-bounded
returns-in_err-ready-clause-bounded g c = subst (λ (s : GuardState). IsBounded c.args.journal.now s.commits) (sym c.guard.view_is) c.requires.bounded

pub returns-in_err-ready-clause-early : goal.returns-in_err-ready-clause-early
returns-in_err-ready-clause-early g c = λ early. refl

pub returns-in_err-ready-clause-faults : goal.returns-in_err-ready-clause-faults
returns-in_err-ready-clause-faults g c =
    let p = err_from_is_err_and c.from_residual-in_err-ready.result c.from_residual-in_err-ready.ensures.1 in
    uncounted c.from_residual-in_err-ready.result p.0 refusals.Memory p.1 p.2 (g.W.World.view c.args.world.now)

pub returns-in_err-ready-clause-last : goal.returns-in_err-ready-clause-last
returns-in_err-ready-clause-last g c =
    let p = err_from_is_err_and c.from_residual-in_err-ready.result c.from_residual-in_err-ready.ensures.1 in
    never (is_disk_fault c.from_residual-in_err-ready.result) (unfailed c.from_residual-in_err-ready.result p.0 refusals.Memory p.1 p.2)

pub returns-in_err-ready-clause-beside : goal.returns-in_err-ready-clause-beside
returns-in_err-ready-clause-beside g c = none_beside c.args.journal.now.area (g.W.World.view c.args.world.now) (g.met.W.World.timed c.args.world.now)

pub returns-in_err-ready-clause-stops : goal.returns-in_err-ready-clause-stops
returns-in_err-ready-clause-stops g c = λ honest told triple left.
    inl
    (still_saved c.args.guard.now c.args.journal.now (g.W.World.view c.args.world.now) (g.met.W.World.timed c.args.world.now) c.requires.stands honest told triple left)

pub returns-in_err-ready-clause-no_step_back : goal.returns-in_err-ready-clause-no_step_back
returns-in_err-ready-clause-no_step_back g c = c.framed_decision.ensures.no_step_back

pub returns-in_err-ready-clause-cost : goal.returns-in_err-ready-clause-cost
returns-in_err-ready-clause-cost g c =
    subst (λ (s : GuardState). IsWithin s c.args.txn.now c.args.steps.now c.framed_decision.new.steps) c.guard.view_is c.framed_decision.ensures.cost

-- ---- what the append asks

pub append-requires-clause-framed : goal.append-requires-clause-framed
append-requires-clause-framed g c = (payload_of (Transaction c.args.txn.now), c.as_slice.ensures.value ∙ c.in_ok-decided.ensures.frame)

pub append-requires-clause-within : goal.append-requires-clause-within
append-requires-clause-within g c = c.requires.bounded.end

pub append-requires-clause-next_within : goal.append-requires-clause-next_within
append-requires-clause-next_within g c = c.requires.bounded.next

pub append-requires-clause-holds : goal.append-requires-clause-holds
append-requires-clause-holds g c = λ told. let saved = c.requires.stands.saved told in (saved.0, saved.1.has.holds)

-- ---- the record is on the disk

pub returns-in-Ok-clause-answer : goal.returns-in-Ok-clause-answer
returns-in-Ok-clause-answer g c =
    let payload = payload_of (Transaction c.args.txn.now) in
    let frame = c.as_slice.ensures.value ∙ c.in_ok-decided.ensures.frame in
    let vec = c.in_ok-decided.frame in
    let read = c.in_ok-decided.ensures.decoded in
    let guard = c.args.guard.now in
    let journal = c.args.journal.now in
    let small = small_frame journal.end journal.next vec.items payload vec.len vec.cap c.in_ok-decided.ensures.frame vec.ok.0 vec.ok.1 vec.small c.requires.bounded.end in
    let inside = c.guard.inside in
    let next = c.commit.new.tables.graph in
    let old = g.W.World.view c.args.world.now in
    let new = g.W.World.view c.append.new.world in
    let made : next ≡ changed inside.graph.graph c.in_ok-decided.decided.delta =
    made_graph inside.graph.graph c.prepare.new.tables.graph next c.in_ok-decided.decided c.in_ok-ready.ready c.prepare.ensures.graph c.commit.ensures.graph c.in_ok-ready.ensures.whole in
    let accepted : decided guard c.args.txn.now ≡ Ok next =
    subst (λ (s : GuardState). decided s c.args.txn.now ≡ Ok next) c.guard.view_is (c.in_ok-decided.ensures.accepted ∙ ap Ok (sym made)) in
    let after = ap (λ (s : GuardState). committed s next) c.guard.view_is in
    let longer_by : c.append.new.self ≡ longer journal (Transaction c.args.txn.now) =
    same_journal (longer journal (Transaction c.args.txn.now)) c.append.new.self c.in-Ok.ensures.area c.in-Ok.ensures.epoch
    (c.in-Ok.ensures.end ∙ ap (λ (f : List ℕ). journal.end + length f) frame) c.in-Ok.ensures.next in
    let stands = stands_after guard (committed guard next) journal (Transaction c.args.txn.now) (may_append_txn journal.next payload c.args.txn.now read)
    (txn_leads guard payload c.args.txn.now next c.facts.ensures.schema accepted read) small old new c.requires.stands c.append.ensures.passes
    (λ payloads holds told.
    subst (λ (j : Journal). Holds j.next j.epoch (payloads ++ payload ∷ []) j.end (part j.area new.shown)) longer_by (c.in-Ok.ensures.holds payload payloads frame holds told))
    c.append.ensures.beside c.in-Ok.ensures.settled in (
      accepted,
      record {
        numbered = ap (λ (s : GuardState). s.commits + 1) c.guard.view_is;
        guard = after;
        journal = longer_by;
        stands =
            subst (λ (s : GuardState). StandsOn s c.append.new.self new) (sym after)
            (subst (λ (j : Journal). StandsOn (committed guard next) j new) (sym longer_by) stands);
      },
    )

pub returns-in-Ok-clause-stops : goal.returns-in-Ok-clause-stops
returns-in-Ok-clause-stops g c = λ honest told.
    let payload = payload_of (Transaction c.args.txn.now) in
    let vec = c.in_ok-decided.frame in
    let read = c.in_ok-decided.ensures.decoded in
    let guard = c.args.guard.now in
    let journal = c.args.journal.now in
    let small = small_frame journal.end journal.next vec.items payload vec.len vec.cap c.in_ok-decided.ensures.frame vec.ok.0 vec.ok.1 vec.small c.requires.bounded.end in
    let next = changed c.guard.inside.graph.graph c.in_ok-decided.decided.delta in
    let accepted = subst (λ (s : GuardState). decided s c.args.txn.now ≡ Ok next) c.guard.view_is c.in_ok-decided.ensures.accepted in
    stops_after guard (committed guard next) journal (Transaction c.args.txn.now) (may_append_txn journal.next payload c.args.txn.now read)
    (txn_leads guard payload c.args.txn.now next c.facts.ensures.schema accepted read) small (IsAppliedIn guard journal c.args.txn.now)
    (g.W.World.view c.args.world.now) (g.W.World.view c.append.new.world) (λ triple. applied guard journal c.args.txn.now next triple accepted) c.requires.stands
    honest told (c.append.ensures.stops payload (c.as_slice.ensures.value ∙ c.in_ok-decided.ensures.frame) told)

pub returns-clause-stops : goal.returns-clause-stops
returns-clause-stops g c = λ honest told.
    let payload = payload_of (Transaction c.args.txn.now) in
    let vec = c.in_ok-decided.frame in
    let read = c.in_ok-decided.ensures.decoded in
    let guard = c.args.guard.now in
    let journal = c.args.journal.now in
    let small = small_frame journal.end journal.next vec.items payload vec.len vec.cap c.in_ok-decided.ensures.frame vec.ok.0 vec.ok.1 vec.small c.requires.bounded.end in
    let next = changed c.guard.inside.graph.graph c.in_ok-decided.decided.delta in
    let accepted = subst (λ (s : GuardState). decided s c.args.txn.now ≡ Ok next) c.guard.view_is c.in_ok-decided.ensures.accepted in
    stops_after guard (committed guard next) journal (Transaction c.args.txn.now) (may_append_txn journal.next payload c.args.txn.now read)
    (txn_leads guard payload c.args.txn.now next c.facts.ensures.schema accepted read) small (IsAppliedIn guard journal c.args.txn.now)
    (g.W.World.view c.args.world.now) (g.W.World.view c.append.new.world) (λ triple. applied guard journal c.args.txn.now next triple accepted) c.requires.stands
    honest told (c.append.ensures.stops payload (c.as_slice.ensures.value ∙ c.in_ok-decided.ensures.frame) told)

pub returns-in-Ok-clause-cost : goal.returns-in-Ok-clause-cost
returns-in-Ok-clause-cost g c =
    subst (λ (s : GuardState). IsWithin s c.args.txn.now c.args.steps.now c.framed_decision.new.steps) c.guard.view_is c.framed_decision.ensures.cost

pub returns-clause-cost : goal.returns-clause-cost
returns-clause-cost g c =
    subst (λ (s : GuardState). IsWithin s c.args.txn.now c.args.steps.now c.framed_decision.new.steps) c.guard.view_is c.framed_decision.ensures.cost

pub returns-in-Ok-clause-bounded : goal.returns-in-Ok-clause-bounded
returns-in-Ok-clause-bounded g c =
    let journal = c.args.journal.now in
    let after = c.append.new.self in
    let frame = c.as_slice.ensures.value ∙ c.in_ok-decided.ensures.frame in
    subst (λ (s : GuardState). IsBounded after (s.commits + 1)) (sym c.guard.view_is)
    (still_bounded journal after c.args.guard.now.commits (c.args.guard.now.commits + 1) c.requires.bounded (omega arith) c.in-Ok.ensures.epoch c.in-Ok.ensures.within c.in-Ok.ensures.next_within
    (ends_later journal.next c.as_slice.result.now (payload_of (Transaction c.args.txn.now)) journal.end after.end frame c.in-Ok.ensures.end))

pub returns-in-Ok-clause-early : goal.returns-in-Ok-clause-early
returns-in-Ok-clause-early g c = never false refl

pub returns-in-Ok-clause-faults : goal.returns-in-Ok-clause-faults
returns-in-Ok-clause-faults g c = c.in-Ok.ensures.faults.no_cause

pub returns-in-Ok-clause-last : goal.returns-in-Ok-clause-last
returns-in-Ok-clause-last g c = never false refl

pub returns-in-Ok-clause-beside : goal.returns-in-Ok-clause-beside
returns-in-Ok-clause-beside g c =
    let made = c.append.ensures in
    record { passes = made.passes; shown = made.beside; stops = made.stops_beside; no_put = made.no_put }

pub returns-in-Ok-clause-no_step_back : goal.returns-in-Ok-clause-no_step_back
returns-in-Ok-clause-no_step_back g c = c.framed_decision.ensures.no_step_back

-- ---- the append failed

pub returns-clause-answer : goal.returns-clause-answer
returns-clause-answer g c =
    let inside = c.guard.inside in (
      same_guard inside.schema.text inside.schema.resolved inside.limits inside.commits inside.seed inside.graph.graph c.prepare.new.tables.graph c.args.guard.now c.prepare.ensures.graph c.guard.view_is,
      c.in-Err.ensures.kept,
    )

pub returns-clause-bounded : goal.returns-clause-bounded
returns-clause-bounded g c =
    subst (λ (j : Journal). IsBounded j c.guard.inside.commits) (sym c.in-Err.ensures.kept)
    (subst (λ (s : GuardState). IsBounded c.args.journal.now s.commits) (sym c.guard.view_is) c.requires.bounded)

pub returns-clause-early : goal.returns-clause-early
returns-clause-early g c = never false refl

pub returns-clause-faults : goal.returns-clause-faults
returns-clause-faults g c = c.in-Err.ensures.faults.cause

pub returns-clause-last : goal.returns-clause-last
returns-clause-last g c = λ failed. c.in-Err.ensures.faults.last

pub returns-clause-beside : goal.returns-clause-beside
returns-clause-beside g c =
    let made = c.append.ensures in
    record { passes = made.passes; shown = made.beside; stops = made.stops_beside; no_put = made.no_put }

pub returns-clause-no_step_back : goal.returns-clause-no_step_back
returns-clause-no_step_back g c = c.framed_decision.ensures.no_step_back

pub invariant_of-guard : goal.invariant_of-guard
invariant_of-guard g c =
    let inside = c.guard.inside in
    let prepared = c.prepare.new in (
      still_indexed inside.schema.resolved inside.limits inside.graph.graph prepared.tables.graph inside.index prepared.index c.prepare.ensures.graph c.prepare.ensures.exclusive c.prepare.ensures.rows
          c.guard.invariant.0,
      (c.prepare.ensures.seeds ∙ c.guard.invariant.1.0, c.prepare.ensures.seed ∙ c.guard.invariant.1.1),
    )

pub invariant_of-guard-in-Ok : goal.invariant_of-guard-in-Ok
invariant_of-guard-in-Ok g c =
    let inside = c.guard.inside in
    let prepared = c.prepare.new in
    let next = c.commit.new in (
      made_indexed inside.schema.resolved inside.limits inside.graph.graph prepared.tables.graph next.tables.graph inside.index prepared.index next.index c.in_ok-decided.decided c.in_ok-ready.ready
          c.prepare.ensures.graph c.commit.ensures.graph c.prepare.ensures.exclusive c.prepare.ensures.rows c.commit.ensures.exclusive c.commit.ensures.rows c.in_ok-ready.ensures.whole
          c.in_ok-decided.ensures.guarded c.in_ok-decided.ensures.stands,
      (c.commit.ensures.seeds ∙ c.prepare.ensures.seeds ∙ c.guard.invariant.1.0, c.commit.ensures.seed ∙ c.prepare.ensures.seed ∙ c.guard.invariant.1.1),
    )

pub invariant_of-guard-in-Err : goal.invariant_of-guard-in-Err
invariant_of-guard-in-Err g c =
    let inside = c.guard.inside in
    let prepared = c.prepare.new in (
      still_indexed inside.schema.resolved inside.limits inside.graph.graph prepared.tables.graph inside.index prepared.index c.prepare.ensures.graph c.prepare.ensures.exclusive c.prepare.ensures.rows
          c.guard.invariant.0,
      (c.prepare.ensures.seeds ∙ c.guard.invariant.1.0, c.prepare.ensures.seed ∙ c.guard.invariant.1.1),
    )
