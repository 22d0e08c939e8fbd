use Rattle.std.proofs.Common.{◌≡◌, ◌∷◌, [], ◌+◌, ℕ, List, false, true≢false, length, Option, Some, refl, sym, ◌∙◌, ap, subst, arith}
use Rattle.std.proofs.lemmas.Result.{err_from_is_err_and}
use Rattle.pgs_codec.specs.declared.command.Command.TheVariants.{Schema as SchemaCommand}
use Rattle.pgs_codec.specs.Payload.{payload_of}
use Rattle.pgs_codec.specs.Reading.{decoded}
use Rattle.pgs_journal.specs.declared.journal.Journal.{Journal}
use Rattle.pgs_journal.specs.Format.{Holds, IsFrames}
use Rattle.pgs_store.specs.Loads.{is_disk_fault}
use Rattle.pgs_store.specs.State.{GuardState}
use Rattle.pgs_store.specs.Stored.{StandsOn, opened, first_journal}
use Rattle.pgs_world.specs.Count.{raised}
use Rattle.pgs_world.specs.declared.area.Area.TheVariants.{A}
use Rattle.pgs_world.proofs.Moments.{quiet_none}
use Rattle.pgs_store.proofs.Applied.{small_first, same_journal}
use Rattle.pgs_store.proofs.Composed.{none_beside, quiet_beside, then_beside}
use Rattle.pgs_store.proofs.Loaded.{loading_stops, load_stands, just_made, occupied_answer, not_of_text, unwritten}
use Rattle.pgs_store.proofs.Exits.{first_bounded, never}
use Rattle.pgs_store.proofs.store.Store.create.Goals as goal

pub returns-in_err-frame-clause-answer : goal.returns-in_err-frame-clause-answer
returns-in_err-frame-clause-answer g c =
    let p = err_from_is_err_and c.from_residual.result c.from_residual.ensures.1 in rw (p.1, p.2) tt

pub returns-in_err-frame-clause-unrefused : goal.returns-in_err-frame-clause-unrefused
returns-in_err-frame-clause-unrefused g c =
    let p = err_from_is_err_and c.from_residual.result c.from_residual.ensures.1 in rw (p.1, p.2) refl

pub returns-in_err-frame-clause-faults : goal.returns-in_err-frame-clause-faults
returns-in_err-frame-clause-faults g c =
    let p = err_from_is_err_and c.from_residual.result c.from_residual.ensures.1 in rw (p.1, p.2)

pub returns-in_err-refuse_occupied-clause-answer : goal.returns-in_err-refuse_occupied-clause-answer
returns-in_err-refuse_occupied-clause-answer g c =
    let p = err_from_is_err_and c.from_residual-in_err-refuse_occupied.result c.from_residual-in_err-refuse_occupied.ensures.1 in
    rw (p.1, p.2)
    (occupied_answer c.args.guard.limits c.args.guard.text c.in_err-refuse_occupied.field-0.0 (g.W.World.view c.args.world.now) (g.W.World.view c.refuse_occupied.new.world)
    (c.args.guard.schema, c.schema_text.ensures.schema) c.in_err-refuse_occupied.ensures.occupied)

pub returns-in_err-refuse_occupied-clause-unrefused : goal.returns-in_err-refuse_occupied-clause-unrefused
returns-in_err-refuse_occupied-clause-unrefused g c =
    let p = err_from_is_err_and c.from_residual-in_err-refuse_occupied.result c.from_residual-in_err-refuse_occupied.ensures.1 in
    rw (p.1, p.2) (not_of_text c.in_err-refuse_occupied.field-0.0 (g.W.World.view c.args.world.now) c.in_err-refuse_occupied.ensures.occupied)

pub returns-in_err-refuse_occupied-clause-faults : goal.returns-in_err-refuse_occupied-clause-faults
returns-in_err-refuse_occupied-clause-faults g c =
    let p = err_from_is_err_and c.from_residual-in_err-refuse_occupied.result c.from_residual-in_err-refuse_occupied.ensures.1 in
    rw (p.1, p.2) c.in_err-refuse_occupied.ensures.faults

pub create-requires-clause-frames : goal.create-requires-clause-frames
create-requires-clause-frames g c =
    (payload_of (SchemaCommand c.schema_text.result.now) ∷ [], rw c.as_slice.ensures.value (c.in_ok-frame.ensures.first refl))

pub returns-in-Ok-clause-answer : goal.returns-in-Ok-clause-answer
returns-in-Ok-clause-answer g c =
    let payload = payload_of (SchemaCommand c.args.guard.text) in
    let first = c.as_slice.result.now in
    let frames : IsFrames (payload ∷ []) 2 first =
    subst (λ (t : List ℕ). IsFrames (payload_of (SchemaCommand t) ∷ []) 2 first) c.schema_text.ensures.text (rw c.as_slice.ensures.value (c.in_ok-frame.ensures.first refl)) in
    let read = subst (λ (t : List ℕ). decoded (payload_of (SchemaCommand t)) ≡ Some (SchemaCommand t)) c.schema_text.ensures.text c.in_ok-frame.ensures.decoded in
    let of_text = c.schema_text.ensures.schema in
    let end = c.in-Ok.journal.end in
    let old = g.W.World.view c.args.world.now in
    let new = g.W.World.view c.create.new.world in
    let quiet = c.refuse_occupied.ensures.quiet in
    let guard : c.args.guard ≡ opened c.args.guard.text c.args.guard.schema c.args.guard.limits c.args.guard.seed = just_made c.args.guard c.args.guard.text c.args.guard.limits refl refl c.requires.empty c.requires.unchanged in
    let journal : c.in-Ok.journal ≡ first_journal end =
    same_journal (first_journal end) c.in-Ok.journal (ap (λ (j : Journal). j.area) c.in-Ok.ensures.made.journal) (ap (λ (j : Journal). j.epoch) c.in-Ok.ensures.made.journal) refl
    (ap (λ (j : Journal). j.next) c.in-Ok.ensures.made.journal) in
    let stands = load_stands c.args.guard.limits c.args.guard.text c.args.guard.schema payload end of_text read (omega (arith, c.in-Ok.ensures.made.within)) c.args.guard.seed
    old (g.W.World.view c.refuse_occupied.new.world) new c.in_ok-refuse_occupied.ensures.free quiet c.create.ensures.made.step.passes
    (λ told. subst (λ (n : Option ℕ). Holds n 1 (payload ∷ []) end new.shown.a) (ap (λ (j : Journal). j.next) c.in-Ok.ensures.made.journal) (c.in-Ok.ensures.made.holds (payload ∷ []) frames told))
    c.create.ensures.made.beside c.in_ok-refuse_occupied.ensures.settled c.in-Ok.ensures.made.settled in
    record {
      resolved = c.args.guard.schema;
      of_text = of_text;
      guard = guard;
      journal = journal;
      whole = refl;
      free = c.in_ok-refuse_occupied.ensures.free;
      stands =
          subst (λ (s : GuardState). StandsOn s c.in-Ok.journal new) (sym guard)
          (subst (λ (j : Journal). StandsOn (opened c.args.guard.text c.args.guard.schema c.args.guard.limits c.args.guard.seed) j new) (sym journal) stands);
    }

pub returns-in-Ok-clause-stops : goal.returns-in-Ok-clause-stops
returns-in-Ok-clause-stops g c = λ free settled.
    let vec = c.in_ok-frame.frame in
    let first = c.as_slice.result.now in
    let frames : IsFrames (payload_of (SchemaCommand c.schema_text.result.now) ∷ []) 2 first = rw c.as_slice.ensures.value (c.in_ok-frame.ensures.first refl) in
    loading_stops c.args.guard.limits c.args.guard.text c.args.guard.schema first c.schema_text.ensures.schema
    (subst (λ (t : List ℕ). decoded (payload_of (SchemaCommand t)) ≡ Some (SchemaCommand t)) c.schema_text.ensures.text c.in_ok-frame.ensures.decoded)
    (small_first first vec.items vec.len vec.cap c.as_slice.ensures.value vec.ok.0 vec.ok.1 vec.small)
    (subst (λ (t : List ℕ). IsFrames (payload_of (SchemaCommand t) ∷ []) 2 first) c.schema_text.ensures.text frames) free settled c.refuse_occupied.ensures.quiet c.create.ensures.made

pub returns-in-Ok-clause-beside : goal.returns-in-Ok-clause-beside
returns-in-Ok-clause-beside g c =
    let quiet = c.refuse_occupied.ensures in
    let made = c.create.ensures.made in
    then_beside A (g.W.World.view c.args.world.now) (g.W.World.view c.refuse_occupied.new.world) (g.W.World.view c.create.new.world) quiet.quiet quiet.no_put made.step.passes made.beside made.stops_beside made.step.no_put

pub returns-in-Err-clause-stops : goal.returns-in-Err-clause-stops
returns-in-Err-clause-stops g c = λ free settled.
    let vec = c.in_ok-frame.frame in
    let first = c.as_slice.result.now in
    let frames : IsFrames (payload_of (SchemaCommand c.schema_text.result.now) ∷ []) 2 first = rw c.as_slice.ensures.value (c.in_ok-frame.ensures.first refl) in
    loading_stops c.args.guard.limits c.args.guard.text c.args.guard.schema first c.schema_text.ensures.schema
    (subst (λ (t : List ℕ). decoded (payload_of (SchemaCommand t)) ≡ Some (SchemaCommand t)) c.schema_text.ensures.text c.in_ok-frame.ensures.decoded)
    (small_first first vec.items vec.len vec.cap c.as_slice.ensures.value vec.ok.0 vec.ok.1 vec.small)
    (subst (λ (t : List ℕ). IsFrames (payload_of (SchemaCommand t) ∷ []) 2 first) c.schema_text.ensures.text frames) free settled c.refuse_occupied.ensures.quiet c.create.ensures.made

pub returns-in-Err-clause-beside : goal.returns-in-Err-clause-beside
returns-in-Err-clause-beside g c =
    let quiet = c.refuse_occupied.ensures in
    let made = c.create.ensures.made in
    then_beside A (g.W.World.view c.args.world.now) (g.W.World.view c.refuse_occupied.new.world) (g.W.World.view c.create.new.world) quiet.quiet quiet.no_put made.step.passes made.beside made.stops_beside made.step.no_put

pub returns-in-Ok-clause-kept : goal.returns-in-Ok-clause-kept
returns-in-Ok-clause-kept g c = λ occupied. absurd (occupied c.in_ok-refuse_occupied.ensures.free)

pub returns-in-Err-clause-kept : goal.returns-in-Err-clause-kept
returns-in-Err-clause-kept g c = λ occupied. absurd (occupied c.in_ok-refuse_occupied.ensures.free)

-- ---- before the first call on the world

pub returns-in_err-frame-clause-guard : goal.returns-in_err-frame-clause-guard
returns-in_err-frame-clause-guard g c = let p = err_from_is_err_and c.from_residual.result c.from_residual.ensures.1 in rw p.1 tt

pub returns-in_err-frame-clause-last : goal.returns-in_err-frame-clause-last
returns-in_err-frame-clause-last g c =
    let p = err_from_is_err_and c.from_residual.result c.from_residual.ensures.1 in never (is_disk_fault c.from_residual.result) (rw (p.1, p.2) refl)

pub returns-in_err-frame-clause-kept : goal.returns-in_err-frame-clause-kept
returns-in_err-frame-clause-kept g c = λ occupied. quiet_none (g.W.World.view c.args.world.now) (g.met.W.World.timed c.args.world.now)

pub returns-in_err-frame-clause-unwritten : goal.returns-in_err-frame-clause-unwritten
returns-in_err-frame-clause-unwritten g c = λ none. quiet_none (g.W.World.view c.args.world.now) (g.met.W.World.timed c.args.world.now)

pub returns-in_err-frame-clause-stops : goal.returns-in_err-frame-clause-stops
returns-in_err-frame-clause-stops g c = λ free settled.
    let view = g.W.World.view c.args.world.now in
    unwritten c.args.guard.limits c.args.guard.text view view free settled (quiet_none view (g.met.W.World.timed c.args.world.now))

pub returns-in_err-frame-clause-beside : goal.returns-in_err-frame-clause-beside
returns-in_err-frame-clause-beside g c = none_beside A (g.W.World.view c.args.world.now) (g.met.W.World.timed c.args.world.now)

-- ---- an area is occupied, or failed

pub returns-in_err-refuse_occupied-clause-guard : goal.returns-in_err-refuse_occupied-clause-guard
returns-in_err-refuse_occupied-clause-guard g c =
    let p = err_from_is_err_and c.from_residual-in_err-refuse_occupied.result c.from_residual-in_err-refuse_occupied.ensures.1 in rw p.1 tt

pub returns-in_err-refuse_occupied-clause-last : goal.returns-in_err-refuse_occupied-clause-last
returns-in_err-refuse_occupied-clause-last g c =
    let p = err_from_is_err_and c.from_residual-in_err-refuse_occupied.result c.from_residual-in_err-refuse_occupied.ensures.1 in
    rw (p.1, p.2) c.in_err-refuse_occupied.ensures.last

pub returns-in_err-refuse_occupied-clause-kept : goal.returns-in_err-refuse_occupied-clause-kept
returns-in_err-refuse_occupied-clause-kept g c = λ occupied. c.refuse_occupied.ensures.quiet

pub returns-in_err-refuse_occupied-clause-unwritten : goal.returns-in_err-refuse_occupied-clause-unwritten
returns-in_err-refuse_occupied-clause-unwritten g c = λ none. c.refuse_occupied.ensures.quiet

pub returns-in_err-refuse_occupied-clause-stops : goal.returns-in_err-refuse_occupied-clause-stops
returns-in_err-refuse_occupied-clause-stops g c = λ free settled.
    unwritten c.args.guard.limits c.args.guard.text (g.W.World.view c.args.world.now) (g.W.World.view c.refuse_occupied.new.world) free settled c.refuse_occupied.ensures.quiet

pub returns-in_err-refuse_occupied-clause-beside : goal.returns-in_err-refuse_occupied-clause-beside
returns-in_err-refuse_occupied-clause-beside g c =
    quiet_beside A (g.W.World.view c.args.world.now) (g.W.World.view c.refuse_occupied.new.world) c.refuse_occupied.ensures.quiet c.refuse_occupied.ensures.no_put

-- ---- the store is made

pub returns-in-Ok-clause-guard : goal.returns-in-Ok-clause-guard
returns-in-Ok-clause-guard g c = refl

pub returns-in-Ok-clause-unrefused : goal.returns-in-Ok-clause-unrefused
returns-in-Ok-clause-unrefused g c = refl

pub returns-in-Ok-clause-faults : goal.returns-in-Ok-clause-faults
returns-in-Ok-clause-faults g c = c.in-Ok.ensures.made.step.faults.no_cause ∙ c.in_ok-refuse_occupied.ensures.faults

pub returns-in-Ok-clause-last : goal.returns-in-Ok-clause-last
returns-in-Ok-clause-last g c = never false refl

pub returns-in-Ok-clause-unwritten : goal.returns-in-Ok-clause-unwritten
returns-in-Ok-clause-unwritten g c = λ none. absurd (true≢false none)

pub invariant_of-result : goal.invariant_of-result
invariant_of-result g c =
    let made = c.in-Ok.ensures.made in
    first_bounded c.in-Ok.journal (16 + length c.as_slice.result.now) c.args.guard.commits made.journal c.requires.unchanged made.within made.next_within

-- ---- an area failed while it was made

pub returns-in-Err-clause-answer : goal.returns-in-Err-clause-answer
returns-in-Err-clause-answer g c = tt

pub returns-in-Err-clause-guard : goal.returns-in-Err-clause-guard
returns-in-Err-clause-guard g c = tt

pub returns-in-Err-clause-unrefused : goal.returns-in-Err-clause-unrefused
returns-in-Err-clause-unrefused g c = refl

pub returns-in-Err-clause-faults : goal.returns-in-Err-clause-faults
returns-in-Err-clause-faults g c = c.in-Err.ensures.made.step.faults.cause ∙ ap raised c.in_ok-refuse_occupied.ensures.faults

pub returns-in-Err-clause-last : goal.returns-in-Err-clause-last
returns-in-Err-clause-last g c = λ failed. c.in-Err.ensures.made.step.faults.last

pub returns-in-Err-clause-unwritten : goal.returns-in-Err-clause-unwritten
returns-in-Err-clause-unwritten g c = λ none. absurd (true≢false none)
