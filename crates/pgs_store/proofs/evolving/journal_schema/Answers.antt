use Rattle.std.proofs.Common.{◌≡◌, ◌+◌, ◌∷◌, ◌++◌, [], ℕ, List, false, length, inl, refl, sym, ◌∙◌, ap, subst, arith}
use Rattle.std.proofs.lemmas.Result.{err_from_is_err_and}
use Rattle.pgs_codec.specs.declared.command.Command.TheVariants.{Schema as SchemaCommand}
use Rattle.pgs_codec.specs.Payload.{payload_of}
use Rattle.pgs_journal.specs.declared.journal.Journal.{Journal}
use Rattle.pgs_journal.specs.Format.{Holds}
use Rattle.pgs_schema.specs.State.{SchemaState}
use Rattle.pgs_store.specs.Evolves.{is_disk_fault}
use Rattle.pgs_store.specs.State.{GuardState}
use Rattle.pgs_store.specs.Stored.{IsBounded, StandsOn, IsEvolvedIn, evolved, longer}
use Rattle.pgs_world.specs.World.{part}
use Rattle.pgs_store.proofs.Applied.{in_force, may_append_schema, same_journal, schema_leads, small_frame, stands_after, stops_after}
use Rattle.pgs_store.proofs.Composed.{none_beside}
use Rattle.pgs_store.proofs.Evolved.{uncounted, unfailed, unrenewed}
use Rattle.pgs_store.proofs.Exits.{ends_later, never, still_bounded, still_saved}
use Rattle.pgs_store.proofs.evolving.journal_schema.Goals as goal

pub returns-in-Ok-clause-answer : goal.returns-in-Ok-clause-answer
returns-in-Ok-clause-answer g c =
    let text = c.args.schema.text in
    let payload = payload_of (SchemaCommand text) in
    let made = c.in_ok-renewal.ensures in
    let frame = c.as_slice.ensures.value ∙ made.frame in
    let vec = c.in_ok-renewal.frame in
    let guard = c.args.guard.now in
    let journal = c.args.journal.now in
    let resolved = c.args.schema.resolved in
    let small = small_frame journal.end journal.next vec.items payload vec.len vec.cap made.frame vec.ok.0 vec.ok.1 vec.small c.requires.bounded.end in
    let old = g.W.World.view c.args.world.now in
    let new = g.W.World.view c.append.new.world in
    let after : c.renew.new.self ≡ evolved guard text resolved = c.renew.ensures ∙ ap (λ (s : SchemaState). evolved guard s.text s.resolved) made.same in
    let longer_by : c.append.new.self ≡ longer journal (SchemaCommand text) =
    same_journal (longer journal (SchemaCommand text)) c.append.new.self c.in-Ok.ensures.area c.in-Ok.ensures.epoch
    (c.in-Ok.ensures.end ∙ ap (λ (f : List ℕ). journal.end + length f) frame) c.in-Ok.ensures.next in
    let stands = stands_after guard (evolved guard text resolved) journal (SchemaCommand text) (may_append_schema journal payload text c.requires.numbered made.decoded)
    (schema_leads guard payload text resolved made.indexed.guarded made.schema made.decoded) small old new c.requires.stands c.append.ensures.passes
    (λ payloads holds told.
    subst (λ (j : Journal). Holds j.next j.epoch (payloads ++ payload ∷ []) j.end (part j.area new.shown)) longer_by (c.in-Ok.ensures.holds payload payloads frame holds told))
    c.append.ensures.beside c.in-Ok.ensures.settled in
    record {
      resolved = resolved;
      conforming = (made.schema, made.indexed.guarded.conforms);
      guard = after;
      journal = longer_by;
      stands =
          subst (λ (s : GuardState). StandsOn s c.append.new.self new) (sym after)
          (subst (λ (j : Journal). StandsOn (evolved guard text resolved) j new) (sym longer_by) stands);
    }

pub returns-in-Ok-clause-stops : goal.returns-in-Ok-clause-stops
returns-in-Ok-clause-stops g c = λ honest told.
    let text = c.args.schema.text in
    let payload = payload_of (SchemaCommand text) in
    let made = c.in_ok-renewal.ensures in
    let frame = c.as_slice.ensures.value ∙ made.frame in
    let vec = c.in_ok-renewal.frame in
    let guard = c.args.guard.now in
    let journal = c.args.journal.now in
    let resolved = c.args.schema.resolved in
    let small = small_frame journal.end journal.next vec.items payload vec.len vec.cap made.frame vec.ok.0 vec.ok.1 vec.small c.requires.bounded.end in
    stops_after guard (evolved guard text resolved) journal (SchemaCommand text) (may_append_schema journal payload text c.requires.numbered made.decoded)
    (schema_leads guard payload text resolved made.indexed.guarded made.schema made.decoded) small (IsEvolvedIn guard journal text)
    (g.W.World.view c.args.world.now) (g.W.World.view c.append.new.world)
    (λ triple. in_force guard journal text resolved triple (made.schema, made.indexed.guarded.conforms)) c.requires.stands
    honest told (c.append.ensures.stops payload frame told)

pub returns-in-Err-clause-answer : goal.returns-in-Err-clause-answer
returns-in-Err-clause-answer g c =
    let made = c.in_ok-renewal.ensures in
    (refl, c.in-Err.ensures.kept, (c.args.schema.resolved, (made.schema, made.indexed.guarded.conforms)))

pub returns-in-Err-clause-stops : goal.returns-in-Err-clause-stops
returns-in-Err-clause-stops g c = λ honest told.
    let text = c.args.schema.text in
    let payload = payload_of (SchemaCommand text) in
    let made = c.in_ok-renewal.ensures in
    let frame = c.as_slice.ensures.value ∙ made.frame in
    let vec = c.in_ok-renewal.frame in
    let guard = c.args.guard.now in
    let journal = c.args.journal.now in
    let resolved = c.args.schema.resolved in
    let small = small_frame journal.end journal.next vec.items payload vec.len vec.cap made.frame vec.ok.0 vec.ok.1 vec.small c.requires.bounded.end in
    stops_after guard (evolved guard text resolved) journal (SchemaCommand text) (may_append_schema journal payload text c.requires.numbered made.decoded)
    (schema_leads guard payload text resolved made.indexed.guarded made.schema made.decoded) small (IsEvolvedIn guard journal text)
    (g.W.World.view c.args.world.now) (g.W.World.view c.append.new.world)
    (λ triple. in_force guard journal text resolved triple (made.schema, made.indexed.guarded.conforms)) c.requires.stands
    honest told (c.append.ensures.stops payload frame told)

-- ---- before the first call on the world

pub returns-in_err-renewal-clause-answer : goal.returns-in_err-renewal-clause-answer
returns-in_err-renewal-clause-answer g c =
    let p = err_from_is_err_and c.from_residual.result c.from_residual.ensures.1 in
    unrenewed c.from_residual.result p.0 c.in_err-renewal.field-0.0 p.1 p.2 c.args.guard.now c.args.journal.now c.args.schema.text (g.W.World.view c.args.world.now) c.in_err-renewal.ensures.unfit

pub returns-in_err-renewal-clause-early : goal.returns-in_err-renewal-clause-early
returns-in_err-renewal-clause-early g c = λ early. refl

pub returns-in_err-renewal-clause-faults : goal.returns-in_err-renewal-clause-faults
returns-in_err-renewal-clause-faults g c =
    let p = err_from_is_err_and c.from_residual.result c.from_residual.ensures.1 in
    uncounted c.from_residual.result p.0 c.in_err-renewal.field-0.0 p.1 p.2 (g.W.World.view c.args.world.now)

pub returns-in_err-renewal-clause-last : goal.returns-in_err-renewal-clause-last
returns-in_err-renewal-clause-last g c =
    let p = err_from_is_err_and c.from_residual.result c.from_residual.ensures.1 in
    never (is_disk_fault c.from_residual.result) (unfailed c.from_residual.result p.0 c.in_err-renewal.field-0.0 p.1 p.2)

pub returns-in_err-renewal-clause-beside : goal.returns-in_err-renewal-clause-beside
returns-in_err-renewal-clause-beside g c = none_beside c.args.journal.now.area (g.W.World.view c.args.world.now) (g.met.W.World.timed c.args.world.now)

pub returns-in_err-renewal-clause-stops : goal.returns-in_err-renewal-clause-stops
returns-in_err-renewal-clause-stops g c = λ honest told triple left.
    inl
    (still_saved c.args.guard.now c.args.journal.now (g.W.World.view c.args.world.now) (g.met.W.World.timed c.args.world.now) c.requires.stands honest told triple left)

-- ---- what the append asks

pub append-requires-clause-framed : goal.append-requires-clause-framed
append-requires-clause-framed g c = (payload_of (SchemaCommand c.args.schema.text), c.as_slice.ensures.value ∙ c.in_ok-renewal.ensures.frame)

pub append-requires-clause-within : goal.append-requires-clause-within
append-requires-clause-within g c = c.requires.bounded.end

pub append-requires-clause-next_within : goal.append-requires-clause-next_within
append-requires-clause-next_within g c = c.requires.bounded.next

pub append-requires-clause-holds : goal.append-requires-clause-holds
append-requires-clause-holds g c = λ told. let saved = c.requires.stands.saved told in (saved.0, saved.1.has.holds)

-- ---- the record is on the disk

pub returns-in-Ok-clause-bounded : goal.returns-in-Ok-clause-bounded
returns-in-Ok-clause-bounded g c =
    let journal = c.args.journal.now in
    let after = c.append.new.self in
    let frame = c.as_slice.ensures.value ∙ c.in_ok-renewal.ensures.frame in
    let same = ap (λ (s : GuardState). s.commits) c.renew.ensures in
    still_bounded journal after c.args.guard.now.commits c.renew.new.self.commits c.requires.bounded (omega (arith, same)) c.in-Ok.ensures.epoch c.in-Ok.ensures.within c.in-Ok.ensures.next_within
    (ends_later journal.next c.as_slice.result.now (payload_of (SchemaCommand c.args.schema.text)) journal.end after.end frame c.in-Ok.ensures.end)

pub returns-in-Ok-clause-early : goal.returns-in-Ok-clause-early
returns-in-Ok-clause-early g c = never false refl

pub returns-in-Ok-clause-faults : goal.returns-in-Ok-clause-faults
returns-in-Ok-clause-faults g c = c.in-Ok.ensures.faults.no_cause

pub returns-in-Ok-clause-last : goal.returns-in-Ok-clause-last
returns-in-Ok-clause-last g c = never false refl

pub returns-in-Ok-clause-beside : goal.returns-in-Ok-clause-beside
returns-in-Ok-clause-beside g c =
    let made = c.append.ensures in
    record { passes = made.passes; shown = made.beside; stops = made.stops_beside; no_put = made.no_put }

-- ---- the append failed

pub returns-in-Err-clause-bounded : goal.returns-in-Err-clause-bounded
returns-in-Err-clause-bounded g c = subst (λ (j : Journal). IsBounded j c.args.guard.now.commits) (sym c.in-Err.ensures.kept) c.requires.bounded

pub returns-in-Err-clause-early : goal.returns-in-Err-clause-early
returns-in-Err-clause-early g c = never false refl

pub returns-in-Err-clause-faults : goal.returns-in-Err-clause-faults
returns-in-Err-clause-faults g c = c.in-Err.ensures.faults.cause

pub returns-in-Err-clause-last : goal.returns-in-Err-clause-last
returns-in-Err-clause-last g c = λ failed. c.in-Err.ensures.faults.last

pub returns-in-Err-clause-beside : goal.returns-in-Err-clause-beside
returns-in-Err-clause-beside g c =
    let made = c.append.ensures in
    record { passes = made.passes; shown = made.beside; stops = made.stops_beside; no_put = made.no_put }
