use Rattle.std.proofs.Common.{rules, ◌≡◌, [], ℕ, length, not, refl, sym, ◌∙◌, ap, arith, true, Vec, vec_capacity}
use Rattle.std.specs.declared.alloc.Global.{Global}
use Rattle.pgs_world.specs.Held.{Held, on_disk}
use Rattle.pgs_world.specs.MemArea.{state_of}
use Rattle.pgs_world.specs.MemWorld.{Kept, area_of, with_area, fails_next, after_sync, changed}
use Rattle.pgs_world.specs.Sound.{kept_of}
use Rattle.pgs_world.specs.declared.meter.Meter.{Meter}
use Rattle.pgs_world.specs.declared.mem_contents.Note.TheVariants.{Sync}
use Rattle.pgs_world.proofs.MemMoments.{well-sync}
use Rattle.pgs_world.proofs.Sounds.{Changes, area-state, well_state, known_kept, grows-sync, sound-changed, kept-changed, calls-admitted, sync-done, synced_room}
use Rattle.pgs_world.proofs.mem_world.MemWorld.sync_exact.Goals as goal

pub returns-then-not-admits-clause-known : goal.returns-then-not-admits-clause-known
returns-then-not-admits-clause-known c = known_kept c.self.inside c.args.self.now c.self.view_is c.self.invariant

pub sync-requires : goal.sync-requires
sync-requires c = synced_room c.self.inside c.args.area c.self.invariant

change : (c : goal.After-add_note) → Changes c.self.inside c.sync.new.self c.add_note.new.notes c.add_note.new.pieces c.admits.new.self (Sync c.args.area) []
change c =
    let now = state_of c.self.inside.contents in
    let well = well_state c.self.inside.contents c.self.invariant.well in
    let meter = c.admits.ensures.counted in
    let admits : c.admits.result ≡ true = search rules in
    let passed = sym c.admits.ensures.admits ∙ admits in
    let few = calls-admitted c.self.inside.meter passed in
    record {
      size = refl;
      state = c.sync.ensures.state ∙ ap (λ (h : Held). with_area c.args.area (on_disk h.bytes) now) (sym (area-state c.args.area c.self.inside.contents));
      well = well-sync c.args.area now well;
      grows = grows-sync c.args.area now well;
      areas_room = c.sync.ensures.room;
      output_fits = omega (arith, ap (λ (v : Vec ℕ Global). length v.items) c.sync.ensures.output);
      output_room = omega (arith, ap (λ (v : Vec ℕ Global). vec_capacity v) c.sync.ensures.output);
      added = c.add_note.ensures.notes;
      handed_over = c.add_note.ensures.pieces;
      notes_room = c.add_note.ensures.notes_room;
      pieces_room = c.add_note.ensures.pieces_room;
      handed = omega (arith, ap (λ (m : Meter). m.handed) meter);
      calls = omega (arith, ap (λ (m : Meter). m.calls) meter, few, c.self.invariant.most, c.self.invariant.small);
      call_count = omega (arith, ap (λ (m : Meter). m.calls) meter);
      area_count = ap (λ (m : Meter). m.area_faults) meter;
      put_count = ap (λ (m : Meter). m.put_faults) meter;
      puts = omega (arith, ap (λ (m : Meter). m.puts) meter);
      room_left = omega (arith, ap (λ (m : Meter). m.room) meter, c.self.invariant.pieces_room_left);
      room = ap (λ (m : Meter). m.room) meter;
      most = ap (λ (m : Meter). m.most) meter;
    }

pub invariant_of-self-2 : goal.invariant_of-self-2
invariant_of-self-2 c =
    sound-changed c.self.inside c.sync.new.self c.add_note.new.notes c.add_note.new.pieces c.admits.new.self (Sync c.args.area) [] c.self.invariant (change c)

pub returns-clause-after : goal.returns-clause-after
returns-clause-after c =
    let old = kept_of c.self.inside in
    let did : not (fails_next old.meter) ≡ true = search rules in
    kept-changed c.self.inside c.sync.new.self c.add_note.new.notes c.add_note.new.pieces c.admits.new.self (Sync c.args.area) [] c.self.invariant (change c)
    ∙ ap (λ (m : Meter). changed old m (with_area c.args.area (on_disk (area_of c.args.area old.now).bytes) old.now)) c.admits.ensures.counted
    ∙ sym (sync-done old c.args.area did)
    ∙ ap (λ (k : Kept). after_sync k c.args.area) c.self.view_is

pub returns-clause-known : goal.returns-clause-known
returns-clause-known c = known_kept c.self.inside c.args.self.now c.self.view_is c.self.invariant
