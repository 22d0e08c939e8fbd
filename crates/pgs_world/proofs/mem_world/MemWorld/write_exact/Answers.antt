use Rattle.std.proofs.Common.{rules, ◌≡◌, ◌≤◌, ℕ, length, not, refl, sym, ◌∙◌, ap, subst, arith, true, Vec, vec_capacity}
use Rattle.std.proofs.lemmas.Grind.{common_steps}
use Rattle.std.specs.declared.alloc.Global.{Global}
use Rattle.pgs_world.specs.Held.{Held, after_write}
use Rattle.pgs_world.specs.MemArea.{state_of}
use Rattle.pgs_world.specs.MemWorld.{Kept, area_of, with_area, write_fails, after_write_at, changed}
use Rattle.pgs_world.specs.Sound.{kept_of}
use Rattle.pgs_world.specs.declared.meter.Meter.{Meter}
use Rattle.pgs_world.specs.declared.mem_contents.Note.TheVariants.{Write}
use Rattle.pgs_world.proofs.MemMoments.{well-write}
use Rattle.pgs_world.proofs.Sounds.{Changes, area-state, well_state, known_kept, grows-write, sound-changed, kept-changed, calls-admitted_piece, handed-admitted, write-done}
use Rattle.pgs_world.proofs.mem_world.MemWorld.write_exact.Goals as goal

pub returns-then-not-admits-clause-known : goal.returns-then-not-admits-clause-known
returns-then-not-admits-clause-known c = known_kept c.self.inside c.args.self.now c.self.view_is c.self.invariant

change : (c : goal.After-add_note) → Changes c.self.inside c.write.new.self c.add_note.new.notes c.add_note.new.pieces c.admits_piece-admits.new.self (Write c.args.area c.args.at (length c.args.bytes.now)) c.args.bytes.now
change c =
    let now = state_of c.self.inside.contents in
    let well = well_state c.self.inside.contents c.self.invariant.well in
    let le : c.args.at ≤ length (area_of c.args.area now).bytes = subst (λ (k : Kept). c.args.at ≤ length (area_of c.args.area k.now).bytes) (sym c.self.view_is) c.requires in
    let meter = c.admits_piece-admits.ensures.counted in
    let admits : c.admits_piece-admits.result ≡ true = search rules in
    let passed = sym c.admits_piece-admits.ensures.admits ∙ admits in
    let few = calls-admitted_piece c.self.inside.meter (length c.args.bytes.now) passed in
    let small = handed-admitted c.self.inside.meter (length c.args.bytes.now) passed in
    record {
      size = refl;
      state = c.write.ensures.state ∙ ap (λ (h : Held). with_area c.args.area (after_write h c.args.at c.args.bytes.now) now) (sym (area-state c.args.area c.self.inside.contents));
      well = well-write c.args.area now c.args.at c.args.bytes.now well le;
      grows = grows-write c.args.area now c.args.at c.args.bytes.now well le;
      areas_room = c.write.ensures.room;
      output_fits = omega (arith, ap (λ (v : Vec ℕ Global). length v.items) c.write.ensures.output);
      output_room = omega (arith, ap (λ (v : Vec ℕ Global). vec_capacity v) c.write.ensures.output);
      added = c.add_note.ensures.notes;
      handed_over = c.add_note.ensures.pieces;
      notes_room = c.add_note.ensures.notes_room;
      pieces_room = c.add_note.ensures.pieces_room;
      handed = omega (arith, ap (λ (m : Meter). m.handed) meter, small, c.self.invariant.small);
      calls = omega (arith, ap (λ (m : Meter). m.calls) meter, few, c.self.invariant.most, c.self.invariant.small);
      call_count = omega (arith, ap (λ (m : Meter). m.calls) meter);
      area_count = ap (λ (m : Meter). m.area_faults) meter;
      put_count = ap (λ (m : Meter). m.put_faults) meter;
      puts = omega (arith, ap (λ (m : Meter). m.puts) meter);
      room_left = omega (arith, ap (λ (m : Meter). m.room) meter, small, c.self.invariant.small, c.self.invariant.pieces_fit);
      room = ap (λ (m : Meter). m.room) meter;
      most = ap (λ (m : Meter). m.most) meter;
    }

pub invariant_of-self-2 : goal.invariant_of-self-2
invariant_of-self-2 c =
    sound-changed c.self.inside c.write.new.self c.add_note.new.notes c.add_note.new.pieces c.admits_piece-admits.new.self (Write c.args.area c.args.at (length c.args.bytes.now)) c.args.bytes.now c.self.invariant (change c)

pub returns-clause-after : goal.returns-clause-after
returns-clause-after c =
    let old = kept_of c.self.inside in
    let did : not (write_fails old c.args.at (length c.args.bytes.now)) ≡ true = grind (arith, common_steps) in
    kept-changed c.self.inside c.write.new.self c.add_note.new.notes c.add_note.new.pieces c.admits_piece-admits.new.self (Write c.args.area c.args.at (length c.args.bytes.now)) c.args.bytes.now c.self.invariant (change c)
    ∙ ap (λ (m : Meter). changed old m (with_area c.args.area (after_write (area_of c.args.area old.now) c.args.at c.args.bytes.now) old.now)) c.admits_piece-admits.ensures.counted
    ∙ sym (write-done old c.args.area c.args.at c.args.bytes.now did)
    ∙ ap (λ (k : Kept). after_write_at k c.args.area c.args.at c.args.bytes.now) c.self.view_is

pub returns-clause-known : goal.returns-clause-known
returns-clause-known c = known_kept c.self.inside c.args.self.now c.self.view_is c.self.invariant
