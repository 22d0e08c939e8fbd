use Rattle.std.proofs.Common.{rules, ◌≡◌, [], ℕ, length, not, refl, sym, ◌∙◌, ap, arith, true, Vec, vec_capacity}
use Rattle.std.specs.declared.alloc.Global.{Global}
use Rattle.pgs_world.specs.Held.{Held, after_cut}
use Rattle.pgs_world.specs.MemArea.{state_of}
use Rattle.pgs_world.specs.MemWorld.{Kept, area_of, with_area, fails_next, after_cut_to, changed}
use Rattle.pgs_world.specs.Sound.{kept_of}
use Rattle.pgs_world.specs.declared.meter.Meter.{Meter}
use Rattle.pgs_world.specs.declared.mem_contents.Note.TheVariants.{Cut}
use Rattle.pgs_world.proofs.MemMoments.{well-cut}
use Rattle.pgs_world.proofs.Sounds.{Changes, area-state, well_state, known_kept, grows-cut, sound-changed, kept-changed, calls-admitted, cut-done}
use Rattle.pgs_world.proofs.mem_world.MemWorld.cut_exact.Goals as goal

pub returns-then-not-admits-clause-known : goal.returns-then-not-admits-clause-known
returns-then-not-admits-clause-known c = known_kept c.self.inside c.args.self.now c.self.view_is c.self.invariant

change : (c : goal.After-add_note) → Changes c.self.inside c.cut.new.self c.add_note.new.notes c.add_note.new.pieces c.admits.new.self (Cut c.args.area c.args.len) []
change c =
    let now = state_of c.self.inside.contents in
    let well = well_state c.self.inside.contents c.self.invariant.well in
    let meter = c.admits.ensures.counted in
    let admits : c.admits.result ≡ true = search rules in
    let passed = sym c.admits.ensures.admits ∙ admits in
    let few = calls-admitted c.self.inside.meter passed in
    record {
      size = refl;
      state = c.cut.ensures.state ∙ ap (λ (h : Held). with_area c.args.area (after_cut h c.args.len) now) (sym (area-state c.args.area c.self.inside.contents));
      well = well-cut c.args.area now c.args.len well;
      grows = grows-cut c.args.area now c.args.len;
      areas_room = c.cut.ensures.room;
      output_fits = omega (arith, ap (λ (v : Vec ℕ Global). length v.items) c.cut.ensures.output);
      output_room = omega (arith, ap (λ (v : Vec ℕ Global). vec_capacity v) c.cut.ensures.output);
      added = c.add_note.ensures.notes;
      handed_over = c.add_note.ensures.pieces;
      notes_room = c.add_note.ensures.notes_room;
      pieces_room = c.add_note.ensures.pieces_room;
      handed = omega (arith, ap (λ (m : Meter). m.handed) meter);
      calls = omega (arith, ap (λ (m : Meter). m.calls) meter, few, c.self.invariant.most, c.self.invariant.small);
      call_count = omega (arith, ap (λ (m : Meter). m.calls) meter);
      area_count = ap (λ (m : Meter). m.area_faults) meter;
      put_count = ap (λ (m : Meter). m.put_faults) meter;
      puts = omega (arith, ap (λ (m : Meter). m.puts) meter);
      room_left = omega (arith, ap (λ (m : Meter). m.room) meter, c.self.invariant.pieces_room_left);
      room = ap (λ (m : Meter). m.room) meter;
      most = ap (λ (m : Meter). m.most) meter;
    }

pub invariant_of-self-2 : goal.invariant_of-self-2
invariant_of-self-2 c =
    sound-changed c.self.inside c.cut.new.self c.add_note.new.notes c.add_note.new.pieces c.admits.new.self (Cut c.args.area c.args.len) [] c.self.invariant (change c)

pub returns-clause-after : goal.returns-clause-after
returns-clause-after c =
    let old = kept_of c.self.inside in
    let did : not (fails_next old.meter) ≡ true = search rules in
    kept-changed c.self.inside c.cut.new.self c.add_note.new.notes c.add_note.new.pieces c.admits.new.self (Cut c.args.area c.args.len) [] c.self.invariant (change c)
    ∙ ap (λ (m : Meter). changed old m (with_area c.args.area (after_cut (area_of c.args.area old.now) c.args.len) old.now)) c.admits.ensures.counted
    ∙ sym (cut-done old c.args.area c.args.len did)
    ∙ ap (λ (k : Kept). after_cut_to k c.args.area c.args.len) c.self.view_is

pub returns-clause-known : goal.returns-clause-known
returns-clause-known c = known_kept c.self.inside c.args.self.now c.self.view_is c.self.invariant
