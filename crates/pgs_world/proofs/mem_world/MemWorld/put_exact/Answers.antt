use Rattle.std.proofs.Common.{rules, ◌≡◌, ◌++◌, length, not, refl, sym, ◌∙◌, ap, arith, true, length-append}
use Rattle.pgs_world.specs.MemArea.{state_of}
use Rattle.pgs_world.specs.MemWorld.{State, Kept, with_output, refuses, after_put, put_done, changed}
use Rattle.pgs_world.specs.Sound.{kept_of}
use Rattle.pgs_world.specs.declared.meter.Meter.{Meter}
use Rattle.pgs_world.specs.declared.mem_contents.Note.TheVariants.{Put}
use Rattle.pgs_world.proofs.Sounds.{Changes, well_state, known_kept, grows-put, sound-changed, kept-changed, calls-admitted_piece, handed-admitted, put-done}
use Rattle.pgs_world.proofs.mem_world.MemWorld.put_exact.Goals as goal

pub returns-then-not-admits_piece-clause-known : goal.returns-then-not-admits_piece-clause-known
returns-then-not-admits_piece-clause-known c = known_kept c.self.inside c.args.self.now c.self.view_is c.self.invariant

pub count_put-requires : goal.count_put-requires
count_put-requires c =
    let admits : c.admits_piece.result ≡ true = search rules in
    let few = calls-admitted_piece c.self.inside.meter (length c.args.piece.now) (sym c.admits_piece.ensures.admits ∙ admits) in
    omega (arith, ap (λ (m : Meter). m.puts) c.admits_piece.ensures.counted, few, c.self.invariant.puts_fit, c.self.invariant.notes_fit, c.self.invariant.most, c.self.invariant.small)

change : (c : goal.After-add_note) → Changes c.self.inside c.put.new.self c.add_note.new.notes c.add_note.new.pieces c.count_put.new.self (Put (length c.args.piece.now)) c.args.piece.now
change c =
    let now = state_of c.self.inside.contents in
    let well = well_state c.self.inside.contents c.self.invariant.well in
    let meter = c.count_put.ensures ∙ ap put_done c.admits_piece.ensures.counted in
    let admits : c.admits_piece.result ≡ true = search rules in
    let passed = sym c.admits_piece.ensures.admits ∙ admits in
    let few = calls-admitted_piece c.self.inside.meter (length c.args.piece.now) passed in
    let small = handed-admitted c.self.inside.meter (length c.args.piece.now) passed in
    record {
      size = refl;
      state = c.put.ensures.state;
      well = record { a = well.a; b = well.b };
      grows = grows-put now c.args.piece.now;
      areas_room = c.put.ensures.room;
      output_fits = omega (arith, ap (λ (s : State). length s.output) c.put.ensures.state, length-append c.self.inside.contents.output.items c.args.piece.now);
      output_room = c.put.ensures.output;
      added = c.add_note.ensures.notes;
      handed_over = c.add_note.ensures.pieces;
      notes_room = c.add_note.ensures.notes_room;
      pieces_room = c.add_note.ensures.pieces_room;
      handed = omega (arith, ap (λ (m : Meter). m.handed) meter, small, c.self.invariant.small);
      calls = omega (arith, ap (λ (m : Meter). m.calls) meter, few, c.self.invariant.most, c.self.invariant.small);
      call_count = omega (arith, ap (λ (m : Meter). m.calls) meter);
      area_count = ap (λ (m : Meter). m.area_faults) meter;
      put_count = ap (λ (m : Meter). m.put_faults) meter;
      puts = omega (arith, ap (λ (m : Meter). m.puts) meter);
      room_left = omega (arith, ap (λ (m : Meter). m.room) meter, small, c.self.invariant.small, c.self.invariant.pieces_fit);
      room = ap (λ (m : Meter). m.room) meter;
      most = ap (λ (m : Meter). m.most) meter;
    }

pub invariant_of-self-2 : goal.invariant_of-self-2
invariant_of-self-2 c =
    sound-changed c.self.inside c.put.new.self c.add_note.new.notes c.add_note.new.pieces c.count_put.new.self (Put (length c.args.piece.now)) c.args.piece.now c.self.invariant (change c)

pub returns-clause-after : goal.returns-clause-after
returns-clause-after c =
    let old = kept_of c.self.inside in
    let did : not (refuses old.meter (length c.args.piece.now)) ≡ true = search rules in
    kept-changed c.self.inside c.put.new.self c.add_note.new.notes c.add_note.new.pieces c.count_put.new.self (Put (length c.args.piece.now)) c.args.piece.now c.self.invariant (change c)
    ∙ ap (λ (m : Meter). changed old m (with_output (old.now.output ++ c.args.piece.now) old.now)) (c.count_put.ensures ∙ ap put_done c.admits_piece.ensures.counted)
    ∙ sym (put-done old c.args.piece.now did)
    ∙ ap (λ (k : Kept). after_put k c.args.piece.now) c.self.view_is

pub returns-clause-known : goal.returns-clause-known
returns-clause-known c = known_kept c.self.inside c.args.self.now c.self.view_is c.self.invariant
