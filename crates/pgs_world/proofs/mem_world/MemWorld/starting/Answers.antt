use Rattle.std.proofs.Common.{refl, sym, subst, arith}
use Rattle.pgs_world.specs.Sound.{IsSound}
use Rattle.pgs_world.specs.declared.meter.Meter.{Meter}
use Rattle.pgs_world.proofs.Sounds.{sound_begun}
use Rattle.pgs_world.proofs.mem_world.MemWorld.starting.Goals as goal

pub invariant_of-result : goal.invariant_of-result
invariant_of-result c =
    let made = c.in_ok-contents.ensures in
    subst (λ (m : Meter). IsSound (record { first_a = c.args.a; first_b = c.args.b; contents = c.in_ok-contents.contents; notes = c.in_ok-notes.notes; pieces = c.in_ok-pieces.pieces; meter = m })) (sym c.new-2.ensures)
    (sound_begun c.args.a c.args.b c.in_ok-contents.contents c.in_ok-notes.notes c.in_ok-pieces.pieces _ made.state made.areas_room made.output_room c.in_ok-notes.ensures.items c.in_ok-pieces.ensures.items
    (omega (arith, c.in_ok-notes.ensures.exact)) (omega (arith, c.in_ok-pieces.ensures.exact)) c.requires.most c.requires.room refl refl refl refl)
