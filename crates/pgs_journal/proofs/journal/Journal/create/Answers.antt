use Rattle.std.proofs.Common.{List, ℕ, ◌≡◌, ◌≤◌, length, take, false, IsTrue, refl, sym, ◌∙◌, ap, arith, length-take}
use Rattle.pgs_world.specs.World.{part}
use Rattle.pgs_journal.specs.Area.{opens}
use Rattle.pgs_journal.proofs.Creating.{IsUnopened, closed_first, cut_then, kept_then, opened_then, not_made, holds-opened, opens_first, frames-within}
use Rattle.pgs_journal.proofs.journal.Journal.create.Goals as goal

one_byte_left : (old new : List ℕ) → 1 ≤ length old → new ≡ take 1 old → length new ≡ 1
one_byte_left old new some is = omega (arith, ap length is, length-take 1 old, some)

-- the gate stays closed where all behind it is cut off
closed_still : (old new : List ℕ) → opens old ≡ false → new ≡ take 1 old → opens new ≡ false
closed_still old new closed is = ap opens is ∙ sym (opens_first old) ∙ closed

pub returns-in_err-close_gate-clause-made : goal.returns-in_err-close_gate-clause-made
returns-in_err-close_gate-clause-made g c =
    let close = c.close_gate.ensures in
    let failed = c.in_err-close_gate.ensures.step.faults in
    let at_gate = closed_first c.args.area c.args.epoch c.args.next c.args.first.now close.stops close.stops_beside close.beside close.step.passes close.step.no_put in
    not_made c.from_residual.result (g.W.World.failed c.close_gate.new.world) c.from_residual.ensures.0 at_gate close.step.image refl failed.cause failed.last

pub returns-in_err-cut_synced-clause-made : goal.returns-in_err-cut_synced-clause-made
returns-in_err-cut_synced-clause-made g c =
    let close = c.close_gate.ensures in
    let closed = c.in_ok-close_gate.ensures in
    let cut = c.cut_synced.ensures in
    let failed = c.in_err-cut_synced.ensures in
    let at_gate = closed_first c.args.area c.args.epoch c.args.next c.args.first.now close.stops close.stops_beside close.beside close.step.passes close.step.no_put in
    let at_cut = cut_then closed.synced closed.closed at_gate cut.passes cut.stops cut.beside cut.call.no_put in
    not_made c.from_residual-in_err-cut_synced.result (g.W.World.failed c.cut_synced.new.world) c.from_residual-in_err-cut_synced.ensures.0 at_cut cut.call.image closed.step.faults.no_cause failed.call.cause failed.last

pub returns-in_err-write_store-clause-made : goal.returns-in_err-write_store-clause-made
returns-in_err-write_store-clause-made g c =
    let close = c.close_gate.ensures in
    let closed = c.in_ok-close_gate.ensures in
    let cut = c.cut_synced.ensures in
    let short = c.in_ok-cut_synced.ensures in
    let write = c.write_store.ensures in
    let failed = c.in_err-write_store.ensures.step.faults in
    let at_gate = closed_first c.args.area c.args.epoch c.args.next c.args.first.now close.stops close.stops_beside close.beside close.step.passes close.step.no_put in
    let at_cut = cut_then closed.synced closed.closed at_gate cut.passes cut.stops cut.beside cut.call.no_put in
    let at_store =
    kept_then (λ _. short.synced)
    (λ told. closed_still (part c.args.area (g.W.World.view c.close_gate.new.world).shown) (part c.args.area (g.W.World.view c.cut_synced.new.world).shown) (closed.closed told) (short.cut (at_gate.passes.tells_bytes ∙ told)))
    at_cut write.step.passes write.stops write.beside write.step.no_put in
    not_made c.from_residual-in_err-write_store.result (g.W.World.failed c.write_store.new.world) c.from_residual-in_err-write_store.ensures.0 at_store write.step.image (short.call.no_cause ∙ closed.step.faults.no_cause) failed.cause failed.last

pub returns-in_err-write_synced-clause-made : goal.returns-in_err-write_synced-clause-made
returns-in_err-write_synced-clause-made g c =
    let close = c.close_gate.ensures in
    let closed = c.in_ok-close_gate.ensures in
    let cut = c.cut_synced.ensures in
    let short = c.in_ok-cut_synced.ensures in
    let write = c.write_store.ensures in
    let written = c.in_ok-write_store.ensures in
    let opening = c.write_synced.ensures in
    let failed = c.in_err-write_synced.ensures in
    let at_gate = closed_first c.args.area c.args.epoch c.args.next c.args.first.now close.stops close.stops_beside close.beside close.step.passes close.step.no_put in
    let at_cut = cut_then closed.synced closed.closed at_gate cut.passes cut.stops cut.beside cut.call.no_put in
    let at_store =
    kept_then (λ _. short.synced)
    (λ told. closed_still (part c.args.area (g.W.World.view c.close_gate.new.world).shown) (part c.args.area (g.W.World.view c.cut_synced.new.world).shown) (closed.closed told) (short.cut (at_gate.passes.tells_bytes ∙ told)))
    at_cut write.step.passes write.stops write.beside write.step.no_put in
    let unopened : IsTrue (g.W.World.view c.args.world.now).tells_bytes → IsUnopened c.args.epoch c.args.first.now (part c.args.area (g.W.World.view c.write_store.new.world).shown) =
    λ told.
    record {
      gate = part c.args.area (g.W.World.view c.cut_synced.new.world).shown;
      one =
          one_byte_left (part c.args.area (g.W.World.view c.close_gate.new.world).shown) (part c.args.area (g.W.World.view c.cut_synced.new.world).shown) (closed.some told)
          (short.cut (at_gate.passes.tells_bytes ∙ told));
      bytes = written.written (at_cut.passes.tells_bytes ∙ told);
    } in
    let at_end = opened_then c.requires.epoch written.synced unopened at_store opening.passes opening.stops opening.beside opening.call.no_put in
    not_made c.from_residual-in_err-write_synced.result (g.W.World.failed c.write_synced.new.world) c.from_residual-in_err-write_synced.ensures.0 at_end opening.call.image (written.step.faults.no_cause ∙ short.call.no_cause ∙ closed.step.faults.no_cause) failed.call.cause failed.last

pub returns-clause-made : goal.returns-clause-made
returns-clause-made g c =
    let close = c.close_gate.ensures in
    let closed = c.in_ok-close_gate.ensures in
    let cut = c.cut_synced.ensures in
    let short = c.in_ok-cut_synced.ensures in
    let write = c.write_store.ensures in
    let written = c.in_ok-write_store.ensures in
    let opening = c.write_synced.ensures in
    let opened = c.in_ok-write_synced.ensures in
    let at_gate = closed_first c.args.area c.args.epoch c.args.next c.args.first.now close.stops close.stops_beside close.beside close.step.passes close.step.no_put in
    let at_cut = cut_then closed.synced closed.closed at_gate cut.passes cut.stops cut.beside cut.call.no_put in
    let at_store =
    kept_then (λ _. short.synced)
    (λ told. closed_still (part c.args.area (g.W.World.view c.close_gate.new.world).shown) (part c.args.area (g.W.World.view c.cut_synced.new.world).shown) (closed.closed told) (short.cut (at_gate.passes.tells_bytes ∙ told)))
    at_cut write.step.passes write.stops write.beside write.step.no_put in
    let unopened : IsTrue (g.W.World.view c.args.world.now).tells_bytes → IsUnopened c.args.epoch c.args.first.now (part c.args.area (g.W.World.view c.write_store.new.world).shown) =
    λ told.
    record {
      gate = part c.args.area (g.W.World.view c.cut_synced.new.world).shown;
      one =
          one_byte_left (part c.args.area (g.W.World.view c.close_gate.new.world).shown) (part c.args.area (g.W.World.view c.cut_synced.new.world).shown) (closed.some told)
          (short.cut (at_gate.passes.tells_bytes ∙ told));
      bytes = written.written (at_cut.passes.tells_bytes ∙ told);
    } in
    let at_end = opened_then c.requires.epoch written.synced unopened at_store opening.passes opening.stops opening.beside opening.call.no_put in
    record {
      holds = λ payloads frames told.
          holds-opened c.args.epoch payloads c.args.next c.args.first.now (part c.args.area (g.W.World.view c.write_store.new.world).shown) (part c.args.area (g.W.World.view c.write_synced.new.world).shown)
          c.requires.epoch frames (unopened told) (opened.written (at_store.passes.tells_bytes ∙ told));
      settled = λ settled. opened.settled (written.settled (short.settled (closed.settled settled)));
      journal = refl;
      within = omega (arith, written.limit);
      next_within = frames-within c.requires.frames.0 c.args.next c.args.first.now c.requires.frames.1;
      stops = at_end.stops;
      stops_beside = at_end.stops_beside;
      beside = at_end.beside;
      step =
          record {
            passes = at_end.passes;
            image = opening.call.image;
            faults = record { cause = tt; last = tt; no_cause = opened.call.no_cause ∙ written.step.faults.no_cause ∙ short.call.no_cause ∙ closed.step.faults.no_cause };
            no_put = at_end.no_put;
          };
    }
