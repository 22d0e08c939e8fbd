use Rattle.std.proofs.Common.{ℕ, ◌+◌, [], ◌∷◌, ◌++◌, length, refl, sym, ◌∙◌, subst, arith}
use Rattle.std.specs.declared.option.Option.{Option}
use Rattle.pgs_world.specs.Count.{RoseByOne}
use Rattle.pgs_world.specs.Disk.{Writes, IsSameBeside}
use Rattle.pgs_world.specs.World.{part}
use Rattle.pgs_world.proofs.Moments.{passes_on}
use Rattle.pgs_journal.specs.Appended.{GoesOn}
use Rattle.pgs_journal.specs.Format.{IsNextWithin, Holds}
use Rattle.pgs_journal.specs.Stops.{Turns, Appends}
use Rattle.pgs_journal.proofs.Appending.{first_write, first_step, append_stops, append_writes, holds-both, advanced-within, not_appended}
use Rattle.pgs_journal.proofs.Composing.{stops_weaker, beside_on, beside_then}
use Rattle.pgs_journal.proofs.Images.{within}
use Rattle.pgs_journal.proofs.journal.Journal.append.Goals as goal

pub returns-in_err-write_synced : goal.returns-in_err-write_synced
returns-in_err-write_synced g c =
    let j = c.args.self.now in
    let frame = c.args.frame.now in
    let old = g.W.World.view c.args.world.now in
    let new = g.W.World.view c.write_synced.new.world in
    let one = c.write_synced.ensures in
    let failed = c.in_err-write_synced.ensures in
    not_appended j frame c.from_residual.result (g.W.World.failed c.write_synced.new.world) old new c.from_residual.ensures.0
    (λ payload is told. stops_weaker old new (Writes j.area (j.end + 1) (length frame)) (Turns j.area (Appends j.next j.epoch j.end payload)) (first_write j.area j.next j.epoch j.end frame payload is) one.stops)
    (λ told.
    stops_weaker old new (Writes j.area (j.end + 1) (length frame)) (Turns j.area (GoesOn j.next j.epoch j.end))
    (first_step j.area j.next j.epoch j.end frame c.requires.framed.0 c.requires.framed.1 c.requires.within) one.stops)
    (stops_weaker old new (Writes j.area (j.end + 1) (length frame)) (IsSameBeside j.area) (λ d e write. write.same) one.stops)
    one.beside one.passes one.call.image failed.call.cause failed.last one.call.no_put

pub returns-in_err-write_synced-2 : goal.returns-in_err-write_synced-2
returns-in_err-write_synced-2 g c =
    let j = c.args.self.now in
    let frame = c.args.frame.now in
    let old = g.W.World.view c.args.world.now in
    let mid = g.W.World.view c.write_synced.new.world in
    let new = g.W.World.view c.write_synced-2.new.world in
    let one = c.write_synced.ensures in
    let two = c.write_synced-2.ensures in
    let done = c.in_ok-write_synced.ensures in
    let failed = c.in_err-write_synced-2.ensures in
    not_appended j frame c.from_residual-in_err-write_synced-2.result (g.W.World.failed c.write_synced-2.new.world) old new c.from_residual-in_err-write_synced-2.ensures.0
    (λ payload is told.
    let held = c.requires.holds told in
    append_stops j.area j.next j.epoch j.end frame payload is (part j.area old.shown) (part j.area mid.shown) (done.written told) (within j.next j.epoch held.0 j.end (part j.area old.shown) held.1) old mid
    new told refl done.synced one.passes two.passes one.stops two.stops)
    (λ told.
    let held = c.requires.holds told in
    append_writes j.area j.next j.epoch j.end frame c.requires.framed.0 c.requires.framed.1 (part j.area old.shown) (part j.area mid.shown) (done.written told)
    (within j.next j.epoch held.0 j.end (part j.area old.shown) held.1) old mid new told refl done.synced one.passes two.passes one.stops two.stops c.requires.within (omega (arith, done.limit)))
    (beside_then j.area old mid new one.passes two.passes (stops_weaker old mid (Writes j.area (j.end + 1) (length frame)) (IsSameBeside j.area) (λ d e write. write.same) one.stops)
    (stops_weaker mid new (Writes j.area j.end 1) (IsSameBeside j.area) (λ d e write. write.same) two.stops))
    (beside_on j.area old.shown mid.shown new.shown one.beside two.beside) (passes_on old mid new one.passes two.passes) two.call.image (subst (λ n. RoseByOne n new.area_faults) done.call.no_cause failed.call.cause) failed.last
    (record { puts = two.call.no_put.puts ∙ one.call.no_put.puts; put_faults = two.call.no_put.put_faults ∙ one.call.no_put.put_faults })

pub returns : goal.returns
returns g c =
    let j = c.args.self.now in
    let frame = c.args.frame.now in
    let old = g.W.World.view c.args.world.now in
    let mid = g.W.World.view c.write_synced.new.world in
    let new = g.W.World.view c.write_synced-2.new.world in
    let one = c.write_synced.ensures in
    let two = c.write_synced-2.ensures in
    let done = c.in_ok-write_synced.ensures in
    let both = c.in_ok-write_synced-2.ensures in
    record {
      holds = λ payload payloads is held told.
          subst (λ (next : Option ℕ). Holds next j.epoch (payloads ++ payload ∷ []) (j.end + length frame) (part j.area new.shown)) (sym c.number_after-self.ensures)
          (holds-both j.area j.next j.epoch j.end frame payload is (part j.area old.shown) (part j.area mid.shown) (done.written told) (within j.next j.epoch payloads j.end (part j.area old.shown) held) payloads
          (part j.area new.shown) held (both.written (one.passes.tells_bytes ∙ told)));
      synced = both.synced;
      settled = λ settled. both.settled (done.settled settled);
      area = refl;
      epoch = refl;
      end = refl;
      next = c.number_after-self.ensures;
      within = omega (arith, done.limit);
      next_within =
          subst (λ (next : Option ℕ). IsNextWithin next (j.end + length frame)) (sym c.number_after-self.ensures)
          (advanced-within j.next j.end frame c.requires.framed.0 c.requires.framed.1 c.requires.next_within);
      kept = tt;
      stops = λ payload is told.
          let held = c.requires.holds told in
          append_stops j.area j.next j.epoch j.end frame payload is (part j.area old.shown) (part j.area mid.shown) (done.written told) (within j.next j.epoch held.0 j.end (part j.area old.shown) held.1) old mid
          new told refl done.synced one.passes two.passes one.stops two.stops;
      writes = λ told.
          let held = c.requires.holds told in
          append_writes j.area j.next j.epoch j.end frame c.requires.framed.0 c.requires.framed.1 (part j.area old.shown) (part j.area mid.shown) (done.written told)
          (within j.next j.epoch held.0 j.end (part j.area old.shown) held.1) old mid new told refl done.synced one.passes two.passes one.stops two.stops c.requires.within (omega (arith, done.limit));
      stops_beside =
          beside_then j.area old mid new one.passes two.passes (stops_weaker old mid (Writes j.area (j.end + 1) (length frame)) (IsSameBeside j.area) (λ d e write. write.same) one.stops)
          (stops_weaker mid new (Writes j.area j.end 1) (IsSameBeside j.area) (λ d e write. write.same) two.stops);
      beside = beside_on j.area old.shown mid.shown new.shown one.beside two.beside;
      passes = passes_on old mid new one.passes two.passes;
      image = two.call.image;
      faults = record { cause = tt; last = tt; no_cause = both.call.no_cause ∙ done.call.no_cause };
      no_put = record { puts = two.call.no_put.puts ∙ one.call.no_put.puts; put_faults = two.call.no_put.put_faults ∙ one.call.no_put.put_faults };
    }
