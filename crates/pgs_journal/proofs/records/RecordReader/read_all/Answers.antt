use Rattle.std.proofs.Common.{◌≡◌, ℕ, ◌+◌, Bool, List, [], ◌∷◌, ◌++◌, length, refl, sym, ◌∙◌, ap, subst, arith, if◌then◌else◌, length-append}
use Rattle.pgs_world.proofs.Moments.{quiet_none, quiet_on}
use Rattle.pgs_journal.specs.declared.area_state.AreaState.TheVariants.{Store}
use Rattle.pgs_journal.specs.declared.format.Format.{Format}
use Rattle.pgs_journal.specs.Format.{record_number, next_after, opened}
use Rattle.pgs_journal.specs.Seen.{IsTorn, IsUnsound, IsSettled}
use Rattle.pgs_journal.specs.Told.{IsOpenYet, IsStateOf}
use Rattle.pgs_journal.proofs.Stepping.{IsAt, head_size, closed_gate, none_counted, some_counted, at_first, store_at, none_at, damaged_at, at_next, read_back}
use Rattle.pgs_journal.proofs.Telling.{length_still, settled_back}
use Rattle.pgs_journal.proofs.records.RecordReader.read_all.Goals as goal

front_size : (format : Format) (epoch gate : ℕ) → length (opened format epoch [] ++ gate ∷ []) ≡ 17
front_size format epoch gate = omega (arith, length-append (opened format epoch []) (gate ∷ []), head_size format epoch)

pub loop-gate-init : goal.loop-gate-init
loop-gate-init g c =
    let view = g.W.World.view c.args.world.now in
    let self = c.args.self.now in
    let front : List ℕ = opened self.format self.epoch [] ++ c.args.gate ∷ [] in
    record {
      at =
          subst (λ (ps : List (List ℕ)). IsAt g.W.World.answered view self.area c.args.world.now c.args.world.now front self.format self.epoch 16 ps c.args.gate) (sym c.new-payloads.ensures.items)
          (at_first g.W.World.answered view self.area front self.format self.epoch (front_size self.format self.epoch c.args.gate) c.requires.epoch c.args.world.now c.args.gate refl);
      limit = c.requires.limit;
      len = c.requires.len;
      quiet = quiet_none view (g.met.W.World.timed c.args.world.now);
      image = c.requires.image;
      faults = refl;
      no_put = record { puts = refl; put_faults = refl };
    }

pub returns-in_default-clause-settled : goal.returns-in_default-clause-settled
returns-in_default-clause-settled g c =
    let view = g.W.World.view c.args.world.now in
    let now = g.W.World.view c.loop-gate.world in
    let self = c.args.self.now in
    let front : List ℕ = opened self.format self.epoch [] ++ c.args.gate ∷ [] in
    let at = c.loop-gate.at in
    let payloads = c.loop-gate.payloads in
    let number = c.len.result + 1 in
    damaged_at g.W.World.answered view self.area front self.format self.epoch (front_size self.format self.epoch c.args.gate) c.requires.epoch c.args.world.now c.loop-gate.world at payloads.items number
    (omega (arith, c.len.ensures, payloads.ok.0))
    (subst (λ gate. IsAt g.W.World.answered view self.area c.args.world.now c.loop-gate.world front self.format self.epoch at payloads.items gate) c.loop-gate-test.true c.loop-gate.invariant.at) c.record_at.new.world
    (settled_back g.W.World.answered view now self.area c.loop-gate.world c.record_at.new.world (IsTorn self.format number) (at + 1) (IsUnsound self.format self.epoch number) c.loop-gate.invariant.quiet
    (rw c.in_default.is at c.in_ok-payload.ensures.record))

pub loop-gate-preserved : goal.loop-gate-preserved
loop-gate-preserved g c =
    let view = g.W.World.view c.args.world.now in
    let now = g.W.World.view c.loop-gate.world in
    let new = g.W.World.view c.record_at.new.world in
    let self = c.args.self.now in
    let front : List ℕ = opened self.format self.epoch [] ++ c.args.gate ∷ [] in
    let at = c.loop-gate.at in
    let payloads = c.loop-gate.payloads in
    let number = c.len.result + 1 in
    let payload = c.in-Some.payload in
    let behind = c.in-Some.behind in
    let next = at + (1 + c.field_bytes.result + c.len-in-loop-gate.result) in
    let before = c.loop-gate.invariant in
    let pushed : c.push.new.self.items ≡ payloads.items ++ payload ∷ [] =
    c.push.ensures.items ∙ ap (λ (b : Bool). if b then payloads.items ++ payload ∷ [] else payloads.items) c.if-is_err.ensures.negation in
    record {
      at =
          subst (λ (ps : List (List ℕ)). IsAt g.W.World.answered view self.area c.args.world.now c.record_at.new.world front self.format self.epoch next ps behind) (sym pushed)
          (at_next g.W.World.answered view self.area front self.format self.epoch (front_size self.format self.epoch c.args.gate) c.requires.epoch c.args.world.now c.loop-gate.world at payloads.items number
          (omega (arith, c.len.ensures, payloads.ok.0))
          (subst (λ gate. IsAt g.W.World.answered view self.area c.args.world.now c.loop-gate.world front self.format self.epoch at payloads.items gate) c.loop-gate-test.true before.at) c.record_at.new.world payload behind next
          (omega (arith, c.len-in-loop-gate.ensures))
          (read_back g.W.World.answered view now self.area c.loop-gate.world c.record_at.new.world self.format self.epoch number (at + 1) payload behind before.quiet (rw c.in-Some.is at c.in_ok-payload.ensures.record)));
      limit = c.record_at.ensures.limit;
      len = length_still now new self.area c.record_at.new.known c.record_at.ensures.quiet c.record_at.ensures.len;
      quiet = quiet_on view now new before.quiet c.record_at.ensures.quiet;
      image = c.record_at.ensures.image before.image;
      faults = c.in_ok-payload.ensures.faults.no_cause (λ failed. cc) ∙ before.faults;
      no_put = record { puts = c.record_at.ensures.no_put.puts ∙ before.no_put.puts; put_faults = c.record_at.ensures.no_put.put_faults ∙ before.no_put.put_faults };
    }

pub returns-then-is_empty-clause-settled : goal.returns-then-is_empty-clause-settled
returns-then-is_empty-clause-settled g c =
    let self = c.args.self.now in
    let front : List ℕ = opened self.format self.epoch [] ++ c.args.gate ∷ [] in
    let payloads = c.loop-gate.payloads in
    let none = none_counted payloads.items payloads.len payloads.ok.0 (sym c.is_empty.ensures ∙ c.if-is_empty.true) in
    none_at g.W.World.answered (g.W.World.view c.args.world.now) self.area front self.format self.epoch (front_size self.format self.epoch c.args.gate) c.requires.epoch c.args.world.now c.loop-gate.world c.loop-gate.at payloads.items
    c.loop-gate.gate c.loop-gate.invariant.at (closed_gate c.loop-gate.gate c.loop-gate-test.false) none.0 none.1

pub returns-clause-settled : goal.returns-clause-settled
returns-clause-settled g c =
    let view = g.W.World.view c.args.world.now in
    let self = c.args.self.now in
    let front : List ℕ = opened self.format self.epoch [] ++ c.args.gate ∷ [] in
    let at = c.loop-gate.at in
    let payloads = c.loop-gate.payloads in
    let follows : c.record_number.result ≡ next_after self.format payloads.items =
    c.record_number.ensures ∙ ap (λ n. record_number self.format (n + 1)) (let same : c.len-2.result ≡ length payloads.items = omega (arith, c.len-2.ensures, payloads.ok.0) in same) in
    subst (λ next. IsSettled g.W.World.answered view self.area c.args.world.now c.loop-gate.world (λ told. IsOpenYet (front ++ told)) 17 (λ rest. IsStateOf (Store self.epoch at next c.from_vec.result) (front ++ rest))) (sym follows)
    (subst (λ (ps : List (List ℕ)). IsSettled g.W.World.answered view self.area c.args.world.now c.loop-gate.world (λ told. IsOpenYet (front ++ told)) 17 (λ rest. IsStateOf (Store self.epoch at (next_after self.format payloads.items) ps) (front ++ rest)))
    (sym c.from_vec.ensures)
    (store_at g.W.World.answered view self.area front self.format self.epoch (front_size self.format self.epoch c.args.gate) c.requires.epoch c.args.world.now c.loop-gate.world at payloads.items c.loop-gate.gate c.loop-gate.invariant.at
    (closed_gate c.loop-gate.gate c.loop-gate-test.false) (some_counted payloads.items payloads.len payloads.ok.0 (sym c.is_empty.ensures ∙ c.if-is_empty.false))))
