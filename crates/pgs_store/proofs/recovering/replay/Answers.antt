use Rattle.std.proofs.Common.{rules, ◌≡◌, ◌+◌, ◌∷◌, Ok, drop, refl, sym, ◌∙◌, ap, arith}
use Rattle.pgs_base.specs.declared.limits.Limits.{Limits}
use Rattle.pgs_codec.specs.Reading.{decoded}
use Rattle.pgs_journal.specs.Format.{format_of}
use Rattle.pgs_snapshot.specs.Saved.{after_record}
use Rattle.pgs_store.specs.Recovers.{replayed_in}
use Rattle.pgs_store.proofs.Bounds.{room}
use Rattle.pgs_store.proofs.Replaying.{goes_on, few_on, fit_at, taken_within, taken_here, taken_rest}
use Rattle.pgs_store.proofs.recovering.replay.Goals as goal

pub take_record-requires : goal.take_record-requires
take_record-requires g c =
    let b = c.requires.bounded in
    let rest = c.next.new.self.rest.items in
    let left : c.in-Some.payload ∷ rest ≡ drop c.loop-payload.number c.args.payloads = search rules in
    let within = taken_within c.args.payloads c.loop-payload.number c.in-Some.payload rest left in
    let few = c.loop-payload.invariant.few b.0 b.1 b.2 b.3 in
    room b.0 b.1 c.loop-payload.guard.commits b.3.numbered b.3.end_below (omega (arith, few, b.3.most, within))

pub loop-payload-preserved : goal.loop-payload-preserved
loop-payload-preserved g c =
    let guard = c.loop-payload.guard in
    let new = c.take_record.new.guard in
    let first = c.args.guard.now in
    let place = c.loop-payload.number in
    let payload = c.in-Some.payload in
    let rest = c.next.new.self.rest.items in
    let left : payload ∷ rest ≡ drop place c.args.payloads = search rules in
    let within = taken_within c.args.payloads place payload rest left in
    let here = taken_here c.args.payloads place payload rest left in
    let limits = c.loop-payload.invariant.limits in
    let taken : after_record first.limits (replayed_in guard) (decoded payload) ≡ Ok (replayed_in new) =
    ap (λ (l : Limits). after_record l (replayed_in guard) (decoded payload)) (sym limits)
    ∙ c.in-Ok.ensures.taken in
    record {
      left = taken_rest c.args.payloads place payload rest left;
      same = goes_on first.limits c.args.payloads place payload (replayed_in guard) (replayed_in new) within here taken ∙ c.loop-payload.invariant.same;
      limits = c.in-Ok.ensures.limits ∙ limits;
      seed = c.in-Ok.ensures.seed ∙ c.loop-payload.invariant.seed;
      few = λ epoch end next b.
          few_on first.limits (format_of next) epoch (1 + place) (replayed_in guard) (replayed_in new) payload (decoded payload) refl
          (omega (arith, c.loop-payload.invariant.some)) (fit_at (format_of next) epoch 1 c.args.payloads place payload b.fit within here) taken place
          (c.loop-payload.invariant.few epoch end next b);
      some = omega (arith, c.loop-payload.invariant.some);
    }
