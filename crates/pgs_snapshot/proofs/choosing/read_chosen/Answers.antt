use Rattle.std.proofs.Common.{◌≡◌, IsTrue, Some, List, ℕ, sym, ◌∙◌, ap, subst}
use Rattle.std.specs.declared.option.Option.{Option}
use Rattle.std.proofs.lemmas.Result.{IfOk-weaker, IfErr-weaker, err_from_is_err_and}
use Rattle.pgs_world.specs.declared.area.Area.{Area}
use Rattle.pgs_world.specs.declared.area.Area.TheVariants.{A, B}
use Rattle.pgs_world.specs.Moment.{IsQuiet}
use Rattle.pgs_world.specs.World.{Triple, View, part}
use Rattle.pgs_world.proofs.Moments.{quiet_on}
use Rattle.pgs_journal.specs.declared.area_state.AreaState.{AreaState}
use Rattle.pgs_journal.specs.declared.head.Head.{Head}
use Rattle.pgs_journal.specs.Area.{area_state, head_of, HoldsStore}
use Rattle.pgs_journal.specs.Format.{Holds}
use Rattle.pgs_snapshot.specs.Choice.{choice_of, chosen, leading, taken}
use Rattle.pgs_snapshot.specs.Standing.{Refuses}
use Rattle.pgs_snapshot.proofs.Choices.{taken_area}
use Rattle.pgs_snapshot.proofs.Heads.{AreHeads, leading_choice, headless_choice}
use Rattle.pgs_snapshot.proofs.choosing.read_chosen.Goals as goal

-- heads that were read one after the other
heads_read : (first one : View) → IsQuiet first one → (a b : Head) → (IsTrue first.tells_bytes → a ≡ head_of (part A first.shown)) → (IsTrue one.tells_bytes → b ≡ head_of (part B one.shown)) → IsTrue first.tells_bytes
    → AreHeads a b first.shown
heads_read first one q a b of_a of_b told =
    record { of_a = of_a told; of_b = of_b (q.passes.tells_bytes ∙ told) ∙ ap (λ (t : Triple). head_of t.b) q.shown }

-- and the area that was scanned behind them
scanned : (first two : View) → IsQuiet first two → (a b : Head) (area : Area) (state : AreaState) → (IsTrue first.tells_bytes → AreHeads a b first.shown) → leading a b ≡ Some area
    → (IsTrue two.tells_bytes → state ≡ area_state (part area two.shown)) → IsTrue first.tells_bytes → choice_of first.shown.a first.shown.b ≡ taken area state
scanned first two q a b area state are leads is told =
    leading_choice a b first.shown (are told) area leads
    ∙ ap (taken area) (sym (is (q.passes.tells_bytes ∙ told) ∙ ap (λ (t : Triple). area_state (part area t)) q.shown))

holds_taken : (area at : Area) (state : AreaState) (epoch end : ℕ) (next : Option ℕ) (payloads : List (List ℕ)) (triple : Triple) → taken area state ≡ chosen at epoch end next payloads
    → HoldsStore state (part area triple) → Holds next epoch payloads end (part at triple)
holds_taken area at state epoch end next payloads triple is holds =
    let found = taken_area area at state epoch end next payloads is in
    subst (λ (x : Area). Holds next epoch payloads end (part x triple)) found.0 (subst (λ (s : AreaState). HoldsStore s (part area triple)) found.1 holds)

pub returns-in_err-b-clause-quiet : goal.returns-in_err-b-clause-quiet
returns-in_err-b-clause-quiet g c =
    quiet_on (g.W.World.view c.args.world.now) (g.W.World.view c.read_head.new.world) (g.W.World.view c.read_head-2.new.world) c.read_head.ensures.quiet c.read_head-2.ensures.quiet

pub returns-in_err-area-clause-quiet : goal.returns-in_err-area-clause-quiet
returns-in_err-area-clause-quiet g c =
    quiet_on (g.W.World.view c.args.world.now) (g.W.World.view c.read_head.new.world) (g.W.World.view c.read_head-2.new.world) c.read_head.ensures.quiet c.read_head-2.ensures.quiet

pub returns-in_err-area-clause-found : goal.returns-in_err-area-clause-found
returns-in_err-area-clause-found g c =
    let first = g.W.World.view c.args.world.now in
    let one = g.W.World.view c.read_head.new.world in
    let p = err_from_is_err_and c.from_residual-in_err-area.result c.from_residual-in_err-area.ensures.1 in
    rw (p.1, p.2)
    (record {
      chosen = tt;
      refused = λ told.
          subst (Refuses c.in_err-area.field-0.0)
          (sym (headless_choice c.in_ok-a.a c.in_ok-b.b first.shown (heads_read first one c.read_head.ensures.quiet c.in_ok-a.a c.in_ok-b.b c.in_ok-a.ensures.head c.in_ok-b.ensures.head told) c.in_err-area.ensures.none))
          c.in_err-area.ensures.refused;
      stands = tt;
      bounds = tt;
    })

pub returns-in_err-state-clause-quiet : goal.returns-in_err-state-clause-quiet
returns-in_err-state-clause-quiet g c =
    let first = g.W.World.view c.args.world.now in
    let two = g.W.World.view c.read_head-2.new.world in
    quiet_on first two (g.W.World.view c.scan.new.world)
    (quiet_on first (g.W.World.view c.read_head.new.world) two c.read_head.ensures.quiet c.read_head-2.ensures.quiet) c.scan.ensures.quiet

pub returns-clause-quiet : goal.returns-clause-quiet
returns-clause-quiet g c =
    let first = g.W.World.view c.args.world.now in
    let two = g.W.World.view c.read_head-2.new.world in
    quiet_on first two (g.W.World.view c.scan.new.world)
    (quiet_on first (g.W.World.view c.read_head.new.world) two c.read_head.ensures.quiet c.read_head-2.ensures.quiet) c.scan.ensures.quiet

pub returns-clause-found : goal.returns-clause-found
returns-clause-found g c =
    let first = g.W.World.view c.args.world.now in
    let one = g.W.World.view c.read_head.new.world in
    let two = g.W.World.view c.read_head-2.new.world in
    let three = g.W.World.view c.scan.new.world in
    let area = c.in_ok-area.area in
    let state = c.in_ok-state.state in
    let q = quiet_on first one two c.read_head.ensures.quiet c.read_head-2.ensures.quiet in
    let all = quiet_on first two three q c.scan.ensures.quiet in
    let heads = heads_read first one c.read_head.ensures.quiet c.in_ok-a.a c.in_ok-b.b c.in_ok-a.ensures.head c.in_ok-b.ensures.head in
    let choice = scanned first two q c.in_ok-a.a c.in_ok-b.b area state heads c.in_ok-area.ensures.leads c.in_ok-state.ensures.state in
    record {
      chosen = IfOk-weaker c.store_in.result _ _ (λ it is told. choice told ∙ is) c.store_in.ensures.chosen;
      refused = IfErr-weaker c.store_in.result _ _ (λ fault is told. subst (Refuses fault) (sym (choice told)) is) c.store_in.ensures.refused;
      stands =
          IfOk-weaker c.store_in.result _ _
          (λ it is now.
          record {
            choice =
                subst (λ (t : Triple). choice_of t.a t.b ≡ chosen it.area it.epoch it.end it.next it.payloads) (sym all.shown)
                (choice (sym all.passes.tells_bytes ∙ now) ∙ is);
            holds = holds_taken area it.area state it.epoch it.end it.next it.payloads three.shown is (c.in_ok-state.ensures.holds now);
          }) c.store_in.ensures.chosen;
      bounds = c.store_in.ensures.bounds;
    }
