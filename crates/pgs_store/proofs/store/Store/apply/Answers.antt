use Rattle.std.proofs.Common.{◌≡◌, Bool, true, false, IsTrue, refl, sym, subst, arith}
use Rattle.pgs_store.specs.Applies.{Applies}
use Rattle.pgs_store.specs.Costs.{IsWithin}
use Rattle.pgs_store.specs.Stored.{StoreState, StandsOn, IsAppliedIn}
use Rattle.pgs_store.specs.World.{StaysBeside}
use Rattle.pgs_world.specs.Moment.{EachSince}
use Rattle.pgs_store.proofs.Answered.{applies}
use Rattle.pgs_store.proofs.Composed.{none_beside}
use Rattle.pgs_store.proofs.Exits.{never, no_more, store_of}
use Rattle.pgs_store.proofs.store.Store.apply.Goals as goal

-- ---- an earlier call failed

pub returns-then-self-clause-answer : goal.returns-then-self-clause-answer
returns-then-self-clause-answer g c = (subst (λ (s : StoreState). s.failed ≡ true) c.self.view_is c.if-self.true, refl)

pub returns-then-self-clause-early : goal.returns-then-self-clause-early
returns-then-self-clause-early g c = λ early. refl

pub returns-then-self-clause-faults : goal.returns-then-self-clause-faults
returns-then-self-clause-faults g c = refl

pub returns-then-self-clause-last : goal.returns-then-self-clause-last
returns-then-self-clause-last g c = never false refl

pub returns-then-self-clause-stops : goal.returns-then-self-clause-stops
returns-then-self-clause-stops g c = λ whole honest told.
    never c.args.self.now.failed whole (subst (λ (s : StoreState). s.failed ≡ true) c.self.view_is c.if-self.true)

pub returns-then-self-clause-beside : goal.returns-then-self-clause-beside
returns-then-self-clause-beside g c = none_beside c.args.self.now.journal.area (g.W.World.view c.args.world.now) (g.met.W.World.timed c.args.world.now)

pub returns-then-self-clause-no_step_back : goal.returns-then-self-clause-no_step_back
returns-then-self-clause-no_step_back g c = omega arith

pub returns-then-self-clause-cost : goal.returns-then-self-clause-cost
returns-then-self-clause-cost g c = λ edges most few sparse. no_more c.args.steps.now _

pub returns-then-self-clause-no_step : goal.returns-then-self-clause-no_step
returns-then-self-clause-no_step g c = λ failed. refl

-- ---- no earlier call failed

pub journal_txn-answer-requires-clause-bounded : goal.journal_txn-answer-requires-clause-bounded
journal_txn-answer-requires-clause-bounded g c = c.self.invariant

pub journal_txn-answer-requires-clause-stands : goal.journal_txn-answer-requires-clause-stands
journal_txn-answer-requires-clause-stands g c =
    subst (λ (s : StoreState). s.failed ≡ false → StandsOn s.guard s.journal (g.W.World.view c.args.world.now)) (sym c.self.view_is) c.requires.stands c.if-self.false

pub returns-clause-answer : goal.returns-clause-answer
returns-clause-answer g c =
    let inside = c.self.inside in
    let old : StoreState = store_of inside.guard inside.journal inside.failed in
    let answer = c.journal_txn-answer.result in
    let new = c.journal_txn-answer.new in
    let now = g.W.World.view new.world in
    subst (λ (s : StoreState). Applies answer s (store_of new.guard new.journal c.is_disk_fault-self-inside.result) c.args.txn.now now) c.self.view_is
    (subst (λ (b : Bool). Applies answer old (store_of new.guard new.journal b) c.args.txn.now now) (sym c.is_disk_fault-self-inside.ensures)
    (applies answer old new.guard new.journal c.args.txn.now now c.if-self.false c.journal_txn-answer.ensures.answer))

pub returns-clause-early : goal.returns-clause-early
returns-clause-early g c = c.journal_txn-answer.ensures.early

pub returns-clause-faults : goal.returns-clause-faults
returns-clause-faults g c = c.journal_txn-answer.ensures.faults

pub returns-clause-last : goal.returns-clause-last
returns-clause-last g c = c.journal_txn-answer.ensures.last

pub returns-clause-stops : goal.returns-clause-stops
returns-clause-stops g c =
    let old = g.W.World.view c.args.world.now in
    let new = g.W.World.view c.journal_txn-answer.new.world in
    subst (λ (s : StoreState). s.failed ≡ false → IsTrue old.honest → IsTrue old.tells_bytes → EachSince (IsAppliedIn s.guard s.journal c.args.txn.now) old new) c.self.view_is
    (λ whole. c.journal_txn-answer.ensures.stops)

pub returns-clause-beside : goal.returns-clause-beside
returns-clause-beside g c =
    subst (λ (s : StoreState). StaysBeside s.journal.area (g.W.World.view c.args.world.now) (g.W.World.view c.journal_txn-answer.new.world)) c.self.view_is
    c.journal_txn-answer.ensures.beside

pub returns-clause-no_step_back : goal.returns-clause-no_step_back
returns-clause-no_step_back g c = c.journal_txn-answer.ensures.no_step_back

pub returns-clause-cost : goal.returns-clause-cost
returns-clause-cost g c =
    subst (λ (s : StoreState). IsWithin s.guard c.args.txn.now c.args.steps.now c.journal_txn-answer.new.steps) c.self.view_is c.journal_txn-answer.ensures.cost

pub returns-clause-no_step : goal.returns-clause-no_step
returns-clause-no_step g c =
    subst (λ (s : StoreState). s.failed ≡ true → c.journal_txn-answer.new.steps ≡ c.args.steps.now) c.self.view_is (never c.self.inside.failed c.if-self.false)

pub invariant_of-self : goal.invariant_of-self
invariant_of-self g c = c.journal_txn-answer.ensures.bounded
