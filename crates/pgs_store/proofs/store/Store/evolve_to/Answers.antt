use Rattle.std.proofs.Common.{◌≡◌, Bool, true, false, IsTrue, inl, rules, refl, sym, subst}
use Rattle.pgs_store.specs.Evolves.{Evolves, IsNumbered}
use Rattle.pgs_store.specs.Stored.{StoreState, StandsOn, IsEvolvedIn}
use Rattle.pgs_store.specs.World.{StaysBeside}
use Rattle.pgs_world.specs.Moment.{EachSince}
use Rattle.pgs_store.proofs.Composed.{none_beside}
use Rattle.pgs_store.proofs.Evolved.{evolves}
use Rattle.pgs_store.proofs.Exits.{never, still_saved, store_of}
use Rattle.pgs_store.proofs.store.Store.evolve_to.Goals as goal

-- ---- an earlier call failed

pub returns-then-self-clause-answer : goal.returns-then-self-clause-answer
returns-then-self-clause-answer g c = (subst (λ (s : StoreState). s.failed ≡ true) c.self.view_is c.if-self.true, refl)

pub returns-then-self-clause-early : goal.returns-then-self-clause-early
returns-then-self-clause-early g c = λ early. refl

pub returns-then-self-clause-faults : goal.returns-then-self-clause-faults
returns-then-self-clause-faults g c = refl

pub returns-then-self-clause-last : goal.returns-then-self-clause-last
returns-then-self-clause-last g c = never false refl

pub returns-then-self-clause-stops : goal.returns-then-self-clause-stops
returns-then-self-clause-stops g c = λ whole honest told.
    never c.args.self.now.failed whole (subst (λ (s : StoreState). s.failed ≡ true) c.self.view_is c.if-self.true)

pub returns-then-self-clause-beside : goal.returns-then-self-clause-beside
returns-then-self-clause-beside g c = none_beside c.args.self.now.journal.area (g.W.World.view c.args.world.now) (g.met.W.World.timed c.args.world.now)

-- ---- the store is of the first format

pub returns-then-is_none-clause-early : goal.returns-then-is_none-clause-early
returns-then-is_none-clause-early g c = λ early. refl

pub returns-then-is_none-clause-faults : goal.returns-then-is_none-clause-faults
returns-then-is_none-clause-faults g c = refl

pub returns-then-is_none-clause-last : goal.returns-then-is_none-clause-last
returns-then-is_none-clause-last g c = never false refl

pub returns-then-is_none-clause-stops : goal.returns-then-is_none-clause-stops
returns-then-is_none-clause-stops g c = λ whole honest told triple left.
    inl
    (still_saved c.args.self.now.guard c.args.self.now.journal (g.W.World.view c.args.world.now) (g.met.W.World.timed c.args.world.now) (c.requires.stands whole) honest told triple left)

pub returns-then-is_none-clause-beside : goal.returns-then-is_none-clause-beside
returns-then-is_none-clause-beside g c = none_beside c.args.self.now.journal.area (g.W.World.view c.args.world.now) (g.met.W.World.timed c.args.world.now)

-- ---- no earlier call failed

pub journal_schema-answer-requires-clause-bounded : goal.journal_schema-answer-requires-clause-bounded
journal_schema-answer-requires-clause-bounded g c = c.self.invariant

pub journal_schema-answer-requires-clause-stands : goal.journal_schema-answer-requires-clause-stands
journal_schema-answer-requires-clause-stands g c =
    subst (λ (s : StoreState). s.failed ≡ false → StandsOn s.guard s.journal (g.W.World.view c.args.world.now)) (sym c.self.view_is) c.requires.stands c.if-self.false

pub returns-clause-answer : goal.returns-clause-answer
returns-clause-answer g c =
    let inside = c.self.inside in
    let old : StoreState = store_of inside.guard inside.journal inside.failed in
    let numbered : IsNumbered inside.journal = search rules in
    let new = c.journal_schema-answer.new in
    let now = g.W.World.view new.world in
    subst (λ (s : StoreState). Evolves c.journal_schema-answer.result s (store_of new.guard new.journal c.is_disk_fault-self-inside.result) c.args.schema.text now) c.self.view_is
    (subst (λ (b : Bool). Evolves c.journal_schema-answer.result old (store_of new.guard new.journal b) c.args.schema.text now) (sym c.is_disk_fault-self-inside.ensures)
    (evolves c.journal_schema-answer.result old new.guard new.journal c.args.schema.text now (record { whole = c.if-self.false; numbered = numbered }) c.journal_schema-answer.ensures.answer))

pub returns-clause-early : goal.returns-clause-early
returns-clause-early g c = c.journal_schema-answer.ensures.early

pub returns-clause-faults : goal.returns-clause-faults
returns-clause-faults g c = c.journal_schema-answer.ensures.faults

pub returns-clause-last : goal.returns-clause-last
returns-clause-last g c = c.journal_schema-answer.ensures.last

pub returns-clause-stops : goal.returns-clause-stops
returns-clause-stops g c =
    let old = g.W.World.view c.args.world.now in
    let new = g.W.World.view c.journal_schema-answer.new.world in
    subst (λ (s : StoreState). s.failed ≡ false → IsTrue old.honest → IsTrue old.tells_bytes → EachSince (IsEvolvedIn s.guard s.journal c.args.schema.text) old new) c.self.view_is
    (λ whole. c.journal_schema-answer.ensures.stops)

pub returns-clause-beside : goal.returns-clause-beside
returns-clause-beside g c =
    subst (λ (s : StoreState). StaysBeside s.journal.area (g.W.World.view c.args.world.now) (g.W.World.view c.journal_schema-answer.new.world)) c.self.view_is
    c.journal_schema-answer.ensures.beside

pub invariant_of-self : goal.invariant_of-self
invariant_of-self g c = c.journal_schema-answer.ensures.bounded
