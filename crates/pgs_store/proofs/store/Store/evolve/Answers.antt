use Rattle.std.proofs.Common.{◌≡◌, ℕ, List, true, false, IsTrue, inl, rules, refl, subst}
use Rattle.std.proofs.lemmas.Result.{err_from_is_err_and}
use Rattle.pgs_store.specs.Evolves.{Evolves, IsNumbered, IsOpen, is_disk_fault}
use Rattle.pgs_store.specs.Stored.{StoreState, IsEvolvedIn}
use Rattle.pgs_store.specs.Unread.{of_schema}
use Rattle.pgs_world.specs.Moment.{EachSince}
use Rattle.pgs_store.proofs.Composed.{none_beside}
use Rattle.pgs_store.proofs.Evolved.{of_unread, uncounted, unfailed, unread}
use Rattle.pgs_store.proofs.Exits.{never, still_saved}
use Rattle.pgs_store.proofs.store.Store.evolve.Goals as goal

-- ---- an earlier call failed

pub returns-then-self-clause-answer : goal.returns-then-self-clause-answer
returns-then-self-clause-answer g c = (subst (λ (s : StoreState). s.failed ≡ true) c.self.view_is c.if-self.true, refl)

pub returns-then-self-clause-early : goal.returns-then-self-clause-early
returns-then-self-clause-early g c = λ early. refl

pub returns-then-self-clause-faults : goal.returns-then-self-clause-faults
returns-then-self-clause-faults g c = refl

pub returns-then-self-clause-last : goal.returns-then-self-clause-last
returns-then-self-clause-last g c = never false refl

pub returns-then-self-clause-stops : goal.returns-then-self-clause-stops
returns-then-self-clause-stops g c = λ whole honest told.
    never c.args.self.now.failed whole (subst (λ (s : StoreState). s.failed ≡ true) c.self.view_is c.if-self.true)

pub returns-then-self-clause-beside : goal.returns-then-self-clause-beside
returns-then-self-clause-beside g c = none_beside c.args.self.now.journal.area (g.W.World.view c.args.world.now) (g.met.W.World.timed c.args.world.now)

-- ---- the store is of the first format

pub returns-then-is_none-clause-early : goal.returns-then-is_none-clause-early
returns-then-is_none-clause-early g c = λ early. refl

pub returns-then-is_none-clause-faults : goal.returns-then-is_none-clause-faults
returns-then-is_none-clause-faults g c = refl

pub returns-then-is_none-clause-last : goal.returns-then-is_none-clause-last
returns-then-is_none-clause-last g c = never false refl

pub returns-then-is_none-clause-stops : goal.returns-then-is_none-clause-stops
returns-then-is_none-clause-stops g c = λ whole honest told triple left.
    inl
    (still_saved c.args.self.now.guard c.args.self.now.journal (g.W.World.view c.args.world.now) (g.met.W.World.timed c.args.world.now) (c.requires.stands whole) honest told triple left)

pub returns-then-is_none-clause-beside : goal.returns-then-is_none-clause-beside
returns-then-is_none-clause-beside g c = none_beside c.args.self.now.journal.area (g.W.World.view c.args.world.now) (g.met.W.World.timed c.args.world.now)

-- ---- the text is no schema

pub returns-in_err-read-clause-answer : goal.returns-in_err-read-clause-answer
returns-in_err-read-clause-answer g c =
    let p = err_from_is_err_and c.from_residual.result c.from_residual.ensures.1 in
    let inside = c.self.inside in
    let numbered : IsNumbered inside.journal = search rules in
    let opened = subst (λ (s : StoreState). IsOpen s) c.self.view_is (record { whole = c.if-self.false; numbered = numbered }) in
    rw (p.1, p.2) (unread c.args.self.now c.args.schema.now (g.W.World.view c.args.world.now) opened c.in_err-read.field-0.0 c.in_err-read.ensures.refused)

pub returns-in_err-read-clause-early : goal.returns-in_err-read-clause-early
returns-in_err-read-clause-early g c = λ early. refl

pub returns-in_err-read-clause-faults : goal.returns-in_err-read-clause-faults
returns-in_err-read-clause-faults g c =
    let p = err_from_is_err_and c.from_residual.result c.from_residual.ensures.1 in
    let why = c.in_err-read.field-0.0 in
    uncounted c.from_residual.result p.0 (of_schema why) p.1 (of_unread p.0 why p.2) (g.W.World.view c.args.world.now)

pub returns-in_err-read-clause-last : goal.returns-in_err-read-clause-last
returns-in_err-read-clause-last g c =
    let p = err_from_is_err_and c.from_residual.result c.from_residual.ensures.1 in
    let why = c.in_err-read.field-0.0 in
    never (is_disk_fault c.from_residual.result) (unfailed c.from_residual.result p.0 (of_schema why) p.1 (of_unread p.0 why p.2))

pub returns-in_err-read-clause-stops : goal.returns-in_err-read-clause-stops
returns-in_err-read-clause-stops g c = λ whole honest told triple left.
    inl
    (still_saved c.args.self.now.guard c.args.self.now.journal (g.W.World.view c.args.world.now) (g.met.W.World.timed c.args.world.now) (c.requires.stands whole) honest told triple left)

pub returns-in_err-read-clause-beside : goal.returns-in_err-read-clause-beside
returns-in_err-read-clause-beside g c = none_beside c.args.self.now.journal.area (g.W.World.view c.args.world.now) (g.met.W.World.timed c.args.world.now)

-- ---- it was read

pub evolve_to-requires : goal.evolve_to-requires
evolve_to-requires g c = record { stands = c.requires.stands }

pub returns-clause-answer : goal.returns-clause-answer
returns-clause-answer g c =
    let new = c.evolve_to.new in
    subst (λ (t : List ℕ). Evolves c.evolve_to.result c.args.self.now new.self t (g.W.World.view new.world)) c.in_ok-read.ensures.text c.evolve_to.ensures.answer

pub returns-clause-early : goal.returns-clause-early
returns-clause-early g c = c.evolve_to.ensures.early

pub returns-clause-faults : goal.returns-clause-faults
returns-clause-faults g c = c.evolve_to.ensures.faults

pub returns-clause-last : goal.returns-clause-last
returns-clause-last g c = c.evolve_to.ensures.last

pub returns-clause-stops : goal.returns-clause-stops
returns-clause-stops g c =
    let self = c.args.self.now in
    let old = g.W.World.view c.args.world.now in
    let new = g.W.World.view c.evolve_to.new.world in
    subst (λ (t : List ℕ). self.failed ≡ false → IsTrue old.honest → IsTrue old.tells_bytes → EachSince (IsEvolvedIn self.guard self.journal t) old new) c.in_ok-read.ensures.text
    c.evolve_to.ensures.stops

pub returns-clause-beside : goal.returns-clause-beside
returns-clause-beside g c = c.evolve_to.ensures.beside
