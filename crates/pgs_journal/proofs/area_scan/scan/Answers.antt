use Rattle.std.proofs.Common.{◌++◌, sym, ◌∙◌, subst}
use Rattle.std.proofs.lemmas.Result.{IfOk-weaker}
use Rattle.pgs_world.specs.World.{Triple, part}
use Rattle.pgs_world.proofs.Moments.{quiet_on}
use Rattle.pgs_journal.specs.Area.{HoldsStore}
use Rattle.pgs_journal.specs.Bounds.{IsBounded}
use Rattle.pgs_journal.specs.Seen.{front_answers}
use Rattle.pgs_journal.proofs.Bounding.{bounded}
use Rattle.pgs_journal.proofs.Heads.{scanned_shown, scanned_in}
use Rattle.pgs_journal.proofs.Telling.{answered_on}
use Rattle.pgs_journal.proofs.area_scan.scan.Goals as goal

pub returns-clause-state : goal.returns-clause-state
returns-clause-state g c =
    let front = c.in_ok-front.front in
    let read = c.in_ok-front.ensures in
    IfOk-weaker c.scan_behind.result _ _
    (λ state it told.
    (scanned_shown g.W.World.answered (g.W.World.view c.args.world.now) (g.W.World.view c.read.new.world) c.args.area c.read.new.world c.scan_behind.new.world front.len front.bytes state c.read.ensures.quiet read.len read.bytes
    (scanned_in g.W.World.answered (g.W.World.view c.read.new.world) front.area c.args.area c.read.new.world c.scan_behind.new.world front.len front.bytes state read.area it) told).state) c.scan_behind.ensures.scanned

pub returns-clause-found : goal.returns-clause-found
returns-clause-found g c = IfOk-weaker c.scan_behind.result _ _ (λ state it. (it.image, it.limit, it.state_of.state)) c.scan_behind.ensures.scanned

pub returns-clause-holds : goal.returns-clause-holds
returns-clause-holds g c =
    let front = c.in_ok-front.front in
    let read = c.in_ok-front.ensures in
    let old = g.W.World.view c.args.world.now in
    let mid = g.W.World.view c.read.new.world in
    let new = g.W.World.view c.scan_behind.new.world in
    let quiet = quiet_on old mid new c.read.ensures.quiet c.scan_behind.ensures.quiet in
    IfOk-weaker c.scan_behind.result _ _
    (λ state it told.
    subst (λ (t : Triple). HoldsStore state (part c.args.area t)) (sym quiet.shown)
    (scanned_shown g.W.World.answered old mid c.args.area c.read.new.world c.scan_behind.new.world front.len front.bytes state c.read.ensures.quiet read.len read.bytes
    (scanned_in g.W.World.answered mid front.area c.args.area c.read.new.world c.scan_behind.new.world front.len front.bytes state read.area it) (sym quiet.passes.tells_bytes ∙ told)).holds)
    c.scan_behind.ensures.scanned

pub returns-clause-bounds : goal.returns-clause-bounds
returns-clause-bounds g c = IfOk-weaker c.scan_behind.result _ _ (λ state it. subst IsBounded (sym it.state_of.state) (bounded it.image it.limit)) c.scan_behind.ensures.scanned

pub returns-clause-answers : goal.returns-clause-answers
returns-clause-answers g c =
    let front = c.in_ok-front.front in
    let read = c.in_ok-front.ensures in
    let mid = g.W.World.view c.read.new.world in
    IfOk-weaker c.scan_behind.result _ _
    (λ state scanned.
    let it = scanned_in g.W.World.answered mid front.area c.args.area c.read.new.world c.scan_behind.new.world front.len front.bytes state read.area scanned in (
      front_answers front.len front.bytes ++ it.answers,
      answered_on g.W.World.answered c.args.area c.args.world.now c.read.new.world c.scan_behind.new.world (front_answers front.len front.bytes) it.answers read.answered it.answered,
      it.made_by,
    )) c.scan_behind.ensures.scanned
