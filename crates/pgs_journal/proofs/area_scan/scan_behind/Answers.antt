use Rattle.std.proofs.Common.{List, ℕ, ◌++◌, sym, ◌∙◌, subst}
use Rattle.std.proofs.lemmas.Result.{IfOk-weaker}
use Rattle.pgs_journal.specs.Seen.{IsSettled}
use Rattle.pgs_journal.specs.Told.{IsOpenYet, IsStateOf}
use Rattle.pgs_journal.specs.declared.area_state.AreaState.TheVariants.{NoStore, Foreign}
use Rattle.pgs_journal.specs.declared.head.Head.TheVariants as heads
use Rattle.pgs_journal.proofs.Heads.{head_scanned, records_scanned, none_is, foreign_is, store_is_long}
use Rattle.pgs_journal.proofs.area_scan.scan_behind.Goals as goal

pub read_all-requires-clause-epoch : goal.read_all-requires-clause-epoch
read_all-requires-clause-epoch g c = (c.head.ensures.begins c.in-Store.format c.in-Store.epoch c.in-Store.is).numbered

pub returns-in-NoStore-clause-scanned : goal.returns-in-NoStore-clause-scanned
returns-in-NoStore-clause-scanned g c =
    let front = c.args.front.now in
    head_scanned g.W.World.answered (g.W.World.view c.args.world.now) front.area c.args.world.now front.len front.bytes heads.NoStore NoStore c.requires.size (sym c.head.ensures.head ∙ c.in-NoStore.is) none_is

pub returns-in-Foreign-clause-scanned : goal.returns-in-Foreign-clause-scanned
returns-in-Foreign-clause-scanned g c =
    let front = c.args.front.now in
    head_scanned g.W.World.answered (g.W.World.view c.args.world.now) front.area c.args.world.now front.len front.bytes heads.Foreign Foreign c.requires.size (sym c.head.ensures.head ∙ c.in-Foreign.is) foreign_is

pub returns-in-Store-clause-scanned : goal.returns-in-Store-clause-scanned
returns-in-Store-clause-scanned g c =
    let front = c.args.front.now in
    let view = g.W.World.view c.args.world.now in
    let begins = c.head.ensures.begins c.in-Store.format c.in-Store.epoch c.in-Store.is in
    IfOk-weaker c.read_all.result _ _
    (λ state it.
    records_scanned g.W.World.answered view front.area c.args.world.now c.read_all.new.world front.len front.bytes state c.requires.size
    (store_is_long front.len c.in-Store.format c.in-Store.epoch front.bytes (sym c.head.ensures.head ∙ c.in-Store.is))
    (subst (λ (l : List ℕ). IsSettled g.W.World.answered view front.area c.args.world.now c.read_all.new.world (λ told. IsOpenYet (l ++ told)) 17 (λ rest. IsStateOf state (l ++ rest))) (sym begins.spelled) it))
    c.read_all.ensures.settled
