use Rattle.pgs_run_store.proofs.Reading.{promised_told, promised_unopened}
use Rattle.pgs_run_store.proofs.Unread.{last_unopened}
use Rattle.pgs_run_store.proofs.reader.run_reader.Goals as goal

pub returns-in-Ok-clause-promise : goal.returns-in-Ok-clause-promise
returns-in-Ok-clause-promise g c =
    promised_told c.in-Ok.store (g.W.World.view c.args.world.now) (g.W.World.view c.open_store.new.world) (g.W.World.view c.tell.new.world) (g.R.StoreReader.tells c.args.reader.now) c.tell.result
    (record { opened = c.in-Ok.ensures.answer; areas = c.in-Ok.ensures.faults; quiet = c.open_store.ensures.quiet; no_put = c.open_store.ensures.no_put }) c.tell.ensures.told

pub returns-in-Err-clause-promise : goal.returns-in-Err-clause-promise
returns-in-Err-clause-promise g c =
    promised_unopened c.in-Err.unopened (g.W.World.view c.args.world.now) (g.W.World.view c.open_store.new.world) (g.W.World.view c.end_unopened.new.world) (g.R.StoreReader.tells c.args.reader.now) c.end_unopened.result
    (record {
      opens = c.in-Err.ensures.answer;
      counts = c.in-Err.ensures.faults;
      quiet = c.open_store.ensures.quiet;
      no_put = c.open_store.ensures.no_put;
      ends = c.end_unopened.ensures.ends;
      areas = c.end_unopened.ensures.areas;
    })

pub returns-in-Err-clause-last : goal.returns-in-Err-clause-last
returns-in-Err-clause-last g c =
    last_unopened g.W.World.failed c.open_store.new.world c.end_unopened.new.world _ _ _ c.in-Err.unopened c.end_unopened.result c.in-Err.ensures.answer c.end_unopened.ensures.ends c.end_unopened.ensures.last c.in-Err.ensures.last c.end_unopened.ensures.early
