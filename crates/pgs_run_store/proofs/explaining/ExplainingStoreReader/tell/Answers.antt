use Rattle.pgs_run_store.specs.Explaining.{told_element}
use Rattle.pgs_run_store.specs.Opening.{saved_in}
use Rattle.pgs_run_store.proofs.Reading.{until_last, until_told}
use Rattle.pgs_run_store.proofs.explaining.ExplainingStoreReader.tell.Goals as goal

pub returns-in-Err : goal.returns-in-Err
returns-in-Err g c = record {
  told = until_told c.in-Err.stop c.status_at.result (told_element c.args.self.now.elem (saved_in c.args.store.now)) (g.W.World.view c.args.world.now) (g.W.World.view c.put_explained.new.world) c.status_at.ensures c.in-Err.ensures.puts;
  last = until_last c.in-Err.stop c.status_at.result _ c.status_at.ensures c.in-Err.ensures.puts.only c.in-Err.ensures.last;
}
