use Rattle.std.proofs.Common.{inl, refl}
use Rattle.pgs_run_store.specs.Dump.{told_dump}
use Rattle.pgs_run_store.specs.Opening.{saved_in}
use Rattle.pgs_run_store.proofs.Reading.{all_told, until_last, until_told}
use Rattle.pgs_run_store.proofs.dump.DumpStoreReader.tell.Goals as goal

pub returns-in-Ok-clause-told : goal.returns-in-Ok-clause-told
returns-in-Ok-clause-told g c =
    all_told (told_dump (saved_in c.args.store.now)) (g.W.World.view c.args.world.now) (g.W.World.view c.put_dump.new.world) _ (inl refl) refl c.in-Ok.ensures.puts

pub returns-in-Err : goal.returns-in-Err
returns-in-Err g c = record {
  told = until_told c.in-Err.stop c.status_at.result (told_dump (saved_in c.args.store.now)) (g.W.World.view c.args.world.now) (g.W.World.view c.put_dump.new.world) c.status_at.ensures c.in-Err.ensures.puts;
  last = until_last c.in-Err.stop c.status_at.result _ c.status_at.ensures c.in-Err.ensures.puts.only c.in-Err.ensures.last;
}
