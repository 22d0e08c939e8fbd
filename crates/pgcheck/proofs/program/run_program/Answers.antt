use Rattle.std.proofs.Common.{List, ℕ, Option, subst, sym}
use Rattle.pgs_base.specs.declared.seed.Seed.{Seed}
use Rattle.pgs_program.specs.Outside.{AreFilesOf, IsFresh}
use Rattle.pgs_world_files.specs.declared.access.StoreAccess.TheVariants.{Read}
use Rattle.pgs_world_files.specs.declared.area_files.AreaFiles.{AreaFiles}
use Rattle.pgcheck.specs.Program.{AreOpenedFor}
use Rattle.pgcheck.proofs.program.run_program.Goals as goal

pub returns : goal.returns
returns g c = record {
  start = c.new-outside.result;
  fresh = subst (λ (seed : Seed). IsFresh c.args.reader c.args.writer seed c.new-outside.result) c.seed_of.ensures c.new-outside.ensures.fresh;
  areas =
      subst (λ (fs : AreaFiles _). AreOpenedFor g.O.Opening.area_gives c.args.words.now fs) (sym c.new-outside.ensures.areas)
      (subst (λ (store : Option (List ℕ)). AreFilesOf g.O.Opening.area_gives store Read c.in_ok-areas.areas) c.store_of.ensures c.in_ok-areas.ensures);
  promise = c.run_check-status.ensures.promise;
  last = c.run_check-status.ensures.last;
  calls = c.run_check-status.ensures.calls;
}
