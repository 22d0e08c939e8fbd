use Rattle.std.proofs.Common.{List, ℕ, [], ◌∷◌, sym, subst, ap, ◌∙◌}
use Rattle.std.specs.declared.option.Option.{Option}
use Rattle.pgs_codec.specs.Frame.{framed}
use Rattle.pgs_journal.specs.declared.journal.Journal.{Journal}
use Rattle.pgs_journal.specs.Format.{Holds}
use Rattle.pgs_journal.specs.Samples.{schema_payload, txn_payload}
use Rattle.pgs_world.specs.declared.area.Area.TheVariants.{A}
use Rattle.pgs_world.specs.World.{part}
use Rattle.tests_store.proofs.disk.written.make.Goals as goal

pub append-requires-clause-framed : goal.append-requires-clause-framed
append-requires-clause-framed g c = (txn_payload, c.requires.frame ∙ ap (λ (j : Journal). framed j.next txn_payload) (sym c.in-Ok.ensures.made.journal))

pub append-requires-clause-holds : goal.append-requires-clause-holds
append-requires-clause-holds g c = λ told.
    let shown = (g.W.World.view c.create.new.world).shown in (
      schema_payload ∷ [],
      subst (λ (j : Journal). Holds j.next j.epoch (schema_payload ∷ []) c.in-Ok.journal.end (part j.area shown)) (sym c.in-Ok.ensures.made.journal)
          (subst (λ (n : Option ℕ). Holds n 1 (schema_payload ∷ []) c.in-Ok.journal.end (part A shown)) (ap (λ (j : Journal). j.next) c.in-Ok.ensures.made.journal)
          (c.in-Ok.ensures.made.holds (schema_payload ∷ []) c.requires.first (sym c.create.ensures.made.step.passes.tells_bytes ∙ told))),
    )
