use Rattle.std.proofs.Common.{◌∙◌, ap}
use Rattle.pgs_keyindex.specs.Standing.{exclusive_keys}
use Rattle.pgs_syntax.specs.declared.resolved.Resolved.{Resolved}
use Rattle.pgs_store.proofs.Indexed.{none_stands}
use Rattle.pgs_store.proofs.Opened.{opened}
use Rattle.pgs_store.proofs.guard.Guard.with_seed.Goals as goal

pub invariant_of-result : goal.invariant_of-result
invariant_of-result c =
    let schema = c.in_ok-schema.schema.resolved in
    let graph = c.with_seed-2.result.graph in (
      record {
        guarded = opened schema c.args.limits graph c.with_seed-2.ensures.graph;
        stands = none_stands schema graph c.in_ok-index.index c.with_seed-2.ensures.graph
            (c.in_ok-index.ensures.exclusive ∙ ap (λ (r : Resolved). exclusive_keys r.guard.keys) (c.resolved.ensures.same ∙ c.compiled.ensures.schema)) c.in_ok-index.ensures.rows;
      },
      (c.with_seed-2.ensures.seeds, c.in_ok-index.ensures.seed),
    )
