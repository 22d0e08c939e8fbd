use Rattle.std.proofs.Common.{◌≡◌, ◌≤◌, refl, sym, subst}
use Rattle.pgs_base.specs.Graph.{Graph, element_count}
use Rattle.pgs_codec.specs.Encodable.{snapshot_graph}
use Rattle.pgs_keyindex.specs.Standing.{StandsFor}
use Rattle.pgs_store.specs.State.{GuardState, IsHashedBy, IsIndexed}
use Rattle.pgs_violation.specs.declared.violation.Verdict.TheVariants.{Conforms}
use Rattle.pgs_violation.specs.Violations.{verdict}
use Rattle.pgs_store.proofs.Decided.{small_rows}
use Rattle.pgs_store.proofs.recovering.restore.Goals as goal

pub invariant_of-guard : goal.invariant_of-guard
invariant_of-guard g c =
    let graph = snapshot_graph c.args.nodes c.args.edges in
    let judged = c.in_ok-tables.ensures in
    let index = c.in_ok-tables.index in
    let inside = c.guard.inside in (
      subst (λ (h : Graph). IsIndexed inside.schema.resolved inside.limits h index) (sym judged.graph) (record {
        guarded = record {
          conforms = subst (λ (s : GuardState). verdict s.schema graph ≡ Conforms) (sym c.guard.view_is) judged.conforms;
          within = subst (λ (s : GuardState). element_count graph ≤ s.limits.elements) (sym c.guard.view_is) judged.within;
          small = small_rows c.args.commits c.args.nodes c.args.edges graph refl c.requires;
        };
        stands = subst (λ (s : GuardState). StandsFor s.schema graph s.schema.guard.keys index) (sym c.guard.view_is) judged.stands;
      }),
      subst (λ (s : GuardState). IsHashedBy s.seed c.in_ok-tables.tables.seeds index.seed) (sym c.guard.view_is) judged.hashed,
    )
