-- What changes keep is kept where an index has the rows after them.
use Rattle.std.proofs.Common.{◌≡◌, List, ap, ◌∙◌, subst, sym}
use Rattle.pgs_base.specs.Graph.{Graph}
use Rattle.pgs_syntax.specs.declared.resolved.Resolved.{Resolved}
use Rattle.pgs_violation.specs.Violations.{conforms}
use Rattle.pgs_keyindex.specs.declared.change.KeyChange.{KeyChange}
use Rattle.pgs_keyindex.specs.Index.{IndexState}
use Rattle.pgs_keyindex.specs.Rows.{KeyRows, rows_changed, values_at}
use Rattle.tests_graph.specs.Kept.{IsKept, Keeps}

pub kept_after : (resolved : Resolved) (g h : Graph) (index after : IndexState) (changes : List KeyChange) → Keeps resolved h index changes → g ≡ h →
    after.exclusive ≡ index.exclusive → after.rows ≡ rows_changed index.rows changes → IsKept resolved g after
kept_after resolved g h index after changes keeps same exclusive rows =
    subst (λ x. IsKept resolved x after) (sym same)
    (record {
      conforms = keeps.kept.conforms;
      stands = record {
        exclusive = exclusive ∙ keeps.kept.stands.exclusive;
        rows = λ number key at elem. ap (λ (r : KeyRows). values_at r number elem) rows ∙ keeps.kept.stands.rows number key at elem;
      };
    })
