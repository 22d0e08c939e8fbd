use Rattle.std.proofs.Common.{◌≡◌, List, drop, reverse}
use Rattle.std.specs.BTreeMap as tree
use Rattle.pgs_base.specs.declared.part.Part.{Part}
use Rattle.pgs_base.specs.Order.{tuple_cmp}
use Rattle.pgs_scratch.specs.Owners.{owner}
use Rattle.pgs_scratch.specs.Rows.{shared_values}
use Rattle.pgs_scratch.proofs.owners.shared_by_table.Given as goal

abbrev pub invariant-loop-place : goal.invariant-loop-place
invariant-loop-place l = record {
  so_far : reverse l.found.items ≡ shared_values l.number (drop l.place l.rows);
  owners : (q : List Part) → tree.get_by (λ k. tuple_cmp q k.now) l.table ≡ owner (drop l.place l.rows) q;
}
