use Rattle.std.proofs.Common.{◌≤◌, length, sum_by, ◌≡◌, true, take}
use Rattle.std.specs.List.{list_any}
use Rattle.pgs_base.specs.declared.row.NodeRow.{NodeRow}
use Rattle.pgs_base.specs.Pair.{is_pair}
use Rattle.pgs_syntax.specs.Typed.{types_node}
use Rattle.pgs_conform.specs.Shapes.{in_some}
use Rattle.pgs_contain.specs.Strange.{node_forms}
use Rattle.pgs_contain.proofs.typed.shapes_of_guard.Given as goal

abbrev pub invariant-loop-type_no : goal.invariant-loop-type_no
invariant-loop-type_no l = record {
  denote : (p : NodeRow) → is_pair p ≡ true → in_some l.all.items p ≡ list_any (types_node l.schema p) (take l.type_no-index l.types);
  within : length l.all.items ≤ sum_by (node_forms l.schema) (take l.type_no-index l.types);
}
