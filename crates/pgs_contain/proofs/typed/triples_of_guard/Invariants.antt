use Rattle.std.proofs.Common.{◌≤◌, length, sum_by, ◌≡◌, true, take}
use Rattle.std.specs.List.{list_any}
use Rattle.pgs_syntax.specs.Join.{PairTriple}
use Rattle.pgs_syntax.specs.Triples.{is_triple}
use Rattle.pgs_syntax.specs.Typed.{types_edge}
use Rattle.pgs_conform.specs.Shapes.{in_some_triple}
use Rattle.pgs_contain.specs.Strange.{edge_forms}
use Rattle.pgs_contain.proofs.typed.triples_of_guard.Given as goal

abbrev pub invariant-loop-type_no : goal.invariant-loop-type_no
invariant-loop-type_no l = record {
  denote : (t : PairTriple) → is_triple t ≡ true → in_some_triple l.all.items t ≡ list_any (types_edge l.schema t) (take l.type_no-index l.types);
  within : length l.all.items ≤ sum_by (edge_forms l.schema) (take l.type_no-index l.types);
}
