use Rattle.std.proofs.Common.{◌≡◌, ◌++◌, take}
use Rattle.pgs_tables_edges.proofs.short.Short.append.Given as goal

abbrev pub invariant-loop-id : goal.invariant-loop-id
invariant-loop-id l = l.self ≡ l.initial.self ++ take l.id-index l.ids
