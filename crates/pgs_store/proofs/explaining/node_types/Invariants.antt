use Rattle.std.proofs.Common.{◌≡◌, filter, take}
use Rattle.pgs_store.specs.Fits.{fits_as_node}
use Rattle.pgs_store.proofs.explaining.node_types.Given as goal

abbrev pub invariant-loop-type_no : goal.invariant-loop-type_no
invariant-loop-type_no l = l.fitting.items ≡ filter (fits_as_node l.compiled l.own) (take l.type_no-index l.types)
