use Rattle.std.proofs.Common.{◌≡◌, filter, take}
use Rattle.pgs_conform.specs.Shapes.{triple_of}
use Rattle.pgs_store.specs.Fits.{fits_as_edge}
use Rattle.pgs_store.proofs.explaining.triple_types.Given as goal

abbrev pub invariant-loop-type_no : goal.invariant-loop-type_no
invariant-loop-type_no l = l.fitting.items ≡ filter (fits_as_edge l.compiled (triple_of l.source l.own l.target)) (take l.type_no-index l.types)
