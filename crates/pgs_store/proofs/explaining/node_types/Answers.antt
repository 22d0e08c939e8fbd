use Rattle.std.proofs.Common.{refl}
use Rattle.pgs_store.proofs.Fitting.{type_there}
use Rattle.pgs_store.proofs.explaining.node_types.Goals as goal

pub fits_as_node-requires : goal.fits_as_node-requires
fits_as_node-requires c =
    type_there c.args.compiled.now c.resolved.ensures.valid c.as_slice-types.result.now (rw (c.as_slice-types.ensures, c.resolved.ensures.same) refl)
    c.loop-type_no.type_no-index c.loop-type_no-test.true _
