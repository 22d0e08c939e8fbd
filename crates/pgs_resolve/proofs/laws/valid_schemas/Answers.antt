use Rattle.pgs_resolve.proofs.Valid.{schema_valid}
use Rattle.pgs_resolve.proofs.laws.valid_schemas.Goals as goal

pub returns : goal.returns
returns c script tokens schema tree ok = schema_valid script schema tree.places ok
