use Rattle.pgs_world.proofs.DiskModel.{model_exact}
use Rattle.pgs_world.proofs.model.disk_model.Goals as goal

pub returns : goal.returns
returns c = model_exact
