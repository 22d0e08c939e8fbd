use Rattle.pgs_json.proofs.LabelOrder.{labels_either_order}
use Rattle.pgs_json.proofs.samples.labels_in_another_order.Goals as goal

pub returns : goal.returns
returns c = labels_either_order
