use Rattle.pgs_key_causes.specs.Fronts.{descriptor_of}
use Rattle.pgs_key_causes.proofs.Covering.{walk_covers}
use Rattle.pgs_key_causes.proofs.Visiting.{walk_distinct}
use Rattle.pgs_key_causes.proofs.laws.a_walk_visits_each_place_once.Goals as goal

pub returns : goal.returns
returns c = record { each = walk_covers; once = λ numbering key. walk_distinct (descriptor_of numbering key).occurrences }
