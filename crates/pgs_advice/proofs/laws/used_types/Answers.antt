use Rattle.pgs_advice.specs.Used.{first_types}
use Rattle.pgs_advice.proofs.Leading.{is_led_to, is_found}
use Rattle.pgs_advice.proofs.ValidTypes.{first_there}
use Rattle.pgs_advice.proofs.laws.used_types.Goals as goal

pub returns-clause-found : goal.returns-clause-found
returns-clause-found c = λ resolved type valid is. is_led_to resolved valid (first_types resolved) (first_there resolved valid) type is

pub returns-clause-whole : goal.returns-clause-whole
returns-clause-whole c = λ resolved type valid is. is_found resolved valid (first_types resolved) (first_there resolved valid) type is
