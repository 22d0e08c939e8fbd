use Rattle.pgs_advice.specs.Used.{named_by}
use Rattle.pgs_advice.proofs.Leading.{is_led_to, is_found}
use Rattle.pgs_advice.proofs.ValidTypes.{lower}
use Rattle.pgs_advice.proofs.laws.named_types.Goals as goal

pub returns-clause-found : goal.returns-clause-found
returns-clause-found c = λ resolved own base valid is. is_led_to resolved valid (named_by resolved own) (λ t h. (lower resolved valid own t h).there) base is

pub returns-clause-whole : goal.returns-clause-whole
returns-clause-whole c = λ resolved own base valid is. is_found resolved valid (named_by resolved own) (λ t h. (lower resolved valid own t h).there) base is
