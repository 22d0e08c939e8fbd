use Rattle.pgs_parser.specs.Text.{is_too_long}
use Rattle.pgs_parser.proofs.NoMode.{no_mode_found}
use Rattle.pgs_parser.proofs.Texts as texts
use Rattle.pgs_parser.proofs.samples.unreadable.Goals as goal

pub returns-clause-long : goal.returns-clause-long
returns-clause-long c text long = is_too_long long

pub returns-clause-bad_byte : goal.returns-clause-bad_byte
returns-clause-bad_byte c = texts.bad_byte_found

pub returns-clause-no_mode : goal.returns-clause-no_mode
returns-clause-no_mode c = no_mode_found
