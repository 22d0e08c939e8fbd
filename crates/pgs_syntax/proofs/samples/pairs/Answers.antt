use Rattle.std.proofs.Common.{refl}
use Rattle.std.specs.Char.{encode_utf8}
use Rattle.std.specs.Str.{is_utf8, chars}
use Rattle.pgs_syntax.proofs.samples.pairs.Goals as goal

pub returns-clause-ann_is_pair : goal.returns-clause-ann_is_pair
unfolding is_utf8 chars encode_utf8
returns-clause-ann_is_pair c = refl

pub returns-clause-no_text : goal.returns-clause-no_text
unfolding is_utf8 chars
returns-clause-no_text c = refl
