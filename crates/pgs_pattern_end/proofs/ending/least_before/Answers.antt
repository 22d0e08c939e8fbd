use Rattle.std.proofs.lemmas.Bool.{and_parts}
use Rattle.pgs_syntax.specs.Valid.{is_valid_key_of}
use Rattle.pgs_pattern_end.proofs.ending.least_before.Goals as goal

pub key_values-requires : goal.key_values-requires
key_values-requires g c =
    (and_parts (is_valid_key_of c.args.compiled.now c.args.front.now.upto) (is_valid_key_of c.args.compiled.now c.args.front.now.before) c.requires).1
