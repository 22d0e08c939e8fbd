use Rattle.pgs_syntax.specs.Valid.{is_valid_key_of}
use Rattle.pgs_advice.proofs.Apartness.{first_passes, rest_passes, keys_more, keys_at_end}
use Rattle.pgs_advice.proofs.apart.keys_apart.Goals as goal

pub key_apart-requires-clause-valid : goal.key_apart-requires-clause-valid
key_apart-requires-clause-valid c =
    first_passes (is_valid_key_of c.args.schema.now) c.loop-left.left.now c.key-item.result c.in-len1-up.len_at_least c.key-item.is c.loop-left.invariant.valid

pub loop-left-preserved : goal.loop-left-preserved
loop-left-preserved c = record {
  valid = rest_passes (is_valid_key_of c.args.schema.now) c.loop-left.left.now c.in-len1-up.len_at_least c.loop-left.invariant.valid;
  apart = keys_more c.args.schema.now c.args.schema.now.guard.keys c.loop-left.left.now c.key-item.result c.loop-left.all.items c.push.new.self.items _
      c.in-len1-up.len_at_least c.key-item.is c.in_ok-key_apart.ensures c.in_ok-push.ensures.items c.loop-left.invariant.apart;
}

pub returns : goal.returns
returns c =
    keys_at_end c.args.schema.now c.args.schema.now.guard.keys c.loop-left.left.now c.loop-left.all.items c.in_default.len_below c.loop-left.invariant.apart
