use Rattle.pgs_syntax.specs.Valid.{is_valid_key_of}
use Rattle.pgs_key_standing.proofs.Turns.{first_passes, rest_passes, reached_more, reached_at_end}
use Rattle.pgs_key_standing.proofs.reach.keys_reach.Goals as goal

pub key_reach-requires : goal.key_reach-requires
key_reach-requires c =
    first_passes (is_valid_key_of c.args.schema.now) c.loop-left.left.now c.key-item.result c.in-len1-up.len_at_least c.key-item.is c.loop-left.invariant.valid

pub loop-left-preserved : goal.loop-left-preserved
loop-left-preserved c = record {
  valid = rest_passes (is_valid_key_of c.args.schema.now) c.loop-left.left.now c.in-len1-up.len_at_least c.loop-left.invariant.valid;
  reached = reached_more c.args.schema.now c.args.schema.now.guard.keys c.loop-left.left.now c.key-item.result c.loop-left.all.items c.push.new.self.items _
      c.in-len1-up.len_at_least c.key-item.is c.in_ok-reach.ensures c.in_ok-push.ensures.items c.loop-left.invariant.reached;
}

pub returns : goal.returns
returns c =
    reached_at_end c.args.schema.now c.args.schema.now.guard.keys c.loop-left.left.now c.loop-left.all.items c.in_default.len_below c.loop-left.invariant.reached
