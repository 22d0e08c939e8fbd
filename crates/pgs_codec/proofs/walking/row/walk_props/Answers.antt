use Rattle.std.proofs.Common.{sym, subst}
use Rattle.pgs_codec.specs.Unread.{Passes}
use Rattle.pgs_codec.proofs.Walked.{props_end}
use Rattle.pgs_codec.proofs.walking.row.walk_props.Goals as goal

pub returns : goal.returns
returns c =
    subst (Passes c.walk_properties.result c.walk_properties.new.reader.rest.now)
    (sym (props_end c.args.reader.now.rest.now c.number16.new.self.rest.now c.in_ok-count.count c.in_ok-count.ensures c.if-count-gt256.false)) c.walk_properties.ensures
