use Rattle.std.proofs.Common.{arith}
use Rattle.pgs_parser.proofs.Chains.{keyword_sound, keyword_if_sound}
use Rattle.pgs_parser.proofs.parser.Parser.statement.Goals as goal

pub declaration-requires : goal.declaration-requires
declaration-requires c =
    let create = (keyword_sound "CREATE" c.args.self.now c.keyword.new.self c.in_ok-keyword.ensures).1 in
    let earlier = (keyword_if_sound "ABSTRACT" c.keyword.new.self (c.keyword_if-earlier.result, c.keyword_if-earlier.new.self) c.keyword_if-earlier.ensures).1 in
    omega (arith, c.requires)
