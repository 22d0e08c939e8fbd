use Rattle.pgs_parser.proofs.Ranges.{range-tail}
use Rattle.pgs_parser.proofs.parser.Parser.advance.Goals as goal

pub returns : goal.returns
returns c =
    let p = c.self.inside in
    range-tail p.tokens.now p.at p.end c.args.self.now c.self.view_is c.requires
