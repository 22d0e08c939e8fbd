use Rattle.std.proofs.Common.{◌≡◌, length, take, flat_map}
use Rattle.pgs_parser.specs.Statements.{place_of_member}
use Rattle.pgs_parser.proofs.statement_productions.declared_by_all.Given as goal

abbrev pub invariant-loop-member : goal.invariant-loop-member
invariant-loop-member l = l.count ≡ length (flat_map place_of_member (take l.member-index l.members))
