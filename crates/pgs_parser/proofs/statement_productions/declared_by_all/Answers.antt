use Rattle.std.proofs.Common.{length, ap, arith}
use Rattle.std.proofs.lemmas.List.Folds.{length-flat_map-take}
use Rattle.pgs_parser.specs.Statements.{place_of_member}
use Rattle.pgs_parser.proofs.statement_productions.declared_by_all.Goals as goal

pub overflow_add-count : goal.overflow_add-count
overflow_add-count c =
    let members = c.args.members.now in
    let all = length-flat_map-take place_of_member members c.loop-member.member-index c.member-item.result c.loop-member-test.true in
    let same = ap (λ m. length (place_of_member m)) c.member-item.is in
    omega (arith, c.declared_by-count.ensures.count, c.loop-member.invariant, c.requires)
