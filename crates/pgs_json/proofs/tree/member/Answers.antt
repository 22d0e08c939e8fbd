use Rattle.std.proofs.Common.{sym, ◌∙◌}
use Rattle.pgs_json.proofs.Trees.{member_found, member_passed}
use Rattle.pgs_json.proofs.tree.member.Goals as goal

pub returns-then-eq : goal.returns-then-eq
returns-then-eq c =
    sym (c.loop-found.invariant ∙ member_found c.args.name.now c.args.members.now c.loop-found.found-index _ c.loop-found-test.true c.loop-found-item.is (sym c.eq.ensures ∙ c.if-eq.true))

pub loop-found-preserved : goal.loop-found-preserved
loop-found-preserved c =
    c.loop-found.invariant ∙ member_passed c.args.name.now c.args.members.now c.loop-found.found-index _ c.loop-found-test.true c.loop-found-item.is (sym c.eq.ensures ∙ c.if-eq.false)
