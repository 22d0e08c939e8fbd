use Rattle.std.proofs.Common.{◌≡◌, ◌↔◌, IsTrue, sym, subst, rules}
use Rattle.std.specs.Ordering.{eq_by_cmp}
use Rattle.pgs_base.specs.Order.{props_cmp}
use Rattle.pgs_base.specs.OrderLaws.{props_eq_decides}
use Rattle.pgs_base.proofs.props.PropsPartialEq.eq.Goals as goal

pub returns-clause-same : goal.returns-clause-same
returns-clause-same c =
    let a = c.args.self.now in
    let b = c.args.other.now in
    let answer : c.is_eq.result ≡ eq_by_cmp props_cmp a b = search rules in
    subst (λ r. IsTrue r ↔ (a ≡ b)) (sym answer) (props_eq_decides a b)
