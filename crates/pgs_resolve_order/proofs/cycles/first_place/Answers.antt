use Rattle.std.proofs.Common.{ℕ, List, Option, unwrap_or, ◌∙◌, ap, arith}
use Rattle.std.specs.List.{position}
use Rattle.pgs_base.specs.Pair.{same_name}
use Rattle.pgs_resolve_order.proofs.Leading.{name_at}
use Rattle.pgs_resolve_order.proofs.cycles.first_place.Goals as goal

pub returns-in-Some : goal.returns-in-Some
returns-in-Some c =
    let names = c.args.names.now in
    let at = name_at names c.as_slice.result.now c.args.number c.index-as_slice-number.result c.as_slice.ensures (omega arith) c.index-as_slice-number.is in
    ap (λ (o : Option ℕ). unwrap_or o c.args.number) (c.in-Some.ensures ∙ ap (λ (n : List ℕ). position (same_name n) names) at)

pub returns-in-None : goal.returns-in-None
returns-in-None c =
    let names = c.args.names.now in
    let at = name_at names c.as_slice.result.now c.args.number c.index-as_slice-number.result c.as_slice.ensures (omega arith) c.index-as_slice-number.is in
    ap (λ (o : Option ℕ). unwrap_or o c.args.number) (c.in-None.ensures ∙ ap (λ (n : List ℕ). position (same_name n) names) at)
