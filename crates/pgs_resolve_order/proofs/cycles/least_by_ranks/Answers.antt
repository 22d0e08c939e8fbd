use Rattle.std.proofs.Common.{◌≡◌, ℕ, length, Some, None, true, sym, ◌∙◌, ap, subst, arith}
use Rattle.pgs_resolve_order.specs.Links.{leads_back, first_of, IsLeastBack}
use Rattle.pgs_resolve_order.proofs.Backs.{none_by_ranks, some_by_ranks, least_of_these}
use Rattle.pgs_resolve_order.proofs.cycles.least_by_ranks.Goals as goal

pub returns-in_default : goal.returns-in_default
returns-in_default c rise =
    let names = c.args.names.now in
    let flags = c.in_ok-flags.flags.items in
    none_by_ranks names c.args.rows.now c.args.ranks.now flags rise (c.in_ok-flags.ensures.len ∙ ap length c.as_slice.ensures) (λ number within. c.in_ok-flags.ensures.flags number (let l = ap length c.as_slice.ensures in omega (arith, l)))
    (least_of_these c.as_slice-2.result.now names c.deref.result.now flags None c.as_slice-2.ensures c.deref.ensures.value c.in_default.ensures)

pub returns-then-is_back : goal.returns-then-is_back
returns-then-is_back c rise =
    let names = c.args.names.now in
    let rows = c.args.rows.now in
    let flags = c.in_ok-flags.flags.items in
    let least = c.in-Some.least in
    let led : leads_back rows (first_of names least) ≡ true = ap (leads_back rows) (sym c.first_place-target.ensures) ∙ (sym c.in_ok-is_back.ensures ∙ c.if-is_back.true) in
    subst (λ (t : ℕ). IsLeastBack names rows (Some t)) (sym c.first_place-target.ensures)
    (some_by_ranks names rows c.args.ranks.now flags rise (c.in_ok-flags.ensures.len ∙ ap length c.as_slice.ensures) (λ number within. c.in_ok-flags.ensures.flags number (let l = ap length c.as_slice.ensures in omega (arith, l))) least
    (least_of_these c.as_slice-2.result.now names c.deref.result.now flags (Some least) c.as_slice-2.ensures c.deref.ensures.value c.in-Some.ensures) led)
