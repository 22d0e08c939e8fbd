use Rattle.std.proofs.Common.{◌+◌, ◌*◌, [], length, fold, cond, Some, None, sym, ap, ◌∙◌, arith}
use Rattle.std.specs.Option.{option_map_or}
use Rattle.std.specs.List.{sum_by}
use Rattle.std.proofs.lemmas.Bool.{lt-ltb}
use Rattle.pgs_match.specs.declared.stand.Stand.{Stand}
use Rattle.pgs_match.specs.Answers.{own_most}
use Rattle.pgs_match.specs.Bounds.{with_bound, nothing_bound}
use Rattle.pgs_match.specs.Frontier.{led_on, hops_most}
use Rattle.pgs_match.specs.Routes.{routes, with_tuple}
use Rattle.pgs_match.specs.Spread.{elem_degree}
use Rattle.pgs_match.proofs.FrontierRoutes.{ends_are_routes}
use Rattle.pgs_match.proofs.Kept.{with_off, few_price, paid_off, paid_most, paid_twice, paid_after}
use Rattle.pgs_match.proofs.ToOne.{leads_parts, led_cost, ends_most, few_ends, own_within}
use Rattle.pgs_match.proofs.ways.Way.tuples_from.Goals as goal

pub returns-then-not-given-clause-ok : goal.returns-then-not-given-clause-ok
returns-then-not-given-clause-ok g c =
    let way = c.args.self.now in
    let search = way.gathering.search in
    let graph = g.G.GraphRead.meaning search.graph.now in
    c.new.ensures
    ∙ sym (ap (λ b. fold (with_tuple graph way.gathering.exprs.now) [] (option_map_or (λ x. routes search.compiled.now graph search.atoms.now way.off.now c.args.on.now (with_bound nothing_bound c.args.var x)) (cond b (Some c.args.bound) None) []))
    (sym c.given.ensures.found ∙ c.if-not-given.true))

pub returns-then-not-given-clause-once : goal.returns-then-not-given-clause-once
returns-then-not-given-clause-once g c = λ pairs few small among on_closed off_closed.
    let way = c.args.self.now in
    let graph = g.G.GraphRead.meaning way.gathering.search.graph.now in
    let off = way.off.now in
    let notes = c.args.notes.now in
    let total = sum_by (λ (stand : Stand). elem_degree graph stand.elem + 2) pairs in
    let own = own_within graph pairs off c.args.var c.args.bound few among in
    paid_most graph pairs notes (with_off notes c.given.new.answers) c.args.steps.now c.given.new.steps (own_most graph off c.args.bound) (456 * total + hops_most graph (length off) c.args.on.now pairs) (omega (arith, own))
    (paid_off graph pairs notes c.given.new.answers c.args.steps.now c.given.new.steps (own_most graph off c.args.bound) (c.given.ensures.once pairs 440 (few_price off few) off_closed among))

pub returns-in_err-ends-clause-cost : goal.returns-in_err-ends-clause-cost
returns-in_err-ends-clause-cost g c =
    let way = c.args.self.now in
    let search = way.gathering.search in
    let graph = g.G.GraphRead.meaning search.graph.now in
    let led = led_cost search.compiled.now graph search.atoms.now way.off.now way.gathering.exprs.now c.args.on.now c.args.var c.args.bound c.requires.variable c.requires.in_range c.requires.one in
    omega (arith, c.given.ensures.cost, c.lead_from.ensures.cost, led)

pub returns-in_err-gather_ends-clause-cost : goal.returns-in_err-gather_ends-clause-cost
returns-in_err-gather_ends-clause-cost g c =
    let way = c.args.self.now in
    let search = way.gathering.search in
    let graph = g.G.GraphRead.meaning search.graph.now in
    let exprs = way.gathering.exprs.now in
    let led = led_cost search.compiled.now graph search.atoms.now way.off.now exprs c.args.on.now c.args.var c.args.bound c.requires.variable c.requires.in_range c.requires.one in
    let most = ends_most (length exprs) (led_on search.compiled.now graph search.atoms.now way.off.now c.args.on.now c.args.bound) c.in_ok-ends.ends.items c.in_ok-ends.ensures.all in
    let same = ap (λ xs. length exprs * length xs) c.as_slice.ensures.value in
    omega (arith, c.given.ensures.cost, c.lead_from.ensures.cost, c.gather_ends.ensures.cost, led, most, same)

pub returns-clause-cost : goal.returns-clause-cost
returns-clause-cost g c =
    let way = c.args.self.now in
    let search = way.gathering.search in
    let graph = g.G.GraphRead.meaning search.graph.now in
    let exprs = way.gathering.exprs.now in
    let led = led_cost search.compiled.now graph search.atoms.now way.off.now exprs c.args.on.now c.args.var c.args.bound c.requires.variable c.requires.in_range c.requires.one in
    let most = ends_most (length exprs) (led_on search.compiled.now graph search.atoms.now way.off.now c.args.on.now c.args.bound) c.in_ok-ends.ends.items c.in_ok-ends.ensures.all in
    let same = ap (λ xs. length exprs * length xs) c.as_slice.ensures.value in
    omega (arith, c.given.ensures.cost, c.lead_from.ensures.cost, c.gather_ends.ensures.cost, led, most, same)

pub returns-clause-ok : goal.returns-clause-ok
returns-clause-ok g c =
    let way = c.args.self.now in
    let search = way.gathering.search in
    let graph = g.G.GraphRead.meaning search.graph.now in
    let exprs = way.gathering.exprs.now in
    c.in_ok-gather_ends.ensures.ok
    ∙ (λ i. fold (λ so_far end. with_tuple graph exprs so_far (with_bound (c.alone-bindings.ensures i) (c.end_var-last.ensures i) end)) (c.new-tuples.ensures i) (c.as_slice.ensures.value i))
    ∙ ends_are_routes search.compiled.now graph search.atoms.now way.off.now exprs c.args.on.now c.args.var c.args.bound c.in_ok-ends.ends.items (lt-ltb c.args.var 20 c.requires.variable) c.requires.in_range c.requires.one c.in_ok-ends.ensures.all
    ∙ sym (ap (λ b. fold (with_tuple graph exprs) [] (option_map_or (λ x. routes search.compiled.now graph search.atoms.now way.off.now c.args.on.now (with_bound nothing_bound c.args.var x)) (cond b (Some c.args.bound) None) []))
    (sym c.given.ensures.found ∙ c.if-not-given.false))

pub returns-clause-once : goal.returns-clause-once
returns-clause-once g c = λ pairs few small among on_closed off_closed.
    let way = c.args.self.now in
    let graph = g.G.GraphRead.meaning way.gathering.search.graph.now in
    let off = way.off.now in
    let exprs = way.gathering.exprs.now in
    let notes = c.args.notes.now in
    let mid = with_off notes c.given.new.answers in
    let after = c.lead_from.new.notes in
    let own = own_most graph off c.args.bound in
    let hops = hops_most graph (length off) c.args.on.now pairs in
    let total = sum_by (λ (stand : Stand). elem_degree graph stand.elem + 2) pairs in
    let path = (leads_parts c.args.var c.args.on.now exprs c.requires.one).0 in
    let first = paid_off graph pairs notes c.given.new.answers c.args.steps.now c.given.new.steps own (c.given.ensures.once pairs 440 (few_price off few) off_closed among) in
    let second = c.in_ok-ends.ensures.once c.args.var pairs few path among on_closed off_closed in
    let both = paid_twice graph pairs notes mid after c.args.steps.now c.given.new.steps c.lead_from.new.steps own (1 + hops) c.lead_from.ensures.full first second in
    let ends = c.in_ok-ends.ensures.few c.args.var pairs path among on_closed off_closed in
    let tuples = few_ends (length exprs) (length c.in_ok-ends.ends.items) total small ends in
    let same = ap (λ xs. length exprs * length xs) c.as_slice.ensures.value in
    let less = own_within graph pairs off c.args.var c.args.bound few among in
    paid_most graph pairs notes after c.args.steps.now c.gather_ends.new.steps (own + (1 + hops) + 16 * total) (456 * total + hops) (omega (arith, less))
    (paid_after graph pairs notes after c.args.steps.now c.lead_from.new.steps c.gather_ends.new.steps (own + (1 + hops)) (16 * total) (omega (arith, c.gather_ends.ensures.cost, tuples, same)) both)

pub given-requires-clause-right : goal.given-requires-clause-right
given-requires-clause-right g c = c.requires.right.1

pub lead_from-requires-clause-right : goal.lead_from-requires-clause-right
lead_from-requires-clause-right g c = (c.requires.right.0, c.given.ensures.right, c.requires.right.2)

pub returns-then-not-given-clause-right : goal.returns-then-not-given-clause-right
returns-then-not-given-clause-right g c = (c.requires.right.0, c.given.ensures.right, c.requires.right.2)
