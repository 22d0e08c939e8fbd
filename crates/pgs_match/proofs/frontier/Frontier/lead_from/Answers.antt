use Rattle.std.proofs.Common.{◌≡◌, ◌+◌, ◌∷◌, true, length, sym, ap, ◌∙◌, subst, arith}
use Rattle.std.proofs.lemmas.Result.{IfOk-weaker, on_ok_weaker}
use Rattle.pgs_match.specs.declared.step.Step.{Step}
use Rattle.pgs_match.specs.declared.step.Step.TheVariants.{End}
use Rattle.pgs_match.specs.Answers.{is_given}
use Rattle.pgs_match.specs.Frontier.{hops_most, AreNoted, IsPaidOn}
use Rattle.pgs_match.proofs.Frontiers.{one_apart}
use Rattle.pgs_match.proofs.FrontierStarts.{given_some, node_all, node_way, more_paid, start_all, start_path, start_has, start_way, start_paid, start_once}
use Rattle.pgs_match.proofs.frontier.Frontier.lead_from.Goals as goal
use Rattle.pgs_match.proofs.frontier.Frontier.lead_from.Goals.{in_default-via-in-Some+else-is_kept, in_default-via-in_default}

pub returns-in-Node-clause-all : goal.returns-in-Node-clause-all
returns-in-Node-clause-all g c =
    let graph = g.G.GraphRead.meaning c.args.self.now.asking.search.graph.now in
    let resolved = c.args.self.now.asking.search.compiled.now in
    let atoms = c.args.self.now.asking.search.atoms.now in
    let off = c.args.self.now.asking.whole.now in
    let ways = c.args.ways.now in
    let bound = c.args.bound in
    let id = c.in-Node.id in
    IfOk-weaker c.lead_on.result _ _ (λ ends all. node_all resolved graph atoms off ways bound id c.in-Node.is ends.items all) c.lead_on.ensures.all

pub returns-in-Node-clause-once : goal.returns-in-Node-clause-once
returns-in-Node-clause-once g c =
    let graph = g.G.GraphRead.meaning c.args.self.now.asking.search.graph.now in
    let resolved = c.args.self.now.asking.search.compiled.now in
    let atoms = c.args.self.now.asking.search.atoms.now in
    let off = c.args.self.now.asking.whole.now in
    let ways = c.args.ways.now in
    let bound = c.args.bound in
    let id = c.in-Node.id in
    λ var pairs few path among closed away.
    on_ok_weaker c.lead_on.result
    (more_paid resolved graph atoms off ways (length off) pairs c.args.notes.now c.lead_on.new.notes c.args.steps.now c.lead_on.new.steps)
    (c.lead_on.ensures.once var pairs few path (one_apart id) (node_way resolved graph atoms off ways bound id c.in-Node.is var pairs among closed away))

pub returns-in-Node-clause-few : goal.returns-in-Node-clause-few
returns-in-Node-clause-few g c =
    let graph = g.G.GraphRead.meaning c.args.self.now.asking.search.graph.now in
    let resolved = c.args.self.now.asking.search.compiled.now in
    let atoms = c.args.self.now.asking.search.atoms.now in
    let off = c.args.self.now.asking.whole.now in
    let ways = c.args.ways.now in
    let bound = c.args.bound in
    let id = c.in-Node.id in
    λ var pairs path among closed away.
    c.lead_on.ensures.few var pairs path (one_apart id) (node_way resolved graph atoms off ways bound id c.in-Node.is var pairs among closed away)

pub returns-in-Some-clause-all : goal.returns-in-Some-clause-all
returns-in-Some-clause-all g c =
    let graph = g.G.GraphRead.meaning c.args.self.now.asking.search.graph.now in
    let resolved = c.args.self.now.asking.search.compiled.now in
    let atoms = c.args.self.now.asking.search.atoms.now in
    let off = c.args.self.now.asking.whole.now in
    let ways = c.args.ways.now in
    let bound = c.args.bound in
    let one = c.in-Some-End-default in
    let first : ways ≡ End one.field-0-0-0 one.node one.source ∷ one.rest.now = one.ensures ∙ ap (λ (step : Step). step ∷ one.rest.now) one.field-0-0-is in
    let id = c.in-Some.id in
    let given : is_given resolved graph atoms off one.node id ≡ true = sym c.is_kept.ensures.found ∙ c.if-is_kept.true in
    IfOk-weaker c.lead_on-in-Some.result _ _ (λ ends all. start_all resolved graph atoms off ways one.rest.now one.field-0-0-0 one.node one.source bound id first c.in-Some.ensures given ends.items all) c.lead_on-in-Some.ensures.all

pub returns-in-Some-clause-once : goal.returns-in-Some-clause-once
returns-in-Some-clause-once g c =
    let graph = g.G.GraphRead.meaning c.args.self.now.asking.search.graph.now in
    let resolved = c.args.self.now.asking.search.compiled.now in
    let atoms = c.args.self.now.asking.search.atoms.now in
    let off = c.args.self.now.asking.whole.now in
    let ways = c.args.ways.now in
    let bound = c.args.bound in
    let one = c.in-Some-End-default in
    let first : ways ≡ End one.field-0-0-0 one.node one.source ∷ one.rest.now = one.ensures ∙ ap (λ (step : Step). step ∷ one.rest.now) one.field-0-0-is in
    let id = c.in-Some.id in
    let given : is_given resolved graph atoms off one.node id ≡ true = sym c.is_kept.ensures.found ∙ c.if-is_kept.true in
    λ var pairs few path among closed away.
    on_ok_weaker c.lead_on-in-Some.result
    (start_once resolved graph atoms off ways one.rest.now one.field-0-0-0 one.node one.source bound id first c.in-Some.ensures (length off) pairs c.args.notes.now c.is_kept.new.notes c.lead_on-in-Some.new.notes c.args.steps.now c.is_kept.new.steps c.lead_on-in-Some.new.steps
    c.lead_on-in-Some.ensures.full (c.is_kept.ensures.once pairs few away (start_has resolved graph atoms off ways one.rest.now one.field-0-0-0 one.node one.source bound id first c.in-Some.ensures var pairs path among closed)))
    (c.lead_on-in-Some.ensures.once one.node pairs few (start_path resolved graph atoms off ways one.rest.now one.field-0-0-0 one.node one.source bound id first c.in-Some.ensures var pairs path among closed) (one_apart id)
    (start_way resolved graph atoms off ways one.rest.now one.field-0-0-0 one.node one.source bound id first c.in-Some.ensures var pairs path among closed (given_some resolved graph atoms off one.node id given) away))

pub returns-in-Some-clause-few : goal.returns-in-Some-clause-few
returns-in-Some-clause-few g c =
    let graph = g.G.GraphRead.meaning c.args.self.now.asking.search.graph.now in
    let resolved = c.args.self.now.asking.search.compiled.now in
    let atoms = c.args.self.now.asking.search.atoms.now in
    let off = c.args.self.now.asking.whole.now in
    let ways = c.args.ways.now in
    let bound = c.args.bound in
    let one = c.in-Some-End-default in
    let first : ways ≡ End one.field-0-0-0 one.node one.source ∷ one.rest.now = one.ensures ∙ ap (λ (step : Step). step ∷ one.rest.now) one.field-0-0-is in
    let id = c.in-Some.id in
    let given : is_given resolved graph atoms off one.node id ≡ true = sym c.is_kept.ensures.found ∙ c.if-is_kept.true in
    λ var pairs path among closed away.
    c.lead_on-in-Some.ensures.few one.node pairs (start_path resolved graph atoms off ways one.rest.now one.field-0-0-0 one.node one.source bound id first c.in-Some.ensures var pairs path among closed) (one_apart id)
    (start_way resolved graph atoms off ways one.rest.now one.field-0-0-0 one.node one.source bound id first c.in-Some.ensures var pairs path among closed (given_some resolved graph atoms off one.node id given) away)

pub returns-in_default-clause-right : goal.returns-in_default-clause-right
returns-in_default-clause-right g c =
    let graph = g.G.GraphRead.meaning c.args.self.now.asking.search.graph.now in
    let resolved = c.args.self.now.asking.search.compiled.now in
    let atoms = c.args.self.now.asking.search.atoms.now in
    let off = c.args.self.now.asking.whole.now in
    elim c.in_default.branch [
      | in_default-via-in-Some+else-is_kept w ↦ subst (AreNoted resolved graph atoms off) (sym w.notes-is) w.is_kept.ensures.right
      | in_default-via-in_default w ↦ subst (AreNoted resolved graph atoms off) (sym w.notes-is) c.requires.right
    ]

pub returns-in_default-clause-once : goal.returns-in_default-clause-once
returns-in_default-clause-once g c =
    let graph = g.G.GraphRead.meaning c.args.self.now.asking.search.graph.now in
    let resolved = c.args.self.now.asking.search.compiled.now in
    let atoms = c.args.self.now.asking.search.atoms.now in
    let off = c.args.self.now.asking.whole.now in
    let ways = c.args.ways.now in
    let bound = c.args.bound in
    let one = c.in-Some-End-default in
    let first : ways ≡ End one.field-0-0-0 one.node one.source ∷ one.rest.now = one.ensures ∙ ap (λ (step : Step). step ∷ one.rest.now) one.field-0-0-is in
    λ var pairs few path among closed away.
    let own = 1 + hops_most graph (length off) ways pairs in
    elim c.in_default.branch [
      | in_default-via-in-Some+else-is_kept w ↦
          subst (λ n. IsPaidOn graph pairs c.args.notes.now n c.args.steps.now c.in_default.steps own) (sym w.notes-is)
          (subst (λ s. IsPaidOn graph pairs c.args.notes.now w.is_kept.new.notes c.args.steps.now s own) (sym w.steps-is)
          (start_paid resolved graph atoms off ways one.rest.now one.field-0-0-0 one.node one.source bound w.in-Some.id first w.in-Some.ensures (length off) pairs c.args.notes.now w.is_kept.new.notes c.args.steps.now w.is_kept.new.steps
          (w.is_kept.ensures.once pairs few away (start_has resolved graph atoms off ways one.rest.now one.field-0-0-0 one.node one.source bound w.in-Some.id first w.in-Some.ensures var pairs path among closed))))
      | in_default-via-in_default w ↦
          subst (λ n. IsPaidOn graph pairs c.args.notes.now n c.args.steps.now c.in_default.steps own) (sym w.notes-is)
          (λ on full. omega (arith, w.steps-is))
    ]
