use Rattle.std.proofs.Common.{◌≡◌, ◌+◌, false, Option, Some, None, refl, sym, ap, ◌∙◌, subst, arith}
use Rattle.std.specs.Option.{option_map_or}
use Rattle.pgs_match.specs.declared.answers.Answers.{Answers}
use Rattle.pgs_match.specs.declared.bindings.Bound.{Bound}
use Rattle.pgs_match.specs.declared.notes.Notes.{Notes}
use Rattle.pgs_match.specs.Answers.{is_given, noted, own_most}
use Rattle.pgs_match.specs.Branches.{can_be_given}
use Rattle.pgs_match.specs.Frontier.{AreNoted, IsPaidOn}
use Rattle.pgs_match.proofs.Noting.{node_among}
use Rattle.pgs_match.proofs.Noting.{leaf_given}
use Rattle.pgs_match.proofs.Kept.{noted_on, noted_off, paid_off, paid_kept, paid_itself, few_price}
use Rattle.pgs_match.proofs.frontier.Frontier.is_kept.Goals as goal
use Rattle.pgs_match.proofs.frontier.Frontier.is_kept.Goals.{in-Some-admit_node, in-None-admit_node}

pub returns-then-not-is_left-clause-found : goal.returns-then-not-is_left-clause-found
returns-then-not-is_left-clause-found g c =
    let search = c.args.self.now.asking.search in
    let graph = g.G.GraphRead.meaning search.graph.now in
    let resolved = search.compiled.now in
    let atoms = search.atoms.now in
    let off = c.args.self.now.asking.whole.now in
    let none = sym c.is_left.ensures ∙ c.if-not-is_left.true in
    c.is_some.ensures ∙ leaf_given resolved graph atoms off c.args.var c.admit_node.result none
    ∙ ap (λ o. option_map_or (can_be_given resolved graph atoms off c.args.var) o false) c.admit_node.ensures.value

pub returns-after-admit_node-clause-right : goal.returns-after-admit_node-clause-right
returns-after-admit_node-clause-right g c =
    let search = c.args.self.now.asking.search in
    let graph = g.G.GraphRead.meaning search.graph.now in
    let resolved = search.compiled.now in
    let atoms = search.atoms.now in
    let off = c.args.self.now.asking.whole.now in
    let answer = c.match-admit_node.answer in
    let value = c.admit_node-in-None.ensures.value in
    let given : answer ≡ is_given resolved graph atoms off c.args.var c.args.id =
    elim c.match-admit_node.branch [
      | in-Some-admit_node w ↦ w.answer-is ∙ w.given-answer.ensures.found ∙ ap (λ o. option_map_or (can_be_given resolved graph atoms off c.args.var) o false) w.in-Some-admit_node.ensures.value
      | in-None-admit_node w ↦ w.answer-is ∙ ap (λ o. option_map_or (can_be_given resolved graph atoms off c.args.var) o false) w.in-None-admit_node.ensures.value
    ] in
    let right : AreNoted resolved graph atoms off c.match-admit_node.notes =
    elim c.match-admit_node.branch [
      | in-Some-admit_node w ↦ subst (AreNoted resolved graph atoms off) (sym w.notes-is) (noted_off resolved graph atoms off c.args.notes.now w.given-answer.new.answers c.requires.right w.given-answer.ensures.right)
      | in-None-admit_node w ↦ subst (AreNoted resolved graph atoms off) (sym w.notes-is) c.requires.right
    ] in
    noted_on resolved graph atoms off c.args.var c.args.id answer c.match-admit_node.notes c.note.new.self c.note.ensures.noted c.note.ensures.full given right

pub returns-after-admit_node-clause-once : goal.returns-after-admit_node-clause-once
returns-after-admit_node-clause-once g c =
    let search = c.args.self.now.asking.search in
    let graph = g.G.GraphRead.meaning search.graph.now in
    let resolved = search.compiled.now in
    let atoms = search.atoms.now in
    let off = c.args.self.now.asking.whole.now in
    let before = c.args.notes.now in
    let mid = c.match-admit_node.notes in
    let tried = c.admit_node-in-None.new.steps in
    let now = c.match-admit_node.steps in
    λ pairs few closed has.
    let same : mid.on ≡ before.on =
    elim c.match-admit_node.branch [
      | in-Some-admit_node w ↦ ap (λ (n : Notes). n.on) w.notes-is
      | in-None-admit_node w ↦ ap (λ (n : Notes). n.on) w.notes-is
    ] in
    let new : noted mid.on c.args.var c.args.id ≡ None = ap (λ (a : Answers). noted a c.args.var c.args.id) same ∙ sym c.in-None.ensures in
    let paid : IsPaidOn graph pairs before mid tried now (option_map_or (own_most graph off) c.admit_node-in-None.result 0) =
    elim c.match-admit_node.branch [
      | in-Some-admit_node w ↦
          let among = node_among resolved graph atoms c.args.var pairs c.args.id has (Some w.in-Some-admit_node.bound) w.in-Some-admit_node.ensures.value w.in-Some-admit_node.bound refl in
          let one = paid_off graph pairs before w.given-answer.new.answers tried w.given-answer.new.steps (own_most graph off w.in-Some-admit_node.bound)
          (w.given-answer.ensures.once pairs 440 (few_price off few) closed among) in
          subst (λ (o : Option Bound). IsPaidOn graph pairs before mid tried now (option_map_or (own_most graph off) o 0)) (sym w.in-Some-admit_node.is)
          (subst (λ s. IsPaidOn graph pairs before mid tried s (own_most graph off w.in-Some-admit_node.bound)) (sym w.steps-is)
          (subst (λ (n : Notes). IsPaidOn graph pairs before n tried w.given-answer.new.steps (own_most graph off w.in-Some-admit_node.bound)) (sym w.notes-is) one))
      | in-None-admit_node w ↦
          subst (λ (n : Notes). IsPaidOn graph pairs before n tried now (option_map_or (own_most graph off) c.admit_node-in-None.result 0)) (sym w.notes-is)
          (paid_itself graph pairs before tried now (option_map_or (own_most graph off) c.admit_node-in-None.result 0) (let is = w.steps-is in omega (arith, is)))
    ] in
    let at : tried ≡ c.args.steps.now + 1 = c.admit_node-in-None.ensures.tick in
    paid_kept resolved graph atoms pairs off few c.args.var c.args.id c.match-admit_node.answer before mid c.note.new.self new c.note.ensures.noted c.note.ensures.stays has
    c.admit_node-in-None.result c.admit_node-in-None.ensures.value c.args.steps.now now
    (subst (λ t. IsPaidOn graph pairs before mid t now (option_map_or (own_most graph off) c.admit_node-in-None.result 0)) at paid)
