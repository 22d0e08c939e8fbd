use Rattle.std.proofs.Common.{ℕ, true, false, ◌++◌, ◌∷◌, [], ◌∙◌, ap}
use Rattle.pgs_syntax.specs.declared.pattern.Atom.{Atom}
use Rattle.pgs_resolve_keys.specs.Patterns.{variable_at, number_of, place_atoms, ends}
use Rattle.pgs_resolve_keys.proofs.Stepped.{three_more}
use Rattle.pgs_resolve_keys.proofs.patterns.push_step.Goals as goal

pub returns-clause-atoms : goal.returns-clause-atoms
returns-clause-atoms c held holds =
    let numbering = c.args.numbering.now in
    let step = c.args.step.now in
    let edge = c.number-edge.ensures held holds in
    let next = c.number-next.ensures held holds in
    three_more c.args.atoms.now.items c.push_place.new.atoms.items c.push_place-2.new.atoms.items c.push.new.self.items _ _ _
    (c.in_ok-push_place.ensures ∙ ap (λ (v : ℕ). c.args.atoms.now.items ++ place_atoms numbering true v step.edge.filter) edge)
    (c.in_ok-push_place-2.ensures ∙ ap (λ (v : ℕ). c.push_place.new.atoms.items ++ place_atoms numbering false v step.node.filter) next)
    (c.in_ok-push.ensures.items ∙ ap (λ (atom : Atom). c.push_place-2.new.atoms.items ++ atom ∷ [])
    (c.ends.ensures ∙ ap (λ (v : ℕ). ends step.forward v c.args.node c.number-next.result) edge
    ∙ ap (λ (v : ℕ). ends step.forward (number_of held (variable_at c.args.place step.edge)) c.args.node v) next))
