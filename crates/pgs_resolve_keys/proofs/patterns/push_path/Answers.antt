use Rattle.std.proofs.Common.{ℕ, ◌+◌, false, ◌++◌, List, ◌∙◌, ap}
use Rattle.pgs_syntax.specs.declared.raw.RawStep.{RawStep}
use Rattle.pgs_resolve_keys.specs.Patterns.{variable_at, number_of, place_atoms, step_atoms}
use Rattle.pgs_resolve_keys.proofs.Stepped.{two_more}
use Rattle.pgs_resolve_keys.proofs.patterns.push_path.Goals as goal

pub returns : goal.returns
returns c held holds =
    let numbering = c.args.numbering.now in
    let path = c.args.path.now in
    let node = c.number-node.ensures held holds in
    two_more c.args.atoms.now.items c.push_place.new.atoms.items c.push_steps.new.atoms.items _ _
    (c.in_ok-push_place.ensures ∙ ap (λ (v : ℕ). c.args.atoms.now.items ++ place_atoms numbering false v path.start.filter) node)
    (c.in_ok-push_steps.ensures held holds
    ∙ ap (λ (v : ℕ). c.push_place.new.atoms.items ++ step_atoms numbering (number_of held) v (c.args.place + 1) c.as_slice.result.now) node
    ∙ ap (λ (steps : List RawStep). c.push_place.new.atoms.items ++ step_atoms numbering (number_of held) (number_of held (variable_at c.args.place path.start)) (c.args.place + 1) steps) c.as_slice.ensures)
