use Rattle.std.proofs.Common.{◌≡◌, ◌+◌, ◌*◌, ◌++◌, List, Bool, drop}
use Rattle.pgs_resolve_keys.specs.Patterns.{Variable, number_of, step_atoms}
use Rattle.pgs_resolve_keys.specs.VariableTable.{Holds}
use Rattle.pgs_resolve_keys.proofs.patterns.push_steps.Given as goal

abbrev pub invariant-loop-step : goal.invariant-loop-step
invariant-loop-step l = record {
  at : l.place ≡ l.first + 2 * l.step-index;
  atoms : (held : List (Variable × Bool)) → Holds held l.variables →
      l.atoms.items ++ step_atoms l.numbering (number_of held) l.node l.place (drop l.step-index l.steps)
      ≡ l.fn.atoms.items ++ step_atoms l.numbering (number_of held) l.start l.first l.steps;
}
