-- What a stop during the run of `evolve` leaves of what is saved and of the output.
use Rattle.std.specs.Prelude.{◌≡◌, ◌⊎◌, ℕ, List, ◌++◌, Ok}
use Rattle.pgs_base.specs.Graph.{Graph}
use Rattle.pgs_run_input.specs.Answers.{schema_answer}
use Rattle.pgs_run_input.specs.Session.{standard}
use Rattle.pgs_snapshot.specs.Choice.{chosen_area, chosen_epoch}
use Rattle.pgs_snapshot.specs.Saved.{saved, store}
use Rattle.pgs_syntax.specs.declared.resolved.Resolved.{Resolved}
use Rattle.pgs_violation.specs.declared.violation.Verdict.TheVariants.{Conforms}
use Rattle.pgs_violation.specs.Violations.{verdict}
use Rattle.pgs_world.specs.World.{Triple}
use Rattle.pgs_run_renewal.specs.EvolveTold.{line_of}

-- these commits and this graph, and the area and the epoch that are chosen in a triple
pub record Kept : Type 0 where
  pub was : Triple
  pub commits : ℕ
  pub graph : Graph

-- the images save them under a schema's text, and choose the area and the epoch that were chosen
pub record IsUnder (it : Kept) (text : List ℕ) (c : Triple) : Type 0 where
  pub saves : saved standard c.a c.b ≡ store text it.commits it.graph
  pub area : chosen_area c.a c.b ≡ chosen_area it.was.a it.was.b
  pub epoch : chosen_epoch c.a c.b ≡ chosen_epoch it.was.a it.was.b

-- the same under a text that is a schema to which the graph conforms
pub record IsRenewed (it : Kept) (text : List ℕ) (c : Triple) : Type 0 where
  pub schema : Resolved
  pub of_text : schema_answer text ≡ Ok schema
  pub conforms : verdict schema it.graph ≡ Conforms
  pub under : IsUnder it text c

-- The images save the store as it was, under the text from before, or under the new one; and the latter wherever the whole line of the
-- schema is out behind the output that there was.
pub record IsEvolvingAt (it : Kept) (before text : List ℕ) (c : Triple) : Type 0 where
  pub front : List ℕ
  pub out : c.output ≡ it.was.output ++ front
  pub state : IsUnder it before c ⊎ IsRenewed it text c
  pub evolved : (schema : Resolved) → schema_answer text ≡ Ok schema → front ≡ line_of schema → IsRenewed it text c

-- the same whatever source and output tell: the store as it was, or under some text
abbrev pub IsEvolving : Kept → List ℕ → Triple → Type 0
IsEvolving it before c = IsUnder it before c ⊎ ((text : List ℕ) × IsRenewed it text c)
