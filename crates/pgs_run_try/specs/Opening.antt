-- What is opened under a schema text.
use Rattle.std.specs.Prelude.{◌≡◌, ℕ, List, Ok}
use Rattle.pgs_base.specs.Graph.{empty_graph}
use Rattle.pgs_run_input.specs.Answers.{schema_answer}
use Rattle.pgs_run_try.specs.declared.decider.Decider.{Decider}
use Rattle.pgs_run_try.specs.declared.judging.Judging.{Judging}
use Rattle.pgs_run_try.specs.State.{judging_in, schema_in, graph_in, commits_in, HasStandardLimits}

-- it judges so, by the schema of this text, from the empty graph on
pub record IsOpened (judging : Judging) (text : List ℕ) (decider : Decider) : Type 0 where
  pub schema : schema_answer text ≡ Ok (schema_in decider)
  pub judges : judging_in decider ≡ judging
  pub empty : graph_in decider ≡ empty_graph
  pub commits : commits_in decider ≡ 0
  pub limits : HasStandardLimits decider
