-- What the judgement of a schema text tells: nothing, or the line of its refusal, and what stands behind it.
use Rattle.std.specs.Prelude.{ℕ, List, [], ◌∷◌, Result, Ok, Err}
use Rattle.pgs_answer.specs.Lines.{schema_refused_line}
use Rattle.pgs_syntax.specs.declared.resolved.Resolved.{Resolved}

abbrev pub pieces_behind : (further : List (List ℕ)) → Result Resolved (List ℕ) → List (List ℕ)
pieces_behind further (Ok schema) = []
pieces_behind further (Err text) = schema_refused_line text ∷ further

abbrev pub pieces_of_schema : Result Resolved (List ℕ) → List (List ℕ)
pieces_of_schema = pieces_behind []
