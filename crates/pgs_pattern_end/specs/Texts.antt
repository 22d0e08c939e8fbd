-- How the end of a pattern is printed.
use Rattle.std.specs.Prelude.{ℕ, List, ◌++◌, codes}
use Rattle.pgs_base.specs.declared.element.Elem.{Elem}
use Rattle.pgs_base_text.specs.Text.{elem_text}

-- a step that goes on from no element, as it is read from where the walk comes: `no <-[:owns]-(h:H) from n1`
abbrev pub no_step_text : List ℕ → Elem → List ℕ
no_step_text step elem = codes "no " ++ (step ++ (codes " from " ++ elem_text elem))

-- a place that an element doesn't meet: `no (y:B) at n2`
abbrev pub no_place_text : List ℕ → Elem → List ℕ
no_place_text place elem = codes "no " ++ (place ++ (codes " at " ++ elem_text elem))

-- an expression that isn't there: `h.name of n7`
abbrev pub no_value_text : List ℕ → Elem → List ℕ
no_value_text expr elem = expr ++ (codes " of " ++ elem_text elem)
