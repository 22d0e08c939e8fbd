use Rattle.std.proofs.Common.{sym, ◌∙◌, ap}
use Rattle.pgs_base.specs.Pair.{has_name}
use Rattle.pgs_resolve_declared.specs.Refused.{is_second}
use Rattle.pgs_resolve_declared.proofs.Repeats.{elements_marked, graphs_marked}
use Rattle.pgs_resolve_declared.proofs.duplicates.is_second.Goals as goal

pub returns-in-Element : goal.returns-in-Element
returns-in-Element c earlier elements graphs =
    c.contains.ensures ∙ ap (has_name c.in-Element.name) elements ∙ elements_marked c.in-Element.name earlier ∙ ap (is_second earlier) (sym c.in-Element.is)

pub returns-in-Graph : goal.returns-in-Graph
returns-in-Graph c earlier elements graphs =
    c.contains-in-Graph.ensures ∙ ap (has_name c.in-Graph.name) graphs ∙ graphs_marked c.in-Graph.name earlier ∙ ap (is_second earlier) (sym c.in-Graph.is)
