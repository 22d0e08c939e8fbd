use Rattle.std.proofs.Common.{◌≡◌, [], length, false, Option, sym, ap, ◌∙◌}
use Rattle.std.specs.Prelude.{slice_index_or}
use Rattle.std.specs.Option.{option_map_or}
use Rattle.std.proofs.lemmas.Bool.{lt-ltb}
use Rattle.std.proofs.lemmas.Option.{slice_get_within}
use Rattle.pgs_syntax.specs.declared.element_type.EdgeType.{EdgeType}
use Rattle.pgs_syntax.specs.declared.specification.Leaf.{Leaf}
use Rattle.pgs_syntax.specs.declared.resolved.TypeNo.TheVariants.{Edge}
use Rattle.pgs_advice.specs.Used.{named_by_edge}
use Rattle.pgs_advice.proofs.Marking.{walks_on, stays_so}
use Rattle.pgs_advice.proofs.used.Marks.mark_edge.Goals as goal

pub returns-in_ok-types : goal.returns-in_ok-types
returns-in_ok-types c = λ resolved used at are.
    walks_on resolved used c.args.self.now are (Edge c.args.place) (lt-ltb c.args.place (length resolved.edges) (slice_get_within resolved.edges c.args.place c.args.edge.now at)) c.mark_all.new.self c.deref-then-flag_at.result.now
    (sym (c.flag_at.ensures ∙ ap (λ flags. slice_index_or flags c.args.place false) c.deref.ensures.value) ∙ c.if-flag_at.true)
    (c.deref-then-flag_at.ensures.value ∙ c.in_ok-types.ensures ∙ sym (ap (λ (o : Option (EdgeType Leaf)). option_map_or named_by_edge o []) at))
    (c.mark_all.ensures resolved used are)

pub returns-else-flag_at : goal.returns-else-flag_at
returns-else-flag_at c = λ resolved used at are.
    stays_so resolved used c.args.self.now are (Edge c.args.place) (lt-ltb c.args.place (length resolved.edges) (slice_get_within resolved.edges c.args.place c.args.edge.now at))
    (sym (c.flag_at.ensures ∙ ap (λ flags. slice_index_or flags c.args.place false) c.deref.ensures.value) ∙ c.if-flag_at.false)
