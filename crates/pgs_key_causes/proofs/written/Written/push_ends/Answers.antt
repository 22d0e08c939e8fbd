use Rattle.std.proofs.Common.{◌≡◌, ◌+◌, ◌++◌, ◌∷◌, [], Bool, List, sym, ap, ◌∙◌}
use Rattle.pgs_syntax.specs.declared.pattern.Atom.{Atom}
use Rattle.pgs_key_causes.specs.declared.walk.Occurrence.{Occurrence}
use Rattle.pgs_key_causes.specs.Fronts.{Descriptor, new_number}
use Rattle.pgs_key_causes.specs.Reading.{is_forward}
use Rattle.pgs_key_causes.specs.Walk.{var_at, is_edge_at}
use Rattle.pgs_key_causes.proofs.Places.{edge_ends}
use Rattle.pgs_key_causes.proofs.written.Written.push_ends.Goals as goal

pub returns : goal.returns
returns c =
    let vars = c.args.vars.now in
    let place = c.args.place in
    let known : c.self.inside.occurrences.items ≡ c.args.self.now.occurrences = ap (λ (d : Descriptor). d.occurrences) c.self.view_is in
    c.in_ok-push.ensures.items ∙ ap (λ (atom : Atom). c.args.atoms.now.items ++ atom ∷ []) c.ends.ensures
    ∙ ap (λ (atoms : List Atom). c.args.atoms.now.items ++ atoms)
    (edge_ends c.args.self.now vars place c.is_forward.result c.in_ok-edge.edge c.in_ok-node.node c.in_ok-next.next
    (ap (λ (os : List Occurrence). is_edge_at os place) (sym (c.deref.ensures.value ∙ known)) ∙ sym c.is_edge_at.ensures ∙ c.if-not-is_edge_at.false)
    (c.is_forward.ensures ∙ ap (λ (ds : List Bool). is_forward ds place) (c.deref-3.ensures.value ∙ ap (λ (d : Descriptor). d.directions) c.self.view_is))
    c.in_ok-edge.ensures
    (c.in_ok-node.ensures ∙ ap (λ m. new_number vars (var_at c.args.self.now.occurrences m)) c.saturating_sub.ensures)
    (c.in_ok-next.ensures ∙ ap (new_number vars) (c.var_behind.ensures ∙ ap (λ (os : List Occurrence). var_at os (place + 1)) (c.deref-2.ensures.value ∙ known))))
