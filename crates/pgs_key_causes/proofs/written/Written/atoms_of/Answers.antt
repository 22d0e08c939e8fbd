use Rattle.std.proofs.Common.{List, ◌++◌, [], take, get_or, sym, ap, ◌∙◌}
use Rattle.std.specs.List.{flat_map}
use Rattle.std.proofs.lemmas.List.{flat_map_more, take_all, take_more}
use Rattle.pgs_syntax.specs.declared.pattern.Atom.{Atom}
use Rattle.pgs_key_causes.specs.declared.walk.Visit.{Visit}
use Rattle.pgs_key_causes.specs.Fronts.{visit_atoms}
use Rattle.pgs_key_causes.proofs.written.Written.atoms_of.Goals as goal

pub loop-visit-preserved : goal.loop-visit-preserved
loop-visit-preserved c =
    let visits = c.args.visits.now in
    let i = c.loop-visit.visit-index in
    let first : Visit = record { place = 0; from = 0 } in
    let asked = visit_atoms c.args.numbering.now c.args.self.now c.args.vars.now in
    c.in_ok-push_atoms.ensures ∙ ap (λ (atoms : List Atom). atoms ++ asked (get_or visits i first)) c.loop-visit.invariant
    ∙ flat_map_more asked [] (take i visits) (get_or visits i first) ∙ ap (flat_map asked) (sym (take_more visits i first c.loop-visit-test.true))

pub returns : goal.returns
returns c =
    c.loop-visit.invariant
    ∙ ap (flat_map (visit_atoms c.args.numbering.now c.args.self.now c.args.vars.now)) (take_all c.loop-visit.visit-index c.args.visits.now c.loop-visit-test.false)
