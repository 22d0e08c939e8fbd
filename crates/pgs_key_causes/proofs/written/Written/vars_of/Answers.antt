use Rattle.std.proofs.Common.{ℕ, List, take, get_or, sym, ap, ◌∙◌}
use Rattle.std.specs.List.{fold}
use Rattle.std.proofs.lemmas.List.{take_more}
use Rattle.pgs_key_causes.specs.declared.walk.Visit.{Visit}
use Rattle.pgs_key_causes.specs.Fronts.{with_var, vars_of_visit, vars_of}
use Rattle.pgs_key_causes.proofs.Walks.{vars_push}
use Rattle.pgs_key_causes.proofs.written.Written.vars_of.Goals as goal

pub loop-visit-preserved : goal.loop-visit-preserved
loop-visit-preserved c =
    let places = c.args.self.now.occurrences in
    let visits = c.args.visits.now in
    let i = c.loop-visit.visit-index in
    let first : Visit = record { place = 0; from = 0 } in
    c.in_ok-push_vars.ensures ∙ ap (λ (vars : List ℕ). fold with_var vars (vars_of_visit places (get_or visits i first))) c.loop-visit.invariant
    ∙ sym (vars_push places (take i visits) (get_or visits i first)) ∙ ap (vars_of places) (sym (take_more visits i first c.loop-visit-test.true))
