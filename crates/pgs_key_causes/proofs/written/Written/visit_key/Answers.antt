use Rattle.std.proofs.Common.{◌≡◌, ◌∷◌, [], take, sym, ap, ◌∙◌, get_or}
use Rattle.std.proofs.lemmas.Option.{get_or_from_slice_get, slice_get-get_or}
use Rattle.pgs_syntax.specs.declared.pattern.Expr.TheVariants.{Element}
use Rattle.pgs_key_causes.specs.declared.walk.Visit.{Visit}
use Rattle.pgs_key_causes.specs.Fronts.{new_number, vars_of}
use Rattle.pgs_key_causes.specs.Walk.{var_at}
use Rattle.pgs_key_causes.proofs.Places.{key_made}
use Rattle.pgs_key_causes.proofs.written.Written.visit_key.Goals as goal

pub returns : goal.returns
returns c d =
    let visits = c.args.visits.now in
    let number = c.args.number in
    let places = c.args.self.now.occurrences in
    let first : Visit = record { place = 0; from = 0 } in
    let same : get_or visits number d ≡ get_or visits number first =
    get_or_from_slice_get visits number (get_or visits number first) d (slice_get-get_or visits number first c.requires) in
    key_made c.args.numbering.now c.args.self.now c.args.qualifiers visits number (get_or visits number d) c.in_ok-scope.scope c.in_ok-descriptor.descriptor
    c.in_ok-exprs.exprs c.in_ok-scope.ensures c.in_ok-descriptor.ensures
    (c.in_ok-exprs.ensures ∙ ap (λ (visit : Visit). Element (new_number (vars_of places (take number visits)) (var_at places visit.from)) ∷ []) (sym same))
