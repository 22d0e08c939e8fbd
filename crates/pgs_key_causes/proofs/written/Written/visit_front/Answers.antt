use Rattle.std.proofs.Common.{◌≡◌, IfOk, ap, subst, ◌∙◌}
use Rattle.std.proofs.lemmas.Bool.{and_parts}
use Rattle.pgs_syntax.specs.declared.key.Key.{Key}
use Rattle.pgs_syntax.specs.Valid.{is_valid_key}
use Rattle.pgs_pattern_end.specs.declared.front.Front.{Front}
use Rattle.pgs_key_causes.specs.declared.walk.Visit.{Visit}
use Rattle.pgs_key_causes.specs.Fronts.{visit_front, has_valid_keys}
use Rattle.pgs_key_causes.proofs.Places.{made_at}
use Rattle.pgs_key_causes.proofs.written.Written.visit_front.Goals as goal

pub front_of-requires-clause-upto : goal.front_of-requires-clause-upto
front_of-requires-clause-upto c =
    let d : Visit = record { place = 0; from = 0 } in
    ap is_valid_key (c.in_ok-key.ensures d)
    ∙ (and_parts _ _ (made_at has_valid_keys (visit_front c.args.numbering.now c.args.self.now c.args.qualifiers c.args.visits.now) c.args.visits.now c.args.number d
    c.requires.within c.requires.valid)).0

pub front_of-requires-clause-before : goal.front_of-requires-clause-before
front_of-requires-clause-before c =
    let d : Visit = record { place = 0; from = 0 } in
    ap is_valid_key (c.in_ok-key.ensures d)
    ∙ (and_parts _ _ (made_at has_valid_keys (visit_front c.args.numbering.now c.args.self.now c.args.qualifiers c.args.visits.now) c.args.visits.now c.args.number d
    c.requires.within c.requires.valid)).1

pub returns : goal.returns
returns c d =
    subst (λ (key : Key). IfOk c.front_of.result (λ (front : Front). front ≡ record { upto = key; before = key })) (c.in_ok-key.ensures d) c.front_of.ensures
