use Rattle.std.proofs.Common.{◌≡◌, IfOk, ap, subst, ◌∙◌, ◌+◌, ◌∷◌, take, arith}
use Rattle.std.proofs.lemmas.Bool.{and_parts}
use Rattle.pgs_syntax.specs.declared.key.Key.{Key}
use Rattle.pgs_syntax.specs.declared.pattern.Expr.TheVariants.{Element}
use Rattle.pgs_syntax.specs.Valid.{is_valid_key}
use Rattle.pgs_resolve_keys.specs.Patterns.{resolved_key}
use Rattle.pgs_pattern_end.specs.declared.front.Front.{Front}
use Rattle.pgs_key_causes.specs.Fronts.{with_exprs, expr_front}
use Rattle.pgs_key_causes.proofs.exprs.Resolving.expr_front.Goals as goal

pub overflow_add-number : goal.overflow_add-number
overflow_add-number c = omega arith

pub front_of-requires-clause-upto : goal.front_of-requires-clause-upto
front_of-requires-clause-upto c =
    let front = expr_front (resolved_key c.args.self.now.numbering.now c.args.self.now.key.now) (c.args.number, c.args.expr.now) in
    ap is_valid_key (c.with_first-upto.ensures ∙ ap (λ (key : Key). with_exprs key (take (c.args.number + 1) key.exprs)) c.in_ok-key.ensures)
    ∙ (and_parts (is_valid_key front.upto) (is_valid_key front.before) c.requires.valid).0

pub front_of-requires-clause-before : goal.front_of-requires-clause-before
front_of-requires-clause-before c =
    let key = resolved_key c.args.self.now.numbering.now c.args.self.now.key.now in
    let front = expr_front key (c.args.number, c.args.expr.now) in
    ap is_valid_key (c.in_ok-before.ensures ∙ ap (λ (key : Key). with_exprs key (Element c.read_var.result ∷ take c.args.number key.exprs)) c.in_ok-key-2.ensures
    ∙ ap (λ v. with_exprs key (Element v ∷ take c.args.number key.exprs)) c.read_var.ensures) ∙ (and_parts (is_valid_key front.upto) (is_valid_key front.before) c.requires.valid).1

pub returns : goal.returns
returns c =
    let key = resolved_key c.args.self.now.numbering.now c.args.self.now.key.now in
    let before_is : c.in_ok-before.before ≡ (expr_front key (c.args.number, c.args.expr.now)).before =
    c.in_ok-before.ensures ∙ ap (λ (key : Key). with_exprs key (Element c.read_var.result ∷ take c.args.number key.exprs)) c.in_ok-key-2.ensures
    ∙ ap (λ v. with_exprs key (Element v ∷ take c.args.number key.exprs)) c.read_var.ensures in
    subst (λ (before : Key). IfOk c.front_of.result (λ (front : Front). front ≡ record { upto = with_exprs key (take (c.args.number + 1) key.exprs); before = before })) before_is
    (subst (λ (upto : Key). IfOk c.front_of.result (λ (front : Front). front ≡ record { upto = upto; before = c.in_ok-before.before }))
    (c.with_first-upto.ensures ∙ ap (λ (key : Key). with_exprs key (take (c.args.number + 1) key.exprs)) c.in_ok-key.ensures) c.front_of.ensures)
