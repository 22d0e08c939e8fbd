use Rattle.std.proofs.Common.{Some, None, ◌∙◌, ap}
use Rattle.std.specs.List.{list_all}
use Rattle.std.proofs.lemmas.Result.{IfOk-weaker}
use Rattle.pgs_pattern_end.specs.End.{is_front_of}
use Rattle.pgs_key_causes.specs.Fronts.{expr_fronts}
use Rattle.pgs_key_causes.proofs.Ends.{at_expr}
use Rattle.pgs_key_causes.proofs.ValidFronts.{key_exprs_valid, have_valid_keys}
use Rattle.pgs_key_causes.proofs.causes.expr_texts.Goals as goal

pub expr_fronts-requires-clause-valid : goal.expr_fronts-requires-clause-valid
expr_fronts-requires-clause-valid g c =
    have_valid_keys c.args.compiled.now (expr_fronts c.args.resolved.now) (key_exprs_valid c.args.compiled.now c.args.resolved.now c.requires.valid)

pub expression_end-requires : goal.expression_end-requires
expression_end-requires g c =
    ap (list_all (is_front_of c.args.compiled.now)) (c.deref.ensures.value ∙ c.in_ok-fronts.ensures)
    ∙ key_exprs_valid c.args.compiled.now c.args.resolved.now c.requires.valid

pub returns-in-Some-clause-texts : goal.returns-in-Some-clause-texts
returns-in-Some-clause-texts g c =
    IfOk-weaker c.expr_end_texts.result _ _
    (λ told e. at_expr c.args.compiled.now (g.G.GraphRead.meaning c.args.graph.now) c.args.elem c.args.resolved.now c.args.texts.now c.deref.result.now
    (c.deref.ensures.value ∙ c.in_ok-fronts.ensures) c.in_ok-end.field-0 (Some c.in-Some.end) c.in-Some.is c.in_ok-end.ensures.end told.items e)
    c.expr_end_texts.ensures

pub returns-clause-texts : goal.returns-clause-texts
returns-clause-texts g c =
    at_expr c.args.compiled.now (g.G.GraphRead.meaning c.args.graph.now) c.args.elem c.args.resolved.now c.args.texts.now c.deref.result.now
    (c.deref.ensures.value ∙ c.in_ok-fronts.ensures) c.in_ok-end.field-0 None c.in-None.is c.in_ok-end.ensures.end c.new.result.items c.new.ensures.items
