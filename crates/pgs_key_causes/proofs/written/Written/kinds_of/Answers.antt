use Rattle.std.proofs.Common.{Bool, List, ◌++◌, ◌∷◌, [], map, take, get_or, sym, ap, ◌∙◌}
use Rattle.std.proofs.lemmas.List.{map-append, take_all, take_more}
use Rattle.pgs_syntax.specs.Valid.{is_edge_var}
use Rattle.pgs_key_causes.proofs.written.Written.kinds_of.Goals as goal

pub loop-var-preserved : goal.loop-var-preserved
loop-var-preserved c =
    let vars = c.args.vars.now in
    let i = c.loop-var.var-index in
    let is_edge = is_edge_var c.args.self.now.edge_vars in
    c.in_ok-push.ensures.items ∙ ap (λ (own : Bool). c.loop-var.kinds.items ++ own ∷ []) c.is_edge_var.ensures
    ∙ ap (λ (kinds : List Bool). kinds ++ is_edge (get_or vars i 0) ∷ []) c.loop-var.invariant
    ∙ sym (map-append is_edge (take i vars) (get_or vars i 0 ∷ [])) ∙ ap (map is_edge) (sym (take_more vars i 0 c.loop-var-test.true))

pub returns : goal.returns
returns c = c.loop-var.invariant ∙ ap (map (is_edge_var c.args.self.now.edge_vars)) (take_all c.loop-var.var-index c.args.vars.now c.loop-var-test.false)
