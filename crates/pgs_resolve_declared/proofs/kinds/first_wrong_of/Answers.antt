use Rattle.std.proofs.Common.{filter, sym, ◌∙◌, ap, arith}
use Rattle.std.specs.Option.{option_map}
use Rattle.std.proofs.lemmas.Option.{slice_get-map}
use Rattle.pgs_resolve_declared.specs.Refused.{is_wrong}
use Rattle.pgs_resolve_declared.specs.declared.kinds.Use.{Use}
use Rattle.pgs_resolve_declared.proofs.Firsts.{first_kept}
use Rattle.pgs_resolve_declared.proofs.kinds.first_wrong_of.Goals as goal

pub returns-then-is_wrong : goal.returns-then-is_wrong
returns-then-is_wrong c script are =
    let first = first_kept (is_wrong script) c.args.uses.now _ _ (omega arith) c.meant-item.is (c.loop-meant.invariant script are)
    (sym (c.is_wrong.ensures script are) ∙ c.if-is_wrong.true) in
    ap (option_map (λ (meant : Use). meant.name)) first ∙ sym (slice_get-map (λ (meant : Use). meant.name) (filter (is_wrong script) c.args.uses.now) 0)
