use Rattle.std.proofs.Common.{◌*◌, ◌≤◌, ◌&&◌, length, sym, ◌∙◌, ap, subst}
use Rattle.std.proofs.lemmas.Nat.{mul-le}
use Rattle.std.proofs.lemmas.Result.{IfOk-weaker}
use Rattle.pgs_syntax.specs.Fitting.{fits_node}
use Rattle.pgs_syntax.specs.Join.{is_empty_pair}
use Rattle.pgs_syntax.specs.Width.{width_of}
use Rattle.pgs_conform.specs.Shapes.{in_some}
use Rattle.pgs_shapes.proofs.Ended.{ends_denote}
use Rattle.pgs_shapes.proofs.edges.ends_of_edge.Goals as goal

pub returns-clause-denote : goal.returns-clause-denote
returns-clause-denote c =
    let sources = c.in_ok-sources.sources in
    let targets = c.in_ok-targets.targets in
    IfOk-weaker c.ends_of.result _ _
    (λ ends denote source_valid target_valid resolved nodes. ends_denote resolved c.args.edge.now sources targets ends
    (c.in_ok-sources.ensures.denote source_valid (fits_node resolved) nodes) (c.in_ok-targets.ensures.denote target_valid (fits_node resolved) nodes)
    (λ t. denote t
    ∙ ap (λ shapes. in_some shapes t.source && is_empty_pair t.own && in_some c.as_slice-2.result.now t.target) c.as_slice.ensures
    ∙ ap (λ shapes. in_some sources t.source && is_empty_pair t.own && in_some shapes t.target) c.as_slice-2.ensures)) c.ends_of.ensures.denote

pub returns-clause-within : goal.returns-clause-within
returns-clause-within c =
    let sources = c.in_ok-sources.sources in
    let targets = c.in_ok-targets.targets in
    let edge = c.args.edge.now in
    let lists = ap (λ shapes. length shapes * length c.as_slice-2.result.now) c.as_slice.ensures ∙ ap (λ shapes. length sources * length shapes) c.as_slice-2.ensures in
    IfOk-weaker c.ends_of.result _ _
    (λ ends count widths all. subst (λ n. n ≤ (width_of widths edge.source).count * (width_of widths edge.target).count) (sym (count ∙ lists))
    (mul-le _ _ _ _ (c.in_ok-sources.ensures.within widths all) (c.in_ok-targets.ensures.within widths all))) c.ends_of.ensures.count
