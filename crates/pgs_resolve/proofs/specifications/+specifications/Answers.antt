use Rattle.std.proofs.Common.{map, sym, ◌∙◌, ap}
use Rattle.pgs_syntax.specs.declared.specification.Spec.{And, Or, Opt}
use Rattle.pgs_resolve_declared.specs.Order.{resolved_spec}
use Rattle.pgs_resolve.proofs.Trees.{resolved_and, resolved_or, resolved_opt}
use Rattle.pgs_resolve.proofs.specifications.+specifications.Goals as goal

pub resolve_spec-returns-in_ok-resolve_parts-in-And : goal.resolve_spec-returns-in_ok-resolve_parts-in-And
resolve_spec-returns-in_ok-resolve_parts-in-And t c =
    let names = c.args.names.now in
    ap And (c.in_ok-resolve_parts-in-And.ensures ∙ ap (map (resolved_spec names)) c.as_slice.ensures)
    ∙ sym (resolved_and names c.in-And.parts) ∙ ap (resolved_spec names) (sym c.in-And.is)

pub resolve_spec-returns-in_ok-resolve_parts-in-Or : goal.resolve_spec-returns-in_ok-resolve_parts-in-Or
resolve_spec-returns-in_ok-resolve_parts-in-Or t c =
    let names = c.args.names.now in
    ap Or (c.in_ok-resolve_parts-in-Or.ensures ∙ ap (map (resolved_spec names)) c.as_slice-in-Or.ensures)
    ∙ sym (resolved_or names c.in-Or.parts) ∙ ap (resolved_spec names) (sym c.in-Or.is)

pub resolve_spec-returns-in_ok-new-in-Opt : goal.resolve_spec-returns-in_ok-new-in-Opt
resolve_spec-returns-in_ok-new-in-Opt t c =
    let names = c.args.names.now in
    ap Opt (c.in_ok-new-in-Opt.ensures ∙ c.in_ok-part-in-Opt.ensures ∙ ap (resolved_spec names) c.get.ensures)
    ∙ sym (resolved_opt names c.in-Opt.part) ∙ ap (resolved_spec names) (sym c.in-Opt.is)
