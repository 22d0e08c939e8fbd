use Rattle.std.proofs.Common.{◌-◌, map, sym, ◌∙◌, ap, arith}
use Rattle.std.specs.List.{slice_get}
use Rattle.std.specs.Option.{option_copied}
use Rattle.std.proofs.lemmas.List.{length-map}
use Rattle.pgs_resolve_declared.specs.Imports.{last_of}
use Rattle.pgs_resolve_declared.proofs.Firsts.{copied_at}
use Rattle.pgs_resolve_declared.proofs.Steps.{last_at}
use Rattle.pgs_resolve_declared.proofs.imports.last_graph.Goals as goal

pub returns : goal.returns
returns c script are =
    let items = c.args.declarations.now.graphs.items in
    ap option_copied (c.at.ensures ∙ ap (λ graphs. slice_get graphs (c.len-count.result - 1)) c.deref.ensures.value)
    ∙ copied_at items (c.len-count.result - 1) ∙ sym (last_at (map (λ graph. graph.now) items) (c.len-count.result - 1) (omega (arith, length-map items (λ graph. graph.now)))) ∙ ap last_of are.graphs
