use Rattle.std.proofs.Common.{take, [], Some, sym, ◌∙◌, ap, arith}
use Rattle.pgs_resolve_declared.specs.Refused.{element_in, graph_in}
use Rattle.pgs_resolve_declared.proofs.Repeats.{no_second, second_at}
use Rattle.pgs_resolve_declared.proofs.Walks.{more_kept}
use Rattle.pgs_resolve_declared.proofs.duplicates.first_second.Goals as goal

pub returns-then-is_second : goal.returns-then-is_second
returns-then-is_second c =
    let second = c.is_second.ensures (take c.loop-mark.mark-index c.args.marks.now) c.loop-mark.invariant.elements c.loop-mark.invariant.graphs in
    ap Some (c.in_ok-copy.ensures ∙ c.name_of.ensures)
    ∙ second_at c.args.marks.now _ _ (omega arith) c.mark-item.is c.loop-mark.invariant.none (sym second ∙ c.if-is_second.true)

pub loop-mark-preserved : goal.loop-mark-preserved
loop-mark-preserved c =
    let second = c.is_second.ensures (take c.loop-mark.mark-index c.args.marks.now) c.loop-mark.invariant.elements c.loop-mark.invariant.graphs in
    record {
      none = no_second c.args.marks.now _ _ (omega arith) c.mark-item.is c.loop-mark.invariant.none (sym second ∙ c.if-is_second.false);
      elements = more_kept element_in [] c.args.marks.now _ _ _ _ (omega arith) c.mark-item.is c.loop-mark.invariant.elements c.in_ok-remember.ensures.elements;
      graphs = more_kept graph_in [] c.args.marks.now _ _ _ _ (omega arith) c.mark-item.is c.loop-mark.invariant.graphs c.in_ok-remember.ensures.graphs;
    }
