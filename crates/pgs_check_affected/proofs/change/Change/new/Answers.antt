use Rattle.std.proofs.Common.{length, map, ap, ◌∙◌, arith}
use Rattle.pgs_check_affected.specs.declared.known.Known.{Known}
use Rattle.pgs_check_affected.proofs.Knowing.{known_added, known_elems, is_change, elems_size}
use Rattle.pgs_check_affected.specs.Changes.{elems_of}
use Rattle.pgs_check_affected.proofs.change.Change.new.Goals as goal

pub invariant_of-result : goal.invariant_of-result
invariant_of-result g c =
    let before = c.args.before.now.graph in
    let after = c.args.after.now in
    let delta = c.args.delta.now in
    is_change before after delta c.from_vec.result c.count-elements.ensures.graph c.requires.sound c.requires.overlay
    (known_added before after delta c.as_slice.result.now c.as_slice-2.result.now _ _ _ c.from_vec.result c.as_slice.ensures c.as_slice-2.ensures
    c.new-known.ensures.items c.in_ok-add_nodes.ensures.known c.in_ok-add_edges.ensures.known c.from_vec.ensures)

pub returns-clause-elems : goal.returns-clause-elems
returns-clause-elems g c =
    let before = c.args.before.now.graph in
    let after = c.args.after.now in
    let delta = c.args.delta.now in
    ap (map (λ (known : Known). known.elem))
    (known_added before after delta c.as_slice.result.now c.as_slice-2.result.now _ _ _ c.from_vec.result c.as_slice.ensures c.as_slice-2.ensures
    c.new-known.ensures.items c.in_ok-add_nodes.ensures.known c.in_ok-add_edges.ensures.known c.from_vec.ensures)
    ∙ known_elems before after (elems_of delta)

pub returns-clause-cost : goal.returns-clause-cost
returns-clause-cost g c =
    omega (
      arith,
      c.add_nodes.ensures.cost,
      c.add_edges.ensures.cost,
      elems_size c.args.delta.now,
      ap (λ nodes. length nodes) c.as_slice.ensures,
      ap (λ edges. length edges) c.as_slice-2.ensures,
    )
