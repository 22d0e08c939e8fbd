use Rattle.std.proofs.Common.{◌+◌, List, get_or, drop}
use Rattle.pgs_base.specs.declared.element.EdgeId.{EdgeId}
use Rattle.pgs_base.specs.Graph.{edge_cmp}
use Rattle.std.specs.BTreeMap.{is_at}
use Rattle.std.specs.Set.{remove_key}
use Rattle.std.proofs.lemmas.List.{drop_more}
use Rattle.std.proofs.lemmas.List.Sums.{fold_more}
use Rattle.std.proofs.lemmas.Option.{get_or_from_slice_get}
use Rattle.pgs_tables_edges.specs.Numbers.{numbered}
use Rattle.pgs_tables_edges.proofs.Searched.{numbers_same}
use Rattle.pgs_tables_edges.proofs.Copied.{ascending-drop, copied_without, copied_absent}
use Rattle.pgs_tables_edges.proofs.edits.without_each.Goals as goal
use Rattle.pgs_tables_edges.proofs.edits.without_each.Goals.{in-Ok+in_ok-append_range-in-Ok, in-Err}

pub loop-id-preserved : goal.loop-id-preserved
loop-id-preserved c =
    let xs = c.args.list.now in
    let ids = c.args.ids.now in
    let i = c.loop-id.id-index in
    let later = drop_more ids i (numbered 0) c.loop-id-test.true in
    let more = fold_more (λ (left : List EdgeId) (id : EdgeId). remove_key (is_at (edge_cmp id)) left) xs ids i (numbered 0) c.loop-id-test.true in
    let copied = rw later at c.loop-id.invariant in
    let rising = rw later at (ascending-drop i ids c.requires.ids_ascend) in
    elim c.match-search.branch [
      | in-Ok+in_ok-append_range-in-Ok w ↦ rw (w.built-is, w.done-is, more, w.in_ok-append_range-in-Ok.ensures.ids) (copied_without xs _ _ _ (get_or ids i (numbered 0)) (drop (i + 1) ids) copied rising w.in-Ok.place w.in-Ok.ensures.there.in_range (numbers_same (get_or_from_slice_get xs w.in-Ok.place _ (numbered 0) w.in-Ok.ensures.found)) c.requires.ascends)
      | in-Err w ↦ rw (w.built-is, w.done-is, more) (copied_absent xs _ _ _ (get_or ids i (numbered 0)) (drop (i + 1) ids) copied rising w.in-Err.field-0 w.in-Err.ensures.there)
    ]
