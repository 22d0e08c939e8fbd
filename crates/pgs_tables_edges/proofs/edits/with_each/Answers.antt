use Rattle.std.proofs.Common.{◌+◌, get_or, drop}
use Rattle.pgs_base.specs.Graph.{edge_cmp}
use Rattle.std.specs.BTreeSet.{insert_key}
use Rattle.std.proofs.lemmas.List.{drop_more}
use Rattle.std.proofs.lemmas.List.Sums.{fold_more}
use Rattle.std.proofs.lemmas.Option.{get_or_from_slice_get}
use Rattle.pgs_tables_edges.specs.Numbers.{numbered}
use Rattle.pgs_tables_edges.proofs.Searched.{numbers_same}
use Rattle.pgs_tables_edges.proofs.Copied.{ascending-drop, copied_there, copied_with}
use Rattle.pgs_tables_edges.proofs.edits.with_each.Goals as goal
use Rattle.pgs_tables_edges.proofs.edits.with_each.Goals.{in-Ok, in-Err+in_ok-append_range-in-Err+in_ok-append-in-Err}

pub loop-id-preserved : goal.loop-id-preserved
loop-id-preserved c =
    let xs = c.args.list.now in
    let ids = c.args.ids.now in
    let i = c.loop-id.id-index in
    let later = drop_more ids i (numbered 0) c.loop-id-test.true in
    let more = fold_more (insert_key edge_cmp) xs ids i (numbered 0) c.loop-id-test.true in
    let copied = rw later at c.loop-id.invariant in
    let rising = rw later at (ascending-drop i ids c.requires.ids_ascend) in
    elim c.match-search.branch [
      | in-Ok w ↦ rw (w.built-is, w.done-is, more) (copied_there xs _ _ _ (get_or ids i (numbered 0)) (drop (i + 1) ids) copied rising w.in-Ok.field-0 w.in-Ok.ensures.there.in_range (numbers_same (get_or_from_slice_get xs w.in-Ok.field-0 _ (numbered 0) w.in-Ok.ensures.found)))
      | in-Err+in_ok-append_range-in-Err+in_ok-append-in-Err w ↦ rw (w.built-is, w.done-is, more, w.in_ok-append-in-Err.ensures.ids, w.in_ok-append_range-in-Err.ensures.ids) (copied_with xs _ _ _ (get_or ids i (numbered 0)) (drop (i + 1) ids) copied rising w.in-Err.place w.in-Err.ensures.there)
    ]
