use Rattle.std.proofs.Common.{◌≡◌, ℕ, List, [], drop}
use Rattle.std.specs.Ordering.{nat_cmp}
use Rattle.std.specs.Cmp.Lexicographic.{slice_cmp}
use Rattle.std.specs.BTreeSet.{insert_key}
use Rattle.pgs_json.specs.Tree.{items_view}
use Rattle.pgs_json.specs.Form.{name_of}
use Rattle.pgs_json.proofs.FormLoops.{after_items}
use Rattle.pgs_json.proofs.json_op.label_names.Given as goal

abbrev pub put : List (List ℕ) → List ℕ → List (List ℕ)
put labels name = insert_key (slice_cmp nat_cmp) labels name

abbrev pub invariant-loop-item : goal.invariant-loop-item
invariant-loop-item l = after_items name_of put l.names.keys (items_view (drop l.item-index l.items)) ≡ after_items name_of put [] (items_view l.items)
