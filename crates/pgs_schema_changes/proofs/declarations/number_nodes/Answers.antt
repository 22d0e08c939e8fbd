use Rattle.std.proofs.Common.{ℕ, List, length, refl, sym, ap, subst, ◌∙◌, arith}
use Rattle.std.proofs.lemmas.Option.{slice_get_read}
use Rattle.pgs_schema_changes.specs.Unfolded.{tree_below, node_tree_of}
use Rattle.pgs_schema_changes.specs.Numbers.{AreNamed}
use Rattle.pgs_schema_changes.proofs.Numbering.{length_last}
use Rattle.pgs_schema_changes.proofs.Unfolding.{type_put}
use Rattle.pgs_schema_changes.proofs.declarations.number_nodes.Goals as goal

pub loop-of_type-preserved : goal.loop-of_type-preserved
loop-of_type-preserved c =
    let types = c.args.types.now in
    let i = c.loop-of_type.of_type-index in
    let cur = c.loop-of_type.trees.entries.items in
    let numbers = c.loop-of_type.numbers.items in
    let number = c.in_ok-number.number in
    let longer = ap length c.in_ok-push.ensures.items ∙ length_last numbers number in
    let count = c.loop-of_type.invariant.count in
    record {
      count = omega arith;
      so_far = λ numbered.
          type_put node_tree_of types c.args.trees.now.entries.items cur c.number_of.new.trees.entries.items numbers c.push.new.self.items number i c.of_type-item.result count
          (slice_get_read types (length types) i c.of_type-item.result refl c.loop-of_type-test.true c.of_type-item.is) c.in_ok-push.ensures.items (c.loop-of_type.invariant.so_far numbered)
          (λ so named. c.in_ok-number.ensures (tree_below node_tree_of types i) so
          (subst (λ (ns : List ℕ). AreNamed cur ns (tree_below node_tree_of types i)) (sym c.as_slice.ensures.value) named));
    }
