use Rattle.std.proofs.Common.{◌≡◌, ℕ, List, length, refl, sym, ap, subst, ◌∙◌, arith}
use Rattle.std.proofs.lemmas.Option.{slice_get_read}
use Rattle.pgs_schema_changes.specs.Unfolded.{tree_below, node_tree, edge_tree_of}
use Rattle.pgs_schema_changes.specs.Numbers.{AreNamed, PutsAll}
use Rattle.pgs_schema_changes.proofs.Numbering.{length_last, named_on}
use Rattle.pgs_schema_changes.proofs.Unfolding.{type_put}
use Rattle.pgs_schema_changes.proofs.declarations.number_edges.Goals as goal

pub loop-of_type-preserved : goal.loop-of_type-preserved
loop-of_type-preserved c =
    let types = c.args.types.now in
    let i = c.loop-of_type.of_type-index in
    let old = c.args.trees.now.entries.items in
    let cur = c.loop-of_type.trees.entries.items in
    let numbers = c.loop-of_type.numbers.items in
    let number = c.in_ok-number.number in
    let longer = ap length c.in_ok-push.ensures.items ∙ length_last numbers number in
    let count = c.loop-of_type.invariant.count in
    record {
      count = omega arith;
      so_far = λ resolved numbered nodes.
          let before = c.loop-of_type.invariant.so_far resolved numbered nodes in
          type_put (edge_tree_of resolved) types old cur c.number_edge.new.trees.entries.items numbers c.push.new.self.items number i c.of_type-item.result count
          (slice_get_read types (length types) i c.of_type-item.result refl c.loop-of_type-test.true c.of_type-item.is) c.in_ok-push.ensures.items before
          (λ so named. c.in_ok-number.ensures resolved (tree_below (edge_tree_of resolved) types i) so (named_on old cur c.args.nodes.now (node_tree resolved) before.grows nodes)
          (subst (λ (ns : List ℕ). AreNamed cur ns (tree_below (edge_tree_of resolved) types i)) (sym c.as_slice.ensures.value) named));
    }

pub returns : goal.returns
returns c = λ resolved numbered nodes.
    let past = c.loop-of_type-test.false in
    let within = c.loop-of_type.auto.of_type-index-end in
    let all : c.loop-of_type.of_type-index ≡ length c.args.types.now = omega arith in
    subst (λ (n : ℕ). PutsAll c.args.trees.now.entries.items c.loop-of_type.trees.entries.items c.loop-of_type.numbers.items (tree_below (edge_tree_of resolved) c.args.types.now n)) all
    (c.loop-of_type.invariant.so_far resolved numbered nodes)
