use Rattle.std.proofs.Common.{◌≡◌, ℕ, ◌-◌, drop, subst, arith}
use Rattle.pgs_schema_changes.specs.Numbers.{Puts}
use Rattle.pgs_schema_changes.specs.Parts.{parts_tree}
use Rattle.pgs_schema_changes.proofs.Unfolding.{over_and, over_or, over_opt, part_before, part_put}
use Rattle.pgs_schema_changes.proofs.specification.+trees.Goals as goal

pub number_of-returns-in_ok-parts-in-And : goal.number_of-returns-in_ok-parts-in-And
number_of-returns-in_ok-parts-in-And t c = λ names numbered named.
    over_and names c.args.spec.now c.args.trees.now.entries.items c.number_of_parts.new.trees.entries.items c.put-in-And.new.self.entries.items c.in_ok-parts-in-And.parts c.put-in-And.result
    c.in-And.parts c.as_slice.result.now c.in-And.is c.as_slice.ensures (c.in_ok-parts-in-And.ensures names numbered named) c.put-in-And.ensures

pub number_of-returns-in_ok-parts-in-Or : goal.number_of-returns-in_ok-parts-in-Or
number_of-returns-in_ok-parts-in-Or t c = λ names numbered named.
    over_or names c.args.spec.now c.args.trees.now.entries.items c.number_of_parts-in-Or.new.trees.entries.items c.put-in-Or.new.self.entries.items c.in_ok-parts-in-Or.parts c.put-in-Or.result
    c.in-Or.parts c.as_slice-in-Or.result.now c.in-Or.is c.as_slice-in-Or.ensures (c.in_ok-parts-in-Or.ensures names numbered named) c.put-in-Or.ensures

pub number_of-returns-in_ok-parts-in-Opt : goal.number_of-returns-in_ok-parts-in-Opt
number_of-returns-in_ok-parts-in-Opt t c = λ names numbered named.
    over_opt names c.args.spec.now c.args.trees.now.entries.items c.put-in-Opt.new.self.entries.items c.put-in-Opt-2.new.self.entries.items c.in_ok-parts-in-Opt.parts c.put-in-Opt-2.result
    c.in-Opt.part c.get.result.now c.number_of.new.trees.entries.items c.in_ok-part-in-Opt.part c.in-Opt.is c.get.ensures (c.in_ok-part-in-Opt.ensures names numbered named) c.in_ok-parts-in-Opt.ensures c.put-in-Opt-2.ensures

pub number_of_parts-loop-left-preserved : goal.number_of_parts-loop-left-preserved
number_of_parts-loop-left-preserved t c = record {
  within = let within = c.loop-left.invariant.within in omega arith;
  so_far = λ names numbered named.
      part_put names c.args.named.now c.index-parts-left.result (drop c.loop-left.left c.args.parts.now) (drop (c.loop-left.left - 1) c.args.parts.now) c.args.trees.now.entries.items c.loop-left.trees.entries.items
      c.number_of.new.trees.entries.items c.put.new.self.entries.items c.loop-left.rest c.in_ok-first.first c.in_ok-rest.rest
      (part_before c.args.parts.now c.loop-left.left c.index-parts-left.result (let test = c.loop-left-test.true in omega arith) c.loop-left.invariant.within c.index-parts-left.is) named
      (c.loop-left.invariant.so_far names numbered named) (c.in_ok-first.ensures names) c.in_ok-rest.ensures;
}

pub number_of_parts-returns : goal.number_of_parts-returns
number_of_parts-returns t c = λ names numbered named.
    let test = c.loop-left-test.false in
    let none : c.loop-left.left ≡ 0 = omega arith in
    subst (λ (n : ℕ). Puts c.args.trees.now.entries.items c.loop-left.trees.entries.items c.loop-left.rest (parts_tree names (drop n c.args.parts.now))) none
    (c.loop-left.invariant.so_far names numbered named)
