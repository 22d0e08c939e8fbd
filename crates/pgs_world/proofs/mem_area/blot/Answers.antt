use Rattle.std.proofs.Common.{◌≡◌, ◌+◌, ◌-◌, ⊎_elim, List, None, set, length, sym, ◌∙◌, ap, arith, ℕ}
use Rattle.std.proofs.lemmas.Bool.{cases_lt}
use Rattle.std.specs.declared.option.Option.{Option}
use Rattle.pgs_world.specs.Held.{blotted}
use Rattle.pgs_world.proofs.Blots.{blotted_start, blotted_more, blotted_past}
use Rattle.pgs_world.proofs.mem_area.blot.Goals as goal

pub loop-done-init : goal.loop-done-init
loop-done-init c = record {
  items = sym (blotted_start c.args.at c.args.kept.now.items);
  capacity = omega arith;
}

pub loop-done-preserved : goal.loop-done-preserved
loop-done-preserved c = record {
  items = ap (λ (l : List (Option ℕ)). set l (c.args.at + c.loop-done.done) None) c.loop-done.invariant.items ∙ blotted_more c.args.at c.loop-done.done c.args.kept.now.items;
  capacity = c.loop-done.invariant.capacity;
}

-- the range ends with the count, or with the kept bytes
pub returns-clause-blotted : goal.returns-clause-blotted
returns-clause-blotted c =
    let old = c.args.kept.now.items in
    let size : c.len.result ≡ length old = omega (arith, c.args.kept.now.ok.0) in
    let at_end : c.loop-done.done ≡ c.min-reached.result = omega arith in
    c.loop-done.invariant.items
    ∙ ⊎_elim
    (λ less. ap (λ n. blotted c.args.at n old) (omega (arith, less, at_end)))
    (λ more. blotted_past c.args.at c.loop-done.done c.args.count old (omega (arith, more, at_end, size)) (omega (arith, more, size)))
    (cases_lt c.args.count (c.len.result - c.args.at))
