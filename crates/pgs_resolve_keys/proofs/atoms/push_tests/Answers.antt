use Rattle.std.proofs.Common.{ℕ, List, arith}
use Rattle.pgs_base.specs.declared.value.Value.{Value}
use Rattle.pgs_syntax.specs.declared.pattern.Atom.TheVariants.{Equals}
use Rattle.pgs_resolve_declared.proofs.Walks.{more_mapped, all_mapped}
use Rattle.pgs_resolve_keys.proofs.atoms.push_tests.Goals as goal

pub loop-test-preserved : goal.loop-test-preserved
loop-test-preserved c =
    more_mapped (λ (test : List ℕ × Value). Equals c.args.var test.0 test.1) c.args.atoms.now.items c.args.tests.now _ _ _ _ _ (omega arith) c.test-item.is c.loop-test.invariant
    (λ j. Equals c.args.var (c.in_ok-key.ensures j) (c.in_ok-value.ensures j)) c.in_ok-push.ensures.items

pub returns : goal.returns
returns c = all_mapped (λ (test : List ℕ × Value). Equals c.args.var test.0 test.1) c.args.atoms.now.items c.args.tests.now _ _ (omega arith) c.loop-test.invariant
