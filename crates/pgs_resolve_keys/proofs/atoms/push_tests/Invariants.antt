use Rattle.std.proofs.Common.{◌≡◌, ◌++◌, map, take}
use Rattle.pgs_syntax.specs.declared.pattern.Atom.TheVariants.{Equals}
use Rattle.pgs_resolve_keys.proofs.atoms.push_tests.Given as goal

abbrev pub invariant-loop-test : goal.invariant-loop-test
invariant-loop-test l = l.atoms.items ≡ l.fn.atoms.items ++ map (λ test. Equals l.var test.0 test.1) (take l.test-index l.tests)
