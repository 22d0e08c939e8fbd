-- Of two that were found, the one that is no larger is found for one test or the other.
use Rattle.std.proofs.Common.{◌≡◌, ◌≤◌, Bool, true, ◌||◌, ⊎_elim, arith}
use Rattle.std.proofs.lemmas.Bool.{or_cases, or_right}
use Rattle.pgs_standing.specs.Example.{Carried, IsPlainest}

pub smaller_found : {P : Type 0} (carried : Carried P) (f g : P → Bool) (first second : P) → IsPlainest carried f first → IsPlainest carried g second →
    carried.size second ≤ carried.size first → IsPlainest carried (λ p. f p || g p) second
smaller_found carried f g first second of_first of_second smaller = record {
  is_one = of_second.is_one;
  passes = or_right (f second) (g second) of_second.passes;
  plain = of_second.plain;
  fewest = λ q one passes.
      ⊎_elim
      (λ by_f. let least = of_first.fewest q one by_f in omega (arith, smaller, least))
      (λ by_g. of_second.fewest q one by_g)
      (or_cases (f q) (g q) passes);
}
