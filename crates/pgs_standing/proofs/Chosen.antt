-- What was found for a test was found for one that is the same.
use Rattle.std.proofs.Common.{◌≡◌, Bool, true, Option, Some, None, sym, ◌∙◌}
use Rattle.std.specs.Option.{MatchOption}
use Rattle.pgs_standing.specs.Example.{Carried, NonePasses, IsPlainest}

module _ {P : Type 0} (carried : Carried P) where
  pub plainest_same : (f g : P → Bool) (p : P) → ((q : P) → carried.is_one q ≡ true → f q ≡ g q) → IsPlainest carried f p → IsPlainest carried g p
  plainest_same f g p same a = record {
    is_one = a.is_one;
    passes = sym (same p a.is_one) ∙ a.passes;
    plain = a.plain;
    fewest = λ q one h. a.fewest q one (same q one ∙ h);
  }

  pub none_same : (f g : P → Bool) → ((q : P) → carried.is_one q ≡ true → f q ≡ g q) → NonePasses carried f → NonePasses carried g
  none_same f g same none q one = sym (same q one) ∙ none q one

  -- what was found, for a test that is the same
  pub found_same : {O : Type 0} (row : O → P) (f g : P → Bool) (answer : Option O) → ((q : P) → carried.is_one q ≡ true → f q ≡ g q) →
      MatchOption answer (NonePasses carried f) (λ own. IsPlainest carried f (row own)) → MatchOption answer (NonePasses carried g) (λ own. IsPlainest carried g (row own))
  found_same row f g None same h = none_same f g same h
  found_same row f g (Some own) same h = plainest_same f g (row own) same h
