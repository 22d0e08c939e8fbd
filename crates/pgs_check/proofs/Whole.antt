-- What no violation of types and of keys says of a graph, and the first violation of either.
use Rattle.std.proofs.Common.{◌≡◌, true, List, [], ◌++◌, Some, slice_get, ◌∙◌, ap}
use Rattle.pgs_base.specs.Graph.{Graph}
use Rattle.pgs_syntax.specs.declared.resolved.Resolved.{Resolved}
use Rattle.pgs_violation.specs.declared.violation.Violation.{Violation}
use Rattle.pgs_violation.specs.declared.violation.Verdict.TheVariants.{Refused}
use Rattle.pgs_violation.specs.Violations.{keys_violations, violations, verdict, conforms}
use Rattle.pgs_violation.proofs.FirstOf.{first_refused, empty_list}
use Rattle.pgs_check.specs.declared.checking.CheckFault.{CheckFault}
use Rattle.pgs_check.specs.declared.checking.CheckFault.TheVariants as faults
use Rattle.pgs_check.specs.Rows.{first_or}
use Rattle.pgs_check.specs.Standing.{IsFirst, IsFirstOf}
use Rattle.pgs_check.specs.Untyped.{untyped_violations}
use Rattle.pgs_check.proofs.Firsts.{first_append}
use Rattle.pgs_check.proofs.KeyFirst.{no_front}

module _ (resolved : Resolved) (g : Graph) where
  abbrev of_keys : List Violation
  of_keys = keys_violations resolved g 1 resolved.guard.keys

  both : conforms resolved g ≡ true → (untyped_violations resolved g ≡ []) × (of_keys ≡ [])
  both is = no_front (untyped_violations resolved g) of_keys ((empty_list (violations resolved g)).0 is)

  pub no_untyped : conforms resolved g ≡ true → untyped_violations resolved g ≡ []
  no_untyped is = (both is).0

  pub no_of_keys : conforms resolved g ≡ true → of_keys ≡ []
  no_of_keys is = (both is).1

  pub conforming : untyped_violations resolved g ≡ [] → of_keys ≡ [] → conforms resolved g ≡ true
  conforming types keys = (empty_list (violations resolved g)).1 ((λ i. types i ++ of_keys) ∙ keys)

  pub type_first : (v : Violation) → slice_get (untyped_violations resolved g) 0 ≡ Some v → verdict resolved g ≡ Refused v
  type_first v first =
      (first_refused (violations resolved g) v).1
      (first_append (untyped_violations resolved g) of_keys ∙ ap (λ o. first_or o (slice_get of_keys 0)) first)

  pub keys_first : untyped_violations resolved g ≡ [] → (fault : CheckFault) → IsFirstOf of_keys fault → IsFirst resolved g fault
  keys_first types faults.Memory is = tt
  keys_first types (faults.Violated v) is =
      (first_refused (violations resolved g) v).1 (ap (λ vs. slice_get (vs ++ of_keys) 0) types ∙ is)
