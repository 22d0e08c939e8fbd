-- What the first of a list of violations says of the list.
use Rattle.std.proofs.Common.{◌≡◌, ◌↔◌, true, List, [], ◌∷◌, Some, slice_get, refl, subst}
use Rattle.std.specs.Prelude.{Contains}
use Rattle.pgs_base.specs.Order.{ascends}
use Rattle.pgs_syntax.specs.Least.{IsLeast}
use Rattle.pgs_syntax.proofs.Members.{first_least, least_first}
use Rattle.pgs_violation.specs.Standing.{violation_cmp}
use Rattle.pgs_violation.specs.StandingLaws.{violation_cmp_total}
use Rattle.pgs_syntax.specs.Join.{is_empty}
use Rattle.pgs_violation.specs.declared.violation.Verdict.TheVariants.{Conforms, Refused}
use Rattle.pgs_violation.specs.declared.violation.Violation.{Violation}
use Rattle.pgs_violation.specs.Violations.{first_of}

pub first_refused : (list : List Violation) (violation : Violation) → (first_of list ≡ Refused violation) ↔ (slice_get list 0 ≡ Some violation)
first_refused [] violation = (λ e. cc, λ e. cc)
first_refused (first ∷ rest) violation = (λ e. cc, λ e. cc)

pub first_conforms : (list : List Violation) → (first_of list ≡ Conforms) ↔ (list ≡ [])
first_conforms [] = (λ e. refl, λ e. refl)
first_conforms (first ∷ rest) = (λ e. cc, λ e. cc)

pub empty_list : (list : List Violation) → (is_empty list ≡ true) ↔ (list ≡ [])
empty_list [] = (λ e. refl, λ e. refl)
empty_list (first ∷ rest) = (λ e. cc, λ e. cc)

-- of violations that ascend the first is the least
pub first_is_least : (list : List Violation) (violation : Violation) → ascends violation_cmp list ≡ true →
    (first_of list ≡ Refused violation) ↔ IsLeast violation_cmp (Contains list) violation
first_is_least list violation order = (
  λ refused. least list order ((first_refused list violation).0 refused),
  λ is. (first_refused list violation).1 (least_first violation_cmp_total list violation order is),
)
  where
    least : (xs : List Violation) → ascends violation_cmp xs ≡ true → slice_get xs 0 ≡ Some violation → IsLeast violation_cmp (Contains xs) violation
    least [] sorted first = cc
    least (x ∷ xs) sorted first =
        let same : x ≡ violation = cc in subst (IsLeast violation_cmp (Contains (x ∷ xs))) same (first_least violation_cmp_total x xs sorted)
