-- The first of what is found of elements that ascend is found of the least of those of which something is found.
use Rattle.std.proofs.Common.{◌≡◌, Bool, true, List, [], ◌∷◌, ◌++◌, Option, Some, None, is_some, slice_get, refl, sym, ◌∙◌, ap, subst, arith, Ordering}
use Rattle.std.specs.Prelude.{Contains, filter_map, find, option_and_then}
use Rattle.std.specs.Cmp.{IsTotalOrder}
use Rattle.pgs_base.specs.Order.{ascends}
use Rattle.pgs_syntax.specs.Least.{IsLeast}
use Rattle.pgs_syntax.proofs.Members.{first_given, found_least, least_found, given_given, given_found, contains_none}
use Rattle.pgs_violation.specs.declared.violation.Violation.{Violation}
use Rattle.pgs_check.specs.Rows.{first_or}

-- ---- lists put together

pub first_append : (xs ys : List Violation) → slice_get (xs ++ ys) 0 ≡ first_or (slice_get xs 0) (slice_get ys 0)
first_append [] ys = refl
first_append (x ∷ xs) ys = refl

pub none_first : {Y : Type 0} (ys : List Y) → slice_get ys 0 ≡ None → ys ≡ []
none_first [] h = refl
none_first (y ∷ ys) h = cc

-- nothing is given of a member, where nothing is given at all
pub none_given : {X Y : Type 0} (give : X → Option Y) (xs : List X) → filter_map give xs ≡ [] → (x : X) → Contains xs x → give x ≡ None
none_given {X} {Y} give xs none x there = by (give x) refl
  where
    by : (o : Option Y) → give x ≡ o → give x ≡ None
    by None is = is
    by (Some y) is = absurd (contains_none y (subst (λ ys. Contains ys y) none (given_given give xs x y there is)))

none_member : {X : Type 0} (xs : List X) → ((x : X) → Contains xs x → ⊥) → xs ≡ []
none_member [] h = refl
none_member (x ∷ xs) h = absurd (h x (0, omega arith, refl))

-- nothing is given, where nothing is given of any member
pub nothing_given : {X Y : Type 0} (give : X → Option Y) (xs : List X) → ((x : X) (y : Y) → Contains xs x → give x ≡ Some y → ⊥) → filter_map give xs ≡ []
nothing_given give xs h =
    none_member (filter_map give xs) (λ y there. let found = given_found give xs y there in h found.0 y found.1 found.2)

module _ {X Y : Type 0} {cmp : X → X → Ordering} (total : IsTotalOrder cmp) (give : X → Option Y) where
  abbrev gives : X → Bool
  gives x = is_some (give x)

  -- what is given of the least of which something is given is the first
  pub least_is_first : (xs : List X) (x : X) → ascends cmp xs ≡ true → IsLeast cmp (λ z. Contains xs z × (gives z ≡ true)) x →
      slice_get (filter_map give xs) 0 ≡ give x
  least_is_first xs x order least = first_given give xs ∙ ap (option_and_then give) (least_found total gives xs x order least)

  -- and the first that is given is given of such a one
  pub first_is_least : (xs : List X) (y : Y) → ascends cmp xs ≡ true → slice_get (filter_map give xs) 0 ≡ Some y →
      (x : X) × IsLeast cmp (λ z. Contains xs z × (gives z ≡ true)) x × (give x ≡ Some y)
  first_is_least xs y order first = by (find gives xs) refl (sym (first_given give xs) ∙ first)
    where
      by : (o : Option X) → find gives xs ≡ o → option_and_then give o ≡ Some y → (x : X) × IsLeast cmp (λ z. Contains xs z × (gives z ≡ true)) x × (give x ≡ Some y)
      by None is h = cc
      by (Some x) is h = (x, found_least total gives xs x order is, h)

  abbrev least_of : List X → X → Type 0
  least_of xs = IsLeast cmp (λ z. Contains xs z × (gives z ≡ true))

  -- two lists that ascend and have the same members of which something is given give the same first
  module _ (xs ys : List X) (xs_order : ascends cmp xs ≡ true) (ys_order : ascends cmp ys ≡ true)
      (there : (x : X) → gives x ≡ true → Contains xs x → Contains ys x) (back : (x : X) → gives x ≡ true → Contains ys x → Contains xs x) where
    to_ys : (x : X) → least_of xs x → least_of ys x
    to_ys x least = record {
      is = (there x least.is.1 least.is.0, least.is.1);
      others_after = λ z h. least.others_after z (back z h.1 h.0, h.1);
    }

    to_xs : (x : X) → least_of ys x → least_of xs x
    to_xs x least = record {
      is = (back x least.is.1 least.is.0, least.is.1);
      others_after = λ z h. least.others_after z (there z h.1 h.0, h.1);
    }

    pub same_first : slice_get (filter_map give xs) 0 ≡ slice_get (filter_map give ys) 0
    same_first = by (find gives xs) refl (find gives ys) refl
      where
        by : (o : Option X) → find gives xs ≡ o → (p : Option X) → find gives ys ≡ p → slice_get (filter_map give xs) 0 ≡ slice_get (filter_map give ys) 0
        by None one None other =
            first_given give xs ∙ ap (option_and_then give) one ∙ sym (first_given give ys ∙ ap (option_and_then give) other)
        by (Some x) one p other =
            least_is_first xs x xs_order (found_least total gives xs x xs_order one)
            ∙ sym (least_is_first ys x ys_order (to_ys x (found_least total gives xs x xs_order one)))
        by None one (Some y) other =
            least_is_first xs y xs_order (to_xs y (found_least total gives ys y ys_order other))
            ∙ sym (least_is_first ys y ys_order (found_least total gives ys y ys_order other))
