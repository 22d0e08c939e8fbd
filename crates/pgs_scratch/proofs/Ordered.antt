-- Of elements that ascend, those later than one are those that stand after it.
use Rattle.std.proofs.Common.{◌≡◌, Bool, true, false, cond, List, [], ◌∷◌, ◌++◌, refl, sym, ap, ◌∙◌, Ordering, Less, Equal, Greater, is_lt}
use Rattle.std.specs.Prelude.{filter}
use Rattle.std.specs.List.{list_all}
use Rattle.std.proofs.lemmas.Bool.{and_parts}
use Rattle.std.proofs.lemmas.List.Folds.{list_all-append}
use Rattle.pgs_base.specs.declared.element.Elem.{Elem}
use Rattle.pgs_base.specs.Order.{ascends, elem_cmp}
use Rattle.pgs_base.specs.OrderLaws.{elem_cmp_total}
use Rattle.pgs_syntax.proofs.Members.{is_less, never_itself, never_both}
use Rattle.pgs_violation.specs.Violations.{later_than}

less_is : (o : Ordering) → o ≡ Less → is_lt o ≡ true
less_is Less e = refl
less_is Equal e = cc
less_is Greater e = cc

pub not_itself : (x : Elem) → is_lt (elem_cmp x x) ≡ false
not_itself x = by (is_lt (elem_cmp x x)) refl
  where
    by : (b : Bool) → is_lt (elem_cmp x x) ≡ b → is_lt (elem_cmp x x) ≡ false
    by true is = absurd (never_itself elem_cmp_total x (is_less (elem_cmp x x) is))
    by false is = is

pub not_both : (x y : Elem) → is_lt (elem_cmp x y) ≡ true → is_lt (elem_cmp y x) ≡ false
not_both x y less = by (is_lt (elem_cmp y x)) refl
  where
    by : (b : Bool) → is_lt (elem_cmp y x) ≡ b → is_lt (elem_cmp y x) ≡ false
    by true is = absurd (never_both elem_cmp_total x y (is_less (elem_cmp x y) less) (is_less (elem_cmp y x) is))
    by false is = is

all_kept : (p : Elem → Bool) (xs : List Elem) → list_all p xs ≡ true → filter p xs ≡ xs
all_kept p [] h = refl
all_kept p (x ∷ xs) h =
    ap (λ b. cond b (x ∷ filter p xs) (filter p xs)) (and_parts _ _ h).0 ∙ ap (λ ys. x ∷ ys) (all_kept p xs (and_parts _ _ h).1)

pub later_are_after : (before : List Elem) (x : Elem) (after : List Elem) → ascends elem_cmp (before ++ x ∷ after) ≡ true →
    later_than x (before ++ x ∷ after) ≡ after
later_are_after [] x after h =
    ap (λ b. cond b (x ∷ filter (λ other. is_lt (elem_cmp x other)) after) (filter (λ other. is_lt (elem_cmp x other)) after)) (not_itself x)
    ∙ all_kept (λ other. is_lt (elem_cmp x other)) after (and_parts _ _ h).0
later_are_after (first ∷ before) x after h =
    let parts = and_parts _ _ h in
    let less = (and_parts _ _ (and_parts _ _ (sym (list_all-append (λ y. is_lt (elem_cmp first y)) before (x ∷ after)) ∙ parts.0)).1).0 in
    ap (λ b. cond b (first ∷ later_than x (before ++ x ∷ after)) (later_than x (before ++ x ∷ after))) (not_both first x less)
    ∙ later_are_after before x after parts.1
