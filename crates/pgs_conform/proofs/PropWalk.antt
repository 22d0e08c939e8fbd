-- A walk over the keys that a shape names and the properties that are there: what holds of those left, and each step.
use Rattle.std.proofs.Common.{◌≡◌, ℕ, ◌<◌, ◌≤◌, ◌==◌, Bool, true, false, ◌&&◌, ◌||◌, List, [], ◌∷◌, length, get_or, sym, ap, subst, ◌∙◌, arith, Ordering, Less, Equal, Greater}
use Rattle.std.specs.Ordering.{nat_cmp, ordering_reverse}
use Rattle.std.specs.Cmp.Lexicographic.{slice_cmp, nat_list_cmp_total}
use Rattle.std.specs.Map.{keys_of}
use Rattle.std.proofs.lemmas.Bool.{and_parts}
use Rattle.pgs_base.specs.declared.value.Value.{Value}
use Rattle.pgs_base.specs.Order.{ascends}
use Rattle.pgs_base.specs.OrderLaws.{exact_name}
use Rattle.pgs_base.specs.Value.{kind_of}
use Rattle.pgs_conform.specs.declared.options.Options.{Options}
use Rattle.pgs_conform.specs.Shapes.{admits_kind, props_meet}
use Rattle.pgs_conform.proofs.Walks.{key_absent, key_present, key_passed, all_free, or_false, order, before, later, later_is}

pub record PropsLeft (keys : List (List ℕ × Options)) (more : Bool) (props : List (List ℕ × Value))
    (keys_left : List (List ℕ × Options)) (left : List (List ℕ × Value)) : Type 0 where
  pub keys_ascend : ascends (slice_cmp nat_cmp) (keys_of keys_left) ≡ true
  pub ascend : ascends (slice_cmp nat_cmp) (keys_of left) ≡ true
  pub same : props_meet keys more props ≡ props_meet keys_left more left

-- two lists that each have a first, and how the keys of these compare
pub record Firsts (xs : List (List ℕ × Options)) (ys : List (List ℕ × Value)) (x : List ℕ × Options) (y : List ℕ × Value) (o : Ordering) : Type 0 where
  pub some_keys : 1 ≤ length xs
  pub some_props : 1 ≤ length ys
  pub key : x ≡ get_or xs 0 x
  pub entry : y ≡ get_or ys 0 y
  pub compared : order x.0 y.0 ≡ o

module _ (keys : List (List ℕ × Options)) (more : Bool) (props : List (List ℕ × Value)) where
  abbrev Left : List (List ℕ × Options) → List (List ℕ × Value) → Type 0
  Left = PropsLeft keys more props

  module _ (k : List ℕ × Options) (e : List ℕ × Value) (ks : List (List ℕ × Options)) (es : List (List ℕ × Value)) where
    absent_at : order k.0 e.0 ≡ Less → Left (k ∷ ks) (e ∷ es) → props_meet keys more props ≡ (k.1.absent && props_meet ks more (e ∷ es))
    absent_at less left =
        left.same ∙ key_absent k e ks es more less (and_parts (before e.0 (keys_of es)) (ascends (slice_cmp nat_cmp) (keys_of es)) left.ascend).0

    present_at : order k.0 e.0 ≡ Equal → Left (k ∷ ks) (e ∷ es) →
        props_meet keys more props ≡ (admits_kind k.1 (kind_of e.1) && props_meet ks more es)
    present_at equal left =
        left.same ∙ key_present k e ks es more (exact_name k.0 e.0 equal)
        (and_parts (before k.0 (keys_of ks)) (ascends (slice_cmp nat_cmp) (keys_of ks)) left.keys_ascend).0
        (and_parts (before e.0 (keys_of es)) (ascends (slice_cmp nat_cmp) (keys_of es)) left.ascend).0

    passed_at : order k.0 e.0 ≡ Greater → Left (k ∷ ks) (e ∷ es) → props_meet keys more props ≡ (more && props_meet (k ∷ ks) more es)
    passed_at greater left =
        left.same ∙ key_passed k e ks es more (nat_list_cmp_total.antisymm e.0 k.0 ∙ ap ordering_reverse greater)
        (and_parts (before k.0 (keys_of ks)) (ascends (slice_cmp nat_cmp) (keys_of ks)) left.keys_ascend).0

    later_keys : Left (k ∷ ks) (e ∷ es) → ascends (slice_cmp nat_cmp) (keys_of ks) ≡ true
    later_keys left = (and_parts (before k.0 (keys_of ks)) (ascends (slice_cmp nat_cmp) (keys_of ks)) left.keys_ascend).1

    later_props : Left (k ∷ ks) (e ∷ es) → ascends (slice_cmp nat_cmp) (keys_of es) ≡ true
    later_props left = (and_parts (before e.0 (keys_of es)) (ascends (slice_cmp nat_cmp) (keys_of es)) left.ascend).1

  -- the key that is named next is absent, and has to be present
  pub required : (xs : List (List ℕ × Options)) (ys : List (List ℕ × Value)) (x : List ℕ × Options) (y : List ℕ × Value) →
      Firsts xs ys x y Less → x.1.absent ≡ false → Left xs ys → false ≡ props_meet keys more props
  required [] ys x y firsts asks left = absurd (omega (arith, firsts.some_keys))
  required (k ∷ ks) [] x y firsts asks left = absurd (omega (arith, firsts.some_props))
  required (k ∷ ks) (e ∷ es) x y firsts asks left =
      let less = subst (λ (z : List ℕ × Value). order k.0 z.0 ≡ Less) firsts.entry (subst (λ (z : List ℕ × Options). order z.0 y.0 ≡ Less) firsts.key firsts.compared) in
      let own = subst (λ (z : List ℕ × Options). z.1.absent ≡ false) firsts.key asks in
      sym (absent_at k e ks es less left ∙ ap (λ b. b && props_meet ks more (e ∷ es)) own)

  -- it is absent, and may be
  pub left_out : (xs : List (List ℕ × Options)) (ys : List (List ℕ × Value)) (x : List ℕ × Options) (y : List ℕ × Value) →
      Firsts xs ys x y Less → x.1.absent ≡ true → Left xs ys → Left (later xs) ys
  left_out [] ys x y firsts may left = absurd (omega (arith, firsts.some_keys))
  left_out (k ∷ ks) [] x y firsts may left = absurd (omega (arith, firsts.some_props))
  left_out (k ∷ ks) (e ∷ es) x y firsts may left =
      let less = subst (λ (z : List ℕ × Value). order k.0 z.0 ≡ Less) firsts.entry (subst (λ (z : List ℕ × Options). order z.0 y.0 ≡ Less) firsts.key firsts.compared) in
      let own = subst (λ (z : List ℕ × Options). z.1.absent ≡ true) firsts.key may in
      rw (later_is k ks)
      (record {
        keys_ascend = later_keys k e ks es left;
        ascend = left.ascend;
        same = absent_at k e ks es less left ∙ ap (λ b. b && props_meet ks more (e ∷ es)) own;
      })

  -- it is present, with a value that its options admit
  pub met : (xs : List (List ℕ × Options)) (ys : List (List ℕ × Value)) (x : List ℕ × Options) (y : List ℕ × Value) →
      Firsts xs ys x y Equal → admits_kind x.1 (kind_of y.1) ≡ true → Left xs ys → Left (later xs) (later ys)
  met [] ys x y firsts fit left = absurd (omega (arith, firsts.some_keys))
  met (k ∷ ks) [] x y firsts fit left = absurd (omega (arith, firsts.some_props))
  met (k ∷ ks) (e ∷ es) x y firsts fit left =
      let equal = subst (λ (z : List ℕ × Value). order k.0 z.0 ≡ Equal) firsts.entry (subst (λ (z : List ℕ × Options). order z.0 y.0 ≡ Equal) firsts.key firsts.compared) in
      let own = subst (λ (z : List ℕ × Value). admits_kind k.1 (kind_of z.1) ≡ true) firsts.entry
      (subst (λ (z : List ℕ × Options). admits_kind z.1 (kind_of y.1) ≡ true) firsts.key fit) in
      rw (later_is k ks, later_is e es)
      (record {
        keys_ascend = later_keys k e ks es left;
        ascend = later_props k e ks es left;
        same = present_at k e ks es equal left ∙ ap (λ b. b && props_meet ks more es) own;
      })

  -- the next property isn't named, and isn't free
  pub refused : (xs : List (List ℕ × Options)) (ys : List (List ℕ × Value)) (x : List ℕ × Options) (y : List ℕ × Value) →
      Firsts xs ys x y Greater → more ≡ false → Left xs ys → false ≡ props_meet keys more props
  refused [] ys x y firsts closed left = absurd (omega (arith, firsts.some_keys))
  refused (k ∷ ks) [] x y firsts closed left = absurd (omega (arith, firsts.some_props))
  refused (k ∷ ks) (e ∷ es) x y firsts closed left =
      let greater = subst (λ (z : List ℕ × Value). order k.0 z.0 ≡ Greater) firsts.entry (subst (λ (z : List ℕ × Options). order z.0 y.0 ≡ Greater) firsts.key firsts.compared) in
      sym (passed_at k e ks es greater left ∙ ap (λ b. b && props_meet (k ∷ ks) more es) closed)

  -- it is free
  pub passed : (xs : List (List ℕ × Options)) (ys : List (List ℕ × Value)) (x : List ℕ × Options) (y : List ℕ × Value) →
      Firsts xs ys x y Greater → more ≡ true → Left xs ys → Left xs (later ys)
  passed [] ys x y firsts free left = absurd (omega (arith, firsts.some_keys))
  passed (k ∷ ks) [] x y firsts free left = absurd (omega (arith, firsts.some_props))
  passed (k ∷ ks) (e ∷ es) x y firsts free left =
      let greater = subst (λ (z : List ℕ × Value). order k.0 z.0 ≡ Greater) firsts.entry (subst (λ (z : List ℕ × Options). order z.0 y.0 ≡ Greater) firsts.key firsts.compared) in
      rw (later_is e es)
      (record {
        keys_ascend = left.keys_ascend;
        ascend = later_props k e ks es left;
        same = passed_at k e ks es greater left ∙ ap (λ b. b && props_meet (k ∷ ks) more es) free;
      })

  -- no key is named any more
  pub ended : (xs : List (List ℕ × Options)) (ys : List (List ℕ × Value)) → length xs < 1 → Left xs ys →
      props_meet keys more props ≡ (more || (length ys == 0))
  ended [] ys none left = left.same ∙ all_free (λ (entry : List ℕ × Value). more || false) more (λ entry. or_false more) ys
  ended (k ∷ ks) ys none left = absurd (omega arith)
