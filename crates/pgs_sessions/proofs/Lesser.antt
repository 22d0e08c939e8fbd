-- Taking the lesser of changes may go element by element, and part by part.
use Rattle.std.proofs.Common.{◌≡◌, ℕ, ◌+◌, ◌<◌, Bool, true, false, true≢false, List, [], ◌∷◌, ◌++◌, length, drop, get_or, Option, Some, None, refl, sym, ap, ◌∙◌, Ordering, Less, Equal, Greater}
use Rattle.std.specs.Prelude.{flat_map}
use Rattle.std.proofs.lemmas.List.{drop_more}
use Rattle.pgs_graph.specs.declared.operation.Op.{Op}
use Rattle.std.specs.Ordering.{is_gt, ordering_reverse}
use Rattle.pgs_base.specs.declared.element.Elem.{Elem}
use Rattle.pgs_base.specs.Order.{elem_cmp}
use Rattle.pgs_base.specs.OrderLaws.{elem_cmp_total, exact_elem}
use Rattle.pgs_sessions_machine.specs.Machine.{lesser, least_of, least_after, if_after, named}
use Rattle.pgs_sessions.specs.Least.{lesser_of}

greater : (o : Ordering) → is_gt o ≡ true → o ≡ Greater
greater Less h = absurd (true≢false (sym h))
greater Equal h = absurd (true≢false (sym h))
greater Greater h = refl

less_from : (a b : Elem) → elem_cmp a b ≡ Greater → elem_cmp b a ≡ Less
less_from a b h = elem_cmp_total.antisymm b a ∙ ap ordering_reverse h

greater_trans : (a b c : Elem) → is_gt (elem_cmp a b) ≡ true → is_gt (elem_cmp b c) ≡ true → is_gt (elem_cmp a c) ≡ true
greater_trans a b c h k =
    ap is_gt (elem_cmp_total.antisymm a c
    ∙ ap ordering_reverse (elem_cmp_total.trans c b a (less_from b c (greater _ k)) (less_from a b (greater _ h))))

not_greater_trans : (a b c : Elem) → is_gt (elem_cmp a b) ≡ false → is_gt (elem_cmp b c) ≡ false → is_gt (elem_cmp a c) ≡ false
not_greater_trans a b c h k = by (elem_cmp a b) (elem_cmp b c) refl refl
  where
    by : (o p : Ordering) → elem_cmp a b ≡ o → elem_cmp b c ≡ p → is_gt (elem_cmp a c) ≡ false
    by Less Less e f = ap is_gt (elem_cmp_total.trans a b c e f)
    by Less Equal e f = ap (λ (x : Elem). is_gt (elem_cmp a x)) (sym (exact_elem b c f)) ∙ h
    by Less Greater e f = absurd (true≢false (ap is_gt (sym f) ∙ k))
    by Equal p e f = ap (λ (x : Elem). is_gt (elem_cmp x c)) (exact_elem a b e) ∙ k
    by Greater p e f = absurd (true≢false (ap is_gt (sym e) ∙ h))

assoc : (a b c : Elem × ℕ) → lesser (lesser a (Some b)) (Some c) ≡ lesser a (Some (lesser b (Some c)))
assoc a b c = by (is_gt (elem_cmp a.0 b.0)) (is_gt (elem_cmp b.0 c.0)) refl refl
  where
    by : (x y : Bool) → is_gt (elem_cmp a.0 b.0) ≡ x → is_gt (elem_cmp b.0 c.0) ≡ y →
        lesser (lesser a (Some b)) (Some c) ≡ lesser a (Some (lesser b (Some c)))
    by true true e f = rw (e, f, greater_trans a.0 b.0 c.0 e f) refl
    by true false e f = rw (e, f, e) refl
    by false true e f = rw (e, f) refl
    by false false e f = rw (e, f, e, not_greater_trans a.0 b.0 c.0 e f) refl

pub lesser_of-assoc : (x y z : Option (Elem × ℕ)) → lesser_of (lesser_of x y) z ≡ lesser_of x (lesser_of y z)
lesser_of-assoc None y z = refl
lesser_of-assoc (Some a) None z = refl
lesser_of-assoc (Some a) (Some b) None = refl
lesser_of-assoc (Some a) (Some b) (Some c) = ap Some (assoc a b c)

pub lesser_of-none : (x : Option (Elem × ℕ)) → lesser_of x None ≡ x
lesser_of-none None = refl
lesser_of-none (Some a) = refl

pub least_of-apart : (elem : Elem) (change : Option ℕ) (rest : Option (Elem × ℕ)) → least_of elem change rest ≡ lesser_of (least_of elem change None) rest
least_of-apart elem None rest = refl
least_of-apart elem (Some commit) rest = refl

pub least_after-append : (last : Elem → Option ℕ) (began : ℕ) (xs ys : List Elem) →
    least_after last began (xs ++ ys) ≡ lesser_of (least_after last began xs) (least_after last began ys)
least_after-append last began [] ys = refl
least_after-append last began (x ∷ xs) ys =
    let change : Option ℕ = if_after began (last x) in
    let more : Option (Elem × ℕ) = least_after last began xs in
    let rest : Option (Elem × ℕ) = least_after last began ys in
    ap (least_of x change) (least_after-append last began xs ys) ∙ least_of-apart x change (lesser_of more rest)
    ∙ sym (lesser_of-assoc (least_of x change None) more rest) ∙ ap (λ (o : Option (Elem × ℕ)). lesser_of o rest) (sym (least_of-apart x change more))

-- one element more, of those that are left
pub one_more : (last : Elem → Option ℕ) (began : ℕ) (found : Option (Elem × ℕ)) (x : Elem) (xs : List Elem) →
    lesser_of (lesser_of found (least_of x (if_after began (last x)) None)) (least_after last began xs) ≡ lesser_of found (least_after last began (x ∷ xs))
one_more last began found x xs =
    lesser_of-assoc found (least_of x (if_after began (last x)) None) (least_after last began xs)
    ∙ ap (lesser_of found) (sym (least_of-apart x (if_after began (last x)) (least_after last began xs)))

-- one operation more, of those that are left
pub operation_more : (last : Elem → Option ℕ) (began : ℕ) (ops : List Op) (i : ℕ) (op : Op) → i < length ops → op ≡ get_or ops i op →
    (found change next total : Option (Elem × ℕ)) → change ≡ least_after last began (named op) → next ≡ lesser_of found change →
    lesser_of found (least_after last began (flat_map named (drop i ops))) ≡ total → lesser_of next (least_after last began (flat_map named (drop (i + 1) ops))) ≡ total
operation_more last began ops i op within is found change next total changes lesser so_far =
    let rest : Option (Elem × ℕ) = least_after last began (flat_map named (drop (i + 1) ops)) in
    let first : drop i ops ≡ op ∷ drop (i + 1) ops = drop_more ops i op within ∙ ap (λ (o : Op). o ∷ drop (i + 1) ops) (sym is) in
    ap (λ (o : Option (Elem × ℕ)). lesser_of o rest) lesser ∙ lesser_of-assoc found change rest
    ∙ ap (λ (o : Option (Elem × ℕ)). lesser_of found (lesser_of o rest)) changes
    ∙ ap (lesser_of found) (sym (least_after-append last began (named op) (flat_map named (drop (i + 1) ops))))
    ∙ ap (λ (l : List Op). lesser_of found (least_after last began (flat_map named l))) (sym first) ∙ so_far
