-- A table from tuples to what has them, after a tuple is entered, and after the first tuples of a row.
use Rattle.std.proofs.Common.{◌≡◌, ℕ, ◌+◌, ◌<◌, Bool, true, false, cond, List, [], ◌∷◌, ◌++◌, take, get_or, length, Option, Some, refl, sym, ap, ◌∙◌, subst}
use Rattle.std.specs.Prelude.{◌||◌}
use Rattle.std.specs.Borrow.{Bor}
use Rattle.std.specs.BTreeMap as tree
use Rattle.std.specs.BTreeMap.{BTreeMap, is_at}
use Rattle.std.specs.Cmp.{Equal-is, eq_by_cmp_equiv}
use Rattle.std.specs.Map.{lookup, KeepsOthers, IsKeyTest, AreApart}
use Rattle.std.specs.List.{list_any}
use Rattle.std.proofs.lemmas.List.{take_more}
use Rattle.std.proofs.lemmas.List.Folds.{list_any-append}
use Rattle.pgs_base.specs.declared.part.Part.{Part}
use Rattle.pgs_base.specs.Order.{tuple_cmp}
use Rattle.pgs_base.specs.OrderLaws.{tuple_cmp_total, exact_tuple}

-- tuples that compare `Equal` are equal
pub same_tuple : (a b : List Part) → is_at (tuple_cmp a) b ≡ true → a ≡ b
same_tuple a b h = exact_tuple a b ((Equal-is (tuple_cmp a b)).0 h)

module _ {K X : Type 0} (eq : K → K → Bool) (test : K → Bool) where
  other_entries : (old new : List (K × X)) → KeepsOthers eq test old new → (other : K → Bool) → IsKeyTest eq other → AreApart test other → lookup other new ≡ lookup other old
  unfolding KeepsOthers
  other_entries old new h = h

abbrev pub at : {X : Type 0} → BTreeMap (Bor (List Part)) X → List Part → Option X
at m q = tree.get_by (λ (k : Bor (List Part)). tuple_cmp q k.now) m

module _ {X : Type 0} (t : List Part) (m n : BTreeMap (Bor (List Part)) X) (w : X)
    (put : tree.UpdatesBy (λ (x : Bor (List Part)) (y : Bor (List Part)). tuple_cmp x.now y.now) (λ (k : Bor (List Part)). tuple_cmp t k.now) m n (Some w)) where
  pub one_entered : (q : List Part) → at n q ≡ cond (is_at (tuple_cmp q) t) (Some w) (at m q)
  one_entered q = by (is_at (tuple_cmp q) t) refl
    where
      by : (b : Bool) → is_at (tuple_cmp q) t ≡ b → at n q ≡ cond b (Some w) (at m q)
      by true is = subst (λ s. at n s ≡ Some w) (sym (same_tuple q t is)) put.1
      by false is =
          other_entries _ _ m.entries n.entries put.3 (λ (k : Bor (List Part)). is_at (tuple_cmp q) k.now)
          (λ x y. (eq_by_cmp_equiv tuple_cmp_total).congr q x.now y.now)
          (λ k h. ap (is_at (tuple_cmp q)) (sym (same_tuple t k.now h)) ∙ is)

nested : {Y : Type 0} (a b : Bool) (x y : Y) → cond b x (cond a x y) ≡ cond (a || b) x y
nested true true x y = refl
nested true false x y = refl
nested false true x y = refl
nested false false x y = refl

or_false : (b : Bool) → (b || false) ≡ b
or_false true = refl
or_false false = refl

module _ {X : Type 0} (items tuples : List (List Part)) (same : items ≡ tuples) (i : ℕ) (below : i < length items) (t : List Part) (is : t ≡ get_or items i t)
    (start m n : BTreeMap (Bor (List Part)) X) (w : X)
    (so_far : (q : List Part) → at m q ≡ cond (list_any (is_at (tuple_cmp q)) (take i tuples)) (Some w) (at start q))
    (put : tree.UpdatesBy (λ (x : Bor (List Part)) (y : Bor (List Part)). tuple_cmp x.now y.now) (λ (k : Bor (List Part)). tuple_cmp t k.now) m n (Some w)) where
  longer : take (i + 1) tuples ≡ take i tuples ++ t ∷ []
  longer = subst (λ ts. take (i + 1) ts ≡ take i ts ++ t ∷ []) same (take_more items i t below ∙ ap (λ x. take i items ++ x ∷ []) (sym is))

  pub more_entered : (q : List Part) → at n q ≡ cond (list_any (is_at (tuple_cmp q)) (take (i + 1) tuples)) (Some w) (at start q)
  more_entered q =
      let p = is_at (tuple_cmp q) in
      one_entered t m n w put q ∙ ap (cond (p t) (Some w)) (so_far q) ∙ nested (list_any p (take i tuples)) (p t) (Some w) (at start q)
      ∙ ap (λ b. cond b (Some w) (at start q))
      (ap (λ b. list_any p (take i tuples) || b) (sym (or_false (p t))) ∙ sym (list_any-append p (take i tuples) (t ∷ [])) ∙ ap (list_any p) (sym longer))
