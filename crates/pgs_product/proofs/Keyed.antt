-- Two lists of keys as one: its keys are those of both, and at each key it has what the two have there together.
use Rattle.std.proofs.Common.{◌≡◌, ℕ, Bool, true, false, ◌||◌, cond, List, [], ◌∷◌, map, Option, Some, None, unwrap_or, refl, sym, ◌∙◌, ap, true≢false, Ordering, Less, Equal, Greater, is_lt, is_eq}
use Rattle.std.specs.Ordering.{match_ordering}
use Rattle.std.specs.List.{list_all}
use Rattle.std.specs.Map.{keys_of, lookup}
use Rattle.std.proofs.lemmas.Bool.{and_parts, and_from}
use Rattle.pgs_base.specs.Order.{ascends}
use Rattle.pgs_base.specs.Pair.{same_name}
use Rattle.pgs_syntax.proofs.Parts.{one_name}
use Rattle.pgs_conform.specs.declared.options.Options.{Options}
use Rattle.pgs_conform.specs.JoinedOptions.{free_options, joined_options, options_at}
use Rattle.pgs_product.specs.Merged.{united, united_with, of_first, of_second, of_both, merged_with, merged}
use Rattle.pgs_product.proofs.United.{name_cmp, same_of, after, before_all, ascends_united}

abbrev Keys : Type 0
Keys = List (List ℕ × Options)

not_less : (o : Ordering) → is_lt o ≡ true → is_eq o ≡ false
not_less Less h = refl
not_less Equal h = absurd (true≢false (sym h))
not_less Greater h = refl

-- a key below all others isn't among them
pub absent_below : {V : Type 0} (key : List ℕ) (entries : List (List ℕ × V)) → list_all (λ later. is_lt (name_cmp key later)) (keys_of entries) ≡ true →
    lookup (same_name key) entries ≡ None
absent_below key [] below = refl
absent_below key (entry ∷ entries) below =
    let parts = and_parts _ _ below in
    let other : same_name key entry.0 ≡ false = not_less (name_cmp key entry.0) parts.0 in
    ap (λ b. cond b (Some entry.1) (lookup (same_name key) entries)) other ∙ absent_below key entries parts.1

module _ (a b : Options) where
  keys_second : (ys : Keys) → keys_of (map (of_second a) ys) ≡ keys_of ys
  keys_second [] = refl
  keys_second (y ∷ ys) = ap (λ ks. y.0 ∷ ks) (keys_second ys)

  keys_with : (x : List ℕ × Options) (xs : Keys) (rest : Keys → Keys) → ((ys : Keys) → keys_of (rest ys) ≡ united (keys_of xs) (keys_of ys)) → (ys : Keys) →
      keys_of (merged_with a b x rest ys) ≡ united_with x.0 (united (keys_of xs)) (keys_of ys)
  keys_with x xs rest h [] = ap (λ ks. x.0 ∷ ks) (h [])
  keys_with x xs rest h (y ∷ ys) = by (name_cmp x.0 y.0) (keys_with x xs rest h ys)
    where
      by : (o : Ordering) → keys_of (merged_with a b x rest ys) ≡ united_with x.0 (united (keys_of xs)) (keys_of ys) →
          keys_of (match_ordering o (of_first b x ∷ rest (y ∷ ys)) (of_both x y ∷ rest ys) (of_second a y ∷ merged_with a b x rest ys))
          ≡ match_ordering o (x.0 ∷ united (keys_of xs) (y.0 ∷ keys_of ys)) (x.0 ∷ united (keys_of xs) (keys_of ys)) (y.0 ∷ united_with x.0 (united (keys_of xs)) (keys_of ys))
      by Less later = ap (λ ks. x.0 ∷ ks) (h (y ∷ ys))
      by Equal later = ap (λ ks. x.0 ∷ ks) (h ys)
      by Greater later = ap (λ ks. y.0 ∷ ks) later

  pub keys_merged : (xs ys : Keys) → keys_of (merged a b xs ys) ≡ united (keys_of xs) (keys_of ys)
  keys_merged [] ys = keys_second ys
  keys_merged (x ∷ xs) ys = keys_with x xs (merged a b xs) (keys_merged xs) ys

  pub ascends_merged : (xs ys : Keys) → ascends name_cmp (keys_of xs) ≡ true → ascends name_cmp (keys_of ys) ≡ true → ascends name_cmp (keys_of (merged a b xs ys)) ≡ true
  ascends_merged xs ys first second = ap (ascends name_cmp) (keys_merged xs ys) ∙ ascends_united (keys_of xs) (keys_of ys) first second

  -- what is at a key of both together
  abbrev pub combined : Option Options → Option Options → Option Options
  combined None None = None
  combined (Some x) None = Some (joined_options x b)
  combined None (Some y) = Some (joined_options a y)
  combined (Some x) (Some y) = Some (joined_options x y)

  module _ (k : List ℕ) where
    abbrev at : Keys → Option Options
    at keys = lookup (same_name k) keys

    at_second : (ys : Keys) → at (map (of_second a) ys) ≡ combined None (at ys)
    at_second [] = refl
    at_second (y ∷ ys) = by (same_name k y.0) (at_second ys)
      where
        by : (s : Bool) → at (map (of_second a) ys) ≡ combined None (at ys) →
            cond s (Some (joined_options a y.1)) (at (map (of_second a) ys)) ≡ combined None (cond s (Some y.1) (at ys))
        by true h = refl
        by false h = h

    at_with : (x : List ℕ × Options) (xs : Keys) (rest : Keys → Keys) → ascends name_cmp (x.0 ∷ keys_of xs) ≡ true →
        ((ys : Keys) → ascends name_cmp (keys_of ys) ≡ true → at (rest ys) ≡ combined (at xs) (at ys)) →
        (ys : Keys) → ascends name_cmp (keys_of ys) ≡ true → at (merged_with a b x rest ys) ≡ combined (at (x ∷ xs)) (at ys)
    at_with x xs rest first h [] second = by (same_name k x.0) (h [] refl)
      where
        by : (s : Bool) → at (rest []) ≡ combined (at xs) None → cond s (Some (joined_options x.1 b)) (at (rest [])) ≡ combined (cond s (Some x.1) (at xs)) None
        by true e = refl
        by false e = e
    at_with x xs rest first h (y ∷ ys) second = by (name_cmp x.0 y.0) refl (at_with x xs rest first h ys (and_parts _ _ second).1)
      where
        in_first : (s : Bool) → same_name k x.0 ≡ s → name_cmp x.0 y.0 ≡ Less →
            cond s (Some (joined_options x.1 b)) (at (rest (y ∷ ys))) ≡ combined (cond s (Some x.1) (at xs)) (at (y ∷ ys))
        in_first true same e =
            let below = and_from _ _ (ap is_lt e) (before_all x.0 y.0 (keys_of ys) e (and_parts _ _ second).0) in
            let none : at (y ∷ ys) ≡ None = ap (λ key. lookup (same_name key) (y ∷ ys)) (one_name k x.0 same) ∙ absent_below x.0 (y ∷ ys) below in
            ap (combined (Some x.1)) (sym none)
        in_first false other e = h (y ∷ ys) second

        in_both : (s : Bool) → same_name k x.0 ≡ s → name_cmp x.0 y.0 ≡ Equal →
            cond s (Some (joined_options x.1 y.1)) (at (rest ys)) ≡ combined (cond s (Some x.1) (at xs)) (cond (same_name k y.0) (Some y.1) (at ys))
        in_both s same e = ap (λ t. cond s (Some (joined_options x.1 y.1)) (at (rest ys))) same ∙ split s ∙ ap (λ t. combined (cond s (Some x.1) (at xs)) (cond t (Some y.1) (at ys))) (sym same ∙ ap (same_name k) (same_of x.0 y.0 e))
          where
            split : (t : Bool) → cond t (Some (joined_options x.1 y.1)) (at (rest ys)) ≡ combined (cond t (Some x.1) (at xs)) (cond t (Some y.1) (at ys))
            split true = refl
            split false = h ys (and_parts _ _ second).1

        in_second : (s : Bool) → same_name k y.0 ≡ s → name_cmp x.0 y.0 ≡ Greater → at (merged_with a b x rest ys) ≡ combined (at (x ∷ xs)) (at ys) →
            cond s (Some (joined_options a y.1)) (at (merged_with a b x rest ys)) ≡ combined (at (x ∷ xs)) (cond s (Some y.1) (at ys))
        in_second true same e later =
            let own = after x.0 y.0 e in
            let above = and_from _ _ (ap is_lt own) (before_all y.0 x.0 (keys_of xs) own (and_parts _ _ first).0) in
            let none : at (x ∷ xs) ≡ None = ap (λ key. lookup (same_name key) (x ∷ xs)) (one_name k y.0 same) ∙ absent_below y.0 (x ∷ xs) above in
            ap (λ o. combined o (Some y.1)) (sym none)
        in_second false other e later = later

        by : (o : Ordering) → name_cmp x.0 y.0 ≡ o → at (merged_with a b x rest ys) ≡ combined (at (x ∷ xs)) (at ys) →
            at (match_ordering o (of_first b x ∷ rest (y ∷ ys)) (of_both x y ∷ rest ys) (of_second a y ∷ merged_with a b x rest ys)) ≡ combined (at (x ∷ xs)) (at (y ∷ ys))
        by Less e later = in_first (same_name k x.0) refl e
        by Equal e later = in_both (same_name k x.0) refl e
        by Greater e later = in_second (same_name k y.0) refl e later

    pub at_merged : (xs ys : Keys) → ascends name_cmp (keys_of xs) ≡ true → ascends name_cmp (keys_of ys) ≡ true → at (merged a b xs ys) ≡ combined (at xs) (at ys)
    at_merged [] ys first second = at_second ys
    at_merged (x ∷ xs) ys first second = at_with x xs (merged a b xs) first (λ zs all. at_merged xs zs (and_parts _ _ first).1 all) ys second

free_joined : (m n : Bool) → free_options (m || n) ≡ joined_options (free_options m) (free_options n)
free_joined true true = refl
free_joined true false = refl
free_joined false true = refl
free_joined false false = refl

-- what may stand at any key of a join
pub options_merged : (m n : Bool) (xs ys : Keys) (k : List ℕ) → ascends name_cmp (keys_of xs) ≡ true → ascends name_cmp (keys_of ys) ≡ true →
    options_at (merged (free_options m) (free_options n) xs ys) (m || n) k ≡ joined_options (options_at xs m k) (options_at ys n k)
options_merged m n xs ys k first second =
    ap (λ o. unwrap_or o (free_options (m || n))) (at_merged (free_options m) (free_options n) k xs ys first second)
    ∙ by (lookup (same_name k) xs) (lookup (same_name k) ys)
  where
    by : (x y : Option Options) → unwrap_or (combined (free_options m) (free_options n) x y) (free_options (m || n))
        ≡ joined_options (unwrap_or x (free_options m)) (unwrap_or y (free_options n))
    by None None = free_joined m n
    by (Some x) None = refl
    by None (Some y) = refl
    by (Some x) (Some y) = refl
