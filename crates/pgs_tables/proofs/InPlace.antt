-- What stands at each number once a slot was changed where it is.
use Rattle.std.proofs.Common.{◌≡◌, ◌∙◌, ◌+◌, ◌≤◌, Bool, true, false, cond, List, length, Option, Some, None, IsSome, is_some, refl, sym, ap, Ordering, is_eq, true≢false, arith}
use Rattle.std.specs.Cmp.{IsTotalOrder, Equal-is}
use Rattle.std.specs.Option.{option_flatten}
use Rattle.std.specs.List.{IsDistinct}
use Rattle.std.specs.Map.{keys_of, lookup, set_value}
use Rattle.std.specs.BTreeMap.{is_at}
use Rattle.std.proofs.lemmas.Map.Lookups.{CmpEqualImpliesEq}
use Rattle.pgs_base.specs.declared.row.NodeRow.{NodeRow}
use Rattle.pgs_tables.specs.declared.node_edges.NodeEdges.{NodeEdges}
use Rattle.pgs_tables.specs.declared.node_edges.NodeTable.{NodeTable}
use Rattle.pgs_tables.specs.Commits.{row_changed, relinked}
use Rattle.pgs_tables.specs.Slots.{by_key, present, row_count}
use Rattle.pgs_graph.specs.Changed.{entry_changed}
use Rattle.pgs_tables.proofs.Rows.{row-found, rows-put, rows-taken, lookup-changed, ascending-rows, set_value_absent, count-set_value}

pub one-row : {V : Type 0} (o : Option V) → row_count o ≤ 1
one-row None = omega arith
one-row (Some v) = omega arith

-- how many rows there are after a change of a slot
pub count-change : {K V : Type 0} (test : K → Bool) (es : List (K × Option V)) (new : Option V) → IsSome (lookup test es) →
    length (present (set_value test es new)) + row_count (option_flatten (lookup test es)) ≡ length (present es) + row_count new
count-change {K} {V} test es new there = by (lookup test es) refl
  where
    by : (o : Option (Option V)) → lookup test es ≡ o → length (present (set_value test es new)) + row_count (option_flatten o) ≡ length (present es) + row_count new
    by None none = absurd (true≢false (sym there ∙ ap is_some none))
    by (Some old) has = count-set_value test es old new has

module _ {K V : Type 0} {eq : K → K → Bool} {cmp : K → K → Ordering} (total : IsTotalOrder cmp) (ties : (x y : K) → eq x y ≡ is_eq (cmp x y)) (exact : CmpEqualImpliesEq cmp) where
  rows-set : (k : K) (w : Option V) (es : List (K × Option V)) → IsDistinct eq (keys_of es) → IsSome (lookup (eq k) es) →
      by_key cmp (present (set_value (eq k) es w)) ≡ entry_changed cmp (by_key cmp (present es)) k w
  rows-set k None es distinct there = rows-taken total ties exact k es distinct
  rows-set k (Some v) es distinct there = rows-put total ties exact k v es distinct there

  -- what stands at one key for what stood there
  at_key : (f : Option V → Option V) (k q : K) (was : K → Option V) (put : Option V) → f (was k) ≡ put → (b : Bool) → is_at (cmp k) q ≡ b →
      cond b put (was q) ≡ cond b (f (was q)) (was q)
  at_key f k q was put is true tie =
      let same : k ≡ q = exact k q ((Equal-is (cmp k q)).0 tie) in
      sym is ∙ ap (λ n. f (was n)) same
  at_key f k q was put is false apart = refl

  own : (b : Bool) (was : Option V) → cond b was was ≡ was
  own true was = refl
  own false was = refl

  module _ (f : Option V → Option V) (k q : K) (es : List (K × Option V)) (distinct : IsDistinct eq (keys_of es)) where
    abbrev was : K → Option V
    was n = lookup (is_at (cmp n)) (by_key cmp (present es))

    abbrev put : Option V
    put = f (option_flatten (lookup (eq k) es))

    put_is : f (was k) ≡ put
    put_is = ap f (row-found total ties k es distinct)

    -- a slot that is there
    pub looked-changed : IsSome (lookup (eq k) es) → lookup (is_at (cmp q)) (by_key cmp (present (set_value (eq k) es put))) ≡ cond (is_at (cmp k) q) (f (was q)) (was q)
    looked-changed there =
        ap (lookup (is_at (cmp q))) (rows-set k put es distinct there)
        ∙ lookup-changed total q k put (by_key cmp (present es)) (ascending-rows total ties es)
        ∙ at_key f k q was put put_is (is_at (cmp k) q) refl

    -- none, where none stays none
    looked-absent : f None ≡ None → lookup (eq k) es ≡ None → lookup (is_at (cmp q)) (by_key cmp (present (set_value (eq k) es put))) ≡ cond (is_at (cmp k) q) (f (was q)) (was q)
    looked-absent none absent = by (is_at (cmp k) q) refl
      where
        stays : lookup (is_at (cmp q)) (by_key cmp (present (set_value (eq k) es put))) ≡ was q
        stays = ap (λ l. lookup (is_at (cmp q)) (by_key cmp (present l))) (set_value_absent (eq k) es put absent)

        no_row : was k ≡ None
        no_row = row-found total ties k es distinct ∙ ap option_flatten absent

        by : (b : Bool) → is_at (cmp k) q ≡ b → lookup (is_at (cmp q)) (by_key cmp (present (set_value (eq k) es put))) ≡ cond b (f (was q)) (was q)
        by true tie =
            let same : k ≡ q = exact k q ((Equal-is (cmp k q)).0 tie) in
            let here : was q ≡ None = ap was (sym same) ∙ no_row in
            stays ∙ here ∙ sym none ∙ ap f (sym here)
        by false apart = stays

    pub looked-edited : f None ≡ None → lookup (is_at (cmp q)) (by_key cmp (present (set_value (eq k) es put))) ≡ cond (is_at (cmp k) q) (f (was q)) (was q)
    looked-edited none = by (lookup (eq k) es) refl
      where
        by : (o : Option (Option V)) → lookup (eq k) es ≡ o → lookup (is_at (cmp q)) (by_key cmp (present (set_value (eq k) es put))) ≡ cond (is_at (cmp k) q) (f (was q)) (was q)
        by None absent = looked-absent none absent
        by (Some slot) there = looked-changed (ap is_some there)

-- as many rows as before
same_count : (edges : NodeEdges) (o : Option NodeTable) → row_count (relinked edges o) ≡ row_count o
same_count edges None = refl
same_count edges (Some table) = refl

pub changed_count : (row : Option NodeRow) (o : Option NodeTable) → row_count (row_changed row o) ≡ row_count row
changed_count None o = refl
changed_count (Some row) o = refl

pub count-relinked : {K : Type 0} (test : K → Bool) (edges : NodeEdges) (es : List (K × Option NodeTable)) →
    length (present (set_value test es (relinked edges (option_flatten (lookup test es))))) ≡ length (present es)
count-relinked test edges es = by (lookup test es) refl
  where
    by : (o : Option (Option NodeTable)) → lookup test es ≡ o → length (present (set_value test es (relinked edges (option_flatten (lookup test es))))) ≡ length (present es)
    by None none = ap (λ l. length (present l)) (set_value_absent test es (relinked edges (option_flatten (lookup test es))) none)
    by (Some slot) there =
        let new = relinked edges (option_flatten (lookup test es)) in
        let counted = count-change test es new (ap is_some there) in
        let same : row_count new ≡ row_count (option_flatten (lookup test es)) = same_count edges (option_flatten (lookup test es)) in
        omega (arith, counted, same)
