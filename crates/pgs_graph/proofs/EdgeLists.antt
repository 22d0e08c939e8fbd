-- The list of the edges at a node, and what a change of an edge makes of it.
use Rattle.std.proofs.Common.{◌≡◌, Bool, true, false, cond, ◌||◌, List, [], ◌∷◌, Option, Some, refl, sym, ap, ◌∙◌, Ordering, Less}
use Rattle.std.specs.Cmp.{Equal-is}
use Rattle.std.specs.List.{AllByRecursion, filter, list_any}
use Rattle.std.specs.List.Sorted.{IsStrictlySortedBy}
use Rattle.std.specs.Map.{keys_of, lookup}
use Rattle.std.specs.BTreeMap.{is_at}
use Rattle.pgs_base.specs.declared.element.NodeId.{NodeId}
use Rattle.pgs_base.specs.declared.element.EdgeId.{EdgeId}
use Rattle.pgs_base.specs.declared.row.EdgeRow.{EdgeRow}
use Rattle.pgs_base.specs.Graph.{edge_cmp}
use Rattle.pgs_base.proofs.Ascending.{ascending-insert_key, ascending-remove_key}
use Rattle.pgs_base.proofs.Lookups.{any-insert_key, any-remove_key, same_keys}
use Rattle.pgs_graph.specs.declared.scan.End.{End}
use Rattle.pgs_graph.specs.Changed.{entry_changed}
use Rattle.pgs_graph.specs.Lists.{list_edited, has_end, edited_with}
use Rattle.pgs_graph.specs.Reads.{ends_at, edges_with}
use Rattle.pgs_graph.proofs.Deltas.{edge_cmp_total, exact_edge, absent_below, ascending-entry_changed, lookup-entry_changed}

module _ {K V : Type 0} (cmp : K → K → Ordering) (p : K × V → Bool) where
  below_filter : (k : K) (es : List (K × V)) → AllByRecursion (λ y. cmp k y ≡ Less) (keys_of es) → AllByRecursion (λ y. cmp k y ≡ Less) (keys_of (filter p es))
  below_filter k [] below = tt
  below_filter k (e ∷ es) below = by (p e) (below_filter k es below.1)
    where
      by : (b : Bool) → AllByRecursion (λ y. cmp k y ≡ Less) (keys_of (filter p es)) → AllByRecursion (λ y. cmp k y ≡ Less) (keys_of (cond b (e ∷ filter p es) (filter p es)))
      by true rest = (below.0, rest)
      by false rest = rest

  -- the keys of the entries that a filter keeps ascend
  ascending-filter : (es : List (K × V)) → IsStrictlySortedBy cmp (keys_of es) → IsStrictlySortedBy cmp (keys_of (filter p es))
  unfolding IsStrictlySortedBy
  ascending-filter [] sorted = tt
  ascending-filter (e ∷ es) sorted = by (p e) (ascending-filter es sorted.1)
    where
      by : (b : Bool) → IsStrictlySortedBy cmp (keys_of (filter p es)) → IsStrictlySortedBy cmp (keys_of (cond b (e ∷ filter p es) (filter p es)))
      by true rest = (below_filter e.0 es sorted.0, rest)
      by false rest = rest

module _ (end : End) (q : NodeId) where
  pub ascending-edges_with : (es : List (EdgeId × EdgeRow)) → IsStrictlySortedBy edge_cmp (keys_of es) → IsStrictlySortedBy edge_cmp (edges_with end q es)
  ascending-edges_with es sorted = ascending-filter edge_cmp (ends_at end q) es sorted

  -- an edge is in the list exactly where it is there and has this end
  pub any-edges_with : (x : EdgeId) (es : List (EdgeId × EdgeRow)) → IsStrictlySortedBy edge_cmp (keys_of es) →
      list_any (is_at (edge_cmp x)) (edges_with end q es) ≡ has_end end q (lookup (is_at (edge_cmp x)) es)
  unfolding IsStrictlySortedBy
  any-edges_with x [] sorted = refl
  any-edges_with x (e ∷ es) sorted = by (any-edges_with x es sorted.1) (is_at (edge_cmp x) e.0) (ends_at end q e) refl refl
    where
      by : list_any (is_at (edge_cmp x)) (edges_with end q es) ≡ has_end end q (lookup (is_at (edge_cmp x)) es) → (t b : Bool) → is_at (edge_cmp x) e.0 ≡ t → ends_at end q e ≡ b →
          list_any (is_at (edge_cmp x)) (keys_of (cond b (e ∷ filter (ends_at end q) es) (filter (ends_at end q) es))) ≡ has_end end q (cond t (Some e.1) (lookup (is_at (edge_cmp x)) es))
      by rest true true tie is = rw (tie, is) refl
      by rest true false tie is =
          let absent = absent_below {W = EdgeRow} edge_cmp_total x e.0 ((Equal-is (edge_cmp x e.0)).0 tie) es sorted.0 in
          rest ∙ ap (has_end end q) absent ∙ sym is
      by rest false true tie is = rw tie rest
      by rest false false tie is = rest

  has_end_cond : (t : Bool) (w o : Option EdgeRow) → has_end end q (cond t w o) ≡ cond t (has_end end q w) (has_end end q o)
  has_end_cond true w o = refl
  has_end_cond false w o = refl

  module _ (es : List (EdgeId × EdgeRow)) (edge : EdgeId) (sorted : IsStrictlySortedBy edge_cmp (keys_of es)) where
    abbrev without_old : Bool → List EdgeId
    without_old had = cond had (list_edited false edge (edges_with end q es)) (edges_with end q es)

    ascending-without : (had : Bool) → IsStrictlySortedBy edge_cmp (without_old had)
    ascending-without true = ascending-remove_key edge_cmp_total (is_at (edge_cmp edge)) (edges_with end q es) (ascending-edges_with es sorted)
    ascending-without false = ascending-edges_with es sorted

    ascending-with : (had has : Bool) → IsStrictlySortedBy edge_cmp (cond has (list_edited true edge (without_old had)) (without_old had))
    ascending-with had true = ascending-insert_key edge_cmp_total edge (without_old had) (ascending-without had)
    ascending-with had false = ascending-without had

    any-without : (x : EdgeId) (had : Bool) → has_end end q (lookup (is_at (edge_cmp edge)) es) ≡ had →
        list_any (is_at (edge_cmp x)) (without_old had) ≡ cond (is_at (edge_cmp edge) x) false (has_end end q (lookup (is_at (edge_cmp x)) es))
    any-without x true had =
        any-remove_key edge_cmp_total x edge (edges_with end q es) (ascending-edges_with es sorted) ∙ ap (cond (is_at (edge_cmp edge) x) false) (any-edges_with x es sorted)
    any-without x false had = any-edges_with x es sorted ∙ by (is_at (edge_cmp edge) x) refl
      where
        by : (t : Bool) → is_at (edge_cmp edge) x ≡ t → has_end end q (lookup (is_at (edge_cmp x)) es) ≡ cond t false (has_end end q (lookup (is_at (edge_cmp x)) es))
        by true tie =
            let same : edge ≡ x = exact_edge edge x ((Equal-is (edge_cmp edge x)).0 tie) in
            ap (λ k. has_end end q (lookup (is_at (edge_cmp k)) es)) (sym same) ∙ had
        by false apart = refl

    any-with : (x : EdgeId) (had has : Bool) → has_end end q (lookup (is_at (edge_cmp edge)) es) ≡ had →
        list_any (is_at (edge_cmp x)) (cond has (list_edited true edge (without_old had)) (without_old had)) ≡ cond (is_at (edge_cmp edge) x) has (has_end end q (lookup (is_at (edge_cmp x)) es))
    any-with x had true is = any-insert_key edge_cmp_total x edge (without_old had) ∙ ap (λ b. is_at (edge_cmp edge) x || b) (any-without x had is) ∙ by (is_at (edge_cmp edge) x)
      where
        by : (t : Bool) → (t || cond t false (has_end end q (lookup (is_at (edge_cmp x)) es))) ≡ cond t true (has_end end q (lookup (is_at (edge_cmp x)) es))
        by true = refl
        by false = refl
    any-with x had false is = any-without x had is

    -- a changed edge taken out of the list where it was in it, and put in where it is
    pub edited-changed : (new : Option EdgeRow) →
        edited_with end q true edge new (edited_with end q false edge (lookup (is_at (edge_cmp edge)) es) (edges_with end q es)) ≡ edges_with end q (entry_changed edge_cmp es edge new)
    edited-changed new =
        let had = has_end end q (lookup (is_at (edge_cmp edge)) es) in
        same_keys edge_cmp_total exact_edge (edited_with end q true edge new (without_old had)) (edges_with end q (entry_changed edge_cmp es edge new))
        (ascending-with had (has_end end q new)) (ascending-edges_with (entry_changed edge_cmp es edge new) (ascending-entry_changed edge_cmp_total edge new es sorted))
        (λ x. any-with x had (has_end end q new) refl ∙ sym (has_end_cond (is_at (edge_cmp edge) x) new (lookup (is_at (edge_cmp x)) es))
        ∙ ap (has_end end q) (sym (lookup-entry_changed edge_cmp_total x edge new es sorted))
        ∙ sym (any-edges_with x (entry_changed edge_cmp es edge new) (ascending-entry_changed edge_cmp_total edge new es sorted)))
