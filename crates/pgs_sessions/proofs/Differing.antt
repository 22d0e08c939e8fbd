-- Exactly the elements that a sound delta leaves otherwise are listed.
use Rattle.std.proofs.Common.{◌≡◌, ℕ, Bool, ◌||◌, true, false, not, cond, List, [], ◌∷◌, ◌++◌, Option, Some, None, refl, sym, ap, ◌∙◌, Ordering}
use Rattle.std.specs.Prelude.{if◌then◌else◌}
use Rattle.std.specs.Cmp.{IsTotalOrder, Equal-is, eq_by_cmp_equiv}
use Rattle.std.specs.List.{list_any}
use Rattle.std.specs.List.Sorted.{IsStrictlySortedBy}
use Rattle.std.specs.Map.{keys_of, lookup}
use Rattle.std.specs.BTreeMap.{is_at}
use Rattle.std.proofs.lemmas.Bool.{and_from, eq-eqb}
use Rattle.std.proofs.lemmas.Map.Lookups.{CmpEqualImpliesEq}
use Rattle.pgs_base.specs.declared.element.NodeId.{NodeId}
use Rattle.pgs_base.specs.declared.element.EdgeId.{EdgeId}
use Rattle.pgs_base.specs.declared.element.Elem.{Elem}
use Rattle.pgs_base.specs.declared.element.Elem.TheVariants as elems
use Rattle.pgs_base.specs.declared.row.NodeRow.{NodeRow}
use Rattle.pgs_base.specs.declared.row.EdgeRow.{EdgeRow}
use Rattle.pgs_base.specs.declared.value.Value.{Value}
use Rattle.pgs_base.specs.Graph.{Graph, node_at, edge_at, is_graph}
use Rattle.pgs_base.specs.Order.{elem_cmp}
use Rattle.pgs_base.specs.OrderLaws.{props_eq_decides, labels_eq_decides}
use Rattle.pgs_graph.specs.declared.delta.Delta.{Delta}
use Rattle.pgs_graph.specs.Changed.{changed, is_sound, after_changes}
use Rattle.pgs_graph.proofs.Deltas.{absent_below, exact_node, exact_edge, node_cmp_total, edge_cmp_total, ascending_changed_nodes, ascending_changed_edges, node_after, edge_after}
use Rattle.pgs_sessions_machine.specs.declared.event.Content.{Content}
use Rattle.pgs_sessions_machine.specs.declared.event.Content.TheVariants.{Absent, Node, Edge}
use Rattle.pgs_sessions_machine.specs.Content.{content_of, carries_same, is_same_content, is_kept}
use Rattle.pgs_sessions.specs.Changes.{number_after}
use Rattle.pgs_sessions.specs.Differing.{node_content, edge_content, differing_by, differing_nodes, differing_edges, differing}

-- ---- each content is the same as itself

carries_itself : (labels : List (List ℕ)) (props : List (List ℕ × Value)) → carries_same labels props labels props ≡ true
carries_itself labels props = and_from _ _ ((labels_eq_decides labels labels).1 refl) ((props_eq_decides props props).1 refl)

pub same_itself : (content : Content) → is_same_content content content ≡ true
same_itself Absent = refl
same_itself (Node row) = carries_itself row.labels row.props
same_itself (Edge row) =
    and_from _ _ (and_from _ _ (eq-eqb row.source.0 row.source.0 refl) (eq-eqb row.target.0 row.target.0 refl)) (carries_itself row.labels row.props)

-- ---- changes by ascending key

abbrev is_elem : Elem → Elem → Bool
is_elem q e = is_at (elem_cmp e) q

module _ {K V : Type 0} {cmp : K → K → Ordering} (total : IsTotalOrder cmp) (exact : CmpEqualImpliesEq cmp) (elem_of : K → Elem)
    (told : (k q : K) → is_at (elem_cmp (elem_of k)) (elem_of q) ≡ is_at (cmp k) q) (row_at : K → Option V) (content : Option V → Content) (q : K) where
  abbrev held : K → Content
  held k = content (row_at k)

  abbrev left : List (K × Option V) → Content
  left changes = content (after_changes (lookup (is_at (cmp q)) changes) (row_at q))

  abbrev listed : List (K × Option V) → Bool
  listed changes = list_any (is_elem (elem_of q)) (differing_by elem_of held content changes)

  exactly : (changes : List (K × Option V)) → IsStrictlySortedBy cmp (keys_of changes) → listed changes ≡ not (is_same_content (held q) (left changes))
  unfolding IsStrictlySortedBy
  exactly [] sorted = ap not (sym (same_itself (held q)))
  exactly (change ∷ changes) sorted = by (exactly changes sorted.1) (is_at (cmp q) change.0) refl
    where
      turned : is_at (cmp change.0) q ≡ is_at (cmp q) change.0
      turned = (eq_by_cmp_equiv total).symm change.0 q

      first : is_elem (elem_of q) (elem_of change.0) ≡ is_at (cmp q) change.0
      first = told change.0 q ∙ turned

      either : (here there : Bool) (rest : Bool) → rest ≡ there → (same : Bool) →
          list_any (is_elem (elem_of q)) (differing_by elem_of held content changes) ≡ rest →
          is_elem (elem_of q) (elem_of change.0) ≡ here →
          list_any (is_elem (elem_of q)) (if same then differing_by elem_of held content changes else elem_of change.0 ∷ differing_by elem_of held content changes)
          ≡ cond same rest (here || rest)
      either here there rest e true is own = is
      either here there rest e false is own = rw (own, is) refl

      by : listed changes ≡ not (is_same_content (held q) (left changes)) → (at : Bool) → is_at (cmp q) change.0 ≡ at →
          listed (change ∷ changes) ≡ not (is_same_content (held q) (content (after_changes (cond at (Some change.1) (lookup (is_at (cmp q)) changes)) (row_at q))))
      by rest true at =
          let equal = (Equal-is (cmp q change.0)).0 at in
          let same : q ≡ change.0 = exact q change.0 equal in
          let none : lookup (is_at (cmp q)) changes ≡ None = absent_below total q change.0 equal changes sorted.0 in
          let nothing : listed changes ≡ false =
          rest ∙ ap (λ (o : Option (Option V)). not (is_same_content (held q) (content (after_changes o (row_at q))))) none ∙ ap not (same_itself (held q)) in
          either true false false refl (is_same_content (held change.0) (content change.1)) nothing (first ∙ at)
          ∙ plain (is_same_content (held change.0) (content change.1))
          ∙ ap (λ (k : K). not (is_same_content (held k) (content change.1))) (sym same)
        where
          plain : (same : Bool) → cond same false (true || false) ≡ not same
          plain true = refl
          plain false = refl
      by rest false at =
          either false (listed changes) (listed changes) refl (is_same_content (held change.0) (content change.1)) refl (first ∙ at)
          ∙ plain (is_same_content (held change.0) (content change.1)) (listed changes) ∙ rest
        where
          plain : (same rest : Bool) → cond same rest (false || rest) ≡ rest
          plain true rest = refl
          plain false rest = refl

-- elements of the other kind
module _ {K V : Type 0} (elem_of : K → Elem) (held : K → Content) (content : Option V → Content) (q : Elem) (apart : (k : K) → is_elem q (elem_of k) ≡ false) where
  none_listed : (changes : List (K × Option V)) → list_any (is_elem q) (differing_by elem_of held content changes) ≡ false
  none_listed [] = refl
  none_listed (change ∷ changes) = by (none_listed changes) (is_same_content (held change.0) (content change.1))
    where
      by : list_any (is_elem q) (differing_by elem_of held content changes) ≡ false → (same : Bool) →
          list_any (is_elem q) (if same then differing_by elem_of held content changes else elem_of change.0 ∷ differing_by elem_of held content changes) ≡ false
      by rest true = rest
      by rest false = rw (apart change.0) rest

any-append : (test : Elem → Bool) (xs ys : List Elem) → list_any test (xs ++ ys) ≡ (list_any test xs || list_any test ys)
any-append test [] ys = refl
any-append test (x ∷ xs) ys = by (test x) (any-append test xs ys)
  where
    by : (b : Bool) → list_any test (xs ++ ys) ≡ (list_any test xs || list_any test ys) →
        (b || list_any test (xs ++ ys)) ≡ ((b || list_any test xs) || list_any test ys)
    by true rest = refl
    by false rest = rest

or_none : (b : Bool) → (b || false) ≡ b
or_none true = refl
or_none false = refl

-- ---- of a delta

pub kept_listed : (g : Graph) (delta : Delta) (q : Elem) → is_graph g ≡ true → is_sound g delta ≡ true →
    list_any (is_elem q) (differing g delta) ≡ not (is_kept g (changed g delta) q)
kept_listed g delta (elems.Node id) graph sound =
    any-append (is_elem (elems.Node id)) (differing_nodes g delta.nodes) (differing_edges g delta.edges)
    ∙ ap (λ (b : Bool). list_any (is_elem (elems.Node id)) (differing_nodes g delta.nodes) || b)
    (none_listed elems.Edge (λ (k : EdgeId). content_of g (elems.Edge k)) edge_content (elems.Node id) (λ k. refl) delta.edges)
    ∙ or_none (list_any (is_elem (elems.Node id)) (differing_nodes g delta.nodes))
    ∙ exactly node_cmp_total exact_node elems.Node (λ k q. refl) (node_at g) node_content id delta.nodes (ascending_changed_nodes g delta sound)
    ∙ ap (λ (row : Option NodeRow). not (is_same_content (content_of g (elems.Node id)) (node_content row))) (sym (node_after g delta id graph sound))
kept_listed g delta (elems.Edge id) graph sound =
    any-append (is_elem (elems.Edge id)) (differing_nodes g delta.nodes) (differing_edges g delta.edges)
    ∙ ap (λ (b : Bool). b || list_any (is_elem (elems.Edge id)) (differing_edges g delta.edges))
    (none_listed elems.Node (λ (k : NodeId). content_of g (elems.Node k)) node_content (elems.Edge id) (λ k. refl) delta.nodes)
    ∙ exactly edge_cmp_total exact_edge elems.Edge (λ k q. refl) (edge_at g) edge_content id delta.edges (ascending_changed_edges g delta sound)
    ∙ ap (λ (row : Option EdgeRow). not (is_same_content (content_of g (elems.Edge id)) (edge_content row))) (sym (edge_after g delta id graph sound))

number_any : (commit : ℕ) (q : Elem) (es : List Elem) (old : Option ℕ) → number_after commit q old es ≡ if list_any (is_elem q) es then Some commit else old
number_any commit q [] old = refl
number_any commit q (e ∷ es) old = number_any commit q es (if is_at (elem_cmp e) q then Some commit else old) ∙ by (is_at (elem_cmp e) q) (list_any (is_elem q) es)
  where
    by : (here there : Bool) → (if there then Some commit else (if here then Some commit else old)) ≡ (if here || there then Some commit else old)
    by true true = refl
    by true false = refl
    by false true = refl
    by false false = refl

-- the numbers that are kept after the commit of a sound delta
pub number_kept : (g : Graph) (delta : Delta) (commit : ℕ) (q : Elem) (old : Option ℕ) → is_graph g ≡ true → is_sound g delta ≡ true →
    number_after commit q old (differing g delta) ≡ if is_kept g (changed g delta) q then old else Some commit
number_kept g delta commit q old graph sound =
    number_any commit q (differing g delta) old ∙ ap (λ (b : Bool). if b then Some commit else old) (kept_listed g delta q graph sound) ∙ by (is_kept g (changed g delta) q)
  where
    by : (b : Bool) → (if not b then Some commit else old) ≡ (if b then old else Some commit)
    by true = refl
    by false = refl
