-- A kept key has the same scope and the same key values under both schemas, and what it finds under the new one, the old key finds under
-- the old one.
use Rattle.std.proofs.Common.{◌≡◌, ℕ, zero, suc, ◌≤◌, Bool, true, false, cond, ◌&&◌, ◌||◌, ◌==◌, not, ⊎_elim, List, [], ◌∷◌, ◌++◌, Option, Some, None, slice_get, refl, sym, subst, ap, ap₂, ◌∙◌, arith}
use Rattle.std.specs.Prelude.{Contains, filter, filter_map, option_map, option_and_then}
use Rattle.std.specs.Cmp.{Equal-is}
use Rattle.std.specs.Cmp.Lexicographic.{pointwise}
use Rattle.std.specs.List.{list_any, list_all, cons_option}
use Rattle.std.specs.Option.{option_map_or}
use Rattle.std.proofs.lemmas.Bool.{and_parts, eqb-true, leb-true}
use Rattle.std.proofs.lemmas.Bool.Decides.{nat_tests}
use Rattle.pgs_base.specs.declared.element.Elem.{Elem}
use Rattle.pgs_base.specs.declared.element.Elem.TheVariants.{Node, Edge}
use Rattle.pgs_base.specs.declared.part.Part.{Part}
use Rattle.pgs_base.specs.declared.row.NodeRow.{NodeRow}
use Rattle.pgs_base.specs.declared.value.Value.{Value}
use Rattle.pgs_base.specs.Graph.{Graph, node_at, edge_at}
use Rattle.pgs_base.specs.Order.{value_cmp}
use Rattle.pgs_base.specs.OrderLaws.{exact_value}
use Rattle.pgs_base.specs.Pair.{has_name, value_at}
use Rattle.pgs_syntax.specs.declared.key.Key.{Key}
use Rattle.pgs_syntax.specs.declared.key.Qualifiers.{Qualifiers}
use Rattle.pgs_syntax.specs.declared.pattern.Atom.{Atom}
use Rattle.pgs_syntax.specs.declared.pattern.Atom.TheVariants.{Ends, HasLabel, FitsNode, FitsEdge, Equals}
use Rattle.pgs_syntax.specs.declared.pattern.Expr.{Expr}
use Rattle.pgs_syntax.specs.declared.pattern.Expr.TheVariants.{Element, Property}
use Rattle.pgs_syntax.specs.declared.pattern.Pattern.{Pattern}
use Rattle.pgs_syntax.specs.declared.resolved.Resolved.{Resolved}
use Rattle.pgs_syntax.specs.Join.{PairTriple}
use Rattle.pgs_syntax.specs.KeyValues.{scope_of, key_values, starts_at, tuple_of, as_set}
use Rattle.pgs_syntax.specs.Matches.{holds, matches, assignments, elements, carries, leads, is_node_of_type, is_edge_of_type, same_value}
use Rattle.pgs_syntax.specs.Typed.{triple_at}
use Rattle.pgs_syntax.specs.Valid.{are_one_kind}
use Rattle.pgs_syntax.proofs.Members.{contains_first, contains_later, contains_cases, contains_none}
use Rattle.pgs_syntax.proofs.Parts.{one_name}
use Rattle.pgs_violation.specs.declared.violation.Violation.{Violation}
use Rattle.pgs_violation.specs.declared.violation.Violation.TheVariants.{Singleton, Exclusive}
use Rattle.pgs_violation.specs.Violations.{two_least, sharing, shared_tuple, is_within}
use Rattle.pgs_schema_changes.specs.AsksNoMore.{same_atom, names_alike, same_pattern, patterns_alike, same_expr, same_key, keys_alike, counts_no_more, keeps}
use Rattle.pgs_schema_changes.specs.Unfolded.{node_tree, edge_tree, same_tree}
use Rattle.pgs_schema_changes.proofs.Alike.{one_kind, one_by_one, alike_nodes, alike_edges}

-- ---- a place in a list

pub at_place : {X : Type 0} (xs : List X) (place : ℕ) (x : X) → slice_get xs place ≡ Some x → Contains xs x
at_place [] place x at = cc
at_place (y ∷ ys) zero x at = let same : y ≡ x = cc in (0, omega arith, same)
at_place (y ∷ ys) (suc place) x at = contains_later y ys x (at_place ys place x at)

pub has_place : {X : Type 0} (xs : List X) (x : X) → Contains xs x → (place : ℕ) × (slice_get xs place ≡ Some x)
has_place [] x there = absurd (contains_none x there)
has_place (y ∷ ys) x there =
    ⊎_elim (λ same. (0, ap Some same)) (λ later. let rest = has_place ys x later in (suc rest.0, rest.1)) (contains_cases y ys x there)

-- ---- a kept key

-- some item passes a test
pub some_item : {X : Type 0} (test : X → Bool) (xs : List X) → list_any test xs ≡ true → (x : X) × Contains xs x × (test x ≡ true)
some_item test [] some = cc
some_item {X} test (x ∷ xs) some = by (test x) refl some (some_item test xs)
  where
    by : (b : Bool) → test x ≡ b → (b || list_any test xs) ≡ true → (list_any test xs ≡ true → (y : X) × Contains xs y × (test y ≡ true)) → (y : X) × Contains (x ∷ xs) y × (test y ≡ true)
    by true is any rest = (x, contains_first x xs, is)
    by false is any rest = let later = rest any in (later.0, contains_later x xs later.0 later.1, later.2)

-- an item passes the test that all items pass
pub each_item : {X : Type 0} (test : X → Bool) (xs : List X) (x : X) → list_all test xs ≡ true → Contains xs x → test x ≡ true
each_item test [] x all there = absurd (contains_none x there)
each_item test (y ∷ ys) x all there =
    let parts = and_parts _ _ all in
    ⊎_elim (λ same. ap test (sym same) ∙ parts.0) (λ later. each_item test ys x parts.1 later) (contains_cases y ys x there)

-- ---- the same matches

value_is : (a b : Value) → same_value a b ≡ true → a ≡ b
value_is a b h = exact_value a b ((Equal-is (value_cmp a b)).0 h)

module _ (old new : Resolved) (g : Graph) where
  node_same : (own number : ℕ) → same_tree (node_tree old own) (node_tree new number) ≡ true → (elem : Elem) → is_node_of_type new g number elem ≡ is_node_of_type old g own elem
  node_same own number alike (Node id) =
      ap (λ (test : NodeRow → Bool). option_map_or test (node_at g id) false) (λ i p. alike_nodes old new own number alike p i)
  node_same own number alike (Edge id) = refl

  edge_same : (own number : ℕ) → same_tree (edge_tree old own) (edge_tree new number) ≡ true → (elem : Elem) → is_edge_of_type new g number elem ≡ is_edge_of_type old g own elem
  edge_same own number alike (Node id) = refl
  edge_same own number alike (Edge id) =
      ap (λ (test : PairTriple → Bool). option_map_or test (option_and_then (triple_at g) (edge_at g id)) false) (λ i t. alike_edges old new own number alike t i)

  -- a test of the element of a variable
  at_var : (var other : ℕ) (own number : Elem → Bool) → (var == other) ≡ true → ((elem : Elem) → number elem ≡ own elem) → (elems : List Elem)
      → option_map_or number (slice_get elems other) false ≡ option_map_or own (slice_get elems var) false
  at_var var other own number one same elems =
      ap (λ (v : ℕ). option_map_or number (slice_get elems v) false) (sym (eqb-true var other one)) ∙ ap (λ (test : Elem → Bool). option_map_or test (slice_get elems var) false) (λ i elem. same elem i)

  atom_same : (elems : List Elem) (own atom : Atom) → same_atom old new own atom ≡ true → names_alike old new own atom ≡ true → holds new g elems atom ≡ holds old g elems own
  atom_same elems (Ends edge source target) (Ends other from to) same alike =
      let parts = and_parts _ _ same in
      let front = and_parts _ _ parts.0 in
      let e = eqb-true edge other front.0 in
      let s = eqb-true source from front.1 in
      let t = eqb-true target to parts.1 in
      ap (λ (v : ℕ). leads g (slice_get elems v) (slice_get elems from) (slice_get elems to)) (sym e)
      ∙ ap₂ (λ (v : ℕ) (w : ℕ). leads g (slice_get elems edge) (slice_get elems v) (slice_get elems w)) (sym s) (sym t)
  atom_same elems (HasLabel var label) (HasLabel other name) same alike =
      let parts = and_parts _ _ same in
      ap₂ (λ (v : ℕ) (n : List ℕ). carries g elems v (λ own. has_name n own.labels)) (sym (eqb-true var other parts.0)) (sym (one_name label name parts.1))
  atom_same elems (FitsNode var own) (FitsNode other number) same alike =
      at_var var other (is_node_of_type old g own) (is_node_of_type new g number) (and_parts _ _ same).0 (node_same own number alike) elems
  atom_same elems (FitsEdge var own) (FitsEdge other number) same alike =
      at_var var other (is_edge_of_type old g own) (is_edge_of_type new g number) (and_parts _ _ same).0 (edge_same own number alike) elems
  atom_same elems (Equals var key value) (Equals other name wanted) same alike =
      let parts = and_parts _ _ same in
      let front = and_parts _ _ parts.0 in
      ap (λ (v : ℕ). carries g elems v (λ own. option_map_or (same_value wanted) (value_at name own.props) false)) (sym (eqb-true var other front.0))
      ∙ ap₂ (λ (n : List ℕ) (w : Value). carries g elems var (λ own. option_map_or (same_value w) (value_at n own.props) false)) (sym (one_name key name front.1)) (sym (value_is value wanted parts.1))
  atom_same elems own atom same alike = cc

  atoms_same : (elems : List Elem) (own atoms : List Atom) → pointwise (same_atom old new) own atoms ≡ true → pointwise (names_alike old new) own atoms ≡ true
      → list_all (holds new g elems) atoms ≡ list_all (holds old g elems) own
  atoms_same elems [] [] same alike = refl
  atoms_same elems [] (atom ∷ atoms) same alike = cc
  atoms_same elems (one ∷ own) [] same alike = cc
  atoms_same elems (one ∷ own) (atom ∷ atoms) same alike =
      let parts = and_parts _ _ same in
      let others = and_parts _ _ alike in
      ap₂ (λ a b. a && b) (atom_same elems one atom parts.0 others.0) (atoms_same elems own atoms parts.1 others.1)

  filter_same : (tests others : List Elem → Bool) → ((elems : List Elem) → tests elems ≡ others elems) → (xs : List (List Elem)) → filter tests xs ≡ filter others xs
  filter_same tests others same [] = refl
  filter_same tests others same (x ∷ xs) =
      ap₂ (λ (b : Bool) (ys : List (List Elem)). cond b (x ∷ ys) ys) (same x) (filter_same tests others same xs)

  matches_same : (own pattern : Pattern) → same_pattern old new own pattern ≡ true → patterns_alike old new own pattern ≡ true → matches new g pattern ≡ matches old g own
  matches_same own pattern same alike =
      let parts = and_parts _ _ same in
      filter_same (λ elems. list_all (holds new g elems) pattern.atoms) (λ elems. list_all (holds old g elems) own.atoms)
      (λ elems. atoms_same elems own.atoms pattern.atoms parts.1 alike) (assignments g pattern.edge_vars)
      ∙ ap (λ (vars : List Bool). filter (λ elems. list_all (holds old g elems) own.atoms) (assignments g vars)) (sym (one_by_one are_one_kind one_kind own.edge_vars pattern.edge_vars parts.0))

  one_expr : (a b : Expr) → same_expr a b ≡ true → a ≡ b
  one_expr (Element var) (Element other) same = ap Element (eqb-true var other same)
  one_expr (Property var key) (Property other name) same =
      let parts = and_parts _ _ same in ap₂ Property (eqb-true var other parts.0) (one_name key name parts.1)
  one_expr own expr same = cc

  module _ (own key : Key) (kept : keeps old new own key ≡ true) where
    abbrev same_keys : same_key old new own key ≡ true
    same_keys = (and_parts _ _ (and_parts _ _ kept).0).0

    abbrev alike_keys : keys_alike old new own key ≡ true
    alike_keys = (and_parts _ _ (and_parts _ _ kept).0).1

    pub scope_same : scope_of new g key ≡ scope_of old g own
    scope_same =
        ap (λ (ms : List (List Elem)). filter (λ elem. list_any (starts_at elem) ms) (elements g false ++ elements g true))
        (matches_same own.scope key.scope (and_parts _ _ (and_parts _ _ same_keys).0).0 (and_parts _ _ alike_keys).0)

    pub values_same : (elem : Elem) → key_values new g key elem ≡ key_values old g own elem
    values_same elem =
        ap₂ (λ (exprs : List Expr) (ms : List (List Elem)). as_set (filter_map (tuple_of g exprs) (filter (starts_at elem) ms)))
        (sym (one_by_one same_expr one_expr own.exprs key.exprs (and_parts _ _ same_keys).1))
        (matches_same own.descriptor key.descriptor (and_parts _ _ (and_parts _ _ same_keys).0).1 (and_parts _ _ alike_keys).1)

-- ---- qualifiers

-- of each element the new key asks what the old one asks, or less: a count in a range only where the old range lies within it
pub record AreQualifiersKept (own new : Qualifiers) : Type 0 where
  pub mandatory : new.mandatory ≡ true → own.mandatory ≡ true
  pub singleton : new.singleton ≡ true → own.singleton ≡ true
  pub exclusive : new.exclusive ≡ true → own.exclusive ≡ true
  pub count : (range : ℕ × ℕ) → new.count ≡ Some range → (was : ℕ × ℕ) × (own.count ≡ Some was) × (range.0 ≤ was.0) × (was.1 ≤ range.1)

asked : (own new : Bool) → (own || not new) ≡ true → new ≡ true → own ≡ true
asked true new kept is = refl
asked false true kept is = cc
asked false false kept is = cc

counted : (own new : Option (ℕ × ℕ)) → counts_no_more own new ≡ true → (range : ℕ × ℕ) → new ≡ Some range → (was : ℕ × ℕ) × (own ≡ Some was) × (range.0 ≤ was.0) × (was.1 ≤ range.1)
counted own None kept range is = cc
counted None (Some other) kept range is = cc
counted (Some was) (Some other) kept range is =
    let parts = and_parts _ _ kept in
    let same : other ≡ range = cc in
    (was, refl, subst (λ (r : ℕ × ℕ). r.0 ≤ was.0) same (leb-true other.0 was.0 parts.0), subst (λ (r : ℕ × ℕ). was.1 ≤ r.1) same (leb-true was.1 other.1 parts.1))

pub qualifiers_kept : (old new : Resolved) (own key : Key) → keeps old new own key ≡ true → AreQualifiersKept own.qualifiers key.qualifiers
qualifiers_kept old new own key kept =
    let parts = and_parts _ _ (and_parts _ _ kept).1 in
    let front = and_parts _ _ parts.0 in
    let first = and_parts _ _ front.0 in
    record {
      mandatory = asked own.qualifiers.mandatory key.qualifiers.mandatory first.0;
      singleton = asked own.qualifiers.singleton key.qualifiers.singleton first.1;
      exclusive = asked own.qualifiers.exclusive key.qualifiers.exclusive front.1;
      count = counted own.qualifiers.count key.qualifiers.count parts.1;
    }

-- ---- the same violations under another number

pub two_again : (number other : ℕ) (elem : Elem) (tuples : List (List Part)) (v : Violation) → two_least number elem tuples ≡ Some v → (w : Violation) × (two_least other elem tuples ≡ Some w)
two_again number other elem [] v gives = cc
two_again number other elem (first ∷ []) v gives = cc
two_again number other elem (first ∷ second ∷ rest) v gives = (Singleton other elem first second, refl)

pub shared_again : (number other : ℕ) (values : Elem → List (List Part)) (elem : Elem) (later : List Elem) (v : Violation) → slice_get (filter_map (sharing number values elem) later) 0 ≡ Some v
    → (w : Violation) × (slice_get (filter_map (sharing other values elem) later) 0 ≡ Some w)
shared_again number other values elem [] v gives = cc
shared_again number other values elem (second ∷ later) v gives =
    by (shared_tuple (values elem) (values second)) gives (shared_again number other values elem later v)
  where
    by : (o : Option (List Part)) → slice_get (cons_option (option_map (Exclusive number elem second) o) (filter_map (sharing number values elem) later)) 0 ≡ Some v
        → (slice_get (filter_map (sharing number values elem) later) 0 ≡ Some v → (w : Violation) × (slice_get (filter_map (sharing other values elem) later) 0 ≡ Some w))
        → (w : Violation) × (slice_get (cons_option (option_map (Exclusive other elem second) o) (filter_map (sharing other values elem) later)) 0 ≡ Some w)
    by None first rest = rest first
    by (Some tuple) first rest = (Exclusive other elem second tuple, refl)

-- a number that isn't within a range isn't within a narrower one
pub narrower : (range own : ℕ × ℕ) (count : ℕ) → range.0 ≤ own.0 → own.1 ≤ range.1 → is_within range count ≡ false → is_within own count ≡ false
narrower range own count least most out = grind (arith, nat_tests)
