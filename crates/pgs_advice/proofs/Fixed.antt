-- What a match fixes: the elements of x and of its ends, by the element that x is.
use Rattle.std.proofs.Common.{◌≡◌, ⊎_elim, ℕ, Bool, true, false, true≢false, List, [], ◌∷◌, ◌==◌, ◌&&◌, slice_get, Option, Some, None, refl, sym, ap, ◌∙◌}
use Rattle.std.specs.List.{list_any, list_all}
use Rattle.std.specs.Option.{option_map_or, option_map, option_and_then}
use Rattle.std.proofs.lemmas.Bool.{or_cases, and_parts, eqb-true}
use Rattle.pgs_base.specs.declared.element.NodeId.{NodeId}
use Rattle.pgs_base.specs.declared.element.EdgeId.{EdgeId}
use Rattle.pgs_base.specs.declared.element.Elem.{Elem}
use Rattle.pgs_base.specs.declared.element.Elem.TheVariants.{Node, Edge}
use Rattle.pgs_base.specs.declared.part.Part.{Part}
use Rattle.pgs_base.specs.declared.part.Part.TheVariants as parts
use Rattle.pgs_base.specs.declared.row.EdgeRow.{EdgeRow}
use Rattle.pgs_base.specs.declared.row.NodeRow.{NodeRow}
use Rattle.pgs_base.specs.Graph.{Graph, edge_at}
use Rattle.pgs_base.specs.Order.{elem_cmp}
use Rattle.pgs_base.specs.Pair.{value_at}
use Rattle.pgs_syntax.specs.declared.pattern.Atom.{Atom}
use Rattle.pgs_syntax.specs.declared.pattern.Atom.TheVariants.{Ends, HasLabel, FitsNode, FitsEdge, Equals}
use Rattle.pgs_syntax.specs.declared.pattern.Expr.{Expr}
use Rattle.pgs_syntax.specs.declared.pattern.Expr.TheVariants.{Element, Property}
use Rattle.pgs_syntax.specs.declared.pattern.Pattern.{Pattern}
use Rattle.pgs_syntax.specs.declared.resolved.Resolved.{Resolved}
use Rattle.pgs_syntax.specs.KeyValues.{starts_at, part_of, tuple_of}
use Rattle.pgs_syntax.specs.Matches.{same_elem, carried, leads, holds, is_match}
use Rattle.pgs_syntax.specs.Valid.{read_var}
use Rattle.std.specs.Cmp.{Equal-is}
use Rattle.pgs_base.specs.OrderLaws.{exact_elem}
use Rattle.pgs_advice.specs.Void.{is_end_of_x, is_fixed_by_x, has_end_x, fixes_x}

-- ---- an edge and its ends

-- what it is that an edge leads from one to another
record Led (g : Graph) (edge source target : Option Elem) : Type 0 where
  id : EdgeId
  row : EdgeRow
  edge_is : edge ≡ Some (Edge id)
  found : edge_at g id ≡ Some row
  source_is : source ≡ Some (Node row.source)
  target_is : target ≡ Some (Node row.target)

one_node : (a b : NodeId) → (a.0 == b.0) ≡ true → a ≡ b
one_node a b h = ap (λ n. record { 0 = n }) (eqb-true a.0 b.0 h)

at_row : (g : Graph) (edge : EdgeId) (source target : NodeId) (found : Option EdgeRow) → edge_at g edge ≡ found
    → option_map_or (λ (row : EdgeRow). row.source.0 == source.0 && row.target.0 == target.0) found false ≡ true → Led g (Some (Edge edge)) (Some (Node source)) (Some (Node target))
at_row g edge source target None is h = absurd (true≢false (sym h))
at_row g edge source target (Some row) is h =
    let both = and_parts _ _ h in
    record {
      id = edge;
      row = row;
      edge_is = refl;
      found = is;
      source_is = ap (λ n. Some (Node n)) (sym (one_node row.source source both.0));
      target_is = ap (λ n. Some (Node n)) (sym (one_node row.target target both.1));
    }

led : (g : Graph) (edge source target : Option Elem) → leads g edge source target ≡ true → Led g edge source target
led g None source target h = absurd (true≢false (sym h))
led g (Some (Node node)) source target h = absurd (true≢false (sym h))
led g (Some (Edge edge)) None target h = absurd (true≢false (sym h))
led g (Some (Edge edge)) (Some (Edge source)) target h = absurd (true≢false (sym h))
led g (Some (Edge edge)) (Some (Node source)) None h = absurd (true≢false (sym h))
led g (Some (Edge edge)) (Some (Node source)) (Some (Edge target)) h = absurd (true≢false (sym h))
led g (Some (Edge edge)) (Some (Node source)) (Some (Node target)) h = at_row g edge source target (edge_at g edge) refl h

-- one edge leads from one node and to one
one_way : (g : Graph) (edge source target other_edge other_source other_target : Option Elem) → edge ≡ other_edge → leads g edge source target ≡ true
    → leads g other_edge other_source other_target ≡ true → (source ≡ other_source) × (target ≡ other_target)
one_way g edge source target other_edge other_source other_target same h k =
    let p = led g edge source target h in
    let q = led g other_edge other_source other_target k in
    let edges : Some (Edge p.id) ≡ Some (Edge q.id) = sym p.edge_is ∙ same ∙ q.edge_is in
    let ids : p.id ≡ q.id = cc in
    let rows : Some p.row ≡ Some q.row = sym p.found ∙ ap (edge_at g) ids ∙ q.found in
    let row : p.row ≡ q.row = cc in
    (p.source_is ∙ ap (λ (r : EdgeRow). Some (Node r.source)) row ∙ sym q.source_is, p.target_is ∙ ap (λ (r : EdgeRow). Some (Node r.target)) row ∙ sym q.target_is)

-- ---- an item that passes three tests

some_of : {X : Type 0} (p q r : X → Bool) (xs : List X) → list_any p xs ≡ true → list_all q xs ≡ true → list_all r xs ≡ true
    → (x : X) × (p x ≡ true) × (q x ≡ true) × (r x ≡ true)
some_of p q r [] some all every = absurd (true≢false (sym some))
some_of p q r (x ∷ xs) some all every =
    let qs = and_parts _ _ all in
    let rs = and_parts _ _ every in
    ⊎_elim (λ here. (x, here, qs.0, rs.0)) (λ later. some_of p q r xs later qs.1 rs.1) (or_cases _ _ some)

-- ---- two matches

one_elem : (a b : Elem) → same_elem a b ≡ true → a ≡ b
one_elem a b h = exact_elem a b ((Equal-is (elem_cmp a b)).0 h)

-- the first element of a match
first_is : (elem : Elem) (first : Option Elem) → option_map_or (same_elem elem) first false ≡ true → first ≡ Some elem
first_is elem None h = absurd (true≢false (sym h))
first_is elem (Some other) h = ap Some (sym (one_elem elem other h))

-- a match of a pattern that begins with an element
pub record Begins (resolved : Resolved) (g : Graph) (pattern : Pattern) (elem : Elem) (elems : List Elem) : Type 0 where
  pub match : is_match resolved g pattern elems ≡ true
  pub starts : starts_at elem elems ≡ true

module _ (resolved : Resolved) (g : Graph) (pattern : Pattern) (a b : Elem) (xs ys : List Elem) (of_a : Begins resolved g pattern a xs) (of_b : Begins resolved g pattern b ys) where
  x_is : slice_get xs 0 ≡ Some a
  x_is = first_is a (slice_get xs 0) of_a.starts

  y_is : slice_get ys 0 ≡ Some b
  y_is = first_is b (slice_get ys 0) of_b.starts

  -- an atom that passes a test holds in both
  both_hold : (test : Atom → Bool) → list_any test pattern.atoms ≡ true → (atom : Atom) × (test atom ≡ true) × (holds resolved g xs atom ≡ true) × (holds resolved g ys atom ≡ true)
  both_hold test some = some_of test (holds resolved g xs) (holds resolved g ys) pattern.atoms some (and_parts _ _ of_a.match).1 (and_parts _ _ of_b.match).1

  -- ---- of one element

  end_same : (var : ℕ) (atom : Atom) → a ≡ b → is_end_of_x var atom ≡ true → holds resolved g xs atom ≡ true → holds resolved g ys atom ≡ true → slice_get xs var ≡ slice_get ys var
  end_same var (Ends edge source target) same is h k =
      let parts = and_parts _ _ is in
      let zero : edge ≡ 0 = eqb-true edge 0 parts.0 in
      let edges : slice_get xs edge ≡ slice_get ys edge = ap (slice_get xs) zero ∙ x_is ∙ ap Some same ∙ sym y_is ∙ ap (slice_get ys) (sym zero) in
      let ends = one_way g _ _ _ _ _ _ edges h k in
      ⊎_elim (λ e. let is_source : var ≡ source = eqb-true var source e in ap (slice_get xs) is_source ∙ ends.0 ∙ ap (slice_get ys) (sym is_source))
      (λ e. let is_target : var ≡ target = eqb-true var target e in ap (slice_get xs) is_target ∙ ends.1 ∙ ap (slice_get ys) (sym is_target)) (or_cases _ _ parts.1)
  end_same var (HasLabel other label) same is h k = absurd (true≢false (sym is))
  end_same var (FitsNode other number) same is h k = absurd (true≢false (sym is))
  end_same var (FitsEdge other number) same is h k = absurd (true≢false (sym is))
  end_same var (Equals other key value) same is h k = absurd (true≢false (sym is))

  fixed_same : (var : ℕ) → a ≡ b → is_fixed_by_x pattern var ≡ true → slice_get xs var ≡ slice_get ys var
  fixed_same var same fixed =
      ⊎_elim (λ e. let zero : var ≡ 0 = eqb-true var 0 e in ap (slice_get xs) zero ∙ x_is ∙ ap Some same ∙ sym y_is ∙ ap (slice_get ys) (sym zero))
      (λ some. let at = both_hold (is_end_of_x var) some in end_same var at.0 same at.1 at.2 at.3) (or_cases _ _ fixed)

  part_same : (expr : Expr) → slice_get xs (read_var expr) ≡ slice_get ys (read_var expr) → part_of g xs expr ≡ part_of g ys expr
  part_same (Element var) same = ap (option_map parts.Elem) same
  part_same (Property var key) same =
      ap (λ (o : Option Elem). option_map parts.Value (option_and_then (λ (own : NodeRow). value_at key own.props) (option_and_then (carried g) o))) same

  pub tuple_same : (exprs : List Expr) → a ≡ b → list_all (λ (expr : Expr). is_fixed_by_x pattern (read_var expr)) exprs ≡ true → tuple_of g exprs xs ≡ tuple_of g exprs ys
  tuple_same [] same fixed = refl
  tuple_same (expr ∷ exprs) same fixed =
      let here = and_parts _ _ fixed in
      let rest = tuple_same exprs same here.1 in
      let own = part_same expr (fixed_same (read_var expr) same here.0) in
      ap (λ (o : Option Part). option_and_then (λ (part : Part). option_map (λ rest. part ∷ rest) (tuple_of g exprs xs)) o) own
      ∙ ap (λ (r : Option (List Part)). option_and_then (λ (part : Part). option_map (λ rest. part ∷ rest) r) (part_of g ys expr)) rest

  -- ---- of one tuple

  x_same : slice_get xs 0 ≡ slice_get ys 0 → a ≡ b
  x_same same = let both : Some a ≡ Some b = sym x_is ∙ same ∙ y_is in cc

  ended : (var : ℕ) (atom : Atom) → slice_get xs var ≡ slice_get ys var → has_end_x var atom ≡ true → holds resolved g xs atom ≡ true → holds resolved g ys atom ≡ true → a ≡ b
  ended var (Ends edge source target) same is h k =
      let parts = and_parts _ _ is in
      let is_edge : var ≡ edge = eqb-true var edge parts.0 in
      let edges : slice_get xs edge ≡ slice_get ys edge = ap (slice_get xs) (sym is_edge) ∙ same ∙ ap (slice_get ys) is_edge in
      let ends = one_way g _ _ _ _ _ _ edges h k in
      ⊎_elim (λ e. let zero : source ≡ 0 = eqb-true source 0 e in x_same (ap (slice_get xs) (sym zero) ∙ ends.0 ∙ ap (slice_get ys) zero))
      (λ e. let zero : target ≡ 0 = eqb-true target 0 e in x_same (ap (slice_get xs) (sym zero) ∙ ends.1 ∙ ap (slice_get ys) zero)) (or_cases _ _ parts.1)
  ended var (HasLabel other label) same is h k = absurd (true≢false (sym is))
  ended var (FitsNode other number) same is h k = absurd (true≢false (sym is))
  ended var (FitsEdge other number) same is h k = absurd (true≢false (sym is))
  ended var (Equals other key value) same is h k = absurd (true≢false (sym is))

  elem_same : (o p : Option Elem) (part : Part) → option_map parts.Elem o ≡ Some part → option_map parts.Elem p ≡ Some part → o ≡ p
  elem_same None p part h k = cc
  elem_same (Some e) None part h k = cc
  elem_same (Some e) (Some f) part h k = cc

  fixing : (expr : Expr) (part : Part) → fixes_x pattern expr ≡ true → part_of g xs expr ≡ Some part → part_of g ys expr ≡ Some part → a ≡ b
  fixing (Property var key) part fixes h k = absurd (true≢false (sym fixes))
  fixing (Element var) part fixes h k =
      let same = elem_same (slice_get xs var) (slice_get ys var) part h k in
      ⊎_elim (λ e. let zero : var ≡ 0 = eqb-true var 0 e in x_same (ap (slice_get xs) (sym zero) ∙ same ∙ ap (slice_get ys) zero))
      (λ some. let at = both_hold (has_end_x var) some in ended var at.0 same at.1 at.2 at.3) (or_cases _ _ fixes)

  cons_parts : (o : Option Part) (r : Option (List Part)) (tuple : List Part) → option_and_then (λ (part : Part). option_map (λ rest. part ∷ rest) r) o ≡ Some tuple
      → (part : Part) × (rest : List Part) × (o ≡ Some part) × (r ≡ Some rest) × (tuple ≡ part ∷ rest)
  cons_parts None r tuple h = cc
  cons_parts (Some part) None tuple h = cc
  cons_parts (Some part) (Some rest) tuple h = (part, rest, refl, refl, cc)

  pub one_x : (exprs : List Expr) (tuple : List Part) → list_any (fixes_x pattern) exprs ≡ true → tuple_of g exprs xs ≡ Some tuple → tuple_of g exprs ys ≡ Some tuple → a ≡ b
  one_x [] tuple some h k = absurd (true≢false (sym some))
  one_x (expr ∷ exprs) tuple some h k =
      let p = cons_parts (part_of g xs expr) (tuple_of g exprs xs) tuple h in
      let q = cons_parts (part_of g ys expr) (tuple_of g exprs ys) tuple k in
      let both : p.0 ∷ p.1 ≡ q.0 ∷ q.1 = sym p.4 ∙ q.4 in
      let first : p.0 ≡ q.0 = cc in
      let rest : p.1 ≡ q.1 = cc in
      ⊎_elim (λ here. fixing expr p.0 here p.2 (q.2 ∙ ap Some (sym first))) (λ later. one_x exprs p.1 later p.3 (q.3 ∙ ap Some (sym rest))) (or_cases _ _ some)
