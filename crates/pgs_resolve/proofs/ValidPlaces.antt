-- The places of resolved types: no two are one.
use Rattle.std.proofs.Common.{◌≡◌, ℕ, zero, suc, ◌+◌, ◌-◌, ◌<◌, ◌≤◌, true, false, not, ◌⊎◌, inl, inr, List, [], ◌∷◌, ◌++◌, length, take, map, filter, get_or, Option, Some, refl, sym, ◌∙◌, ap, subst, arith, eqb, length-append}
use Rattle.std.specs.List.{list_any, flat_map, filter_map, cons_option}
use Rattle.std.specs.Option.{option_map}
use Rattle.std.proofs.lemmas.Bool.{and_from, and_parts, or_from, both_ways, cases_lt, eqb-true, ne_eqb}
use Rattle.std.proofs.lemmas.List.{length-map, length-take-le, get_or-take, get_or_append_left, get_or-append_right, append_assoc}
use Rattle.std.proofs.lemmas.List.Folds.{list_any_at}
use Rattle.pgs_base.specs.Pair.{same_name, has_name}
use Rattle.pgs_parser.specs.Statements.{count_from, places_in, place_of_member}
use Rattle.pgs_syntax.specs.declared.element_type.NodeType.{NodeType}
use Rattle.pgs_syntax.specs.declared.element_type.EdgeType.{EdgeType}
use Rattle.pgs_syntax.specs.declared.raw.RawKey.{RawKey}
use Rattle.pgs_syntax.specs.declared.script.Member.{Member}
use Rattle.pgs_syntax.specs.declared.script.Member.TheVariants as members
use Rattle.pgs_syntax.specs.declared.script.Script.{Script}
use Rattle.pgs_syntax.specs.declared.script.Statement.{Statement}
use Rattle.pgs_syntax.specs.declared.script.Statement.TheVariants.{Node, Edge, Graph}
use Rattle.pgs_syntax.specs.declared.specification.Leaf.{Leaf}
use Rattle.pgs_syntax.specs.Valid.{are_distinct}
use Rattle.pgs_resolve_declared.specs.Declarations.{types_of, nodes_of, edges_of, declared_in, is_declared, node_named, edge_named}
use Rattle.pgs_resolve_declared.specs.declared.order.Numbering.{Numbering}
use Rattle.pgs_resolve_declared.specs.Order.{Entry, numbering_of, resolved_node, resolved_edge, resolved_nodes, resolved_edges}
use Rattle.pgs_resolve_declared.specs.Refused.{marks_of, seconds_after}
use Rattle.pgs_resolve.proofs.Fresh.{In, nodes_among, edges_among}
use Rattle.pgs_resolve_declared.proofs.Same.{itself}
use Rattle.pgs_resolve.proofs.ValidTypes.{TypeAt, resolved_of, node_at, edge_at, node_count, edge_count}

-- numbers that ascend from one on
abbrev pub Ascend : ℕ → List ℕ → Type 0
Ascend n [] = Unit {0}
Ascend n (x ∷ xs) = (n ≤ x) × Ascend (x + 1) xs

-- some of a list, in its order
abbrev pub Some_of : List ℕ → List ℕ → Type 0
Some_of [] ys = Unit {0}
Some_of (x ∷ xs) [] = ⊥
Some_of (x ∷ xs) (y ∷ ys) = ((x ≡ y) × Some_of xs ys) ⊎ Some_of (x ∷ xs) ys

some_skip : (xs : List ℕ) (y : ℕ) (ys : List ℕ) → Some_of xs ys → Some_of xs (y ∷ ys)
some_skip [] y ys s = tt
some_skip (x ∷ xs) y ys s = inr s

some_after : (xs zs ys : List ℕ) → Some_of xs ys → Some_of xs (zs ++ ys)
some_after xs [] ys s = s
some_after xs (z ∷ zs) ys s = some_skip xs z (zs ++ ys) (some_after xs zs ys s)

some_both : (front all cs ds : List ℕ) → Some_of front all → Some_of cs ds → Some_of (front ++ cs) (all ++ ds)
some_both [] all cs ds s t = some_after cs all ds t
some_both (a ∷ front) [] cs ds s t = absurd s
some_both (a ∷ front) (b ∷ all) cs ds (inl s) t = inl (s.0, some_both front all cs ds s.1 t)
some_both (a ∷ front) (b ∷ all) cs ds (inr s) t = inr (some_both (a ∷ front) all cs ds s t)

some_all : (xs : List ℕ) → Some_of xs xs
some_all [] = tt
some_all (x ∷ xs) = inl (refl, some_all xs)

lower : (m n : ℕ) (xs : List ℕ) → m ≤ n → Ascend n xs → Ascend m xs
lower m n [] le a = tt
lower m n (x ∷ xs) le a = (omega (arith, le, a.0), a.1)

ascend_some : (n : ℕ) (xs ys : List ℕ) → Some_of xs ys → Ascend n ys → Ascend n xs
ascend_some n [] ys s a = tt
ascend_some n (x ∷ xs) [] s a = absurd s
ascend_some n (x ∷ xs) (y ∷ ys) (inl s) a =
    let P : ℕ → Type 0 = λ z. (n ≤ z) × Ascend (z + 1) xs in
    subst P (sym s.0) (a.0, ascend_some (y + 1) xs ys s.1 a.1)
ascend_some n (x ∷ xs) (y ∷ ys) (inr s) a = ascend_some n (x ∷ xs) ys s (lower n (y + 1) ys (omega (arith, a.0)) a.1)

counted : (n : ℕ) (xs : List ℕ) → count_from n xs ≡ true → Ascend n xs
counted n [] h = tt
counted n (x ∷ xs) h =
    let both = and_parts (eqb x n) (count_from (n + 1) xs) h in
    let same : x ≡ n = eqb-true x n both.0 in
    let P : ℕ → Type 0 = λ z. (n ≤ z) × Ascend (z + 1) xs in
    subst P (sym same) (omega arith, counted (n + 1) xs both.1)

after_front : (n : ℕ) (xs ys : List ℕ) → Ascend n (xs ++ ys) → Ascend n ys
after_front n [] ys a = a
after_front n (x ∷ xs) ys a = lower n (x + 1) ys (omega (arith, a.0)) (after_front (x + 1) xs ys a.1)

-- ---- the places of the types of a script

declared_places : (list : List Member) → flat_map place_of_member (filter is_declared list) ≡ flat_map place_of_member list
declared_places [] = refl
declared_places (members.Named name ∷ rest) = declared_places rest
declared_places (members.Node type ∷ rest) = ap (λ ns. type.place ∷ ns) (declared_places rest)
declared_places (members.Edge type ∷ rest) = ap (λ ns. type.place ∷ ns) (declared_places rest)

some_front : (xs ys : List ℕ) → Some_of xs (xs ++ ys)
some_front [] ys = tt
some_front (x ∷ xs) ys = inl (refl, some_front xs ys)

in_statement : (statement : Statement) → Some_of (flat_map place_of_member (declared_in statement)) (places_in statement)
in_statement (Node type) = inl (refl, tt)
in_statement (Edge type) = inl (refl, tt)
in_statement (Graph type) =
    let P : List ℕ → Type 0 = λ ns. Some_of ns (places_in (Graph type)) in
    subst P (sym (declared_places type.members))
    (some_skip (flat_map place_of_member type.members) type.place (flat_map place_of_member type.members ++ map (λ (k : RawKey). k.place) type.keys)
    (some_front (flat_map place_of_member type.members) (map (λ (k : RawKey). k.place) type.keys)))

flat-both : (xs ys : List Member) → flat_map place_of_member (xs ++ ys) ≡ flat_map place_of_member xs ++ flat_map place_of_member ys
flat-both [] ys = refl
flat-both (x ∷ xs) ys =
    ap (λ ns. place_of_member x ++ ns) (flat-both xs ys) ∙ sym (append_assoc (place_of_member x) (flat_map place_of_member xs) (flat_map place_of_member ys))

in_statements : (statements : List Statement) → Some_of (flat_map place_of_member (flat_map declared_in statements)) (flat_map places_in statements)
in_statements [] = tt
in_statements (statement ∷ rest) =
    let P : List ℕ → Type 0 = λ ns. Some_of ns (places_in statement ++ flat_map places_in rest) in
    subst P (sym (flat-both (declared_in statement) (flat_map declared_in rest)))
    (some_both (flat_map place_of_member (declared_in statement)) (places_in statement) (flat_map place_of_member (flat_map declared_in rest)) (flat_map places_in rest)
    (in_statement statement) (in_statements rest))

types_ascend : (script : Script) → count_from 1 (flat_map places_in script.statements) ≡ true → Ascend 1 (flat_map place_of_member (types_of script))
types_ascend script h =
    ascend_some 1 (flat_map place_of_member (types_of script)) (flat_map places_in script.statements) (in_statements script.statements)
    (counted 1 (flat_map places_in script.statements) h)

-- a member at a place
at_least : (n : ℕ) (list : List Member) (member : Member) (place : ℕ) → Ascend n (flat_map place_of_member list) → In member list →
    place_of_member member ≡ place ∷ [] → n ≤ place
at_least n [] member place a i e = absurd i
at_least n (x ∷ xs) member place a (inl same) e =
    let P : List ℕ → Type 0 = λ ns. Ascend n (ns ++ flat_map place_of_member xs) in
    let mine : Ascend n (place ∷ flat_map place_of_member xs) = subst P (ap place_of_member (sym same) ∙ e) a in mine.0
at_least n (x ∷ xs) member place a (inr i) e = at_least n xs member place (after_front n (place_of_member x) (flat_map place_of_member xs) a) i e

one_place : (n : ℕ) (list : List Member) (a b : Member) (place : ℕ) → Ascend n (flat_map place_of_member list) → In a list → In b list →
    place_of_member a ≡ place ∷ [] → place_of_member b ≡ place ∷ [] → a ≡ b
one_place n [] a b place asc i j e f = absurd i
one_place n (x ∷ xs) a b place asc (inl s) (inl t) e f = s ∙ sym t
one_place n (x ∷ xs) a b place asc (inl s) (inr j) e f =
    let P : List ℕ → Type 0 = λ ns. Ascend n (ns ++ flat_map place_of_member xs) in
    let mine : Ascend n (place ∷ flat_map place_of_member xs) = subst P (ap place_of_member (sym s) ∙ e) asc in
    let more = at_least (place + 1) xs b place mine.1 j f in absurd (omega (arith, more))
one_place n (x ∷ xs) a b place asc (inr i) (inl t) e f =
    let P : List ℕ → Type 0 = λ ns. Ascend n (ns ++ flat_map place_of_member xs) in
    let mine : Ascend n (place ∷ flat_map place_of_member xs) = subst P (ap place_of_member (sym t) ∙ f) asc in
    let more = at_least (place + 1) xs a place mine.1 i e in absurd (omega (arith, more))
one_place n (x ∷ xs) a b place asc (inr i) (inr j) e f =
    one_place n xs a b place (after_front n (place_of_member x) (flat_map place_of_member xs) asc) i j e f

-- ---- the places of resolved types

none_same : (x : ℕ) (xs : List ℕ) → ((k : ℕ) → k < length xs → x ≡ get_or xs k 0 → ⊥) → list_any (λ y. eqb x y) xs ≡ false
none_same x [] h = refl
none_same x (y ∷ ys) h = or_from _ _ (ne_eqb x y (h 0 (omega arith))) (none_same x ys (λ k lt. h (suc k) (omega (arith, lt))))

distinct_at : (xs : List ℕ) → ((j k : ℕ) → j < k → k < length xs → get_or xs j 0 ≡ get_or xs k 0 → ⊥) → are_distinct (λ a b. eqb a b) xs ≡ true
distinct_at [] h = refl
distinct_at (x ∷ xs) h =
    and_from _ _ (ap not (none_same x xs (λ k lt e. h 0 (suc k) (omega arith) (omega (arith, lt)) e)))
    (distinct_at xs (λ j k less lt e. h (suc j) (suc k) (omega (arith, less)) (omega (arith, lt)) e))

module _ {T R : Type 0} (lookup : List ℕ → Option T) (resolve : T → R) (place : R → ℕ) where
  place_at : (names : List (List ℕ)) → ((j : ℕ) → j < length names → (type : T) × (lookup (get_or names j []) ≡ Some type)) →
      (k : ℕ) (type : T) → k < length names → lookup (get_or names k []) ≡ Some type →
      get_or (map place (filter_map (resolved_of lookup resolve) names)) k 0 ≡ place (resolve type)
  place_at [] h k type lt found = absurd (omega (arith, lt))
  place_at (name ∷ names) h zero type lt found =
      ap (λ o. get_or (map place (cons_option (option_map resolve o) (filter_map (resolved_of lookup resolve) names))) 0 0) found
  place_at (name ∷ names) h (suc k) type lt found =
      let first = h 0 (omega arith) in
      ap (λ o. get_or (map place (cons_option (option_map resolve o) (filter_map (resolved_of lookup resolve) names))) (suc k) 0) first.1
      ∙ place_at names (λ j less. h (suc j) (omega (arith, less))) k type (omega (arith, lt)) found

-- the type of a name isn't that of an earlier one
module _ {T : Type 0} (lookup : List ℕ → Option T) (types : List T) (entry_of : T → Entry) (names : List (List ℕ)) where
  types_apart : (j k : ℕ) → j < k → k < length names → (a : TypeAt lookup types entry_of names j) (b : TypeAt lookup types entry_of names k) →
      a.type ≡ b.type → ⊥
  types_apart j k less lt a b same =
      let name : List ℕ = (entry_of b.type).name in
      let is : name ≡ get_or (take k names) j [] =
      ap (λ (type : T). (entry_of type).name) (sym same) ∙ a.named ∙ sym (get_or-take k names j [] less) in
      let count = length-take-le k names (omega (arith, lt)) in
      both_ways (has_name name (take k names)) b.new
      (list_any_at (same_name name) (take k names) j [] (omega (arith, count, less)) (ap (same_name name) (sym is) ∙ itself name))

module _ (script : Script) (once : seconds_after [] (flat_map marks_of script.statements) ≡ [])
    (placed : count_from 1 (flat_map places_in script.statements) ≡ true) where
  abbrev numbering : Numbering
  numbering = numbering_of script

  abbrev node_places : List ℕ
  node_places = map (λ (type : NodeType Leaf). type.place) (resolved_nodes script numbering)

  abbrev edge_places : List ℕ
  edge_places = map (λ (type : EdgeType Leaf). type.place) (resolved_edges script numbering)

  nodes_many : length node_places ≡ length numbering.nodes
  nodes_many = length-map (resolved_nodes script numbering) (λ (type : NodeType Leaf). type.place) ∙ node_count script once

  edges_many : length edge_places ≡ length numbering.edges
  edges_many = length-map (resolved_edges script numbering) (λ (type : EdgeType Leaf). type.place) ∙ edge_count script once

  node_place : (k : ℕ) → (lt : k < length numbering.nodes) → get_or node_places k 0 ≡ (node_at script once k lt).type.place
  node_place k lt =
      place_at (node_named script) (resolved_node numbering) (λ (type : NodeType Leaf). type.place) numbering.nodes
      (λ j h. let at = node_at script once j h in (at.type, at.found)) k (node_at script once k lt).type lt (node_at script once k lt).found

  edge_place : (k : ℕ) → (lt : k < length numbering.edges) → get_or edge_places k 0 ≡ (edge_at script once k lt).type.place
  edge_place k lt =
      place_at (edge_named script) (resolved_edge numbering) (λ (type : EdgeType Leaf). type.place) numbering.edges
      (λ j h. let at = edge_at script once j h in (at.type, at.found)) k (edge_at script once k lt).type lt (edge_at script once k lt).found

  same_member : (a b : Member) (p q : ℕ) → In a (types_of script) → In b (types_of script) → place_of_member a ≡ p ∷ [] → place_of_member b ≡ q ∷ [] →
      p ≡ q → a ≡ b
  same_member a b p q i j e f same = one_place 1 (types_of script) a b p (types_ascend script placed) i j e (f ∙ ap (λ n. n ∷ []) (sym same))

  two_nodes : (j k : ℕ) → j < k → k < length numbering.nodes → get_or node_places j 0 ≡ get_or node_places k 0 → ⊥
  two_nodes j k less lt e =
      let a = node_at script once j (omega (arith, less, lt)) in
      let b = node_at script once k lt in
      let same : members.Node a.type ≡ members.Node b.type =
      same_member (members.Node a.type) (members.Node b.type) a.type.place b.type.place (nodes_among script a.type a.among)
      (nodes_among script b.type b.among) refl refl (sym (node_place j (omega (arith, less, lt))) ∙ e ∙ node_place k lt) in
      let one : a.type ≡ b.type = cc in
      types_apart (node_named script) (nodes_of script) _ numbering.nodes j k less lt a b one

  two_edges : (j k : ℕ) → j < k → k < length numbering.edges → get_or edge_places j 0 ≡ get_or edge_places k 0 → ⊥
  two_edges j k less lt e =
      let a = edge_at script once j (omega (arith, less, lt)) in
      let b = edge_at script once k lt in
      let same : members.Edge a.type ≡ members.Edge b.type =
      same_member (members.Edge a.type) (members.Edge b.type) a.type.place b.type.place (edges_among script a.type a.among)
      (edges_among script b.type b.among) refl refl (sym (edge_place j (omega (arith, less, lt))) ∙ e ∙ edge_place k lt) in
      let one : a.type ≡ b.type = cc in
      types_apart (edge_named script) (edges_of script) _ numbering.edges j k less lt a b one

  node_and_edge : (j k : ℕ) → j < length numbering.nodes → k < length numbering.edges → get_or node_places j 0 ≡ get_or edge_places k 0 → ⊥
  node_and_edge j k lj lk e =
      let a = node_at script once j lj in
      let b = edge_at script once k lk in
      let same : members.Node a.type ≡ members.Edge b.type =
      same_member (members.Node a.type) (members.Edge b.type) a.type.place b.type.place (nodes_among script a.type a.among)
      (edges_among script b.type b.among) refl refl (sym (node_place j lj) ∙ e ∙ edge_place k lk) in
      cc

  in_front : (k : ℕ) → k < length node_places → get_or (node_places ++ edge_places) k 0 ≡ get_or node_places k 0
  in_front k lt = get_or_append_left node_places edge_places 0 k lt

  behind : (k : ℕ) → length node_places ≤ k → get_or (node_places ++ edge_places) k 0 ≡ get_or edge_places (k - length node_places) 0
  behind k le = get_or-append_right node_places edge_places (length node_places) k 0 refl le

  pub places_distinct : are_distinct (λ a b. eqb a b) (node_places ++ edge_places) ≡ true
  places_distinct =
      distinct_at (node_places ++ edge_places)
      (λ j k less lt e.
      let all = length-append node_places edge_places in
      let n = nodes_many in
      let m = edges_many in
      elim (cases_lt k (length node_places)) [
        | inl hk ↦ two_nodes j k less (omega (arith, hk, n)) (sym (in_front j (omega (arith, less, hk))) ∙ e ∙ in_front k hk)
        | inr hk ↦ elim (cases_lt j (length node_places)) [
          | inl hj ↦
              node_and_edge j (k - length node_places) (omega (arith, hj, n)) (omega (arith, hk, lt, all, m))
              (sym (in_front j hj) ∙ e ∙ behind k hk)
          | inr hj ↦
              two_edges (j - length node_places) (k - length node_places) (omega (arith, less, hj)) (omega (arith, hk, lt, all, m))
              (sym (behind j hj) ∙ e ∙ behind k hk)
        ]
      ])
