-- Nodes in order, each once: whatever is counted of each at a variable is no more than over any list of pairs that has all of them there.
use Rattle.std.proofs.Common.{rules, ◌≡◌, ℕ, suc, ◌+◌, Bool, true, false, ◌&&◌, ◌==◌, cond, List, [], ◌∷◌, map, filter, refl, sym, ◌∙◌, ap, subst, arith, is_lt}
use Rattle.std.specs.Ordering.{nat_cmp}
use Rattle.std.specs.Cmp.{Equal-is}
use Rattle.std.specs.List.{Contains, list_any, list_all, sum_by}
use Rattle.std.specs.List.Sorted.{IsStrictlySortedBy}
use Rattle.std.specs.BTreeMap.{is_at}
use Rattle.std.proofs.lemmas.Bool.{and_from, eqb-true, eq-eqb}
use Rattle.std.proofs.lemmas.List.Folds.{list_any_at, Any-from_list_any}
use Rattle.std.proofs.lemmas.List.Sums.{sum_by-cons}
use Rattle.std.proofs.lemmas.Map.Lookups.{exact_unsigned}
use Rattle.pgs_base.specs.contracts.element.NodeIdOrd.TheImpl as node_ord
use Rattle.pgs_base.specs.declared.element.Elem.{Elem}
use Rattle.pgs_base.specs.declared.element.Elem.TheVariants.{Node}
use Rattle.pgs_base.specs.declared.element.NodeId.{NodeId}
use Rattle.pgs_base.specs.Order.{ascends, elem_cmp}
use Rattle.pgs_base.proofs.Ascending.{ascends_decides}
use Rattle.pgs_syntax.specs.Matches.{same_elem}
use Rattle.pgs_match.specs.declared.stand.Stand.{Stand}
use Rattle.pgs_match.specs.Frontier.{AreApart}
use Rattle.pgs_match.specs.Spread.{stand_at, elems_at}
use Rattle.pgs_match.proofs.Passed.{at_var, itself, sum_among}

-- ---- the order of nodes that is derived

cmp_is : (x y : NodeId) → (node_ord.ghosts).cmp x y ≡ nat_cmp x.0 y.0
cmp_is x y = search rules

same_node : (x y : NodeId) → is_at ((node_ord.ghosts).cmp x) y ≡ true → x ≡ y
same_node x y is =
    let whole : (n : ℕ) → NodeId = λ n. record { 0 = n } in
    let same : x.0 ≡ y.0 = exact_unsigned x.0 y.0 (sym (cmp_is x y) ∙ (Equal-is ((node_ord.ghosts).cmp x y)).0 is) in
    ap whole same

-- a node that is found by the order is among them
pub found_among : (id : NodeId) (ids : List NodeId) → list_any (is_at ((node_ord.ghosts).cmp id)) ids ≡ true → Contains ids id
found_among id ids some =
    let it = Any-from_list_any (is_at ((node_ord.ghosts).cmp id)) ids some in
    subst (λ x. Contains ids x) (sym (same_node id it.1 it.4)) (it.0, it.2, it.3)

-- ---- as elements

all_above : (x : NodeId) (ids : List NodeId) → list_all (λ later. is_lt (elem_cmp (Node x) later)) (map Node ids) ≡ list_all (λ later. is_lt ((node_ord.ghosts).cmp x later)) ids
all_above x [] = refl
all_above x (y ∷ ys) =
    ap (λ b. b && list_all (λ later. is_lt (elem_cmp (Node x) later)) (map Node ys)) (ap is_lt (sym (cmp_is x y))) ∙ ap (λ rest. is_lt ((node_ord.ghosts).cmp x y) && rest) (all_above x ys)

ascends_alike : (ids : List NodeId) → ascends elem_cmp (map Node ids) ≡ ascends (node_ord.ghosts).cmp ids
ascends_alike [] = refl
ascends_alike (x ∷ xs) =
    ap (λ b. b && ascends elem_cmp (map Node xs)) (all_above x xs) ∙ ap (λ rest. list_all (λ later. is_lt ((node_ord.ghosts).cmp x later)) xs && rest) (ascends_alike xs)

sum_nodes : (f : Elem → ℕ) (ids : List NodeId) → sum_by f (map Node ids) ≡ sum_by (λ id. f (Node id)) ids
sum_nodes f [] = refl
sum_nodes f (x ∷ xs) =
    let rest = sum_nodes f xs in
    let one = sum_by-cons f (Node x) (map Node xs) in
    let other = sum_by-cons (λ id. f (Node id)) x xs in
    omega (arith, rest, one, other)

-- ---- of pairs

module _ (var : ℕ) (count : Stand → ℕ) where
  abbrev count_at : Elem → ℕ
  count_at elem = count (stand_at var elem)

  abbrev if_at : Stand → ℕ
  if_at stand = cond (stand.var == var) (count stand) 0

  sum_at : (pairs : List Stand) → sum_by count_at (elems_at var pairs) ≡ sum_by if_at pairs
  sum_at [] = refl
  sum_at (stand ∷ pairs) = by (stand.var == var) refl (sum_at pairs) (sum_by-cons if_at stand pairs)
    where
      by : (b : Bool) → (stand.var == var) ≡ b → sum_by count_at (elems_at var pairs) ≡ sum_by if_at pairs → sum_by if_at (stand ∷ pairs) ≡ if_at stand + sum_by if_at pairs →
          sum_by count_at (elems_at var (stand ∷ pairs)) ≡ sum_by if_at (stand ∷ pairs)
      by true is rest all =
          let same : stand.var ≡ var = eqb-true stand.var var is in
          let own : count_at stand.elem ≡ count stand = ap (λ v. count (stand_at v stand.elem)) (sym same) in
          let here : if_at stand ≡ count stand = ap (λ b. cond b (count stand) 0) is in
          let list : elems_at var (stand ∷ pairs) ≡ stand.elem ∷ elems_at var pairs =
          ap (λ b. map (λ (s : Stand). s.elem) (cond b (stand ∷ filter (λ (s : Stand). s.var == var) pairs) (filter (λ (s : Stand). s.var == var) pairs))) is in
          let sum = ap (sum_by count_at) list in
          let cons = sum_by-cons count_at stand.elem (elems_at var pairs) in
          omega (arith, rest, all, own, here, sum, cons)
      by false is rest all =
          let here : if_at stand ≡ 0 = ap (λ b. cond b (count stand) 0) is in
          let list : elems_at var (stand ∷ pairs) ≡ elems_at var pairs =
          ap (λ b. map (λ (s : Stand). s.elem) (cond b (stand ∷ filter (λ (s : Stand). s.var == var) pairs) (filter (λ (s : Stand). s.var == var) pairs))) is in
          let sum = ap (sum_by count_at) list in
          omega (arith, rest, all, here, sum)

all_among : (elems : List Elem) (ids : List NodeId) → ((id : NodeId) → Contains ids id → list_any (same_elem (Node id)) elems ≡ true) → list_all (λ x. list_any (same_elem x) elems) (map Node ids) ≡ true
all_among elems [] each = refl
all_among elems (x ∷ xs) each = and_from _ _ (each x (0, omega arith, refl)) (all_among elems xs (λ y it. each y (suc it.0, omega (arith, it.1), it.2)))

pub are_apart : (ids : List NodeId) → IsStrictlySortedBy (node_ord.ghosts).cmp ids → AreApart ids
are_apart ids rising = λ var pairs count has.
    let order = ascends_alike ids ∙ (ascends_decides (node_ord.ghosts).cmp ids).1 rising in
    let here : (id : NodeId) → Contains ids id → list_any (same_elem (Node id)) (elems_at var pairs) ≡ true =
    λ id it.
    let own = has id it in
    at_var (same_elem (Node id)) var pairs
    ∙ list_any_at (λ (s : Stand). s.var == var && same_elem (Node id) s.elem) pairs own.0 (stand_at var (Node id)) own.1
    (ap (λ (s : Stand). s.var == var && same_elem (Node id) s.elem) own.2 ∙ and_from _ _ (eq-eqb var var refl) (itself (Node id))) in
    let less = sum_among (count_at var count) (map Node ids) (elems_at var pairs) order (all_among (elems_at var pairs) ids here) in
    let nodes = sum_nodes (count_at var count) ids in
    let all = sum_at var count pairs in
    omega (arith, less, nodes, all)
