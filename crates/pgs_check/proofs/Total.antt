-- What a whole check takes, by the degrees near a delta.
use Rattle.std.proofs.Common.{◌≡◌, ℕ, zero, suc, ◌+◌, ◌*◌, ◌^◌, ◌≤◌, true, List, [], ◌∷◌, ◌++◌, map, length, refl, sym, ◌∙◌, ap, subst, ⊎_elim, eq-eqb, arith}
use Rattle.std.specs.Prelude.{Contains, filter}
use Rattle.std.specs.Map.{keys_of}
use Rattle.std.proofs.Math.Nat.{mul-le-mul_right}
use Rattle.std.proofs.lemmas.Bool.{or_left}
use Rattle.std.proofs.lemmas.List.Elements.{Contains-append_left}
use Rattle.pgs_base.specs.declared.element.NodeId.{NodeId}
use Rattle.pgs_base.specs.declared.element.Elem.{Elem}
use Rattle.pgs_base.specs.declared.element.Elem.TheVariants.{Node, Edge}
use Rattle.pgs_base.specs.Graph.{Graph}
use Rattle.pgs_graph.specs.declared.delta.Delta.{Delta}
use Rattle.pgs_overlay.specs.Standing.{row_count}
use Rattle.pgs_syntax.specs.Matches.{elements}
use Rattle.pgs_syntax.proofs.Members.{contains_none, contains_cases, contains_later}
use Rattle.pgs_match.specs.Near.{is_at_element}
use Rattle.pgs_check_affected.specs.Changes.{elems_of}
use Rattle.pgs_check_affected.specs.Touched.{is_beside, touched, is_near, AreSparse}
use Rattle.pgs_check.specs.Untyped.{HaveDegreesWithin}
use Rattle.pgs_check.proofs.Bounds.{whole_most}
use Rattle.pgs_check.proofs.KeyFirst.{there_listed}
use Rattle.pgs_check.proofs.Steps.{count_keys}

near_itself : (g h : Graph) (id : NodeId) (n : ℕ) → is_near g h n (Node id) id ≡ true
near_itself g h id zero = or_left (is_at_element g (Node id) id) (is_at_element h (Node id) id) (eq-eqb id.0 id.0 refl)
near_itself g h id (suc n) = or_left (is_near g h n (Node id) id) _ (near_itself g h id n)

node_there : (ids : List NodeId) (id : NodeId) → Contains ids id → Contains (map (λ id. Node id) ids) (Node id)
node_there [] id there = absurd (contains_none id there)
node_there (first ∷ ids) id there =
    ⊎_elim (λ (same : first ≡ id). (0, omega arith, ap (λ n. Node n) same))
    (λ later. contains_later (Node first) (map (λ id. Node id) ids) (Node id) (node_there ids id later)) (contains_cases first ids id there)

count_map : {X Y : Type 0} (f : X → Y) (xs : List X) → length (map f xs) ≡ length xs
count_map f [] = refl
count_map f (x ∷ xs) = ap suc (count_map f xs)

count_append : {X : Type 0} (xs ys : List X) → length (xs ++ ys) ≡ length xs + length ys
count_append [] ys = omega arith
count_append (x ∷ xs) ys = let rest = count_append xs ys in omega arith

module _ (g h : Graph) (delta : Delta) (edges most : ℕ) (sparse : AreSparse g h (2 * edges) (touched g (elems_of delta)) most) where
  abbrev pub u : ℕ
  u = length (touched g (elems_of delta))

  pub degrees : HaveDegreesWithin h (keys_of delta.nodes) most
  degrees id there =
      (sparse (Node id)
      (there_listed (touched g (elems_of delta)) (Node id)
      (Contains-append_left (elems_of delta) (filter (is_beside g (elems_of delta)) (elements g true)) (Node id)
      (Contains-append_left (map (λ id. Node id) (keys_of delta.nodes)) (map (λ id. Edge id) (keys_of delta.edges)) (Node id) (node_there (keys_of delta.nodes) id there))))
      id (near_itself g h id (2 * edges))).1

  elems_count : length (elems_of delta) ≡ row_count delta
  elems_count =
      count_append (map (λ id. Node id) (keys_of delta.nodes)) (map (λ id. Edge id) (keys_of delta.edges))
      ∙ (λ i. (count_map (λ id. Node id) (keys_of delta.nodes) ∙ count_keys delta.nodes) i + (count_map (λ id. Edge id) (keys_of delta.edges) ∙ count_keys delta.edges) i)

  elems_within : length (elems_of delta) ≤ u
  elems_within = let all = count_append (elems_of delta) (filter (is_beside g (elems_of delta)) (elements g true)) in omega arith

  pub rows_most : 4 * row_count delta * (most + 2) ≤ 4 * u * (most + 2)
  rows_most = let same = elems_count in let within = elems_within in mul-le-mul_right (most + 2) (omega arith)

  abbrev bound : ℕ → ℕ
  bound k = 3072 * (k + 1) * (u + 1) * (most + 2) ^ (2 * edges + 2)

  pub types_only : (k start types : ℕ) → types ≤ start + 4 * row_count delta * (most + 2) → types ≤ start + bound k
  types_only k start types one =
      let rows = rows_most in
      let all = whole_most most edges k u (4 * row_count delta * (most + 2)) 0 0 rows (omega arith) (omega arith) in
      omega arith

  pub types_read : (k start types read : ℕ) → types ≤ start + 4 * row_count delta * (most + 2) → read ≤ types + 2 * length (elems_of delta) → read ≤ start + bound k
  types_read k start types read one two =
      let rows = rows_most in
      let within = elems_within in
      let all = whole_most most edges k u (4 * row_count delta * (most + 2)) (2 * length (elems_of delta)) 0 rows (omega arith) (omega arith) in
      omega arith

  pub all_three : (k start types read keys : ℕ) → types ≤ start + 4 * row_count delta * (most + 2) → read ≤ types + 2 * length (elems_of delta) →
      keys ≤ read + k * (2048 * u * (most + 2) ^ (2 * edges + 2)) → keys ≤ start + bound k
  all_three k start types read keys one two three =
      let rows = rows_most in
      let within = elems_within in
      let all = whole_most most edges k u (4 * row_count delta * (most + 2)) (2 * length (elems_of delta)) (k * (2048 * u * (most + 2) ^ (2 * edges + 2))) rows (omega arith) (omega arith) in
      omega arith

-- the same of a change that is seen as these graphs and elements
pub moved_sparse : (g h b a : Graph) (elems es : List Elem) → b ≡ g → a ≡ h → es ≡ elems → (n most : ℕ) → AreSparse g h n (touched g elems) most → AreSparse b a n (touched b es) most
moved_sparse g h b a elems es one two three n most sparse =
    subst (λ x. AreSparse x a n (touched x es) most) (sym one) (subst (λ x. AreSparse g x n (touched g es) most) (sym two)
    (subst (λ xs. AreSparse g h n (touched g xs) most) (sym three) sparse))

pub moved_count : (g b : Graph) (elems es : List Elem) → b ≡ g → es ≡ elems → length (touched b es) ≡ length (touched g elems)
moved_count g b elems es one two = ap (λ x. length (touched x es)) one ∙ ap (λ xs. length (touched g xs)) two
