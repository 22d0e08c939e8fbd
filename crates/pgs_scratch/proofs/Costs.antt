-- How many look-ups it takes to confirm a violation.
use Rattle.std.proofs.Common.{◌≡◌, ℕ, zero, suc, ◌+◌, ◌*◌, ◌^◌, ◌≤◌, Bool, true, false, cond, List, [], ◌∷◌, ◌++◌, filter, length-append, length, slice_get, Some, Contains, sym, arith}
use Rattle.std.proofs.Math.Nat.{mul-le-mul_left, mul-le-mul_right, pow-le-pow_right}
use Rattle.std.proofs.lemmas.List.{length-map}
use Rattle.pgs_base.specs.declared.element.Elem.TheVariants.{Node, Edge}
use Rattle.pgs_base.specs.declared.element.NodeId.{NodeId}
use Rattle.pgs_base.specs.declared.element.EdgeId.{EdgeId}
use Rattle.pgs_base.specs.declared.row.NodeRow.{NodeRow}
use Rattle.pgs_base.specs.declared.row.EdgeRow.{EdgeRow}
use Rattle.pgs_base.specs.Graph.{Graph, element_count}
use Rattle.pgs_syntax.specs.declared.key.Key.{Key}
use Rattle.pgs_syntax.specs.declared.resolved.Resolved.{Resolved}
use Rattle.pgs_syntax.specs.KeyValues.{is_in_scope, scope_of}
use Rattle.pgs_syntax.specs.Matches.{elements}
use Rattle.pgs_scratch.specs.Confirmed.{key_numbered}

-- ---- how many elements there are

pub kind_count : (g : Graph) (is_edge : Bool) → length (elements g is_edge) ≤ element_count g
kind_count g true = let same = length-map g.edges (λ (edge : EdgeId × EdgeRow). Edge edge.0) in omega arith
kind_count g false = let same = length-map g.nodes (λ (node : NodeId × NodeRow). Node node.0) in omega arith

fewer : {X : Type 0} (p : X → Bool) (xs : List X) → length (filter p xs) ≤ length xs
fewer p [] = omega arith
fewer p (x ∷ xs) = by (p x) (fewer p xs)
  where
    by : (b : Bool) → length (filter p xs) ≤ length xs → length (cond b (x ∷ filter p xs) (filter p xs)) ≤ length (x ∷ xs)
    by true rest = omega arith
    by false rest = omega arith

pub scope_count : (resolved : Resolved) (g : Graph) (key : Key) → length (scope_of resolved g key) ≤ element_count g
scope_count resolved g key =
    let few = fewer (is_in_scope resolved g key) (elements g false ++ elements g true) in
    let both = length-append (elements g false) (elements g true) in
    let nodes = length-map g.nodes (λ (node : NodeId × NodeRow). Node node.0) in
    let edges = length-map g.edges (λ (edge : EdgeId × EdgeRow). Edge edge.0) in
    omega arith

-- ---- the sums

module _ (count power : ℕ) where
  -- a scope, and a search for each of its elements so far
  pub sharers : (kind i start listed now : ℕ) → kind ≤ count → i ≤ count → listed ≤ start + kind * (17 * power) → now ≤ listed + i * (16 * power) →
      now ≤ start + count * (33 * power)
  sharers kind i start listed now all some each more =
      let scope = mul-le-mul_right (17 * power) all in
      let searches = mul-le-mul_right (16 * power) some in
      omega arith

  -- a row, and those that share a value with it
  pub with_row : (start mid now : ℕ) → mid ≤ start + 32 * power → now ≤ mid + count * (33 * power) → now ≤ start + 33 * (count + 1) * power
  with_row start mid now row rest = omega arith

  pub row_alone : (start now : ℕ) → now ≤ start + 32 * power → now ≤ start + 33 * (count + 1) * power
  row_alone start now row = omega arith

  -- a few look-ups where the power is one at least
  pub few_alone : (start now : ℕ) → 1 ≤ power → now ≤ start + 3 → now ≤ start + 33 * (count + 1) * power
  few_alone start now one few = let all = mul-le-mul_left (33 * (count + 1)) one in omega arith

-- ---- the greatest number of edge variables

-- the key of a number is one of the keys
pub numbered_there : (keys : List Key) (number : ℕ) (key : Key) → Some key ≡ key_numbered keys number → Contains keys key
numbered_there keys zero key at = cc
numbered_there keys (suc place) key at = there keys place key (sym at)
  where
    there : (keys : List Key) (place : ℕ) (key : Key) → slice_get keys place ≡ Some key → Contains keys key
    there [] place key at = cc
    there (first ∷ keys) zero key at = (0, omega arith, let same : first ≡ key = cc in same)
    there (first ∷ keys) (suc place) key at = let rest = there keys place key at in (suc rest.0, omega (arith, rest.1), rest.2)

pub within_all : (count most edges own start now : ℕ) → own ≤ edges → now ≤ start + 33 * (count + 1) * (most + 2) ^ (own + 1) →
    now ≤ start + 33 * (count + 1) * (most + 2) ^ (edges + 1)
within_all count most edges own start now less h =
    let more : own + 1 ≤ edges + 1 = omega arith in
    let power = pow-le-pow_right {n = most + 2} (omega arith) more in
    let all = mul-le-mul_left (33 * (count + 1)) power in
    omega arith
