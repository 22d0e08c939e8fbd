-- What the calls of a check of one key take, at each of its exits.
use Rattle.std.proofs.Common.{◌≡◌, ℕ, ◌+◌, ◌*◌, ◌^◌, ◌≤◌, List, [], ◌∷◌, length, Result, Ok, Err, IfOk, arith}
use Rattle.std.specs.List.{All, sum_by}
use Rattle.std.proofs.Math.Nat.{mul-le-mul_left}
use Rattle.std.proofs.lemmas.List.Sums.{sum_by-cons, count_by-le-length}
use Rattle.pgs_base.specs.declared.element.Elem.{Elem}
use Rattle.pgs_base.specs.Graph.{Graph}
use Rattle.pgs_match.specs.Near.{IsSparse}
use Rattle.pgs_match.proofs.Nearby.{within_less}
use Rattle.pgs_keyindex.specs.declared.change.KeyChange.{KeyChange}
use Rattle.pgs_keyindex.specs.Rows.{KeyRows}
use Rattle.pgs_check_affected.specs.Touched.{IsSparseInBoth}
use Rattle.pgs_check.specs.Clashes.{comes, look_ups, tuples_of}
use Rattle.pgs_check.proofs.Bounds.{power_more, low, high, one_low, key_most}

-- what is sparse within more edges is within fewer
pub fewer_edges : (g h : Graph) (less more most : ℕ) → less ≤ more → (elems : List Elem) → All (λ elem. IsSparseInBoth g h more elem most) elems →
    All (λ elem. IsSparse h less elem most) elems
fewer_edges g h less more most within elems sparse = λ k d below id near.
    (sparse k d below).1 id (within_less h _ less more id within near)

-- the look-ups for the owners of rows: at most one for each row and one for each of its tuples
pub look_ups_most : (index : KeyRows) (number : ℕ) (rows : List KeyChange) → sum_by (look_ups index number) rows ≤ length rows + sum_by (λ row. length (tuples_of row)) rows
look_ups_most index number [] = omega arith
look_ups_most index number (row ∷ rows) =
    let few = count_by-le-length (comes index number row.elem) (tuples_of row) in
    let rest = look_ups_most index number rows in
    let one = sum_by-cons (look_ups index number) row rows in
    let other = sum_by-cons (λ (r : KeyChange). length (tuples_of r)) row rows in
    omega arith

module _ (most own edges : ℕ) (within : own ≤ edges) (u count : ℕ) (few : count ≤ 80 * u * (most + 2) ^ edges) where
  rows_more : count * (32 * (most + 2) ^ (own + 1)) ≤ count * (32 * high most edges)
  rows_more =
      let power = power_more most (own + 1) (edges + 1) (omega arith) in
      mul-le-mul_left count (omega arith)

  owners_more : count * (most + 2) ^ own ≤ count * low most edges
  owners_more = mul-le-mul_left count (power_more most own edges within)

  pub whole_key : (start searched rows owned sum : ℕ) → searched ≤ start + 1280 * u * (most + 2) ^ (edges + 1) → rows ≤ searched + count * (32 * (most + 2) ^ (own + 1)) →
      owned ≤ rows + (count + sum) → sum ≤ count * (most + 2) ^ own → owned ≤ start + 2048 * u * (most + 2) ^ (2 * edges + 2)
  whole_key start searched rows owned sum one two three own_most =
      let more = rows_more in
      let most_owned = owners_more in
      let once : count * 1 ≤ count * low most edges = mul-le-mul_left count (one_low most edges) in
      let all = key_most most edges u count (1280 * u * (most + 2) ^ (edges + 1)) (count * (32 * (most + 2) ^ (own + 1))) (count + sum) (omega arith) few more (omega arith) in
      omega arith

  pub rows_only : (start searched rows : ℕ) → searched ≤ start + 1280 * u * (most + 2) ^ (edges + 1) → rows ≤ searched + count * (32 * (most + 2) ^ (own + 1)) →
      rows ≤ start + 2048 * u * (most + 2) ^ (2 * edges + 2)
  rows_only start searched rows one two =
      let more = rows_more in
      let all = key_most most edges u count (1280 * u * (most + 2) ^ (edges + 1)) (count * (32 * (most + 2) ^ (own + 1))) 0 (omega arith) few more (omega arith) in
      omega arith

  -- with the owners of what the rows give
  pub rows_owned : {T E : Type 0} (items : T → List KeyChange) (result : Result T E) (index : KeyRows) (number start searched rows : ℕ) →
      searched ≤ start + 1280 * u * (most + 2) ^ (edges + 1) → rows ≤ searched + count * (32 * (most + 2) ^ (own + 1)) →
      IfOk result (λ given. length (items given) ≡ count) → IfOk result (λ given. sum_by (λ row. length (tuples_of row)) (items given) ≤ count * (most + 2) ^ own) →
      IfOk result (λ given. rows + sum_by (look_ups index number) (items given) ≤ start + 2048 * u * (most + 2) ^ (2 * edges + 2))
  rows_owned items (Ok given) index number start searched rows one two size sum =
      let asked = look_ups_most index number (items given) in
      let all = whole_key start searched rows (rows + (count + sum_by (λ row. length (tuples_of row)) (items given))) (sum_by (λ row. length (tuples_of row)) (items given)) one two (omega arith) sum in
      omega arith
  rows_owned items (Err fault) index number start searched rows one two size sum = tt

-- the owners of what the rows of a local key give, which take no look-up themselves
pub local_owned : {T E : Type 0} (items : T → List KeyChange) (result : Result T E) (index : KeyRows) (number start most edges own u : ℕ) → own ≤ u →
    IfOk result (λ given. length (items given) + sum_by (λ row. length (tuples_of row)) (items given) ≤ 2 * own) →
    IfOk result (λ given. start + sum_by (look_ups index number) (items given) ≤ start + 2048 * u * (most + 2) ^ (2 * edges + 2))
local_owned items (Ok given) index number start most edges own u fewer few =
    let asked = look_ups_most index number (items given) in
    let one : u * 1 ≤ u * (most + 2) ^ (2 * edges + 2) = mul-le-mul_left u (one_low most (2 * edges + 2)) in
    omega arith
local_owned items (Err fault) index number start most edges own u fewer few = tt

pub search_only : (most edges u start searched : ℕ) → searched ≤ start + 1280 * u * (most + 2) ^ (edges + 1) →
    searched ≤ start + 2048 * u * (most + 2) ^ (2 * edges + 2)
search_only most edges u start searched one =
    let all = key_most most edges u 0 (1280 * u * (most + 2) ^ (edges + 1)) 0 0 (omega arith) (omega arith) (omega arith) (omega arith) in
    omega arith
