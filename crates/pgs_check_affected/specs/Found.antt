-- What the searches from a change give, before it is put in order.
use Rattle.std.specs.Prelude.{◌≡◌, ◌⊎◌, ◌+◌, ◌*◌, ◌^◌, ◌≤◌, ℕ, zero, suc, Bool, true, false, ◌||◌, ◌==◌, cond, Option, List, [], ◌∷◌, ◌++◌, length, map, flat_map}
use Rattle.std.specs.Option.{option_map_or}
use Rattle.std.specs.List.{list_any}
use Rattle.pgs_base.specs.declared.element.Elem.{Elem}
use Rattle.pgs_base.specs.declared.element.Elem.TheVariants.{Node, Edge}
use Rattle.pgs_base.specs.declared.row.NodeRow.{NodeRow}
use Rattle.pgs_base.specs.Graph.{Graph}
use Rattle.pgs_graph.specs.Reads.{out_edges_of, in_edges_of}
use Rattle.pgs_syntax.specs.declared.key.Key.{Key}
use Rattle.pgs_syntax.specs.declared.pattern.Pattern.{Pattern}
use Rattle.pgs_syntax.specs.declared.resolved.Resolved.{Resolved}
use Rattle.pgs_syntax.specs.Matches.{carried}
use Rattle.pgs_syntax.specs.Valid.{is_edge_var}
use Rattle.pgs_match.specs.declared.stand.Stand.{Stand}
use Rattle.pgs_match.specs.Near.{IsNearTo}
use Rattle.pgs_match.specs.Planned.{most_edges}
use Rattle.pgs_match.specs.Reached.{reached}
use Rattle.pgs_match.specs.Spread.{stand_at}
use Rattle.pgs_match.specs.Tests.{own_passes}
use Rattle.pgs_check_affected.specs.declared.known.Known.{Known}
use Rattle.pgs_check_affected.specs.Local.{is_one_of}
use Rattle.pgs_check_affected.specs.Touched.{AreSparseInBoth}

-- whether an element's own row in a graph passes what a pattern asks of a variable
abbrev pub passes : Resolved → Graph → Pattern → ℕ → Elem → Bool
passes resolved g pattern var elem = option_map_or (own_passes resolved pattern var elem) (carried g elem) false

-- the edges at a node, those that go out first
abbrev pub edges_at : Graph → Elem → List Elem
edges_at g (Node id) = map (λ edge. Edge edge) (out_edges_of g id) ++ map (λ edge. Edge edge) (in_edges_of g id)
edges_at g (Edge id) = []

module _ (resolved : Resolved) (g h : Graph) (elem : Elem) where
  -- from an element, in a pattern of one variable: itself, where it passes in either graph; and where the variable is an edge, the
  -- edges at it in both
  abbrev pub found_alone : Pattern → List Elem
  found_alone pattern =
      cond (passes resolved g pattern 0 elem || passes resolved h pattern 0 elem) (elem ∷ []) []
      ++ cond (is_edge_var pattern.edge_vars 0) (edges_at g elem ++ edges_at h elem) []

  -- in a pattern of more: what is reached in both graphs where one of the first variables takes it
  abbrev pub found_from : Pattern → ℕ → List Elem
  found_from pattern zero = []
  found_from pattern (suc vars) = found_from pattern vars ++ (reached resolved g pattern vars elem ++ reached resolved h pattern vars elem)

  abbrev pub found_in : Pattern → List Elem
  found_in pattern = cond (length pattern.edge_vars == 1) (found_alone pattern) (found_from pattern (length pattern.edge_vars))

  -- in those patterns of a key that are asked for
  abbrev pub found_by : Bool → Bool → Key → List Elem
  found_by scope descriptor key = cond scope (found_in key.scope) [] ++ cond descriptor (found_in key.descriptor) []

-- from all elements of a change
abbrev pub found : Resolved → Graph → Graph → Bool → Bool → Key → List Elem → List Elem
found resolved g h scope descriptor key elems = flat_map (λ elem. found_by resolved g h elem scope descriptor key) elems

-- ---- from all elements together

-- an element at each of the first variables that its row passes
abbrev pub starts_of : Resolved → Pattern → Elem → Option NodeRow → ℕ → List Stand
starts_of resolved pattern elem own zero = []
starts_of resolved pattern elem own (suc vars) =
    starts_of resolved pattern elem own vars ++ cond (option_map_or (own_passes resolved pattern vars elem) own false) (stand_at vars elem ∷ []) []

-- the row of an element of a change in the new graph, or in the old one
abbrev pub row_in : Bool → Known → Option NodeRow
row_in true known = known.after
row_in false known = known.before

-- What is spread from elements in a pattern: what is found is among it; each of it lies within so many edges of one of the elements in either
-- graph; and it is little where no node near them has many edges.
pub record IsSpread (resolved : Resolved) (g h : Graph) (edges : ℕ) (pattern : Pattern) (elems items : List Elem) : Type 0 where
  pub all : (x : Elem) → list_any (λ elem. is_one_of (found_in resolved g h elem pattern) x) elems ≡ true → is_one_of items x ≡ true
  pub near : (x : Elem) → is_one_of items x ≡ true →
      (elem : Elem) × (is_one_of elems elem ≡ true) × (IsNearTo g edges elem x ⊎ IsNearTo h edges elem x)
  pub few : (most : ℕ) → AreSparseInBoth g h edges elems most → length items ≤ length elems * (40 * (most + 2) ^ edges)

-- what is spread in a pattern that isn't searched from each element by itself
abbrev pub IsMore : Resolved → Graph → Graph → ℕ → Bool → Pattern → List Elem → List Elem → Type 0
IsMore resolved g h edges true pattern elems items = items ≡ []
IsMore resolved g h edges false pattern elems items = IsSpread resolved g h edges pattern elems items

-- What is found in both patterns: in those that are searched from each element by itself what is found there, and in the others what is spread.
pub record IsFoundByAll (resolved : Resolved) (g h : Graph) (key : Key) (elems items : List Elem) : Type 0 where
  pub by_scope : Bool
  pub by_descriptor : Bool
  pub scope : List Elem
  pub descriptor : List Elem
  pub is : items ≡ (found resolved g h by_scope by_descriptor key elems ++ scope) ++ descriptor
  pub in_scope : IsMore resolved g h (most_edges key) by_scope key.scope elems scope
  pub in_descriptor : IsMore resolved g h (most_edges key) by_descriptor key.descriptor elems descriptor
