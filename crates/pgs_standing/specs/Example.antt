-- When a type can have no element, and what an example of a type is. Both speak of all pairs, and all triples of pairs, and know no
-- shapes.
use Rattle.std.specs.Prelude.{◌≡◌, ℕ, ◌+◌, ◌≤◌, Bool, true, false, ◌&&◌, length, Option, MatchOption}
use Rattle.pgs_base.specs.declared.row.NodeRow.{NodeRow}
use Rattle.pgs_base.specs.Pair.{is_pair}
use Rattle.pgs_syntax.specs.declared.resolved.Resolved.{Resolved}
use Rattle.pgs_syntax.specs.declared.resolved.TypeNo.{TypeNo}
use Rattle.pgs_syntax.specs.declared.resolved.TypeNo.TheVariants as types
use Rattle.pgs_syntax.specs.Fitting.{fits_node, fits_edge}
use Rattle.pgs_syntax.specs.Join.{PairTriple}
use Rattle.pgs_syntax.specs.Triples.{is_triple}
use Rattle.pgs_contain.specs.declared.outside.Outside.{Outside}
use Rattle.pgs_contain.specs.declared.outside.Outside.TheVariants as outsides
use Rattle.pgs_contain.specs.declared.outside.OwnedPair.{OwnedPair}
use Rattle.pgs_contain.specs.declared.triples.OwnedTriple.{OwnedTriple}
use Rattle.pgs_contain.specs.Contained.{is_plain, pair_in, triple_in}
use Rattle.pgs_contain.specs.Threes.{owned_triple}
use Rattle.pgs_standing.specs.Standing.{can_stand_node, can_stand_edge}

-- how many labels and properties there are
abbrev pub pair_size : NodeRow → ℕ
pair_size p = length p.labels + length p.props

abbrev pub triple_size : PairTriple → ℕ
triple_size t = pair_size t.source + (pair_size t.own + pair_size t.target)

-- What examples are of, pairs or triples of pairs: which rows are one, whether each value is the plainest of its kind, and how many
-- labels and properties there are.
pub record Carried (P : Type 0) : Type 0 where
  pub is_one : P → Bool
  pub is_plain_one : P → Bool
  pub size : P → ℕ

abbrev pub by_nodes : Carried NodeRow
by_nodes = record { is_one = is_pair; is_plain_one = is_plain; size = pair_size }

abbrev pub by_edges : Carried PairTriple
by_edges = record {
  is_one = is_triple;
  is_plain_one = λ t. is_plain t.source && is_plain t.own && is_plain t.target;
  size = triple_size;
}

-- none passes a test
abbrev pub NonePasses : {P : Type 0} → Carried P → (P → Bool) → Type 0
NonePasses {P} carried test = (q : P) → carried.is_one q ≡ true → test q ≡ false

-- one passes a test, has the plainest values, and none that passes has fewer labels and properties: so none of them can be left out
pub record IsPlainest {P : Type 0} (carried : Carried P) (test : P → Bool) (p : P) : Type 0 where
  pub is_one : carried.is_one p ≡ true
  pub passes : test p ≡ true
  pub plain : carried.is_plain_one p ≡ true
  pub fewest : (q : P) → carried.is_one q ≡ true → test q ≡ true → carried.size p ≤ carried.size q

-- whether a pair fits a node type and can stand, and a triple an edge type
abbrev pub serves_node : Resolved → ℕ → NodeRow → Bool
serves_node resolved number p = fits_node resolved number p && can_stand_node resolved p

abbrev pub serves_edge : Resolved → ℕ → PairTriple → Bool
serves_edge resolved number t = fits_edge resolved number t && can_stand_edge resolved t

-- nothing that fits the type can stand
abbrev pub IsNever : Resolved → TypeNo → Type 0
IsNever resolved (types.Node number) = NonePasses by_nodes (serves_node resolved number)
IsNever resolved (types.Edge number) = NonePasses by_edges (serves_edge resolved number)

-- an example of a node type is a pair, and of an edge type a triple
abbrev pub IsExample : Resolved → TypeNo → Outside → Type 0
IsExample resolved (types.Node number) (outsides.Node own) = IsPlainest by_nodes (serves_node resolved number) (pair_in own)
IsExample resolved (types.Node number) (outsides.Edge source middle target) = ⊥
IsExample resolved (types.Edge number) (outsides.Node own) = ⊥
IsExample resolved (types.Edge number) (outsides.Edge source middle target) =
    IsPlainest by_edges (serves_edge resolved number) (triple_in source middle target)

-- what a search for one that passes a test finds: the plainest, or that none passes
abbrev pub IsFoundPair : (NodeRow → Bool) → Option OwnedPair → Type 0
IsFoundPair test answer = MatchOption answer (NonePasses by_nodes test) (λ own. IsPlainest by_nodes test (pair_in own))

abbrev pub IsFoundTriple : (PairTriple → Bool) → Option OwnedTriple → Type 0
IsFoundTriple test answer = MatchOption answer (NonePasses by_edges test) (λ own. IsPlainest by_edges test (owned_triple own))
