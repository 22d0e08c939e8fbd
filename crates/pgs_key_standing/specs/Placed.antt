-- A pattern whose variables are places, and what it asks of the pairs at them: each place has an element of its own, and each edge
-- place the ends that the pattern first gives it.
use Rattle.std.specs.Prelude.{◌≡◌, ℕ, ◌+◌, Bool, true, false, ◌&&◌, ◌==◌, List, [], ◌∷◌, length, Some, slice_get, is_some, if◌then◌else◌}
use Rattle.std.specs.Option.{option_map_or}
use Rattle.std.specs.List.{list_any, list_all}
use Rattle.pgs_base.specs.declared.row.NodeRow.{NodeRow}
use Rattle.pgs_base.specs.Pair.{has_name, value_at, is_pair}
use Rattle.pgs_syntax.specs.declared.pattern.Atom.{Atom}
use Rattle.pgs_syntax.specs.declared.pattern.Atom.TheVariants.{Ends, HasLabel, FitsNode, FitsEdge, Equals}
use Rattle.pgs_syntax.specs.declared.pattern.Expr.{Expr}
use Rattle.pgs_syntax.specs.declared.pattern.Expr.TheVariants.{Element, Property}
use Rattle.pgs_syntax.specs.declared.resolved.Resolved.{Resolved}
use Rattle.pgs_syntax.specs.Fitting.{fits_node, fits_edge}
use Rattle.pgs_syntax.specs.Join.{PairTriple}
use Rattle.pgs_syntax.specs.Matches.{same_value}
use Rattle.pgs_syntax.specs.Valid.{is_edge_var, is_node_var, gives_ends}
use Rattle.pgs_conform.specs.Shapes.{triple_of}
use Rattle.pgs_standing.specs.Standing.{can_stand_node, can_stand_edge}
pub use Rattle.pgs_key_standing.specs.declared.placed.Placed.{Placed}

-- the places of the source and the target of an edge place, as they are first given
abbrev pub ends_of : List Atom → ℕ → ℕ × ℕ
ends_of [] edge = (0, 0)
ends_of (Ends e source target ∷ atoms) edge = if edge == e then (source, target) else ends_of atoms edge
ends_of (_ ∷ atoms) edge = ends_of atoms edge

-- whether the pair at a place is there and passes a test, and whether those of an edge and its ends are, as a triple
abbrev pub passes_at : List NodeRow → ℕ → (NodeRow → Bool) → Bool
passes_at ps place test = option_map_or test (slice_get ps place) false

abbrev pub pass_at : List NodeRow → ℕ → ℕ × ℕ → (PairTriple → Bool) → Bool
pass_at ps edge ends test =
    passes_at ps ends.0 (λ source. passes_at ps edge (λ own. passes_at ps ends.1 (λ target. test (triple_of source own target))))

-- whether an atom speaks of places of its kinds, and gives an edge the ends that it is first given
abbrev pub fits_places : List Bool → List Atom → Atom → Bool
fits_places kinds atoms (Ends edge source target) =
    is_edge_var kinds edge && (ends_of atoms edge).0 == source && (ends_of atoms edge).1 == target
fits_places kinds atoms (FitsNode place number) = is_node_var kinds place
fits_places kinds atoms (FitsEdge place number) = is_edge_var kinds place
fits_places kinds atoms _ = true

-- a pattern is placed: each edge place has ends, which are node places, and each atom fits the places
pub record IsPlaced (placed : Placed) : Type 0 where
  pub ends : (edge : ℕ) → slice_get placed.kinds edge ≡ Some true →
      (slice_get placed.kinds (ends_of placed.atoms edge).0 ≡ Some false) × (slice_get placed.kinds (ends_of placed.atoms edge).1 ≡ Some false)
      × (list_any (gives_ends edge) placed.atoms ≡ true)
  pub atoms : list_all (fits_places placed.kinds placed.atoms) placed.atoms ≡ true

-- whether pairs are as an atom asks, and an expression
abbrev pub asks : Resolved → List Atom → List NodeRow → Atom → Bool
asks resolved atoms ps (Ends edge source target) = true
asks resolved atoms ps (HasLabel place label) = passes_at ps place (λ p. has_name label p.labels)
asks resolved atoms ps (FitsNode place number) = passes_at ps place (fits_node resolved number)
asks resolved atoms ps (FitsEdge edge number) = pass_at ps edge (ends_of atoms edge) (fits_edge resolved number)
asks resolved atoms ps (Equals place key value) = passes_at ps place (λ p. option_map_or (same_value value) (value_at key p.props) false)

abbrev pub asks_present : List NodeRow → Expr → Bool
asks_present ps (Element place) = true
asks_present ps (Property place key) = passes_at ps place (λ p. is_some (value_at key p.props))

-- whether what is at a place, an edge or a node, can stand, and what is at places, the first of which has this number
abbrev pub stands_at : Resolved → List Atom → List NodeRow → ℕ → Bool → Bool
stands_at resolved atoms ps place true = pass_at ps place (ends_of atoms place) (can_stand_edge resolved)
stands_at resolved atoms ps place false = passes_at ps place (can_stand_node resolved)

abbrev pub stand_from : Resolved → List Atom → List NodeRow → ℕ → List Bool → Bool
stand_from resolved atoms ps i [] = true
stand_from resolved atoms ps i (is_edge ∷ kinds) = stands_at resolved atoms ps i is_edge && stand_from resolved atoms ps (i + 1) kinds

-- whether pairs are all that a placed pattern asks, and can stand
abbrev pub ask_all : Resolved → Placed → List NodeRow → Bool
ask_all resolved placed ps =
    stand_from resolved placed.atoms ps 0 placed.kinds && list_all (asks resolved placed.atoms ps) placed.atoms
    && list_all (asks_present ps) placed.exprs

-- there are as many pairs as places, which are all that it asks, and can stand
pub record HasPairs (resolved : Resolved) (placed : Placed) : Type 0 where
  pub ps : List NodeRow
  pub pairs : list_all is_pair ps ≡ true
  pub count : length ps ≡ length placed.kinds
  pub asked : ask_all resolved placed ps ≡ true

-- there are none such
abbrev pub LacksPairs : Resolved → Placed → Type 0
LacksPairs resolved placed = (ps : List NodeRow) → list_all is_pair ps ≡ true → length ps ≡ length placed.kinds → ask_all resolved placed ps ≡ false
