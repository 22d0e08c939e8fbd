-- What is asked of the pairs at places, and when there are pairs that meet it all.
use Rattle.std.specs.Prelude.{◌≡◌, ℕ, Bool, true, false, ◌&&◌, List, [], ◌∷◌, Option, slice_get}
use Rattle.std.specs.Option.{option_map_or}
use Rattle.std.specs.List.{list_any, list_all}
use Rattle.pgs_base.specs.declared.row.NodeRow.{NodeRow}
use Rattle.pgs_base.specs.Pair.{is_pair}
use Rattle.pgs_conform.specs.declared.shape.Shape.{Shape}
use Rattle.pgs_conform.specs.declared.shape.Triple.{Triple as ShapeTriple}
use Rattle.pgs_conform.specs.Shapes.{in_shape}
use Rattle.pgs_standing.specs.Standing.{is_small}
use Rattle.pgs_key_standing.specs.declared.demand.Demand.{Demand}
use Rattle.pgs_key_standing.specs.declared.demand.Demand.TheVariants.{One, Three}

-- whether each is a pair that an element can carry
abbrev pub are_small : List NodeRow → Bool
are_small ps = list_all (λ p. is_pair p && is_small p) ps

-- whether pairs are in shapes, one in each
abbrev pub are_in : List Shape → List NodeRow → Bool
are_in [] [] = true
are_in [] (p ∷ ps) = false
are_in (shape ∷ shapes) [] = false
are_in (shape ∷ shapes) (p ∷ ps) = in_shape shape p && are_in shapes ps

-- whether the pair at a place is there and in a shape, and those at three places in three
abbrev pub is_in : List NodeRow → ℕ → Shape → Bool
is_in ps place shape = option_map_or (in_shape shape) (slice_get ps place) false

abbrev pub are_in_three : List NodeRow → ℕ → ℕ → ℕ → ShapeTriple → Bool
are_in_three ps source middle target shapes =
    is_in ps source shapes.source && is_in ps middle shapes.middle && is_in ps target shapes.target

-- whether pairs meet a demand
abbrev pub meets : List NodeRow → Demand → Bool
meets ps (One place shapes) = list_any (is_in ps place) shapes
meets ps (Three source middle target triples) = list_any (are_in_three ps source middle target) triples

-- whether pairs are in one of several lists of shapes, and in what is left of a list: shapes, or nothing
abbrev pub in_some_way : List (List Shape) → List NodeRow → Bool
in_some_way ways ps = list_any (λ places. are_in places ps) ways

abbrev pub in_way : Option (List Shape) → List NodeRow → Bool
in_way answer ps = option_map_or (λ places. are_in places ps) answer false

-- shapes in which, place by place, the same pairs are
abbrev pub AreSame : List Shape → List Shape → Type 0
AreSame [] [] = Unit {0}
AreSame [] (b ∷ bs) = ⊥
AreSame (a ∷ as') [] = ⊥
AreSame (a ∷ as') (b ∷ bs) = ((p : NodeRow) → in_shape a p ≡ in_shape b p) × AreSame as' bs

-- a small pair is in the shape of each place, and in that of some place none is
abbrev pub HaveSmall : List Shape → Type 0
HaveSmall places = (ps : List NodeRow) × (are_small ps ≡ true) × (are_in places ps ≡ true)

abbrev pub LackSmall : List Shape → Type 0
LackSmall places = (ps : List NodeRow) → are_small ps ≡ true → are_in places ps ≡ false

-- whether pairs are in the shapes of the places and meet all demands
abbrev pub meet_all : List Shape → List Demand → List NodeRow → Bool
meet_all places demands ps = are_in places ps && list_all (meets ps) demands

-- there are such pairs, and there are none
abbrev pub CanMeet : List Shape → List Demand → Type 0
CanMeet places demands = (ps : List NodeRow) × (are_small ps ≡ true) × (meet_all places demands ps ≡ true)

abbrev pub CannotMeet : List Shape → List Demand → Type 0
CannotMeet places demands = (ps : List NodeRow) → are_small ps ≡ true → meet_all places demands ps ≡ false

-- demands with some more, which ask for what a test does
abbrev pub Adds : List Demand → List Demand → (List NodeRow → Bool) → Type 0
Adds old new test = (ps : List NodeRow) → are_small ps ≡ true → list_all (meets ps) new ≡ (list_all (meets ps) old && test ps)
