-- What two shapes have in common, and the plainest properties of a shape, as the code makes them.
use Rattle.std.specs.Prelude.{ℕ, Bool, false, ◌&&◌, ◌||◌, List, [], ◌∷◌, Option}
use Rattle.std.specs.List.{list_all}
use Rattle.std.specs.Option.{option_map_or}
use Rattle.pgs_base.specs.declared.row.NodeRow.{NodeRow}
use Rattle.pgs_base.specs.declared.value.Value.{Value}
use Rattle.pgs_base.specs.Pair.{has_name}
use Rattle.pgs_syntax.specs.Join.{PairTriple}
use Rattle.pgs_conform.specs.declared.options.Options.{Options}
use Rattle.pgs_conform.specs.declared.shape.Shape.{Shape}
use Rattle.pgs_conform.specs.declared.shape.Triple.{Triple as ShapeTriple}
use Rattle.pgs_conform.specs.Shapes.{in_shape, in_triple, in_some}
use Rattle.pgs_conform.specs.JoinedOptions.{options_at}
use Rattle.pgs_contain.specs.Regions.{common_options, is_possible, plainest}
use Rattle.pgs_contain.specs.Rows.{row_before}

-- whether a shape may have all of these labels
abbrev pub allows : Shape → List (List ℕ) → Bool
allows shape labels = list_all (λ label. shape.more_labels || has_name label shape.labels) labels

-- whether each of two shapes may have the labels of the other
abbrev pub may_meet : Shape → Shape → Bool
may_meet first second = allows first second.labels && allows second first.labels

-- what may stand at a key in both
abbrev pub common_at : Shape → Shape → List ℕ → Options
common_at first second k = common_options (options_at first.keys first.more_keys k) (options_at second.keys second.more_keys k)

abbrev pub common_key : Shape → Shape → List ℕ → List ℕ × Options
common_key first second k = (k, common_at first second k)

-- whether a pair is in what two shapes have in common, a shape or nothing, and a triple in what two triples of shapes have
abbrev pub in_common : Option Shape → NodeRow → Bool
in_common answer p = option_map_or (λ shape. in_shape shape p) answer false

abbrev pub in_common_triple : Option ShapeTriple → PairTriple → Bool
in_common_triple answer t = option_map_or (λ shapes. in_triple shapes t) answer false

-- whether something may stand at each key
abbrev pub are_possible : List (List ℕ × Options) → Bool
are_possible keys = list_all (λ (key : List ℕ × Options). is_possible key.1) keys

-- the plainest properties: at each key the plainest that may stand there
abbrev pub plain_props : List (List ℕ × Options) → List (List ℕ × Value)
plain_props [] = []
plain_props (key ∷ keys) = row_before key.0 (plainest key.1) (plain_props keys)

-- whether both ends of a triple are in some shapes
abbrev pub ends_in : List Shape → PairTriple → Bool
ends_in shapes t = in_some shapes t.source && in_some shapes t.target
