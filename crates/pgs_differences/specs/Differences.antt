-- The differences of a pair and a shape: why the pair isn't in the shape. There are five kinds, in this order, and each kind
-- ascends by label or key.
use Rattle.std.specs.Prelude.{◌≡◌, ℕ, Bool, false, ◌||◌, List, [], ◌∷◌, ◌++◌, Option, Some, None, Contains, flat_map, if◌then◌else◌}
use Rattle.std.specs.Map.{keys_of}
use Rattle.pgs_base.specs.declared.row.NodeRow.{NodeRow}
use Rattle.pgs_base.specs.declared.value.Value.{Value}
use Rattle.pgs_base.specs.Pair.{has_name, value_at}
use Rattle.pgs_base.specs.Value.{kind_of}
use Rattle.pgs_conform.specs.declared.options.Options.{Options}
use Rattle.pgs_conform.specs.declared.shape.Shape.{Shape}
use Rattle.pgs_conform.specs.Shapes.{admits_kind}
use Rattle.pgs_differences.specs.declared.difference.Difference.{Difference}
use Rattle.pgs_differences.specs.declared.difference.Difference.TheVariants.{LacksLabel, FurtherLabel, LacksKey, OtherKind, FurtherKey}

-- Whether something is a difference of a pair and a shape: a label that the shape asks for and the pair lacks; a label of the pair
-- that the shape doesn't name, where no more are free; a key that may not be absent and is; a key with a value of a kind that may
-- not stand there; a key of the pair that the shape doesn't name, where no more are free.
abbrev pub IsDifference : Shape → NodeRow → Difference → Type 0
IsDifference shape p (LacksLabel label) = Contains shape.labels label × (has_name label p.labels ≡ false)
IsDifference shape p (FurtherLabel label) =
    (shape.more_labels ≡ false) × Contains p.labels label × (has_name label shape.labels ≡ false)
IsDifference shape p (LacksKey key options) =
    Contains shape.keys (key, options) × (options.absent ≡ false) × (value_at key p.props ≡ None)
IsDifference shape p (OtherKind key kind options) =
    Contains shape.keys (key, options) × (admits_kind options kind ≡ false)
    × ((value : Value) × (value_at key p.props ≡ Some value) × (kind_of value ≡ kind))
IsDifference shape p (FurtherKey key) =
    (shape.more_keys ≡ false) × Contains (keys_of p.props) key × (has_name key (keys_of shape.keys) ≡ false)

-- the difference that a label or a key makes, where it makes one
abbrev pub of_asked_label : List (List ℕ) → List ℕ → List Difference
of_asked_label labels label = if has_name label labels then [] else LacksLabel label ∷ []

abbrev pub of_label : Bool → List (List ℕ) → List ℕ → List Difference
of_label more asked label = if more || has_name label asked then [] else FurtherLabel label ∷ []

abbrev pub of_absent : List ℕ × Options → Option Value → List Difference
of_absent key None = if key.1.absent then [] else LacksKey key.0 key.1 ∷ []
of_absent key (Some value) = []

abbrev pub of_present : List ℕ × Options → Option Value → List Difference
of_present key None = []
of_present key (Some value) = if admits_kind key.1 (kind_of value) then [] else OtherKind key.0 (kind_of value) key.1 ∷ []

abbrev pub of_key : Bool → List (List ℕ × Options) → List ℕ × Value → List Difference
of_key more keys entry = if more || has_name entry.0 (keys_of keys) then [] else FurtherKey entry.0 ∷ []

-- the differences of labels and a shape
unfoldable pub label_differences : Shape → List (List ℕ) → List Difference
label_differences shape labels =
    flat_map (of_asked_label labels) shape.labels ++ flat_map (of_label shape.more_labels shape.labels) labels

-- the differences of properties that are there and a shape
unfoldable pub present_differences : Shape → List (List ℕ × Value) → List Difference
present_differences shape props =
    flat_map (λ (key : List ℕ × Options). of_present key (value_at key.0 props)) shape.keys
    ++ flat_map (of_key shape.more_keys shape.keys) props

-- the differences of properties and a shape
unfoldable pub key_differences : Shape → List (List ℕ × Value) → List Difference
key_differences shape props =
    flat_map (λ (key : List ℕ × Options). of_absent key (value_at key.0 props)) shape.keys ++ present_differences shape props

-- the differences of a pair and a shape, in order
abbrev pub differences : Shape → NodeRow → List Difference
differences shape p = label_differences shape p.labels ++ key_differences shape p.props
