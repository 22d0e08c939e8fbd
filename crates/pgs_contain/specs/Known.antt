-- The names that shapes name, as the code gathers them; and how many of names begin with some bytes.
use Rattle.std.specs.Prelude.{◌≡◌, ℕ, zero, suc, ◌*◌, Bool, true, false, ◌&&◌, ◌||◌, not, List, [], ◌∷◌, ◌++◌, ◌==◌, count_by}
use Rattle.std.specs.List.{list_any}
use Rattle.std.specs.Map.{keys_of}
use Rattle.pgs_base.specs.Pair.{has_name}
use Rattle.pgs_conform.specs.declared.shape.Shape.{Shape}
use Rattle.pgs_conform.specs.declared.shape.Triple.{Triple as ShapeTriple}
use Rattle.pgs_conform.specs.Shapes.{labels_meet}
use Rattle.pgs_contain.specs.declared.labels_of_three.LabelsOfThree.{LabelsOfThree}

-- the labels that shapes name, one after another, and those of triples of shapes
abbrev pub labels_in : List Shape → List (List ℕ)
labels_in [] = []
labels_in (shape ∷ more) = shape.labels ++ labels_in more

abbrev pub labels_in_triples : List ShapeTriple → List (List ℕ)
labels_in_triples [] = []
labels_in_triples (triple ∷ more) = (triple.source.labels ++ (triple.middle.labels ++ triple.target.labels)) ++ labels_in_triples more

-- whether a shape doesn't name a label, and whether none of three does
abbrev pub lacks_label : List ℕ → Shape → Bool
lacks_label label shape = not (has_name label shape.labels)

abbrev pub lacks_label_three : List ℕ → ShapeTriple → Bool
lacks_label_three label triple = lacks_label label triple.source && lacks_label label triple.middle && lacks_label label triple.target

-- whether a shape that may have labels names a key, and whether one of some does
abbrev pub names_if_met : List (List ℕ) → List ℕ → Shape → Bool
names_if_met labels key shape = labels_meet shape.labels shape.more_labels labels && has_name key (keys_of shape.keys)

abbrev pub names_met_key : List Shape → List (List ℕ) → List ℕ → Bool
names_met_key shapes labels key = list_any (names_if_met labels key) shapes

-- whether one of three shapes is free in keys
abbrev pub any_free : ShapeTriple → Bool
any_free triple = triple.source.more_keys || triple.middle.more_keys || triple.target.more_keys

-- whether one of three shapes names a key
abbrev pub three_name : ShapeTriple → List ℕ → Bool
three_name triple key =
    has_name key (keys_of triple.source.keys) || (has_name key (keys_of triple.middle.keys) || has_name key (keys_of triple.target.keys))

-- whether a triple of shapes may have the labels of three frames
abbrev pub three_meet : ShapeTriple → LabelsOfThree → Bool
three_meet triple labels =
    labels_meet triple.source.labels triple.source.more_labels labels.source
    && labels_meet triple.middle.labels triple.middle.more_labels labels.middle
    && labels_meet triple.target.labels triple.target.more_labels labels.target

-- whether a triple of shapes that may have these labels names a key, and whether one of some does
abbrev pub three_name_if_met : LabelsOfThree → List ℕ → ShapeTriple → Bool
three_name_if_met labels key triple = three_meet triple labels && three_name triple key

abbrev pub three_name_met_key : List ShapeTriple → LabelsOfThree → List ℕ → Bool
three_name_met_key triples labels key = list_any (three_name_if_met labels key) triples

-- whether a name begins with bytes
abbrev pub begins_with : List ℕ → List ℕ → Bool
begins_with [] name = true
begins_with (b ∷ bs) [] = false
begins_with (b ∷ bs) (c ∷ cs) = b == c && begins_with bs cs

-- how many names begin with bytes
abbrev pub count_beginning : List ℕ → List (List ℕ) → ℕ
count_beginning bytes names = count_by (begins_with bytes) names

-- two, so many times with itself
abbrev pub doubled : ℕ → ℕ
doubled zero = 1
doubled (suc n) = 2 * doubled n
