-- The frame of a shape: the labels that what is outside may have, the keys at which values may stand in it, and what may stand at
-- each. Where the shape is free in labels, or in keys, one is added that no shape names.
use Rattle.std.specs.Prelude.{◌≡◌, ℕ, Bool, true, false, ◌&&◌, ◌||◌, List, map, if◌then◌else◌}
use Rattle.std.specs.List.{list_any, list_all}
use Rattle.std.specs.Map.{keys_of}
use Rattle.pgs_base.specs.declared.row.NodeRow.{NodeRow}
use Rattle.pgs_base.specs.Pair.{same_name, has_name, put_name, is_pair}
use Rattle.pgs_conform.specs.declared.options.Options.{Options}
use Rattle.pgs_conform.specs.declared.shape.Shape.{Shape}
use Rattle.pgs_conform.specs.Shapes.{labels_meet, in_shape, in_some}
use Rattle.pgs_conform.specs.JoinedOptions.{options_at}
use Rattle.pgs_contain.specs.Regions.{Point, in_region}
use Rattle.pgs_contain.specs.declared.frame.Frame.{Frame}
use Rattle.pgs_contain.specs.Contained.{is_plain}
use Rattle.pgs_contain.specs.Known.{names_met_key}
use Rattle.pgs_contain.specs.Strange.{IsStrangeBut}

abbrev pub Names : Type 0
Names = List (List ℕ)

abbrev pub Keys : Type 0
Keys = List (List ℕ × Options)

-- a text, and nothing else
abbrev pub text_alone : Options
text_alone = record { absent = false; text = true; int = false; boolean = false; date = false }

-- the labels of what may be outside, of a shape's labels: with a further one where more are free
abbrev pub frame_labels : Bool → Names → List ℕ → Names
frame_labels more asked label = if more then put_name asked label else asked

-- the keys: all that are known and a further one where more are free, else the shape's
abbrev pub frame_keys : Bool → Keys → Names → List ℕ → Names
frame_keys more keys known key = if more then put_name known key else keys_of keys

-- what may stand at a key: a text at the further one, else what the shape says
abbrev pub frame_options : Bool → Keys → List ℕ → List ℕ → Options
frame_options more keys key k = if more && same_name k key then text_alone else options_at keys more k

-- what another shape says of keys
abbrev pub options_of : Shape → Names → List Options
options_of shape keys = map (options_at shape.keys shape.more_keys) keys

-- whether another shape may have a pair of these labels, and of these keys alone
abbrev pub may_have : Shape → Names → Names → Bool
may_have shape labels keys =
    labels_meet shape.labels shape.more_labels labels
    && list_all (λ (key : List ℕ × Options). key.1.absent || has_name key.0 keys) shape.keys

-- whether a point, of a pair of these labels and keys, is in some shape
abbrev pub in_some_of : List Shape → Names → Names → Point → Bool
in_some_of shapes labels keys v =
    list_any (λ (shape : Shape). may_have shape labels keys && in_region (options_of shape keys) v) shapes

-- a frame is that of a shape, where keys and a further label and key are given
abbrev pub IsFrame : Shape → Names → List ℕ → List ℕ → Frame → Type 0
IsFrame shape keys label key frame =
    (frame.labels ≡ frame_labels shape.more_labels shape.labels label) × (frame.keys ≡ frame_keys shape.more_keys shape.keys keys key)
    × (frame.region ≡ map (frame_options shape.more_keys shape.keys key) frame.keys)

-- A frame is that of a shape among others, with this further label. Where the shape is free in keys, the given keys are its own and those of the
-- others that may have its labels, and none of them is the further one, which isn't among names to avoid.
pub record IsFramed (label : List ℕ) (avoid : Names) (shape : Shape) (others : List Shape) (frame : Frame) : Type 0 where
  pub keys : Names
  pub key : List ℕ
  pub known : (k : List ℕ) → has_name k keys
      ≡ (shape.more_keys && (has_name k (keys_of shape.keys) || names_met_key others (frame_labels shape.more_labels shape.labels label) k))
  pub new : has_name key keys ≡ false
  pub strange : has_name key avoid ≡ false
  pub framed : IsFrame shape keys label key frame

-- each pair of a shape is in some of others
abbrev pub IsInOthers : Shape → List Shape → Type 0
IsInOthers shape others = (p : NodeRow) → is_pair p ≡ true → in_shape shape p ≡ true → in_some others p ≡ true

-- each pair in some shapes is in some of others
abbrev pub AreInOthers : List Shape → List Shape → Type 0
AreInOthers shapes others = (p : NodeRow) → is_pair p ≡ true → in_some shapes p ≡ true → in_some others p ≡ true

-- a pair of some shapes is in none of others, its values are the plainest, and it is strange to names
pub record IsOutOfOthers (avoid : Names) (shapes others : List Shape) (p : NodeRow) : Type 0 where
  pub pair : is_pair p ≡ true
  pub inside : in_some shapes p ≡ true
  pub outside : in_some others p ≡ false
  pub plain : is_plain p ≡ true
  pub strange : IsStrangeBut avoid shapes others p
