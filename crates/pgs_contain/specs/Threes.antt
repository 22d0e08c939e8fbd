-- Triples of shapes by the frames of their three shapes: the regions of the three stand one after another as one.
use Rattle.std.specs.Prelude.{◌≡◌, ℕ, Bool, true, false, ◌&&◌, ◌||◌, List, ◌++◌, length, map, take, drop, Option, MatchOption}
use Rattle.std.specs.List.{list_any}
use Rattle.pgs_base.specs.Pair.{has_name, is_pair}
use Rattle.pgs_syntax.specs.Join.{PairTriple}
use Rattle.pgs_syntax.specs.Triples.{is_triple}
use Rattle.pgs_conform.specs.declared.options.Options.{Options}
use Rattle.pgs_conform.specs.declared.shape.Shape.{Shape}
use Rattle.pgs_conform.specs.declared.shape.Triple.{Triple as ShapeTriple}
use Rattle.pgs_conform.specs.Shapes.{in_triple, in_some_triple}
use Rattle.pgs_contain.specs.declared.frame.Frame.{Frame}
use Rattle.pgs_contain.specs.declared.triples.Frames.{Frames}
use Rattle.pgs_contain.specs.declared.triples.OwnedTriple.{OwnedTriple}
use Rattle.pgs_contain.specs.declared.labels_of_three.LabelsOfThree.{LabelsOfThree}
use Rattle.pgs_contain.specs.declared.outside.OwnedPair.{OwnedPair}
use Rattle.pgs_contain.specs.Contained.{is_plain, pair_in, triple_in}
use Rattle.pgs_contain.specs.Frames.{Names, frame_labels, frame_keys, frame_options, may_have, options_of, IsFrame}
use Rattle.pgs_contain.specs.Known.{any_free, three_name, three_name_met_key}
use Rattle.pgs_contain.specs.Regions.{Point, in_region, in_some_region, lies_in, IsCovered, IsLeft}
use Rattle.pgs_contain.specs.Rows.{plain_rows}
use Rattle.pgs_contain.specs.Strange.{IsStrangeBut, shapes_in}

-- the labels and the keys of three frames
pub record Three : Type 0 where
  pub source_labels : Names
  pub source_keys : Names
  pub middle_labels : Names
  pub middle_keys : Names
  pub target_labels : Names
  pub target_keys : Names

-- whether a triple of shapes may have a triple of pairs of these labels, and of these keys alone
abbrev pub may_have_three : ShapeTriple → Three → Bool
may_have_three shapes three =
    may_have shapes.source three.source_labels three.source_keys && may_have shapes.middle three.middle_labels three.middle_keys
    && may_have shapes.target three.target_labels three.target_keys

-- what it says of the keys, one after another
abbrev pub options_of_three : ShapeTriple → Three → List Options
options_of_three shapes three =
    options_of shapes.source three.source_keys ++ (options_of shapes.middle three.middle_keys ++ options_of shapes.target three.target_keys)

-- whether a point is in some triple of shapes
abbrev pub in_some_three : List ShapeTriple → Three → Point → Bool
in_some_three triples three v =
    list_any (λ (shapes : ShapeTriple). may_have_three shapes three && in_region (options_of_three shapes three) v) triples

-- each triple of pairs of a triple of shapes is in some of others
abbrev pub IsInOtherTriples : ShapeTriple → List ShapeTriple → Type 0
IsInOtherTriples shapes others = (t : PairTriple) → is_triple t ≡ true → in_triple shapes t ≡ true → in_some_triple others t ≡ true

abbrev pub AreInOtherTriples : List ShapeTriple → List ShapeTriple → Type 0
AreInOtherTriples triples others = (t : PairTriple) → is_triple t ≡ true → in_some_triple triples t ≡ true → in_some_triple others t ≡ true

-- a triple of pairs of some is in none of others, its values are the plainest, and each of its pairs is strange to names
pub record IsOutOfOtherTriples (avoid : Names) (triples others : List ShapeTriple) (t : PairTriple) : Type 0 where
  pub triple : is_triple t ≡ true
  pub inside : in_some_triple triples t ≡ true
  pub outside : in_some_triple others t ≡ false
  pub plain : (is_plain t.source && is_plain t.own && is_plain t.target) ≡ true
  pub source : IsStrangeBut avoid (shapes_in triples) (shapes_in others) t.source
  pub middle : IsStrangeBut avoid (shapes_in triples) (shapes_in others) t.own
  pub target : IsStrangeBut avoid (shapes_in triples) (shapes_in others) t.target

-- the labels and keys of frames
abbrev pub three_of : Frames → Three
three_of frames = record {
  source_labels = frames.source.labels;
  source_keys = frames.source.keys;
  middle_labels = frames.middle.labels;
  middle_keys = frames.middle.keys;
  target_labels = frames.target.labels;
  target_keys = frames.target.keys;
}

-- the regions of frames, one after another as one
abbrev pub region_in : Frames → List Options
region_in frames = frames.source.region ++ (frames.middle.region ++ frames.target.region)

-- whether a triple of shapes has each triple of pairs of frames: each of their regions lies within what it says of the keys
abbrev pub has_frames : Frames → ShapeTriple → Bool
has_frames frames shapes =
    may_have_three shapes (three_of frames) && lies_in frames.source.region (options_of shapes.source frames.source.keys)
    && lies_in frames.middle.region (options_of shapes.middle frames.middle.keys)
    && lies_in frames.target.region (options_of shapes.target frames.target.keys)

-- frames are those of a triple of shapes, where keys and a further label and key are given
abbrev pub AreFrames : ShapeTriple → Names → List ℕ → List ℕ → Frames → Type 0
AreFrames shapes keys label key frames =
    IsFrame shapes.source keys label key frames.source × IsFrame shapes.middle keys label key frames.middle
    × IsFrame shapes.target keys label key frames.target

-- the labels of the frames of a triple of shapes, with this further label
abbrev pub labels_of_three : ShapeTriple → List ℕ → LabelsOfThree
labels_of_three shapes label = record {
  source = frame_labels shapes.source.more_labels shapes.source.labels label;
  middle = frame_labels shapes.middle.more_labels shapes.middle.labels label;
  target = frame_labels shapes.target.more_labels shapes.target.labels label;
}

-- a frame of a shape has these labels, where keys and a further one are given, and so have three
abbrev pub IsFrameOf : Shape → Names → Names → List ℕ → Frame → Type 0
IsFrameOf shape labels keys key frame =
    (frame.labels ≡ labels) × (frame.keys ≡ frame_keys shape.more_keys shape.keys keys key)
    × (frame.region ≡ map (frame_options shape.more_keys shape.keys key) frame.keys)

abbrev pub AreFramesOf : ShapeTriple → LabelsOfThree → Names → List ℕ → Frames → Type 0
AreFramesOf shapes labels keys key frames =
    IsFrameOf shapes.source labels.source keys key frames.source × IsFrameOf shapes.middle labels.middle keys key frames.middle
    × IsFrameOf shapes.target labels.target keys key frames.target

-- Frames are those of a triple of shapes among others, with this further label. Where one of the three is free in keys, the given keys are their
-- own and those of the others that may have their labels, and none of them is the further one, which isn't among names to avoid.
pub record AreFramed (label : List ℕ) (avoid : Names) (shapes : ShapeTriple) (others : List ShapeTriple) (frames : Frames) : Type 0 where
  pub keys : Names
  pub key : List ℕ
  pub known : (k : List ℕ) → has_name k keys ≡ (any_free shapes && (three_name shapes k || three_name_met_key others (labels_of_three shapes label) k))
  pub new : has_name key keys ≡ false
  pub strange : has_name key avoid ≡ false
  pub framed : AreFrames shapes keys label key frames

-- a pair is the plainest of a part of a region
abbrev pub IsPlainest : Frame → List Options → OwnedPair → Type 0
IsPlainest frame part own = (is_pair (pair_in own) ≡ true) × (own.labels ≡ frame.labels) × (own.props ≡ plain_rows frame.keys part)

-- three pairs are, each of its part, which is as long as its keys
abbrev pub ArePlainest : Frames → List Options → OwnedTriple → Type 0
ArePlainest frames found own =
    let first = length frames.source.keys in
    let second = length frames.middle.keys in
    IsPlainest frames.source (take first found) own.source × IsPlainest frames.middle (take second (drop first found)) own.middle
    × IsPlainest frames.target (drop second (drop first found)) own.target

-- What other triples of shapes leave of frames: nothing, or the plainest three pairs of a region.
pub record LeavesThree (frames : Frames) (others : List ShapeTriple) (answer : Option OwnedTriple) : Type 0 where
  pub taken : List (List Options)
  pub same : (v : Point) → in_some_region taken v ≡ in_some_three others (three_of frames) v
  pub is : MatchOption answer (IsCovered (region_in frames) taken)
      (λ own. (found : List Options) × IsLeft (region_in frames) taken found × ArePlainest frames found own)

-- the triple of three owned pairs
abbrev pub owned_triple : OwnedTriple → PairTriple
owned_triple own = triple_in own.source own.middle own.target
