-- A triple of shapes whose regions together are covered by others has no triple of pairs outside of them, and what is left of them
-- gives one.
use Rattle.std.proofs.Common.{◌≡◌, ℕ, ◌+◌, ◌<◌, Bool, true, false, ◌&&◌, ◌||◌, List, [], ◌∷◌, ◌++◌, take, drop, get_or, map, length, Option, Some, None, is_some, MatchOption, refl, sym, ◌∙◌, ap, true≢false, ⊎_elim, arith, length-append, length-take, length-drop}
use Rattle.std.specs.List.{list_all, list_any}
use Rattle.std.specs.Map.{keys_of}
use Rattle.std.proofs.lemmas.Bool.{and_parts, and_from, or_cases, or_left, or_right}
use Rattle.std.proofs.lemmas.List.{take_more, length-map, take-append-drop}
use Rattle.std.proofs.lemmas.List.Folds.{list_any-append, list_any_at}
use Rattle.std.proofs.Math.Bool.{or-false}
use Rattle.pgs_base.specs.declared.row.NodeRow.{NodeRow}
use Rattle.pgs_base.specs.Order.{ascends}
use Rattle.pgs_base.specs.Pair.{has_name, is_pair, value_at}
use Rattle.pgs_syntax.specs.Join.{PairTriple}
use Rattle.pgs_syntax.specs.Triples.{is_triple}
use Rattle.pgs_conform.specs.declared.options.Options.{Options}
use Rattle.pgs_conform.specs.declared.shape.Shape.{Shape}
use Rattle.pgs_conform.specs.declared.shape.Triple.{Triple as ShapeTriple}
use Rattle.pgs_conform.specs.Shapes.{admits, labels_meet, in_shape, in_some, in_triple, in_some_triple, DenotesTriples}
use Rattle.pgs_product.proofs.United.{name_cmp}
use Rattle.pgs_conform.specs.JoinedOptions.{options_at}
use Rattle.pgs_contain.specs.declared.frame.Frame.{Frame}
use Rattle.pgs_contain.specs.declared.triples.Frames.{Frames}
use Rattle.pgs_contain.specs.declared.triples.OwnedTriple.{OwnedTriple}
use Rattle.pgs_contain.specs.declared.outside.OwnedPair.{OwnedPair}
use Rattle.pgs_contain.specs.Contained.{is_plain, is_plain_value, pair_in}
use Rattle.pgs_contain.specs.Frames.{Names, frame_labels, frame_keys, frame_options, options_of, may_have, IsFrame}
use Rattle.pgs_contain.specs.Known.{lacks_label_three, any_free, three_meet, three_name, three_name_if_met, three_name_met_key}
use Rattle.pgs_contain.specs.Strange.{IsStrangeBut, names_label, names_key, shapes_in}
use Rattle.pgs_contain.specs.Regions.{Point, in_region, in_some_region, is_possible, IsCovered, IsLeft}
use Rattle.pgs_contain.specs.Rows.{plain_rows}
use Rattle.pgs_contain.specs.Threes.{Three, three_of, region_in, AreFrames, IsPlainest, ArePlainest, owned_triple, may_have_three, options_of_three, in_some_three, labels_of_three, AreFramed, LeavesThree, IsInOtherTriples, AreInOtherTriples, IsOutOfOtherTriples}
use Rattle.pgs_contain.proofs.Framing.{stands, own_point, own_point_in, frame_point, AreAll}
use Rattle.pgs_contain.proofs.Plain.{rows_plain}
use Rattle.pgs_contain.proofs.Strangers.{lacking, strange_part, strange_among, one_of_triples, three_named_or_met}
use Rattle.pgs_contain.proofs.Whole.{IsKnown, false_from, left_length, pair_in_other, other_has, plain_keys, plain_point, plain_in}

-- ---- regions one after another

pub in_joined : (a b : List Options) (v w : Point) → length a ≡ length v → in_region (a ++ b) (v ++ w) ≡ (in_region a v && in_region b w)
in_joined [] b [] w same = refl
in_joined [] b (v ∷ vs) w same = absurd (omega (arith, same))
in_joined (o ∷ os) b [] w same = absurd (omega (arith, same))
in_joined (o ∷ os) b (v ∷ vs) w same =
    ap (λ s. admits o v && s) (in_joined os b vs w (let e : length os ≡ length vs = omega (arith, same) in e)) ∙ and_turn (admits o v) (in_region os vs) (in_region b w)
  where
    and_turn : (x y z : Bool) → (x && (y && z)) ≡ ((x && y) && z)
    and_turn true y z = refl
    and_turn false y z = refl

in_three : (a b c : List Options) (u v w : Point) → length a ≡ length u → length b ≡ length v →
    in_region (a ++ (b ++ c)) (u ++ (v ++ w)) ≡ (in_region a u && (in_region b v && in_region c w))
in_three a b c u v w first second = in_joined a (b ++ c) u (v ++ w) first ∙ ap (λ s. in_region a u && s) (in_joined b c v w second)

same_length : {X Y : Type 0} (f : List ℕ → X) (g : List ℕ → Y) (ks : Names) → length (map f ks) ≡ length (map g ks)
same_length f g ks = length-map ks f ∙ sym (length-map ks g)

-- the shapes of another triple don't name the further label, and where one of these is free in keys, its keys are known
abbrev pub IsKnownThree : ShapeTriple → Names → List ℕ → ShapeTriple → Type 0
IsKnownThree shapes keys label other =
    IsKnown shapes.source.more_keys keys label other.source × IsKnown shapes.middle.more_keys keys label other.middle
    × IsKnown shapes.target.more_keys keys label other.target

-- so are those of other triples that may have their labels
abbrev pub AreKnownThree : ShapeTriple → Names → List ℕ → List ShapeTriple → Type 0
AreKnownThree shapes keys label [] = Unit {0}
AreKnownThree shapes keys label (o ∷ os) = (three_meet o (labels_of_three shapes label) ≡ true → IsKnownThree shapes keys label o) × AreKnownThree shapes keys label os

module _ (shapes : ShapeTriple) (keys : Names) (label key : List ℕ) (new : has_name key keys ≡ false) where
  abbrev own_three : Three
  own_three = record {
    source_labels = frame_labels shapes.source.more_labels shapes.source.labels label;
    source_keys = frame_keys shapes.source.more_keys shapes.source.keys keys key;
    middle_labels = frame_labels shapes.middle.more_labels shapes.middle.labels label;
    middle_keys = frame_keys shapes.middle.more_keys shapes.middle.keys keys key;
    target_labels = frame_labels shapes.target.more_labels shapes.target.labels label;
    target_keys = frame_keys shapes.target.more_keys shapes.target.keys keys key;
  }

  abbrev own_points : PairTriple → Point
  own_points t =
      own_point shapes.source.more_keys shapes.source.keys keys key t.source.props
      ++ (own_point shapes.middle.more_keys shapes.middle.keys keys key t.own.props ++ own_point shapes.target.more_keys shapes.target.keys keys key t.target.props)

  abbrev own_region : Shape → List Options
  own_region shape = map (frame_options shape.more_keys shape.keys key) (frame_keys shape.more_keys shape.keys keys key)

  abbrev own_regions : List Options
  own_regions = own_region shapes.source ++ (own_region shapes.middle ++ own_region shapes.target)

  frame_long : (shape : Shape) (p : NodeRow) → length (own_region shape) ≡ length (own_point shape.more_keys shape.keys keys key p.props)
  frame_long shape p =
      same_length (frame_options shape.more_keys shape.keys key) (stands shape.more_keys key p.props) (frame_keys shape.more_keys shape.keys keys key)

  own_long : (shape : Shape) (p : NodeRow) → length (own_region shape) ≡ length (frame_point (frame_keys shape.more_keys shape.keys keys key) p.props)
  own_long shape p =
      same_length (frame_options shape.more_keys shape.keys key) (λ k. value_at k p.props) (frame_keys shape.more_keys shape.keys keys key)

  other_long : (other shape : Shape) (p : NodeRow) →
      length (options_of other (frame_keys shape.more_keys shape.keys keys key)) ≡ length (own_point shape.more_keys shape.keys keys key p.props)
  other_long other shape p =
      same_length (options_at other.keys other.more_keys) (stands shape.more_keys key p.props) (frame_keys shape.more_keys shape.keys keys key)

  other_own_long : (other shape : Shape) (p : NodeRow) →
      length (options_of other (frame_keys shape.more_keys shape.keys keys key)) ≡ length (frame_point (frame_keys shape.more_keys shape.keys keys key) p.props)
  other_own_long other shape p =
      same_length (options_at other.keys other.more_keys) (λ k. value_at k p.props) (frame_keys shape.more_keys shape.keys keys key)

  own_points_in : (t : PairTriple) → in_triple shapes t ≡ true → in_region own_regions (own_points t) ≡ true
  own_points_in t own =
      let parts = and_parts _ _ own in
      let ends = and_parts _ _ parts.0 in
      in_three (own_region shapes.source) (own_region shapes.middle) (own_region shapes.target) (own_point shapes.source.more_keys shapes.source.keys keys key t.source.props)
      (own_point shapes.middle.more_keys shapes.middle.keys keys key t.own.props) (own_point shapes.target.more_keys shapes.target.keys keys key t.target.props)
      (frame_long shapes.source t.source) (frame_long shapes.middle t.own)
      ∙ and_from _ _ (own_point_in shapes.source.more_keys shapes.source.keys keys key t.source.props (and_parts _ _ ends.0).1)
      (and_from _ _ (own_point_in shapes.middle.more_keys shapes.middle.keys keys key t.own.props (and_parts _ _ ends.1).1)
      (own_point_in shapes.target.more_keys shapes.target.keys keys key t.target.props (and_parts _ _ parts.1).1))

  may_meet : (other : Shape) (labels names : Names) → may_have other labels names ≡ true → labels_meet other.labels other.more_labels labels ≡ true
  may_meet other labels names h =
      (and_parts (labels_meet other.labels other.more_labels labels) (list_all (λ (key : List ℕ × Options). key.1.absent || has_name key.0 names) other.keys) h).0

  triple_in_other : (other : ShapeTriple) → (three_meet other (labels_of_three shapes label) ≡ true → IsKnownThree shapes keys label other) → (t : PairTriple) → is_triple t ≡ true → in_triple shapes t ≡ true →
      (may_have_three other own_three && in_region (options_of_three other own_three) (own_points t)) ≡ true → in_triple other t ≡ true
  triple_in_other other known t good own h =
      let good_parts = and_parts _ _ good in
      let good_ends = and_parts _ _ good_parts.0 in
      let own_parts = and_parts _ _ own in
      let own_ends = and_parts _ _ own_parts.0 in
      let hs = may_have other.source own_three.source_labels own_three.source_keys in
      let hm = may_have other.middle own_three.middle_labels own_three.middle_keys in
      let ht = may_have other.target own_three.target_labels own_three.target_keys in
      let os = options_of other.source own_three.source_keys in
      let om = options_of other.middle own_three.middle_keys in
      let ot = options_of other.target own_three.target_keys in
      let vs = own_point shapes.source.more_keys shapes.source.keys keys key t.source.props in
      let vm = own_point shapes.middle.more_keys shapes.middle.keys keys key t.own.props in
      let vt = own_point shapes.target.more_keys shapes.target.keys keys key t.target.props in
      let parts = and_parts ((hs && hm) && ht) (in_region (options_of_three other own_three) (own_points t)) h in
      let may = and_parts (hs && hm) ht parts.0 in
      let may_ends = and_parts hs hm may.0 in
      let there =
      and_parts (in_region os vs) (in_region om vm && in_region ot vt)
      (sym (in_three os om ot vs vm vt (other_long other.source shapes.source t.source) (other_long other.middle shapes.middle t.own)) ∙ parts.1) in
      let there_later = and_parts (in_region om vm) (in_region ot vt) there.1 in
      let so = known (and_from _ _ (and_from _ _ (may_meet other.source own_three.source_labels own_three.source_keys may_ends.0) (may_meet other.middle own_three.middle_labels own_three.middle_keys may_ends.1)) (may_meet other.target own_three.target_labels own_three.target_keys may.1)) in
      and_from _ _
      (and_from _ _ (pair_in_other shapes.source keys label key new other.source so.0 t.source good_ends.0 own_ends.0 (and_from hs (in_region os vs) may_ends.0 there.0))
      (pair_in_other shapes.middle keys label key new other.middle so.1 t.own good_ends.1 own_ends.1 (and_from hm (in_region om vm) may_ends.1 there_later.0)))
      (pair_in_other shapes.target keys label key new other.target so.2 t.target good_parts.1 own_parts.1 (and_from ht (in_region ot vt) may.1 there_later.1))

  triple_in_others : (others : List ShapeTriple) → AreKnownThree shapes keys label others → (t : PairTriple) → is_triple t ≡ true → in_triple shapes t ≡ true →
      in_some_three others own_three (own_points t) ≡ true → in_some_triple others t ≡ true
  triple_in_others [] known t good own h = absurd (true≢false (sym h))
  triple_in_others (o ∷ os) known t good own h =
      ⊎_elim (λ here. or_left (in_triple o t) (in_some_triple os t) (triple_in_other o known.0 t good own here))
      (λ later. or_right (in_triple o t) (in_some_triple os t) (triple_in_others os known.1 t good own later))
      (or_cases (may_have_three o own_three && in_region (options_of_three o own_three) (own_points t)) (in_some_three os own_three (own_points t)) h)

  -- ---- a triple of pairs of the frames

  abbrev points_of : PairTriple → Point
  points_of t =
      frame_point own_three.source_keys t.source.props ++ (frame_point own_three.middle_keys t.own.props ++ frame_point own_three.target_keys t.target.props)

  other_has_three : (other : ShapeTriple) (t : PairTriple) → t.source.labels ≡ own_three.source_labels → t.own.labels ≡ own_three.middle_labels →
      t.target.labels ≡ own_three.target_labels → AreAll own_three.source_keys t.source.props → AreAll own_three.middle_keys t.own.props →
      AreAll own_three.target_keys t.target.props → in_triple other t ≡ true →
      (may_have_three other own_three && in_region (options_of_three other own_three) (points_of t)) ≡ true
  other_has_three other t ls lm lt ks km kt h =
      let parts = and_parts _ _ h in
      let ends = and_parts _ _ parts.0 in
      let hs = may_have other.source own_three.source_labels own_three.source_keys in
      let hm = may_have other.middle own_three.middle_labels own_three.middle_keys in
      let ht = may_have other.target own_three.target_labels own_three.target_keys in
      let os = options_of other.source own_three.source_keys in
      let om = options_of other.middle own_three.middle_keys in
      let ot = options_of other.target own_three.target_keys in
      let vs = frame_point own_three.source_keys t.source.props in
      let vm = frame_point own_three.middle_keys t.own.props in
      let vt = frame_point own_three.target_keys t.target.props in
      let s = and_parts hs (in_region os vs) (other_has shapes.source keys label key new other.source t.source ls ks ends.0) in
      let m = and_parts hm (in_region om vm) (other_has shapes.middle keys label key new other.middle t.own lm km ends.1) in
      let e = and_parts ht (in_region ot vt) (other_has shapes.target keys label key new other.target t.target lt kt parts.1) in
      and_from ((hs && hm) && ht) (in_region (options_of_three other own_three) (points_of t)) (and_from (hs && hm) ht (and_from hs hm s.0 m.0) e.0)
      (in_three os om ot vs vm vt (other_own_long other.source shapes.source t.source) (other_own_long other.middle shapes.middle t.own)
      ∙ and_from (in_region os vs) (in_region om vm && in_region ot vt) s.1 (and_from (in_region om vm) (in_region ot vt) m.1 e.1))

  others_have_three : (others : List ShapeTriple) (t : PairTriple) → t.source.labels ≡ own_three.source_labels → t.own.labels ≡ own_three.middle_labels →
      t.target.labels ≡ own_three.target_labels → AreAll own_three.source_keys t.source.props → AreAll own_three.middle_keys t.own.props →
      AreAll own_three.target_keys t.target.props → in_some_triple others t ≡ true → in_some_three others own_three (points_of t) ≡ true
  others_have_three [] t ls lm lt ks km kt h = absurd (true≢false (sym h))
  others_have_three (o ∷ os) t ls lm lt ks km kt h =
      let this = may_have_three o own_three && in_region (options_of_three o own_three) (points_of t) in
      ⊎_elim (λ here. or_left this (in_some_three os own_three (points_of t)) (other_has_three o t ls lm lt ks km kt here))
      (λ later. or_right this (in_some_three os own_three (points_of t)) (others_have_three os t ls lm lt ks km kt later))
      (or_cases (in_triple o t) (in_some_triple os t) h)

-- where one of three shapes is free in keys, its own are known
abbrev pub OwnKnownThree : ShapeTriple → Names → Type 0
OwnKnownThree shapes keys =
    (shapes.source.more_keys ≡ true → (k : List ℕ) → has_name k (keys_of shapes.source.keys) ≡ true → has_name k keys ≡ true)
    × (shapes.middle.more_keys ≡ true → (k : List ℕ) → has_name k (keys_of shapes.middle.keys) ≡ true → has_name k keys ≡ true)
    × (shapes.target.more_keys ≡ true → (k : List ℕ) → has_name k (keys_of shapes.target.keys) ≡ true → has_name k keys ≡ true)

-- three pairs are strange to names
abbrev pub AreStrange : Names → ShapeTriple → List ShapeTriple → PairTriple → Type 0
AreStrange avoid shapes others t =
    IsStrangeBut avoid (shapes_in (shapes ∷ [])) (shapes_in others) t.source × IsStrangeBut avoid (shapes_in (shapes ∷ [])) (shapes_in others) t.own
    × IsStrangeBut avoid (shapes_in (shapes ∷ [])) (shapes_in others) t.target

-- the plainest pair of a part of a region, for a shape
pub record IsPart (shape : Shape) (keys : Names) (label key : List ℕ) (part : List Options) (p : NodeRow) : Type 0 where
  pub pair : is_pair p ≡ true
  pub labels_are : p.labels ≡ frame_labels shape.more_labels shape.labels label
  pub props_are : p.props ≡ plain_rows (frame_keys shape.more_keys shape.keys keys key) part
  pub up : ascends name_cmp (frame_keys shape.more_keys shape.keys keys key) ≡ true
  pub long : length (frame_keys shape.more_keys shape.keys keys key) ≡ length part

plain_of : (ks : Names) (os : List Options) (p : NodeRow) → p.props ≡ plain_rows ks os → is_plain p ≡ true
plain_of ks os p rows = ap (list_all (λ entry. is_plain_value entry.1)) rows ∙ rows_plain ks os

all_parts : (a b : List Options) → list_all is_possible (a ++ b) ≡ true → (list_all is_possible a ≡ true) × (list_all is_possible b ≡ true)
all_parts [] b h = (refl, h)
all_parts (o ∷ os) b h = let parts = and_parts _ _ h in let rest = all_parts os b parts.1 in (and_from _ _ parts.0 rest.0, rest.1)

module _ (shapes : ShapeTriple) (keys : Names) (label key : List ℕ) (new : has_name key keys ≡ false) (others : List ShapeTriple) (region : List Options) (taken : List (List Options))
    (known : AreKnownThree shapes keys label others) (made : region ≡ own_regions shapes keys label key new)
    (same : (v : Point) → in_some_region taken v ≡ in_some_three others (own_three shapes keys label key new) v) where
  pub triple_inside : IsCovered region taken → IsInOtherTriples shapes others
  triple_inside h = λ t good own.
      let v = own_points shapes keys label key new t in
      triple_in_others shapes keys label key new others known t good own
      (sym (same v) ∙ h v (ap (λ r. in_region r v) made ∙ own_points_in shapes keys label key new t own))

  pub triple_outside : (avoid : Names) → OwnKnownThree shapes keys → (first second third found : List Options) → found ≡ first ++ (second ++ third) → IsLeft region taken found →
      (t : PairTriple) → IsPart shapes.source keys label key first t.source → IsPart shapes.middle keys label key second t.own → IsPart shapes.target keys label key third t.target →
      AreStrange avoid shapes others t → IsOutOfOtherTriples avoid (shapes ∷ []) others t
  triple_outside avoid own first second third found cut left t s m e strange =
      let three = own_three shapes keys label key new in
      let v = points_of shapes keys label key new t in
      let ks = plain_keys shapes.source keys label key new first t.source s.props_are in
      let km = plain_keys shapes.middle keys label key new second t.own m.props_are in
      let kt = plain_keys shapes.target keys label key new third t.target e.props_are in
      let may = all_parts first (second ++ third) (ap (list_all is_possible) (sym cut) ∙ left.possible) in
      let may_later = all_parts second third may.1 in
      let here : in_region found v ≡ true =
      ap (λ r. in_region r v) cut
      ∙ in_three first second third (frame_point three.source_keys t.source.props) (frame_point three.middle_keys t.own.props) (frame_point three.target_keys t.target.props)
      (sym s.long ∙ sym (length-map three.source_keys (λ k. value_at k t.source.props))) (sym m.long ∙ sym (length-map three.middle_keys (λ k. value_at k t.own.props)))
      ∙ and_from _ _ (plain_point shapes.source keys label key new first s.up s.long may.0 t.source s.props_are)
      (and_from _ _ (plain_point shapes.middle keys label key new second m.up m.long may_later.0 t.own m.props_are)
      (plain_point shapes.target keys label key new third e.up e.long may_later.1 t.target e.props_are)) in
      let regions = own_region shapes keys label key new in
      let there =
      and_parts _ _
      (sym (in_three (regions shapes.source) (regions shapes.middle) (regions shapes.target) (frame_point three.source_keys t.source.props)
      (frame_point three.middle_keys t.own.props) (frame_point three.target_keys t.target.props) (own_long shapes keys label key new shapes.source t.source)
      (own_long shapes keys label key new shapes.middle t.own))
      ∙ ap (λ r. in_region r v) (sym made) ∙ left.inside v here) in
      let there_later = and_parts _ _ there.1 in
      record {
        triple = and_from _ _ (and_from _ _ s.pair m.pair) e.pair;
        inside =
            or_left (in_triple shapes t) false
            (and_from _ _
            (and_from _ _ (plain_in shapes.source keys label key new own.0 t.source s.pair s.labels_are ks there.0)
            (plain_in shapes.middle keys label key new own.1 t.own m.pair m.labels_are km there_later.0))
            (plain_in shapes.target keys label key new own.2 t.target e.pair e.labels_are kt there_later.1));
        outside =
            false_from (in_some_triple others t)
            (λ is_there.
            true≢false
            (sym (others_have_three shapes keys label key new others t s.labels_are m.labels_are e.labels_are ks km kt is_there)
            ∙ sym (same v) ∙ left.outside v here));
        plain =
            and_from _ _ (and_from _ _ (plain_of three.source_keys first t.source s.props_are) (plain_of three.middle_keys second t.own m.props_are))
            (plain_of three.target_keys third t.target e.props_are);
        source = strange.0;
        middle = strange.1;
        target = strange.2;
      }

-- ---- by the frames that the code makes

cut_three : (n m : ℕ) (xs : List Options) → xs ≡ take n xs ++ (take m (drop n xs) ++ drop m (drop n xs))
cut_three n m xs = sym (take-append-drop n xs) ∙ ap (λ ys. take n xs ++ ys) (sym (take-append-drop m (drop n xs)))

module _ (shapes : ShapeTriple) (keys : Names) (label key : List ℕ) (new : has_name key keys ≡ false) (frames : Frames) (framed : AreFrames shapes keys label key frames) where
  same_three : three_of frames ≡ own_three shapes keys label key new
  same_three = λ i. record {
    source_labels = framed.0.0 i;
    source_keys = framed.0.1 i;
    middle_labels = framed.1.0 i;
    middle_keys = framed.1.1 i;
    target_labels = framed.2.0 i;
    target_keys = framed.2.1 i;
  }

  made_region : (shape : Shape) (frame : Frame) → IsFrame shape keys label key frame → frame.region ≡ own_region shapes keys label key new shape
  made_region shape frame h = h.2 ∙ ap (map (frame_options shape.more_keys shape.keys key)) h.1

  pub made_regions : region_in frames ≡ own_regions shapes keys label key new
  made_regions =
      ap (λ r. r ++ (frames.middle.region ++ frames.target.region)) (made_region shapes.source frames.source framed.0)
      ∙ ap (λ r. own_region shapes keys label key new shapes.source ++ (r ++ frames.target.region)) (made_region shapes.middle frames.middle framed.1)
      ∙ ap (λ r. own_region shapes keys label key new shapes.source ++ (own_region shapes keys label key new shapes.middle ++ r)) (made_region shapes.target frames.target framed.2)

  pub same_regions : (others : List ShapeTriple) (taken : List (List Options)) → ((v : Point) → in_some_region taken v ≡ in_some_three others (three_of frames) v) →
      (v : Point) → in_some_region taken v ≡ in_some_three others (own_three shapes keys label key new) v
  same_regions others taken h v = h v ∙ ap (λ three. in_some_three others three v) same_three

  part_of : (shape : Shape) (frame : Frame) (part : List Options) (own : OwnedPair) → IsFrame shape keys label key frame → ascends name_cmp frame.keys ≡ true →
      length frame.keys ≡ length part → IsPlainest frame part own → IsPart shape keys label key part (pair_in own)
  part_of shape frame part own h up long plain = record {
    pair = plain.0;
    labels_are = plain.1 ∙ h.0;
    props_are = plain.2 ∙ ap (λ ks. plain_rows ks part) h.1;
    up = ap (ascends name_cmp) (sym h.1) ∙ up;
    long = ap length (sym h.1) ∙ long;
  }

  pub frames_long : length (region_in frames) ≡ length frames.source.keys + (length frames.middle.keys + length frames.target.keys)
  frames_long =
      length-append frames.source.region (frames.middle.region ++ frames.target.region)
      ∙ ap (λ n. length frames.source.region + n) (length-append frames.middle.region frames.target.region)
      ∙ ap (λ n. n + (length frames.middle.region + length frames.target.region)) (long shapes.source frames.source framed.0)
      ∙ ap (λ n. length frames.source.keys + (n + length frames.target.region)) (long shapes.middle frames.middle framed.1)
      ∙ ap (λ n. length frames.source.keys + (length frames.middle.keys + n)) (long shapes.target frames.target framed.2)
    where
      long : (shape : Shape) (frame : Frame) → IsFrame shape keys label key frame → length frame.region ≡ length frame.keys
      long shape frame h = ap length h.2 ∙ length-map frame.keys (frame_options shape.more_keys shape.keys key)

  -- where each key that is known is one of these shapes' or of others'
  abbrev AreNamed : List ShapeTriple → Type 0
  AreNamed others = (k : List ℕ) → has_name k keys ≡ true → (names_key (shapes_in (shapes ∷ [])) k || names_key (shapes_in others) k) ≡ true

  -- the plainest pair of a part is strange to names
  strange_at : (avoid : Names) (others : List ShapeTriple) (shape : Shape) (part : List Options) → has_name label avoid ≡ false → has_name key avoid ≡ false → AreNamed others →
      ((l : List ℕ) → has_name l shape.labels ≡ true → names_label (shapes_in (shapes ∷ [])) l ≡ true) → ((k : List ℕ) → has_name k (keys_of shape.keys) ≡ true → names_key (shapes_in (shapes ∷ [])) k ≡ true) →
      (p : NodeRow) → IsPart shape keys label key part p → IsStrangeBut avoid (shapes_in (shapes ∷ [])) (shapes_in others) p
  strange_at avoid others shape part label_new key_new named own_labels own_keys p is =
      strange_part avoid shape (shapes_in (shapes ∷ [])) (shapes_in others) keys label key part label_new key_new own_labels own_keys named p is.labels_are is.props_are

  frames_outside : (avoid : Names) (others : List ShapeTriple) (taken : List (List Options)) → has_name label avoid ≡ false → has_name key avoid ≡ false → AreNamed others →
      AreKnownThree shapes keys label others →
      ((v : Point) → in_some_region taken v ≡ in_some_three others (own_three shapes keys label key new) v) →
      OwnKnownThree shapes keys → (found : List Options) → IsLeft (region_in frames) taken found →
      (ascends name_cmp frames.source.keys ≡ true) × (ascends name_cmp frames.middle.keys ≡ true) × (ascends name_cmp frames.target.keys ≡ true) →
      (own : OwnedTriple) → ArePlainest frames found own → IsOutOfOtherTriples avoid (shapes ∷ []) others (owned_triple own)
  frames_outside avoid others taken label_new key_new named known same own_known found left up own plain =
      let total : length found ≡ length frames.source.keys + (length frames.middle.keys + length frames.target.keys) =
      sym (left_length (region_in frames) found taken left) ∙ frames_long in
      let first = take (length frames.source.keys) found in
      let later = drop (length frames.source.keys) found in
      let second = take (length frames.middle.keys) later in
      let third = drop (length frames.middle.keys) later in
      let later_long : length later ≡ length frames.middle.keys + length frames.target.keys = omega (arith, length-drop (length frames.source.keys) found, total) in
      let first_long : length frames.source.keys ≡ length first = omega (arith, length-take (length frames.source.keys) found, total) in
      let second_long : length frames.middle.keys ≡ length second = omega (arith, length-take (length frames.middle.keys) later, later_long) in
      let third_long : length frames.target.keys ≡ length third = omega (arith, length-drop (length frames.middle.keys) later, later_long) in
      let s = part_of shapes.source frames.source first own.source framed.0 up.0 first_long plain.0 in
      let m = part_of shapes.middle frames.middle second own.middle framed.1 up.1 second_long plain.1 in
      let e = part_of shapes.target frames.target third own.target framed.2 up.2 third_long plain.2 in
      triple_outside shapes keys label key new others (region_in frames) taken known made_regions same avoid own_known first second third
      found (cut_three (length frames.source.keys) (length frames.middle.keys) found) left (owned_triple own) s m e (
        strange_at avoid others shapes.source first label_new key_new named (λ l. first_of (λ (x : Shape). has_name l x.labels)) (λ k. first_of (λ (x : Shape). has_name k (keys_of x.keys))) (pair_in own.source) s,
        strange_at avoid others shapes.middle second label_new key_new named (λ l. second_of (λ (x : Shape). has_name l x.labels)) (λ k. second_of (λ (x : Shape). has_name k (keys_of x.keys))) (pair_in own.middle) m,
        strange_at avoid others shapes.target third label_new key_new named (λ l. third_of (λ (x : Shape). has_name l x.labels)) (λ k. third_of (λ (x : Shape). has_name k (keys_of x.keys))) (pair_in own.target) e,
      )
    where
      first_of : (f : Shape → Bool) → f shapes.source ≡ true → list_any f (shapes_in (shapes ∷ [])) ≡ true
      first_of f is = or_left (f shapes.source) (f shapes.middle || (f shapes.target || false)) is

      second_of : (f : Shape → Bool) → f shapes.middle ≡ true → list_any f (shapes_in (shapes ∷ [])) ≡ true
      second_of f is = or_right (f shapes.source) (f shapes.middle || (f shapes.target || false)) (or_left (f shapes.middle) (f shapes.target || false) is)

      third_of : (f : Shape → Bool) → f shapes.target ≡ true → list_any f (shapes_in (shapes ∷ [])) ≡ true
      third_of f is =
          or_right (f shapes.source) (f shapes.middle || (f shapes.target || false)) (or_right (f shapes.middle) (f shapes.target || false) (or_left (f shapes.target) false is))

  -- what the frames give is what the triple of shapes does
  pub frames_answer : (avoid : Names) (others : List ShapeTriple) → has_name label avoid ≡ false → has_name key avoid ≡ false → AreNamed others →
      AreKnownThree shapes keys label others → OwnKnownThree shapes keys →
      (ascends name_cmp frames.source.keys ≡ true) × (ascends name_cmp frames.middle.keys ≡ true) × (ascends name_cmp frames.target.keys ≡ true) →
      (answer : Option OwnedTriple) → LeavesThree frames others answer →
      MatchOption answer (IsInOtherTriples shapes others) (λ own. IsOutOfOtherTriples avoid (shapes ∷ []) others (owned_triple own))
  frames_answer avoid others label_new key_new named known own_known up None left =
      triple_inside shapes keys label key new others (region_in frames) left.taken known made_regions (same_regions others left.taken left.same) left.is
  frames_answer avoid others label_new key_new named known own_known up (Some own) left =
      frames_outside avoid others left.taken label_new key_new named known (same_regions others left.taken left.same) own_known left.is.0 left.is.1 up own left.is.2

-- ---- by the frames of a triple of shapes among others

source_free : (shapes : ShapeTriple) → shapes.source.more_keys ≡ true → any_free shapes ≡ true
source_free shapes free =
    or_left (shapes.source.more_keys || shapes.middle.more_keys) shapes.target.more_keys (or_left shapes.source.more_keys shapes.middle.more_keys free)

middle_free : (shapes : ShapeTriple) → shapes.middle.more_keys ≡ true → any_free shapes ≡ true
middle_free shapes free =
    or_left (shapes.source.more_keys || shapes.middle.more_keys) shapes.target.more_keys (or_right shapes.source.more_keys shapes.middle.more_keys free)

target_free : (shapes : ShapeTriple) → shapes.target.more_keys ≡ true → any_free shapes ≡ true
target_free shapes free = or_right (shapes.source.more_keys || shapes.middle.more_keys) shapes.target.more_keys free

all_known_three : (shapes : ShapeTriple) (keys : Names) (label : List ℕ) (others : List ShapeTriple) → list_all (lacks_label_three label) others ≡ true →
    (any_free shapes ≡ true → (k : List ℕ) → three_name_met_key others (labels_of_three shapes label) k ≡ true → has_name k keys ≡ true) → AreKnownThree shapes keys label others
all_known_three shapes keys label [] lack known = tt
all_known_three shapes keys label (o ∷ os) lack known =
    let parts = and_parts _ _ lack in
    let three = and_parts _ _ parts.0 in
    let ends = and_parts _ _ three.0 in
    let met = three_name_met_key os (labels_of_three shapes label) in (
      λ meet.
          let here : any_free shapes ≡ true → (k : List ℕ) → three_name o k ≡ true → has_name k keys ≡ true =
          λ free k there. known free k (or_left (three_name_if_met (labels_of_three shapes label) k o) (met k) (and_from _ _ meet there)) in (
            record {
              label_new = lacking label o.source.labels ends.0;
              keys_known = λ free k there. here (source_free shapes free) k (or_left (has_name k (keys_of o.source.keys)) (has_name k (keys_of o.middle.keys) || has_name k (keys_of o.target.keys)) there);
            },
            record {
              label_new = lacking label o.middle.labels ends.1;
              keys_known = λ free k there.
                  here (middle_free shapes free) k
                  (or_right (has_name k (keys_of o.source.keys)) (has_name k (keys_of o.middle.keys) || has_name k (keys_of o.target.keys))
                  (or_left (has_name k (keys_of o.middle.keys)) (has_name k (keys_of o.target.keys)) there));
            },
            record {
              label_new = lacking label o.target.labels three.1;
              keys_known = λ free k there.
                  here (target_free shapes free) k
                  (or_right (has_name k (keys_of o.source.keys)) (has_name k (keys_of o.middle.keys) || has_name k (keys_of o.target.keys))
                  (or_right (has_name k (keys_of o.middle.keys)) (has_name k (keys_of o.target.keys)) there));
            },
          ),
      all_known_three shapes keys label os parts.1
          (λ free k there. known free k (or_right (three_name_if_met (labels_of_three shapes label) k o) (met k) there)),
    )

module _ (shapes : ShapeTriple) (others : List ShapeTriple) (label : List ℕ) (avoid : Names) (frames : Frames) (f : AreFramed label avoid shapes others frames)
    (lack : list_all (lacks_label_three label) others ≡ true) where
  abbrev met_here : List ℕ → Bool
  met_here k = three_name_met_key others (labels_of_three shapes label) k

  learnt : any_free shapes ≡ true → (k : List ℕ) → (three_name shapes k || met_here k) ≡ true → has_name k f.keys ≡ true
  learnt free k there = f.known k ∙ and_from _ _ free there

  own_learnt : any_free shapes ≡ true → (k : List ℕ) → three_name shapes k ≡ true → has_name k f.keys ≡ true
  own_learnt free k there = learnt free k (or_left (three_name shapes k) (met_here k) there)

  own_known : OwnKnownThree shapes f.keys
  own_known = (
    λ free k there.
        own_learnt (source_free shapes free) k (or_left (has_name k (keys_of shapes.source.keys)) (has_name k (keys_of shapes.middle.keys) || has_name k (keys_of shapes.target.keys)) there),
    λ free k there.
        own_learnt (middle_free shapes free) k
        (or_right (has_name k (keys_of shapes.source.keys)) (has_name k (keys_of shapes.middle.keys) || has_name k (keys_of shapes.target.keys))
        (or_left (has_name k (keys_of shapes.middle.keys)) (has_name k (keys_of shapes.target.keys)) there)),
    λ free k there.
        own_learnt (target_free shapes free) k
        (or_right (has_name k (keys_of shapes.source.keys)) (has_name k (keys_of shapes.middle.keys) || has_name k (keys_of shapes.target.keys))
        (or_right (has_name k (keys_of shapes.middle.keys)) (has_name k (keys_of shapes.target.keys)) there)),
  )

  pub framed_long : length (region_in frames) ≡ length frames.source.keys + (length frames.middle.keys + length frames.target.keys)
  framed_long = frames_long shapes f.keys label f.key f.new frames f.framed

  pub framed_answer : has_name label avoid ≡ false → (ascends name_cmp frames.source.keys ≡ true) × (ascends name_cmp frames.middle.keys ≡ true) × (ascends name_cmp frames.target.keys ≡ true) →
      (answer : Option OwnedTriple) → LeavesThree frames others answer →
      MatchOption answer (IsInOtherTriples shapes others) (λ own. IsOutOfOtherTriples avoid (shapes ∷ []) others (owned_triple own))
  framed_answer label_new up answer left =
      frames_answer shapes f.keys label f.key f.new frames f.framed avoid others label_new f.strange
      (λ k there. three_named_or_met shapes others (labels_of_three shapes label) k (and_parts (any_free shapes) (three_name shapes k || met_here k) (sym (f.known k) ∙ there)).1)
      (all_known_three shapes f.keys label others lack (λ free k there. learnt free k (or_right (three_name shapes k) (met_here k) there))) own_known up answer left

pub plain_moved : (frame : Frame) (part other : List Options) (own : OwnedPair) → part ≡ other → IsPlainest frame part own → IsPlainest frame other own
plain_moved frame part other own same h = (h.0, h.1, h.2 ∙ ap (plain_rows frame.keys) same)

-- ---- all triples of shapes

pub all_triples_contained : (triples others : List ShapeTriple) (test typed : PairTriple → Bool) → DenotesTriples triples test → DenotesTriples others typed → AreInOtherTriples triples others →
    (t : PairTriple) → is_triple t ≡ true → test t ≡ true → typed t ≡ true
all_triples_contained triples others test typed own other h t good fits = sym (other t good) ∙ h t good (own t good ∙ fits)

pub none_triple_out : (avoid : Names) (triples others : List ShapeTriple) (i : ℕ) (shapes : ShapeTriple) (answer : Option OwnedTriple) → i < length triples → shapes ≡ get_or triples i shapes →
    MatchOption answer (IsInOtherTriples shapes others) (λ own. IsOutOfOtherTriples avoid (shapes ∷ []) others (owned_triple own)) → is_some answer ≡ false → AreInOtherTriples (take i triples) others →
    AreInOtherTriples (take (i + 1) triples) others
none_triple_out avoid triples others i shapes (Some own) lt is h none before t good there = absurd (true≢false none)
none_triple_out avoid triples others i shapes None lt is h none before t good there =
    ⊎_elim (before t good) (h t good)
    (or_cases (in_some_triple (take i triples) t) (in_triple shapes t)
    (sym (ap (λ ss. in_some_triple ss t) (take_more triples i shapes lt ∙ ap (λ s. take i triples ++ s ∷ []) (sym is))
    ∙ list_any-append (λ s. in_triple s t) (take i triples) (shapes ∷ []) ∙ ap (λ b. in_some_triple (take i triples) t || b) (or-false (in_triple shapes t))) ∙ there))

pub triple_found_out : (avoid : Names) (triples others : List ShapeTriple) (i : ℕ) (shapes : ShapeTriple) (answer : Option OwnedTriple) → i < length triples → shapes ≡ get_or triples i shapes →
    MatchOption answer (IsInOtherTriples shapes others) (λ own. IsOutOfOtherTriples avoid (shapes ∷ []) others (owned_triple own)) → is_some answer ≡ true →
    MatchOption answer (AreInOtherTriples triples others) (λ own. IsOutOfOtherTriples avoid triples others (owned_triple own))
triple_found_out avoid triples others i shapes None lt is h some = absurd (true≢false (sym some))
triple_found_out avoid triples others i shapes (Some own) lt is out some =
    record {
      triple = out.triple;
      inside = list_any_at (λ s. in_triple s (owned_triple own)) triples i shapes lt (ap (λ s. in_triple s (owned_triple own)) (sym is) ∙ sym (or-false (in_triple shapes (owned_triple own))) ∙ out.inside);
      outside = out.outside;
      plain = out.plain;
      source = among (owned_triple own).source out.source;
      middle = among (owned_triple own).own out.middle;
      target = among (owned_triple own).target out.target;
    }
  where
    among : (p : NodeRow) → IsStrangeBut avoid (shapes_in (shapes ∷ [])) (shapes_in others) p → IsStrangeBut avoid (shapes_in triples) (shapes_in others) p
    among p h =
        strange_among avoid (shapes_in (shapes ∷ [])) (shapes_in triples) (shapes_in others) p (λ l. one_of_triples (λ (s : Shape). has_name l s.labels) triples i shapes lt is)
        (λ k. one_of_triples (λ (s : Shape). has_name k (keys_of s.keys)) triples i shapes lt is) h

-- ---- triples of shapes put last

or_step : (a b c : Bool) → ((a || b) || c) ≡ (a || (b || c))
or_step true b c = refl
or_step false b c = refl

pub triple_pushed : (start all new triples : List ShapeTriple) (i : ℕ) (shapes copy : ShapeTriple) → i < length triples → shapes ≡ get_or triples i shapes →
    ((t : PairTriple) → in_triple copy t ≡ in_triple shapes t) → new ≡ all ++ copy ∷ [] →
    ((t : PairTriple) → in_some_triple all t ≡ (in_some_triple start t || in_some_triple (take i triples) t)) →
    (t : PairTriple) → in_some_triple new t ≡ (in_some_triple start t || in_some_triple (take (i + 1) triples) t)
triple_pushed start all new triples i shapes copy lt is same pushed before t =
    ap (λ ss. in_some_triple ss t) pushed ∙ list_any-append (λ s. in_triple s t) all (copy ∷ [])
    ∙ ap (λ b. b || (in_triple copy t || false)) (before t)
    ∙ ap (λ b. (in_some_triple start t || in_some_triple (take i triples) t) || (b || false)) (same t)
    ∙ or_step (in_some_triple start t) (in_some_triple (take i triples) t) (in_triple shapes t || false)
    ∙ ap (λ b. in_some_triple start t || b) (sym (list_any-append (λ s. in_triple s t) (take i triples) (shapes ∷ [])))
    ∙ ap (λ ss. in_some_triple start t || in_some_triple ss t) (sym (take_more triples i shapes lt ∙ ap (λ s. take i triples ++ s ∷ []) (sym is)))

-- ---- shapes put last

pub shape_pushed : (start all new shapes : List Shape) (i : ℕ) (shape copy : Shape) → i < length shapes → shape ≡ get_or shapes i shape →
    ((p : NodeRow) → in_shape copy p ≡ in_shape shape p) → new ≡ all ++ copy ∷ [] →
    ((p : NodeRow) → in_some all p ≡ (in_some start p || in_some (take i shapes) p)) →
    (p : NodeRow) → in_some new p ≡ (in_some start p || in_some (take (i + 1) shapes) p)
shape_pushed start all new shapes i shape copy lt is same pushed before p =
    ap (λ ss. in_some ss p) pushed ∙ list_any-append (λ s. in_shape s p) all (copy ∷ [])
    ∙ ap (λ b. b || (in_shape copy p || false)) (before p)
    ∙ ap (λ b. (in_some start p || in_some (take i shapes) p) || (b || false)) (same p)
    ∙ or_step (in_some start p) (in_some (take i shapes) p) (in_shape shape p || false)
    ∙ ap (λ b. in_some start p || b) (sym (list_any-append (λ s. in_shape s p) (take i shapes) (shape ∷ [])))
    ∙ ap (λ ss. in_some start p || in_some ss p) (sym (take_more shapes i shape lt ∙ ap (λ s. take i shapes ++ s ∷ []) (sym is)))
