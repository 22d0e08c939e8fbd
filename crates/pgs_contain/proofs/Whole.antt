-- A shape whose region is covered by others has no pair outside of them, and what is left of its region gives one.
use Rattle.std.proofs.Common.{◌≡◌, ℕ, ◌+◌, ◌<◌, ◌++◌, take, get_or, Bool, true, false, ◌&&◌, ◌||◌, List, [], ◌∷◌, map, length, suc, Option, Some, None, is_some, MatchOption, refl, sym, ◌∙◌, ap, subst, true≢false, ⊎_elim}
use Rattle.std.specs.List.{list_all}
use Rattle.std.specs.Map.{keys_of}
use Rattle.std.proofs.lemmas.Bool.{and_parts, and_from, or_cases, or_left, or_right}
use Rattle.std.proofs.Math.Bool.{or-false}
use Rattle.std.proofs.lemmas.List.{take_more, length-map}
use Rattle.std.proofs.lemmas.List.Folds.{list_any-append, list_any_at}
use Rattle.pgs_base.specs.declared.row.NodeRow.{NodeRow}
use Rattle.pgs_base.specs.Order.{ascends}
use Rattle.pgs_base.specs.Pair.{has_name, is_pair, value_at}
use Rattle.pgs_conform.specs.declared.options.Options.{Options}
use Rattle.pgs_conform.specs.declared.shape.Shape.{Shape}
use Rattle.pgs_conform.specs.Shapes.{labels_meet, in_shape, in_some, Denotes}
use Rattle.pgs_product.proofs.United.{name_cmp}
use Rattle.pgs_contain.specs.declared.frame.Frame.{Frame}
use Rattle.pgs_contain.specs.declared.outside.OwnedPair.{OwnedPair}
use Rattle.pgs_contain.specs.Contained.{is_plain_value, pair_in}
use Rattle.pgs_contain.specs.Frames.{Names, frame_labels, frame_keys, frame_options, options_of, may_have, in_some_of, IsFrame, IsFramed, IsInOthers, AreInOthers, IsOutOfOthers}
use Rattle.pgs_contain.specs.Known.{lacks_label, names_if_met, names_met_key}
use Rattle.pgs_contain.specs.Regions.{Point, plainest, in_region, in_some_region, is_possible, IsCovered, IsLeft, Leaves}
use Rattle.pgs_contain.specs.Rows.{plain_rows}
use Rattle.pgs_contain.specs.Strange.{IsStrangeBut, names_label, names_key}
use Rattle.pgs_contain.proofs.Framing.{labels_in, own_labels, own_point, own_point_in, props_in, frame_point, AreAll, props_own, others_may, others_have}
use Rattle.pgs_contain.proofs.Plain.{plainest_may, rows_apart, rows_in, rows_plain}
use Rattle.pgs_contain.proofs.Strangers.{lacking, named_or_met, strange_pair, strange_among, one_label, one_key}

pub props_up : (p : NodeRow) → is_pair p ≡ true → ascends name_cmp (keys_of p.props) ≡ true
props_up p pair = (and_parts _ _ (and_parts _ _ (and_parts _ _ pair).1).0).0

pub false_from : (b : Bool) → (b ≡ true → ⊥) → b ≡ false
false_from true h = absurd (h refl)
false_from false h = refl

-- another shape doesn't name the further label, and where this one is free in keys, its keys are known
pub record IsKnown (more : Bool) (keys : Names) (label : List ℕ) (other : Shape) : Type 0 where
  pub label_new : has_name label other.labels ≡ false
  pub keys_known : more ≡ true → (k : List ℕ) → has_name k (keys_of other.keys) ≡ true → has_name k keys ≡ true

-- so are those of others that may have labels
abbrev pub AreKnown : Bool → Names → List ℕ → Names → List Shape → Type 0
AreKnown more keys label labels [] = Unit {0}
AreKnown more keys label labels (o ∷ os) = (labels_meet o.labels o.more_labels labels ≡ true → IsKnown more keys label o) × AreKnown more keys label labels os

module _ (shape : Shape) (keys : Names) (label key : List ℕ) (new : has_name key keys ≡ false) where
  abbrev own_labels_of : Names
  own_labels_of = frame_labels shape.more_labels shape.labels label

  abbrev own_keys_of : Names
  own_keys_of = frame_keys shape.more_keys shape.keys keys key

  -- where the shape is free in keys, its own are known
  abbrev pub OwnKnown : Type 0
  OwnKnown = shape.more_keys ≡ true → (k : List ℕ) → has_name k (keys_of shape.keys) ≡ true → has_name k keys ≡ true

  -- ---- a pair of the shape whose point another has is in the other

  pub pair_in_other : (other : Shape) → IsKnown shape.more_keys keys label other → (p : NodeRow) → is_pair p ≡ true → in_shape shape p ≡ true →
      (may_have other own_labels_of own_keys_of && in_region (options_of other own_keys_of) (own_point shape.more_keys shape.keys keys key p.props)) ≡ true →
      in_shape other p ≡ true
  pair_in_other other known p pair own h =
      let own_parts = and_parts _ _ own in
      let parts = and_parts _ _ h in
      let may = and_parts _ _ parts.0 in
      and_from _ _ (labels_in shape.more_labels shape.labels other.labels other.more_labels label p.labels own_parts.0 may.0 known.label_new)
      (props_in shape.more_keys shape.keys other.keys other.more_keys keys key p.props other.ascending (props_up p pair) own_parts.1 known.keys_known new may.1 parts.1)

  pub pair_in_others : (others : List Shape) → AreKnown shape.more_keys keys label own_labels_of others → (p : NodeRow) → is_pair p ≡ true → in_shape shape p ≡ true →
      in_some_of others own_labels_of own_keys_of (own_point shape.more_keys shape.keys keys key p.props) ≡ true → in_some others p ≡ true
  pair_in_others [] known p pair own h = absurd (true≢false (sym h))
  pair_in_others (o ∷ os) known p pair own h =
      let v = own_point shape.more_keys shape.keys keys key p.props in
      ⊎_elim
      (λ here.
      let may = and_parts (may_have o own_labels_of own_keys_of) (in_region (options_of o own_keys_of) v) here in
      or_left (in_shape o p) (in_some os p) (pair_in_other o (known.0 (and_parts _ _ may.0).0) p pair own here))
      (λ later. or_right (in_shape o p) (in_some os p) (pair_in_others os known.1 p pair own later))
      (or_cases (may_have o own_labels_of own_keys_of && in_region (options_of o own_keys_of) v) (in_some_of os own_labels_of own_keys_of v) h)

  pub covered : (others : List Shape) (region : List Options) (taken : List (List Options)) → AreKnown shape.more_keys keys label own_labels_of others →
      region ≡ map (frame_options shape.more_keys shape.keys key) own_keys_of →
      ((v : Point) → in_some_region taken v ≡ in_some_of others own_labels_of own_keys_of v) → IsCovered region taken → IsInOthers shape others
  covered others region taken known made same h = λ p pair own.
      let v = own_point shape.more_keys shape.keys keys key p.props in
      pair_in_others others known p pair own
      (sym (same v)
      ∙ h v (ap (λ r. in_region r v) made ∙ own_point_in shape.more_keys shape.keys keys key p.props (and_parts _ _ own).1))

  -- ---- a pair of the frame that another has, has its point there

  pub other_has : (other : Shape) (p : NodeRow) → p.labels ≡ own_labels_of → AreAll own_keys_of p.props → in_shape other p ≡ true →
      (may_have other own_labels_of own_keys_of && in_region (options_of other own_keys_of) (frame_point own_keys_of p.props)) ≡ true
  other_has other p named all h =
      let parts = and_parts _ _ h in
      and_from _ _
      (and_from _ _ (ap (labels_meet other.labels other.more_labels) (sym named) ∙ parts.0) (others_may own_keys_of other.keys other.more_keys p.props other.ascending all parts.1))
      (others_have own_keys_of other.keys other.more_keys p.props parts.1)

  pub others_have_it : (others : List Shape) (p : NodeRow) → p.labels ≡ own_labels_of → AreAll own_keys_of p.props → in_some others p ≡ true →
      in_some_of others own_labels_of own_keys_of (frame_point own_keys_of p.props) ≡ true
  others_have_it [] p named all h = absurd (true≢false (sym h))
  others_have_it (o ∷ os) p named all h =
      let v = frame_point own_keys_of p.props in
      ⊎_elim (λ here. or_left (may_have o own_labels_of own_keys_of && in_region (options_of o own_keys_of) v) (in_some_of os own_labels_of own_keys_of v) (other_has o p named all here))
      (λ later. or_right (may_have o own_labels_of own_keys_of && in_region (options_of o own_keys_of) v) (in_some_of os own_labels_of own_keys_of v) (others_have_it os p named all later))
      (or_cases (in_shape o p) (in_some os p) h)

  -- the plainest pair of a region of the frame: its keys, its point, and that it is in the shape
  pub plain_keys : (found : List Options) (p : NodeRow) → p.props ≡ plain_rows own_keys_of found → AreAll own_keys_of p.props
  plain_keys found p rows = λ k out. ap (value_at k) rows ∙ rows_apart own_keys_of found k out

  pub plain_point : (found : List Options) → ascends name_cmp own_keys_of ≡ true → length own_keys_of ≡ length found → list_all is_possible found ≡ true →
      (p : NodeRow) → p.props ≡ plain_rows own_keys_of found → in_region found (frame_point own_keys_of p.props) ≡ true
  plain_point found up same possible p rows = ap (λ props. in_region found (frame_point own_keys_of props)) rows ∙ rows_in own_keys_of found up same possible

  pub plain_in : OwnKnown → (p : NodeRow) → is_pair p ≡ true → p.labels ≡ own_labels_of → AreAll own_keys_of p.props →
      in_region (map (frame_options shape.more_keys shape.keys key) own_keys_of) (frame_point own_keys_of p.props) ≡ true → in_shape shape p ≡ true
  plain_in known p pair named all there =
      and_from _ _ (ap (labels_meet shape.labels shape.more_labels) named ∙ own_labels shape.more_labels shape.labels label)
      (props_own shape.more_keys shape.keys keys key p.props shape.ascending (props_up p pair) known new all there)

  pub left_out : (avoid : Names) (others : List Shape) (region found : List Options) (taken : List (List Options)) → OwnKnown → ascends name_cmp own_keys_of ≡ true →
      region ≡ map (frame_options shape.more_keys shape.keys key) own_keys_of → length own_keys_of ≡ length found →
      ((v : Point) → in_some_region taken v ≡ in_some_of others own_labels_of own_keys_of v) → IsLeft region taken found →
      (p : NodeRow) → is_pair p ≡ true → p.labels ≡ own_labels_of → p.props ≡ plain_rows own_keys_of found → IsStrangeBut avoid (shape ∷ []) others p →
      IsOutOfOthers avoid (shape ∷ []) others p
  left_out avoid others region found taken known up made even same left p pair named rows strange =
      let v = frame_point own_keys_of p.props in
      let all = plain_keys found p rows in
      let here = plain_point found up even left.possible p rows in
      record {
        pair = pair;
        inside = or_left (in_shape shape p) false (plain_in known p pair named all (ap (λ r. in_region r v) (sym made) ∙ left.inside v here));
        outside =
            false_from (in_some others p)
            (λ there. true≢false (sym (others_have_it others p named all there) ∙ sym (same v) ∙ left.outside v here));
        plain = ap (list_all (λ entry. is_plain_value entry.1)) rows ∙ rows_plain own_keys_of found;
        strange = strange;
      }

-- ---- a region and what is left of it have one length

point_length : (os : List Options) (v : Point) → in_region os v ≡ true → length os ≡ length v
point_length [] [] h = refl
point_length [] (v ∷ vs) h = absurd (true≢false (sym h))
point_length (o ∷ os) [] h = absurd (true≢false (sym h))
point_length (o ∷ os) (v ∷ vs) h = ap suc (point_length os vs (and_parts _ _ h).1)

plainest_in : (os : List Options) → list_all is_possible os ≡ true → in_region os (map plainest os) ≡ true
plainest_in [] h = refl
plainest_in (o ∷ os) h = let parts = and_parts _ _ h in and_from _ _ (plainest_may o parts.0) (plainest_in os parts.1)

pub left_length : (region found : List Options) (taken : List (List Options)) → IsLeft region taken found → length region ≡ length found
left_length region found taken left =
    let here = plainest_in found left.possible in
    point_length region (map plainest found) (left.inside (map plainest found) here) ∙ sym (point_length found (map plainest found) here)

-- the same regions, as slices
pub leaves_moved : (test : Point → Bool) (kept region : List Options) (taken given : List (List Options)) (left : Option (List Options)) → region ≡ kept → given ≡ taken →
    ((v : Point) → in_some_region taken v ≡ test v) → MatchOption left (IsCovered region given) (IsLeft region given) → Leaves test kept left
leaves_moved test kept region taken given left region_is given_is same is = record {
  taken = given;
  same = λ v. ap (λ ts. in_some_region ts v) given_is ∙ same v;
  is = subst (λ (r : List Options). MatchOption left (IsCovered r given) (IsLeft r given)) region_is is;
}

-- ---- by the frame that the code makes

-- those others that may have labels, and whose keys are known, don't name the further label
all_known : (more : Bool) (keys : Names) (label : List ℕ) (labels : Names) (others : List Shape) → list_all (lacks_label label) others ≡ true →
    (more ≡ true → (k : List ℕ) → names_met_key others labels k ≡ true → has_name k keys ≡ true) → AreKnown more keys label labels others
all_known more keys label labels [] lack known = tt
all_known more keys label labels (o ∷ os) lack known =
    let parts = and_parts _ _ lack in (
      λ meet. record {
        label_new = lacking label o.labels parts.0;
        keys_known = λ free k there. known free k (or_left (names_if_met labels k o) (names_met_key os labels k) (and_from _ _ meet there));
      },
      all_known more keys label labels os parts.1 (λ free k there. known free k (or_right (names_if_met labels k o) (names_met_key os labels k) there)),
    )

module _ (shape : Shape) (others : List Shape) (label : List ℕ) (avoid : Names) (frame : Frame) (f : IsFramed label avoid shape others frame) (lack : list_all (lacks_label label) others ≡ true) where
  abbrev labels_here : Names
  labels_here = frame_labels shape.more_labels shape.labels label

  -- what is known where the shape is free in keys
  learnt : shape.more_keys ≡ true → (k : List ℕ) → (has_name k (keys_of shape.keys) || names_met_key others labels_here k) ≡ true → has_name k f.keys ≡ true
  learnt free k there = f.known k ∙ and_from _ _ free there

  others_known : AreKnown shape.more_keys f.keys label labels_here others
  others_known =
      all_known shape.more_keys f.keys label labels_here others lack
      (λ free k there. learnt free k (or_right (has_name k (keys_of shape.keys)) (names_met_key others labels_here k) there))

  own_known : shape.more_keys ≡ true → (k : List ℕ) → has_name k (keys_of shape.keys) ≡ true → has_name k f.keys ≡ true
  own_known free k there = learnt free k (or_left (has_name k (keys_of shape.keys)) (names_met_key others labels_here k) there)

  made : frame.region ≡ map (frame_options shape.more_keys shape.keys f.key) (frame_keys shape.more_keys shape.keys f.keys f.key)
  made = f.framed.2 ∙ ap (map (frame_options shape.more_keys shape.keys f.key)) f.framed.1

  module _ (taken : List (List Options)) (same : (v : Point) → in_some_region taken v ≡ in_some_of others frame.labels frame.keys v) where
    same_taken : (v : Point) → in_some_region taken v ≡ in_some_of others labels_here (frame_keys shape.more_keys shape.keys f.keys f.key) v
    same_taken v =
        same v ∙ ap (λ ls. in_some_of others ls frame.keys v) f.framed.0
        ∙ ap (λ ks. in_some_of others labels_here ks v) f.framed.1

    pub shape_inside : IsCovered frame.region taken → IsInOthers shape others
    shape_inside h = covered shape f.keys label f.key f.new others frame.region taken others_known made same_taken h

    pub shape_outside : has_name label avoid ≡ false → ascends name_cmp frame.keys ≡ true → (found part : List Options) → IsLeft frame.region taken found → part ≡ found →
        (p : NodeRow) → (is_pair p ≡ true) × (p.labels ≡ frame.labels) × (p.props ≡ plain_rows frame.keys part) → IsOutOfOthers avoid (shape ∷ []) others p
    shape_outside new up found part left part_is p h =
        let rows = h.2 ∙ ap (plain_rows frame.keys) part_is ∙ ap (λ ks. plain_rows ks found) f.framed.1 in
        left_out shape f.keys label f.key f.new avoid others frame.region found taken own_known (ap (ascends name_cmp) (sym f.framed.1) ∙ up) made
        (sym (length-map (frame_keys shape.more_keys shape.keys f.keys f.key) (frame_options shape.more_keys shape.keys f.key)) ∙ ap length (sym made) ∙ left_length frame.region found taken left)
        same_taken left p h.0 (h.1 ∙ f.framed.0) rows
        (strange_pair avoid shape others f.keys label f.key found new f.strange (λ k there. from_known k there) p (h.1 ∙ f.framed.0) rows)
      where
        from_known : (k : List ℕ) → has_name k f.keys ≡ true → (names_key (shape ∷ []) k || names_key others k) ≡ true
        from_known k there = named_or_met shape others labels_here k ((and_parts shape.more_keys (has_name k (keys_of shape.keys) || names_met_key others labels_here k) (sym (f.known k) ∙ there)).1)

-- ---- shapes that denote

pub all_contained : (shapes others : List Shape) (test typed : NodeRow → Bool) → Denotes shapes test → Denotes others typed → AreInOthers shapes others →
    (p : NodeRow) → is_pair p ≡ true → test p ≡ true → typed p ≡ true
all_contained shapes others test typed own other h p pair fits = sym (other p pair) ∙ h p pair (own p pair ∙ fits)

pub shapes_more : (shapes others : List Shape) (i : ℕ) (shape : Shape) → i < length shapes → shape ≡ get_or shapes i shape → AreInOthers (take i shapes) others → IsInOthers shape others →
    AreInOthers (take (i + 1) shapes) others
shapes_more shapes others i shape lt is before own p pair there =
    ⊎_elim (before p pair) (own p pair)
    (or_cases (in_some (take i shapes) p) (in_shape shape p)
    (sym (ap (λ ss. in_some ss p) (take_more shapes i shape lt ∙ ap (λ s. take i shapes ++ s ∷ []) (sym is))
    ∙ list_any-append (λ s. in_shape s p) (take i shapes) (shape ∷ []) ∙ ap (λ b. in_some (take i shapes) p || b) (or-false (in_shape shape p))) ∙ there))

pub out_of_all : (avoid : Names) (shapes others : List Shape) (i : ℕ) (shape : Shape) (p : NodeRow) → i < length shapes → shape ≡ get_or shapes i shape → IsOutOfOthers avoid (shape ∷ []) others p →
    IsOutOfOthers avoid shapes others p
out_of_all avoid shapes others i shape p lt is out = record {
  pair = out.pair;
  inside = list_any_at (λ s. in_shape s p) shapes i shape lt (ap (λ s. in_shape s p) (sym is) ∙ sym (or-false (in_shape shape p)) ∙ out.inside);
  outside = out.outside;
  plain = out.plain;
  strange = strange_among avoid (shape ∷ []) shapes others p (one_label shapes i shape lt is) (one_key shapes i shape lt is) out.strange;
}

-- what one shape gives, of all of them
pub found_out : (avoid : Names) (shapes others : List Shape) (i : ℕ) (shape : Shape) (answer : Option OwnedPair) → i < length shapes → shape ≡ get_or shapes i shape →
    MatchOption answer (IsInOthers shape others) (λ own. IsOutOfOthers avoid (shape ∷ []) others (pair_in own)) → is_some answer ≡ true →
    MatchOption answer (AreInOthers shapes others) (λ own. IsOutOfOthers avoid shapes others (pair_in own))
found_out avoid shapes others i shape None lt is h some = absurd (true≢false (sym some))
found_out avoid shapes others i shape (Some own) lt is h some = out_of_all avoid shapes others i shape (pair_in own) lt is h

pub none_out : (avoid : Names) (shapes others : List Shape) (i : ℕ) (shape : Shape) (answer : Option OwnedPair) → i < length shapes → shape ≡ get_or shapes i shape →
    MatchOption answer (IsInOthers shape others) (λ own. IsOutOfOthers avoid (shape ∷ []) others (pair_in own)) → is_some answer ≡ false → AreInOthers (take i shapes) others →
    AreInOthers (take (i + 1) shapes) others
none_out avoid shapes others i shape None lt is h none before = shapes_more shapes others i shape lt is before h
none_out avoid shapes others i shape (Some own) lt is h none before = absurd (true≢false none)
