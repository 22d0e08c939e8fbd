-- What is told are the differences, and each of them.
use Rattle.std.proofs.Common.{◌≡◌, ℕ, Bool, true, false, ◌||◌, inl, inr, List, Option, Some, None, flat_map, refl, sym, subst}
use Rattle.std.specs.List.{Contains}
use Rattle.std.specs.Map.{keys_of}
use Rattle.std.proofs.lemmas.List.Elements.{Contains-append_left, Contains-append_right, Contains-append_cases}
use Rattle.pgs_base.specs.declared.row.NodeRow.{NodeRow}
use Rattle.pgs_base.specs.declared.value.Value.{Value}
use Rattle.pgs_base.specs.Pair.{has_name, value_at}
use Rattle.pgs_base.specs.Value.{kind_of}
use Rattle.pgs_conform.specs.declared.options.Options.{Options}
use Rattle.pgs_conform.specs.declared.shape.Shape.{Shape}
use Rattle.pgs_conform.specs.Shapes.{admits_kind}
use Rattle.pgs_differences.specs.declared.difference.Difference.{Difference}
use Rattle.pgs_differences.specs.declared.difference.Difference.TheVariants.{LacksLabel, FurtherLabel, LacksKey, OtherKind, FurtherKey}
use Rattle.pgs_differences.specs.Differences.{IsDifference, of_asked_label, of_label, of_absent, of_present, of_key, label_differences, present_differences, key_differences, differences}
use Rattle.pgs_differences.proofs.Among.{among_none, made_of, is_made, image_of, is_image, by_test, where_false}

or_false : (a b : Bool) → (a || b) ≡ false → (a ≡ false) × (b ≡ false)
or_false true b e = cc
or_false false b e = (refl, e)

neither : (a b : Bool) → a ≡ false → b ≡ false → (a || b) ≡ false
neither a b e f = λ i. e i || f i

module _ (shape : Shape) (p : NodeRow) where
  abbrev absent_at : List ℕ × Options → List Difference
  absent_at key = of_absent key (value_at key.0 p.props)

  abbrev present_at : List ℕ × Options → List Difference
  present_at key = of_present key (value_at key.0 p.props)

  -- ---- each that is told is one

  asked_told : (label : List ℕ) (d : Difference) → Contains shape.labels label → Contains (of_asked_label p.labels label) d → IsDifference shape p d
  asked_told label d among h =
      by_test (LacksLabel label) (IsDifference shape p) (has_name label p.labels) d (λ e. (among, e)) h

  label_told : (label : List ℕ) (d : Difference) → Contains p.labels label → Contains (of_label shape.more_labels shape.labels label) d → IsDifference shape p d
  label_told label d among h =
      by_test (FurtherLabel label) (IsDifference shape p) (shape.more_labels || has_name label shape.labels) d
      (λ e. let both = or_false shape.more_labels (has_name label shape.labels) e in (both.0, among, both.1)) h

  absent_told : (key : List ℕ × Options) (value : Option Value) (d : Difference) → value_at key.0 p.props ≡ value → Contains shape.keys key →
      Contains (of_absent key value) d → IsDifference shape p d
  absent_told key None d there among h =
      by_test (LacksKey key.0 key.1) (IsDifference shape p) key.1.absent d (λ e. (among, e, there)) h
  absent_told key (Some value) d there among h = among_none d h

  present_told : (key : List ℕ × Options) (value : Option Value) (d : Difference) → value_at key.0 p.props ≡ value → Contains shape.keys key →
      Contains (of_present key value) d → IsDifference shape p d
  present_told key None d there among h = among_none d h
  present_told key (Some value) d there among h =
      by_test (OtherKind key.0 (kind_of value) key.1) (IsDifference shape p) (admits_kind key.1 (kind_of value)) d
      (λ e. (among, e, (value, there, refl))) h

  key_told : (entry : List ℕ × Value) (d : Difference) → Contains p.props entry → Contains (of_key shape.more_keys shape.keys entry) d → IsDifference shape p d
  key_told entry d among h =
      by_test (FurtherKey entry.0) (IsDifference shape p) (shape.more_keys || has_name entry.0 (keys_of shape.keys)) d
      (λ e.
      let both = or_false shape.more_keys (has_name entry.0 (keys_of shape.keys)) e in
      (both.0, is_image (λ (e : List ℕ × Value). e.0) p.props entry among, both.1)) h

  labels_told : (d : Difference) → Contains (label_differences shape p.labels) d → IsDifference shape p d
  unfolding label_differences
  labels_told d h =
      elim (Contains-append_cases (flat_map (of_asked_label p.labels) shape.labels) (flat_map (of_label shape.more_labels shape.labels) p.labels) d h) [
        | inl own ↦ let found = made_of (of_asked_label p.labels) shape.labels d own in asked_told found.0 d found.1 found.2
        | inr own ↦ let found = made_of (of_label shape.more_labels shape.labels) p.labels d own in label_told found.0 d found.1 found.2
      ]

  present_ones_told : (d : Difference) → Contains (present_differences shape p.props) d → IsDifference shape p d
  unfolding present_differences
  present_ones_told d h =
      elim (Contains-append_cases (flat_map present_at shape.keys) (flat_map (of_key shape.more_keys shape.keys) p.props) d h) [
        | inl own ↦ let found = made_of present_at shape.keys d own in present_told found.0 (value_at found.0.0 p.props) d refl found.1 found.2
        | inr own ↦ let found = made_of (of_key shape.more_keys shape.keys) p.props d own in key_told found.0 d found.1 found.2
      ]

  keys_told : (d : Difference) → Contains (key_differences shape p.props) d → IsDifference shape p d
  unfolding key_differences
  keys_told d h =
      elim (Contains-append_cases (flat_map absent_at shape.keys) (present_differences shape p.props) d h) [
        | inl own ↦ let found = made_of absent_at shape.keys d own in absent_told found.0 (value_at found.0.0 p.props) d refl found.1 found.2
        | inr own ↦ present_ones_told d own
      ]

  pub told : (d : Difference) → Contains (differences shape p) d → IsDifference shape p d
  told d h =
      elim (Contains-append_cases (label_differences shape p.labels) (key_differences shape p.props) d h) [
        | inl own ↦ labels_told d own
        | inr own ↦ keys_told d own
      ]

  -- ---- and each is told

  among_labels : (d : Difference) → Contains (label_differences shape p.labels) d → Contains (differences shape p) d
  among_labels d h = Contains-append_left (label_differences shape p.labels) (key_differences shape p.props) d h

  among_keys : (d : Difference) → Contains (key_differences shape p.props) d → Contains (differences shape p) d
  among_keys d h = Contains-append_right (label_differences shape p.labels) (key_differences shape p.props) d h

  among_absent : (d : Difference) → Contains (flat_map absent_at shape.keys) d → Contains (key_differences shape p.props) d
  unfolding key_differences
  among_absent d h = Contains-append_left (flat_map absent_at shape.keys) (present_differences shape p.props) d h

  among_present : (d : Difference) → Contains (present_differences shape p.props) d → Contains (key_differences shape p.props) d
  unfolding key_differences
  among_present d h = Contains-append_right (flat_map absent_at shape.keys) (present_differences shape p.props) d h

  asked_is : (d : Difference) → Contains (flat_map (of_asked_label p.labels) shape.labels) d → Contains (label_differences shape p.labels) d
  unfolding label_differences
  asked_is d h = Contains-append_left (flat_map (of_asked_label p.labels) shape.labels) (flat_map (of_label shape.more_labels shape.labels) p.labels) d h

  label_is : (d : Difference) → Contains (flat_map (of_label shape.more_labels shape.labels) p.labels) d → Contains (label_differences shape p.labels) d
  unfolding label_differences
  label_is d h = Contains-append_right (flat_map (of_asked_label p.labels) shape.labels) (flat_map (of_label shape.more_labels shape.labels) p.labels) d h

  present_is : (d : Difference) → Contains (flat_map present_at shape.keys) d → Contains (present_differences shape p.props) d
  unfolding present_differences
  present_is d h = Contains-append_left (flat_map present_at shape.keys) (flat_map (of_key shape.more_keys shape.keys) p.props) d h

  key_is : (d : Difference) → Contains (flat_map (of_key shape.more_keys shape.keys) p.props) d → Contains (present_differences shape p.props) d
  unfolding present_differences
  key_is d h = Contains-append_right (flat_map present_at shape.keys) (flat_map (of_key shape.more_keys shape.keys) p.props) d h

  absent_made : (key : List ℕ × Options) (value : Option Value) → value ≡ None → key.1.absent ≡ false →
      Contains (of_absent key value) (LacksKey key.0 key.1)
  absent_made key None there e = where_false (LacksKey key.0 key.1) key.1.absent e
  absent_made key (Some value) there e = cc

  present_made : (key : List ℕ × Options) (found : Option Value) (value : Value) → found ≡ Some value → admits_kind key.1 (kind_of value) ≡ false →
      Contains (of_present key found) (OtherKind key.0 (kind_of value) key.1)
  present_made key found value there e =
      subst (λ v. Contains (of_present key v) (OtherKind key.0 (kind_of value) key.1)) (sym there)
      (where_false (OtherKind key.0 (kind_of value) key.1) (admits_kind key.1 (kind_of value)) e)

  pub every : (d : Difference) → IsDifference shape p d → Contains (differences shape p) d
  every (LacksLabel label) h =
      among_labels (LacksLabel label) (asked_is (LacksLabel label)
      (is_made (of_asked_label p.labels) shape.labels label (LacksLabel label) h.0
      (where_false (LacksLabel label) (has_name label p.labels) h.1)))
  every (FurtherLabel label) h =
      among_labels (FurtherLabel label) (label_is (FurtherLabel label)
      (is_made (of_label shape.more_labels shape.labels) p.labels label (FurtherLabel label) h.1
      (where_false (FurtherLabel label) (shape.more_labels || has_name label shape.labels) (neither _ _ h.0 h.2))))
  every (LacksKey key options) h =
      among_keys (LacksKey key options) (among_absent (LacksKey key options)
      (is_made absent_at shape.keys (key, options) (LacksKey key options) h.0
      (absent_made (key, options) (value_at key p.props) h.2 h.1)))
  every (OtherKind key kind options) h =
      let value = h.2.0 in
      subst (λ k. Contains (differences shape p) (OtherKind key k options)) h.2.2
      (among_keys (OtherKind key (kind_of value) options) (among_present (OtherKind key (kind_of value) options)
      (present_is (OtherKind key (kind_of value) options)
      (is_made present_at shape.keys (key, options) (OtherKind key (kind_of value) options) h.0
      (present_made (key, options) (value_at key p.props) value h.2.1 (subst (λ k. admits_kind options k ≡ false) (sym h.2.2) h.1))))))
  every (FurtherKey key) h =
      let found = image_of (λ (e : List ℕ × Value). e.0) p.props key h.1 in
      subst (λ k. Contains (differences shape p) (FurtherKey k)) found.2
      (among_keys (FurtherKey found.0.0) (among_present (FurtherKey found.0.0) (key_is (FurtherKey found.0.0)
      (is_made (of_key shape.more_keys shape.keys) p.props found.0 (FurtherKey found.0.0) found.1
      (where_false (FurtherKey found.0.0) (shape.more_keys || has_name found.0.0 (keys_of shape.keys))
      (neither _ _ h.0 (subst (λ k. has_name k (keys_of shape.keys) ≡ false) (sym found.2) h.2)))))))
