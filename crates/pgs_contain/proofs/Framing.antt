-- What is in a shape, by what stands at the keys of a frame.
use Rattle.std.proofs.Common.{◌≡◌, ℕ, Bool, true, false, ◌&&◌, ◌||◌, List, [], ◌∷◌, map, Option, Some, None, is_some, unwrap_or, refl, sym, ◌∙◌, ap, true≢false, ⊎_elim, if◌then◌else◌}
use Rattle.std.specs.Cmp.Lexicographic.{nat_list_cmp_total}
use Rattle.std.specs.List.{list_all}
use Rattle.std.specs.Map.{keys_of, lookup}
use Rattle.std.proofs.lemmas.Bool.{and_parts, and_from, or_cases, or_left, or_right}
use Rattle.pgs_base.specs.declared.value.Kind.{Kind}
use Rattle.pgs_base.specs.declared.value.Kind.TheVariants as kinds
use Rattle.pgs_base.specs.declared.value.Value.{Value}
use Rattle.pgs_base.specs.declared.value.Value.TheVariants as values
use Rattle.pgs_base.specs.Value.{kind_of}
use Rattle.pgs_base.specs.Order.{ascends}
use Rattle.pgs_base.specs.Pair.{same_name, has_name, put_name, value_at}
use Rattle.pgs_base.proofs.Lookups.{any-insert_key}
use Rattle.pgs_syntax.proofs.Parts.{one_name}
use Rattle.pgs_conform.specs.declared.options.Options.{Options}
use Rattle.pgs_conform.specs.Shapes.{admits, admits_kind, labels_meet, props_meet}
use Rattle.pgs_conform.specs.JoinedOptions.{free_options, options_at}
use Rattle.pgs_product.proofs.Asked.{own_name, labels_met, labels_meet_from, has_found, entries_found, found_entries, props_met, props_meet_from}
use Rattle.pgs_product.proofs.United.{name_cmp}
use Rattle.pgs_contain.specs.Frames.{Names, Keys, text_alone, frame_labels, frame_keys, frame_options}
use Rattle.pgs_contain.specs.Regions.{Point, in_region}

abbrev Props : Type 0
Props = List (List ℕ × Value)

-- ---- names

pub has_put : (l n : List ℕ) (ns : Names) → has_name l (put_name ns n) ≡ (same_name n l || has_name l ns)
has_put l n ns = any-insert_key nat_list_cmp_total l n ns

pub has_itself : (n : List ℕ) (ns : Names) → has_name n (put_name ns n) ≡ true
has_itself n ns = has_put n n ns ∙ or_left (same_name n n) (has_name n ns) (own_name n)

pub has_still : (l n : List ℕ) (ns : Names) → has_name l ns ≡ true → has_name l (put_name ns n) ≡ true
has_still l n ns h = has_put l n ns ∙ or_right (same_name n l) (has_name l ns) h

-- a name that is there after another was put in, and is not that one
had : (l n : List ℕ) (ns : Names) → has_name l (put_name ns n) ≡ true → (same_name n l ≡ true → ⊥) → has_name l ns ≡ true
had l n ns there other = ⊎_elim (λ same. absurd (other same)) (λ before. before) (or_cases (same_name n l) (has_name l ns) (sym (has_put l n ns) ∙ there))

false_from : (b : Bool) → (b ≡ true → ⊥) → b ≡ false
false_from true h = absurd (h refl)
false_from false h = refl

-- a name that is there isn't one that isn't
other_name : (k n : List ℕ) (ns : Names) → has_name k ns ≡ true → has_name n ns ≡ false → same_name k n ≡ false
other_name k n ns there new = false_from (same_name k n) (λ same. true≢false (sym there ∙ ap (λ z. has_name z ns) (one_name k n same) ∙ new))

-- ---- labels

pub labels_in : (more : Bool) (asked other : Names) (more_other : Bool) (label : List ℕ) (ls : Names) → labels_meet asked more ls ≡ true →
    labels_meet other more_other (frame_labels more asked label) ≡ true → has_name label other ≡ false → labels_meet other more_other ls ≡ true
labels_in false asked other more_other label ls own met new =
    labels_meet_from other more_other ls
    (λ l. let s = labels_met asked false ls own l in let t = labels_met other more_other asked met l in (λ i. s.0 (t.0 i), λ there. t.1 (s.1 there)))
labels_in true asked other more_other label ls own met new =
    labels_meet_from other more_other ls
    (λ l. (
      λ i.
          (labels_met asked true ls own l).0
          (had l label asked ((labels_met other more_other (put_name asked label) met l).0 i)
          (λ same. true≢false (sym i ∙ ap (λ z. has_name z other) (sym (one_name label l same)) ∙ new))),
      λ there. or_left more_other (has_name l other) free,
    ))
  where
    only : (m : Bool) → (m || has_name label other) ≡ true → m ≡ true
    only true e = refl
    only false e = absurd (true≢false (sym e ∙ new))

    free : more_other ≡ true
    free = only more_other ((labels_met other more_other (put_name asked label) met label).1 (has_itself label asked))

pub own_labels : (more : Bool) (asked : Names) (label : List ℕ) → labels_meet asked more (frame_labels more asked label) ≡ true
own_labels false asked label = labels_meet_from asked false asked (λ l. (λ i. i, λ i. i))
own_labels true asked label = labels_meet_from asked true (put_name asked label) (λ l. (λ i. has_still l label asked i, λ i. refl))

-- ---- what stands at keys

module _ (f : List ℕ → Options) (g : List ℕ → Option Value) where
  pub all_in : (ks : Names) → in_region (map f ks) (map g ks) ≡ true → (k : List ℕ) → has_name k ks ≡ true → admits (f k) (g k) ≡ true
  all_in [] h k there = absurd (true≢false (sym there))
  all_in (x ∷ xs) h k there =
      let parts = and_parts _ _ h in
      ⊎_elim (λ same. ap (λ z. admits (f z) (g z)) (one_name k x same) ∙ parts.0) (λ later. all_in xs parts.1 k later) (or_cases (same_name k x) (has_name k xs) there)

  pub in_all : (ks : Names) → ((k : List ℕ) → has_name k ks ≡ true → admits (f k) (g k) ≡ true) → in_region (map f ks) (map g ks) ≡ true
  in_all [] h = refl
  in_all (x ∷ xs) h =
      and_from (admits (f x) (g x)) (in_region (map f xs) (map g xs)) (h x (or_left (same_name x x) (has_name x xs) (own_name x)))
      (in_all xs (λ k there. h k (or_right (same_name k x) (has_name k xs) there)))

-- what is free admits all, and what isn't admits nothing alone
free_all : (v : Option Value) → admits (free_options true) v ≡ true
free_all None = refl
free_all (Some value) = by (kind_of value)
  where
    by : (kind : Kind) → admits_kind (free_options true) kind ≡ true
    by kinds.Text = refl
    by kinds.Int = refl
    by kinds.Bool = refl
    by kinds.Date = refl

closed_none : (v : Option Value) → admits (free_options false) v ≡ true → v ≡ None
closed_none None h = refl
closed_none (Some value) h = absurd (by (kind_of value) h)
  where
    by : (kind : Kind) → admits_kind (free_options false) kind ≡ true → ⊥
    by kinds.Text e = true≢false (sym e)
    by kinds.Int e = true≢false (sym e)
    by kinds.Bool e = true≢false (sym e)
    by kinds.Date e = true≢false (sym e)

-- a key that isn't named
unnamed : (k : List ℕ) (keys : Keys) → has_name k (keys_of keys) ≡ false → lookup (same_name k) keys ≡ None
unnamed k keys h = by (lookup (same_name k) keys) (sym (has_found k keys) ∙ h)
  where
    by : (o : Option Options) → is_some o ≡ false → o ≡ None
    by None e = refl
    by (Some x) e = absurd (true≢false e)

pub at_unnamed : (k : List ℕ) (keys : Keys) (more : Bool) → has_name k (keys_of keys) ≡ false → options_at keys more k ≡ free_options more
at_unnamed k keys more h = ap (λ o. unwrap_or o (free_options more)) (unnamed k keys h)

-- a key that isn't known is named by none whose keys are
new_key : (keys : Keys) (known : Names) (key : List ℕ) → ((k : List ℕ) → has_name k (keys_of keys) ≡ true → has_name k known ≡ true) → has_name key known ≡ false →
    has_name key (keys_of keys) ≡ false
new_key keys known key all new = false_from (has_name key (keys_of keys)) (λ there. true≢false (sym (all key there) ∙ new))

-- ---- a pair of the shape, whose point is in another

-- what stands at a key of a frame, for a pair of the shape: a text at the further key
abbrev pub stands : Bool → List ℕ → Props → List ℕ → Option Value
stands more key props k = if more && same_name k key then Some (values.Text []) else value_at k props

abbrev pub own_point : Bool → Keys → Names → List ℕ → Props → Point
own_point more keys known key props = map (stands more key props) (frame_keys more keys known key)

pub own_point_in : (more : Bool) (keys : Keys) (known : Names) (key : List ℕ) (props : Props) → props_meet keys more props ≡ true →
    in_region (map (frame_options more keys key) (frame_keys more keys known key)) (own_point more keys known key props) ≡ true
own_point_in more keys known key props met =
    in_all (frame_options more keys key) (stands more key props) (frame_keys more keys known key) (λ k there. by k (more && same_name k key))
  where
    by : (k : List ℕ) (b : Bool) → admits (if b then text_alone else options_at keys more k) (if b then Some (values.Text []) else value_at k props) ≡ true
    by k true = refl
    by k false = props_met keys more props met k

-- where a key isn't in the frame of a closed shape, the other shape has it optional
absent_at : (others : Keys) (more : Bool) (ks : Names) → list_all (λ (key : List ℕ × Options). key.1.absent || has_name key.0 ks) others ≡ true →
    (k : List ℕ) → has_name k ks ≡ false → (options_at others more k).absent ≡ true
absent_at others more ks all k out = by (lookup (same_name k) others) refl
  where
    only : (a : Bool) → (a || has_name k ks) ≡ true → a ≡ true
    only true e = refl
    only false e = absurd (true≢false (sym e ∙ out))

    by : (o : Option Options) → lookup (same_name k) others ≡ o → (unwrap_or o (free_options more)).absent ≡ true
    by None is = refl
    by (Some x) is = only x.absent (entries_found (λ (key : List ℕ × Options). key.1.absent || has_name key.0 ks) others all k x is)

module _ (keys : Keys) (others : Keys) (more_others : Bool) (known : Names) (key : List ℕ) (props : Props) where
  closed_at : props_meet keys false props ≡ true → list_all (λ (k : List ℕ × Options). k.1.absent || has_name k.0 (keys_of keys)) others ≡ true →
      in_region (map (options_at others more_others) (keys_of keys)) (map (stands false key props) (keys_of keys)) ≡ true →
      (k : List ℕ) (named : Bool) → has_name k (keys_of keys) ≡ named → admits (options_at others more_others k) (value_at k props) ≡ true
  closed_at met wanted there k true e = all_in (options_at others more_others) (stands false key props) (keys_of keys) there k e
  closed_at met wanted there k false e =
      let none : value_at k props ≡ None = closed_none (value_at k props) (ap (λ o. admits o (value_at k props)) (sym (at_unnamed k keys false e)) ∙ props_met keys false props met k) in
      ap (admits (options_at others more_others k)) none ∙ absent_at others more_others (keys_of keys) wanted k e

  open_at : ((k : List ℕ) → has_name k (keys_of others) ≡ true → has_name k known ≡ true) → has_name key known ≡ false →
      in_region (map (options_at others more_others) (put_name known key)) (map (stands true key props) (put_name known key)) ≡ true →
      (k : List ℕ) (named : Bool) → has_name k (keys_of others) ≡ named → admits (options_at others more_others k) (value_at k props) ≡ true
  open_at all new there k true e =
      let is_there = all k e in
      let other = other_name k key known is_there new in
      ap (λ (b : Bool). admits (options_at others more_others k) (if b then Some (values.Text []) else value_at k props)) (sym other)
      ∙ all_in (options_at others more_others) (stands true key props) (put_name known key) there k (has_still k key known is_there)
  open_at all new there k false e = ap (λ o. admits o (value_at k props)) (at_unnamed k others more_others e ∙ ap free_options free) ∙ free_all (value_at k props)
    where
      text : (m : Bool) → admits (free_options m) (Some (values.Text [])) ≡ true → m ≡ true
      text true i = refl
      text false i = i

      free : more_others ≡ true
      free =
          text more_others
          (ap (λ o. admits o (Some (values.Text []))) (sym (at_unnamed key others more_others (new_key others known key all new)))
          ∙ ap (λ (b : Bool). admits (options_at others more_others key) (if b then Some (values.Text []) else value_at key props)) (sym (own_name key))
          ∙ all_in (options_at others more_others) (stands true key props) (put_name known key) there key (has_itself key known))

pub props_in : (more : Bool) (keys others : Keys) (more_others : Bool) (known : Names) (key : List ℕ) (props : Props) →
    ascends name_cmp (keys_of others) ≡ true → ascends name_cmp (keys_of props) ≡ true → props_meet keys more props ≡ true →
    (more ≡ true → (k : List ℕ) → has_name k (keys_of others) ≡ true → has_name k known ≡ true) → has_name key known ≡ false →
    list_all (λ (k : List ℕ × Options). k.1.absent || has_name k.0 (frame_keys more keys known key)) others ≡ true →
    in_region (map (options_at others more_others) (frame_keys more keys known key)) (own_point more keys known key props) ≡ true →
    props_meet others more_others props ≡ true
props_in false keys others more_others known key props up props_up met all new wanted there =
    props_meet_from others more_others props up props_up (λ k. closed_at keys others more_others known key props met wanted there k (has_name k (keys_of keys)) refl)
props_in true keys others more_others known key props up props_up met all new wanted there =
    props_meet_from others more_others props up props_up (λ k. open_at keys others more_others known key props (all refl) new there k (has_name k (keys_of others)) refl)

-- ---- a pair of the frame

-- what stands at the keys of a frame in a pair
abbrev pub frame_point : Names → Props → Point
frame_point ks props = map (λ k. value_at k props) ks

-- a pair has no key outside
abbrev pub AreAll : Names → Props → Type 0
AreAll ks props = (k : List ℕ) → has_name k ks ≡ false → value_at k props ≡ None

module _ (keys : Keys) (known : Names) (key : List ℕ) (props : Props) where
  closed_own : AreAll (keys_of keys) props → in_region (map (frame_options false keys key) (keys_of keys)) (frame_point (keys_of keys) props) ≡ true →
      (k : List ℕ) (named : Bool) → has_name k (keys_of keys) ≡ named → admits (options_at keys false k) (value_at k props) ≡ true
  closed_own apart there k true e = all_in (frame_options false keys key) (λ l. value_at l props) (keys_of keys) there k e
  closed_own apart there k false e =
      ap (admits (options_at keys false k)) (apart k e) ∙ ap (λ o. admits o None) (at_unnamed k keys false e)

  open_own : ((k : List ℕ) → has_name k (keys_of keys) ≡ true → has_name k known ≡ true) → has_name key known ≡ false →
      in_region (map (frame_options true keys key) (put_name known key)) (frame_point (put_name known key) props) ≡ true →
      (k : List ℕ) (named : Bool) → has_name k (keys_of keys) ≡ named → admits (options_at keys true k) (value_at k props) ≡ true
  open_own all new there k true e =
      let is_there = all k e in
      ap (λ (b : Bool). admits (if b then text_alone else options_at keys true k) (value_at k props)) (sym (other_name k key known is_there new))
      ∙ all_in (frame_options true keys key) (λ l. value_at l props) (put_name known key) there k (has_still k key known is_there)
  open_own all new there k false e = ap (λ o. admits o (value_at k props)) (at_unnamed k keys true e) ∙ free_all (value_at k props)

pub props_own : (more : Bool) (keys : Keys) (known : Names) (key : List ℕ) (props : Props) → ascends name_cmp (keys_of keys) ≡ true →
    ascends name_cmp (keys_of props) ≡ true → (more ≡ true → (k : List ℕ) → has_name k (keys_of keys) ≡ true → has_name k known ≡ true) → has_name key known ≡ false →
    AreAll (frame_keys more keys known key) props →
    in_region (map (frame_options more keys key) (frame_keys more keys known key)) (frame_point (frame_keys more keys known key) props) ≡ true →
    props_meet keys more props ≡ true
props_own false keys known key props up props_up all new apart there =
    props_meet_from keys false props up props_up (λ k. closed_own keys known key props apart there k (has_name k (keys_of keys)) refl)
props_own true keys known key props up props_up all new apart there =
    props_meet_from keys true props up props_up (λ k. open_own keys known key props (all refl) new there k (has_name k (keys_of keys)) refl)

-- another shape that has the pair may have one of the frame, and has its point
pub others_may : (ks : Names) (others : Keys) (more : Bool) (props : Props) → ascends name_cmp (keys_of others) ≡ true → AreAll ks props →
    props_meet others more props ≡ true → list_all (λ (key : List ℕ × Options). key.1.absent || has_name key.0 ks) others ≡ true
others_may ks others more props up apart met =
    found_entries (λ (key : List ℕ × Options). key.1.absent || has_name key.0 ks) others up (λ k o is. by k o is (has_name k ks) refl)
  where
    by : (k : List ℕ) (o : Options) → lookup (same_name k) others ≡ Some o → (b : Bool) → has_name k ks ≡ b → (o.absent || has_name k ks) ≡ true
    by k o is true e = or_right o.absent (has_name k ks) e
    by k o is false e =
        or_left o.absent (has_name k ks)
        (ap (λ z. admits (unwrap_or z (free_options more)) None) (sym is) ∙ ap (admits (options_at others more k)) (sym (apart k e)) ∙ props_met others more props met k)

pub others_have : (ks : Names) (others : Keys) (more : Bool) (props : Props) → props_meet others more props ≡ true →
    in_region (map (options_at others more) ks) (frame_point ks props) ≡ true
others_have ks others more props met = in_all (options_at others more) (λ k. value_at k props) ks (λ k there. props_met others more props met k)
