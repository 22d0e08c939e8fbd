-- What is outside is strange to names: its labels and keys are those of a frame.
use Rattle.std.proofs.Common.{◌≡◌, ◌⊎◌, inl, inr, ⊎_elim, ℕ, ◌+◌, ◌<◌, Bool, true, false, not, ◌&&◌, ◌||◌, List, [], ◌∷◌, ◌++◌, length, take, get_or, append_assoc, Option, Some, None, refl, sym, ◌∙◌, ap, true≢false}
use Rattle.std.specs.List.{list_any, list_all}
use Rattle.std.specs.Map.{keys_of}
use Rattle.std.proofs.Math.Bool.{or-false}
use Rattle.std.proofs.lemmas.Bool.{and_parts, and_from, or_cases, or_left, or_right}
use Rattle.std.proofs.lemmas.List.{append-nil, take_more}
use Rattle.std.proofs.lemmas.List.Folds.{list_any_at, list_any-append}
use Rattle.pgs_base.specs.declared.row.NodeRow.{NodeRow}
use Rattle.pgs_base.specs.declared.value.Value.{Value}
use Rattle.pgs_base.specs.Pair.{same_name, has_name, put_name}
use Rattle.pgs_syntax.proofs.Parts.{one_name}
use Rattle.pgs_conform.specs.declared.options.Options.{Options}
use Rattle.pgs_conform.specs.declared.shape.Shape.{Shape}
use Rattle.pgs_conform.specs.declared.shape.Triple.{Triple as ShapeTriple}
use Rattle.pgs_contain.specs.Frames.{Names, Keys, frame_labels, frame_keys}
use Rattle.pgs_contain.specs.Known.{labels_in, labels_in_triples, lacks_label, lacks_label_three, names_if_met, names_met_key, three_name, three_name_if_met, three_name_met_key}
use Rattle.pgs_contain.specs.declared.labels_of_three.LabelsOfThree.{LabelsOfThree}
use Rattle.pgs_contain.specs.Regions.{plainest}
use Rattle.pgs_contain.specs.Rows.{row_before, plain_rows}
use Rattle.pgs_contain.specs.Strange.{IsStrangeBut, names_label, names_key, shapes_in}
use Rattle.pgs_contain.proofs.Framing.{has_put}

-- ---- of names

pub lacking : (label : List ℕ) (names : Names) → not (has_name label names) ≡ true → has_name label names ≡ false
lacking label names lack = by (has_name label names) lack
  where
    by : (b : Bool) → not b ≡ true → b ≡ false
    by true is = absurd (true≢false (sym is))
    by false is = refl

-- a name that is there after another was put in, and is among names that this other isn't among
put_before : (n x : List ℕ) (names avoid : Names) → has_name x avoid ≡ false → has_name n avoid ≡ true → has_name n (put_name names x) ≡ true → has_name n names ≡ true
put_before n x names avoid new among there =
    ⊎_elim (λ same. absurd (true≢false (sym among ∙ ap (λ z. has_name z avoid) (sym (one_name x n same)) ∙ new))) (λ before. before)
    (or_cases (same_name x n) (has_name n names) (sym (has_put n x names) ∙ there))

-- ---- of a frame

label_of_frame : (avoid : Names) (more : Bool) (asked : Names) (label l : List ℕ) → has_name label avoid ≡ false → has_name l avoid ≡ true →
    has_name l (frame_labels more asked label) ≡ true → has_name l asked ≡ true
label_of_frame avoid true asked label l new among there = put_before l label asked avoid new among there
label_of_frame avoid false asked label l new among there = there

key_of_frame : (avoid : Names) (more : Bool) (entries : Keys) (known : Names) (key k : List ℕ) → has_name key avoid ≡ false → has_name k avoid ≡ true →
    has_name k (frame_keys more entries known key) ≡ true → (has_name k (keys_of entries) ≡ true) ⊎ (has_name k known ≡ true)
key_of_frame avoid true entries known key k new among there = inr (put_before k key known avoid new among there)
key_of_frame avoid false entries known key k new among there = inl there

-- the plainest properties are at keys of the frame
row_named : (k x : List ℕ) (o : Option Value) (rows : List (List ℕ × Value)) → has_name k (keys_of (row_before x o rows)) ≡ true → (same_name k x || has_name k (keys_of rows)) ≡ true
row_named k x None rows there = or_right (same_name k x) (has_name k (keys_of rows)) there
row_named k x (Some value) rows there = there

pub rows_named : (ks : Names) (os : List Options) (k : List ℕ) → has_name k (keys_of (plain_rows ks os)) ≡ true → has_name k ks ≡ true
rows_named [] os k there = absurd (true≢false (sym there))
rows_named (x ∷ xs) [] k there = absurd (true≢false (sym there))
rows_named (x ∷ xs) (o ∷ os) k there =
    ⊎_elim (λ here. or_left (same_name k x) (has_name k xs) here) (λ later. or_right (same_name k x) (has_name k xs) (rows_named xs os k later))
    (or_cases (same_name k x) (has_name k (keys_of (plain_rows xs os))) (row_named k x (plainest o) (plain_rows xs os) there))

-- ---- of shapes

-- a key of a shape or of one of others that is met
met_named : (others : List Shape) (labels : Names) (k : List ℕ) → names_met_key others labels k ≡ true → names_key others k ≡ true
met_named [] labels k there = there
met_named (o ∷ os) labels k there =
    ⊎_elim (λ here. or_left (has_name k (keys_of o.keys)) (names_key os k) (and_parts _ _ here).1)
    (λ later. or_right (has_name k (keys_of o.keys)) (names_key os k) (met_named os labels k later))
    (or_cases (names_if_met labels k o) (names_met_key os labels k) there)

pub named_or_met : (shape : Shape) (others : List Shape) (labels : Names) (k : List ℕ) → (has_name k (keys_of shape.keys) || names_met_key others labels k) ≡ true →
    (names_key (shape ∷ []) k || names_key others k) ≡ true
named_or_met shape others labels k there =
    ⊎_elim (λ own. or_left (names_key (shape ∷ []) k) (names_key others k) (or_left (has_name k (keys_of shape.keys)) false own))
    (λ met. or_right (names_key (shape ∷ []) k) (names_key others k) (met_named others labels k met))
    (or_cases (has_name k (keys_of shape.keys)) (names_met_key others labels k) there)

-- the plainest pair of a frame of a shape, by where the known keys are from
pub strange_part : (avoid : Names) (shape : Shape) (own others : List Shape) (keys : Names) (label key : List ℕ) (found : List Options) → has_name label avoid ≡ false →
    has_name key avoid ≡ false → ((l : List ℕ) → has_name l shape.labels ≡ true → names_label own l ≡ true) → ((k : List ℕ) → has_name k (keys_of shape.keys) ≡ true → names_key own k ≡ true) →
    ((k : List ℕ) → has_name k keys ≡ true → (names_key own k || names_key others k) ≡ true) → (p : NodeRow) → p.labels ≡ frame_labels shape.more_labels shape.labels label →
    p.props ≡ plain_rows (frame_keys shape.more_keys shape.keys keys key) found → IsStrangeBut avoid own others p
strange_part avoid shape own others keys label key found label_new key_new own_labels own_keys known p labels_are rows = record {
  labels = λ l there among.
      own_labels l (label_of_frame avoid shape.more_labels shape.labels label l label_new among (sym (ap (has_name l) labels_are) ∙ there));
  keys = λ k there among.
      ⊎_elim (λ is_own. or_left (names_key own k) (names_key others k) (own_keys k is_own)) (known k)
      (key_of_frame avoid shape.more_keys shape.keys keys key k key_new among
      (rows_named (frame_keys shape.more_keys shape.keys keys key) found k (sym (ap (λ props. has_name k (keys_of props)) rows) ∙ there)));
}

pub strange_pair : (avoid : Names) (shape : Shape) (others : List Shape) (keys : Names) (label key : List ℕ) (found : List Options) → has_name label avoid ≡ false →
    has_name key avoid ≡ false → ((k : List ℕ) → has_name k keys ≡ true → (names_key (shape ∷ []) k || names_key others k) ≡ true) →
    (p : NodeRow) → p.labels ≡ frame_labels shape.more_labels shape.labels label → p.props ≡ plain_rows (frame_keys shape.more_keys shape.keys keys key) found →
    IsStrangeBut avoid (shape ∷ []) others p
strange_pair avoid shape others keys label key found label_new key_new known p labels_are rows =
    strange_part avoid shape (shape ∷ []) others keys label key found label_new key_new (λ l there. or_left (has_name l shape.labels) false there)
    (λ k there. or_left (has_name k (keys_of shape.keys)) false there) known p labels_are rows

-- ---- among more shapes

pub strange_among : (avoid : Names) (few own others : List Shape) (p : NodeRow) → ((l : List ℕ) → names_label few l ≡ true → names_label own l ≡ true) →
    ((k : List ℕ) → names_key few k ≡ true → names_key own k ≡ true) → IsStrangeBut avoid few others p → IsStrangeBut avoid own others p
strange_among avoid few own others p labels keys h = record {
  labels = λ l there among. labels l (h.labels l there among);
  keys = λ k there among.
      ⊎_elim (λ is_own. or_left (names_key own k) (names_key others k) (keys k is_own)) (λ other. or_right (names_key own k) (names_key others k) other)
      (or_cases (names_key few k) (names_key others k) (h.keys k there among));
}

pub one_label : (shapes : List Shape) (i : ℕ) (shape : Shape) → i < length shapes → shape ≡ get_or shapes i shape → (l : List ℕ) → names_label (shape ∷ []) l ≡ true → names_label shapes l ≡ true
one_label shapes i shape lt is l there =
    list_any_at (λ (s : Shape). has_name l s.labels) shapes i shape lt (ap (λ (s : Shape). has_name l s.labels) (sym is) ∙ sym (or-false (has_name l shape.labels)) ∙ there)

pub one_key : (shapes : List Shape) (i : ℕ) (shape : Shape) → i < length shapes → shape ≡ get_or shapes i shape → (k : List ℕ) → names_key (shape ∷ []) k ≡ true → names_key shapes k ≡ true
one_key shapes i shape lt is k there =
    list_any_at (λ (s : Shape). has_name k (keys_of s.keys)) shapes i shape lt (ap (λ (s : Shape). has_name k (keys_of s.keys)) (sym is) ∙ sym (or-false (has_name k (keys_of shape.keys))) ∙ there)

-- ---- triples of shapes

-- what one of the shapes of triples does, one of the three of some triple does
any_in : (f : Shape → Bool) (triples : List ShapeTriple) → list_any f (shapes_in triples) ≡ list_any (λ (t : ShapeTriple). f t.source || (f t.middle || f t.target)) triples
any_in f [] = refl
any_in f (t ∷ ts) = ap (λ b. f t.source || (f t.middle || (f t.target || b))) (any_in f ts) ∙ or_three (f t.source) (f t.middle) (f t.target) _
  where
    or_three : (a b c d : Bool) → (a || (b || (c || d))) ≡ ((a || (b || c)) || d)
    or_three true b c d = refl
    or_three false true c d = refl
    or_three false false c d = refl

pub one_of_triples : (f : Shape → Bool) (triples : List ShapeTriple) (i : ℕ) (shapes : ShapeTriple) → i < length triples → shapes ≡ get_or triples i shapes →
    list_any f (shapes_in (shapes ∷ [])) ≡ true → list_any f (shapes_in triples) ≡ true
one_of_triples f triples i shapes lt is there =
    let one = λ (t : ShapeTriple). f t.source || (f t.middle || f t.target) in
    any_in f triples ∙ list_any_at one triples i shapes lt (ap one (sym is) ∙ sym (or-false (one shapes)) ∙ sym (any_in f (shapes ∷ [])) ∙ there)

-- a key of a triple of shapes or of one of others that is met
three_named : (triple : ShapeTriple) (k : List ℕ) → names_key (shapes_in (triple ∷ [])) k ≡ three_name triple k
three_named triple k = any_in (λ (s : Shape). has_name k (keys_of s.keys)) (triple ∷ []) ∙ or-false (three_name triple k)

met_three_named : (others : List ShapeTriple) (labels : LabelsOfThree) (k : List ℕ) → three_name_met_key others labels k ≡ true → names_key (shapes_in others) k ≡ true
met_three_named others labels k there = any_in (λ (s : Shape). has_name k (keys_of s.keys)) others ∙ by others there
  where
    by : (ts : List ShapeTriple) → three_name_met_key ts labels k ≡ true → list_any (λ (t : ShapeTriple). three_name t k) ts ≡ true
    by [] is = is
    by (t ∷ ts) is =
        ⊎_elim (λ here. or_left (three_name t k) (list_any (λ (s : ShapeTriple). three_name s k) ts) (and_parts _ _ here).1)
        (λ later. or_right (three_name t k) (list_any (λ (s : ShapeTriple). three_name s k) ts) (by ts later))
        (or_cases (three_name_if_met labels k t) (three_name_met_key ts labels k) is)

pub three_named_or_met : (triple : ShapeTriple) (others : List ShapeTriple) (labels : LabelsOfThree) (k : List ℕ) → (three_name triple k || three_name_met_key others labels k) ≡ true →
    (names_key (shapes_in (triple ∷ [])) k || names_key (shapes_in others) k) ≡ true
three_named_or_met triple others labels k there =
    ⊎_elim (λ own. or_left (names_key (shapes_in (triple ∷ [])) k) (names_key (shapes_in others) k) (three_named triple k ∙ own))
    (λ met. or_right (names_key (shapes_in (triple ∷ [])) k) (names_key (shapes_in others) k) (met_three_named others labels k met))
    (or_cases (three_name triple k) (three_name_met_key others labels k) there)

-- ---- the labels of shapes, as they are gathered

labels_join : (xs ys : List Shape) → labels_in (xs ++ ys) ≡ labels_in xs ++ labels_in ys
labels_join [] ys = refl
labels_join (x ∷ xs) ys = ap (λ ls. x.labels ++ ls) (labels_join xs ys) ∙ sym (append_assoc x.labels (labels_in xs) (labels_in ys))

triples_join : (xs ys : List ShapeTriple) → labels_in_triples (xs ++ ys) ≡ labels_in_triples xs ++ labels_in_triples ys
triples_join [] ys = refl
triples_join (x ∷ xs) ys =
    let own = x.source.labels ++ (x.middle.labels ++ x.target.labels) in
    ap (λ ls. own ++ ls) (triples_join xs ys) ∙ sym (append_assoc own (labels_in_triples xs) (labels_in_triples ys))

pub labels_more : (shapes : List Shape) (i : ℕ) (shape : Shape) (start all new : Names) → i < length shapes → shape ≡ get_or shapes i shape → new ≡ all ++ shape.labels →
    all ≡ start ++ labels_in (take i shapes) → new ≡ start ++ labels_in (take (i + 1) shapes)
labels_more shapes i shape start all new lt is pushed before =
    pushed ∙ ap (λ ls. ls ++ shape.labels) before ∙ append_assoc start (labels_in (take i shapes)) shape.labels
    ∙ ap (λ ls. start ++ (labels_in (take i shapes) ++ ls)) (sym (append-nil shape.labels))
    ∙ ap (λ ls. start ++ ls) (sym (labels_join (take i shapes) (shape ∷ [])))
    ∙ ap (λ (ss : List Shape). start ++ labels_in ss) (sym (take_more shapes i shape lt ∙ ap (λ (s : Shape). take i shapes ++ s ∷ []) (sym is)))

pub labels_of_triples_more : (triples : List ShapeTriple) (i : ℕ) (triple : ShapeTriple) (start all new : Names) → i < length triples → triple ≡ get_or triples i triple →
    new ≡ all ++ (triple.source.labels ++ (triple.middle.labels ++ triple.target.labels)) → all ≡ start ++ labels_in_triples (take i triples) →
    new ≡ start ++ labels_in_triples (take (i + 1) triples)
labels_of_triples_more triples i triple start all new lt is pushed before =
    let own = triple.source.labels ++ (triple.middle.labels ++ triple.target.labels) in
    pushed ∙ ap (λ ls. ls ++ own) before ∙ append_assoc start (labels_in_triples (take i triples)) own
    ∙ ap (λ ls. start ++ (labels_in_triples (take i triples) ++ ls)) (sym (append-nil own))
    ∙ ap (λ ls. start ++ ls) (sym (triples_join (take i triples) (triple ∷ [])))
    ∙ ap (λ (ts : List ShapeTriple). start ++ labels_in_triples ts) (sym (take_more triples i triple lt ∙ ap (λ (t : ShapeTriple). take i triples ++ t ∷ []) (sym is)))

-- a name that isn't among all labels is none of some of them
neither : (n : List ℕ) (xs ys : Names) → has_name n (xs ++ ys) ≡ false → (has_name n xs ≡ false) × (has_name n ys ≡ false)
neither n xs ys h = by (has_name n xs) (has_name n ys) (sym (list_any-append (same_name n) xs ys) ∙ h)
  where
    by : (a b : Bool) → (a || b) ≡ false → (a ≡ false) × (b ≡ false)
    by true b is = absurd (true≢false is)
    by false b is = (refl, is)

shapes_lack : (n : List ℕ) (shapes : List Shape) → has_name n (labels_in shapes) ≡ false → list_all (lacks_label n) shapes ≡ true
shapes_lack n [] h = refl
shapes_lack n (s ∷ ss) h = let parts = neither n s.labels (labels_in ss) h in and_from _ _ (ap not parts.0) (shapes_lack n ss parts.1)

triples_lack : (n : List ℕ) (triples : List ShapeTriple) → has_name n (labels_in_triples triples) ≡ false → list_all (lacks_label_three n) triples ≡ true
triples_lack n [] h = refl
triples_lack n (t ∷ ts) h =
    let parts = neither n (t.source.labels ++ (t.middle.labels ++ t.target.labels)) (labels_in_triples ts) h in
    let first = neither n t.source.labels (t.middle.labels ++ t.target.labels) parts.0 in
    let later = neither n t.middle.labels t.target.labels first.1 in
    and_from (lacks_label_three n t) (list_all (lacks_label_three n) ts)
    (and_from (lacks_label n t.source && lacks_label n t.middle) (lacks_label n t.target)
    (and_from (lacks_label n t.source) (lacks_label n t.middle) (ap not first.0) (ap not later.0)) (ap not later.1))
    (triples_lack n ts parts.1)

pub all_lack : (n : List ℕ) (shapes : List Shape) (triples : List ShapeTriple) (none few all : Names) → none ≡ [] → few ≡ none ++ labels_in shapes → all ≡ few ++ labels_in_triples triples →
    has_name n all ≡ false → (list_all (lacks_label n) shapes ≡ true) × (list_all (lacks_label_three n) triples ≡ true)
all_lack n shapes triples none few all is_none is_few is_all h =
    let parts = neither n few (labels_in_triples triples) (sym (ap (has_name n) is_all) ∙ h) in
    let own = neither n none (labels_in shapes) (sym (ap (has_name n) is_few) ∙ parts.0) in
    (shapes_lack n shapes own.1, triples_lack n triples parts.1)
