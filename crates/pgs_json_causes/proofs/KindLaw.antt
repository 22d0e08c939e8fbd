-- An object has a cause of a kind exactly where it is no operation of this kind.
use Rattle.std.proofs.Common.{◌≡◌, ℕ, Bool, true, false, not, ◌&&◌, ◌||◌, cond, List, [], ◌∷◌, map, Option, Some, None, is_some, option_map, option_and_then, refl, sym, ap, ◌∙◌}
use Rattle.std.specs.Prelude.{codes, bytes_eq}
use Rattle.std.specs.List.{find, list_any, list_all}
use Rattle.std.specs.Option.{option_or}
use Rattle.std.proofs.lemmas.Bool.{true≢false}
use Rattle.std.proofs.lemmas.Slice.Eq.{bytes_eq-Decides}
use Rattle.serde_json.specs.Data.{Data, object, Members}
use Rattle.serde_json.specs.Find.{get_member}
use Rattle.pgs_json.specs.declared.kind.Kind.{Kind}
use Rattle.pgs_json.specs.declared.kind.Kind.TheVariants.{AddNode, AddEdge, RemoveNode, DetachNode, RemoveEdge, SetNode, UnsetNode, LabelNode, UnlabelNode, SetEdge, UnsetEdge, LabelEdge, UnlabelEdge}
use Rattle.pgs_json.specs.Form.{names_in, are_among, first_of, form_or_empty, id_of, name_of, value_of, labels_of, props_of, add_node, add_edge, with_id, with_name, with_value}
use Rattle.pgs_json.specs.Kinds.{kind_named, op_as}
use Rattle.pgs_json_causes.specs.declared.member_form.MemberForm.{MemberForm}
use Rattle.pgs_json_causes.specs.declared.member_form.MemberForm.TheVariants as forms
use Rattle.pgs_json_causes.specs.declared.member_test.MemberTest.{MemberTest}
use Rattle.pgs_json_causes.specs.declared.member_test.MemberTest.TheVariants as tests
use Rattle.pgs_json_causes.specs.MemberForms.{is_optional, kind_word, members_of_kind}
use Rattle.pgs_json_causes.specs.Cause.{cause_by, cause_in, cause_in_all, all_tests, tells_other, is_none_of, lacking, both_text, no_member_text, lacks_text, kind_cause}
use Rattle.pgs_json_causes.proofs.Somes.{or_false, or_true, or_sides, not_and, some_or, some_map, some_bind, some_bind_last, some_find, find_more}
use Rattle.pgs_json_causes.proofs.MemberLaw.{meets, is_told, member_law}

abbrev Row : Type 0
Row = List ℕ × MemberForm

-- ---- the members of a kind

-- whether a member that may be there is of its form, or may be left out
abbrev fits_at : MemberForm → Option Data → Bool
fits_at form None = is_optional form
fits_at form (Some d) = meets form d

abbrev fits : List Row → Members → Bool
fits [] ms = true
fits (row ∷ rows) ms = fits_at row.1 (get_member row.0 ms) && fits rows ms

-- whether a test finds a cause in a member that may be there
abbrev hits : MemberTest → Row → Option Data → Bool
hits test row o = is_some (option_and_then (cause_by test row.0 row.1) o)

abbrev hits_any : Row → Option Data → Bool
hits_any row o = hits tests.Ids row o || (hits tests.Texts row o || (hits tests.Names row o || (hits tests.Parts row o || (hits tests.Values row o || false))))

hits_law : (row : Row) (o : Option Data) → (not (is_optional row.1 || is_some o) || hits_any row o) ≡ not (fits_at row.1 o)
hits_law row None = or_false _ ∙ ap not (or_false (is_optional row.1))
hits_law row (Some d) = ap (λ b. not b || hits_any row (Some d)) (or_true (is_optional row.1)) ∙ member_law row.0 row.1 d

-- whether a test finds a cause in members
abbrev finds : List Row → Members → Bool
finds rows ms =
    is_some (cause_in tests.Ids rows ms) || (is_some (cause_in tests.Texts rows ms) || (is_some (cause_in tests.Names rows ms)
    || (is_some (cause_in tests.Parts rows ms) || (is_some (cause_in tests.Values rows ms) || false))))

finds_in : (rows : List Row) (ms : Members) → is_some (cause_in_all all_tests rows ms) ≡ finds rows ms
finds_in rows ms =
    some_or (cause_in tests.Ids rows ms) _
    ∙ ap (λ b. is_some (cause_in tests.Ids rows ms) || b) (some_or (cause_in tests.Texts rows ms) _
    ∙ ap (λ b. is_some (cause_in tests.Texts rows ms) || b) (some_or (cause_in tests.Names rows ms) _
    ∙ ap (λ b. is_some (cause_in tests.Names rows ms) || b) (some_or (cause_in tests.Parts rows ms) _
    ∙ ap (λ b. is_some (cause_in tests.Parts rows ms) || b) (some_or (cause_in tests.Values rows ms) None))))

-- five tests of a member and of the others
five_sides : (a b c d e : Bool) (v w x y z : Bool)
    → ((a || v) || ((b || w) || ((c || x) || ((d || y) || ((e || z) || false))))) ≡ ((a || (b || (c || (d || (e || false))))) || (v || (w || (x || (y || (z || false))))))
five_sides a b c d e v w x y z =
    ap (λ t. (a || v) || ((b || w) || ((c || x) || ((d || y) || t)))) (or_false (e || z) ∙ ap (λ s. e || s) (sym (or_false z)) ∙ ap (λ s. s || (z || false)) (sym (or_false e)))
    ∙ ap (λ t. (a || v) || ((b || w) || ((c || x) || t))) (or_sides d y (e || false) (z || false))
    ∙ ap (λ t. (a || v) || ((b || w) || t)) (or_sides c x (d || (e || false)) (y || (z || false)))
    ∙ ap (λ t. (a || v) || t) (or_sides b w (c || (d || (e || false))) (x || (y || (z || false))))
    ∙ or_sides a v (b || (c || (d || (e || false)))) (w || (x || (y || (z || false))))

five_same : {a b c d e v w x y z : Bool} → a ≡ v → b ≡ w → c ≡ x → d ≡ y → e ≡ z → (a || (b || (c || (d || (e || false))))) ≡ (v || (w || (x || (y || (z || false)))))
five_same h i j k l = cc

hit : (test : MemberTest) (row : Row) (rows : List Row) (ms : Members)
    → is_some (cause_in test (row ∷ rows) ms) ≡ (hits test row (get_member row.0 ms) || is_some (cause_in test rows ms))
hit test row rows ms = some_or _ (cause_in test rows ms)

finds_more : (row : Row) (rows : List Row) (ms : Members) → finds (row ∷ rows) ms ≡ (hits_any row (get_member row.0 ms) || finds rows ms)
finds_more row rows ms =
    five_same (hit tests.Ids row rows ms) (hit tests.Texts row rows ms) (hit tests.Names row rows ms) (hit tests.Parts row rows ms) (hit tests.Values row rows ms)
    ∙ five_sides
    (hits tests.Ids row (get_member row.0 ms)) (hits tests.Texts row (get_member row.0 ms)) (hits tests.Names row (get_member row.0 ms))
    (hits tests.Parts row (get_member row.0 ms)) (hits tests.Values row (get_member row.0 ms))
    (is_some (cause_in tests.Ids rows ms)) (is_some (cause_in tests.Texts rows ms)) (is_some (cause_in tests.Names rows ms))
    (is_some (cause_in tests.Parts rows ms)) (is_some (cause_in tests.Values rows ms))

lacking_more : (present : Bool) (name : List ℕ) (rest : Option (List ℕ)) → is_some (cond present rest (Some name)) ≡ (not present || is_some rest)
lacking_more true name rest = refl
lacking_more false name rest = refl

-- members lack one or have a cause exactly where they don't fit
rows_law : (rows : List Row) (ms : Members) → (is_some (lacking rows ms) || finds rows ms) ≡ not (fits rows ms)
rows_law [] ms = refl
rows_law (row ∷ rows) ms =
    ap (λ b. b || finds (row ∷ rows) ms) (lacking_more (is_optional row.1 || is_some (get_member row.0 ms)) row.0 (lacking rows ms))
    ∙ ap (λ b. (not (is_optional row.1 || is_some (get_member row.0 ms)) || is_some (lacking rows ms)) || b) (finds_more row rows ms)
    ∙ or_sides (not (is_optional row.1 || is_some (get_member row.0 ms))) (is_some (lacking rows ms)) (hits_any row (get_member row.0 ms)) (finds rows ms)
    ∙ ap (λ b. b || (is_some (lacking rows ms) || finds rows ms)) (hits_law row (get_member row.0 ms))
    ∙ ap (λ b. not (fits_at row.1 (get_member row.0 ms)) || b) (rows_law rows ms)
    ∙ sym (not_and (fits_at row.1 (get_member row.0 ms)) (fits rows ms))

-- ---- other names

abbrev names_of : List Row → List (List ℕ)
names_of rows = map (λ row. row.0) rows

not_same : (k : Kind) (n t : List ℕ) (ts : List (List ℕ)) (same rest : Bool) → bytes_eq n t ≡ same → tells_other k t ≡ false
    → (list_any (bytes_eq n) ts ≡ true → tells_other k n ≡ false) → (same || list_any (bytes_eq n) ts) ≡ true → tells_other k n ≡ false
not_same k n t ts true rest e h later among = ap (tells_other k) ((bytes_eq-Decides n t).0 e) ∙ h
not_same k n t ts false rest e h later among = later among

-- no name of these tells another kind
abbrev AllOwn : Kind → List (List ℕ) → Type 0
AllOwn k [] = Unit {0}
AllOwn k (t ∷ ts) = (tells_other k t ≡ false) × AllOwn k ts

own_name : (k : Kind) (n : List ℕ) (ts : List (List ℕ)) → AllOwn k ts → list_any (bytes_eq n) ts ≡ true → tells_other k n ≡ false
own_name k n [] all among = absurd (true≢false (sym among))
own_name k n (t ∷ ts) all among = not_same k n t ts (bytes_eq n t) true refl all.0 (own_name k n ts all.1) among

all_own : (k : Kind) → AllOwn k (names_of (members_of_kind k))
unfolding kind_named
all_own AddNode = (refl, (refl, (refl, tt)))
all_own AddEdge = (refl, (refl, (refl, (refl, (refl, tt)))))
all_own RemoveNode = (refl, tt)
all_own DetachNode = (refl, tt)
all_own RemoveEdge = (refl, tt)
all_own SetNode = (refl, (refl, (refl, tt)))
all_own UnsetNode = (refl, (refl, tt))
all_own LabelNode = (refl, (refl, tt))
all_own UnlabelNode = (refl, (refl, tt))
all_own SetEdge = (refl, (refl, (refl, tt)))
all_own UnsetEdge = (refl, (refl, tt))
all_own LabelEdge = (refl, (refl, tt))
all_own UnlabelEdge = (refl, (refl, tt))

other_at : (b t : Bool) → (b ≡ true → t ≡ false) → t ≡ true → not b ≡ true
other_at true true h e = absurd (true≢false (h refl))
other_at true false h e = absurd (true≢false (sym e))
other_at false t h e = refl

-- a name that tells another kind is none of the kind's members
other_is_none : (k : Kind) (n : List ℕ) → tells_other k n ≡ true → is_none_of (members_of_kind k) n ≡ true
other_is_none k n = other_at (list_any (bytes_eq n) (names_of (members_of_kind k))) (tells_other k n) (own_name k n _ (all_own k))

or_implied : (a b : Bool) → (a ≡ true → b ≡ true) → (a || b) ≡ b
or_implied true b h = sym (h refl)
or_implied false b h = refl

-- ---- the operation of a kind

abbrev pub is_op : Kind → Members → Bool
is_op k ms = is_some (op_as k (object ms))

pub gate_joined : (b : Bool) {A : Type 0} (o : Option A) → is_some (cond b o None) ≡ (b && is_some o)
gate_joined true o = refl
gate_joined false o = refl

needed : {A : Type 0} (f : Data → Option A) (form : MemberForm) (o : Option Data) → is_optional form ≡ false → ((d : Data) → is_some (f d) ≡ meets form d) → is_some (option_and_then f o) ≡ fits_at form o
needed f form None h same = sym h
needed f form (Some d) h same = same d

optional : {A : Type 0} (f : Data → Option (List A)) (form : MemberForm) (o : Option Data) → is_optional form ≡ true → ((d : Data) → is_some (f d) ≡ meets form d) → is_some (form_or_empty f o) ≡ fits_at form o
optional f form None h same = sym h
optional f form (Some d) h same = same d

-- ids and names, in the order of the members' names
one_part : {A : Type 0} (i : Option A) → is_some i ≡ (is_some i && true)
one_part None = refl
one_part (Some x) = refl

two_parts : {A B C : Type 0} (i : Option A) (n : Option B) (f : A → B → C) → is_some (option_and_then (λ x. option_and_then (λ y. Some (f x y)) n) i) ≡ (is_some n && (is_some i && true))
two_parts None None f = refl
two_parts None (Some y) f = refl
two_parts (Some x) None f = refl
two_parts (Some x) (Some y) f = refl

three_parts : {A B C D : Type 0} (i : Option A) (k : Option B) (v : Option C) (f : A → B → C → D)
    → is_some (option_and_then (λ x. option_and_then (λ y. option_and_then (λ z. Some (f x y z)) v) k) i) ≡ (is_some k && (is_some i && (is_some v && true)))
three_parts None None v f = refl
three_parts None (Some y) v f = refl
three_parts (Some x) None v f = refl
three_parts (Some x) (Some y) None f = refl
three_parts (Some x) (Some y) (Some z) f = refl

node_parts : {A B C D : Type 0} (i : Option A) (l : Option B) (p : Option C) (f : A → B → C → D)
    → is_some (option_and_then (λ x. option_and_then (λ y. option_and_then (λ z. Some (f x y z)) p) l) i) ≡ (is_some i && (is_some l && (is_some p && true)))
node_parts None l p f = refl
node_parts (Some x) None p f = refl
node_parts (Some x) (Some y) None f = refl
node_parts (Some x) (Some y) (Some z) f = refl

edge_parts : {A B C D E F : Type 0} (i : Option A) (s : Option B) (t : Option C) (l : Option D) (p : Option E) (f : A → B → C → D → E → F)
    → is_some (option_and_then (λ v. option_and_then (λ w. option_and_then (λ x. option_and_then (λ y. option_and_then (λ z. Some (f v w x y z)) p) l) t) s) i)
    ≡ (is_some i && (is_some s && (is_some l && (is_some p && (is_some t && true)))))
edge_parts None s t l p f = refl
edge_parts (Some v) None t l p f = refl
edge_parts (Some v) (Some w) None None p f = refl
edge_parts (Some v) (Some w) None (Some y) None f = refl
edge_parts (Some v) (Some w) None (Some y) (Some z) f = refl
edge_parts (Some v) (Some w) (Some x) None p f = refl
edge_parts (Some v) (Some w) (Some x) (Some y) None f = refl
edge_parts (Some v) (Some w) (Some x) (Some y) (Some z) f = refl

one_same : {a x : Bool} → a ≡ x → (a && true) ≡ (x && true)
one_same h = cc

two_same : {a b x y : Bool} → a ≡ x → b ≡ y → (a && (b && true)) ≡ (x && (y && true))
two_same h i = cc

three_same : {a b c x y z : Bool} → a ≡ x → b ≡ y → c ≡ z → (a && (b && (c && true))) ≡ (x && (y && (z && true)))
three_same h i j = cc

five_parts_same : {a b c d e v w x y z : Bool} → a ≡ v → b ≡ w → c ≡ x → d ≡ y → e ≡ z → (a && (b && (c && (d && (e && true))))) ≡ (v && (w && (x && (y && (z && true)))))
five_parts_same h i j k l = cc

module _ (ms : Members) where
  id_part : (name : List ℕ) → is_some (option_and_then id_of (get_member name ms)) ≡ fits_at forms.Id (get_member name ms)
  id_part name = needed id_of forms.Id (get_member name ms) refl (λ d. refl)

  name_part : (name : List ℕ) → is_some (option_and_then name_of (get_member name ms)) ≡ fits_at forms.Name (get_member name ms)
  name_part name = needed name_of forms.Name (get_member name ms) refl (λ d. refl)

  value_part : (name : List ℕ) → is_some (option_and_then value_of (get_member name ms)) ≡ fits_at forms.Value (get_member name ms)
  value_part name = needed value_of forms.Value (get_member name ms) refl (λ d. refl)

  labels_part : (name : List ℕ) → is_some (form_or_empty labels_of (get_member name ms)) ≡ fits_at forms.Labels (get_member name ms)
  labels_part name = optional labels_of forms.Labels (get_member name ms) refl (λ d. refl)

  props_part : (name : List ℕ) → is_some (form_or_empty props_of (get_member name ms)) ≡ fits_at forms.Props (get_member name ms)
  props_part name = optional props_of forms.Props (get_member name ms) refl (λ d. refl)

  among : List (List ℕ) → Bool
  among these = are_among these (names_in ms)

abbrev shape : Kind → Members → Bool
shape k ms = are_among (names_of (members_of_kind k)) (names_in ms) && fits (members_of_kind k) ms

module _ (ms : Members) (kind : List ℕ) where
  id_shape : is_some (with_id kind (object ms)) ≡ (are_among (kind ∷ []) (names_in ms) && (fits_at forms.Id (get_member kind ms) && true))
  unfolding with_id
  id_shape = gate_joined _ _ ∙ ap (λ b. are_among (kind ∷ []) (names_in ms) && b) (one_part _ ∙ one_same (id_part ms kind))

  name_shape : (second : List ℕ) → is_some (with_name kind second (object ms))
      ≡ (are_among (second ∷ kind ∷ []) (names_in ms) && (fits_at forms.Name (get_member second ms) && (fits_at forms.Id (get_member kind ms) && true)))
  unfolding with_name
  name_shape second =
      gate_joined _ _ ∙ ap (λ b. are_among (second ∷ kind ∷ []) (names_in ms) && b) (two_parts (option_and_then id_of (get_member kind ms)) (option_and_then name_of (get_member second ms)) (λ id name. (id, name)) ∙ two_same (name_part ms second) (id_part ms kind))

  value_shape : is_some (with_value kind (object ms))
      ≡ (are_among (codes "key" ∷ kind ∷ codes "value" ∷ []) (names_in ms)
      && (fits_at forms.Name (get_member (codes "key") ms) && (fits_at forms.Id (get_member kind ms) && (fits_at forms.Value (get_member (codes "value") ms) && true))))
  unfolding with_value
  value_shape =
      gate_joined _ _ ∙ ap (λ b. are_among (codes "key" ∷ kind ∷ codes "value" ∷ []) (names_in ms) && b)
      (three_parts (option_and_then id_of (get_member kind ms)) (option_and_then name_of (get_member (codes "key") ms)) (option_and_then value_of (get_member (codes "value") ms)) (λ id key value. (id, key, value))
      ∙ three_same (name_part ms (codes "key")) (id_part ms kind) (value_part ms (codes "value")))

op_shape : (k : Kind) (ms : Members) → is_op k ms ≡ shape k ms
unfolding add_node add_edge
op_shape AddNode ms =
    gate_joined _ _ ∙ ap (λ b. are_among (names_of (members_of_kind AddNode)) (names_in ms) && b)
    (node_parts (option_and_then id_of (get_member (codes "add_node") ms)) (form_or_empty labels_of (get_member (codes "labels") ms)) (form_or_empty props_of (get_member (codes "props") ms)) _
    ∙ three_same (id_part ms (codes "add_node")) (labels_part ms (codes "labels")) (props_part ms (codes "props")))
op_shape AddEdge ms =
    gate_joined _ _ ∙ ap (λ b. are_among (names_of (members_of_kind AddEdge)) (names_in ms) && b)
    (edge_parts (option_and_then id_of (get_member (codes "add_edge") ms)) (option_and_then id_of (get_member (codes "from") ms)) (option_and_then id_of (get_member (codes "to") ms)) (form_or_empty labels_of (get_member (codes "labels") ms)) (form_or_empty props_of (get_member (codes "props") ms)) _
    ∙ five_parts_same (id_part ms (codes "add_edge")) (id_part ms (codes "from")) (labels_part ms (codes "labels")) (props_part ms (codes "props")) (id_part ms (codes "to")))
op_shape RemoveNode ms = some_map _ _ ∙ id_shape ms (codes "remove_node")
op_shape DetachNode ms = some_map _ _ ∙ id_shape ms (codes "detach_node")
op_shape RemoveEdge ms = some_map _ _ ∙ id_shape ms (codes "remove_edge")
op_shape SetNode ms = some_map _ _ ∙ value_shape ms (codes "set_node")
op_shape UnsetNode ms = some_map _ _ ∙ name_shape ms (codes "unset_node") (codes "key")
op_shape LabelNode ms = some_map _ _ ∙ name_shape ms (codes "label_node") (codes "label")
op_shape UnlabelNode ms = some_map _ _ ∙ name_shape ms (codes "unlabel_node") (codes "label")
op_shape SetEdge ms = some_map _ _ ∙ value_shape ms (codes "set_edge")
op_shape UnsetEdge ms = some_map _ _ ∙ name_shape ms (codes "unset_edge") (codes "key")
op_shape LabelEdge ms = some_map _ _ ∙ name_shape ms (codes "label_edge") (codes "label")
op_shape UnlabelEdge ms = some_map _ _ ∙ name_shape ms (codes "unlabel_edge") (codes "label")

-- ---- the cause of a kind

first_of_four : {A : Type 0} (o p q r : Option A) → is_some (first_of (o ∷ p ∷ q ∷ r ∷ [])) ≡ (is_some o || (is_some p || (is_some q || is_some r)))
first_of_four (Some x) p q r = refl
first_of_four None (Some x) q r = refl
first_of_four None None (Some x) r = refl
first_of_four None None None None = refl
first_of_four None None None (Some x) = refl

four_same : {a b c d w x y z : Bool} → a ≡ w → b ≡ x → c ≡ y → d ≡ z → (a || (b || (c || d))) ≡ (w || (x || (y || z)))
four_same h i j k = cc

two_or_same : {a b x y : Bool} → a ≡ x → b ≡ y → (a || b) ≡ (x || y)
two_or_same h i = cc

or_first_two : (o p r : Bool) → (o ≡ true → p ≡ true) → (o || (p || r)) ≡ (p || r)
or_first_two true p r h = ap (λ b. b || r) (sym (h refl))
or_first_two false p r h = refl

pub kind_law : (k : Kind) (ms : Members) → is_some (kind_cause k ms) ≡ not (is_op k ms)
unfolding kind_cause
kind_law k ms =
    let rows = members_of_kind k in
    let names = names_in ms in
    first_of_four
    (option_map (both_text k) (find (tells_other k) names)) (option_map (no_member_text k) (find (is_none_of rows) names)) (option_map (lacks_text k) (lacking rows ms))
    (cause_in_all all_tests rows ms)
    ∙ four_same
    (some_map (both_text k) (find (tells_other k) names)) (some_map (no_member_text k) (find (is_none_of rows) names)) (some_map (lacks_text k) (lacking rows ms))
    (finds_in rows ms)
    ∙ or_first_two (is_some (find (tells_other k) names)) (is_some (find (is_none_of rows) names)) (is_some (lacking rows ms) || finds rows ms) (find_more (tells_other k) (is_none_of rows) (other_is_none k) names)
    ∙ two_or_same (some_find (is_none_of rows) (λ n. list_any (bytes_eq n) (names_of rows)) (λ n. refl) names) (rows_law rows ms)
    ∙ sym (not_and (are_among (names_of rows) names) (fits rows ms))
    ∙ ap not (sym (op_shape k ms))
