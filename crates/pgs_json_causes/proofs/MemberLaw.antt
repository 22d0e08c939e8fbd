-- A member has a cause exactly where it isn't of its form.
use Rattle.std.proofs.Common.{◌≡◌, ℕ, suc, Bool, true, false, not, ◌&&◌, ◌||◌, cond, List, [], ◌∷◌, Option, Some, None, is_some, option_map, option_and_then, refl, sym, ap, ◌∙◌}
use Rattle.std.specs.List.{find}
use Rattle.std.specs.Option.{option_or}
use Rattle.pgs_base.specs.Name.{is_name}
use Rattle.pgs_base.specs.Options.{◌>>=◌}
use Rattle.serde_json.specs.Data.{Data, null, boolean, number, string, array, object, Items, no_items, item, Members, no_members, member}
use Rattle.serde_json.specs.Find.{as_i64, as_str, as_array, as_object, get_member}
use Rattle.pgs_json.specs.Form.{names_in, each_item, each_member, id_of, name_of, name_in, value_of, text_in, date_of, labels_of, props_of, pair_of}
use Rattle.pgs_json_causes.specs.declared.member_form.MemberForm.{MemberForm}
use Rattle.pgs_json_causes.specs.declared.member_form.MemberForm.TheVariants.{Id, Name, Value, Labels, Props}
use Rattle.pgs_json_causes.specs.Cause.{where_none, value_fault, value_cause, first_value_cause, no_name, lesser, least_no_name, first_no_text, id_cause, text_cause, name_cause, parts_cause, values_cause}
use Rattle.pgs_json_causes.proofs.Somes.{or_false, or_true, or_sides, not_and, some_or, some_map, some_where_none, some_bind, some_bind_last, some_lesser, some_cond, some_cond_not, some_find}

-- whether a member is of its form
abbrev pub meets : MemberForm → Data → Bool
meets Id d = is_some (id_of d)
meets Name d = is_some (name_of d)
meets Value d = is_some (value_of d)
meets Labels d = is_some (labels_of d)
meets Props d = is_some (props_of d)

-- ---- values

pub value_law : (d : Data) → is_some (value_fault d) ≡ not (is_some (value_of d))
value_law null = refl
value_law (boolean b) = refl
value_law (number n) = some_where_none _ (as_i64 n) ∙ ap not (sym (some_map _ (as_i64 n)))
value_law (string s) = some_where_none _ (text_in s) ∙ ap not (sym (some_map _ (text_in s)))
value_law (array ds) = refl
value_law (object ms) = some_where_none _ (date_of (object ms)) ∙ ap not (sym (some_map _ (date_of (object ms))))

some_value : (name : List ℕ) (d : Data) → is_some (value_cause name d) ≡ not (is_some (value_of d))
some_value name d = some_map _ (value_fault d) ∙ value_law d

-- ---- names

some_no_name : (t : List ℕ) → is_some (no_name t) ≡ not (is_name t)
some_no_name t = some_cond_not (is_name t) t

some_name : (t : List ℕ) → is_some (name_in t) ≡ is_name t
some_name t = some_cond (is_name t) t

-- a text that has to be a name
name_at : (o : Option (List ℕ)) → (not (is_some o) || is_some (option_and_then no_name o)) ≡ not (is_some (option_and_then name_in o))
name_at None = refl
name_at (Some t) = some_no_name t ∙ ap not (sym (some_name t))

-- ---- labels

label_joined : (a b c : Bool) → ((a || not b) || not c) ≡ (a || not (b && c))
label_joined true b c = refl
label_joined false true c = refl
label_joined false false c = refl

-- the first text of the items, and those of the others
label_at : (o : Option (List ℕ)) (least : Option (List ℕ)) (first : Option ℕ) (rest : Option (List (List ℕ))) (n : ℕ) (others : Option (List ℕ) → Option (List ℕ))
    → ((l : Option (List ℕ)) → (is_some first || is_some (others l)) ≡ (is_some l || not (is_some rest)))
    → (is_some (cond (is_some o) first (Some n)) || is_some (others (lesser least (option_and_then no_name o))))
    ≡ (is_some least || not (is_some (option_and_then (λ x. option_and_then (λ xs. Some (x ∷ xs)) rest) (option_and_then name_in o))))
label_at None least first rest n others h = sym (or_true (is_some least))
label_at (Some t) least first rest n others h =
    h (lesser least (no_name t))
    ∙ ap (λ b. b || not (is_some rest)) (some_lesser least (no_name t) ∙ ap (λ b. is_some least || b) (some_no_name t))
    ∙ label_joined (is_some least) (is_name t) (is_some rest)
    ∙ ap (λ b. is_some least || not b) (sym (some_bind (name_in t) _ (is_some rest) (λ x. some_bind_last rest _) ∙ ap (λ b. b && is_some rest) (some_name t)))

labels_at : (ds : Items) (n : ℕ) (least : Option (List ℕ)) → (is_some (first_no_text n ds) || is_some (least_no_name least ds)) ≡ (is_some least || not (is_some (each_item name_of ds)))
labels_at no_items n least = sym (or_false (is_some least))
labels_at (item d ds) n least =
    label_at (as_str d) least (first_no_text (suc n) ds) (each_item name_of ds) n (λ l. least_no_name l ds) (λ l. labels_at ds (suc n) l)

-- ---- properties

some_pair : (name : List ℕ) (d : Data) → is_some (pair_of name d) ≡ (is_name name && is_some (value_of d))
some_pair name d =
    some_bind (name_in name) _ (is_some (value_of d)) (λ key. some_bind_last (value_of d) _) ∙ ap (λ b. b && is_some (value_of d)) (some_name name)

props_joined : (n v r : Bool) → ((not n || not v) || not r) ≡ not ((n && v) && r)
props_joined true v r = sym (not_and v r)
props_joined false v r = refl

first_name_at : (n : Bool) (name : List ℕ) (rest : Option (List ℕ)) → is_some (cond (not n) (Some name) rest) ≡ (not n || is_some rest)
first_name_at true name rest = refl
first_name_at false name rest = refl

-- the first property, and the others
prop_step : (n : Bool) (names value values : Option (List ℕ)) (name : List ℕ)
    → (is_some (cond (not n) (Some name) names) || is_some (option_or value values)) ≡ ((not n || is_some value) || (is_some names || is_some values))
prop_step n names value values name =
    ap (λ b. b || is_some (option_or value values)) (first_name_at n name names)
    ∙ ap (λ b. (not n || is_some names) || b) (some_or value values)
    ∙ or_sides (not n) (is_some names) (is_some value) (is_some values)

props_at : (ms : Members) → (is_some (find (λ key. not (is_name key)) (names_in ms)) || is_some (first_value_cause ms)) ≡ not (is_some (each_member pair_of ms))
props_at no_members = refl
props_at (member name d ms) =
    prop_step (is_name name) (find (λ key. not (is_name key)) (names_in ms)) (value_cause name d) (first_value_cause ms) name
    ∙ ap (λ b. (not (is_name name) || b) || (is_some (find (λ key. not (is_name key)) (names_in ms)) || is_some (first_value_cause ms))) (some_value name d)
    ∙ ap (λ b. (not (is_name name) || not (is_some (value_of d))) || b) (props_at ms)
    ∙ props_joined (is_name name) (is_some (value_of d)) (is_some (each_member pair_of ms))
    ∙ ap not (sym (some_bind (pair_of name d) _ (is_some (each_member pair_of ms)) (λ x. some_bind_last (each_member pair_of ms) _) ∙ ap (λ b. b && is_some (each_member pair_of ms)) (some_pair name d)))

-- ---- each form

name_law : (name : List ℕ) (o : Option (List ℕ)) (words : List ℕ) (f : List ℕ → List ℕ)
    → (is_some (where_none words o) || is_some (option_map f (option_and_then no_name o))) ≡ not (is_some (option_and_then name_in o))
name_law name o words f =
    ap (λ b. b || is_some (option_map f (option_and_then no_name o))) (some_where_none words o)
    ∙ ap (λ b. not (is_some o) || b) (some_map f (option_and_then no_name o)) ∙ name_at o

labels_law : (o : Option Items) (g : ℕ → List ℕ) (f : List ℕ → List ℕ) (words : List ℕ)
    → (is_some (option_and_then (λ ds. option_map g (first_no_text 1 ds)) o)
    || (is_some (option_map f (option_and_then (least_no_name None) o)) || (is_some (where_none words o) || false)))
    ≡ not (is_some (option_and_then (each_item name_of) o))
labels_law None g f words = refl
labels_law (Some ds) g f words =
    ap (λ b. b || (is_some (option_map f (least_no_name None ds)) || false)) (some_map g (first_no_text 1 ds))
    ∙ ap (λ b. is_some (first_no_text 1 ds) || b) (or_false (is_some (option_map f (least_no_name None ds))) ∙ some_map f (least_no_name None ds))
    ∙ labels_at ds 1 None

props_law : (o : Option Members) (f : List ℕ → List ℕ) (words : List ℕ)
    → (is_some (option_map f (option_and_then (λ ms. find (λ key. not (is_name key)) (names_in ms)) o))
    || (is_some (where_none words o) || (is_some (option_and_then first_value_cause o) || false)))
    ≡ not (is_some (option_and_then (each_member pair_of) o))
props_law None f words = refl
props_law (Some ms) f words =
    ap (λ b. b || (is_some (first_value_cause ms) || false)) (some_map f (find (λ key. not (is_name key)) (names_in ms)))
    ∙ ap (λ b. is_some (find (λ key. not (is_name key)) (names_in ms)) || b) (or_false (is_some (first_value_cause ms)))
    ∙ props_at ms

-- whether a test finds a cause in a member
abbrev pub is_told : List ℕ → MemberForm → Data → Bool
is_told name form d =
    is_some (id_cause name form d) || (is_some (text_cause name form d) || (is_some (name_cause name form d)
    || (is_some (parts_cause name form d) || (is_some (values_cause name form d) || false))))

pub member_law : (name : List ℕ) (form : MemberForm) (d : Data) → is_told name form d ≡ not (meets form d)
unfolding labels_of props_of
member_law name Id d = or_false _ ∙ some_where_none _ (id_of d)
member_law name Name d = ap (λ b. is_some (text_cause name Name d) || b) (or_false _) ∙ name_law name (as_str d) _ _
member_law name Value d = or_false _ ∙ some_value name d
member_law name Labels d = labels_law (as_array d) _ _ _ ∙ ap not (sym (some_bind_last (option_and_then (each_item name_of) (as_array d)) _))
member_law name Props d = props_law (as_object d) _ _ ∙ ap not (sym (some_bind_last (option_and_then (each_member pair_of) (as_object d)) _))
