-- The cause for which a JSON value is no transaction: the first, in the order in which causes are told. The members of an object stand in
-- the byte order of their names, so the first of several is the first in this order.
use Rattle.std.specs.Prelude.{ℕ, suc, Bool, not, ◌&&◌, ◌||◌, List, [], ◌∷◌, ◌++◌, map, Option, Some, None, is_some, option_map, if◌then◌else◌, codes, decimal, bytes_eq}
use Rattle.std.specs.List.{find, list_any}
use Rattle.std.specs.Option.{option_or}
use Rattle.std.specs.Ordering.{nat_cmp, is_lt}
use Rattle.std.specs.Cmp.Lexicographic.{slice_cmp}
use Rattle.std.specs.Float.Ieee.{le}
use Rattle.pgs_base.specs.Name.{is_name}
use Rattle.pgs_base.specs.Options.{◌>>=◌}
use Rattle.pgs_base_text.specs.Text.{quoted}
use Rattle.pgs_json.specs.declared.kind.Kind.{Kind}
use Rattle.pgs_json.specs.Form.{names_in, first_of, id_of, name_in, text_in, date_of}
use Rattle.pgs_json.specs.Kinds.{kind_named, kind_in}
use Rattle.pgs_json_causes.specs.declared.value_fault.TheConstants.{ABOVE, BELOW}
use Rattle.pgs_json_causes.specs.declared.member_form.MemberForm.{MemberForm}
use Rattle.pgs_json_causes.specs.declared.member_form.MemberForm.TheVariants as forms
use Rattle.pgs_json_causes.specs.declared.member_test.MemberTest.{MemberTest}
use Rattle.pgs_json_causes.specs.declared.member_test.MemberTest.TheVariants as tests
use Rattle.pgs_json_causes.specs.MemberForms.{is_optional, kind_word, members_of_kind}
use Rattle.pgs_json_causes.specs.Shown.{shown}
use Rattle.serde_json.specs.Data.{Data, null, boolean, number, string, array, object, Items, no_items, item, Members, no_members, member, Num}
use Rattle.serde_json.specs.Find.{as_i64, as_str, as_array, as_object, get_member, to_float}

-- these words, where there is nothing
abbrev pub where_none : {A : Type 0} → List ℕ → Option A → Option (List ℕ)
where_none words None = Some words
where_none words (Some x) = None

-- ---- values

-- whether a number lies beyond those of 64 bits with a sign
abbrev pub is_beyond : Num → Bool
is_beyond n = le ABOVE (to_float n) || le (to_float n) BELOW

-- what a number is, if it is no value of a property
abbrev pub number_fault : Num → Option (List ℕ)
number_fault n = where_none (if is_beyond n then codes "no number of 64 bits" else codes "no whole number") (as_i64 n)

-- what a JSON value is, if it is no value of a property
abbrev pub value_fault : Data → Option (List ℕ)
value_fault null = Some (codes "no value")
value_fault (boolean truth) = None
value_fault (number n) = number_fault n
value_fault (string text) = where_none (codes "a text of over 65535 bytes") (text_in text)
value_fault (array ds) = Some (codes "no value")
value_fault (object ms) = where_none (codes "no day") (date_of (object ms))

abbrev pub value_cause : List ℕ → Data → Option (List ℕ)
value_cause name d = option_map (λ words. quoted name ++ (codes " is " ++ words)) (value_fault d)

-- the first member whose value is none of a property
abbrev pub first_value_cause : Members → Option (List ℕ)
first_value_cause no_members = None
first_value_cause (member name d ms) = option_or (value_cause name d) (first_value_cause ms)

-- ---- names

-- a text that is no name
abbrev pub no_name : List ℕ → Option (List ℕ)
no_name text = if is_name text then None else Some text

abbrev pub lesser_text : List ℕ → List ℕ → List ℕ
lesser_text a b = if is_lt (slice_cmp nat_cmp b a) then b else a

-- the lesser of two texts that may be there
abbrev pub lesser : Option (List ℕ) → Option (List ℕ) → Option (List ℕ)
lesser None b = b
lesser (Some a) None = Some a
lesser (Some a) (Some b) = Some (lesser_text a b)

-- the least of this text and of those among the items that are no names
abbrev pub least_no_name : Option (List ℕ) → Items → Option (List ℕ)
least_no_name least no_items = least
least_no_name least (item d ds) = least_no_name (lesser least (as_str d >>= no_name)) ds

-- the first item that is no text, from this number on
abbrev pub first_no_text : ℕ → Items → Option ℕ
first_no_text n no_items = None
first_no_text n (item d ds) = if is_some (as_str d) then first_no_text (suc n) ds else Some n

-- a text in a member that is no name
abbrev pub no_name_in : List ℕ → List ℕ → List ℕ
no_name_in name text = shown text ++ (codes " in " ++ (quoted name ++ codes " is no name"))

-- ---- the members of an operation, each by its name, its form and its value

abbrev pub id_cause : List ℕ → MemberForm → Data → Option (List ℕ)
id_cause name forms.Id d = where_none (quoted name ++ codes " is no id") (id_of d)
id_cause name other d = None

abbrev pub text_cause : List ℕ → MemberForm → Data → Option (List ℕ)
text_cause name forms.Name d = where_none (quoted name ++ codes " is no name") (as_str d)
text_cause name forms.Labels d =
    as_array d >>= λ ds. option_map (λ n. codes "item " ++ (decimal n ++ (codes " of " ++ (quoted name ++ codes " is no name")))) (first_no_text 1 ds)
text_cause name other d = None

-- the text that has to be a name and is none
abbrev pub text_at_fault : MemberForm → Data → Option (List ℕ)
text_at_fault forms.Name d = as_str d >>= no_name
text_at_fault forms.Labels d = as_array d >>= least_no_name None
text_at_fault forms.Props d = as_object d >>= λ ms. find (λ key. not (is_name key)) (names_in ms)
text_at_fault other d = None

abbrev pub name_cause : List ℕ → MemberForm → Data → Option (List ℕ)
name_cause name form d = option_map (no_name_in name) (text_at_fault form d)

abbrev pub parts_cause : List ℕ → MemberForm → Data → Option (List ℕ)
parts_cause name forms.Labels d = where_none (quoted name ++ codes " is no list") (as_array d)
parts_cause name forms.Props d = where_none (quoted name ++ codes " is no object") (as_object d)
parts_cause name other d = None

abbrev pub values_cause : List ℕ → MemberForm → Data → Option (List ℕ)
values_cause name forms.Value d = value_cause name d
values_cause name forms.Props d = as_object d >>= first_value_cause
values_cause name other d = None

abbrev pub cause_by : MemberTest → List ℕ → MemberForm → Data → Option (List ℕ)
cause_by tests.Ids = id_cause
cause_by tests.Texts = text_cause
cause_by tests.Names = name_cause
cause_by tests.Parts = parts_cause
cause_by tests.Values = values_cause

-- the tests of members, in their order
abbrev pub all_tests : List MemberTest
all_tests = tests.Ids ∷ tests.Texts ∷ tests.Names ∷ tests.Parts ∷ tests.Values ∷ []

-- the first cause that a test finds in members with these names and forms
abbrev pub cause_in : MemberTest → List (List ℕ × MemberForm) → Members → Option (List ℕ)
cause_in test [] ms = None
cause_in test (row ∷ rows) ms = option_or (get_member row.0 ms >>= cause_by test row.0 row.1) (cause_in test rows ms)

-- the same of tests one after another
abbrev pub cause_in_all : List MemberTest → List (List ℕ × MemberForm) → Members → Option (List ℕ)
cause_in_all [] rows ms = None
cause_in_all (test ∷ tests) rows ms = option_or (cause_in test rows ms) (cause_in_all tests rows ms)

-- ---- operations

-- whether a member of this name tells another kind than this one
abbrev pub tells_other : Kind → List ℕ → Bool
tells_other kind name = is_some (kind_named name) && not (bytes_eq name (kind_word kind))

-- whether members with these names and forms have no such name among them
abbrev pub is_none_of : List (List ℕ × MemberForm) → List ℕ → Bool
is_none_of rows name = not (list_any (bytes_eq name) (map (λ row. row.0) rows))

-- the first name that has to be there and isn't
abbrev pub lacking : List (List ℕ × MemberForm) → Members → Option (List ℕ)
lacking [] ms = None
lacking (row ∷ rows) ms = if is_optional row.1 || is_some (get_member row.0 ms) then lacking rows ms else Some row.0

abbrev pub both_text : Kind → List ℕ → List ℕ
both_text kind other = codes "is both " ++ (kind_word kind ++ (codes " and " ++ other))

abbrev pub no_member_text : Kind → List ℕ → List ℕ
no_member_text kind name = shown name ++ (codes " is no member of " ++ kind_word kind)

abbrev pub lacks_text : Kind → List ℕ → List ℕ
lacks_text kind name = kind_word kind ++ (codes " lacks " ++ quoted name)

-- the cause of an object whose members tell this kind
unfoldable pub kind_cause : Kind → Members → Option (List ℕ)
kind_cause kind ms =
    first_of
    (option_map (both_text kind) (find (tells_other kind) (names_in ms))
    ∷ option_map (no_member_text kind) (find (is_none_of (members_of_kind kind)) (names_in ms))
    ∷ option_map (lacks_text kind) (lacking (members_of_kind kind) ms)
    ∷ cause_in_all all_tests (members_of_kind kind) ms ∷ [])

-- the cause of an object whose first member has this name
abbrev pub told_cause : List ℕ → Option Kind → Members → Option (List ℕ)
told_cause first None ms = Some (shown first ++ codes " is no operation")
told_cause first (Some kind) ms = kind_cause kind ms

abbrev pub object_cause : Members → Option (List ℕ)
object_cause no_members = Some (codes "is empty")
object_cause (member name d ms) = told_cause name (kind_in (member name d ms)) (member name d ms)

abbrev pub op_cause_at : Option Members → Option (List ℕ)
op_cause_at None = Some (codes "is no object")
op_cause_at (Some ms) = object_cause ms

-- the cause of an operation
abbrev pub op_cause : Data → Option (List ℕ)
op_cause d = op_cause_at (as_object d)

-- a cause behind the number of its operation
abbrev pub numbered : ℕ → List ℕ → List ℕ
numbered n cause = codes "op " ++ (decimal n ++ (codes ": " ++ cause))

-- the cause of the first operation at fault, from this number on
abbrev pub ops_cause : ℕ → Items → Option (List ℕ)
ops_cause n no_items = None
ops_cause n (item d ds) = option_or (option_map (numbered n) (op_cause d)) (ops_cause (suc n) ds)

-- ---- transactions

abbrev pub list_cause : Option Items → Option (List ℕ)
list_cause None = Some (codes "\"ops\" is no list")
list_cause (Some ds) = ops_cause 1 ds

abbrev pub ops_member_cause : Option Data → Option (List ℕ)
ops_member_cause None = Some (codes "the line lacks \"ops\"")
ops_member_cause (Some d) = list_cause (as_array d)

-- whether a member of a line has another name than its one
abbrev pub is_not_ops : List ℕ → Bool
is_not_ops name = not (bytes_eq name (codes "ops"))

abbrev pub line_object_cause : Option Members → Option (List ℕ)
line_object_cause None = Some (codes "the line is no object")
line_object_cause (Some ms) =
    option_or
    (option_map (λ name. shown name ++ codes " is no member of a line") (find is_not_ops (names_in ms)))
    (ops_member_cause (get_member (codes "ops") ms))

-- the cause for which a JSON value is no transaction
unfoldable pub cause_of : Data → Option (List ℕ)
cause_of d = line_object_cause (as_object d)
