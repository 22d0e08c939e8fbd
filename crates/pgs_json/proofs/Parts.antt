-- The JSON data that a transaction's canonical text spells, and that the form makes the transaction of it.
use Rattle.std.proofs.Common.{◌≡◌, ℕ, suc, ◌^◌, ◌<◌, ℤ, pos, negsuc, Bool, true, ◌&&◌, leb, List, [], ◌∷◌, ◌++◌, map, fold, length, Some, IsUtf8, refl, sym, ap, ◌∙◌, subst, arith, Ordering, Less, Equal, Greater, append_assoc, append-nil}
use Rattle.std.specs.Prelude.{codes}
use Rattle.std.specs.Ordering.{nat_cmp, match_ordering}
use Rattle.std.specs.Cmp.Lexicographic.{slice_cmp}
use Rattle.std.specs.List.{list_all, AllByRecursion}
use Rattle.std.specs.List.Sorted.{IsStrictlySortedBy}
use Rattle.std.specs.Map.{keys_of}
use Rattle.std.specs.BTreeMap.{insert_entry}
use Rattle.std.specs.BTreeSet.{insert_key}
use Rattle.std.proofs.lemmas.Bool.{true≢false, and_parts, and_from, leb-true, lt-ltb}
use Rattle.std.proofs.lemmas.Bool.Decides.{nat_tests}
use Rattle.std.proofs.lemmas.Cmp.{nat_list_cmp_total}
use Rattle.std.proofs.lemmas.Str.{IsUtf8-append, IsUtf8-nil, IsUtf8-from_is_utf8}
use Rattle.json.proofs.Printed.Utf8.{are_ascii, IsUtf8-are_ascii}
use Rattle.serde_json.specs.Data.{Data, boolean, number, string, array, object, Members, no_members, member, put}
use Rattle.serde_json.specs.Find.{of_integer}
use Rattle.serde_json.specs.View.{items_of}
use Rattle.pgs_base.specs.declared.value.Value.{Value}
use Rattle.pgs_base.specs.declared.value.Value.TheVariants as values
use Rattle.pgs_base.specs.Name.{is_name, is_name_start, is_name_byte}
use Rattle.pgs_base.specs.Value.{is_value, is_number}
use Rattle.pgs_base.proofs.Ascending.{ascending-insert_entry}
use Rattle.pgs_base.proofs.Lookups.{insert_entry_last, insert_key_last}
use Rattle.pgs_base_text.specs.Text.{quoted, day_text}
use Rattle.pgs_json.specs.Sets.{label_set, pair_map}
use Rattle.pgs_json.specs.Form.{name_of, pair_of, value_of, each_item, each_member, labels_of, props_of}
use Rattle.pgs_json.specs.Canonical.{value_text, labels_text, props_text, object_text}
use Rattle.pgs_json.proofs.Days.{short_day, day_utf8, day_in_text}
use Rattle.pgs_json.proofs.Spelt.{Spelt, deeper, spelt_string, spelt_number, spelt_negative, spelt_truth, spelt_list, spelt_object, AllSpelt, AllSpeltAt, put_each}

-- ---- names

name_byte_small : (b : ℕ) → is_name_byte b ≡ true → b < 128
name_byte_small b h = grind (arith, nat_tests)

name_start_small : (b : ℕ) → is_name_start b ≡ true → b < 128
name_start_small b h = grind (arith, nat_tests)

byte_then : (b : ℕ) (bs : List ℕ) → b < 128 → IsUtf8 bs → IsUtf8 (b ∷ bs)
byte_then b bs small rest = IsUtf8-append (b ∷ []) bs (IsUtf8-are_ascii (b ∷ []) (and_from _ _ (lt-ltb b 128 small) refl)) rest

name_bytes_utf8 : (bs : List ℕ) → list_all is_name_byte bs ≡ true → IsUtf8 bs
name_bytes_utf8 [] h = IsUtf8-nil
name_bytes_utf8 (b ∷ bs) h =
    let p = and_parts (is_name_byte b) _ h in
    byte_then b bs (name_byte_small b p.0) (name_bytes_utf8 bs p.1)

pub name_utf8 : (name : List ℕ) → is_name name ≡ true → IsUtf8 name
name_utf8 [] h = absurd (true≢false (sym h))
name_utf8 (b ∷ bs) h =
    let p = and_parts (is_name_start b && list_all is_name_byte bs) _ h in
    let q = and_parts (is_name_start b) _ p.0 in
    byte_then b bs (name_start_small b q.0) (name_bytes_utf8 bs q.1)

-- ---- members of an object, with their texts and their data

abbrev pub Part : Type 0
Part = List ℕ × List ℕ × Data

pub spelt_parts : (levels : ℕ) (parts : List Part) → AllSpeltAt (λ (m : Part). m.0) (λ m. m.1) (λ m. m.2) levels parts
    → Spelt (object_text (map (λ (m : Part). (m.0, m.1)) parts)) (object (put_each (λ (m : Part). m.0) (λ m. m.1) (λ m. m.2) levels parts no_members)) (suc levels)
spelt_parts levels parts all = spelt_object (λ (m : Part). m.0) (λ m. m.1) (λ m. m.2) levels parts all

ascii : (name : List ℕ) → are_ascii name ≡ true → IsUtf8 name
ascii name e = IsUtf8-are_ascii name e

-- ---- values

abbrev pub value_data : Value → Data
value_data (values.Text text) = string text
value_data (values.Int number_of_it) = number (of_integer number_of_it)
value_data (values.Bool truth) = boolean truth
value_data (values.Date day) = object (member (codes "date") (string (day_text day)) no_members)

spelt_int : (n : ℤ) → is_number n ≡ true → Spelt (value_text (values.Int n)) (number (of_integer n)) 1
spelt_int (pos n) h =
    deeper _ _ 0 1 (spelt_number n (omega (arith, leb-true n 9223372036854775807 h))) (omega arith)
spelt_int (negsuc n) h =
    let p = and_parts (leb n 9223372036854775807) true h in
    deeper _ _ 0 1 (spelt_negative n (omega (arith, leb-true n 9223372036854775807 p.0))) (omega arith)

pub spelt_value : (v : Value) → is_value v ≡ true → Spelt (value_text v) (value_data v) 1
spelt_value (values.Text text) h =
    deeper _ _ 0 1 (spelt_string text (IsUtf8-from_is_utf8 text (and_parts _ (leb (length text) 65535) h).0)) (omega arith)
spelt_value (values.Int n) h = spelt_int n h
spelt_value (values.Bool truth) h = deeper _ _ 0 1 (spelt_truth truth) (omega arith)
spelt_value (values.Date day) h =
    spelt_parts 0 ((codes "date", quoted (day_text day), string (day_text day)) ∷ [])
    ((ascii (codes "date") refl, spelt_string (day_text day) (day_utf8 day (short_day day h))), tt)

int_read : (n : ℤ) → is_number n ≡ true → value_of (number (of_integer n)) ≡ Some (values.Int n)
int_read (pos n) h =
    let small : n < 2 ^ 63 = omega (arith, leb-true n 9223372036854775807 h) in
    rw (lt-ltb n (2 ^ 63) small) refl
int_read (negsuc n) h = refl

pub value_read : (v : Value) → is_value v ≡ true → value_of (value_data v) ≡ Some v
value_read (values.Text text) h = rw (and_parts _ (leb (length text) 65535) h).1 refl
value_read (values.Int n) h = int_read n h
value_read (values.Bool truth) h = refl
value_read (values.Date day) h = rw (day_in_text day h) refl

-- ---- labels

all_labels : (labels : List (List ℕ)) → list_all is_name labels ≡ true → AllSpelt quoted string 0 labels
all_labels [] h = tt
all_labels (l ∷ ls) h = let p = and_parts (is_name l) _ h in (spelt_string l (name_utf8 l p.0), all_labels ls p.1)

abbrev pub labels_data : List (List ℕ) → Data
labels_data labels = array (items_of (map string labels))

pub spelt_labels : (labels : List (List ℕ)) → list_all is_name labels ≡ true → Spelt (labels_text labels) (labels_data labels) 1
spelt_labels labels h = spelt_list quoted string 0 labels (all_labels labels h)

names_read : (names : List (List ℕ)) → list_all is_name names ≡ true → each_item name_of (items_of (map string names)) ≡ Some names
names_read [] h = refl
names_read (n ∷ ns) h = let p = and_parts (is_name n) _ h in rw (p.0, names_read ns p.1) refl

pub labels_read : (labels : List (List ℕ)) → list_all is_name labels ≡ true → labels_of (labels_data labels) ≡ Some (label_set labels)
unfolding labels_of
labels_read labels h = rw (names_read labels h) refl

-- an ascending list is its own set: labels that are put in one after the other go last
all_front : {K : Type 0} (P : K → Type 0) (done : List K) (k : K) (more : List K) → AllByRecursion P (done ++ k ∷ more) → AllByRecursion P (done ++ k ∷ [])
all_front P [] k more s = (s.0, tt)
all_front P (x ∷ done) k more s = (s.0, all_front P done k more s.1)

sorted_front : {K : Type 0} (cmp : K → K → Ordering) (done : List K) (k : K) (more : List K) → IsStrictlySortedBy cmp (done ++ k ∷ more)
    → IsStrictlySortedBy cmp (done ++ k ∷ [])
unfolding IsStrictlySortedBy
sorted_front cmp [] k more s = (tt, tt)
sorted_front cmp (x ∷ done) k more s = (all_front (λ y. cmp x y ≡ Less) done k more s.0, sorted_front cmp done k more s.1)

set_onto : (done more : List (List ℕ)) → IsStrictlySortedBy (slice_cmp nat_cmp) (done ++ more)
    → fold (insert_key (slice_cmp nat_cmp)) done more ≡ done ++ more
set_onto done [] s = sym (append-nil done)
set_onto done (k ∷ more) s =
    ap (λ (ks : List (List ℕ)). fold (insert_key (slice_cmp nat_cmp)) ks more)
    (insert_key_last nat_list_cmp_total done k (sorted_front (slice_cmp nat_cmp) done k more s))
    ∙ set_onto (done ++ k ∷ []) more (subst (IsStrictlySortedBy (slice_cmp nat_cmp)) (sym (append_assoc done (k ∷ []) more)) s)
    ∙ append_assoc done (k ∷ []) more

pub own_set : (labels : List (List ℕ)) → IsStrictlySortedBy (slice_cmp nat_cmp) labels → label_set labels ≡ labels
own_set labels s = set_onto [] labels s

keys-append : (a b : List (List ℕ × Value)) → keys_of (a ++ b) ≡ keys_of a ++ keys_of b
keys-append [] b = refl
keys-append (p ∷ ps) b = ap (λ (ks : List (List ℕ)). p.0 ∷ ks) (keys-append ps b)

abbrev pub put_pair : List (List ℕ × Value) → List ℕ × Value → List (List ℕ × Value)
put_pair props p = insert_entry (slice_cmp nat_cmp) props p.0 p.1

map_onto : (done more : List (List ℕ × Value)) → IsStrictlySortedBy (slice_cmp nat_cmp) (keys_of (done ++ more)) → fold put_pair done more ≡ done ++ more
map_onto done [] s = sym (append-nil done)
map_onto done (p ∷ more) s =
    let front = sorted_front (slice_cmp nat_cmp) (keys_of done) p.0 (keys_of more) (subst (IsStrictlySortedBy (slice_cmp nat_cmp)) (keys-append done (p ∷ more)) s) in
    ap (λ (ps : List (List ℕ × Value)). fold put_pair ps more)
    (insert_entry_last nat_list_cmp_total done p.0 p.1 (subst (IsStrictlySortedBy (slice_cmp nat_cmp)) (sym (keys-append done (p ∷ []))) front))
    ∙ map_onto (done ++ p ∷ []) more
    (subst (λ (ps : List (List ℕ × Value)). IsStrictlySortedBy (slice_cmp nat_cmp) (keys_of ps)) (sym (append_assoc done (p ∷ []) more)) s)
    ∙ append_assoc done (p ∷ []) more

pub own_map : (props : List (List ℕ × Value)) → IsStrictlySortedBy (slice_cmp nat_cmp) (keys_of props) → pair_map props ≡ props
own_map props s = map_onto [] props s

pub pair_map_sorted : (done more : List (List ℕ × Value)) → IsStrictlySortedBy (slice_cmp nat_cmp) (keys_of done)
    → IsStrictlySortedBy (slice_cmp nat_cmp) (keys_of (fold put_pair done more))
pair_map_sorted done [] s = s
pair_map_sorted done (p ∷ more) s = pair_map_sorted (put_pair done p) more (ascending-insert_entry nat_list_cmp_total p.0 p.1 done s)

-- ---- properties

abbrev pub is_prop : List ℕ × Value → Bool
is_prop p = is_name p.0 && is_value p.1

abbrev pub prop_members : List (List ℕ × Value) → Members
prop_members [] = no_members
prop_members (p ∷ ps) = member p.0 (value_data p.1) (prop_members ps)

abbrev pub props_data : List (List ℕ × Value) → Data
props_data props = object (prop_members props)

members_match : (o : Ordering) (a b c : List (List ℕ × Value))
    → match_ordering o (prop_members a) (prop_members b) (prop_members c) ≡ prop_members (match_ordering o a b c)
members_match Less a b c = refl
members_match Equal a b c = refl
members_match Greater a b c = refl

put_members : (props : List (List ℕ × Value)) (k : List ℕ) (v : Value) → put k (value_data v) (prop_members props) ≡ prop_members (insert_entry (slice_cmp nat_cmp) props k v)
put_members [] k v = refl
put_members (p ∷ ps) k v =
    ap (λ (ms : Members). match_ordering (slice_cmp nat_cmp k p.0) (member k (value_data v) (prop_members (p ∷ ps))) (member p.0 (value_data v) (prop_members ps)) (member p.0 (value_data p.1) ms))
    (put_members ps k v)
    ∙ members_match (slice_cmp nat_cmp k p.0) ((k, v) ∷ p ∷ ps) ((p.0, v) ∷ ps) (p ∷ insert_entry (slice_cmp nat_cmp) ps k v)

abbrev put_props : List (List ℕ × Value) → Members → Members
put_props = put_each (λ (p : List ℕ × Value). p.0) (λ p. value_text p.1) (λ p. value_data p.1) 1

put_all_members : (done more : List (List ℕ × Value)) → put_props more (prop_members done) ≡ prop_members (fold put_pair done more)
put_all_members done [] = refl
put_all_members done (p ∷ more) = ap (put_props more) (put_members done p.0 p.1) ∙ put_all_members (put_pair done p) more

all_props : (props : List (List ℕ × Value)) → list_all is_prop props ≡ true
    → AllSpeltAt (λ (p : List ℕ × Value). p.0) (λ p. value_text p.1) (λ p. value_data p.1) 1 props
all_props [] h = tt
all_props (p ∷ ps) h =
    let a = and_parts (is_prop p) _ h in
    let b = and_parts (is_name p.0) (is_value p.1) a.0 in
    ((name_utf8 p.0 b.0, spelt_value p.1 b.1), all_props ps a.1)

-- in whatever order they stand
pub spelt_props : (props : List (List ℕ × Value)) → list_all is_prop props ≡ true → Spelt (props_text props) (props_data (pair_map props)) 2
spelt_props props h =
    subst (λ (ms : Members). Spelt (props_text props) (object ms) 2) (put_all_members [] props)
    (spelt_object (λ (p : List ℕ × Value). p.0) (λ p. value_text p.1) (λ p. value_data p.1) 1 props (all_props props h))

pairs_read : (props : List (List ℕ × Value)) → list_all is_prop props ≡ true → each_member pair_of (prop_members props) ≡ Some props
pairs_read [] h = refl
pairs_read (p ∷ ps) h =
    let a = and_parts (is_prop p) _ h in
    let b = and_parts (is_name p.0) (is_value p.1) a.0 in
    rw (b.0, value_read p.1 b.1, pairs_read ps a.1) refl

pub props_read : (props : List (List ℕ × Value)) → list_all is_prop props ≡ true → props_of (props_data props) ≡ Some (pair_map props)
unfolding props_of
props_read props h = rw (pairs_read props h) refl
