-- How long the pieces of a transaction's text are, and the room that is told for them.
use Rattle.std.proofs.Common.{◌≡◌, ℕ, suc, ◌+◌, ◌-◌, ◌*◌, ◌^◌, ◌<◌, ◌≤◌, ℤ, pos, negsuc, min, Bool, true, false, ◌&&◌, leb, List, [], ◌∷◌, ◌++◌, length, map, flat_map, decimal, if◌then◌else◌, ◌==◌, ◌⊎◌, inl, inr, Option, Some, None, IfSome, refl, sym, ap, ap₂, arith, length-append}
use Rattle.std.specs.Prelude.{codes, nat_lt}
use Rattle.std.specs.Fmt.{signed_decimal}
use Rattle.std.specs.List.{list_all, join_with_byte}
use Rattle.std.proofs.lemmas.Bool.{and_parts, leb-true, ltb-true}
use Rattle.std.proofs.lemmas.Bool.Decides.{nat_tests}
use Rattle.std.proofs.lemmas.Fmt.{length-decimal-le, decimal_nonempty, length_signed_le}
use Rattle.pgs_base.specs.Day.{is_day}
use Rattle.pgs_base.specs.Name.{is_name, is_name_start, is_name_byte}
use Rattle.pgs_base.specs.Graph.{is_element_number}
use Rattle.pgs_base.specs.Pair.{pair_of, is_pair}
use Rattle.pgs_base.specs.Value.{is_number, is_value}
use Rattle.pgs_base.specs.declared.element.NodeId.{NodeId}
use Rattle.pgs_base.specs.declared.element.EdgeId.{EdgeId}
use Rattle.pgs_base.specs.declared.value.Value.{Value}
use Rattle.pgs_base.specs.declared.value.Value.TheVariants as values
use Rattle.pgs_base_text.specs.Text.{escaped, quoted}
use Rattle.pgs_graph.specs.declared.operation.Op.{Op}
use Rattle.pgs_graph.specs.declared.operation.Op.TheVariants.{AddNode, AddEdge, RemoveNode, DetachNode, RemoveEdge}
use Rattle.pgs_graph.specs.declared.operation.Txn.{Txn}
use Rattle.pgs_graph.specs.Operations.{is_well_formed_op}
use Rattle.pgs_base_text.proofs.Plain.{plain_by_range}
use Rattle.pgs_json.specs.Canonical.{value_text, member_text, object_text, labels_text, props_text, op_text, ops_text, text_of_txn}
use Rattle.pgs_json.specs.Pieces.{further, listed, prop_text}
use Rattle.pgs_json.specs.Room.{IsRoom}
use Rattle.pgs_json.proofs.Days.{short_day, date_text}
use Rattle.pgs_json.proofs.Joined.{joined, labels_listed, props_listed, ops_listed}

-- ---- quoted texts

abbrev IsShort : List ℕ → Type 0
IsShort bytes = (1 ≤ length bytes) × (length bytes ≤ 6)

either : (b : Bool) (x y : List ℕ) → IsShort x → IsShort y → IsShort (if b then x else y)
either true x y p q = p
either false x y p q = q

escaped_short : (b : ℕ) → IsShort (escaped b)
escaped_short b =
    either (b == 34) _ _ (omega arith, omega arith)
    (either (b == 92) _ _ (omega arith, omega arith)
    (either (b == 8) _ _ (omega arith, omega arith)
    (either (b == 9) _ _ (omega arith, omega arith)
    (either (b == 10) _ _ (omega arith, omega arith)
    (either (b == 12) _ _ (omega arith, omega arith)
    (either (b == 13) _ _ (omega arith, omega arith)
    (either (nat_lt b 32) _ _ (omega arith, omega arith) (omega arith, omega arith))))))))

all_escaped : (text : List ℕ) → (length text ≤ length (flat_map escaped text)) × (length (flat_map escaped text) ≤ 6 * length text)
all_escaped [] = (omega arith, omega arith)
all_escaped (b ∷ text) =
    let first = escaped_short b in
    let others = all_escaped text in
    let both = length-append (escaped b) (flat_map escaped text) in
    (omega (arith, first.0, others.0, both), omega (arith, first.1, others.1, both))

around : (text : List ℕ) → length (quoted text) ≡ length (flat_map escaped text) + 2
unfolding quoted
around text = omega (arith, length-append (flat_map escaped text) (34 ∷ []))

pub quoted_text : (text : List ℕ) → (length text + 2 ≤ length (quoted text)) × (length (quoted text) ≤ 6 * length text + 2)
quoted_text text =
    let inside = all_escaped text in
    (omega (arith, inside.0, around text), omega (arith, inside.1, around text))

name_byte : (b : ℕ) → is_name_byte b ≡ true → escaped b ≡ b ∷ []
name_byte b h = plain_by_range b (grind (arith, nat_tests)) (λ e. grind (arith, nat_tests)) (λ e. grind (arith, nat_tests))

name_start : (b : ℕ) → is_name_start b ≡ true → escaped b ≡ b ∷ []
name_start b h = plain_by_range b (grind (arith, nat_tests)) (λ e. grind (arith, nat_tests)) (λ e. grind (arith, nat_tests))

name_bytes : (bytes : List ℕ) → list_all is_name_byte bytes ≡ true → flat_map escaped bytes ≡ bytes
name_bytes [] h = refl
name_bytes (b ∷ bytes) h =
    let p = and_parts (is_name_byte b) (list_all is_name_byte bytes) h in
    ap₂ (λ (x y : List ℕ). x ++ y) (name_byte b p.0) (name_bytes bytes p.1)

name_plain : (name : List ℕ) → is_name name ≡ true → flat_map escaped name ≡ name
name_plain [] h = refl
name_plain (b ∷ bytes) h =
    let p = and_parts (is_name_start b && list_all is_name_byte bytes) (leb (length bytes) 63) h in
    let q = and_parts (is_name_start b) (list_all is_name_byte bytes) p.0 in
    ap₂ (λ (x y : List ℕ). x ++ y) (name_start b q.0) (name_bytes bytes q.1)

pub quoted_name : (name : List ℕ) → is_name name ≡ true → length (quoted name) ≡ length name + 2
quoted_name name h = omega (arith, around name, ap length (name_plain name h))

pub short_name : (name : List ℕ) → is_name name ≡ true → length name ≤ 64
short_name [] h = omega arith
short_name (b ∷ bytes) h =
    let short : length bytes ≤ 63 = leb-true (length bytes) 63 (and_parts (is_name_start b && list_all is_name_byte bytes) (leb (length bytes) 63) h).1 in
    omega arith

-- ---- numbers and days

pub id_digits : (n : ℕ) → n < 2 ^ 64 → length (decimal n) ≤ 20
id_digits n h = length-decimal-le 20 n (omega arith) (omega arith) h

pub number_digits : (n : ℤ) → is_number n ≡ true → (1 ≤ length (signed_decimal n)) × (length (signed_decimal n) ≤ 20)
number_digits (pos n) h =
    let small : n ≤ 9223372036854775807 = leb-true n 9223372036854775807 h in
    (decimal_nonempty n (omega arith), length-decimal-le 20 n (omega arith) (omega arith) (omega arith))
number_digits (negsuc n) h =
    let small : n ≤ 9223372036854775807 = leb-true n 9223372036854775807 (and_parts (leb n 9223372036854775807) true h).0 in
    let digits : length (decimal (n + 1)) ≤ 19 = length-decimal-le 19 (n + 1) (omega arith) (omega arith) (omega arith) in
    (omega arith, length_signed_le 19 (negsuc n) (omega arith) (omega arith))

pub date_length : (day : ℕ × ℕ × ℕ) → is_day day.0 day.1 day.2 ≡ true → length (value_text (values.Date day)) ≡ 21
date_length day h = sym (ap length (date_text day (short_day day h)))

-- ---- items with a comma before each

module _ {A : Type 0} (text : A → List ℕ) where
  pub listed_bounds : (xs : List A) → (length (listed text xs) ≤ length (flat_map (further text) xs)) × (length (flat_map (further text) xs) ≤ length (listed text xs) + 1)
  listed_bounds [] = (omega arith, omega arith)
  listed_bounds (x ∷ xs) = (omega arith, omega arith)

-- ---- lists between brackets

pub labels_bounds : (labels : List (List ℕ))
    → (length (flat_map (further quoted) labels) + 1 ≤ length (labels_text labels)) × (length (labels_text labels) ≤ length (flat_map (further quoted) labels) + 2)
labels_bounds labels =
    let text = ap length (labels_listed labels) in
    let inside = listed_bounds quoted labels in
    (omega (arith, text, inside.0, inside.1, length-append {A = ℕ}), omega (arith, text, inside.0, inside.1, length-append {A = ℕ}))

pub props_bounds : (props : List (List ℕ × Value))
    → (length (flat_map (further prop_text) props) + 1 ≤ length (props_text props)) × (length (props_text props) ≤ length (flat_map (further prop_text) props) + 2)
props_bounds props =
    let text = ap length (props_listed props) in
    let inside = listed_bounds prop_text props in
    (omega (arith, text, inside.0, inside.1, length-append {A = ℕ}), omega (arith, text, inside.0, inside.1, length-append {A = ℕ}))

pub ops_bounds : (txn : Txn)
    → (length (flat_map (further op_text) txn.ops) + 1 ≤ length (ops_text txn)) × (length (ops_text txn) ≤ length (flat_map (further op_text) txn.ops) + 2)
ops_bounds txn =
    let text = ap length (ops_listed txn) in
    let inside = listed_bounds op_text txn.ops in
    (omega (arith, text, inside.0, inside.1, length-append {A = ℕ}), omega (arith, text, inside.0, inside.1, length-append {A = ℕ}))

-- ---- objects

-- whether no byte of a member's name is escaped
abbrev pub ArePlain : List (List ℕ × List ℕ) → Type 0
ArePlain [] = Unit {0}
ArePlain (m ∷ ms) = (flat_map escaped m.0 ≡ m.0) × ArePlain ms

-- the bytes of members, each behind a comma
abbrev pub sizes : List (List ℕ × List ℕ) → ℕ
sizes [] = 0
sizes (m ∷ ms) = length m.0 + length m.1 + 4 + sizes ms

member_length : (m : List ℕ × List ℕ) → flat_map escaped m.0 ≡ m.0 → length (member_text m) ≡ length m.0 + length m.1 + 3
member_length m plain = omega (arith, length-append (quoted m.0) (58 ∷ m.1), around m.0, ap length plain)

further_length : (ms : List (List ℕ × List ℕ)) → ArePlain ms → length (flat_map (further member_text) ms) ≡ sizes ms
further_length [] plain = refl
further_length (m ∷ ms) plain =
    omega (arith, length-append (member_text m) (flat_map (further member_text) ms), member_length m plain.0, further_length ms plain.1)

pub object_length : (m : List ℕ × List ℕ) (ms : List (List ℕ × List ℕ)) → ArePlain (m ∷ ms) → length (object_text (m ∷ ms)) ≡ sizes (m ∷ ms) + 1
object_length m ms plain =
    omega (
      arith,
      ap length (joined member_text (m ∷ ms)),
      length-append (join_with_byte 44 (map member_text (m ∷ ms))) (125 ∷ []),
      length-append (member_text m) (flat_map (further member_text) ms),
      member_length m plain.0,
      further_length ms plain.1,
    )

-- ---- rooms

pub plain_room : (room count : ℕ) → count ≤ room → room ≤ 6 * count → IsRoom room count
plain_room room count enough bounded = record { enough = omega arith; bounded = bounded }

-- two lists between brackets, and other bytes
pub around_pair : (labels props l p pair own most room count : ℕ) → (l + 1 ≤ labels) × (labels ≤ l + 2) → (p + 1 ≤ props) × (props ≤ p + 2) → IsRoom pair (l + p) → count ≡ own + labels + props
    → own + 4 ≤ most → most ≤ 6 * own → room ≡ min (pair + most) (2 ^ 64 - 1) → IsRoom room count
around_pair labels props l p pair own most room count around_labels around_props inside all enough bounded is =
    record { enough = omega (arith, inside.enough); bounded = omega (arith, inside.bounded) }

-- ---- operations and transactions

-- the ids of what is well formed are short
pub short_id : (id : ℕ) → is_element_number id ≡ true → length (decimal id) ≤ 20
short_id id well = id_digits id (ltb-true id (2 ^ 64) well)

pub short_first : (id : ℕ) (rest : Bool) → (is_element_number id && rest) ≡ true → length (decimal id) ≤ 20
short_first id rest well = short_id id (and_parts (is_element_number id) rest well).0

pub add_node_room : (id : NodeId) (labels : List (List ℕ)) (props : List (List ℕ × Value)) (pair room : ℕ) → is_well_formed_op (AddNode id labels props) ≡ true
    → IsRoom pair (length (flat_map (further quoted) labels) + length (flat_map (further prop_text) props)) → room ≡ min (pair + 57) (2 ^ 64 - 1)
    → IsRoom room (length (further op_text (AddNode id labels props)))
add_node_room id labels props pair room well inside is =
    let short = short_first id.0 _ well in
    let text = object_length (codes "add_node", decimal id.0) ((codes "labels", labels_text labels) ∷ (codes "props", props_text props) ∷ []) (refl, (refl, (refl, tt))) in
    around_pair (length (labels_text labels)) (length (props_text props)) _ _ pair (33 + length (decimal id.0)) 57 room _
    (labels_bounds labels) (props_bounds props) inside (omega (arith, text)) (omega arith) (omega arith) is

pub add_edge_room : (id : EdgeId) (source target : NodeId) (labels : List (List ℕ)) (props : List (List ℕ × Value)) (pair room : ℕ)
    → is_well_formed_op (AddEdge id source target labels props) ≡ true
    → IsRoom pair (length (flat_map (further quoted) labels) + length (flat_map (further prop_text) props)) → room ≡ min (pair + 111) (2 ^ 64 - 1)
    → IsRoom room (length (further op_text (AddEdge id source target labels props)))
add_edge_room id source target labels props pair room well inside is =
    let numbers = (and_parts (is_element_number id.0 && is_element_number source.0 && is_element_number target.0) (is_pair (pair_of labels props)) well).0 in
    let ends = and_parts (is_element_number id.0 && is_element_number source.0) (is_element_number target.0) numbers in
    let first = and_parts (is_element_number id.0) (is_element_number source.0) ends.0 in
    let text = object_length (codes "add_edge", decimal id.0) ((codes "from", decimal source.0) ∷ (codes "labels", labels_text labels) ∷ (codes "props", props_text props) ∷ (codes "to", decimal target.0) ∷ []) (refl, (refl, (refl, (refl, (refl, tt))))) in
    around_pair (length (labels_text labels)) (length (props_text props)) _ _ pair (47 + length (decimal id.0) + length (decimal source.0) + length (decimal target.0)) 111 room _
    (labels_bounds labels) (props_bounds props) inside (omega (arith, text)) (omega (arith, short_id id.0 first.0, short_id source.0 first.1, short_id target.0 ends.1)) (omega arith) is

pub id_only_room : (kind : List ℕ) (id : ℕ) → is_element_number id ≡ true → flat_map escaped kind ≡ kind → 4 ≤ length kind → length kind ≤ 31
    → IsRoom 57 (suc (length (object_text ((kind, decimal id) ∷ []))))
id_only_room kind id well plain long short =
    let text = object_length (kind, decimal id) [] (plain, tt) in
    plain_room _ _ (omega (arith, text, short_id id well)) (omega (arith, text))

-- an operation with an id alone
pub bare_room : (op : Op) → is_well_formed_op op ≡ true
    → ((id : NodeId) × (op ≡ RemoveNode id)) ⊎ (((id : NodeId) × (op ≡ DetachNode id)) ⊎ ((id : EdgeId) × (op ≡ RemoveEdge id)))
    → IsRoom 57 (length (further op_text op))
bare_room op well (inl e) = rw e.1 (id_only_room (codes "remove_node") e.0.0 (rw e.1 at well) refl (omega arith) (omega arith))
bare_room op well (inr (inl e)) = rw e.1 (id_only_room (codes "detach_node") e.0.0 (rw e.1 at well) refl (omega arith) (omega arith))
bare_room op well (inr (inr e)) = rw e.1 (id_only_room (codes "remove_edge") e.0.0 (rw e.1 at well) refl (omega arith) (omega arith))

pub named_room : (first kind name : List ℕ) (id : ℕ) → (is_element_number id && is_name name) ≡ true → (flat_map escaped first ≡ first) × (flat_map escaped kind ≡ kind)
    → length first + length kind ≤ 27 → (room : ℕ) → room ≡ length (quoted name)
    → IsRoom (57 + room) (suc (length (object_text ((first, quoted name) ∷ (kind, decimal id) ∷ []))))
named_room first kind name id well plain short room exact =
    let text = object_length (first, quoted name) ((kind, decimal id) ∷ []) (plain.0, (plain.1, tt)) in
    plain_room _ _ (omega (arith, text, exact, short_first id _ well)) (omega (arith, text, exact))

pub set_room : (kind key : List ℕ) (value : Value) (id : ℕ) → (is_element_number id && is_name key && is_value value) ≡ true → flat_map escaped kind ≡ kind → length kind ≤ 16
    → (room : ℕ) → length (prop_text (key, value)) ≤ room → room ≤ 6 * length (prop_text (key, value))
    → IsRoom (57 + room) (suc (length (object_text ((codes "key", quoted key) ∷ (kind, decimal id) ∷ (codes "value", value_text value) ∷ []))))
set_room kind key value id well plain short room enough bounded =
    let text = object_length (codes "key", quoted key) ((kind, decimal id) ∷ (codes "value", value_text value) ∷ []) (refl, (plain, (refl, tt))) in
    let prop = length-append (quoted key) (58 ∷ value_text value) in
    let digits = short_first id _ (and_parts (is_element_number id && is_name key) (is_value value) well).0 in
    plain_room _ _ (omega (arith, text, prop, digits)) (omega (arith, text, prop))

pub txn_enough : (txn : Txn) (commit : Option ℕ) → IfSome commit (λ n. n < 2 ^ 64) → length (text_of_txn txn commit) + 1 ≤ length (flat_map (further op_text) txn.ops) + 41
unfolding text_of_txn
txn_enough txn None fits =
    omega (arith, object_length (codes "ops", ops_text txn) [] (refl, tt), (ops_bounds txn).1)
txn_enough txn (Some n) fits =
    omega (arith, object_length (codes "commit", decimal n) ((codes "ops", ops_text txn) ∷ []) (refl, (refl, tt)), (ops_bounds txn).1, id_digits n fits)

pub txn_bounded : (txn : Txn) → length (flat_map (further op_text) txn.ops) + 9 ≤ length (text_of_txn txn None)
unfolding text_of_txn
txn_bounded txn = omega (arith, object_length (codes "ops", ops_text txn) [] (refl, tt), (ops_bounds txn).0)
