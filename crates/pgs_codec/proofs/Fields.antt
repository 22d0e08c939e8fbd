-- Each field of a payload is read exactly.
use Rattle.std.proofs.Common.{◌≡◌, ℕ, zero, suc, ◌^◌, ◌<◌, ◌≤◌, Bool, true, false, cond, ◌&&◌, List, [], ◌∷◌, ◌++◌, length, Some, refl, sym, ap, ◌∙◌, append_assoc, arith}
use Rattle.std.specs.Prelude.{ℤ, pos, negsuc, eqb, leb, ltb, FitsSigned}
use Rattle.std.specs.Int.{w16, w64, to_be_bytes, cast_signed, cast_unsigned}
use Rattle.std.specs.Ordering.{nat_cmp}
use Rattle.std.specs.Cmp.Lexicographic.{slice_cmp}
use Rattle.std.specs.List.{list_all}
use Rattle.std.specs.Map.{keys_of}
use Rattle.std.specs.Str.{is_utf8}
use Rattle.std.proofs.lemmas.Bool.{leb-true, ltb-true, ltb-false, le-leb, lt-ltb, and_parts, and_from}
use Rattle.std.proofs.lemmas.Int.{of_z-to_z, to_z-of_z}
use Rattle.pgs_base.specs.declared.value.Value.{Value}
use Rattle.pgs_base.specs.declared.value.Value.TheVariants as values
use Rattle.pgs_base.specs.Day.{is_day}
use Rattle.pgs_base.specs.Order.{ascends}
use Rattle.pgs_base.specs.Name.{is_name, is_name_start, is_name_byte}
use Rattle.pgs_base.specs.Value.{is_text, is_number, is_value}
use Rattle.pgs_codec.specs.Payload.{name_field, labels_field, value_field, truth_byte, property_field, props_field, node_id_field, edge_id_field, node_row_field, edge_row_field, node_field, edge_field}
use Rattle.pgs_codec.specs.Encodable.{is_date, is_labels, is_property, is_props, is_node_id, is_edge_id, is_node_row, is_edge_row, is_node, is_edge}
use Rattle.pgs_codec.specs.Reading.{bytes_at, byte_at, number_at, name_bytes_at, name_at, text_bytes_at, text_at, truth_at, day_parts_at, day_at, value_kinds, value_at, labels_at, property_at, props_at, node_id, edge_id, node_id_at, edge_id_at, node_row_at, edge_row_at, node_at, edge_at}
use Rattle.pgs_codec.proofs.Exact.{IsExact, then_some, pair_exact, named_exact, tested_exact, refit, bytes_take, bytes_again, named_again, two_bytes, eight_bytes, number_exact, byte_exact, counted_exact, kind_takes, row_takes}

-- ---- names

name_bytes_exact : IsExact name_field (λ name. ltb (length name) 256) name_bytes_at
unfolding name_bytes_at byte_at
name_bytes_exact = record {
  takes = λ bytes x fits e.
      let a = then_some (byte_at bytes) (λ n. bytes_at n.0 n.1) x e in
      let ta = byte_exact.takes bytes a.0 fits a.1 in
      let tb = bytes_take a.0.0 a.0.1 x a.2 in
      record {
        spelled = ta.spelled ∙ ap (λ (l : List ℕ). a.0.0 ∷ l) tb.0 ∙ ap (λ (n : ℕ). n ∷ (x.0 ++ x.1)) (sym tb.1);
        fit = ap (λ n. ltb n 256) tb.1 ∙ ta.fit;
      };
  again = λ name rest e. bytes_again name rest;
}

short_names : (name : List ℕ) → is_name name ≡ true → ltb (length name) 256 ≡ true
short_names [] e = absurd cc
short_names (b ∷ bs) e = let short : length bs ≤ 63 = leb-true (length bs) 63 (and_parts (is_name_start b && list_all is_name_byte bs) (leb (length bs) 63) e).1 in lt-ltb (suc (length bs)) 256 (omega arith)

pub name_exact : IsExact name_field is_name name_at
unfolding name_at
name_exact = refit (tested_exact name_bytes_exact is_name) is_name (λ name e. (and_parts (ltb (length name) 256) (is_name name) e).1) (λ name e. and_from _ _ (short_names name e) e)

-- ---- values

text_bytes_exact : IsExact (λ text. to_be_bytes w16 (length text) ++ text) (λ text. ltb (length text) (2 ^ 16)) text_bytes_at
unfolding text_bytes_at
text_bytes_exact = record {
  takes = λ bytes x fits e.
      let a = then_some (number_at w16 bytes) (λ n. bytes_at n.0 n.1) x e in
      let ta = number.takes bytes a.0 fits a.1 in
      let tb = bytes_take a.0.0 a.0.1 x a.2 in
      record {
        spelled = ta.spelled ∙ ap (λ (l : List ℕ). to_be_bytes w16 a.0.0 ++ l) tb.0 ∙ sym (append_assoc (to_be_bytes w16 a.0.0) x.0 x.1) ∙ ap (λ (n : ℕ). (to_be_bytes w16 n ++ x.0) ++ x.1) (sym tb.1);
        fit = ap (λ n. ltb n (2 ^ 16)) tb.1 ∙ ta.fit;
      };
  again = λ text rest e. rw (append_assoc (to_be_bytes w16 (length text)) text rest, number.again (length text) (text ++ rest) e) (bytes_again text rest);
}
  where
    number : IsExact (to_be_bytes w16) (λ n. ltb n (2 ^ 16)) (number_at w16)
    number = number_exact w16 (2 ^ 16) two_bytes

text_exact : IsExact (λ text. to_be_bytes w16 (length text) ++ text) is_text text_at
unfolding text_at
text_exact = refit (tested_exact text_bytes_exact is_text) is_text (λ text e. (and_parts (ltb (length text) (2 ^ 16)) (is_text text) e).1)
    (λ text e. let short : length text ≤ 65535 = leb-true (length text) 65535 (and_parts (is_utf8 text) (leb (length text) 65535) e).1 in and_from _ _ (lt-ltb (length text) (2 ^ 16) (omega arith)) e)

truth_exact : IsExact (λ b. b ∷ []) (λ b. leb b 1) truth_at
unfolding truth_at
truth_exact = refit (tested_exact byte_exact (λ b. leb b 1)) (λ b. leb b 1) (λ b e. (and_parts (ltb b 256) (leb b 1) e).1)
    (λ b e. let small : b ≤ 1 = leb-true _ _ e in and_from _ _ (lt-ltb _ _ (omega arith)) e)

-- the numbers that eight bytes hold in two's complement
signed_number : (n : ℕ) → ltb n (2 ^ 64) ≡ true → is_number (cast_signed w64 n) ≡ true
signed_number n e = by (ltb n (2 ^ 63)) refl
  where
    by : (b : Bool) → ltb n (2 ^ 63) ≡ b → is_number (cast_signed w64 n) ≡ true
    by true low = let lt : n < 2 ^ 63 = ltb-true _ _ low in rw low (le-leb _ _ (omega arith))
    by false high = let lt : n < 2 ^ 64 = ltb-true _ _ e in let le : 2 ^ 63 ≤ n = ltb-false _ _ high in rw high (and_from _ _ (le-leb _ _ (omega arith)) refl)

number_fits : (z : ℤ) → is_number z ≡ true → FitsSigned w64 z
number_fits (pos n) e = let le : n ≤ 9223372036854775807 = leb-true _ _ e in record { sfits = omega arith }
number_fits (negsuc n) e = let le : n ≤ 9223372036854775807 = leb-true _ _ (and_parts _ _ e).0 in record { sfits = omega arith }

unsigned_number : (z : ℤ) → is_number z ≡ true → ltb (cast_unsigned w64 z) (2 ^ 64) ≡ true
unsigned_number (pos n) e = let le : n ≤ 9223372036854775807 = leb-true _ _ e in lt-ltb _ _ (omega arith)
unsigned_number (negsuc n) e = lt-ltb _ _ (omega arith)

-- what is a day fits its bytes
short_by : (b c x : Bool) (day : ℕ) → leb day (cond b (cond c 29 28) (cond x 30 31)) ≡ true → day ≤ 31
short_by true true x day e = let le : day ≤ 29 = leb-true _ _ e in omega arith
short_by true false x day e = let le : day ≤ 28 = leb-true _ _ e in omega arith
short_by false c true day e = let le : day ≤ 30 = leb-true _ _ e in omega arith
short_by false c false day e = leb-true _ _ e

day_bounds : (year month day most : ℕ) → (leb 1 year && leb year 9999 && leb 1 month && leb month 12 && leb 1 day && leb day most) ≡ true →
    (year ≤ 9999) × (month ≤ 12) × (leb day most ≡ true)
day_bounds year month day most e =
    let a = and_parts (leb 1 year && leb year 9999 && leb 1 month && leb month 12 && leb 1 day) (leb day most) e in
    let b = and_parts (leb 1 year && leb year 9999 && leb 1 month && leb month 12) (leb 1 day) a.0 in
    let c = and_parts (leb 1 year && leb year 9999 && leb 1 month) (leb month 12) b.0 in
    let d = and_parts (leb 1 year && leb year 9999) (leb 1 month) c.0 in
    (leb-true year 9999 (and_parts (leb 1 year) (leb year 9999) d.0).1, leb-true month 12 c.1, a.1)

short_day : (year month day : ℕ) → is_day year month day ≡ true → (ltb year (2 ^ 16) && (ltb month 256 && ltb day 256)) ≡ true
short_day year month day e =
    let bounds = day_bounds year month day _ e in
    let few : year ≤ 9999 = bounds.0 in
    let twelve : month ≤ 12 = bounds.1 in
    let most : day ≤ 31 = short_by _ _ _ day bounds.2 in
    and_from (ltb year (2 ^ 16)) (ltb month 256 && ltb day 256) (lt-ltb year (2 ^ 16) (omega arith))
    (and_from (ltb month 256) (ltb day 256) (lt-ltb month 256 (omega arith)) (lt-ltb day 256 (omega arith)))

truth_of : (b : ℕ) → leb b 1 ≡ true → truth_byte (eqb b 1) ≡ b
truth_of zero e = refl
truth_of (suc zero) e = refl
truth_of (suc (suc b)) e = let le : suc (suc b) ≤ 1 = leb-true _ _ e in absurd (omega arith)

day_exact : IsExact (λ (d : ℕ × ℕ × ℕ). to_be_bytes w16 d.0 ++ d.1 ∷ d.2 ∷ []) (λ (d : ℕ × ℕ × ℕ). is_day d.0 d.1 d.2) day_at
unfolding day_at day_parts_at
day_exact = refit (tested_exact parts is_date) (λ d. is_day d.0 d.1 d.2)
    (λ d e. (and_parts (ltb d.0 (2 ^ 16) && (ltb d.1 256 && ltb d.2 256)) (is_day d.0 d.1 d.2) e).1)
    (λ d e. and_from _ _ (short_day d.0 d.1 d.2 e) e)
  where
    parts : IsExact (λ (d : ℕ × ℕ × ℕ). to_be_bytes w16 d.0 ++ d.1 ∷ d.2 ∷ []) (λ (d : ℕ × ℕ × ℕ). ltb d.0 (2 ^ 16) && (ltb d.1 256 && ltb d.2 256)) day_parts_at
    parts = named_exact (pair_exact (number_exact w16 (2 ^ 16) two_bytes) (pair_exact byte_exact byte_exact)) (λ d. (d.0, d.1.0, d.1.1)) (λ d. (d.0, (d.1, d.2))) (λ d. refl) (λ d. refl)

pub value_exact : IsExact value_field is_value value_at
unfolding value_at
value_exact = record {
  takes = kind_takes value_field is_value value_kinds (
    row_takes value_field is_value 1 text_exact values.Text (λ x e. refl) (λ x e. e),
    (
      row_takes value_field is_value 2 number (λ n. values.Int (cast_signed w64 n)) (λ n e. ap (λ k. 2 ∷ to_be_bytes w64 k) (of_z-to_z w64 n (ltb-true _ _ e))) signed_number,
      (
        row_takes value_field is_value 3 truth_exact (λ b. values.Bool (eqb b 1)) (λ b e. ap (λ k. 3 ∷ k ∷ []) (truth_of b e)) (λ b e. refl),
        (row_takes value_field is_value 4 day_exact values.Date (λ d e. refl) (λ d e. e), tt),
      ),
    ),
  );
  again = again;
}
  where
    number : IsExact (to_be_bytes w64) (λ n. ltb n (2 ^ 64)) (number_at w64)
    number = number_exact w64 (2 ^ 64) eight_bytes

    again : (x : Value) (rest : List ℕ) → is_value x ≡ true → value_at (value_field x ++ rest) ≡ Some (x, rest)
    again (values.Text text) rest e = named_again text_exact values.Text text rest e
    again (values.Int z) rest e =
        named_again number (λ n. values.Int (cast_signed w64 n)) (cast_unsigned w64 z) rest (unsigned_number z e) ∙ ap (λ k. Some (values.Int k, rest)) (to_z-of_z w64 z (number_fits z e))
    again (values.Bool true) rest e = named_again truth_exact (λ b. values.Bool (eqb b 1)) 1 rest refl
    again (values.Bool false) rest e = named_again truth_exact (λ b. values.Bool (eqb b 1)) 0 rest refl
    again (values.Date day) rest e = named_again day_exact values.Date day rest e

-- ---- rows

-- a count that is at most so much fits its bytes
fewer : (n limit most : ℕ) (all order : Bool) → most < limit → (leb n most && all && order) ≡ true → (ltb n limit && leb n most && all && order) ≡ true
fewer n limit most all order lt e =
    let outer = and_parts (leb n most && all) order e in
    let inner = and_parts (leb n most) all outer.0 in
    let few : n ≤ most = leb-true n most inner.0 in
    and_from (ltb n limit && leb n most && all) order
    (and_from (ltb n limit && leb n most) all (and_from (ltb n limit) (leb n most) (lt-ltb n limit (omega arith)) inner.0) inner.1) outer.1

few : (n limit most : ℕ) (all order : Bool) → (ltb n limit && leb n most && all && order) ≡ true → (leb n most && all && order) ≡ true
few n limit most all order e =
    let outer = and_parts (ltb n limit && leb n most && all) order e in
    let inner = and_parts (ltb n limit && leb n most) all outer.0 in
    and_from (leb n most && all) order (and_from (leb n most) all (and_parts (ltb n limit) (leb n most) inner.0).1 inner.1) outer.1

pub labels_exact : IsExact labels_field is_labels labels_at
unfolding labels_at
labels_exact = refit (tested_exact (counted_exact name_exact w16 (2 ^ 16) 64 two_bytes) (ascends (slice_cmp nat_cmp))) is_labels
    (λ labels e. few (length labels) (2 ^ 16) 64 (list_all is_name labels) (ascends (slice_cmp nat_cmp) labels) e)
    (λ labels e. fewer (length labels) (2 ^ 16) 64 (list_all is_name labels) (ascends (slice_cmp nat_cmp) labels) (omega arith) e)

pub property_exact : IsExact property_field is_property property_at
unfolding property_at
property_exact = pair_exact name_exact value_exact

pub props_exact : IsExact props_field is_props props_at
unfolding props_at
props_exact = refit (tested_exact (counted_exact property_exact w16 (2 ^ 16) 256 two_bytes) (λ props. ascends (slice_cmp nat_cmp) (keys_of props))) is_props
    (λ props e. few (length props) (2 ^ 16) 256 (list_all is_property props) (ascends (slice_cmp nat_cmp) (keys_of props)) e)
    (λ props e. fewer (length props) (2 ^ 16) 256 (list_all is_property props) (ascends (slice_cmp nat_cmp) (keys_of props)) (omega arith) e)

pub node_id_exact : IsExact node_id_field is_node_id node_id_at
unfolding node_id_at
node_id_exact = named_exact (number_exact w64 (2 ^ 64) eight_bytes) node_id (λ id. id.0) (λ id. refl) (λ n. refl)

pub edge_id_exact : IsExact edge_id_field is_edge_id edge_id_at
unfolding edge_id_at
edge_id_exact = named_exact (number_exact w64 (2 ^ 64) eight_bytes) edge_id (λ id. id.0) (λ id. refl) (λ n. refl)

pub node_row_exact : IsExact node_row_field is_node_row node_row_at
unfolding node_row_at
node_row_exact = named_exact (pair_exact labels_exact props_exact) (λ row. record { labels = row.0; props = row.1 }) (λ row. (row.labels, row.props)) (λ row. refl) (λ row. refl)

pub edge_row_exact : IsExact edge_row_field is_edge_row edge_row_at
unfolding edge_row_at
edge_row_exact = named_exact (pair_exact node_id_exact (pair_exact node_id_exact (pair_exact labels_exact props_exact)))
    (λ row. record { source = row.0; target = row.1.0; labels = row.1.1.0; props = row.1.1.1 }) (λ row. (row.source, (row.target, (row.labels, row.props)))) (λ row. refl) (λ row. refl)

pub node_exact : IsExact node_field is_node node_at
unfolding node_at
node_exact = pair_exact node_id_exact node_row_exact

pub edge_exact : IsExact edge_field is_edge edge_at
unfolding edge_at
edge_exact = pair_exact edge_id_exact edge_row_exact
