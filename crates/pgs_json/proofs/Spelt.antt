-- A text that spells JSON data: the crate reads it as this data. Lists and objects are spelt by their parts.
use Rattle.std.proofs.Common.{◌≡◌, ℕ, suc, ◌^◌, ◌<◌, ◌≤◌, negsuc, Bool, true, false, ◌&&◌, List, [], ◌∷◌, ◌++◌, map, flat_map, Option, Some, option_map, option_and_then, decimal, IsUtf8, inl, inr, refl, sym, ap, ap₂, ◌∙◌, subst, arith, append_assoc, append-nil}
use Rattle.std.specs.Prelude.{codes}
use Rattle.std.specs.Fmt.{signed_decimal}
use Rattle.std.specs.List.{join_with_byte}
use Rattle.std.specs.Str.Parse.{AllDigits}
use Rattle.std.specs.Char.{digit_value}
use Rattle.std.proofs.lemmas.Bool.{cases_eq, ne_eqb, lt-ltb}
use Rattle.std.proofs.lemmas.Bool.Decides.{nat_tests}
use Rattle.std.proofs.lemmas.Fmt.{decimal_is_IsNumeral}
use Rattle.std.proofs.lemmas.Str.{IsUtf8-append, IsUtf8-nil}
use Rattle.json.specs.Json as json
use Rattle.json.specs.Tree as tree
use Rattle.json.specs.Tree.{HasNumbers, ItemsHaveNumbers, MembersHaveNumbers}
use Rattle.json.specs.Lex.{tokens}
use Rattle.json.specs.Token.{Token}
use Rattle.json.specs.Print.{escape_byte, escape_letter, escape}
use Rattle.json.specs.Print as print
use Rattle.json.proofs.Printed.Decimals.{IsNumber-decimal, IsNumber-signed_decimal}
use Rattle.json.proofs.Printed.Tokens.{tokens-print}
use Rattle.json.proofs.Printed.Trees.{value-json_tokens, ArePrintable-json_tokens}
use Rattle.json.proofs.Printed.Utf8.{IsUtf8-are_ascii, IsUtf8-quoted}
use Rattle.serde_json.specs.Data.{Data, unsigned, negative, boolean, number, string, array, object, Items, no_items, item, Members, no_members, member, put}
use Rattle.serde_json.specs.Read.{of_json, of_items, of_members, read, max_depth}
use Rattle.serde_json.specs.View.{items_of}
use Rattle.serde_json.specs.Written.{outline, items_outline, members_outline, compact_text, items_text, members_text}
use Rattle.serde_json.proofs.Numbers.{number_of-decimal, number_of-negative}
use Rattle.serde_json.proofs.Texts.{print-outline}
use Rattle.pgs_base_text.specs.Text.{escaped, quoted, truth_text}
use Rattle.pgs_json.specs.Canonical.{list_text, object_text, member_text}
use Rattle.pgs_json.specs.Pieces.{further}
use Rattle.pgs_json.proofs.Joined.{joined}

-- the text is that of a tree, which nests so deep at most and is read as the data
pub record Spelt (text : List ℕ) (d : Data) (levels : ℕ) : Type 0 where
  tree_of : Data
  written : text ≡ compact_text tree_of
  numbers : HasNumbers (outline tree_of)
  shallow : tree.depth (outline tree_of) ≤ levels
  made : of_json (outline tree_of) ≡ Some d
  pub utf8 : IsUtf8 text

abbrev whole : Option (json.Json × List Token) → Option Data
whole o = option_and_then of_json (option_and_then (λ p. json.if_last p.0 p.1) o)

read_tree : (d : Data) → HasNumbers (outline d) → tree.depth (outline d) ≤ 127 → read (compact_text d) ≡ of_json (outline d)
read_tree d numbers shallow =
    let j = outline d in
    let lexed : tokens (compact_text d) ≡ tree.json_tokens j =
    ap tokens (sym (print-outline d)) ∙ tokens-print (tree.json_tokens j) (ArePrintable-json_tokens j numbers) in
    ap whole (ap (json.value max_depth) (lexed ∙ sym (append-nil (tree.json_tokens j))) ∙ value-json_tokens j max_depth [] shallow)

pub read_spelt : (text : List ℕ) (d : Data) → Spelt text d 127 → read text ≡ Some d
read_spelt text d s = ap read s.written ∙ read_tree s.tree_of s.numbers s.shallow ∙ s.made

pub deeper : (text : List ℕ) (d : Data) (n m : ℕ) → Spelt text d n → n ≤ m → Spelt text d m
deeper text d n m s h =
    record { tree_of = s.tree_of; written = s.written; numbers = s.numbers; shallow = omega (arith, s.shallow); made = s.made; utf8 = s.utf8 }

pub respelt : (text other : List ℕ) (d : Data) (n : ℕ) → other ≡ text → Spelt text d n → Spelt other d n
respelt text other d n e s = subst (λ t. Spelt t d n) (sym e) s

-- ---- strings

escaped_same : (b : ℕ) → escaped b ≡ escape_byte b
unfolding escape_byte
escaped_same b = elim (cases_eq b 34) [
  | inl e ↦ rw e refl
  | inr quote ↦ elim (cases_eq b 92) [
    | inl e ↦ rw e refl
    | inr backslash ↦ elim (cases_eq b 8) [
      | inl e ↦ rw e refl
      | inr bell ↦ elim (cases_eq b 9) [
        | inl e ↦ rw e refl
        | inr tab ↦ elim (cases_eq b 10) [
          | inl e ↦ rw e refl
          | inr feed ↦ elim (cases_eq b 12) [
            | inl e ↦ rw e refl
            | inr form ↦ elim (cases_eq b 13) [
              | inl e ↦ rw e refl
              | inr return ↦ rw (ne_eqb b 34 quote, ne_eqb b 92 backslash, ne_eqb b 8 bell, ne_eqb b 9 tab, ne_eqb b 10 feed, ne_eqb b 12 form, ne_eqb b 13 return) refl
            ]
          ]
        ]
      ]
    ]
  ]
]

all_escaped : (bs : List ℕ) → flat_map escaped bs ≡ escape bs
all_escaped [] = refl
all_escaped (b ∷ bs) = ap₂ (λ (x y : List ℕ). x ++ y) (escaped_same b) (all_escaped bs)

pub quoted_same : (s : List ℕ) → quoted s ≡ print.quoted s
unfolding quoted
quoted_same s = ap (λ (l : List ℕ). 34 ∷ (l ++ 34 ∷ [])) (all_escaped s)

pub quoted_utf8 : (s : List ℕ) → IsUtf8 s → IsUtf8 (quoted s)
quoted_utf8 s u = subst IsUtf8 (sym (quoted_same s)) (IsUtf8-quoted s u)

pub spelt_string : (s : List ℕ) → IsUtf8 s → Spelt (quoted s) (string s) 0
spelt_string s u =
    record { tree_of = string s; written = quoted_same s; numbers = tt; shallow = omega arith; made = refl; utf8 = quoted_utf8 s u }

-- ---- numbers and truth values

digit_ascii : (d : ℕ) → digit_value d < 10 → d < 128
digit_ascii d h = grind (arith, nat_tests)

digits_utf8 : (ds : List ℕ) → AllDigits 10 ds → IsUtf8 ds
digits_utf8 [] h = IsUtf8-nil
digits_utf8 (d ∷ ds) h =
    IsUtf8-append (d ∷ []) ds (IsUtf8-are_ascii (d ∷ []) (ap (λ (b : Bool). b && true) (lt-ltb d 128 (digit_ascii d h.0)))) (digits_utf8 ds h.1)

pub decimal_utf8 : (n : ℕ) → n < 2 ^ 64 → IsUtf8 (decimal n)
decimal_utf8 n h = digits_utf8 (decimal n) (decimal_is_IsNumeral n h).0.1

pub spelt_number : (n : ℕ) → n < 2 ^ 64 → Spelt (decimal n) (number (unsigned n)) 0
spelt_number n h = record {
  tree_of = number (unsigned n);
  written = refl;
  numbers = IsNumber-decimal n h;
  shallow = omega arith;
  made = ap (option_map number) (number_of-decimal n h);
  utf8 = decimal_utf8 n h;
}

pub spelt_negative : (n : ℕ) → n < 2 ^ 63 → Spelt (signed_decimal (negsuc n)) (number (negative (negsuc n))) 0
spelt_negative n h = record {
  tree_of = number (negative (negsuc n));
  written = refl;
  numbers = IsNumber-signed_decimal (negsuc n) h;
  shallow = omega arith;
  made = ap (option_map number) (number_of-negative n h);
  utf8 = IsUtf8-append (45 ∷ []) _ (IsUtf8-are_ascii (45 ∷ []) refl) (decimal_utf8 (suc n) (omega arith));
}

pub spelt_truth : (b : Bool) → Spelt (truth_text b) (boolean b) 0
spelt_truth true =
    record { tree_of = boolean true; written = refl; numbers = tt; shallow = omega arith; made = refl; utf8 = IsUtf8-are_ascii (codes "true") refl }
spelt_truth false =
    record { tree_of = boolean false; written = refl; numbers = tt; shallow = omega arith; made = refl; utf8 = IsUtf8-are_ascii (codes "false") refl }

-- ---- lists

module _ {A : Type 0} (text : A → List ℕ) (data_of : A → Data) (levels : ℕ) where
  abbrev pub AllSpelt : List A → Type 0
  AllSpelt [] = Unit {0}
  AllSpelt (x ∷ xs) = Spelt (text x) (data_of x) levels × AllSpelt xs

  record SpeltItems (xs : List A) : Type 0 where
    items_of_it : Items
    written : flat_map (further text) xs ++ 93 ∷ [] ≡ items_text true items_of_it
    numbers : ItemsHaveNumbers (items_outline items_of_it)
    shallow : tree.items_depth (items_outline items_of_it) ≤ levels
    made : of_items (items_outline items_of_it) ≡ Some (items_of (map data_of xs))
    utf8 : IsUtf8 (flat_map (further text) xs)

  item_made : (t : Data) (ts : Items) (d : Data) (ds : Items) → of_json (outline t) ≡ Some d → of_items (items_outline ts) ≡ Some ds
      → of_items (items_outline (item t ts)) ≡ Some (item d ds)
  item_made t ts d ds e f = rw (e, f) refl

  spelt_items : (xs : List A) → AllSpelt xs → SpeltItems xs
  spelt_items [] all =
      record { items_of_it = no_items; written = refl; numbers = tt; shallow = omega arith; made = refl; utf8 = IsUtf8-nil }
  spelt_items (x ∷ xs) all =
      let first = all.0 in
      let rest = spelt_items xs all.1 in
      record {
        items_of_it = item first.tree_of rest.items_of_it;
        written =
            ap (λ (l : List ℕ). 44 ∷ l) (append_assoc (text x) (flat_map (further text) xs) (93 ∷ []) ∙ ap₂ (λ (a b : List ℕ). a ++ b) first.written rest.written);
        numbers = (first.numbers, rest.numbers);
        shallow = omega (arith, first.shallow, rest.shallow);
        made = item_made first.tree_of rest.items_of_it _ _ first.made rest.made;
        utf8 = IsUtf8-append (44 ∷ []) _ (IsUtf8-are_ascii (44 ∷ []) refl) (IsUtf8-append (text x) _ first.utf8 rest.utf8);
      }

  pub spelt_list : (xs : List A) → AllSpelt xs → Spelt (list_text (map text xs)) (array (items_of (map data_of xs))) (suc levels)
  spelt_list [] all = record {
    tree_of = array no_items;
    written = refl;
    numbers = tt;
    shallow = omega arith;
    made = refl;
    utf8 = IsUtf8-are_ascii (codes "[]") refl;
  }
  spelt_list (x ∷ xs) all =
      let first = all.0 in
      let rest = spelt_items xs all.1 in
      let listed_text : list_text (map text (x ∷ xs)) ≡ 91 ∷ ((text x ++ flat_map (further text) xs) ++ 93 ∷ []) =
      ap (λ (l : List ℕ). 91 ∷ (l ++ 93 ∷ [])) (joined text (x ∷ xs)) in
      record {
        tree_of = array (item first.tree_of rest.items_of_it);
        written =
            listed_text
            ∙ ap (λ (l : List ℕ). 91 ∷ l) (append_assoc (text x) (flat_map (further text) xs) (93 ∷ []) ∙ ap₂ (λ (a b : List ℕ). a ++ b) first.written rest.written);
        numbers = (first.numbers, rest.numbers);
        shallow = omega (arith, first.shallow, rest.shallow);
        made = ap (option_map array) (item_made first.tree_of rest.items_of_it _ _ first.made rest.made);
        utf8 = subst IsUtf8 (sym listed_text)
            (IsUtf8-append (91 ∷ []) _ (IsUtf8-are_ascii (91 ∷ []) refl)
            (IsUtf8-append _ (93 ∷ []) (IsUtf8-append (text x) _ first.utf8 rest.utf8) (IsUtf8-are_ascii (93 ∷ []) refl)));
      }

-- ---- objects: members in the order in which they are written, each put in after those before it

module _ {A : Type 0} (name : A → List ℕ) (text : A → List ℕ) (data_of : A → Data) (levels : ℕ) where
  abbrev pub put_each : List A → Members → Members
  put_each [] found = found
  put_each (x ∷ xs) found = put_each xs (put (name x) (data_of x) found)

  abbrev pub AllSpeltAt : List A → Type 0
  AllSpeltAt [] = Unit {0}
  AllSpeltAt (x ∷ xs) = (IsUtf8 (name x) × Spelt (text x) (data_of x) levels) × AllSpeltAt xs

  abbrev pub named_text : A → List ℕ × List ℕ
  named_text x = (name x, text x)

  abbrev entry_text : A → List ℕ
  entry_text x = quoted (name x) ++ 58 ∷ text x

  record SpeltMembers (xs : List A) : Type 0 where
    members_of_it : Members
    written : flat_map (further entry_text) xs ++ 125 ∷ [] ≡ members_text true members_of_it
    numbers : MembersHaveNumbers (members_outline members_of_it)
    shallow : tree.members_depth (members_outline members_of_it) ≤ levels
    made : (found : Members) → of_members (members_outline members_of_it) found ≡ Some (put_each xs found)
    utf8 : IsUtf8 (flat_map (further entry_text) xs)

  member_made : (k : List ℕ) (t : Data) (ts : Members) (d : Data) (found after : Members) → of_json (outline t) ≡ Some d
      → of_members (members_outline ts) (put k d found) ≡ Some after → of_members (members_outline (member k t ts)) found ≡ Some after
  member_made k t ts d found after e f = rw e f

  entry_pieces : (q q' t t' r e : List ℕ) (r' : List ℕ) → q ≡ q' → t ≡ t' → r ++ e ≡ r' → ((q ++ 58 ∷ t) ++ r) ++ e ≡ q' ++ 58 ∷ (t' ++ r')
  entry_pieces q q' t t' r e r' p s u =
      append_assoc (q ++ 58 ∷ t) r e ∙ append_assoc q (58 ∷ t) (r ++ e) ∙ ap₂ (λ (a b : List ℕ). a ++ b) p (ap₂ (λ (a b : List ℕ). 58 ∷ (a ++ b)) s u)

  entry_utf8 : (x : A) → IsUtf8 (name x) → IsUtf8 (text x) → IsUtf8 (entry_text x)
  entry_utf8 x n t = IsUtf8-append (quoted (name x)) _ (quoted_utf8 (name x) n) (IsUtf8-append (58 ∷ []) _ (IsUtf8-are_ascii (58 ∷ []) refl) t)

  spelt_members : (xs : List A) → AllSpeltAt xs → SpeltMembers xs
  spelt_members [] all =
      record { members_of_it = no_members; written = refl; numbers = tt; shallow = omega arith; made = λ found. refl; utf8 = IsUtf8-nil }
  spelt_members (x ∷ xs) all =
      let first = all.0.1 in
      let rest = spelt_members xs all.1 in
      record {
        members_of_it = member (name x) first.tree_of rest.members_of_it;
        written = ap (λ (l : List ℕ). 44 ∷ l)
            (entry_pieces (quoted (name x)) _ (text x) _ (flat_map (further entry_text) xs) (125 ∷ []) _ (quoted_same (name x)) first.written rest.written);
        numbers = (first.numbers, rest.numbers);
        shallow = omega (arith, first.shallow, rest.shallow);
        made = λ found. member_made (name x) first.tree_of rest.members_of_it (data_of x) found _ first.made (rest.made (put (name x) (data_of x) found));
        utf8 = IsUtf8-append (44 ∷ []) _ (IsUtf8-are_ascii (44 ∷ []) refl) (IsUtf8-append (entry_text x) _ (entry_utf8 x all.0.0 first.utf8) rest.utf8);
      }

  two_maps : (xs : List A) → map member_text (map named_text xs) ≡ map entry_text xs
  two_maps [] = refl
  two_maps (x ∷ xs) = ap (λ (l : List (List ℕ)). entry_text x ∷ l) (two_maps xs)

  pub spelt_object : (xs : List A) → AllSpeltAt xs → Spelt (object_text (map named_text xs)) (object (put_each xs no_members)) (suc levels)
  spelt_object [] all = record {
    tree_of = object no_members;
    written = refl;
    numbers = tt;
    shallow = omega arith;
    made = refl;
    utf8 = IsUtf8-are_ascii (codes "{}") refl;
  }
  spelt_object (x ∷ xs) all =
      let first = all.0.1 in
      let rest = spelt_members xs all.1 in
      let listed_text : object_text (map named_text (x ∷ xs)) ≡ 123 ∷ ((entry_text x ++ flat_map (further entry_text) xs) ++ 125 ∷ []) =
      ap (λ (l : List ℕ). 123 ∷ (l ++ 125 ∷ [])) (ap (join_with_byte 44) (two_maps (x ∷ xs)) ∙ joined entry_text (x ∷ xs)) in
      record {
        tree_of = object (member (name x) first.tree_of rest.members_of_it);
        written = listed_text
            ∙ ap (λ (l : List ℕ). 123 ∷ l)
            (entry_pieces (quoted (name x)) _ (text x) _ (flat_map (further entry_text) xs) (125 ∷ []) _ (quoted_same (name x)) first.written rest.written);
        numbers = (first.numbers, rest.numbers);
        shallow = omega (arith, first.shallow, rest.shallow);
        made = ap (option_map object)
            (member_made (name x) first.tree_of rest.members_of_it (data_of x) no_members _ first.made (rest.made (put (name x) (data_of x) no_members)));
        utf8 = subst IsUtf8 (sym listed_text)
            (IsUtf8-append (123 ∷ []) _ (IsUtf8-are_ascii (123 ∷ []) refl)
            (IsUtf8-append _ (125 ∷ []) (IsUtf8-append (entry_text x) _ (entry_utf8 x all.0.0 first.utf8) rest.utf8) (IsUtf8-are_ascii (125 ∷ []) refl)));
      }
