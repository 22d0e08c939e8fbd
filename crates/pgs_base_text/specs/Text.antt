-- How values are printed. Numbers are plain decimals.
use Rattle.std.specs.Prelude.{ℕ, ◌/◌, ◌%◌, Bool, true, false, not, ◌&&◌, List, [], ◌∷◌, ◌++◌, flat_map, nat_le, nat_lt, ◌==◌, if◌then◌else◌, codes, decimal}
use Rattle.std.specs.Char.{digit_char}
use Rattle.std.specs.Fmt.{signed_decimal}
use Rattle.pgs_base.specs.declared.element.Elem.{Elem}
use Rattle.pgs_base.specs.declared.element.Elem.TheVariants.{Node, Edge}
use Rattle.pgs_base.specs.declared.part.Part.{Part}
use Rattle.pgs_base.specs.declared.part.Part.TheVariants as parts
use Rattle.pgs_base.specs.declared.value.Value.TheVariants as values

-- a byte inside a quoted text; hexadecimal digits are lower-case
abbrev pub escaped : ℕ → List ℕ
escaped b =
    if b == 34 then codes "\\\""
    else (if b == 92 then codes "\\\\"
    else (if b == 8 then codes "\\b"
    else (if b == 9 then codes "\\t"
    else (if b == 10 then codes "\\n"
    else (if b == 12 then codes "\\f"
    else (if b == 13 then codes "\\r"
    else (if nat_lt b 32 then codes "\\u00" ++ digit_char (b / 16) ∷ digit_char (b % 16) ∷ []
    else b ∷ [])))))))

-- a byte that stands in a quoted text as it is
abbrev pub is_plain : ℕ → Bool
is_plain b = nat_le 32 b && (not (b == 34) && not (b == 92))

-- a text as a JSON string
unfoldable pub quoted : List ℕ → List ℕ
quoted text = codes "\"" ++ (flat_map escaped text ++ codes "\"")

abbrev pub two_digits : ℕ → List ℕ
two_digits n = digit_char (n / 10) ∷ digit_char (n % 10) ∷ []

-- a day as `2024-02-29`
abbrev pub day_text : ℕ × ℕ × ℕ → List ℕ
day_text day =
    two_digits (day.0 / 100) ++ (two_digits (day.0 % 100) ++ (codes "-" ++ (two_digits day.1 ++ (codes "-" ++ two_digits day.2))))

abbrev pub truth_text : Bool → List ℕ
truth_text true = codes "true"
truth_text false = codes "false"

-- `n1` and `e1`
abbrev pub elem_text : Elem → List ℕ
elem_text (Node id) = codes "n" ++ decimal id.0
elem_text (Edge id) = codes "e" ++ decimal id.0

-- a part of a tuple
abbrev pub part_text : Part → List ℕ
part_text (parts.Value (values.Text text)) = quoted text
part_text (parts.Value (values.Int number)) = signed_decimal number
part_text (parts.Value (values.Bool truth)) = truth_text truth
part_text (parts.Value (values.Date day)) = day_text day
part_text (parts.Elem elem) = elem_text elem

-- a part that follows another
abbrev pub further_part : Part → List ℕ
further_part part = codes ", " ++ part_text part

abbrev pub parts_text : List Part → List ℕ
parts_text [] = []
parts_text (part ∷ parts) = part_text part ++ flat_map further_part parts

-- a tuple as `(1, n4)`
unfoldable pub tuple_text : List Part → List ℕ
tuple_text tuple = codes "(" ++ (parts_text tuple ++ codes ")")
