-- The longest item at the front of bytes, found by their first bytes. That it is the longest one by its form
-- is the law `longest_item`.
use Rattle.std.specs.Prelude.{ℕ, ◌+◌, Bool, not, ◌&&◌, ◌||◌, List, [], ◌∷◌, take, drop, ◌==◌, if◌then◌else◌, Option, Some, None, option_map, codes}
use Rattle.std.specs.List.{list_any, prefix_len}
use Rattle.std.specs.Option.{option_and_then}
use Rattle.std.specs.Str.{is_utf8}
use Rattle.std.specs.Str.Lossy.{utf8_valid_len}
use Rattle.pgs_base.specs.Name.{is_name, is_name_start, is_name_byte}
use Rattle.pgs_lexer.specs.declared.item.Item.{Item}
use Rattle.pgs_lexer.specs.declared.item.ItemKind.{ItemKind}
use Rattle.pgs_lexer.specs.declared.item.ItemKind.TheVariants.{Space, Comment, Word, Quoted, Number, Text, Sign}
use Rattle.pgs_lexer.specs.Form.{begins_with, is_space, is_line_feed, is_digit, is_quote}

-- A function that ends in `_size` gives the size of the longest item of that kind at the front, or none.

abbrev pub space_size : List ℕ → Option ℕ
space_size text = if begins_with is_space text then Some 1 else None

-- how many bytes there are before the first line feed, or in all
abbrev pub line_len : List ℕ → ℕ
line_len text = prefix_len (λ b. not (is_line_feed b)) text

-- how many bytes of UTF-8 characters other than a line feed come first
abbrev pub comment_len : List ℕ → ℕ
comment_len text = utf8_valid_len (take (line_len text) text)

abbrev pub comment_size : List ℕ → Option ℕ
comment_size [] = None
comment_size (a ∷ []) = None
comment_size (a ∷ b ∷ text) = if a == 47 && b == 47 then Some (2 + comment_len text) else None

-- how many bytes of a name come first
abbrev pub name_len : List ℕ → ℕ
name_len text = prefix_len is_name_byte text

abbrev pub word_size : List ℕ → Option ℕ
word_size text = if is_name (take (name_len text) text) then Some (name_len text) else None

abbrev pub is_backquote : ℕ → Bool
is_backquote b = b == 96

abbrev pub quoted_size : List ℕ → Option ℕ
quoted_size [] = None
quoted_size (a ∷ text) =
    if is_backquote a && is_name (take (name_len text) text) && begins_with is_backquote (drop (name_len text) text)
    then Some (2 + name_len text)
    else None

-- how many digits come first
abbrev pub digits_len : List ℕ → ℕ
digits_len text = prefix_len is_digit text

abbrev pub digits_size : List ℕ → Option ℕ
digits_size text = if digits_len text == 0 then None else Some (digits_len text)

abbrev pub is_minus : ℕ → Bool
is_minus b = b == 45

abbrev pub number_size : List ℕ → Option ℕ
number_size [] = None
number_size (a ∷ text) = if is_minus a then option_map (λ n. 1 + n) (digits_size text) else digits_size (a ∷ text)

-- how many bytes come before the first quote that no other follows, on the same line, where pairs of quotes are passed over
abbrev pub closing : List ℕ → Option ℕ
closing [] = None
closing (a ∷ []) = if is_quote a then Some 0 else None
closing (a ∷ b ∷ text) =
    if is_line_feed a then None
    else (if not (is_quote a) then option_map (λ n. 1 + n) (closing (b ∷ text))
    else (if is_quote b then option_map (λ n. 2 + n) (closing text)
    else Some 0))

-- the size of a string with so many bytes between its quotes, which have to be UTF-8
abbrev pub closed_size : List ℕ → ℕ → Option ℕ
closed_size text n = if is_utf8 (take n text) then Some (2 + n) else None

abbrev pub string_size : List ℕ → Option ℕ
string_size [] = None
string_size (a ∷ text) = if is_quote a then option_and_then (closed_size text) (closing text) else None

-- a sign of one byte
abbrev pub is_sign : ℕ → Bool
is_sign b = list_any (λ sign. b == sign) (codes "()[]{}:,;.&|?-")

-- a sign of two bytes: `->`, `<-` or `..`
abbrev pub is_long_sign : ℕ → ℕ → Bool
is_long_sign a b = (a == 45 && b == 62) || (a == 60 && b == 45) || (a == 46 && b == 46)

abbrev pub short_sign_size : ℕ → Option ℕ
short_sign_size a = if is_sign a then Some 1 else None

abbrev pub sign_size : List ℕ → Option ℕ
sign_size [] = None
sign_size (a ∷ []) = short_sign_size a
sign_size (a ∷ b ∷ text) = if is_long_sign a b then Some 2 else short_sign_size a

-- the only kind of item that the first bytes may begin
abbrev pub kind_begun : ℕ → List ℕ → ItemKind
kind_begun a text =
    if is_space a then Space
    else (if is_name_start a then Word
    else (if is_digit a || (is_minus a && begins_with is_digit text) then Number
    else (if a == 47 then Comment
    else (if is_backquote a then Quoted
    else (if is_quote a then Text
    else Sign)))))

abbrev pub size_of : ItemKind → List ℕ → Option ℕ
size_of Space text = space_size text
size_of Comment text = comment_size text
size_of Word text = word_size text
size_of Quoted text = quoted_size text
size_of Number text = number_size text
size_of Text text = string_size text
size_of Sign text = sign_size text

-- the item of these kind and size
abbrev pub item_of : ItemKind → ℕ → Item
item_of kind size = record { kind = kind; size = size }

-- the longest item at the front, or none where the first byte begins no item
unfoldable pub item_at : List ℕ → Option Item
item_at [] = None
item_at (a ∷ text) = let kind = kind_begun a text in option_map (item_of kind) (size_of kind (a ∷ text))
