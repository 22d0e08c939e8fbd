-- The forms of items. `IsItem kind front rest` says that bytes are an item of a kind where `rest` follows them:
-- only a word and a string look at what follows. The longest item at the front of a text is the one that counts.
use Rattle.std.specs.Prelude.{◌≡◌, ℕ, ◌<◌, ◌≤◌, Bool, true, false, not, ◌||◌, List, [], ◌∷◌, ◌++◌, length, take, drop, ◌==◌, ◌⊎◌, if◌then◌else◌, bytes_eq, flat_map, codes, encode_utf8, encode_utf8_all}
use Rattle.std.specs.List.{list_all, list_any}
use Rattle.std.specs.Str.{all_scalars}
use Rattle.pgs_base.specs.Name.{is_between, is_name, is_name_byte}
use Rattle.pgs_lexer.specs.declared.item.Item.{Item}
use Rattle.pgs_lexer.specs.declared.item.ItemKind.{ItemKind}
use Rattle.pgs_lexer.specs.declared.item.ItemKind.TheVariants.{Space, Comment, Word, Quoted, Number, Text, Sign}

-- a space, a tab, a line feed or a carriage return
abbrev pub is_space : ℕ → Bool
is_space b = b == 32 || b == 9 || b == 10 || b == 13

abbrev pub is_line_feed : ℕ → Bool
is_line_feed b = b == 10

abbrev pub is_digit : ℕ → Bool
is_digit = is_between 48 57

abbrev pub is_quote : ℕ → Bool
is_quote b = b == 39

-- whether the first of the bytes passes the test
abbrev pub begins_with : (ℕ → Bool) → List ℕ → Bool
begins_with test [] = false
begins_with test (b ∷ bs) = test b

-- whether no character is a line feed
abbrev pub is_line : List ℕ → Bool
is_line cs = list_all (λ c. not (is_line_feed c)) cs

-- one byte: a row of them is a row of items
abbrev pub IsSpace : List ℕ → Type 0
IsSpace front = (b : ℕ) × (is_space b ≡ true) × (front ≡ b ∷ [])

-- two slashes, then characters other than a line feed
abbrev pub IsComment : List ℕ → Type 0
IsComment front = (cs : List ℕ) × (all_scalars cs ≡ true) × (is_line cs ≡ true) × (front ≡ 47 ∷ 47 ∷ encode_utf8_all cs)

-- a name, which no further byte of a name follows
abbrev pub IsWord : List ℕ → List ℕ → Type 0
IsWord front rest = (is_name front ≡ true) × (begins_with is_name_byte rest ≡ false)

-- a name between backquotes
abbrev pub IsQuoted : List ℕ → Type 0
IsQuoted front = (name : List ℕ) × (is_name name ≡ true) × (front ≡ 96 ∷ name ++ 96 ∷ [])

-- digits, one or more, and maybe a minus sign before them
abbrev pub IsNumber : List ℕ → Type 0
IsNumber front = (digits : List ℕ) × (0 < length digits) × (list_all is_digit digits ≡ true) × ((front ≡ digits) ⊎ (front ≡ 45 ∷ digits))

-- a character as it is written in a string: a quote is written twice
abbrev pub written : ℕ → List ℕ
written c = if is_quote c then 39 ∷ 39 ∷ [] else encode_utf8 c

-- characters other than a line feed, as they are written, between two quotes, where no quote follows
abbrev pub IsString : List ℕ → List ℕ → Type 0
IsString front rest = (cs : List ℕ) × (all_scalars cs ≡ true) × (is_line cs ≡ true)
    × (front ≡ 39 ∷ flat_map written cs ++ 39 ∷ []) × (begins_with is_quote rest ≡ false)

abbrev pub signs : List (List ℕ)
signs = codes "(" ∷ codes ")" ∷ codes "[" ∷ codes "]" ∷ codes "{" ∷ codes "}" ∷ codes ":" ∷ codes "," ∷ codes ";"
    ∷ codes "." ∷ codes "&" ∷ codes "|" ∷ codes "?" ∷ codes "-" ∷ codes "->" ∷ codes "<-" ∷ codes ".." ∷ []

abbrev pub IsSign : List ℕ → Type 0
IsSign front = list_any (bytes_eq front) signs ≡ true

abbrev pub IsItem : ItemKind → List ℕ → List ℕ → Type 0
IsItem Space front rest = IsSpace front
IsItem Comment front rest = IsComment front
IsItem Word front rest = IsWord front rest
IsItem Quoted front rest = IsQuoted front
IsItem Number front rest = IsNumber front
IsItem Text front rest = IsString front rest
IsItem Sign front rest = IsSign front

-- the item is at the front of the text
abbrev pub IsAtFront : Item → List ℕ → Type 0
IsAtFront item text = (item.size ≤ length text) × IsItem item.kind (take item.size text) (drop item.size text)

-- and no longer one is
pub record IsLongestItem (text : List ℕ) (item : Item) : Type 0 where
  pub here : IsAtFront item text
  pub longest : (other : Item) → IsAtFront other text → other.size ≤ item.size

-- the first byte begins no item
abbrev pub BeginsNoItem : List ℕ → Type 0
BeginsNoItem text = (item : Item) → IsAtFront item text → ⊥
