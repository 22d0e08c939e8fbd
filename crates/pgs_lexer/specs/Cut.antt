-- The cut of a text into items, and its tokens.
use Rattle.std.specs.Prelude.{◌≡◌, ℕ, zero, suc, ◌+◌, ◌-◌, ◌<◌, ◌≤◌, List, [], ◌∷◌, ◌++◌, length, take, drop, Some, None, Result, Ok, Err, count_by, map, slice_range, All}
use Rattle.pgs_base.specs.declared.text_limit.TheConstants.{TEXT_LIMIT}
use Rattle.pgs_lexer.specs.declared.item.Item.{Item}
use Rattle.pgs_lexer.specs.declared.token.Span.{Span}
use Rattle.pgs_lexer.specs.declared.fault.LexFault.{LexFault}
use Rattle.pgs_lexer.specs.declared.fault.LexFault.TheVariants.{Memory, Lex}
use Rattle.pgs_lexer.specs.Form.{IsLongestItem, BeginsNoItem, is_line_feed}
use Rattle.pgs_lexer.specs.Scan.{item_at}
use Rattle.pgs_lexer.specs.Token.{Lexeme, token_kind}

-- The text is these items, without gaps from its first byte, and then the rest. Each is the longest item that begins
-- at its place, and no item begins the rest, which is so of the empty rest too.
abbrev pub IsCut : List ℕ → List Item → List ℕ → Type 0
IsCut text [] rest = (text ≡ rest) × BeginsNoItem rest
IsCut text (item ∷ items) rest = IsLongestItem text item × IsCut (drop item.size text) items rest

-- the token that the item at the front is, as a list of one, where the text goes on from that place
abbrev pub token_here : ℕ → List ℕ → Item → List Lexeme
token_here place text item = elim (token_kind item.kind (take item.size text)) [
  | None ↦ []
  | Some kind ↦ record { kind = kind; start = place; end = place + item.size; bytes = take item.size text } ∷ []
]

-- the tokens among the items
abbrev pub tokens_among : ℕ → List ℕ → List Item → List Lexeme
tokens_among place text [] = []
tokens_among place text (item ∷ items) = token_here place text item ++ tokens_among (place + item.size) (drop item.size text) items

-- the number of the line on which a place of the text is, from 1
abbrev pub line_at : List ℕ → ℕ → ℕ
line_at text place = 1 + count_by is_line_feed (take place text)

-- What a cut tells: its tokens where it covers the text, else the line of the byte that begins no item.
abbrev pub told_by : List ℕ → List Item → List ℕ → Result (List Lexeme) ℕ
told_by text items [] = Ok (tokens_among 0 text items)
told_by text items (b ∷ rest) = Err (line_at text (length text - length (b ∷ rest)))

-- puts tokens in front of those that were read
abbrev pub with_front : List Lexeme → Result (List Lexeme) ℕ → Result (List Lexeme) ℕ
with_front front (Ok tokens) = Ok (front ++ tokens)
with_front front (Err place) = Err place

-- The tokens of what is left of a text from a place on, or the first place whose byte begins no item. So many bytes
-- of the item before are still to be passed over.
unfoldable pub tokens_from : ℕ → ℕ → List ℕ → Result (List Lexeme) ℕ
tokens_from passing place [] = Ok []
tokens_from (suc passing) place (a ∷ text) = tokens_from passing (place + 1) text
tokens_from zero place (a ∷ text) = elim (item_at (a ∷ text)) [
  | None ↦ Err place
  | Some item ↦ with_front (token_here place (a ∷ text) item) (tokens_from (item.size - 1) (place + 1) text)
]

-- names the line of a place
abbrev pub with_line : List ℕ → Result (List Lexeme) ℕ → Result (List Lexeme) ℕ
with_line text (Ok tokens) = Ok tokens
with_line text (Err place) = Err (line_at text place)

-- the tokens of a text, or the line of the first byte that begins no item
unfoldable pub tokens_of : List ℕ → Result (List Lexeme) ℕ
tokens_of text = with_line text (tokens_from 0 0 text)

-- The tokens are those of the one cut of the text, which covers it.
abbrev pub AreTokensOf : List ℕ → List Lexeme → Type 0
AreTokensOf text tokens = (items : List Item) × IsCut text items [] × (tokens ≡ tokens_among 0 text items)

-- The cut of the text ends at a byte that begins no item, on this line.
abbrev pub HasBadByteOn : List ℕ → ℕ → Type 0
HasBadByteOn text line = (items : List Item) × (rest : List ℕ) × IsCut text items rest × (0 < length rest)
    × (line ≡ line_at text (length text - length rest))

-- What a call gave is what the text has, unless there was no memory.
abbrev pub Refuses : LexFault → Result (List Lexeme) ℕ → Type 0
Refuses Memory told = Unit {0}
Refuses (Lex line) told = told ≡ Err line

abbrev pub Gives : {X : Type 0} → (X → List Lexeme) → Result X LexFault → Result (List Lexeme) ℕ → Type 0
Gives seen (Ok tokens) told = told ≡ Ok (seen tokens)
Gives seen (Err fault) told = Refuses fault told

-- the token at a span of a text
abbrev pub lexeme : List ℕ → Span → Lexeme
lexeme text span = record { kind = span.kind; start = span.start; end = span.end; bytes = slice_range text span.start span.end }

abbrev pub lexemes : List ℕ → List Span → List Lexeme
lexemes text spans = map (lexeme text) spans

-- the spans are those of all tokens of the text
pub record AreSpansOf (text : List ℕ) (spans : List Span) : Type 0 where
  pub short : length text ≤ TEXT_LIMIT
  pub whole : tokens_of text ≡ Ok (lexemes text spans)

-- each token begins at the place or after it, and where the one before it ends or after that
abbrev pub AreInOrderFrom : ℕ → List Lexeme → Type 0
AreInOrderFrom place [] = Unit {0}
AreInOrderFrom place (token ∷ tokens) = (place ≤ token.start) × AreInOrderFrom token.end tokens

abbrev pub AreInOrder : List Lexeme → Type 0
AreInOrder tokens = AreInOrderFrom 0 tokens

-- the token is what the text has at its span, which isn't empty
abbrev pub IsPartOf : List ℕ → Lexeme → Type 0
IsPartOf text token = (token.start < token.end) × (token.end ≤ length text) × (token.bytes ≡ slice_range text token.start token.end)

-- the tokens are all those of some text of at most TEXT_LIMIT bytes, and parts of it
abbrev pub IsFromText : List Lexeme → Type 0
IsFromText tokens = (text : List ℕ) × (length text ≤ TEXT_LIMIT) × (tokens_of text ≡ Ok tokens) × All (IsPartOf text) tokens
