-- The texts of the parts of keys: of the places of the written descriptor, and of the expressions.
use Rattle.std.specs.Prelude.{ℕ, Bool, true, false, ◌||◌, ◌+◌, List, [], ◌∷◌, ◌++◌, map, take, drop, slice_get, unwrap_or, option_and_then, if◌then◌else◌, bytes_eq, codes, ◌==◌}
use Rattle.std.specs.List.{position, position_or_len}
use Rattle.pgs_lexer.specs.Token.{Lexeme}
use Rattle.pgs_lexer.specs.declared.kind.TokenKind.{TokenKind}
use Rattle.pgs_lexer.specs.declared.kind.TokenKind.TheVariants as kinds
use Rattle.pgs_syntax.specs.declared.raw.RawKey.{RawKey}
use Rattle.pgs_syntax.specs.declared.script.Script.{Script}
use Rattle.pgs_resolve_declared.specs.Declarations.{keys_of}
use Rattle.pgs_schema_places.specs.declared.parts.Mark.{Mark}
use Rattle.pgs_schema_places.specs.declared.parts.Mark.TheVariants.{Close, Within, Comma}
use Rattle.pgs_schema_places.specs.declared.parts.PartTexts.{PartTexts}
use Rattle.pgs_schema_places.specs.KeyTexts.{key_tokens, text_of, place_of, guard_keys}

-- whether a token is a word or a sign
abbrev pub is_the : List ℕ → Lexeme → Bool
is_the word token = bytes_eq token.bytes word

-- whether a place begins with a token, and whether it ends with one: `(` and `)` of a node, `[` and `]` of an edge
abbrev pub is_open : Lexeme → Bool
is_open token = is_the (codes "(") token || is_the (codes "[") token

abbrev pub is_close : Lexeme → Bool
is_close token = is_the (codes ")") token || is_the (codes "]") token

-- the tokens of the place that begins with the first of some, up to the next with which one ends
abbrev pub first_place : List Lexeme → List (List Lexeme)
first_place [] = []
first_place (token ∷ rest) = if is_open token then take (position_or_len is_close rest + 2) (token ∷ rest) ∷ [] else []

-- the tokens of each place
abbrev pub place_tokens : List Lexeme → List (List Lexeme)
place_tokens [] = []
place_tokens (token ∷ rest) = first_place (token ∷ rest) ++ place_tokens rest

-- the tokens of a key in front of WITHIN, and behind it
abbrev pub is_within : Lexeme → Bool
is_within token = is_the (codes "WITHIN") token

abbrev pub before_within : List Lexeme → List Lexeme
before_within tokens = take (position_or_len is_within tokens) tokens

abbrev pub behind_within : List Lexeme → List Lexeme
behind_within tokens = drop (position_or_len is_within tokens + 1) tokens

-- The tokens behind the last keyword, where some stand behind an earlier one. In front of WITHIN these are the expressions of a key, since
-- its qualifiers end with a keyword.
abbrev pub is_keyword_kind : TokenKind → Bool
is_keyword_kind kinds.Keyword = true
is_keyword_kind _ = false

abbrev pub behind_last : List Lexeme → List Lexeme → List Lexeme
behind_last behind [] = behind
behind_last behind (token ∷ rest) = behind_last (if is_keyword_kind token.kind then rest else behind) rest

abbrev pub behind_keywords : List Lexeme → List Lexeme
behind_keywords tokens = behind_last tokens tokens

-- the tokens between commas
abbrev pub is_comma : Lexeme → Bool
is_comma token = is_the (codes ",") token

abbrev pub first_behind : List Lexeme → List (List Lexeme)
first_behind [] = []
first_behind (token ∷ rest) = if is_comma token then take (position_or_len is_comma rest) rest ∷ [] else []

abbrev pub behind_commas : List Lexeme → List (List Lexeme)
behind_commas [] = []
behind_commas (token ∷ rest) = first_behind (token ∷ rest) ++ behind_commas rest

abbrev pub between_commas : List Lexeme → List (List Lexeme)
between_commas tokens = take (position_or_len is_comma tokens) tokens ∷ behind_commas tokens

-- the same tests by what they find
abbrev pub is_mark : Mark → Lexeme → Bool
is_mark Close = is_close
is_mark Within = is_within
is_mark Comma = is_comma

-- the texts of the parts of the key that tokens are
abbrev pub part_texts : List Lexeme → PartTexts
part_texts tokens = record {
  places = map text_of (place_tokens (behind_within tokens));
  exprs = map text_of (between_commas (behind_keywords (before_within tokens)));
}

-- the texts of the parts of the key of a place, by the places of all keys and the texts of each
abbrev pub parts_at : List ℕ → List PartTexts → ℕ → PartTexts
parts_at places parts place =
    unwrap_or (option_and_then (slice_get parts) (position (λ other. place == other) places)) (record { places = []; exprs = [] })

-- the texts of the parts of the guard's keys, in their order
abbrev pub guard_part_texts : List Lexeme → Script → List PartTexts
guard_part_texts tokens script =
    map (λ (key : RawKey). parts_at (map place_of (keys_of script)) (map part_texts (key_tokens tokens)) key.place) (guard_keys script)
