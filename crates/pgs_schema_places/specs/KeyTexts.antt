-- The texts of the keys of a schema, as they are written.
use Rattle.std.specs.Prelude.{ℕ, Bool, ◌||◌, ◌==◌, List, [], ◌∷◌, ◌++◌, map, flat_map, take, slice_get, unwrap_or, option_and_then, if◌then◌else◌, bytes_eq, codes}
use Rattle.std.specs.List.{position, position_or_len}
use Rattle.pgs_lexer.specs.Token.{Lexeme}
use Rattle.pgs_syntax.specs.declared.raw.RawKey.{RawKey}
use Rattle.pgs_syntax.specs.declared.script.GraphType.{GraphType}
use Rattle.pgs_syntax.specs.declared.script.Script.{Script}
use Rattle.pgs_resolve_declared.specs.Declarations.{keys_of}
use Rattle.pgs_resolve_declared.specs.Imports.{walked_graphs}

-- whether a token is FOR, with which each key begins and nothing else
abbrev pub is_for : Lexeme → Bool
is_for token = bytes_eq token.bytes (codes "FOR")

-- whether it stands behind a key and one token more: FOR behind a comma, or `;` behind the brace that ends a graph type
abbrev pub is_behind : Lexeme → Bool
is_behind token = is_for token || bytes_eq token.bytes (codes ";")

-- the tokens of each key, from FOR up to the one before the last in front of the next FOR or `;`
abbrev pub key_tokens : List Lexeme → List (List Lexeme)
key_tokens [] = []
key_tokens (token ∷ rest) =
    if is_for token then take (position_or_len is_behind rest) (token ∷ rest) ∷ key_tokens rest else key_tokens rest

-- Tokens as a text, behind what ends at a place: one space stands where spaces or comments stood between two tokens.
abbrev pub spaced : ℕ → List Lexeme → List ℕ
spaced end [] = []
spaced end (token ∷ tokens) = (if end == token.start then [] else codes " ") ++ (token.bytes ++ spaced token.end tokens)

abbrev pub text_of : List Lexeme → List ℕ
text_of [] = []
text_of (token ∷ tokens) = spaced token.start (token ∷ tokens)

-- the texts of all keys of a script, in order
abbrev pub key_texts : List Lexeme → List (List ℕ)
key_texts tokens = map text_of (key_tokens tokens)

-- the text of the key of a place, by the places of all keys and their texts
abbrev pub text_at : List ℕ → List (List ℕ) → ℕ → List ℕ
text_at places texts place = unwrap_or (option_and_then (slice_get texts) (position (λ other. place == other) places)) []

-- the keys of the guard, in their order
abbrev pub guard_keys : Script → List RawKey
guard_keys script = flat_map (λ (graph : GraphType). graph.keys) (walked_graphs script)

abbrev pub place_of : RawKey → ℕ
place_of key = key.place

-- the texts of the guard's keys, in their order
abbrev pub guard_key_texts : List Lexeme → Script → List (List ℕ)
guard_key_texts tokens script =
    map (λ (key : RawKey). text_at (map place_of (keys_of script)) (key_texts tokens) key.place) (guard_keys script)
