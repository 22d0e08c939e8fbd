-- A line of a cause, by what the text has at its place.
use Rattle.std.proofs.Common.{◌≡◌, ℕ, ◌-◌, ◌<◌, ◌≤◌, List, length, take, drop, slice_get, Some, Ok, codes, sym, subst, arith}
use Rattle.std.proofs.lemmas.List.{length-drop, take_all}
use Rattle.std.specs.Str.{IsUtf8}
use Rattle.pgs_lexer.specs.Cut.{line_at, tokens_of}
use Rattle.pgs_lexer.specs.Token.{Lexeme}
use Rattle.pgs_schema_places.specs.Because.{AreOthers, IsAt, IsBecause, because_line, byte, byte_text, character, column_at, end, token}

-- what is told of a place
placed : (text : List ℕ) (place : ℕ) (found others line : List ℕ) → IsAt text place found → AreOthers others
    → line ≡ because_line (line_at text place) (column_at text place) found others → IsBecause text line
placed text place found others line there said is = record { place = place; found = found; others = others; there = there; said = said; is = is }

pub token_placed : (text : List ℕ) (tokens : List Lexeme) (number : ℕ) (found : Lexeme) (others line : List ℕ) → tokens_of text ≡ Ok tokens → slice_get tokens number ≡ Some found
    → AreOthers others → line ≡ because_line (line_at text found.start) (column_at text found.start) found.bytes others → IsBecause text line
token_placed text tokens number found others line are there said is = placed text found.start found.bytes others line (token tokens number found are there) said is

pub end_placed : (text others line : List ℕ) → AreOthers others
    → line ≡ because_line (line_at text (length text)) (column_at text (length text)) (codes "end of text") others → IsBecause text line
end_placed text others line said is = placed text (length text) (codes "end of text") others line end said is

-- what is left of a text from a place on
pub rest_is : (text : List ℕ) (place : ℕ) → take (length text - place) (drop place text) ≡ drop place text
rest_is text place = let long = length-drop place text in take_all (length text - place) (drop place text) (omega (arith, long))

pub character_placed : (text : List ℕ) (place size : ℕ) (rest others line : List ℕ) → rest ≡ drop place text → place ≤ length text → 0 < size → size ≤ 4 → size ≤ length rest
    → IsUtf8 (take size rest) → AreOthers others → line ≡ because_line (line_at text place) (column_at text place) (take size rest) others → IsBecause text line
character_placed text place size rest others line same inside some few within utf8 said is =
    let long = length-drop place text in
    let own : size ≤ length (drop place text) = subst (λ r. size ≤ length r) same within in
    placed text place (take size rest) others line
    (subst (λ r. IsAt text place (take size r)) (sym same) (character place size some few (omega (arith, long, own)) (subst (λ r. IsUtf8 (take size r)) same utf8))) said is

pub byte_placed : (text : List ℕ) (place found : ℕ) (others line : List ℕ) → slice_get text place ≡ Some found → AreOthers others
    → line ≡ because_line (line_at text place) (column_at text place) (byte_text found) others → IsBecause text line
byte_placed text place found others line there said is = placed text place (byte_text found) others line (byte place found there) said is
