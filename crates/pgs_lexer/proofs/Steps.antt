-- What one step of the cut's loop keeps, and what its ends give.
use Rattle.std.proofs.Common.{◌≡◌, ◌∙◌, sym, ap, ℕ, ◌+◌, ◌-◌, ◌<◌, ◌≤◌, Option, Some, None, Result, Ok, Err, List, [], ◌∷◌, ◌++◌, length, take, drop, refl, arith, length-drop, append_assoc, append-nil}
use Rattle.std.specs.Prelude.{slice_range}
use Rattle.std.proofs.lemmas.List.{drop-drop, drop_all, map_push}
use Rattle.pgs_lexer.specs.declared.item.Item.{Item}
use Rattle.pgs_lexer.specs.declared.kind.TokenKind.{TokenKind}
use Rattle.pgs_lexer.specs.declared.token.Span.{Span}
use Rattle.pgs_lexer.specs.Scan.{item_at}
use Rattle.pgs_lexer.specs.Token.{Lexeme, token_kind}
use Rattle.pgs_lexer.specs.Cut.{token_here, with_front, with_line, line_at, tokens_from, tokens_of, lexeme, lexemes}
use Rattle.pgs_lexer.proofs.Spans.{goes_on, stops, ends}

abbrev span_of : TokenKind → ℕ → ℕ → Span
span_of kind start end = record { kind = kind; start = start; end = end }

abbrev maybe_token : List ℕ → ℕ → ℕ → Option TokenKind → List Lexeme
maybe_token text place size None = []
maybe_token text place size (Some kind) = record { kind = kind; start = place; end = place + size; bytes = take size (drop place text) } ∷ []

token_here_by : (place : ℕ) (text : List ℕ) (item : Item) (o : Option TokenKind) → token_kind item.kind (take item.size (drop place text)) ≡ o → token_here place (drop place text) item ≡ maybe_token text place item.size o
token_here_by place text item o e = ap (maybe_token text place item.size) e

pub pushed_token : (text : List ℕ) (place : ℕ) (item : Item) (kind : TokenKind) (spans : List Span) → token_kind item.kind (slice_range text place (place + item.size)) ≡ Some kind
    → lexemes text (spans ++ span_of kind place (place + item.size) ∷ []) ≡ lexemes text spans ++ token_here place (drop place text) item
pushed_token text place item kind spans e =
    let size : place + item.size - place ≡ item.size = omega arith in
    let part : slice_range text place (place + item.size) ≡ take item.size (drop place text) = ap (λ n. take n (drop place text)) size in
    let here = token_here_by place text item (Some kind) (ap (token_kind item.kind) (sym part) ∙ e) in
    map_push (lexeme text) spans (span_of kind place (place + item.size))
    ∙ ap (λ bytes. lexemes text spans ++ record { kind = kind; start = place; end = place + item.size; bytes = bytes } ∷ []) part
    ∙ ap (λ (l : List Lexeme). lexemes text spans ++ l) (sym here)

with_both : (a b : List Lexeme) (r : Result (List Lexeme) ℕ) → with_front (a ++ b) r ≡ with_front a (with_front b r)
with_both a b (Ok tokens) = ap Ok (append_assoc a b tokens)
with_both a b (Err place) = refl

-- an item more is read, and the rest follows it
pub kept : (front : List Lexeme) (place : ℕ) (text : List ℕ) (item : Item) (told : Result (List Lexeme) ℕ) → item_at (drop place text) ≡ Some item
    → with_front front (tokens_from 0 place (drop place text)) ≡ told
    → with_front (front ++ token_here place (drop place text) item) (tokens_from 0 (place + item.size) (drop (place + item.size) text)) ≡ told
kept front place text item told e before =
    with_both front (token_here place (drop place text) item) (tokens_from 0 (place + item.size) (drop (place + item.size) text))
    ∙ ap (λ rest. with_front front (with_front (token_here place (drop place text) item) (tokens_from 0 (place + item.size) rest))) (sym (drop-drop item.size place text))
    ∙ ap (with_front front) (sym (goes_on place (drop place text) item e)) ∙ before

-- where no item is found, its line is the answer
pub refused : (front : List Lexeme) (place : ℕ) (text : List ℕ) → place < length text → item_at (drop place text) ≡ None
    → with_front front (tokens_from 0 place (drop place text)) ≡ tokens_from 0 0 text → tokens_of text ≡ Err (line_at text place)
unfolding tokens_of
refused front place text some e before = ap (with_line text) (sym before ∙ ap (with_front front) (stops place (drop place text) (omega (arith, length-drop place text)) e))

-- at the end all tokens are read
pub complete : (front : List Lexeme) (place : ℕ) (text : List ℕ) → length text ≤ place
    → with_front front (tokens_from 0 place (drop place text)) ≡ tokens_from 0 0 text → tokens_of text ≡ Ok front
unfolding tokens_of
complete front place text past before =
    ap (with_line text) (sym before ∙ ap (λ rest. with_front front (tokens_from 0 place rest)) (drop_all place text past) ∙ ap (with_front front) (ends place)) ∙ ap Ok (append-nil front)
