-- The tokens of a text step by step: each item that is found, or the place where none is. And that they are parts of it.
use Rattle.std.proofs.Common.{◌≡◌, ◌∙◌, sym, ap, ℕ, zero, suc, ◌+◌, ◌-◌, ◌<◌, ◌≤◌, Option, Some, None, Result, Ok, Err, List, [], ◌∷◌, ◌++◌, length, take, drop, refl, arith, subst, length-drop}
use Rattle.std.specs.Prelude.{slice_get}
use Rattle.std.specs.List.{AllByRecursion}
use Rattle.std.proofs.lemmas.List.{drop-drop}
use Rattle.pgs_lexer.specs.declared.item.Item.{Item}
use Rattle.pgs_lexer.specs.Scan.{item_at}
use Rattle.pgs_lexer.specs.Token.{Lexeme, token_kind, HasForm, IsWellFormed}
use Rattle.pgs_lexer.specs.Form.{IsAtFront}
use Rattle.pgs_lexer.specs.Cut.{token_here, with_front, with_line, tokens_from, tokens_of, lexeme, lexemes, AreSpansOf, AreInOrderFrom, AreInOrder, IsPartOf, IsFromText}
use Rattle.pgs_lexer.specs.declared.token.Span.{Span}
use Rattle.std.proofs.lemmas.Option.{same_Some}
use Rattle.std.proofs.lemmas.List.Elements.{All-from_recursion}
use Rattle.pgs_base.specs.declared.text_limit.TheConstants.{TEXT_LIMIT}
use Rattle.pgs_lexer.specs.declared.kind.TokenKind.{TokenKind}
use Rattle.pgs_lexer.proofs.Sizes.{item_within}
use Rattle.pgs_lexer.proofs.Longest.{found_longest}
use Rattle.pgs_lexer.proofs.WellFormed.{token_form}

-- to pass over bytes is to leave them out
pub passes_over : (n place : ℕ) (text : List ℕ) → n ≤ length text → tokens_from n place text ≡ tokens_from 0 (place + n) (drop n text)
unfolding tokens_from
passes_over zero place text h = ap (λ p. tokens_from 0 p text) (omega arith)
passes_over (suc n) place [] h = absurd (omega arith)
passes_over (suc n) place (a ∷ text) h = passes_over n (place + 1) text (omega arith) ∙ ap (λ p. tokens_from 0 p (drop n text)) (omega arith)

abbrev by_item : ℕ → ℕ → List ℕ → Option Item → Result (List Lexeme) ℕ
by_item place a text None = Err place
by_item place a text (Some item) = with_front (token_here place (a ∷ text) item) (tokens_from (item.size - 1) (place + 1) text)

at_first : (place a : ℕ) (text : List ℕ) → tokens_from 0 place (a ∷ text) ≡ by_item place a text (item_at (a ∷ text))
unfolding tokens_from
at_first place a text = elim (item_at (a ∷ text)) as (λ o. elim o [ None ↦ Err place | Some item ↦ with_front (token_here place (a ∷ text) item) (tokens_from (item.size - 1) (place + 1) text) ] ≡ by_item place a text o) [
  | None ↦ refl
  | Some item ↦ refl
]

drop_one_less : (n : ℕ) (a : ℕ) (text : List ℕ) → 0 < n → drop (n - 1) text ≡ drop n (a ∷ text)
drop_one_less zero a text h = absurd (omega arith)
drop_one_less (suc n) a text h = ap (λ k. drop k text) (omega arith)

-- an item that is found at the front comes first
pub goes_on : (place : ℕ) (text : List ℕ) (item : Item) → item_at text ≡ Some item → tokens_from 0 place text ≡ with_front (token_here place text item) (tokens_from 0 (place + item.size) (drop item.size text))
goes_on place [] item e = absurd (let w = item_within [] item e in omega arith)
goes_on place (a ∷ text) item e =
    let w = item_within (a ∷ text) item e in
    let skip = passes_over (item.size - 1) (place + 1) text (omega arith) in
    let here : place + 1 + (item.size - 1) ≡ place + item.size = omega arith in
    at_first place a text ∙ ap (by_item place a text) e
    ∙ ap (with_front (token_here place (a ∷ text) item)) (skip ∙ ap (λ p. tokens_from 0 p (drop (item.size - 1) text)) here ∙ ap (tokens_from 0 (place + item.size)) (drop_one_less item.size a text w.0))

-- where none is found, that place is the answer
pub stops : (place : ℕ) (text : List ℕ) → 0 < length text → item_at text ≡ None → tokens_from 0 place text ≡ Err place
stops place [] h e = absurd (omega arith)
stops place (a ∷ text) h e = at_first place a text ∙ ap (by_item place a text) e

pub ends : (place : ℕ) → tokens_from 0 place [] ≡ Ok []
unfolding tokens_from
ends place = refl

-- the tokens from a place on are in order, and parts of the whole text
pub record ArePartsFrom (whole : List ℕ) (place : ℕ) (tokens : List Lexeme) : Type 0 where
  pub ordered : AreInOrderFrom place tokens
  pub parts : AllByRecursion (IsPartOf whole) tokens
  pub formed : AllByRecursion IsWellFormed tokens
  pub few : place + length tokens ≤ length whole

looser : (p q : ℕ) (tokens : List Lexeme) → p ≤ q → AreInOrderFrom q tokens → AreInOrderFrom p tokens
looser p q [] h o = tt
looser p q (token ∷ tokens) h o = (omega arith, o.1)

sooner : (whole : List ℕ) (p q : ℕ) (tokens : List Lexeme) → p ≤ q → ArePartsFrom whole q tokens → ArePartsFrom whole p tokens
sooner whole p q tokens h a = record { ordered = looser p q tokens h a.ordered; parts = a.parts; formed = a.formed; few = omega (arith, a.few) }

-- a token in front of such tokens
in_front : (whole : List ℕ) (place : ℕ) (item : Item) (o : Option TokenKind) (tokens : List Lexeme) → 0 < item.size → place + item.size ≤ length whole → ((kind : TokenKind) → o ≡ Some kind → HasForm kind (take item.size (drop place whole))) → ArePartsFrom whole (place + item.size) tokens
    → ArePartsFrom whole place (elim o [ None ↦ [] | Some kind ↦ record { kind = kind; start = place; end = place + item.size; bytes = take item.size (drop place whole) } ∷ [] ] ++ tokens)
in_front whole place item None tokens some fits form a = sooner whole place (place + item.size) tokens (omega arith) a
in_front whole place item (Some kind) tokens some fits form a = record {
  ordered = (omega arith, a.ordered);
  parts = ((omega arith, fits, ap (λ n. take n (drop place whole)) (omega arith)), a.parts);
  formed = (form kind refl, a.formed);
  few = omega (arith, a.few);
}

fronted : (front : List Lexeme) (r : Result (List Lexeme) ℕ) (tokens : List Lexeme) → with_front front r ≡ Ok tokens → (rest : List Lexeme) × (r ≡ Ok rest) × (front ++ rest ≡ tokens)
fronted front (Ok rest) tokens e = (rest, refl, cc)
fronted front (Err p) tokens e = cc

none_left : (whole : List ℕ) (place : ℕ) (tokens : List Lexeme) → place ≤ length whole → tokens_from 0 place [] ≡ Ok tokens → ArePartsFrom whole place tokens
none_left whole place tokens fits e =
    let empty : [] ≡ tokens = cc (ends place) in
    subst (ArePartsFrom whole place) empty (record { ordered = tt; parts = tt; formed = tt; few = omega arith })

-- what holds of each shorter rest of the text
abbrev HoldsAfter : List ℕ → ℕ → Type 0
HoldsAfter whole left = (place : ℕ) (text : List ℕ) (tokens : List Lexeme) → text ≡ drop place whole → length text < left → place ≤ length whole → tokens_from 0 place text ≡ Ok tokens → ArePartsFrom whole place tokens

one_more : (whole : List ℕ) (place a : ℕ) (text : List ℕ) (tokens : List Lexeme) (o : Option Item) → item_at (a ∷ text) ≡ o → a ∷ text ≡ drop place whole → place ≤ length whole → tokens_from 0 place (a ∷ text) ≡ Ok tokens
    → HoldsAfter whole (suc (length text)) → ArePartsFrom whole place tokens
one_more whole place a text tokens None none same fits e after = cc (stops place (a ∷ text) (omega arith) none)
one_more whole place a text tokens (Some item) some same fits e after =
    let w = item_within (a ∷ text) item some in
    let len : suc (length text) + place ≡ length whole = omega (arith, ap length same, length-drop place whole) in
    let f = fronted (token_here place (a ∷ text) item) (tokens_from 0 (place + item.size) (drop item.size (a ∷ text))) tokens (sym (goes_on place (a ∷ text) item some) ∙ e) in
    let rest_same : drop item.size (a ∷ text) ≡ drop (place + item.size) whole = ap (drop item.size) same ∙ drop-drop item.size place whole in
    let rest = after (place + item.size) (drop item.size (a ∷ text)) f.0 rest_same (omega (arith, length-drop item.size (a ∷ text))) (omega arith) f.1 in
    let at_front : IsAtFront item (drop place whole) = subst (IsAtFront item) same (found_longest (a ∷ text) item some).here in
    let form : (kind : TokenKind) → token_kind item.kind (take item.size (drop place whole)) ≡ Some kind → HasForm kind (take item.size (drop place whole)) =
    λ kind e2. token_form item.kind (take item.size (drop place whole)) (drop item.size (drop place whole)) kind at_front.1 e2 in
    subst (ArePartsFrom whole place) (ap (λ t. token_here place t item ++ f.0) (sym same) ∙ f.2) (in_front whole place item (token_kind item.kind (take item.size (drop place whole))) f.0 w.0 (omega arith) form rest)

-- by a bound on how many bytes are left
parts_within : (bound : ℕ) (whole : List ℕ) → HoldsAfter whole bound
parts_within zero whole place text tokens same room fits e = absurd (omega arith)
parts_within (suc bound) whole place [] tokens same room fits e = none_left whole place tokens fits e
parts_within (suc bound) whole place (a ∷ text) tokens same room fits e =
    one_more whole place a text tokens (item_at (a ∷ text)) refl same fits e
    (λ place2 text2 tokens2 same2 room2 fits2 e2. parts_within bound whole place2 text2 tokens2 same2 (omega arith) fits2 e2)

pub tokens_are_parts : (text : List ℕ) (tokens : List Lexeme) → tokens_from 0 0 text ≡ Ok tokens → ArePartsFrom text 0 tokens
tokens_are_parts text tokens e = parts_within (suc (length text)) text 0 text tokens refl (omega arith) (omega arith) e

lines_or_tokens : (text : List ℕ) (r : Result (List Lexeme) ℕ) (tokens : List Lexeme) → with_line text r ≡ Ok tokens → r ≡ Ok tokens
lines_or_tokens text (Ok found) tokens e = e
lines_or_tokens text (Err place) tokens e = cc

pub parts_of : (text : List ℕ) (tokens : List Lexeme) → tokens_of text ≡ Ok tokens → ArePartsFrom text 0 tokens
unfolding tokens_of
parts_of text tokens e = tokens_are_parts text tokens (lines_or_tokens text (tokens_from 0 0 text) tokens e)

-- what holds of all tokens holds of the one at a place
holds_at : (P : Lexeme → Type 0) (text : List ℕ) (spans : List Span) (place : ℕ) (span : Span) → AllByRecursion P (lexemes text spans) → slice_get spans place ≡ Some span → P (lexeme text span)
holds_at P text [] place span all e = cc
holds_at P text (s ∷ spans) zero span all e = subst (λ x. P (lexeme text x)) (same_Some s span e) all.0
holds_at P text (s ∷ spans) (suc place) span all e = holds_at P text spans place span all.1 e

pub span_is_part : (text : List ℕ) (spans : List Span) (place : ℕ) (span : Span) → AreSpansOf text spans → slice_get spans place ≡ Some span → IsPartOf text (lexeme text span)
span_is_part text spans place span are e = holds_at (IsPartOf text) text spans place span (parts_of text (lexemes text spans) are.whole).parts e

pub span_is_formed : (text : List ℕ) (spans : List Span) (place : ℕ) (span : Span) → AreSpansOf text spans → slice_get spans place ≡ Some span → IsWellFormed (lexeme text span)
span_is_formed text spans place span are e = holds_at IsWellFormed text spans place span (parts_of text (lexemes text spans) are.whole).formed e

pub IsFromText-spans : (text : List ℕ) (spans : List Span) → AreSpansOf text spans → IsFromText (lexemes text spans)
IsFromText-spans text spans are = (text, are.short, are.whole, All-from_recursion (IsPartOf text) (lexemes text spans) (parts_of text (lexemes text spans) are.whole).parts)

pub AreInOrder-spans : (text : List ℕ) (spans : List Span) → AreSpansOf text spans → AreInOrder (lexemes text spans)
AreInOrder-spans text spans are = (parts_of text (lexemes text spans) are.whole).ordered

pub few_spans : (text : List ℕ) (spans : List Span) → AreSpansOf text spans → length (lexemes text spans) ≤ TEXT_LIMIT
few_spans text spans are = omega (arith, (parts_of text (lexemes text spans) are.whole).few, are.short)
