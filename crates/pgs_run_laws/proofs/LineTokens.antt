-- The tokens of lines: those of a text from the byte after a line feed on, and the two that two dashes begin.
use Rattle.std.proofs.Common.{◌≡◌, ℕ, zero, suc, ◌+◌, ◌-◌, ◌≤◌, Bool, true, false, cond, ◌⊎◌, inl, inr, Option, Some, None, Result, Ok, Err, List, [], ◌∷◌, ◌++◌, length, refl, arith, sym, ap, ◌∙◌, subst, append_assoc}
use Rattle.std.specs.Prelude.{option_map}
use Rattle.std.proofs.lemmas.Option.{same_Some}
use Rattle.pgs_lexer.specs.declared.item.Item.{Item}
use Rattle.pgs_lexer.specs.declared.item.ItemKind.TheVariants.{Number, Sign}
use Rattle.pgs_lexer.specs.declared.kind.TokenKind.TheVariants as kinds
use Rattle.pgs_lexer.specs.Form.{begins_with, is_digit}
use Rattle.pgs_lexer.specs.Scan.{digits_size, is_long_sign, sign_size, size_of, item_of, item_at}
use Rattle.pgs_lexer.specs.Token.{Lexeme}
use Rattle.pgs_lexer.specs.Cut.{token_here, with_front, tokens_from}
use Rattle.pgs_run_laws.proofs.Ahead.{HasPair, BeginsWithDash}
use Rattle.pgs_run_laws.proofs.LineItems.{item_ends}

-- the last of the tokens are those of this text, which begins at some place
abbrev pub EndWith : List Lexeme → List ℕ → Type 0
EndWith tokens text = (earlier : List Lexeme) × (later : List Lexeme) × (place : ℕ) × (tokens ≡ earlier ++ later) × (tokens_from 0 place text ≡ Ok later)

-- the first item of a text, and the tokens after it
abbrev FirstItem : ℕ → ℕ → List ℕ → List Lexeme → Type 0
FirstItem place a text tokens = (item : Item) × (later : List Lexeme) × (item_at (a ∷ text) ≡ Some item)
    × (tokens_from (item.size - 1) (place + 1) text ≡ Ok later) × (tokens ≡ token_here place (a ∷ text) item ++ later)

fronted : (front : List Lexeme) (read : Result (List Lexeme) ℕ) (tokens : List Lexeme) → with_front front read ≡ Ok tokens →
    (later : List Lexeme) × (read ≡ Ok later) × (tokens ≡ front ++ later)
fronted front (Ok later) tokens e = (later, refl, cc)
fronted front (Err place) tokens e = cc

-- the tokens of a text, by its first item
abbrev tokens_by : ℕ → ℕ → List ℕ → Option Item → Result (List Lexeme) ℕ
tokens_by place a text None = Err place
tokens_by place a text (Some item) = with_front (token_here place (a ∷ text) item) (tokens_from (item.size - 1) (place + 1) text)

first_item_by : (place a : ℕ) (text : List ℕ) (tokens : List Lexeme) (found : Option Item) → item_at (a ∷ text) ≡ found → tokens_by place a text found ≡ Ok tokens →
    FirstItem place a text tokens
first_item_by place a text tokens None found e = cc
first_item_by place a text tokens (Some item) found e =
    let f = fronted (token_here place (a ∷ text) item) (tokens_from (item.size - 1) (place + 1) text) tokens e in
    (item, f.0, found, f.1, f.2)

is_by_item : (place a : ℕ) (text : List ℕ) (found : Option Item) →
    (elim found [
      | None ↦ Err place
      | Some item ↦ with_front (token_here place (a ∷ text) item) (tokens_from (item.size - 1) (place + 1) text)
    ]) ≡ tokens_by place a text found
is_by_item place a text None = refl
is_by_item place a text (Some item) = refl

first_item : (place a : ℕ) (text : List ℕ) (tokens : List Lexeme) → tokens_from 0 place (a ∷ text) ≡ Ok tokens → FirstItem place a text tokens
unfolding tokens_from
first_item place a text tokens e = first_item_by place a text tokens (item_at (a ∷ text)) refl (sym (is_by_item place a text (item_at (a ∷ text))) ∙ e)

-- from inside or before an item that ends with the line at the latest
from_feed : (passing place : ℕ) (before rest : List ℕ) (tokens : List Lexeme) → passing ≤ suc (length before) →
    tokens_from passing place (before ++ 10 ∷ rest) ≡ Ok tokens → EndWith tokens rest
unfolding tokens_from item_at
from_feed zero place [] rest tokens fits e =
    let f = fronted [] (tokens_from 0 (place + 1) rest) tokens e in
    ([], f.0, place + 1, f.2, f.1)
from_feed (suc passing) place [] rest tokens fits e =
    let none : passing ≡ 0 = omega arith in
    ([], tokens, place + 1, refl, subst (λ n. tokens_from n (place + 1) rest ≡ Ok tokens) none e)
from_feed zero place (a ∷ before) rest tokens fits e =
    let f = first_item place a (before ++ 10 ∷ rest) tokens e in
    let size = item_ends (a ∷ before) rest f.0 f.2 in
    let r = from_feed (f.0.size - 1) (place + 1) before rest f.1 (omega arith) f.3 in
    let here = token_here place (a ∷ before ++ 10 ∷ rest) f.0 in
    (here ++ r.0, r.1, r.2, f.4 ∙ ap (λ (l : List Lexeme). here ++ l) r.3 ∙ sym (append_assoc here r.0 r.1), r.4)
from_feed (suc passing) place (a ∷ before) rest tokens fits e = from_feed passing (place + 1) before rest tokens (omega arith) e

-- after a line feed a text has the tokens of its rest
pub tokens_after_feed : (before rest : List ℕ) (tokens : List Lexeme) → tokens_from 0 0 (before ++ 10 ∷ rest) ≡ Ok tokens → EndWith tokens rest
tokens_after_feed before rest tokens e = from_feed 0 0 before rest tokens (omega arith) e

-- ---- two dashes

-- a number or a sign, of one byte or more
abbrev IsNumberOrSign : Item → Type 0
IsNumberOrSign item = (more : ℕ) × ((item_of Number (suc more) ≡ item) ⊎ (item_of Sign (suc more) ≡ item))

-- an item that begins with a dash is one of these
dash_item : (back : List ℕ) (item : Item) → item_at (45 ∷ back) ≡ Some item → IsNumberOrSign item
unfolding item_at
dash_item back item e = by_digit (begins_with is_digit back) e
  where
    number : (size : Option ℕ) → option_map (item_of Number) (option_map (λ n. 1 + n) size) ≡ Some item → IsNumberOrSign item
    number None e = cc
    number (Some n) e = let one : 1 + n ≡ suc n = omega arith in (n, inl (ap (item_of Number) (sym one) ∙ same_Some (item_of Number (1 + n)) item e))

    long_or_short : (long : Bool) → option_map (item_of Sign) (cond long (Some 2) (Some 1)) ≡ Some item → IsNumberOrSign item
    long_or_short true e = (1, inr (same_Some (item_of Sign 2) item e))
    long_or_short false e = (0, inr (same_Some (item_of Sign 1) item e))

    sign : (back : List ℕ) → option_map (item_of Sign) (sign_size (45 ∷ back)) ≡ Some item → IsNumberOrSign item
    sign [] e = long_or_short false e
    sign (b ∷ back) e = long_or_short (is_long_sign 45 b) e

    by_digit : (digit : Bool) → option_map (item_of (cond digit Number Sign)) (size_of (cond digit Number Sign) (45 ∷ back)) ≡ Some item → IsNumberOrSign item
    by_digit true e = number (digits_size back) e
    by_digit false e = sign back e

dash_begins : (place : ℕ) (back : List ℕ) (tokens : List Lexeme) → tokens_from 0 place (45 ∷ back) ≡ Ok tokens → BeginsWithDash tokens
dash_begins place back tokens e =
    let f = first_item place 45 back tokens e in
    let d = dash_item back f.0 f.2 in
    let here : BeginsWithDash (token_here place (45 ∷ back) f.0 ++ f.1) = elim d.1 [
      | inl same ↦ subst (λ item. BeginsWithDash (token_here place (45 ∷ back) item ++ f.1)) same refl
      | inr same ↦ subst (λ item. BeginsWithDash (token_here place (45 ∷ back) item ++ f.1)) same refl
    ] in
    subst BeginsWithDash (sym f.4) here

pub dashes_are_pair : (place : ℕ) (back : List ℕ) (tokens : List Lexeme) → tokens_from 0 place (45 ∷ 45 ∷ back) ≡ Ok tokens → HasPair tokens
unfolding tokens_from item_at
dashes_are_pair place back tokens e =
    let dash : Lexeme = record { kind = kinds.Sign; start = place; end = place + 1; bytes = 45 ∷ [] } in
    let f = fronted (dash ∷ []) (tokens_from 0 (place + 1) (45 ∷ back)) tokens e in
    subst HasPair (sym f.2) (inl ((refl, refl), dash_begins (place + 1) back f.0 f.1))
