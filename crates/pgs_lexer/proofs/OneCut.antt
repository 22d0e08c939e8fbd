-- There is one cut of a text, and the tokens that are computed are those of it.
use Rattle.std.proofs.Common.{◌≡◌, ◌∙◌, sym, ap, ℕ, zero, suc, ◌+◌, ◌-◌, ◌<◌, ◌≤◌, Option, Some, None, Result, Ok, Err, List, [], ◌∷◌, length, drop, refl, arith, subst, length-drop}
use Rattle.std.proofs.lemmas.Option.{same_Some}
use Rattle.pgs_lexer.specs.declared.item.Item.{Item}
use Rattle.pgs_lexer.specs.Form.{BeginsNoItem}
use Rattle.pgs_lexer.specs.Scan.{item_at}
use Rattle.pgs_lexer.specs.Token.{Lexeme}
use Rattle.pgs_lexer.specs.Cut.{IsCut, token_here, tokens_among, line_at, with_front, with_line, tokens_from, tokens_of, told_by, AreTokensOf, HasBadByteOn}
use Rattle.pgs_lexer.proofs.Sizes.{item_within}
use Rattle.pgs_lexer.proofs.Spans.{goes_on, stops, ends}
use Rattle.pgs_lexer.proofs.Longest.{found_longest, longest_found, none_begins, begins_none}

abbrev SomeCut : List ℕ → Type 0
SomeCut text = (items : List Item) × (rest : List ℕ) × IsCut text items rest

cut_more : (bound : ℕ) (text : List ℕ) (o : Option Item) → item_at text ≡ o → length text < suc bound → ((more : List ℕ) → length more < bound → SomeCut more) → SomeCut text
cut_more bound text None e short after = ([], text, (refl, none_begins text e))
cut_more bound text (Some item) e short after =
    let w = item_within text item e in
    let more = after (drop item.size text) (omega (arith, length-drop item.size text)) in
    (item ∷ more.0, more.1, (found_longest text item e, more.2))

cut_within : (bound : ℕ) (text : List ℕ) → length text < bound → SomeCut text
cut_within zero text short = absurd (omega arith)
cut_within (suc bound) text short = cut_more bound text (item_at text) refl short (cut_within bound)

pub some_cut : (text : List ℕ) → SomeCut text
some_cut text = cut_within (suc (length text)) text (omega arith)

-- what is told of what is left from a place on
abbrev told_from : ℕ → List ℕ → List Item → List ℕ → Result (List Lexeme) ℕ
told_from place text items [] = Ok (tokens_among place text items)
told_from place text items (b ∷ rest) = Err (place + (length text - length (b ∷ rest)))

told_front : (place : ℕ) (text : List ℕ) (item : Item) (items : List Item) (rest : List ℕ) → item.size ≤ length text → length rest ≤ length (drop item.size text)
    → with_front (token_here place text item) (told_from (place + item.size) (drop item.size text) items rest) ≡ told_from place text (item ∷ items) rest
told_front place text item items [] fits within = refl
told_front place text item items (b ∷ rest) fits within = ap Err (omega (arith, length-drop item.size text))

rest_within : (text : List ℕ) (items : List Item) (rest : List ℕ) → IsCut text items rest → length rest ≤ length text
rest_within text [] rest cut = omega (arith, ap length cut.0)
rest_within text (item ∷ items) rest cut = omega (arith, rest_within (drop item.size text) items rest cut.1, length-drop item.size text)

at_end : (place : ℕ) (text : List ℕ) → BeginsNoItem text → tokens_from 0 place text ≡ told_from place text [] text
at_end place [] none = ends place
at_end place (b ∷ text) none = stops place (b ∷ text) (omega arith) (begins_none (b ∷ text) none) ∙ ap Err (omega arith)

told_is : (place : ℕ) (text : List ℕ) (items : List Item) (rest : List ℕ) → IsCut text items rest → tokens_from 0 place text ≡ told_from place text items rest
told_is place text [] rest cut = subst (λ (l : List ℕ). tokens_from 0 place text ≡ told_from place text [] l) cut.0 (at_end place text (subst BeginsNoItem (sym cut.0) cut.1))
told_is place text (item ∷ items) rest cut =
    let found = longest_found text item cut.0 in
    goes_on place text item found ∙ ap (with_front (token_here place text item)) (told_is (place + item.size) (drop item.size text) items rest cut.1)
    ∙ told_front place text item items rest cut.0.here.0 (rest_within (drop item.size text) items rest cut.1)

told_line : (text : List ℕ) (items : List Item) (rest : List ℕ) → with_line text (told_from 0 text items rest) ≡ told_by text items rest
told_line text items [] = refl
told_line text items (b ∷ rest) = ap (λ n. Err (line_at text n)) (omega arith)

-- the tokens of a text are those of its cut
pub tokens_by_cut : (text : List ℕ) (items : List Item) (rest : List ℕ) → IsCut text items rest → tokens_of text ≡ told_by text items rest
unfolding tokens_of
tokens_by_cut text items rest cut = ap (with_line text) (told_is 0 text items rest cut) ∙ told_line text items rest

-- two cuts are one
pub one_cut : (text : List ℕ) (items others : List Item) (rest other : List ℕ) → IsCut text items rest → IsCut text others other → (items ≡ others) × (rest ≡ other)
one_cut text [] [] rest other p q = (refl, sym p.0 ∙ q.0)
one_cut text [] (b ∷ others) rest other p q = absurd (subst BeginsNoItem (sym p.0) p.1 b q.0.here)
one_cut text (a ∷ items) [] rest other p q = absurd (subst BeginsNoItem (sym q.0) q.1 a p.0.here)
one_cut text (a ∷ items) (b ∷ others) rest other p q =
    let same : a ≡ b = same_Some a b (sym (longest_found text a p.0) ∙ longest_found text b q.0) in
    let more = one_cut (drop b.size text) items others rest other (subst (λ (i : Item). IsCut (drop i.size text) items rest) same p.1) q.1 in
    (ap (λ i. i ∷ items) same ∙ ap (λ l. b ∷ l) more.0, more.1)

tokens_cases : (text : List ℕ) (tokens : List Lexeme) (items : List Item) (rest : List ℕ) → IsCut text items rest → told_by text items rest ≡ Ok tokens → AreTokensOf text tokens
tokens_cases text tokens items [] cut e = (items, cut, cc)
tokens_cases text tokens items (b ∷ rest) cut e = cc

pub tokens_are_cut : (text : List ℕ) (tokens : List Lexeme) → tokens_of text ≡ Ok tokens → AreTokensOf text tokens
tokens_are_cut text tokens e = let c = some_cut text in tokens_cases text tokens c.0 c.1 c.2 (sym (tokens_by_cut text c.0 c.1 c.2) ∙ e)

line_cases : (text : List ℕ) (line : ℕ) (items : List Item) (rest : List ℕ) → IsCut text items rest → told_by text items rest ≡ Err line → HasBadByteOn text line
line_cases text line items [] cut e = cc
line_cases text line items (b ∷ rest) cut e = (items, b ∷ rest, cut, omega arith, cc)

pub line_is_cut : (text : List ℕ) (line : ℕ) → tokens_of text ≡ Err line → HasBadByteOn text line
line_is_cut text line e = let c = some_cut text in line_cases text line c.0 c.1 c.2 (sym (tokens_by_cut text c.0 c.1 c.2) ∙ e)
