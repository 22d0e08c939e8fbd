-- The statements of a script as the loop reads them: those so far in front of those to come.
use Rattle.std.proofs.Common.{◌≡◌, ℕ, ◌+◌, ◌-◌, ◌≤◌, List, [], ◌∷◌, ◌++◌, length, drop, Option, Some, None, Result, Ok, Err, refl, sym, ap, ◌∙◌, subst, arith, append_assoc, length-append, true, append-nil}
use Rattle.std.proofs.lemmas.Option.{same_Some}
use Rattle.std.specs.List.{slice_range}
use Rattle.std.proofs.lemmas.List.{length-take}
use Rattle.pgs_lexer.specs.Token.{Lexeme}
use Rattle.pgs_syntax.specs.declared.script.Statement.{Statement}
use Rattle.pgs_parser.specs.Statements.{statement, places_in, count_from}
use Rattle.pgs_parser.specs.StatementReaders.{statement_at, statement_of, with_statement, statements_of}
use Rattle.pgs_parser.proofs.Chains.{bind_some}
use Rattle.pgs_parser.proofs.SoundStatements.{statement_sound}

-- statements in front of others
abbrev pub with_statements : List Statement → Result (List Statement) ℕ → Result (List Statement) ℕ
with_statements front (Ok trees) = Ok (front ++ trees)
with_statements front (Err n) = Err n

pub none-before : (read : Result (List Statement) ℕ) → with_statements [] read ≡ read
none-before (Ok trees) = refl
none-before (Err n) = refl

one-more : (front : List Statement) (tree : Statement) (read : Result (List Statement) ℕ) →
    with_statements (front ++ tree ∷ []) read ≡ with_statements front (with_statement tree read)
one-more front tree (Ok trees) = ap Ok (append_assoc front (tree ∷ []) trees)
one-more front tree (Err n) = refl

-- the statements from a piece on, by what that piece is
abbrev after_piece : ℕ → ℕ → List (List Lexeme) → Option Statement → Result (List Statement) ℕ
after_piece n place pieces read = elim read [
  | None ↦ Err n
  | Some tree ↦ with_statement tree (statements_of (n + 1) (place + length (places_in tree)) pieces)
]

pub goes_on : (front : List Statement) (tree : Statement) (n place : ℕ) (piece : List Lexeme) (pieces : List (List Lexeme)) →
    statement_of place piece ≡ Some tree →
    with_statements front (statements_of n place (piece ∷ pieces))
    ≡ with_statements (front ++ tree ∷ []) (statements_of (n + 1) (place + length (places_in tree)) pieces)
unfolding statements_of
goes_on front tree n place piece pieces e =
    ap (λ o. with_statements front (after_piece n place pieces o)) e ∙ sym (one-more front tree (statements_of (n + 1) (place + length (places_in tree)) pieces))

pub fails : (front : List Statement) (n place : ℕ) (piece : List Lexeme) (pieces : List (List Lexeme)) → statement_of place piece ≡ None →
    with_statements front (statements_of n place (piece ∷ pieces)) ≡ Err n
unfolding statements_of
fails front n place piece pieces e = ap (λ o. with_statements front (after_piece n place pieces o)) e

pub ends : (front : List Statement) (n place : ℕ) → with_statements front (statements_of n place []) ≡ Ok front
unfolding statements_of
ends front n place = ap Ok (append-nil front)

ended : (rest : List Lexeme) (tree x : Statement) → (elim rest [ [] ↦ Some tree | _ ↦ None ]) ≡ Some x → (rest ≡ []) × (tree ≡ x)
ended [] tree x e = (refl, same_Some tree x e)
ended (t ∷ ts) tree x e = cc

-- what is read as one statement is one by the grammar, and has no more declarations than tokens
pub statement_of_sound : (place : ℕ) (piece : List Lexeme) (tree : Statement) → statement_of place piece ≡ Some tree →
    statement tree piece [] × (count_from place (places_in tree) ≡ true) × (length (places_in tree) ≤ length piece)
unfolding statement_of
statement_of_sound place piece tree e =
    let found = bind_some (statement_at place piece) _ tree e in
    let s = statement_sound place piece found.0 found.1 in
    let l = ended found.0.1 found.0.0 tree found.2 in
    let m = s.2 in
    subst (λ tree. statement tree piece [] × (count_from place (places_in tree) ≡ true) × (length (places_in tree) ≤ length piece)) l.1
    (subst (statement found.0.0 piece) l.0 s.0, s.1, omega arith)

-- ---- the loop

pub step : (items new : List Statement) (tree : Statement) (place declared : ℕ) (piece : List Lexeme) (pieces rest : List (List Lexeme)) (whole : Result (List Statement) ℕ) →
    pieces ≡ piece ∷ rest → statement_of place piece ≡ Some tree → declared ≡ length (places_in tree) → new ≡ items ++ tree ∷ [] →
    with_statements items (statements_of (length items + 1) place pieces) ≡ whole →
    with_statements new (statements_of (length new + 1) (place + declared) rest) ≡ whole
step items new tree place declared piece pieces rest whole e q d f h =
    let size : length new + 1 ≡ length items + 1 + 1 = omega (arith, ap length f, length-append items (tree ∷ [])) in
    ap (λ n. with_statements new (statements_of n (place + declared) rest)) size
    ∙ ap (λ d. with_statements new (statements_of (length items + 1 + 1) (place + d) rest)) d
    ∙ ap (λ xs. with_statements xs (statements_of (length items + 1 + 1) (place + length (places_in tree)) rest)) f
    ∙ sym (goes_on items tree (length items + 1) place piece rest q)
    ∙ ap (λ ps. with_statements items (statements_of (length items + 1) place ps)) (sym e) ∙ h

pub step_fails : (items : List Statement) (place number : ℕ) (piece : List Lexeme) (pieces rest : List (List Lexeme)) (whole : Result (List Statement) ℕ) →
    pieces ≡ piece ∷ rest → statement_of place piece ≡ None → number ≡ length items + 1 →
    with_statements items (statements_of (length items + 1) place pieces) ≡ whole → whole ≡ Err number
step_fails items place number piece pieces rest whole e q n h =
    sym h ∙ ap (λ ps. with_statements items (statements_of (length items + 1) place ps)) e ∙ fails items (length items + 1) place piece rest q ∙ ap Err (sym n)

pub step_ends : (items : List Statement) (place : ℕ) (pieces : List (List Lexeme)) (whole : Result (List Statement) ℕ) →
    pieces ≡ [] → with_statements items (statements_of (length items + 1) place pieces) ≡ whole → whole ≡ Ok items
step_ends items place pieces whole e h =
    sym h ∙ ap (λ ps. with_statements items (statements_of (length items + 1) place ps)) e ∙ ends items (length items + 1) place

-- a statement has no more declarations than tokens
pub few_declared : (place start end : ℕ) (tokens : List Lexeme) (tree : Statement) → end ≤ length tokens →
    statement_of place (slice_range tokens start end) ≡ Some tree → length (places_in tree) ≤ end - start
few_declared place start end tokens tree l e =
    let few = (statement_of_sound place (slice_range tokens start end) tree e).2 in
    omega (arith, length-take (end - start) (drop start tokens), few)
