-- The function `script_of` answers what the grammar says.
use Rattle.std.proofs.Common.{◌≡◌, ◌↔◌, ℕ, ◌+◌, true, List, [], ◌∷◌, ◌++◌, length, flat_map, Option, Some, None, Result, Ok, Err, ◌⊎◌, inl, inr, refl, sym, ap, ◌∙◌, subst, arith}
use Rattle.pgs_lexer.specs.Token.{Lexeme}
use Rattle.pgs_syntax.specs.declared.script.Script.{Script}
use Rattle.pgs_syntax.specs.declared.script.Statement.{Statement}
use Rattle.pgs_parser.specs.Statements.{IsStatement, IsNoStatement, AreStatements, IsScript, IsNoScriptFrom, pieces_of, places_in, count_from}
use Rattle.pgs_parser.specs.StatementReaders.{statement_of, with_statement, statements_of, as_script, script_of}
use Rattle.pgs_parser.proofs.Chains.{count_append}
use Rattle.pgs_parser.proofs.Renumbering.{renumbered}
use Rattle.pgs_parser.proofs.FirstNones.{same_number, not_both}
use Rattle.pgs_parser.proofs.Script.{statement_of_sound}
use Rattle.pgs_parser.proofs.Whole.{count_parts}
use Rattle.pgs_parser.proofs.WholeStatements.{statement_read}

-- a statement whose declarations are numbered from a place on is read
statement_of_read : (tree : Statement) (place : ℕ) (piece : List Lexeme) → IsStatement tree piece → count_from place (places_in tree) ≡ true →
    statement_of place piece ≡ Some tree
unfolding statement_of
statement_of_read tree place piece h e = rw (statement_read tree place piece [] h e) refl

-- where none is read, the tokens are no statement, whatever its numbers
none_read : (place : ℕ) (piece : List Lexeme) → statement_of place piece ≡ None → IsNoStatement piece
none_read place piece e tree h =
    let r = renumbered place tree piece [] h in
    cc (e, statement_of_read r.tree place piece r.is_read r.numbers)

-- ---- statements

with_read : (tree : Statement) (read : Result (List Statement) ℕ) (trees : List Statement) → with_statement tree read ≡ Ok trees →
    (others : List Statement) × (read ≡ Ok others) × (trees ≡ tree ∷ others)
with_read tree (Ok others) trees e = let f : tree ∷ others ≡ trees = cc in (others, refl, sym f)
with_read tree (Err n) trees e = cc

with_failed : (tree : Statement) (read : Result (List Statement) ℕ) (n : ℕ) → with_statement tree read ≡ Err n → read ≡ Err n
with_failed tree (Ok others) n e = cc
with_failed tree (Err m) n e = e

-- the answer at a first piece, by what that piece is
first_piece : (n place : ℕ) (piece : List Lexeme) (pieces : List (List Lexeme)) (answer : Result (List Statement) ℕ) → statements_of n place (piece ∷ pieces) ≡ answer →
    ((tree : Statement) × (statement_of place piece ≡ Some tree) × (with_statement tree (statements_of (n + 1) (place + length (places_in tree)) pieces) ≡ answer))
    ⊎ ((statement_of place piece ≡ None) × (Err n ≡ answer))
unfolding statements_of
first_piece n place piece pieces answer e = by_read (statement_of place piece) refl e
  where
    by_read : (read : Option Statement) → statement_of place piece ≡ read →
        (elim read [ None ↦ Err n | Some tree ↦ with_statement tree (statements_of (n + 1) (place + length (places_in tree)) pieces) ]) ≡ answer →
        ((tree : Statement) × (statement_of place piece ≡ Some tree) × (with_statement tree (statements_of (n + 1) (place + length (places_in tree)) pieces) ≡ answer))
        ⊎ ((statement_of place piece ≡ None) × (Err n ≡ answer))
    by_read None q e = inr (q, e)
    by_read (Some tree) q e = inl (tree, q, e)

no_pieces : (n place : ℕ) → statements_of n place [] ≡ Ok []
unfolding statements_of
no_pieces n place = refl

statements_sound : (n place : ℕ) (pieces : List (List Lexeme)) (trees : List Statement) → statements_of n place pieces ≡ Ok trees →
    AreStatements trees pieces × (count_from place (flat_map places_in trees) ≡ true)
statements_sound n place [] trees e =
    let same : [] ≡ trees = cc (no_pieces n place) in
    subst (λ trees. AreStatements trees [] × (count_from place (flat_map places_in trees) ≡ true)) same (tt, refl)
statements_sound n place (piece ∷ pieces) trees e =
    elim (first_piece n place piece pieces (Ok trees) e) [
      | inl (tree, q, f) ↦
          let w = with_read tree (statements_of (n + 1) (place + length (places_in tree)) pieces) trees f in
          let one = statement_of_sound place piece tree q in
          let others = statements_sound (n + 1) (place + length (places_in tree)) pieces w.0 w.1 in
          subst (λ trees. AreStatements trees (piece ∷ pieces) × (count_from place (flat_map places_in trees) ≡ true)) (sym w.2)
          ((one.0, others.0), count_append place (places_in tree) (flat_map places_in w.0) one.1 others.1)
      | inr (q, f) ↦ cc
    ]

statements_read : (n place : ℕ) (pieces : List (List Lexeme)) (trees : List Statement) → AreStatements trees pieces →
    count_from place (flat_map places_in trees) ≡ true → statements_of n place pieces ≡ Ok trees
unfolding statements_of
statements_read n place [] [] h e = refl
statements_read n place [] (tree ∷ trees) h e = absurd h
statements_read n place (piece ∷ pieces) [] h e = absurd h
statements_read n place (piece ∷ pieces) (tree ∷ trees) h e =
    let p = count_parts place (places_in tree) (flat_map places_in trees) e in
    ap (λ o. elim o [ None ↦ Err n | Some tree ↦ with_statement tree (statements_of (n + 1) (place + length (places_in tree)) pieces) ])
    (statement_of_read tree place piece h.0 p.0)
    ∙ ap (with_statement tree) (statements_read (n + 1) (place + length (places_in tree)) pieces trees h.1 p.1)

-- the first piece that is no statement, counted from a number on
record FirstNone (n m : ℕ) (pieces : List (List Lexeme)) : Type 0 where
  front : List (List Lexeme)
  piece : List Lexeme
  back : List (List Lexeme)
  trees : List Statement
  cut : pieces ≡ front ++ piece ∷ back
  number : m ≡ n + length front
  earlier : AreStatements trees front
  none : IsNoStatement piece

statements_none : (n m place : ℕ) (pieces : List (List Lexeme)) → statements_of n place pieces ≡ Err m → FirstNone n m pieces
statements_none n m place [] e = cc (no_pieces n place)
statements_none n m place (piece ∷ pieces) e =
    elim (first_piece n place piece pieces (Err m) e) [
      | inl (tree, q, f) ↦
          let later = statements_none (n + 1) m (place + length (places_in tree)) pieces (with_failed tree (statements_of (n + 1) (place + length (places_in tree)) pieces) m f) in
          let one = statement_of_sound place piece tree q in
          record {
            front = piece ∷ later.front;
            piece = later.piece;
            back = later.back;
            trees = tree ∷ later.trees;
            cut = ap (λ ps. piece ∷ ps) later.cut;
            number = omega (arith, later.number);
            earlier = (one.0, later.earlier);
            none = later.none;
          }
      | inr (q, f) ↦
          let same : n ≡ m = cc in
          record {
            front = [];
            piece = piece;
            back = pieces;
            trees = [];
            cut = refl;
            number = omega (arith, same);
            earlier = tt;
            none = none_read place piece q;
          }
    ]

-- ---- scripts

script_sound : (tokens : List Lexeme) (script : Script) → script_of tokens ≡ Ok script → IsScript script tokens
unfolding script_of
script_sound tokens script e = by_read (statements_of 1 1 (pieces_of tokens)) refl e
  where
    by_read : (read : Result (List Statement) ℕ) → statements_of 1 1 (pieces_of tokens) ≡ read → as_script read ≡ Ok script → IsScript script tokens
    by_read (Ok trees) q e =
        let s = statements_sound 1 1 (pieces_of tokens) trees q in
        let same : record { statements = trees } ≡ script = cc in
        subst (λ script. IsScript script tokens) same (record { statements = s.0; places = s.1 })
    by_read (Err n) q e = cc

script_read : (tokens : List Lexeme) (script : Script) → IsScript script tokens → script_of tokens ≡ Ok script
unfolding script_of
script_read tokens script h = ap as_script (statements_read 1 1 (pieces_of tokens) script.statements h.statements h.places)

script_none : (tokens : List Lexeme) (n : ℕ) → script_of tokens ≡ Err n → IsNoScriptFrom n tokens
unfolding script_of
script_none tokens n e = by_read (statements_of 1 1 (pieces_of tokens)) refl e
  where
    by_read : (read : Result (List Statement) ℕ) → statements_of 1 1 (pieces_of tokens) ≡ read → as_script read ≡ Err n → IsNoScriptFrom n tokens
    by_read (Ok trees) q e = cc
    by_read (Err m) q e =
        let same : m ≡ n = cc in
        let f = statements_none 1 n 1 (pieces_of tokens) (q ∙ ap Err same) in
        record {
          front = f.front;
          piece = f.piece;
          back = f.back;
          trees = f.trees;
          cut = f.cut;
          number = omega (arith, f.number);
          earlier = f.earlier;
          none = f.none;
        }

pub scripts : (tokens : List Lexeme) (script : Script) → (script_of tokens ≡ Ok script) ↔ IsScript script tokens
scripts tokens script = (script_sound tokens script, script_read tokens script)

-- tokens are at most one script
pub one_script : (tokens : List Lexeme) (one other : Script) → IsScript one tokens → IsScript other tokens → one ≡ other
one_script tokens one other h k = let e = script_read tokens one h in let f = script_read tokens other k in cc (e, f)

none_or_script : (tokens : List Lexeme) (n : ℕ) (read : Result Script ℕ) → script_of tokens ≡ read → IsNoScriptFrom n tokens → read ≡ Err n
none_or_script tokens n (Ok script) e h = absurd (not_both (script_sound tokens script e) h)
none_or_script tokens n (Err m) e h = ap Err (same_number (script_none tokens m e) h)

pub no_scripts : (tokens : List Lexeme) (n : ℕ) → (script_of tokens ≡ Err n) ↔ IsNoScriptFrom n tokens
no_scripts tokens n = (script_none tokens n, λ h. none_or_script tokens n (script_of tokens) refl h)
