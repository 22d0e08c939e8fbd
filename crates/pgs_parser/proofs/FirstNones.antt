-- The first piece that is no statement has one number, and then there is no script.
use Rattle.std.proofs.Common.{◌≡◌, ℕ, suc, ◌+◌, List, [], ◌∷◌, ◌++◌, length, refl, sym, ◌∙◌, ap, subst}
use Rattle.pgs_lexer.specs.Token.{Lexeme}
use Rattle.pgs_syntax.specs.declared.script.Script.{Script}
use Rattle.pgs_syntax.specs.declared.script.Statement.{Statement}
use Rattle.pgs_parser.specs.Statements.{AreStatements, IsNoStatement, IsScript, IsNoScriptFrom}

-- pieces one of which is no statement are not all statements
not_all : (trees : List Statement) (front : List (List Lexeme)) (piece : List Lexeme) (back : List (List Lexeme)) →
    AreStatements trees (front ++ piece ∷ back) → IsNoStatement piece → ⊥
not_all [] [] piece back h none = h
not_all [] (f ∷ front) piece back h none = h
not_all (t ∷ ts) [] piece back h none = none t h.0
not_all (t ∷ ts) (f ∷ front) piece back h none = not_all ts front piece back h.1 none

-- the front of the first piece that is no statement is as long in each cut
same_front : (trees others : List Statement) (front along : List (List Lexeme)) (piece other : List Lexeme) (back behind : List (List Lexeme)) →
    front ++ piece ∷ back ≡ along ++ other ∷ behind → AreStatements trees front → AreStatements others along →
    IsNoStatement piece → IsNoStatement other → length front ≡ length along
same_front trees others [] [] piece other back behind e h k none nor = refl
same_front trees [] [] (g ∷ along) piece other back behind e h k none nor = absurd k
same_front trees (u ∷ us) [] (g ∷ along) piece other back behind e h k none nor =
    let first : piece ≡ g = cc in
    absurd (none u (subst (λ p. AreStatements (u ∷ []) (p ∷ [])) (sym first) (k.0, tt)).0)
same_front [] others (f ∷ front) [] piece other back behind e h k none nor = absurd h
same_front (t ∷ ts) others (f ∷ front) [] piece other back behind e h k none nor =
    let first : f ≡ other = cc in
    absurd (nor t (subst (λ p. AreStatements (t ∷ []) (p ∷ [])) first (h.0, tt)).0)
same_front [] others (f ∷ front) (g ∷ along) piece other back behind e h k none nor = absurd h
same_front (t ∷ ts) [] (f ∷ front) (g ∷ along) piece other back behind e h k none nor = absurd k
same_front (t ∷ ts) (u ∷ us) (f ∷ front) (g ∷ along) piece other back behind e h k none nor =
    let rest : front ++ piece ∷ back ≡ along ++ other ∷ behind = cc in
    ap suc (same_front ts us front along piece other back behind rest h.1 k.1 none nor)

pub same_number : {n m : ℕ} {tokens : List Lexeme} → IsNoScriptFrom n tokens → IsNoScriptFrom m tokens → n ≡ m
same_number a b =
    let fronts = same_front a.trees b.trees a.front b.front a.piece b.piece a.back b.back (sym a.cut ∙ b.cut) a.earlier b.earlier a.none b.none in
    a.number ∙ ap (λ n. n + 1) fronts ∙ sym b.number

pub not_both : {n : ℕ} {tree : Script} {tokens : List Lexeme} → IsScript tree tokens → IsNoScriptFrom n tokens → ⊥
not_both {tree = tree} a b =
    not_all tree.statements b.front b.piece b.back (subst (AreStatements tree.statements) b.cut a.statements) b.none
