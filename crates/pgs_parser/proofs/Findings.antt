-- A text is found to be one thing.
use Rattle.std.proofs.Common.{◌≡◌, ℕ, List, length, Result, Ok, refl, ap, subst, arith, Err, ◌≤◌, Bool, true, false, cond, ◌↔◌, nat_le}
use Rattle.std.proofs.lemmas.Bool.{leb-true, leb-false}
use Rattle.pgs_base.specs.declared.text_limit.TheConstants.{TEXT_LIMIT}
use Rattle.pgs_lexer.specs.Cut.{tokens_of}
use Rattle.pgs_parser.specs.StatementReaders.{script_of}
use Rattle.pgs_lexer.specs.Token.{Lexeme}
use Rattle.pgs_syntax.specs.declared.script.Script.{Script}
use Rattle.pgs_parser.specs.Statements.{IsScript, IsNoScriptFrom}
use Rattle.pgs_parser.proofs.FirstNones.{same_number, not_both}
use Rattle.pgs_parser.proofs.WholeScripts.{one_script, scripts, no_scripts}
use Rattle.pgs_parser.specs.Text.{Found, no_item, no_statement, script, IsFound, found_in, found, too_long, is_too_long, has_no_item, has_no_statement, is_script}

same_tokens : {a b : List Lexeme} (found : Result (List Lexeme) ℕ) → found ≡ Ok a → found ≡ Ok b → a ≡ b
same_tokens found h k = cc

pub one_finding : (text : List ℕ) (one other : Found) → IsFound text one → IsFound text other → one ≡ other
one_finding text one other (is_too_long h) (is_too_long k) = refl
one_finding text one other (is_too_long h) (has_no_item k _) = absurd (omega arith)
one_finding text one other (is_too_long h) (has_no_statement k _ _) = absurd (omega arith)
one_finding text one other (is_too_long h) (is_script k _ _) = absurd (omega arith)
one_finding text one other (has_no_item h _) (is_too_long k) = absurd (omega arith)
one_finding text one other (has_no_item {line = n} h a) (has_no_item {line = m} k b) = let same : n ≡ m = cc in ap no_item same
one_finding text one other (has_no_item h a) (has_no_statement k b _) = cc
one_finding text one other (has_no_item h a) (is_script k b _) = cc
one_finding text one other (has_no_statement h _ _) (is_too_long k) = absurd (omega arith)
one_finding text one other (has_no_statement h a _) (has_no_item k b) = cc
one_finding text one other (has_no_statement {n = n} h a x) (has_no_statement k b y) =
    ap no_statement (same_number (subst (IsNoScriptFrom n) (same_tokens _ a b) x) y)
one_finding text one other (has_no_statement {n = n} h a x) (is_script k b y) = absurd (not_both y (subst (IsNoScriptFrom n) (same_tokens _ a b) x))
one_finding text one other (is_script h _ _) (is_too_long k) = absurd (omega arith)
one_finding text one other (is_script h a _) (has_no_item k b) = cc
one_finding text one other (is_script h a x) (has_no_statement {n = n} k b y) = absurd (not_both x (subst (IsNoScriptFrom n) (same_tokens _ b a) y))
one_finding text one other (is_script {tree = tree} {tokens = tokens} h a x) (is_script {tree = found} k b y) =
    ap script (one_script tokens tree found x (subst (IsScript found) (same_tokens _ b a) y))

-- ---- what a text is found to be, as a function

of_script : (text : List ℕ) (tokens : List Lexeme) (read : Result Script ℕ) → length text ≤ TEXT_LIMIT → tokens_of text ≡ Ok tokens → script_of tokens ≡ read →
    IsFound text (elim read [ Ok tree ↦ script tree | Err n ↦ no_statement n ])
of_script text tokens (Ok tree) l e q = is_script l e ((scripts tokens tree).0 q)
of_script text tokens (Err n) l e q = has_no_statement l e ((no_scripts tokens n).0 q)

of_tokens : (text : List ℕ) (read : Result (List Lexeme) ℕ) → length text ≤ TEXT_LIMIT → tokens_of text ≡ read → IsFound text (found_in read)
of_tokens text (Ok tokens) l e = of_script text tokens (script_of tokens) l e refl
of_tokens text (Err line) l e = has_no_item l e

of_length : (text : List ℕ) (short : Bool) → nat_le (length text) TEXT_LIMIT ≡ short → IsFound text (cond short (found_in (tokens_of text)) too_long)
of_length text true e = of_tokens text (tokens_of text) (leb-true (length text) TEXT_LIMIT e) refl
of_length text false e = is_too_long (leb-false (length text) TEXT_LIMIT e)

-- what is computed is found
pub is_found : (text : List ℕ) → IsFound text (found text)
unfolding found
is_found text = of_length text (nat_le (length text) TEXT_LIMIT) refl

pub findings : (text : List ℕ) (finding : Found) → (found text ≡ finding) ↔ IsFound text finding
findings text finding = (λ e. subst (IsFound text) e (is_found text), λ h. one_finding text (found text) finding (is_found text) h)
