-- Labels where one item stands, which is read without a list, and where several stand.
use Rattle.std.proofs.Common.{◌≡◌, ℕ, false, List, [], ◌∷◌, length, Some, None, refl, ◌∙◌, codes}
use Rattle.pgs_lexer.specs.Token.{Lexeme}
use Rattle.pgs_parser.specs.declared.unread.Unread.{Unread}
use Rattle.pgs_parser.specs.declared.unread.Unread.TheVariants as unread
use Rattle.pgs_parser.specs.Gives.{IsCause}
use Rattle.pgs_parser.specs.Reader.{Reader, Test, next, after, the_sign, sign_at, none_declared, listed_at, numbered, followed}
use Rattle.pgs_parser.specs.Types.{Written, together}
use Rattle.pgs_parser.specs.TypeReaders.{alternatives, unit_at, conj_at, level_at}
use Rattle.pgs_parser.proofs.Items.{more-none}

not_after : (test : Test) (tokens : List Lexeme) → next test tokens ≡ false → after test tokens ≡ None
not_after test [] e = refl
not_after test (token ∷ rest) e = rw e refl

module _ (text : List ℕ) (item : Reader Written) where
  -- where no further item begins, one stands
  pub of_one : (tokens : List Lexeme) (x : Written × List Lexeme) → item tokens ≡ Some x → next (the_sign text) x.1 ≡ false →
      listed_at (after (the_sign text)) item tokens ≡ Some (x.0 ∷ [], x.1)
  unfolding numbered
  of_one tokens x e stops = rw (e, more-none (after (the_sign text)) (λ place. item) none_declared (length x.1) 0 x.1 (not_after (the_sign text) x.1 stops)) refl

  -- the first item and those that follow it
  pub of_first : (tokens : List Lexeme) (x : Written × List Lexeme) → item tokens ≡ Some x →
      listed_at (after (the_sign text)) item tokens ≡ followed (after (the_sign text)) (λ place. item) none_declared 0 x
  unfolding numbered
  of_first tokens x e = rw e refl

pub conj_fails : (inner : Reader Written) (tokens : List Lexeme) (e : Unread) → IsCause (unit_at inner tokens) e → IsCause (conj_at inner tokens) e
unfolding conj_at numbered
conj_fails inner tokens unread.Memory h = tt
conj_fails inner tokens unread.OtherForm h = rw h refl

pub conj_of_one : (inner : Reader Written) (tokens : List Lexeme) (x : Written × List Lexeme) → unit_at inner tokens ≡ Some x →
    next (the_sign (codes "&")) x.1 ≡ false → conj_at inner tokens ≡ Some (x.0, x.1)
unfolding conj_at
conj_of_one inner tokens x e stops = rw (of_one (codes "&") (unit_at inner) tokens x e stops) refl

pub conj_cause : (inner : Reader Written) (tokens : List Lexeme) (x : Written × List Lexeme) → unit_at inner tokens ≡ Some x → (e : Unread) →
    IsCause (followed (sign_at "&") (λ place. unit_at inner) none_declared 0 x) e → IsCause (conj_at inner tokens) e
unfolding conj_at
conj_cause inner tokens x e unread.Memory h = tt
conj_cause inner tokens x e unread.OtherForm h = rw (of_first (codes "&") (unit_at inner) tokens x e ∙ h) refl

pub conj_of_all : (inner : Reader Written) (tokens : List Lexeme) (x : Written × List Lexeme) → unit_at inner tokens ≡ Some x →
    (all : List Written × List Lexeme) → followed (sign_at "&") (λ place. unit_at inner) none_declared 0 x ≡ Some all →
    conj_at inner tokens ≡ Some (together all.0, all.1)
unfolding conj_at
conj_of_all inner tokens x e all h = rw (of_first (codes "&") (unit_at inner) tokens x e ∙ h) refl

pub level_fails : (inner : Reader Written) (tokens : List Lexeme) (e : Unread) → IsCause (conj_at inner tokens) e → IsCause (level_at inner tokens) e
unfolding level_at numbered
level_fails inner tokens unread.Memory h = tt
level_fails inner tokens unread.OtherForm h = rw h refl

pub level_of_one : (inner : Reader Written) (tokens : List Lexeme) (x : Written × List Lexeme) → conj_at inner tokens ≡ Some x →
    next (the_sign (codes "|")) x.1 ≡ false → level_at inner tokens ≡ Some (x.0, x.1)
unfolding level_at
level_of_one inner tokens x e stops = rw (of_one (codes "|") (conj_at inner) tokens x e stops) refl

pub level_cause : (inner : Reader Written) (tokens : List Lexeme) (x : Written × List Lexeme) → conj_at inner tokens ≡ Some x → (e : Unread) →
    IsCause (followed (sign_at "|") (λ place. conj_at inner) none_declared 0 x) e → IsCause (level_at inner tokens) e
unfolding level_at
level_cause inner tokens x e unread.Memory h = tt
level_cause inner tokens x e unread.OtherForm h = rw (of_first (codes "|") (conj_at inner) tokens x e ∙ h) refl

pub level_of_all : (inner : Reader Written) (tokens : List Lexeme) (x : Written × List Lexeme) → conj_at inner tokens ≡ Some x →
    (all : List Written × List Lexeme) → followed (sign_at "|") (λ place. conj_at inner) none_declared 0 x ≡ Some all →
    level_at inner tokens ≡ Some (alternatives all.0, all.1)
unfolding level_at
level_of_all inner tokens x e all h = rw (of_first (codes "|") (conj_at inner) tokens x e ∙ h) refl
