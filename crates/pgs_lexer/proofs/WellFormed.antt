-- A token has the form of its kind, since its item has the form of its own.
use Rattle.std.proofs.Common.{◌≡◌, ℕ, Bool, true, false, cond, Some, List, refl, subst, inl, inr}
use Rattle.std.proofs.lemmas.Option.{same_Some}
use Rattle.pgs_lexer.specs.declared.item.ItemKind.{ItemKind}
use Rattle.pgs_lexer.specs.declared.item.ItemKind.TheVariants.{Space, Comment, Word, Quoted, Number, Text, Sign}
use Rattle.pgs_lexer.specs.declared.kind.TokenKind.{TokenKind}
use Rattle.pgs_lexer.specs.declared.kind.TokenKind.TheVariants.{Name, Keyword, Number as ANumber, Text as AText, Sign as ASign}
use Rattle.pgs_lexer.specs.Form.{IsItem}
use Rattle.pgs_lexer.specs.Token.{HasForm, is_keyword, token_kind}

word_form : (bytes rest : List ℕ) (kind : TokenKind) (b : Bool) → is_keyword bytes ≡ b → IsItem Word bytes rest → Some (cond b Keyword Name) ≡ Some kind → HasForm kind bytes
word_form bytes rest kind true is item e = subst (λ k. HasForm k bytes) (same_Some Keyword kind e) is
word_form bytes rest kind false is item e = subst (λ k. HasForm k bytes) (same_Some Name kind e) (inl (item.0, is))

pub token_form : (item : ItemKind) (bytes rest : List ℕ) (kind : TokenKind) → IsItem item bytes rest → token_kind item bytes ≡ Some kind → HasForm kind bytes
token_form Space bytes rest kind h e = cc
token_form Comment bytes rest kind h e = cc
token_form Word bytes rest kind h e = word_form bytes rest kind (is_keyword bytes) refl h e
token_form Quoted bytes rest kind h e = subst (λ k. HasForm k bytes) (same_Some Name kind e) (inr h)
token_form Number bytes rest kind h e = subst (λ k. HasForm k bytes) (same_Some ANumber kind e) h
token_form Text bytes rest kind h e = subst (λ k. HasForm k bytes) (same_Some AText kind e) (h.0, h.1, h.2, h.3, refl)
token_form Sign bytes rest kind h e = subst (λ k. HasForm k bytes) (same_Some ASign kind e) h
