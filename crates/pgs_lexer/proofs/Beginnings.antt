-- The first bytes of an item tell its kind.
use Rattle.std.proofs.Common.{◌≡◌, ◌∙◌, sym, ap, ℕ, ◌<◌, true, false, List, [], ◌∷◌, ◌++◌, length, refl, arith, subst, inl, inr, append-nil}
use Rattle.std.specs.List.{list_all}
use Rattle.std.proofs.lemmas.Bool.{and_parts}
use Rattle.std.proofs.lemmas.Bool.Decides.{nat_tests}
use Rattle.pgs_base.specs.Name.{is_name, is_name_start}
use Rattle.pgs_lexer.specs.declared.item.ItemKind.{ItemKind}
use Rattle.pgs_lexer.specs.declared.item.ItemKind.TheVariants.{Space, Comment, Word, Quoted, Number, Text, Sign}
use Rattle.pgs_lexer.specs.Form.{begins_with, is_space, is_digit, IsItem, signs}
use Rattle.pgs_lexer.specs.Scan.{kind_begun, is_minus}
use Rattle.pgs_lexer.proofs.Lists.{among_bytes}

abbrev pub kind_of : List ℕ → ItemKind
kind_of [] = Sign
kind_of (a ∷ text) = kind_begun a text

-- the bytes begin an item of that kind, whatever follows
abbrev pub Begins : ItemKind → List ℕ → Type 0
Begins kind front = (after : List ℕ) → kind_of (front ++ after) ≡ kind

pub begins_space : (a : ℕ) (after : List ℕ) → is_space a ≡ true → kind_begun a after ≡ Space
begins_space a after e = rw e refl

name_no_space : (a : ℕ) → is_name_start a ≡ true → is_space a ≡ false
name_no_space a e = grind (arith, nat_tests)

pub begins_word : (a : ℕ) (after : List ℕ) → is_name_start a ≡ true → kind_begun a after ≡ Word
begins_word a after e = let s = name_no_space a e in rw (s, e) refl

digit_no_space : (a : ℕ) → is_digit a ≡ true → is_space a ≡ false
digit_no_space a e = grind (arith, nat_tests)

digit_no_name : (a : ℕ) → is_digit a ≡ true → is_name_start a ≡ false
digit_no_name a e = grind (arith, nat_tests)

pub digit_no_minus : (a : ℕ) → is_digit a ≡ true → is_minus a ≡ false
digit_no_minus a e = grind (arith, nat_tests)

pub begins_digit : (a : ℕ) (after : List ℕ) → is_digit a ≡ true → kind_begun a after ≡ Number
begins_digit a after e = let s = digit_no_space a e in let n = digit_no_name a e in rw (s, n, e) refl

pub begins_minus : (after : List ℕ) → begins_with is_digit after ≡ true → kind_begun 45 after ≡ Number
begins_minus after e = rw e refl

pub name_begins : (front after : List ℕ) → is_name front ≡ true → kind_of (front ++ after) ≡ Word
name_begins [] after e = cc
name_begins (a ∷ more) after e =
    let p = and_parts _ _ e in
    let q = and_parts _ _ p.0 in
    begins_word a (more ++ after) q.0

pub digits_begin : (digits after : List ℕ) → 0 < length digits → list_all is_digit digits ≡ true → begins_with is_digit (digits ++ after) ≡ true
digits_begin [] after some e = absurd (omega arith)
digits_begin (a ∷ digits) after some e = let p = and_parts (is_digit a) (list_all is_digit digits) e in p.0

number_begins : (digits after : List ℕ) → 0 < length digits → list_all is_digit digits ≡ true → kind_of (digits ++ after) ≡ Number
number_begins [] after some e = absurd (omega arith)
number_begins (a ∷ digits) after some e = let p = and_parts (is_digit a) (list_all is_digit digits) e in begins_digit a (digits ++ after) p.0

begins : (kind : ItemKind) (front rest : List ℕ) → IsItem kind front rest → (after : List ℕ) → (kind ≡ Sign → ⊥) → kind_of (front ++ after) ≡ kind
begins Space front rest h after other = subst (λ (l : List ℕ). kind_of (l ++ after) ≡ Space) (sym h.2) (begins_space h.0 after h.1)
begins Comment front rest h after other = subst (λ (l : List ℕ). kind_of (l ++ after) ≡ Comment) (sym h.3) refl
begins Word front rest h after other = name_begins front after h.0
begins Quoted front rest h after other = subst (λ (l : List ℕ). kind_of (l ++ after) ≡ Quoted) (sym h.2) refl
begins Number front rest h after other = elim (h.3) [
  | inl plain ↦ subst (λ (l : List ℕ). kind_of (l ++ after) ≡ Number) (sym plain) (number_begins h.0 after h.1 h.2)
  | inr minus ↦ subst (λ (l : List ℕ). kind_of (l ++ after) ≡ Number) (sym minus) (begins_minus (h.0 ++ after) (digits_begin h.0 after h.1 h.2))
]
begins Text front rest h after other = subst (λ (l : List ℕ). kind_of (l ++ after) ≡ Text) (sym h.3) refl
begins Sign front rest h after other = absurd (other refl)

whole : (kind : ItemKind) (front rest : List ℕ) → IsItem kind front rest → (kind ≡ Sign → ⊥) → kind_of front ≡ kind
whole kind front rest h other = ap kind_of (sym (append-nil front)) ∙ begins kind front rest h [] other

-- an item has the kind that its own first bytes tell
pub kind_told : (kind : ItemKind) (front rest : List ℕ) → IsItem kind front rest → kind_of front ≡ kind
kind_told Space front rest h = whole Space front rest h (λ e. cc)
kind_told Comment front rest h = whole Comment front rest h (λ e. cc)
kind_told Word front rest h = whole Word front rest h (λ e. cc)
kind_told Quoted front rest h = whole Quoted front rest h (λ e. cc)
kind_told Number front rest h = whole Number front rest h (λ e. cc)
kind_told Text front rest h = whole Text front rest h (λ e. cc)
kind_told Sign front rest h = among_bytes (λ l. kind_of l ≡ Sign) front signs h (refl, (refl, (refl, (refl, (refl, (refl, (refl, (refl, (refl, (refl, (refl, (refl, (refl, (refl, (refl, (refl, (refl, tt)))))))))))))))))
