-- What is found at the front is the longest item there, and where none is found there is none.
use Rattle.std.proofs.Common.{◌≡◌, ◌∙◌, sym, ap, ℕ, Option, Some, None, List, [], ◌∷◌, length, take, drop, refl, arith, subst, length-take-le, take-append-drop}
use Rattle.std.proofs.lemmas.Option.{same_Some}
use Rattle.pgs_lexer.specs.declared.item.Item.{Item}
use Rattle.pgs_lexer.specs.Form.{IsItem, IsAtFront, IsLongestItem, BeginsNoItem}
use Rattle.pgs_lexer.specs.Scan.{kind_begun, item_at, item_of}
use Rattle.pgs_lexer.proofs.Sizes.{item_found, item_within}
use Rattle.pgs_lexer.proofs.Sound.{size_has_form}
use Rattle.pgs_lexer.proofs.Beginnings.{kind_of, kind_told}
use Rattle.pgs_lexer.proofs.Reach.{Reaches, reaches}

-- any item at the front is reached
reached : (text : List ℕ) (item : Item) → IsAtFront item text → Reaches text item.size
reached text item h =
    let r = reaches item.kind (take item.size text) (drop item.size text) h.1 in
    let whole : Reaches text (length (take item.size text)) = subst (λ (l : List ℕ). Reaches l (length (take item.size text))) (take-append-drop item.size text) r in
    subst (Reaches text) (length-take-le item.size text h.0) whole

found_form : (text : List ℕ) (item : Item) → item_at text ≡ Some item → IsAtFront item text
found_form [] item e = absurd (let w = item_within [] item e in omega arith)
found_form (a ∷ text) item e =
    let w = item_within (a ∷ text) item e in
    let f = item_found a text item e in
    (w.1, subst (λ k. IsItem k (take item.size (a ∷ text)) (drop item.size (a ∷ text))) (sym f.0) (size_has_form (kind_begun a text) (a ∷ text) item.size f.1))

pub found_longest : (text : List ℕ) (item : Item) → item_at text ≡ Some item → IsLongestItem text item
found_longest text item e = record {
  here = found_form text item e;
  longest = λ other h.
      let r = reached text other h in
      let same : r.0 ≡ item = same_Some r.0 item (sym r.1 ∙ e) in
      omega (arith, r.2, ap (λ (i : Item). i.size) same);
}

pub none_begins : (text : List ℕ) → item_at text ≡ None → BeginsNoItem text
none_begins text e item h = let r = reached text item h in cc

same_item : (a b : Item) → a.kind ≡ b.kind → a.size ≡ b.size → a ≡ b
same_item a b k s = ap (λ kind. item_of kind a.size) k ∙ ap (item_of b.kind) s

-- there is one longest item
one_longest : (text : List ℕ) (a b : Item) → IsLongestItem text a → IsLongestItem text b → a ≡ b
one_longest text a b p q =
    let size : a.size ≡ b.size = omega (arith, p.longest b q.here, q.longest a p.here) in
    let kind = sym (kind_told a.kind (take a.size text) (drop a.size text) p.here.1) ∙ ap (λ n. kind_of (take n text)) size ∙ kind_told b.kind (take b.size text) (drop b.size text) q.here.1 in
    same_item a b kind size

longest_cases : (text : List ℕ) (item : Item) (o : Option Item) → item_at text ≡ o → IsLongestItem text item → o ≡ Some item
longest_cases text item None e long = absurd (none_begins text e item long.here)
longest_cases text item (Some found) e long = ap Some (one_longest text found item (found_longest text found e) long)

pub longest_found : (text : List ℕ) (item : Item) → IsLongestItem text item → item_at text ≡ Some item
longest_found text item long = longest_cases text item (item_at text) refl long

none_cases : (text : List ℕ) (o : Option Item) → item_at text ≡ o → BeginsNoItem text → o ≡ None
none_cases text None e none = refl
none_cases text (Some item) e none = absurd (none item (found_form text item e))

pub begins_none : (text : List ℕ) → BeginsNoItem text → item_at text ≡ None
begins_none text none = none_cases text (item_at text) refl none
