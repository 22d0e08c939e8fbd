-- `closing` byte by byte, and from a place on.
use Rattle.std.proofs.Common.{◌≡◌, ◌∙◌, ap, ℕ, ◌+◌, ◌<◌, not, false, Option, Some, None, List, [], ◌∷◌, length, get_or, drop, refl, arith}
use Rattle.std.specs.Prelude.{option_map, if◌then◌else◌}
use Rattle.std.proofs.lemmas.Bool.{ne_eqb}
use Rattle.std.proofs.lemmas.Bool.Decides.{nat_tests}
use Rattle.std.proofs.lemmas.List.{at_drop_more, drop-drop}
use Rattle.pgs_lexer.specs.Form.{begins_with, is_quote, is_line_feed}
use Rattle.pgs_lexer.specs.Scan.{closing}

abbrev pub by_first : ℕ → List ℕ → Option ℕ
by_first a text =
    if is_line_feed a then None
    else (if not (is_quote a) then option_map (λ n. 1 + n) (closing text)
    else (if begins_with is_quote text then option_map (λ n. 2 + n) (closing (drop 1 text))
    else Some 0))

pub closing_step : (a : ℕ) (text : List ℕ) → closing (a ∷ text) ≡ by_first a text
closing_step a [] = grind (arith, nat_tests)
closing_step a (b ∷ text) = refl

closing_from : (text : List ℕ) (i : ℕ) → i < length text → closing (drop i text) ≡ by_first (get_or text i 0) (drop (i + 1) text)
closing_from text i h = at_drop_more closing text i 0 h ∙ closing_step (get_or text i 0) (drop (i + 1) text)

begins_from : (text : List ℕ) (i : ℕ) → i < length text → begins_with is_quote (drop i text) ≡ is_quote (get_or text i 0)
begins_from text i h = at_drop_more (begins_with is_quote) text i 0 h

pub closing_at_line_feed : (text : List ℕ) (i : ℕ) → i < length text → get_or text i 0 ≡ 10 → closing (drop i text) ≡ None
closing_at_line_feed text i h e = closing_from text i h ∙ ap (λ a. by_first a (drop (i + 1) text)) e

pub closing_at_other : (text : List ℕ) (i : ℕ) → i < length text → (get_or text i 0 ≡ 10 → ⊥) → (get_or text i 0 ≡ 39 → ⊥) → closing (drop i text) ≡ option_map (λ n. 1 + n) (closing (drop (i + 1) text))
closing_at_other text i h no_feed no_quote =
    let a = ne_eqb (get_or text i 0) 10 no_feed in
    let b = ne_eqb (get_or text i 0) 39 no_quote in
    closing_from text i h ∙ rw (a, b) refl

pub closing_at_pair : (text : List ℕ) (i : ℕ) → i + 1 < length text → get_or text i 0 ≡ 39 → get_or text (i + 1) 0 ≡ 39 → closing (drop i text) ≡ option_map (λ n. 2 + n) (closing (drop (i + 2) text))
closing_at_pair text i h e f =
    let step : drop 1 (drop (i + 1) text) ≡ drop (i + 2) text = drop-drop 1 (i + 1) text ∙ ap (λ n. drop n text) (omega arith) in
    closing_from text i (omega arith) ∙ ap (λ a. by_first a (drop (i + 1) text)) e
    ∙ rw (begins_from text (i + 1) h, f, step) refl

pub closing_at_end : (text : List ℕ) (i : ℕ) → i < length text → get_or text i 0 ≡ 39 → begins_with is_quote (drop (i + 1) text) ≡ false → closing (drop i text) ≡ Some 0
closing_at_end text i h e f = closing_from text i h ∙ ap (λ a. by_first a (drop (i + 1) text)) e ∙ rw f refl

pub later : (m n : ℕ) (o : Option ℕ) → option_map (λ k. m + k) (option_map (λ k. n + k) o) ≡ option_map (λ k. m + n + k) o
later m n None = refl
later m n (Some k) = ap Some (omega arith)
