-- A text and its front have the same causes.
use Rattle.std.proofs.Common.{◌≡◌, ℕ, ◌+◌, ◌<◌, Bool, true, false, nat_lt, List, [], ◌∷◌, length, refl, subst, arith}
use Rattle.std.proofs.lemmas.Bool.Decides.{nat_tests}
use Rattle.std.proofs.lemmas.List.{length-take}
use Rattle.pgs_run_lines.specs.Input.{front_of}
use Rattle.pgs_run_lines.proofs.Fronts.{front_whole}
use Rattle.pgs_run_input.specs.Input.{text_front, text_limit}
use Rattle.pgs_run_refusal.specs.Refused.{IsCause}

front_long : (input : List ℕ) → text_limit < length input → text_limit < length (text_front input)
unfolding front_of
front_long input long = let size = length-take (text_limit + 1) input in omega (arith, size)

by_length : (input : List ℕ) (cause : List (List ℕ)) (long : Bool) → nat_lt text_limit (length input) ≡ long → IsCause (text_front input) cause → IsCause input cause
by_length input [] long e is = tt
by_length input (line ∷ []) false e is = subst (λ text. IsCause text (line ∷ [])) (front_whole text_limit input (grind (arith, nat_tests))) is
by_length input (line ∷ []) true e is =
    let h : text_limit < length input = grind (arith, nat_tests) in
    let longer = front_long input h in
    let short = is.0 in absurd (omega (arith, longer, short))
by_length input (line ∷ (other ∷ lines)) long e is = absurd is

-- a cause in the front of a text is one in the text
pub cause_of_front : (input : List ℕ) (cause : List (List ℕ)) → IsCause (text_front input) cause → IsCause input cause
cause_of_front input cause is = by_length input cause (nat_lt text_limit (length input)) refl is
