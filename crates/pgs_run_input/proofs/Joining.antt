-- How the front of a part grows by one more line.
use Rattle.std.proofs.Common.{◌≡◌, ℕ, Bool, true, false, not, List, [], ◌∷◌, ◌++◌, refl, sym, ap, ◌∙◌, append_assoc}
use Rattle.std.specs.List.{join_with_byte}
use Rattle.pgs_run_lines.proofs.Fronts.{front_left, front_right, front_front}
use Rattle.pgs_run_input.specs.Input.{text_limit, text_front}
use Rattle.pgs_run_input.specs.Part.{Part, with_line, has_none}
use Rattle.pgs_run_input.proofs.Separating.{join_more}

pub has_some : (lines : List (List ℕ)) (line : List ℕ) → has_none (lines ++ line ∷ []) ≡ false
has_some [] line = refl
has_some (x ∷ xs) line = refl

text_more : (part : Part) (text line : List ℕ) → part.begun ≡ true → part.text ≡ text_front text → (with_line part (text_front line)).text ≡ text_front (text ++ 10 ∷ line)
unfolding with_line
text_more part text line begun is =
    rw (begun, is)
    (front_left text_limit (text_front text ++ 10 ∷ []) (text_front line)
    ∙ ap text_front (append_assoc (text_front text) (10 ∷ []) (text_front line))
    ∙ front_left text_limit text (10 ∷ text_front line)
    ∙ ap text_front (sym (append_assoc text (10 ∷ []) (text_front line)))
    ∙ front_right text_limit (text ++ 10 ∷ []) line
    ∙ ap text_front (append_assoc text (10 ∷ []) line))

text_first : (part : Part) (line : List ℕ) → part.begun ≡ false → part.text ≡ text_front [] → (with_line part (text_front line)).text ≡ text_front line
unfolding with_line
text_first part line begun is = rw (begun, is) (front_left text_limit [] (text_front line) ∙ front_front text_limit line)

pub begun_more : (part : Part) (line : List ℕ) (begun : Bool) → part.begun ≡ begun → (with_line part line).begun ≡ true
unfolding with_line
begun_more part line true e = rw e refl
begun_more part line false e = rw e refl

-- the part has the front of the text of these lines: so it is with one more
pub text_of_more : (part : Part) (lines : List (List ℕ)) (line : List ℕ) → part.text ≡ text_front (join_with_byte 10 lines) → part.begun ≡ not (has_none lines) → (with_line part (text_front line)).text ≡ text_front (join_with_byte 10 (lines ++ line ∷ []))
text_of_more part [] line text begun = text_first part line begun text
text_of_more part (x ∷ xs) line text begun =
    text_more part (join_with_byte 10 (x ∷ xs)) line begun text ∙ ap text_front (sym (join_more (x ∷ xs) line))
