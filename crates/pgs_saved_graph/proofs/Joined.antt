-- Frames one after the other, behind an open gate.
use Rattle.std.proofs.Common.{◌≡◌, ℕ, ◌-◌, List, [], ◌∷◌, ◌++◌, length, Some, refl, sym, ◌∙◌, ap, append_assoc, arith, length-append}
use Rattle.std.proofs.Math.ListN.{set}
use Rattle.std.proofs.Math.Seq.{set-append_seam}
use Rattle.std.proofs.lemmas.List.{append-nil}
use Rattle.pgs_codec.specs.Frame.{framed}
use Rattle.pgs_journal.specs.declared.format.Format.TheVariants.{Second}
use Rattle.pgs_journal.specs.Format.{IsFrames, open_records, record_body}

-- a frame with a number is the record of that number behind its gate, and a closed gate
abbrev body : ℕ → List ℕ → List ℕ
body number payload = record_body Second number payload

frame_is : (number : ℕ) (payload : List ℕ) → framed (Some number) payload ≡ body number payload ++ 0 ∷ []
frame_is number payload = refl

pub frame_first : (payload : List ℕ) → IsFrames (payload ∷ []) 2 (framed (Some 1) payload)
frame_first payload = record { spelled = ap (λ (l : List ℕ). 1 ∷ (l ++ 0 ∷ [])) (sym (append-nil (body 1 payload))); follows = omega arith }

last_opened : (front : List ℕ) (place : ℕ) → place ≡ length (front ++ 0 ∷ []) - 1 → set (front ++ 0 ∷ []) place 1 ≡ front ++ 1 ∷ []
last_opened front place at =
    let here : place ≡ length front = omega (arith, at, length-append front (0 ∷ [])) in
    rw here (set-append_seam front 0 [] 1)

-- a first frame with its gate opened
pub gate_opened : (payload frame : List ℕ) (place : ℕ) → frame ≡ framed (Some 1) payload → place ≡ length frame - 1
    → 1 ∷ set frame place 1 ≡ open_records Second 1 (payload ∷ []) ++ 1 ∷ []
gate_opened payload frame place is at =
    ap (λ (l : List ℕ). 1 ∷ set l place 1) is
    ∙ ap (λ (l : List ℕ). 1 ∷ l) (last_opened (body 1 payload) place (at ∙ ap (λ (l : List ℕ). length l - 1) is))
    ∙ ap (λ (l : List ℕ). 1 ∷ (l ++ 1 ∷ [])) (sym (append-nil (body 1 payload)))

joined : (one frame other : List ℕ) → frame ≡ other ++ 0 ∷ [] → ((one ++ []) ++ 1 ∷ []) ++ frame ≡ (one ++ 1 ∷ other) ++ 0 ∷ []
joined one frame other is = rw is (simp (append_assoc, append-nil))

-- a first frame with its gate opened, and a second frame behind it
pub frames_joined : (first second items : List ℕ) → 1 ∷ items ≡ open_records Second 1 (first ∷ []) ++ 1 ∷ []
    → IsFrames (first ∷ second ∷ []) 3 (items ++ framed (Some 2) second)
frames_joined first second items opened =
    record {
      spelled =
          ap (λ (l : List ℕ). l ++ framed (Some 2) second) opened
          ∙ ap (λ (l : List ℕ). 1 ∷ l) (joined (body 1 first) (framed (Some 2) second) (body 2 second ++ []) (ap (λ (l : List ℕ). l ++ 0 ∷ []) (sym (append-nil (body 2 second)))));
      follows = omega arith;
    }
