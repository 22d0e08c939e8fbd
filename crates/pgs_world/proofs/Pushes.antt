-- One call more in a history.
use Rattle.std.proofs.Common.{◌≡◌, ℕ, ◌+◌, List, [], ◌∷◌, ◌++◌, length, take, drop, max, refl, ◌∙◌, ap, arith, length-drop}
use Rattle.std.proofs.lemmas.List.{take_all, take-append-le, drop-append-le}
use Rattle.pgs_world.specs.declared.mem_contents.Note.{Note}
use Rattle.pgs_world.specs.declared.mem_contents.Noted.{Noted}
use Rattle.pgs_world.specs.MemWorld.{State, Past, after_all}
use Rattle.pgs_world.specs.History.{taken_by, after_note, all_taken, outcome, history}

module _ (before : ℕ) (note : Note) (piece : List ℕ) (is : length piece ≡ taken_by note) where
  abbrev noted : Noted
  noted = record { before = before; note = note }

  pub all_taken-push : (notes : List Noted) → all_taken (notes ++ noted ∷ []) ≡ all_taken notes + length piece
  all_taken-push [] = omega arith
  all_taken-push (n ∷ notes) = omega (arith, all_taken-push notes)

  pub outcome-push : (state : State) (notes : List Noted) (pieces : List ℕ) → all_taken notes ≡ length pieces → outcome state (notes ++ noted ∷ []) (pieces ++ piece) ≡ after_note note piece (outcome state notes pieces)
  outcome-push state [] [] taken = ap (λ (l : List ℕ). after_note note l state) (take_all (taken_by note) piece (omega arith))
  outcome-push state [] (p ∷ pieces) taken = absurd (omega arith)
  outcome-push state (n ∷ notes) pieces taken =
      let front = take-append-le (taken_by n.note) pieces piece (omega arith) in
      let back = drop-append-le (taken_by n.note) pieces piece (omega arith) in
      ap (λ (l : List ℕ). outcome (after_note n.note l state) (notes ++ noted ∷ []) (drop (taken_by n.note) (pieces ++ piece))) front
      ∙ ap (λ (l : List ℕ). outcome (after_note n.note (take (taken_by n.note) pieces) state) (notes ++ noted ∷ []) l) back
      ∙ outcome-push (after_note n.note (take (taken_by n.note) pieces) state) notes (drop (taken_by n.note) pieces) (omega (arith, length-drop (taken_by n.note) pieces))

  pub history-push : (state : State) (notes : List Noted) (pieces : List ℕ) → all_taken notes ≡ length pieces → history state (notes ++ noted ∷ []) (pieces ++ piece) ≡ history state notes pieces ++ (record { moment = before; state = outcome state notes pieces }) ∷ []
  history-push state [] pieces taken = refl
  history-push state (n ∷ notes) pieces taken =
      let front = take-append-le (taken_by n.note) pieces piece (omega arith) in
      let back = drop-append-le (taken_by n.note) pieces piece (omega arith) in
      ap (λ (l : List ℕ). record { moment = n.before; state = state } ∷ history (after_note n.note l state) (notes ++ noted ∷ []) (drop (taken_by n.note) (pieces ++ piece))) front
      ∙ ap (λ (l : List ℕ). record { moment = n.before; state = state } ∷ history (after_note n.note (take (taken_by n.note) pieces) state) (notes ++ noted ∷ []) l) back
      ∙ ap (λ (l : List Past). record { moment = n.before; state = state } ∷ l) (history-push (after_note n.note (take (taken_by n.note) pieces) state) notes (drop (taken_by n.note) pieces) (omega (arith, length-drop (taken_by n.note) pieces)))

-- the first moment after one past state more
pub after_all-push : (past : List Past) (was : Past) → after_all (past ++ was ∷ []) ≡ max (after_all past) (was.moment + 1)
after_all-push [] was = omega arith
after_all-push (p ∷ past) was = omega (arith, after_all-push past was)
