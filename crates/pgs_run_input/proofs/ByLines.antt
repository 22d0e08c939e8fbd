-- The machine of a teller tells what a definition on whole lines says.
use Rattle.std.proofs.Common.{◌≡◌, ◌⊎◌, inl, inr, ℕ, Bool, true, false, nat_le, List, [], ◌∷◌, ◌++◌, length, take, map, cond, refl, sym, ap, ap₂, subst, ◌∙◌, append_assoc}
use Rattle.std.proofs.lemmas.List.{append-nil}
use Rattle.pgs_run_lines.specs.Input.{front_of, kept_of, lines_of}
use Rattle.pgs_run_lines.specs.Machine as machine
use Rattle.pgs_run_lines.specs.Machine.{Told, RunState, Going, Ended, told_by, told_at_end, status_at_cut}
use Rattle.pgs_run_lines.specs.Telling.{Teller, telling, told_last}

-- it has ended there: more lines change nothing, and tell nothing
pub record EndsIn {E : Type 0} (t : Teller E) (s : t.State) : Type 0 where
  pub status : E
  pub is : t.next s ≡ Ended status
  pub after : (line : List ℕ) → t.after s line ≡ s
  pub pieces : (line : List ℕ) → t.pieces s line ≡ []
  pub told : t.told s ≡ record { pieces = []; status = status }

-- What lines tell, where the input is whole and where it is cut, by the states to which they lead.
pub record TellsLines {E : Type 0} (t : Teller E) (limit : ℕ) (told : Bool → List (List ℕ) → Told E) (Stands : List (List ℕ) → t.State → Type 0) (start : t.State) : Type 0 where
  pub goes : t.next start ≡ Going start
  pub begins : Stands [] start
  pub none : (told false []).pieces ≡ []
  pub next : (lines : List (List ℕ)) (s : t.State) → Stands lines s → (t.next s ≡ Going s) ⊎ EndsIn t s
  pub line : (lines : List (List ℕ)) (line : List ℕ) (s : t.State) → Stands lines s → Stands (lines ++ line ∷ []) (t.after s (front_of limit line))
  pub pieces : (lines : List (List ℕ)) (line : List ℕ) (s : t.State) → Stands lines s → (told false (lines ++ line ∷ [])).pieces ≡ (told false lines).pieces ++ t.pieces s (front_of limit line)
  pub cut : (lines : List (List ℕ)) (s : t.State) → Stands lines s → (told false lines).status ≡ status_at_cut (telling t) (t.next s)
  pub end : (lines : List (List ℕ)) (s : t.State) → Stands lines s → told true lines ≡ record { pieces = (told false lines).pieces ++ (t.told s).pieces; status = (t.told s).status }

module _ {E : Type 0} (t : Teller E) (limit : ℕ) (told : Bool → List (List ℕ) → Told E) (Stands : List (List ℕ) → t.State → Type 0) (start : t.State) (tells : TellsLines t limit told Stands start) where
  abbrev m : machine.Machine E
  m = telling t

  abbrev front : List ℕ → List ℕ
  front line = front_of limit line

  abbrev told_of : List (List ℕ) → E → Told E
  told_of pieces status = record { pieces = pieces; status = status }

  -- ---- one line

  after_at : (s : t.State) (line : List ℕ) → (t.next s ≡ Going s) ⊎ EndsIn t s → machine.after_line m (t.next s) line ≡ t.next (t.after s line)
  after_at s line (inl goes) = ap (λ at. machine.after_line m at line) goes
  after_at s line (inr ends) = ap (λ at. machine.after_line m at line) ends.is ∙ sym ends.is ∙ ap t.next (sym (ends.after line))

  pieces_at : (s : t.State) (line : List ℕ) → (t.next s ≡ Going s) ⊎ EndsIn t s → machine.pieces_of_line m (t.next s) line ≡ t.pieces s line
  pieces_at s line (inl goes) = ap (λ at. machine.pieces_of_line m at line) goes
  pieces_at s line (inr ends) = ap (λ at. machine.pieces_of_line m at line) ends.is ∙ sym (ends.pieces line)

  end_at : (s : t.State) (rest : List ℕ) → (t.next s ≡ Going s) ⊎ EndsIn t s → told_at_end m (t.next s) rest ≡ told_last t s rest
  end_at s rest (inl goes) = ap (λ at. told_at_end m at rest) goes
  end_at s rest (inr ends) =
      ap (λ at. told_at_end m at rest) ends.is
      ∙ ap₂ (λ ps (end : Told E). told_of (ps ++ end.pieces) end.status) (sym (ends.pieces rest)) (sym (ap t.told (ends.after rest) ∙ ends.told))

  -- ---- more lines

  abbrev after_all : t.State → List (List ℕ) → t.State
  after_all s [] = s
  after_all s (line ∷ lines) = after_all (t.after s (front line)) lines

  after_lines : (lines more : List (List ℕ)) (s : t.State) → Stands lines s → machine.after_lines m (t.next s) (map front more) ≡ t.next (after_all s more)
  after_lines lines [] s st = refl
  after_lines lines (line ∷ more) s st =
      ap (λ at. machine.after_lines m at (map front more)) (after_at s (front line) (tells.next lines s st))
      ∙ after_lines (lines ++ line ∷ []) more (t.after s (front line)) (tells.line lines line s st)

  stands_lines : (lines more : List (List ℕ)) (s : t.State) → Stands lines s → Stands (lines ++ more) (after_all s more)
  stands_lines lines [] s st = subst (λ ls. Stands ls s) (sym (append-nil lines)) st
  stands_lines lines (line ∷ more) s st =
      subst (λ ls. Stands ls (after_all s (line ∷ more))) (append_assoc lines (line ∷ []) more)
      (stands_lines (lines ++ line ∷ []) more (t.after s (front line)) (tells.line lines line s st))

  tells_lines : (lines more : List (List ℕ)) (s : t.State) → Stands lines s → (told false (lines ++ more)).pieces ≡ (told false lines).pieces ++ machine.pieces_of_lines m (t.next s) (map front more)
  tells_lines lines [] s st = ap (λ ls. (told false ls).pieces) (append-nil lines) ∙ sym (append-nil (told false lines).pieces)
  tells_lines lines (line ∷ more) s st =
      let next = t.after s (front line) in
      let rest = machine.pieces_of_lines m (t.next next) (map front more) in
      ap (λ ls. (told false ls).pieces) (sym (append_assoc lines (line ∷ []) more))
      ∙ tells_lines (lines ++ line ∷ []) more next (tells.line lines line s st)
      ∙ ap (λ pieces. pieces ++ rest) (tells.pieces lines line s st)
      ∙ append_assoc (told false lines).pieces (t.pieces s (front line)) rest
      ∙ ap₂ (λ one at. (told false lines).pieces ++ (one ++ machine.pieces_of_lines m at (map front more))) (sym (pieces_at s (front line) (tells.next lines s st))) (sym (after_at s (front line) (tells.next lines s st)))

  -- ---- an input

  module _ (lines : List (List ℕ)) where
    abbrev last : t.State
    last = after_all start lines

    stands : Stands lines last
    stands = stands_lines [] lines start tells.begins

    leads : machine.after_lines m (Going start) (map front lines) ≡ t.next last
    leads = ap (λ at. machine.after_lines m at (map front lines)) (sym tells.goes) ∙ after_lines [] lines start tells.begins

    pieces : machine.pieces_of_lines m (Going start) (map front lines) ≡ (told false lines).pieces
    pieces =
        ap (λ at. machine.pieces_of_lines m at (map front lines)) (sym tells.goes)
        ∙ sym (tells_lines [] lines start tells.begins ∙ ap (λ ps. ps ++ machine.pieces_of_lines m (t.next start) (map front lines)) tells.none)

    cut_lines : told_of (machine.pieces_of_lines m (Going start) (map front lines)) (status_at_cut m (machine.after_lines m (Going start) (map front lines))) ≡ told false lines
    cut_lines = ap₂ told_of pieces (ap (status_at_cut m) leads ∙ sym (tells.cut lines last stands))

    whole_lines : (rest : List ℕ) → (let end = told_at_end m (machine.after_lines m (Going start) (map front lines)) (front rest) in told_of (machine.pieces_of_lines m (Going start) (map front lines) ++ end.pieces) end.status) ≡ told true (lines ++ rest ∷ [])
    whole_lines rest =
        let next = t.after last (front rest) in
        ap₂ (λ ps (end : Told E). told_of (ps ++ end.pieces) end.status) pieces (ap (λ at. told_at_end m at (front rest)) leads ∙ end_at last (front rest) (tells.next lines last stands))
        ∙ ap (λ ps. told_of ps (t.told next).status) (sym (append_assoc (told false lines).pieces (t.pieces last (front rest)) (t.told next).pieces) ∙ ap (λ ps. ps ++ (t.told next).pieces) (sym (tells.pieces lines rest last stands)))
        ∙ sym (tells.end (lines ++ rest ∷ []) next (tells.line lines rest last stands))

  kept_cut : (input : List ℕ) → machine.told_cut m limit start input ≡ told false (lines_of input).ended
  unfolding kept_of
  kept_cut input = cut_lines (lines_of input).ended

  kept_whole : (input : List ℕ) → machine.told_whole m limit start input ≡ told true ((lines_of input).ended ++ (lines_of input).rest ∷ [])
  unfolding kept_of
  kept_whole input = whole_lines (lines_of input).ended (lines_of input).rest

  -- the machine tells what lines do, of an input within a budget
  pub by_lines : (input : List ℕ) (budget : ℕ) (cut : Bool) → nat_le budget (length input) ≡ cut
      → told_by m limit start input budget ≡ cond cut (told false (lines_of (take budget input)).ended) (told true ((lines_of input).ended ++ (lines_of input).rest ∷ []))
  unfolding told_by
  by_lines input budget true e = rw e (kept_cut (take budget input))
  by_lines input budget false e = rw e (kept_whole input)
