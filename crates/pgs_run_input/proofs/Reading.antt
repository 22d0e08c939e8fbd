-- More of an input is read into its text.
use Rattle.std.proofs.Common.{◌≡◌, inl, inr, ℕ, ◌+◌, ◌-◌, ◌≤◌, List, [], ◌++◌, length, refl, sym, ap, ◌∙◌, length-append, arith}
use Rattle.pgs_world.specs.Source.{Takes}
use Rattle.pgs_run_lines.proofs.Fronts.{front_left, front_none}
use Rattle.pgs_run_lines.proofs.ReadingOn.{none_taken, takes_on}
use Rattle.pgs_command.specs.declared.status.Status.TheVariants.{Memory}
use Rattle.pgs_command.specs.Setting.{SourceState}
use Rattle.pgs_run_input.specs.Input.{text_front, text_limit}
use Rattle.pgs_run_input.specs.Text.{IsUnread}

-- these bytes were taken, and so much of the budget is left
pub record ReadSoFar (budget rest : ℕ) (before now : SourceState) (text : List ℕ) : Type 0 where
  pub bytes : List ℕ
  pub taken : Takes before.left now.left bytes
  pub counted : length bytes + rest ≡ budget
  pub front : text ≡ text_front bytes
  pub faults : now.faults ≡ before.faults

pub read_none : (budget : ℕ) (at : SourceState) (text : List ℕ) → text ≡ [] → ReadSoFar budget budget at at text
read_none budget at text new = record {
  bytes = [];
  taken = none_taken at.left;
  counted = omega arith;
  front = new ∙ sym (front_none text_limit);
  faults = refl;
}

pub read_more : (budget rest count : ℕ) (before mid now : SourceState) (text chunk next : List ℕ) → ReadSoFar budget rest before mid text → length chunk ≡ count → count ≤ rest → Takes mid.left now.left chunk
    → now.faults ≡ mid.faults → next ≡ text_front (text ++ chunk) → ReadSoFar budget (rest - count) before now next
read_more budget rest count before mid now text chunk next far is within taken faults grown = record {
  bytes = far.bytes ++ chunk;
  taken = takes_on before.left mid.left now.left far.bytes chunk far.taken taken;
  counted = let e = length-append far.bytes chunk in let h = far.counted in omega arith;
  front = grown ∙ ap (λ t. text_front (t ++ chunk)) far.front ∙ front_left text_limit far.bytes chunk;
  faults = faults ∙ far.faults;
}

-- more was read, and there was no memory to keep it
pub unread_more : (budget rest count : ℕ) (before mid now : SourceState) (text chunk : List ℕ) → ReadSoFar budget rest before mid text → length chunk ≡ count → count ≤ rest → Takes mid.left now.left chunk
    → now.faults ≡ mid.faults → IsUnread budget before now Memory
unread_more budget rest count before mid now text chunk far is within taken faults =
    let more = read_more budget rest count before mid now text chunk (text_front (text ++ chunk)) far is within taken faults refl in
    record { bytes = more.bytes; taken = more.taken; within = let h = more.counted in omega arith; why = inr (inl (refl, more.faults)) }
