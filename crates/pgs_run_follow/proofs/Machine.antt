-- The machine tells what is told of an input within a budget.
use Rattle.std.proofs.Common.{◌≡◌, ℕ, ◌+◌, ◌<◌, Bool, true, false, nat_le, List, [], ◌∷◌, ◌++◌, length, map, take, is_some, Err, refl, sym, ap, ◌∙◌}
use Rattle.std.proofs.lemmas.Bool.{lt-ltb}
use Rattle.pgs_json.specs.declared.commit_fault.CommitFault.TheVariants as commits
use Rattle.pgs_json.specs.Commit.{read_commit_line}
use Rattle.pgs_run_lines.specs.Input.{lines_of, kept_of, front_of}
use Rattle.pgs_run_lines.specs.Machine as machine
use Rattle.pgs_run_lines.specs.Machine.{Told, RunState, Going, told_by, told_at_end, status_at_cut}
use Rattle.pgs_run_lines.proofs.Fronts.{same_of_front}
use Rattle.pgs_follow.specs.declared.fault.FollowFault.TheVariants.{LineTooLong}
use Rattle.pgs_follow.specs.Followed.{Followed, nothing_followed, faulted, after_line, after_lines, with_rest, followed, rest_of}
use Rattle.pgs_command.specs.declared.status.Status.{Status}
use Rattle.pgs_command.specs.declared.status.Status.TheVariants.{InputTooLong}
use Rattle.pgs_run_follow.specs.Following.{following, rest_after, told_last}
use Rattle.pgs_run_follow.specs.Texts.{standard}
use Rattle.pgs_run_follow.specs.Told.{told_of, told_follow}

-- ---- a line and its front say the same

long_read : (line : List ℕ) → 2097152 < length line → read_commit_line line ≡ Err commits.LineTooLong
unfolding read_commit_line
long_read line long = rw (lt-ltb 2097152 (length line) long) refl

front_read : (line : List ℕ) → read_commit_line (front_of 2097152 line) ≡ read_commit_line line
front_read line = same_of_front 2097152 read_commit_line (Err commits.LineTooLong) line long_read

line_of_front : (f : Followed) (line : List ℕ) → after_line standard f (front_of 2097152 line) ≡ after_line standard f line
line_of_front f line = rw (front_read line) refl

lines_lead : (f : Followed) (lines : List (List ℕ)) → machine.after_lines following (Going f) (map (front_of 2097152) lines) ≡ Going (after_lines standard f lines)
lines_lead f [] = refl
lines_lead f (line ∷ lines) =
    lines_lead (after_line standard f (front_of 2097152 line)) lines
    ∙ ap (λ (g : Followed). let at : RunState Followed Status = Going (after_lines standard g lines) in at) (line_of_front f line)

lines_tell : (f : Followed) (lines : List (List ℕ)) → machine.pieces_of_lines following (Going f) (map (front_of 2097152) lines) ≡ []
lines_tell f [] = refl
lines_tell f (line ∷ lines) = lines_tell (after_line standard f (front_of 2097152 line)) lines

-- after a fault the rest isn't told
with_ended : (f : Followed) (rest : List ℕ) → is_some f.fault ≡ true → with_rest f rest ≡ f
with_ended f rest e = rw e refl

count_ended : (f : Followed) (rest : List ℕ) → is_some f.fault ≡ true → rest_after f rest ≡ 0
count_ended f rest e = rw e refl

told_ended : (f : Followed) (rest : List ℕ) → is_some f.fault ≡ true → told_last f rest ≡ told_of f 0
told_ended f rest e = ap (λ (g : Followed). told_of g (rest_after g rest)) (with_ended f rest e) ∙ ap (told_of f) (count_ended f rest e)

rest_by : (f : Followed) (rest : List ℕ) (ended : Bool) → is_some f.fault ≡ ended → told_last f (front_of 2097152 rest) ≡ told_last f rest
rest_by f rest true e = told_ended f (front_of 2097152 rest) e ∙ sym (told_ended f rest e)
rest_by f rest false e =
    same_of_front 2097152 (told_last f) (told_of (faulted f (LineTooLong (f.lines + 1))) 0) rest (λ line long. rw (e, lt-ltb 2097152 (length line) long) refl)

rest_of_front : (f : Followed) (rest : List ℕ) → told_last f (front_of 2097152 rest) ≡ told_last f rest
rest_of_front f rest = rest_by f rest (is_some f.fault) refl

-- ---- an input

abbrev told_with : List (List ℕ) → Status → Told Status
told_with pieces status = record { pieces = pieces; status = status }

cut_is : (input : List ℕ) → machine.told_cut following 2097152 nothing_followed input ≡ told_with [] InputTooLong
unfolding kept_of
cut_is input =
    let lines = (lines_of input).ended in
    ap (λ (pieces : List (List ℕ)). told_with pieces (status_at_cut following (machine.after_lines following (Going nothing_followed) (map (front_of 2097152) lines)))) (lines_tell nothing_followed lines)
    ∙ ap (λ (at : RunState Followed Status). told_with [] (status_at_cut following at)) (lines_lead nothing_followed lines)

whole_is : (input : List ℕ) → machine.told_whole following 2097152 nothing_followed input ≡ told_of (followed standard input) (rest_of standard input)
unfolding kept_of followed rest_of
whole_is input =
    let lines = (lines_of input).ended in
    let rest = (lines_of input).rest in
    let end = told_at_end following (machine.after_lines following (Going nothing_followed) (map (front_of 2097152) lines)) (front_of 2097152 rest) in
    ap (λ (pieces : List (List ℕ)). told_with (pieces ++ end.pieces) end.status) (lines_tell nothing_followed lines)
    ∙ ap (λ (at : RunState Followed Status). told_at_end following at (front_of 2097152 rest)) (lines_lead nothing_followed lines)
    ∙ rest_of_front (after_lines standard nothing_followed lines) rest

by_budget : (input : List ℕ) (budget : ℕ) (cut : Bool) → nat_le budget (length input) ≡ cut → told_by following 2097152 nothing_followed input budget ≡ told_follow input budget
unfolding told_by told_follow
by_budget input budget true e = rw e (cut_is (take budget input))
by_budget input budget false e = rw e (whole_is input)

pub told_by_following : (input : List ℕ) (budget : ℕ) → told_by following 2097152 nothing_followed input budget ≡ told_follow input budget
told_by_following input budget = by_budget input budget (nat_le budget (length input)) refl
