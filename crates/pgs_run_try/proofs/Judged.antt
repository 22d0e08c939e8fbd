-- What is told of an answer, by how graphs are judged.
use Rattle.std.proofs.Common.{◌≡◌, ℕ, ◌+◌, List, [], ◌∷◌, Result, Ok, Err, refl, sym, ap, ◌∙◌}
use Rattle.pgs_base.specs.Graph.{Graph}
use Rattle.pgs_violation.specs.declared.rejection.Rejection.{Rejection}
use Rattle.pgs_answer.specs.Lines.{committed_line, refused_line}
use Rattle.pgs_run_input.specs.Session.{Standing, with_text}
use Rattle.pgs_run_try.specs.declared.judging.Judging.{Judging}
use Rattle.pgs_run_try.specs.declared.judging.Judging.TheVariants.{EachLine, AtEnd}
use Rattle.pgs_run_try.specs.Judging.{telling_by}

-- each refusal is told
pub refusal_told : (judging : Judging) (s : Standing) (text : List ℕ) → telling_by judging s (Err text) ≡ refused_line (s.number + 1) text ∷ []
unfolding telling_by
refusal_told EachLine s text = refl
refusal_told AtEnd s text = refl

-- a commit is told where each line is judged
pub commit_told : (s : Standing) (g : Graph) → telling_by EachLine s (Ok g) ≡ committed_line (s.number + 1) (s.commits + 1) ∷ []
unfolding telling_by
commit_told s g = refl

pub commit_not_told : (s : Standing) (g : Graph) → telling_by AtEnd s (Ok g) ≡ []
unfolding telling_by
commit_not_told s g = refl

-- what is told of a commit, where the piece is as the way of judging has it
pub told_of_commit : (judging : Judging) (s : Standing) (g : Graph) (commit : ℕ) (pieces : List (List ℕ)) → commit ≡ s.commits + 1 → (judging ≡ EachLine → pieces ≡ committed_line (s.number + 1) commit ∷ []) → (judging ≡ AtEnd → pieces ≡ []) → pieces ≡ telling_by judging s (Ok g)
told_of_commit EachLine s g commit pieces is each end = each refl ∙ ap (λ n. committed_line (s.number + 1) n ∷ []) is ∙ sym (commit_told s g)
told_of_commit AtEnd s g commit pieces is each end = end refl ∙ sym (commit_not_told s g)

-- the same of a decision
pub told_of_done : (judging : Judging) (s : Standing) (decision : Result Graph Rejection) (g : Graph) (commit : ℕ) (pieces : List (List ℕ)) → decision ≡ Ok g → commit ≡ s.commits + 1 → (judging ≡ EachLine → pieces ≡ committed_line (s.number + 1) commit ∷ []) → (judging ≡ AtEnd → pieces ≡ []) → pieces ≡ telling_by judging s (with_text decision)
told_of_done judging s decision g commit pieces done is each end = told_of_commit judging s g commit pieces is each end ∙ ap (λ d. telling_by judging s (with_text d)) (sym done)
