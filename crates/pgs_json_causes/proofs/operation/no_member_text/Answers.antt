use Rattle.std.proofs.Common.{ℕ, List, ◌++◌, ap, ◌∙◌}
use Rattle.std.specs.Prelude.{codes}
use Rattle.pgs_json_causes.specs.Shown.{shown}
use Rattle.pgs_json_causes.proofs.operation.no_member_text.Goals as goal

pub returns : goal.returns
returns c =
    c.in_ok-cause.ensures
    ∙ ap (λ (word : List ℕ). shown c.args.name.now ++ (codes " is no member of " ++ word)) (c.as_bytes.ensures.value ∙ c.kind_word-word.ensures)
