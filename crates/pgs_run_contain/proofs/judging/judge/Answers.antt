use Rattle.std.proofs.Common.{◌≡◌, ℕ, List, ◌++◌, subst, ◌∙◌}
use Rattle.pgs_resolve.specs.SchemaOf.{schema, schema_of}
use Rattle.pgs_schema.specs.Told.{IsRefused}
use Rattle.pgs_run_input.proofs.Answering.{answer_is, answer_ok}
use Rattle.pgs_run_contain.specs.Names.{names_in}
use Rattle.pgs_run_contain.proofs.judging.judge.Goals as goal

pub returns-in_ok-names-in-Ok : goal.returns-in_ok-names-in-Ok
returns-in_ok-names-in-Ok c =
    let text = c.args.part.text in (
      answer_ok text c.in-Ok.schema (subst (λ (t : List ℕ). schema_of t ≡ schema c.in-Ok.schema) c.text.ensures c.in-Ok.ensures.schema),
      subst (λ (t : List ℕ). c.in_ok-names-in-Ok.names ≡ c.args.names ++ names_in t) c.text-in-Ok.ensures c.in_ok-names-in-Ok.ensures,
    )

pub returns-in_ok-refusal-in-Err : goal.returns-in_ok-refusal-in-Err
returns-in_ok-refusal-in-Err c =
    let text = c.args.part.text in
    (answer_is text ∙ c.in_ok-refusal-in-Err.ensures (schema_of text) (subst (λ (t : List ℕ). IsRefused (schema_of t) c.in-Err.unread) c.text.ensures c.in-Err.ensures.refused), c.of-text.ensures)
