-- What the judgement of a schema text leads to, and tells.
use Rattle.std.proofs.Common.{◌≡◌, ℕ, List, [], ◌∷◌, Result, Err, sym, ap, subst, ◌∙◌}
use Rattle.pgs_resolve.specs.SchemaOf.{schema, schema_of}
use Rattle.pgs_syntax.specs.declared.resolved.Resolved.{Resolved}
use Rattle.pgs_run_input.specs.Answers.{schema_answer}
use Rattle.pgs_run_input.specs.Judged.{pieces_behind}
use Rattle.pgs_run_input.proofs.Answering.{answer_is, answer_ok}
use Rattle.pgs_run_refusal.specs.Refused.{HasRefusal}
use Rattle.pgs_run_check_try.specs.declared.phase.Phase.TheVariants.{Refused}
use Rattle.pgs_run_check_try.specs.Explaining.{after_schema, after_text}
use Rattle.pgs_run_check_try.specs.Rule.{IsRightSchema}
use Rattle.pgs_run_check_try.specs.Telling.{TellsText}

-- ---- it has a schema

pub tells_schema : (text : List ℕ) (resolved : Resolved) → schema_of text ≡ schema resolved → TellsText text []
tells_schema text resolved is =
    let answer = answer_ok text resolved is in
    record {
      causes = λ number. [];
      right = subst (λ (found : Result Resolved (List ℕ)). IsRightSchema (λ number. []) text found) (sym answer) tt;
      is = sym (ap (pieces_behind []) answer);
    }

-- ---- it is refused

module _ (text : List ℕ) (pieces : List (List ℕ)) (has : HasRefusal (schema_of text) text pieces) where
  answer : schema_answer text ≡ Err has.refused.text
  answer = answer_is text ∙ has.refused.refused

  pub judged_refused : Refused ≡ after_text text
  judged_refused = sym (ap (after_schema text) answer)

  pub tells_refusal : TellsText text pieces
  tells_refusal = record {
    causes = λ number. has.cause;
    right = subst (λ (found : Result Resolved (List ℕ)). IsRightSchema (λ number. has.cause) text found) (sym answer) has.right;
    is = has.is ∙ ap (λ line. line ∷ has.cause) has.refused.is ∙ sym (ap (pieces_behind has.cause) answer);
  }
