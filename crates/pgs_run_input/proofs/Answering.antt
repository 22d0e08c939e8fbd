-- The answer to a schema text is what the resolver says of it.
use Rattle.std.proofs.Common.{◌≡◌, ℕ, List, Ok, refl, ap}
use Rattle.pgs_resolve.specs.SchemaOf.{schema, schema_of}
use Rattle.pgs_syntax.specs.declared.resolved.Resolved.{Resolved}
use Rattle.pgs_run_input.specs.Answers.{schema_answer, schema_or_text}

pub answer_is : (text : List ℕ) → schema_answer text ≡ schema_or_text (schema_of text)
unfolding schema_answer
answer_is text = refl

pub answer_ok : (text : List ℕ) (resolved : Resolved) → schema_of text ≡ schema resolved → schema_answer text ≡ Ok resolved
unfolding schema_answer
answer_ok text resolved is = ap schema_or_text is
