-- What contracts see of a schema: its text, and the one resolved schema of that text.
use Rattle.std.specs.Prelude.{◌≡◌, ℕ, List}
use Rattle.pgs_syntax.specs.declared.key.Key.{Key}
use Rattle.pgs_syntax.specs.declared.resolved.Resolved.{Resolved}
use Rattle.pgs_resolve.specs.SchemaOf.{schema, schema_of}

pub record SchemaState : Type 0 where
  pub text : List ℕ
  pub resolved : Resolved

-- the schema is that of the text, and the plans are those of its guard's keys, in order
pub record IsSchema (text : List ℕ) (resolved : Resolved) (keys : List Key) : Type 0 where
  pub of_text : schema_of text ≡ schema resolved
  pub planned : keys ≡ resolved.guard.keys
