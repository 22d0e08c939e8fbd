-- What is told of a workload: all its transactions are accepted.
use Rattle.std.proofs.Common.{◌≡◌, ℕ, ◌≤◌, List, sym, ap, ap₂, subst, ◌∙◌}
use Rattle.pgs_base.specs.declared.limits.Limits.{Limits}
use Rattle.pgs_resolve.specs.SchemaOf.{schema, schema_of}
use Rattle.pgs_schema.specs.declared.fault.SchemaFault.{SchemaFault}
use Rattle.pgs_schema.specs.declared.fault.SchemaFault.TheVariants as faults
use Rattle.pgs_schema.specs.declared.fault.SchemaUnread.{SchemaUnread}
use Rattle.pgs_schema.specs.declared.fault.SchemaUnread.TheVariants.{Schema}
use Rattle.pgs_schema.specs.Told.{IsRefused, answer_of}
use Rattle.pgs_gen.specs.Generated.{schema_text}
use Rattle.pgs_syntax.specs.declared.resolved.Resolved.{Resolved}
use Rattle.pgs_violation.specs.Violations.{verdict}
use Rattle.pgs_command.specs.declared.status.Status.TheVariants.{Accepted}
use Rattle.pgs_run_input.specs.Session.{standard}
use Rattle.pgs_run_gen.specs.Persons.{persons}
use Rattle.pgs_run_gen.specs.Told.{status_of, told_of, told_gen}
use Rattle.pgs_run_gen.specs.Workload.{decided}
use Rattle.pgs_run_gen.proofs.Accepting.{all_accepted}
use Rattle.pgs_run_gen.proofs.SchemaText.{text_has_schema}

pub told_decided : (resolved : Resolved) (limits : Limits) (start count : ℕ) → resolved ≡ persons → limits ≡ standard
    → told_gen start count ≡ told_of (decided limits (verdict resolved) start count)
unfolding told_gen
told_decided resolved limits start count is within = ap₂ (λ (l : Limits) (r : Resolved). told_of (decided l (verdict r) start count)) (sym within) (sym is)

pub told_accepted : (start count : ℕ) → count ≤ 500000 → (told_gen start count).status ≡ Accepted
unfolding told_gen
told_accepted start count few = ap status_of (all_accepted start count few).rejected

-- the schema of the text
same_schema : (one other : Resolved) → schema one ≡ schema other → one ≡ other
same_schema one other is = cc

pub schema_is : (text : List ℕ) (resolved : Resolved) → text ≡ schema_text → schema_of text ≡ schema resolved → resolved ≡ persons
schema_is text resolved same is = same_schema resolved persons (sym is ∙ ap schema_of same ∙ text_has_schema)

no_refusal : (resolved : Resolved) (fault : SchemaFault) → schema resolved ≡ answer_of fault → ⊥
no_refusal resolved (faults.Lex line) is = cc
no_refusal resolved (faults.Syntax statement) is = cc
no_refusal resolved faults.NoGraphType is = cc
no_refusal resolved (faults.Duplicate name) is = cc
no_refusal resolved (faults.Unknown name) is = cc
no_refusal resolved (faults.Kind name) is = cc
no_refusal resolved (faults.Cycle name) is = cc
no_refusal resolved (faults.TooWide name) is = cc
no_refusal resolved (faults.BadKey key cause) is = cc
no_refusal resolved faults.TooLong is = cc

never_refused : (text : List ℕ) (fault : SchemaFault) → text ≡ schema_text → schema_of text ≡ answer_of fault → ⊥
never_refused text fault same is = no_refusal persons fault (sym text_has_schema ∙ sym (ap schema_of same) ∙ is)

pub never_unread : (text : List ℕ) (unread : SchemaUnread) (fault : SchemaFault) → unread ≡ Schema fault → text ≡ schema_text → IsRefused (schema_of text) unread → ⊥
never_unread text unread fault is same refused =
    never_refused text fault same (subst (λ (u : SchemaUnread). IsRefused (schema_of text) u) is refused)
