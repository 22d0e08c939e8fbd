use Rattle.std.proofs.Common.{◌∙◌}
use Rattle.pgs_run_input.proofs.Standard.{standard_is}
use Rattle.pgs_run_gen.proofs.Telling.{never_unread, schema_is}
use Rattle.pgs_run_gen.proofs.running.guard_of.Goals as goal

pub returns-in-Ok-clause-schema : goal.returns-in-Ok-clause-schema
returns-in-Ok-clause-schema c = schema_is c.as_slice.result.now c.in-Ok.guard.schema (c.as_slice.ensures ∙ c.in_ok-text.ensures) c.in-Ok.ensures.schema

pub returns-in-Ok-clause-limits : goal.returns-in-Ok-clause-limits
returns-in-Ok-clause-limits c = c.in-Ok.ensures.limits ∙ standard_is c.standard.result c.standard.ensures.ops c.standard.ensures.elements

pub unreachable-requires : goal.unreachable-requires
unreachable-requires c = never_unread c.as_slice.result.now _ _ c.in-Err-Schema.field-0-is (c.as_slice.ensures ∙ c.in_ok-text.ensures) c.in-Err-Schema.ensures.refused
