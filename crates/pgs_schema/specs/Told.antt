-- What a refusal of a schema text says of it.
use Rattle.std.specs.Prelude.{◌≡◌}
use Rattle.pgs_resolve.specs.declared.fault.ResolveFault.{ResolveFault}
use Rattle.pgs_resolve.specs.declared.fault.ResolveFault.TheVariants as faults
use Rattle.pgs_resolve.specs.SchemaOf.{Answer, longer_than_allowed, begins_no_item, is_no_statement, refused, has_wide_type}
use Rattle.pgs_schema.specs.declared.fault.SchemaFault.{SchemaFault}
use Rattle.pgs_schema.specs.declared.fault.SchemaFault.TheVariants as schema_faults
use Rattle.pgs_schema.specs.declared.fault.SchemaUnread.{SchemaUnread}
use Rattle.pgs_schema.specs.declared.fault.SchemaUnread.TheVariants.{Memory, Schema}

-- the answer to a text that is so refused
abbrev pub answer_of : SchemaFault → Answer
answer_of (schema_faults.Lex line) = begins_no_item line
answer_of (schema_faults.Syntax statement) = is_no_statement statement
answer_of schema_faults.NoGraphType = refused faults.NoGraphType
answer_of (schema_faults.Duplicate name) = refused (faults.Duplicate name)
answer_of (schema_faults.Unknown name) = refused (faults.Unknown name)
answer_of (schema_faults.Kind name) = refused (faults.Kind name)
answer_of (schema_faults.Cycle name) = refused (faults.Cycle name)
answer_of (schema_faults.TooWide name) = has_wide_type name
answer_of (schema_faults.BadKey key cause) = refused (faults.BadKey key cause)
answer_of schema_faults.TooLong = longer_than_allowed

-- the same of a script that doesn't resolve
abbrev pub IsUnresolved : ResolveFault → SchemaUnread → Type 0
IsUnresolved faults.Memory unread = unread ≡ Memory
IsUnresolved fault (Schema told) = refused fault ≡ answer_of told
IsUnresolved fault Memory = ⊥

-- a text is refused as said; want of memory says nothing of it
abbrev pub IsRefused : Answer → SchemaUnread → Type 0
IsRefused answer Memory = Unit {0}
IsRefused answer (Schema fault) = answer ≡ answer_of fault
