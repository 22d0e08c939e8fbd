-- The properties between braces as keys with what may stand at each.
use Rattle.std.specs.Prelude.{ℕ, Bool, ◌==◌, List}
use Rattle.pgs_base.specs.declared.value.Kind.TheVariants as kinds
use Rattle.pgs_base.specs.Pair.{same_name}
use Rattle.pgs_base.specs.Value.{kind_rank}
use Rattle.pgs_conform.specs.declared.options.Options.{Options}
use Rattle.pgs_syntax.specs.declared.specification.Property.{Property}
use Rattle.pgs_syntax.specs.Valid.{are_distinct}

-- whether properties name no key twice
abbrev pub are_apart : List Property → Bool
are_apart properties = are_distinct (λ (a : Property) (b : Property). same_name a.key b.key) properties

-- what may stand at the key of a property: a value of its kind, and nothing where it is optional
abbrev pub property_options : Property → Options
property_options property = record {
  absent = property.optional;
  text = kind_rank kinds.Text == kind_rank property.kind;
  int = kind_rank kinds.Int == kind_rank property.kind;
  boolean = kind_rank kinds.Bool == kind_rank property.kind;
  date = kind_rank kinds.Date == kind_rank property.kind;
}

-- the key of a property, with what may stand there
abbrev pub key_of : Property → List ℕ × Options
key_of property = (property.key, property_options property)
