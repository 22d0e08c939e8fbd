-- Patterns of a valid key whose types are those of the schema, as the searches of a place ask for them.
use Rattle.std.proofs.Common.{◌≡◌, ◌<◌, true, length, sym, subst}
use Rattle.std.specs.List.{list_all}
use Rattle.std.proofs.lemmas.Bool.{and_parts}
use Rattle.pgs_syntax.specs.declared.key.Key.{Key}
use Rattle.pgs_syntax.specs.declared.pattern.Pattern.{Pattern}
use Rattle.pgs_syntax.specs.declared.resolved.Resolved.{Resolved}
use Rattle.pgs_syntax.specs.Valid.{is_valid_pattern, is_valid_key, is_valid_key_of, names_types}
use Rattle.pgs_match.specs.declared.planned.Side.{Side}
use Rattle.pgs_match.specs.declared.planned.Side.TheVariants.{Scope, Descriptor}
use Rattle.pgs_match.specs.Planned.{pattern_of}
use Rattle.pgs_match.proofs.Scopes.{side_valid, pattern_has}

module _ (side : Side) (key : Key) (pattern : Pattern) (same : pattern ≡ pattern_of side key) where
  pub is_valid : is_valid_key key ≡ true → is_valid_pattern pattern ≡ true
  is_valid valid = subst (λ p. is_valid_pattern p ≡ true) (sym same) (side_valid side key valid)

  pub has_x : is_valid_key key ≡ true → 0 < length pattern.edge_vars
  has_x valid = pattern_has pattern (is_valid valid)

names_of : (resolved : Resolved) (side : Side) (key : Key) → is_valid_key_of resolved key ≡ true → list_all (names_types resolved) (pattern_of side key).atoms ≡ true
names_of resolved Scope key typed = (and_parts _ _ (and_parts _ _ typed).0).1
names_of resolved Descriptor key typed = (and_parts _ _ typed).1

pub names : (resolved : Resolved) (side : Side) (key : Key) (pattern : Pattern) → pattern ≡ pattern_of side key → is_valid_key_of resolved key ≡ true →
    list_all (names_types resolved) pattern.atoms ≡ true
names resolved side key pattern same typed = subst (λ (p : Pattern). list_all (names_types resolved) p.atoms ≡ true) (sym same) (names_of resolved side key typed)
