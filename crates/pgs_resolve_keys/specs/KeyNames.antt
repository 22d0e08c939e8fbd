-- What the faults of a key are told from: the names in it.
use Rattle.std.specs.Prelude.{◌≡◌, ℕ, List, ◌++◌, Some}
use Rattle.pgs_syntax.specs.declared.raw.RawKey.{RawKey}
use Rattle.pgs_resolve_keys.specs.declared.key_faults.KeyNames.{KeyNames}
use Rattle.pgs_resolve_keys.specs.KeyFaults.{within_of, descriptor_names, edge_places, node_places}
use Rattle.pgs_resolve_keys.specs.Patterns.{places_of, named_in, x_of}

-- whether names are those of a key: in its scope, in its written descriptor, in its descriptor, and at its edge and node places
pub record AreNamesOf (key : RawKey) (names : KeyNames) : Type 0 where
  pub scope : names.scope ≡ named_in (places_of key.scope)
  pub within : names.within ≡ named_in (places_of (within_of key))
  pub descriptor : (x : List ℕ) → x_of key ≡ Some x → names.descriptor ≡ descriptor_names key x
  pub edges : names.edges ≡ named_in (edge_places (places_of key.scope ++ places_of (within_of key)))
  pub nodes : names.nodes ≡ named_in (node_places (places_of key.scope ++ places_of (within_of key)))
