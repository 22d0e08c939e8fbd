-- What a change makes of keys.
use Rattle.std.specs.Prelude.{List, Option, Some, None}
use Rattle.std.specs.declared.cmp.Ordering.{Ordering}
use Rattle.std.specs.BTreeMap.{is_at}
use Rattle.std.specs.BTreeSet.{insert_key}
use Rattle.std.specs.Set.{remove_key}

-- the keys after a change of a key: it is put in, or taken out
abbrev pub key_changed : {K V : Type 0} → (K → K → Ordering) → List K → K → Option V → List K
key_changed cmp keys key (Some value) = insert_key cmp keys key
key_changed cmp keys key None = remove_key (is_at (cmp key)) keys
