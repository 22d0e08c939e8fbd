-- The rows of an index with the elements that may hold a value: those that are listed at the value's digest.
use Rattle.std.specs.Prelude.{◌≡◌, ℕ, Bool, true, false, ◌&&◌, ◌||◌, not, List, [], Option, Some, None}
use Rattle.std.specs.Option.{unwrap_or, option_map_or}
use Rattle.std.specs.List.{list_any, list_all}
use Rattle.std.specs.Map.{lookup}
use Rattle.std.specs.BTreeMap.{is_at}
use Rattle.pgs_base.specs.declared.element.Elem.{Elem}
use Rattle.pgs_base.specs.declared.part.Part.{Part}
use Rattle.pgs_base.specs.declared.seed.Seed.{Seed}
use Rattle.pgs_base.specs.Order.{elem_cmp}
use Rattle.pgs_tables.specs.Slots.{Slots, has_slot}
use Rattle.pgs_keyindex.specs.declared.change.KeyChange.{KeyChange}
use Rattle.pgs_keyindex.specs.declared.digest.Digest.{Digest}
use Rattle.pgs_keyindex.specs.declared.member.Member.{Member}
use Rattle.pgs_keyindex.specs.Digests.{digest_of}
use Rattle.pgs_keyindex.specs.Members.{member_of, member_cmp, digest_cmp}
use Rattle.pgs_keyindex.specs.Rows.{values_at, has_value, is_exclusive}

-- which keys are exclusive, how tuples are hashed, the rows, and the elements that are listed at digests
pub record TableState : Type 0 where
  pub exclusive : List Bool
  pub seed : Seed
  pub rows : Slots Member (List (List Part))
  pub holders : Slots Digest (List Elem)

-- whether an element is among elements
abbrev pub has_elem : Elem → List Elem → Bool
has_elem elem elems = list_any (is_at (elem_cmp elem)) elems

-- the elements that are listed at a digest
abbrev pub listed_at : List (Digest × List Elem) → Digest → List Elem
listed_at holders digest = unwrap_or (lookup (is_at (digest_cmp digest)) holders) []

-- whether an element is listed where a tuple of a key is looked for
abbrev pub is_listed : TableState → ℕ → List Part → Elem → Bool
is_listed table key tuple elem = has_elem elem (listed_at table.holders.rows (digest_of table.seed key tuple))

-- Each element that has a value of an exclusive key is listed where the value is looked for, and nothing is listed under a key that
-- isn't exclusive.
pub record IsHeld (table : TableState) : Type 0 where
  pub held : (key : ℕ) (tuple : List Part) (elem : Elem) → is_exclusive table.exclusive key ≡ true →
      has_value table.rows.rows key elem tuple ≡ true → is_listed table key tuple elem ≡ true
  pub apart : (digest : Digest) → is_exclusive table.exclusive digest.key ≡ false → listed_at table.holders.rows digest ≡ []

-- whether some tuple has a digest
abbrev pub has_digest : Seed → Digest → List (List Part) → Bool
has_digest seed digest tuples = list_any (λ tuple. is_at (digest_cmp digest) (digest_of seed digest.key tuple)) tuples

-- whether an element has a value of the digest
abbrev pub stands : TableState → Digest → Elem → Bool
stands table digest elem = option_map_or (has_digest table.seed digest) (values_at table.rows.rows digest.key elem) false

-- whether there is room for the values that an element gets: its row has a slot, and it is listed where they are looked for
abbrev pub is_listed_for : TableState → ℕ → Elem → List (List Part) → Bool
is_listed_for table key elem tuples = not (is_exclusive table.exclusive key) || list_all (λ tuple. is_listed table key tuple elem) tuples

abbrev pub has_room_for : TableState → ℕ → Elem → Option (List (List Part)) → Bool
has_room_for table key elem None = true
has_room_for table key elem (Some tuples) = has_slot member_cmp table.rows (member_of key elem) && is_listed_for table key elem tuples

abbrev pub has_room : TableState → KeyChange → Bool
has_room table change = has_room_for table change.key change.elem change.values

-- a table that differs in what is listed, and in which rows have slots, alone
pub record SameRows (old new : TableState) : Type 0 where
  pub exclusive : new.exclusive ≡ old.exclusive
  pub seed : new.seed ≡ old.seed
  pub rows : new.rows.rows ≡ old.rows.rows

-- a table in which whatever has room keeps it: slots of rows, and what is listed
pub record KeepsRoom (old new : TableState) : Type 0 where
  pub exclusive : new.exclusive ≡ old.exclusive
  pub seed : new.seed ≡ old.seed
  pub slots : (member : Member) → has_slot member_cmp old.rows member ≡ true → has_slot member_cmp new.rows member ≡ true
  pub listed : (digest : Digest) (elem : Elem) → has_elem elem (listed_at old.holders.rows digest) ≡ true →
      has_elem elem (listed_at new.holders.rows digest) ≡ true

-- such a table with the same rows
pub record Grows (old new : TableState) : Type 0 where
  pub rows : new.rows.rows ≡ old.rows.rows
  pub room : KeepsRoom old new
