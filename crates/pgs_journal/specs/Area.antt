-- What an area is: no store, another program's file, a store, or a store that is damaged at a record.
use Rattle.std.specs.Prelude.{ℕ, suc, ◌+◌, ◌-◌, ◌*◌, Bool, true, false, not, ◌&&◌, ◌||◌, List, [], ◌∷◌, length, take, drop, nat_eq, nat_lt, bytes_eq, if◌then◌else◌, Option, Some, None}
use Rattle.byteorder.specs.Endian.{big_number}
use Rattle.pgs_codec.specs.Places.{is_payload_of, is_schema, is_txn, is_snapshot_within}
use Rattle.pgs_journal.specs.declared.format.Format.{Format}
use Rattle.pgs_journal.specs.declared.format.Format.TheVariants.{First, Second}
use Rattle.pgs_journal.specs.declared.area_state.AreaState.{AreaState}
use Rattle.pgs_journal.specs.declared.area_state.AreaState.TheVariants.{NoStore, Foreign, Damaged, Store}
use Rattle.pgs_journal.specs.Format.{is_open, is_epoch, magic, next_after, opened, Holds}
use Rattle.pgs_journal.specs.declared.head.Head.{Head}
use Rattle.pgs_journal.specs.declared.head.Head.TheVariants as heads
use Rattle.pgs_journal.specs.Reading.{Next, Closed, Torn, Whole, Found, records_in}
use Rattle.pgs_world.specs.declared.area_limit.TheConstants.{AREA_LIMIT}

-- the first byte is an open gate
abbrev pub opens : List ℕ → Bool
opens [] = false
opens (gate ∷ bytes) = is_open gate

-- an area is empty, or its gate is open
abbrev pub is_empty_or_open : List ℕ → Bool
is_empty_or_open [] = true
is_empty_or_open (gate ∷ bytes) = is_open gate

-- fewer than 17 bytes, or a closed gate
abbrev pub is_no_store : List ℕ → Bool
is_no_store image = nat_lt (length image) 17 || not (opens image)

abbrev pub epoch_of : List ℕ → ℕ
epoch_of image = big_number 8 (drop 8 image)

-- an area begins with a format's seven bytes, behind its gate
abbrev pub has_magic : Format → List ℕ → Bool
has_magic format image = bytes_eq (take 7 (drop 1 image)) (magic format)

-- the format whose seven bytes they are, where they are one's
abbrev pub format_in : List ℕ → Option Format
format_in image = if has_magic First image then Some First else (if has_magic Second image then Some Second else None)

-- the format of a head that is one of this program: its seven bytes are a format's, and its epoch is one
abbrev pub head_format : List ℕ → Option Format
head_format image = if is_epoch (epoch_of image) then format_in image else None

abbrev pub head_with : Option Format → ℕ → Head
head_with None epoch = heads.Foreign
head_with (Some format) epoch = heads.Store format epoch

-- what the head of an area says of it
abbrev pub head_of : List ℕ → Head
head_of image = if is_no_store image then heads.NoStore else head_with (head_format image) (epoch_of image)

-- the same of an area of this length, by its first 17 bytes
abbrev pub head_in : ℕ → List ℕ → Head
head_in len front = if nat_lt len 17 then heads.NoStore else head_of front

-- the second format has schemas at later places too
abbrev pub has_later_schemas : Format → Bool
has_later_schemas First = false
has_later_schemas Second = true

-- A payload is fit for its place: record 1 is a schema, record 2 may be a snapshot after no more commits than the stores
-- before this one may have, and every other record is a transaction or, in the second format, a schema.
unfoldable pub is_fit : Format → ℕ → ℕ → List ℕ → Bool
is_fit format epoch number payload =
    if nat_eq number 1 then is_payload_of is_schema payload
    else (is_payload_of is_txn payload || (has_later_schemas format && is_payload_of is_schema payload)
    || (nat_eq number 2 && is_payload_of (is_snapshot_within ((epoch - 1) * AREA_LIMIT)) payload))

-- what stands at the gate of this number isn't damaged: the gate is closed, or the record is whole and fit for its place
abbrev pub is_sound : Format → ℕ → ℕ → Next → Bool
is_sound format epoch number Closed = true
is_sound format epoch number Torn = false
is_sound format epoch number (Whole payload rest) = is_fit format epoch number payload

-- the number of the first record that isn't fit for its place, of those from this number on
abbrev pub first_unfit : Format → ℕ → ℕ → List (List ℕ) → Option ℕ
first_unfit format epoch number [] = None
first_unfit format epoch number (payload ∷ payloads) =
    if is_fit format epoch number payload then first_unfit format epoch (suc number) payloads else Some number

abbrev pub has_some : List (List ℕ) → Bool
has_some [] = false
has_some (payload ∷ payloads) = true

-- where each whole record is fit, the record behind them is damaged if it is open, or if it would be the first
abbrev pub store_of : Format → ℕ → Found → AreaState
store_of format epoch found =
    if found.ended && has_some found.payloads
    then Store epoch (length (opened format epoch found.payloads)) (next_after format found.payloads) found.payloads
    else Damaged epoch (length found.payloads + 1)

abbrev pub judged : Option ℕ → ℕ → AreaState → AreaState
judged None epoch state = state
judged (Some number) epoch state = Damaged epoch number

-- what an area with a head is
abbrev pub state_within : Format → ℕ → Found → AreaState
state_within format epoch found = judged (first_unfit format epoch 1 found.payloads) epoch (store_of format epoch found)

abbrev pub state_with : Option Format → List ℕ → AreaState
state_with None image = Foreign
state_with (Some format) image = state_within format (epoch_of image) (records_in format (drop 16 image))

abbrev pub area_state : List ℕ → AreaState
area_state image = if is_no_store image then NoStore else state_with (head_format image) image

-- where an area is a store, its bytes hold the records
abbrev pub HoldsStore : AreaState → List ℕ → Type 0
HoldsStore NoStore image = Unit {0}
HoldsStore Foreign image = Unit {0}
HoldsStore (Damaged epoch number) image = Unit {0}
HoldsStore (Store epoch end next payloads) image = Holds next epoch payloads end image
