-- The records of an area of bytes are bytes.
use Rattle.std.proofs.Common.{◌≡◌, ℕ, zero, suc, List, [], ◌∷◌, ◌++◌, length, Option, subst, append_assoc, lit<}
use Rattle.std.specs.List.{AllByRecursion}
use Rattle.byteorder.specs.Endian.{big_bytes}
use Rattle.pgs_codec.proofs.Exact.{IsBytes, IsBytes-behind}
use Rattle.pgs_journal.specs.declared.area_state.AreaState.TheVariants.{Store}
use Rattle.pgs_journal.specs.Area.{area_state}
use Rattle.pgs_codec.specs.Frame.{number_field}
use Rattle.pgs_journal.specs.declared.format.Format.{Format}
use Rattle.pgs_journal.specs.Format.{format_of, head_body, open_records, record_body, record_number}
use Rattle.pgs_journal.proofs.Held.{read-holds}
use Rattle.pgs_snapshot.specs.Choice.{choice_of, chosen}
use Rattle.pgs_snapshot.proofs.Choices.{leading}
use Rattle.pgs_world.specs.declared.area.Area.{Area}
use Rattle.pgs_world.specs.declared.area.Area.TheVariants.{A, B}

-- the bytes before others
IsBytes-front : (a b : List ℕ) → IsBytes (a ++ b) → IsBytes a
IsBytes-front [] b fits i = lit< tt
IsBytes-front (x ∷ a) b fits zero = fits 0
IsBytes-front (x ∷ a) b fits (suc i) = IsBytes-front a b (λ j. fits (suc j)) i

-- the payloads of records, with what comes behind them
records_are_bytes : (format : Format) (number : ℕ) (payloads : List (List ℕ)) (rest : List ℕ) → IsBytes (open_records format number payloads ++ rest) → AllByRecursion IsBytes payloads
records_are_bytes format number [] rest fits = tt
records_are_bytes format number (payload ∷ payloads) rest fits =
    let bears = number_field (record_number format number) in
    let size = big_bytes 8 (length payload) in
    let body = record_body format number payload in
    let behind = open_records format (suc number) payloads in
    let apart : IsBytes (body ++ (behind ++ rest)) = subst IsBytes (append_assoc body behind rest) (λ i. fits (suc i)) in (
      IsBytes-behind size payload (IsBytes-behind bears (size ++ payload) (IsBytes-front body (behind ++ rest) apart)),
      records_are_bytes format (suc number) payloads rest (IsBytes-behind body (behind ++ rest) apart),
    )

store_is_bytes : (epoch end : ℕ) (next : Option ℕ) (payloads : List (List ℕ)) (image : List ℕ) → IsBytes image → area_state image ≡ Store epoch end next payloads → AllByRecursion IsBytes payloads
store_is_bytes epoch end next payloads image fits is =
    let held = (read-holds epoch end next payloads image fits is).0 in
    let head = head_body (format_of next) epoch in
    let records = open_records (format_of next) 1 payloads in
    let behind : IsBytes ((head ++ records) ++ held.gate ∷ held.rest) = λ i. subst IsBytes held.bytes fits (suc i) in
    records_are_bytes (format_of next) 1 payloads (held.gate ∷ held.rest)
    (IsBytes-behind head (records ++ held.gate ∷ held.rest) (subst IsBytes (append_assoc head records (held.gate ∷ held.rest)) behind))

-- the records of the chosen store of two areas of bytes
pub chosen_is_bytes : (area : Area) (epoch end : ℕ) (next : Option ℕ) (payloads : List (List ℕ)) (a b : List ℕ) → IsBytes a → IsBytes b → choice_of a b ≡ chosen area epoch end next payloads → AllByRecursion IsBytes payloads
chosen_is_bytes A epoch end next payloads a b one other is =
    store_is_bytes epoch end next payloads a one (leading A epoch end next payloads (record { a = a; b = b; output = [] }) is).state
chosen_is_bytes B epoch end next payloads a b one other is =
    store_is_bytes epoch end next payloads b other (leading B epoch end next payloads (record { a = a; b = b; output = [] }) is).state
