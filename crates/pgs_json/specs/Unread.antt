-- What a reader of the code returned, beside what reading gives.
use Rattle.std.specs.Prelude.{◌≡◌, Option, Some, None, Result, Ok, Err}
use Rattle.pgs_json.specs.declared.unread.Unread.{Unread}
use Rattle.pgs_json.specs.declared.unread.Unread.TheVariants as unread

-- nothing is read, unless memory ran out
abbrev pub Fails : {Y : Type 0} → Unread → Option Y → Type 0
Fails unread.Memory read = Unit {0}
Fails unread.Unfit read = read ≡ None

-- what was returned, seen by view, is what reading gives, unless memory ran out
abbrev pub Gives : {X Y : Type 0} → (X → Y) → Result X Unread → Option Y → Type 0
Gives view (Ok x) read = read ≡ Some (view x)
Gives view (Err e) read = Fails e read
