-- What a reader of the code returned, beside what reading gives.
use Rattle.std.specs.Prelude.{◌≡◌, ℕ, List, Option, Some, None, Result, Ok, Err}
use Rattle.std.specs.Option.{option_map}
use Rattle.pgs_codec.specs.declared.unread.Unfit.{Unfit}
use Rattle.pgs_codec.specs.declared.unread.Unread.{Unread}
use Rattle.pgs_codec.specs.declared.unread.Unread.TheVariants as unread

-- nothing is read, unless memory ran out
abbrev pub Fails : {Y : Type 0} → Unread → Option Y → Type 0
Fails unread.Memory read = Unit {0}
Fails unread.Unfit read = read ≡ None

-- what was returned, seen by view, with the bytes that are left, is what reading gives, unless memory ran out
abbrev pub Reads : {X Y : Type 0} → (X → Y) → Result X Unread → List ℕ → Option (Y × List ℕ) → Type 0
Reads view (Ok x) rest read = read ≡ Some (view x, rest)
Reads view (Err e) rest read = Fails e read

-- the same of all bytes, with none left
abbrev pub Gives : {X : Type 0} → Result X Unread → Option X → Type 0
Gives (Ok x) read = read ≡ Some x
Gives (Err e) read = Fails e read

-- ---- where no memory is taken

-- what was returned, seen by view, with the bytes that are left, is what reading gives
abbrev pub Sees : {X Y : Type 0} → (X → Y) → Result X Unfit → List ℕ → Option (Y × List ℕ) → Type 0
Sees view (Ok x) rest read = read ≡ Some (view x, rest)
Sees view (Err e) rest read = read ≡ None

-- where a field ends
abbrev pub end_of : {A : Type 0} → Option (A × List ℕ) → Option (List ℕ)
end_of field = option_map (λ a. a.1) field

-- a field was passed: the bytes that are left begin where it ends
abbrev pub Passes : {X : Type 0} → Result X Unfit → List ℕ → Option (List ℕ) → Type 0
Passes (Ok x) rest end = end ≡ Some rest
Passes (Err e) rest end = end ≡ None
