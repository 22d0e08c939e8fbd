-- What a call that reads returned, against what there is to read.
use Rattle.std.specs.Prelude.{◌≡◌, List, ◌++◌, Option, Some, None, option_map, Result, Ok, Err}
use Rattle.pgs_parser.specs.declared.unread.Unread.{Unread}
use Rattle.pgs_parser.specs.declared.unread.Unread.TheVariants as unread

-- a call that found no memory may have read anything
abbrev pub IsCause : {Y : Type 0} → Option Y → Unread → Type 0
IsCause read unread.Memory = Unit {0}
IsCause read unread.OtherForm = read ≡ None

-- what was returned, seen by view, is what there is to read, unless memory ran out
abbrev pub Gives : {X Y : Type 0} → (X → Y) → Result X Unread → Option Y → Type 0
Gives view (Ok x) read = read ≡ Some (view x)
Gives view (Err e) read = IsCause read e

-- what is read behind what stands in front
abbrev pub with_front : {A : Type 0} → List A → Option (List A) → Option (List A)
with_front front read = option_map (λ xs. front ++ xs) read
