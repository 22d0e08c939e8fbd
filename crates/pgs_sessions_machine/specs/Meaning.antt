-- What the machine's refusals say, in words.
use Rattle.std.specs.Prelude.{◌≡◌, ℕ, Bool, true, false, ◌<◌, ◌≤◌, Some, None, length, Contains}
use Rattle.pgs_base.specs.declared.element.Elem.{Elem}
use Rattle.pgs_base.specs.Order.{elem_cmp}
use Rattle.pgs_sessions_machine.specs.declared.event.Event.{Event}
use Rattle.pgs_sessions_machine.specs.declared.event.Event.TheVariants.{Begin, Read, Stage, Commit, Abort}
use Rattle.pgs_sessions_machine.specs.Machine.{Session, State, session_at, last_of, watched}
use Rattle.pgs_syntax.specs.Least.{IsLeast}

abbrev pub is_begin : Event → Bool
is_begin (Begin number) = true
is_begin (Read number elem) = false
is_begin (Stage number txn) = false
is_begin (Commit number) = false
is_begin (Abort number) = false

-- a session read an element, or one of its staged operations names it, and a commit after its Begin changed it
abbrev pub IsOutdated : State → Session → Elem → Type 0
IsOutdated state session elem = Contains (watched session) elem × ((commit : ℕ) × (last_of state elem ≡ Some commit) × (session.began < commit))

-- 44: the session of the number is open, the element is the least such element, and this commit was the last that changed it
abbrev pub IsStale : State → ℕ → Elem → ℕ → Type 0
IsStale state number elem commit = (session : Session) × (session_at state number ≡ Some session) × IsLeast elem_cmp (IsOutdated state session) elem
    × (last_of state elem ≡ Some commit)

-- 45: the session of the number isn't open, and 1,000 are
abbrev pub IsFull : State → ℕ → Type 0
IsFull state number = (session_at state number ≡ None) × (1000 ≤ length state.sessions)
