-- What becomes of an open session.
use Rattle.std.specs.Prelude.{ℕ, List, [], ◌++◌, Option}
use Rattle.std.specs.BTreeMap.{is_at, insert_entry}
use Rattle.std.specs.BTreeSet.{insert_key}
use Rattle.std.specs.Map.{lookup}
use Rattle.std.specs.Option.{option_map_or}
use Rattle.std.specs.Ordering.{nat_cmp}
use Rattle.pgs_base.specs.declared.element.Elem.{Elem}
use Rattle.pgs_base.specs.Order.{elem_cmp}
use Rattle.pgs_graph.specs.declared.operation.Op.{Op}
use Rattle.pgs_sessions_machine.specs.Machine.{Session}

-- the session of a number
abbrev pub at_number : List (ℕ × Session) → ℕ → Option Session
at_number sessions number = lookup (is_at (nat_cmp number)) sessions

-- a session that just began after so many commits
abbrev pub fresh : ℕ → Session
fresh commits = record { began = commits; read = []; staged = [] }

-- a session after it read an element, and after it staged operations
abbrev pub reading : Elem → Session → Session
reading elem session = record session { read = insert_key elem_cmp session.read elem }

abbrev pub staging : List Op → Session → Session
staging ops session = record session { staged = session.staged ++ ops }

-- sessions after a change of the one of a number, where it is open
abbrev pub changed_at : (Session → Session) → List (ℕ × Session) → ℕ → List (ℕ × Session)
changed_at change sessions number =
    option_map_or (λ (session : Session). insert_entry nat_cmp sessions number (change session)) (at_number sessions number) sessions
