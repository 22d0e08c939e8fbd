-- Which elements of a change can stand in no match that tells of a key, by their own rows alone.
use Rattle.std.specs.Prelude.{◌≡◌, ◌≤◌, ◌<◌, ℕ, Bool, false, ◌&&◌, ◌||◌, ◌==◌, not, Option, is_none, length}
use Rattle.std.specs.Option.{option_map_or}
use Rattle.std.specs.List.{list_any}
use Rattle.pgs_base.specs.declared.row.NodeRow.{NodeRow}
use Rattle.pgs_syntax.specs.declared.key.Key.{Key}
use Rattle.pgs_syntax.specs.declared.pattern.Atom.{Atom}
use Rattle.pgs_syntax.specs.declared.pattern.Atom.TheVariants.{Ends}
use Rattle.pgs_syntax.specs.declared.pattern.Pattern.{Pattern}
use Rattle.pgs_syntax.specs.declared.resolved.Resolved.{Resolved}
use Rattle.pgs_match.specs.Tests.{own_passes}
use Rattle.pgs_check_affected.specs.declared.known.Known.{Known}

-- whether an atom has a variable as an end of its edge
abbrev pub has_as_end : ℕ → Atom → Bool
has_as_end var (Ends edge source target) = source == var || target == var
has_as_end var _ = false

-- whether a variable is an end of some edge variable of a pattern
abbrev pub is_end_var : Pattern → ℕ → Bool
is_end_var pattern var = list_any (has_as_end var) pattern.atoms

-- whether an element of a change is absent from one of the two graphs, as it is where it is added or removed
abbrev pub is_absent_in_one : Known → Bool
is_absent_in_one known = is_none known.before || is_none known.after

-- Whether an element is looked at for a variable: all are but those that are absent from one graph, for an end of an edge variable. A match
-- that binds such a node binds an edge at it, which is absent from that graph too, and so is an element of the change itself.
abbrev pub is_looked_at : Pattern → ℕ → Known → Bool
is_looked_at pattern var known = not (is_absent_in_one known && is_end_var pattern var)

-- whether an element is looked at for a variable, and one of its rows passes what the pattern asks of it
abbrev pub is_taken_at : Resolved → Pattern → ℕ → Known → Bool
is_taken_at resolved pattern var known =
    let passes = λ (own : Option NodeRow). option_map_or (own_passes resolved pattern var known.elem) own false in
    is_looked_at pattern var known && (passes known.before || passes known.after)

-- No variable of a pattern from a number on takes an element.
abbrev pub PassesNone : Resolved → Pattern → ℕ → Known → Type 0
PassesNone resolved pattern first known =
    (var : ℕ) → first ≤ var → var < length pattern.edge_vars → is_taken_at resolved pattern var known ≡ false

-- The same of all variables of a key's scope, and of those of its descriptor behind x.
abbrev pub IsApart : Resolved → Key → Known → Type 0
IsApart resolved key known = PassesNone resolved key.scope 0 known × PassesNone resolved key.descriptor 1 known
