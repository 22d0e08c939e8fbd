use Rattle.std.proofs.Common.{◌≡◌, ℕ, ◌+◌, ◌*◌, ◌≤◌, length}
use Rattle.json.specs.Json.{items, members, value, parse_map}
use Rattle.serde_json.specs.Read.{of_items, converted}
use Rattle.pgs_json.specs.Tree.{of_pairs}
use Rattle.pgs_json.proofs.Reading.{items_before, members_before}
use Rattle.pgs_json.proofs.tree.+read.Given as goal

abbrev pub decreases-read : goal.decreases-read
decreases-read l = 3 * l.depth

abbrev pub decreases-read_items : goal.decreases-read_items
decreases-read_items l = 3 * l.depth + 1

abbrev pub decreases-read_pairs : goal.decreases-read_pairs
decreases-read_pairs l = 3 * l.depth + 1

abbrev pub decreases-read_members : goal.decreases-read_members
decreases-read_members l = 3 * l.depth + 2

abbrev pub invariant-read_items-items : goal.invariant-read_items-items
invariant-read_items-items l =
    (n : ℕ) × (length l.reader ≤ n)
    × (converted of_items (items (value l.depth) (length l.initial.reader) l.initial.reader) ≡ parse_map (items_before l.found.items) (converted of_items (items (value l.depth) n l.reader)))
    × (length l.reader ≤ length l.initial.reader)

abbrev pub decreases-read_items-items : goal.decreases-read_items-items
decreases-read_items-items l = length l.reader

abbrev pub invariant-read_pairs-members : goal.invariant-read_pairs-members
invariant-read_pairs-members l =
    (n : ℕ) × (length l.reader ≤ n)
    × (converted of_pairs (members (value l.depth) (length l.initial.reader) l.initial.reader) ≡ parse_map (members_before l.found.items) (converted of_pairs (members (value l.depth) n l.reader)))
    × (length l.reader ≤ length l.initial.reader)

abbrev pub decreases-read_pairs-members : goal.decreases-read_pairs-members
decreases-read_pairs-members l = length l.reader
