-- What the searches of a key in a graph have learned of nodes at variables.
use Rattle.std.specs.Prelude.{◌≡◌, ℕ, ◌+◌, Bool, true, false, List, [], ◌∷◌, Option, Some, None}
use Rattle.std.specs.Option.{IfSome, option_map_or}
use Rattle.std.specs.List.{Contains, sum_by}
use Rattle.pgs_base.specs.declared.element.NodeId.{NodeId}
use Rattle.pgs_base.specs.declared.element.Elem.{Elem}
use Rattle.pgs_base.specs.Graph.{Graph}
use Rattle.pgs_syntax.specs.declared.key.Key.{Key}
use Rattle.pgs_syntax.specs.declared.pattern.Atom.{Atom}
use Rattle.pgs_syntax.specs.declared.pattern.Pattern.{Pattern}
use Rattle.pgs_syntax.specs.declared.resolved.Resolved.{Resolved}
use Rattle.pgs_match.specs.declared.learned.Learned.{Learned}
use Rattle.pgs_match.specs.declared.learned.Memo.{Memo}
use Rattle.pgs_match.specs.declared.learned.WayMemo.{WayMemo}
use Rattle.pgs_match.specs.declared.plan.Plan.{Plan}
use Rattle.pgs_match.specs.declared.stand.Stand.{Stand}
use Rattle.pgs_match.specs.declared.step.Step.{Step}
use Rattle.pgs_match.specs.declared.step.Step.TheVariants.{Along, End}
use Rattle.pgs_match.specs.Answers.{noted, AreRight, IsClosed, unnoted}
use Rattle.pgs_match.specs.Branches.{is_tree}
use Rattle.pgs_match.specs.Frontier.{AreNoted}
use Rattle.pgs_match.specs.Planned.{IsSplit, taken}
use Rattle.pgs_match.specs.Plans.{is_plan}
use Rattle.pgs_match.specs.Spread.{stand_at, elem_degree}

-- it goes along a plan of the pattern from x that has a step for each end of each edge place, and each answer that was noted is right
abbrev pub IsMemo : Resolved → Graph → Pattern → Memo → Type 0
IsMemo resolved g pattern memo =
    (is_plan pattern 0 memo.plan ≡ true) × (is_tree pattern.atoms memo.plan ≡ true) × AreRight resolved g pattern.atoms memo.plan memo.answers

-- It goes along a plan of the descriptor from x, apart from one another the steps on the way to what the expressions take and the others, and all
-- that was noted is right.
abbrev pub IsWayMemo : Resolved → Graph → Key → WayMemo → Type 0
IsWayMemo resolved g key memo = IsSplit (taken key) key.descriptor 0 memo.plan × AreNoted resolved g key.descriptor.atoms memo.plan.off memo.notes

-- all that was learned is right
abbrev pub IsLearned : Resolved → Graph → Key → Learned → Type 0
IsLearned resolved g key learned = IfSome learned.scope (IsMemo resolved g key.scope) × IfSome learned.values (IsWayMemo resolved g key)

-- what was learned, or where nothing was, nothing along a plan
abbrev pub IsTaken : Option Memo → List Step → Memo → Type 0
IsTaken (Some former) plan memo = memo ≡ former
IsTaken None plan memo = (memo.plan ≡ plan) × ((var : ℕ) (id : NodeId) → noted memo.answers var id ≡ None)

-- the same of key values
abbrev pub IsWayTaken : Option WayMemo → Plan → WayMemo → Type 0
IsWayTaken (Some former) plan memo = memo ≡ former
IsWayTaken None plan memo =
    (memo.plan ≡ plan) × ((resolved : Resolved) (g : Graph) (atoms : List Atom) (off : List Step) → AreNoted resolved g atoms off memo.notes)

-- whether a plan has at most two steps, and no second one along edges
abbrev pub is_short : List Step → Bool
is_short [] = true
is_short (first ∷ []) = true
is_short (first ∷ Along edge node forward ∷ rest) = false
is_short (first ∷ End edge node source ∷ []) = true
is_short (first ∷ End edge node source ∷ next ∷ rest) = false

-- the degrees plus 2 of the pairs of a variable and an element of which nothing was learned
abbrev pub unlearned : Graph → Learned → List Stand → ℕ
unlearned g learned pairs =
    option_map_or (λ (memo : Memo). unnoted g memo.answers pairs) learned.scope (sum_by (λ (stand : Stand). elem_degree g stand.elem + 2) pairs)

-- A list of pairs has all that walks come to which go from an element at a variable by steps of plans of a pattern: it has that pair, and with
-- each pair all that a step comes to from it.
abbrev pub HasSearchedFrom : Resolved → Graph → Pattern → ℕ → Elem → List Stand → Type 0
HasSearchedFrom resolved g pattern var elem pairs =
    Contains pairs (stand_at var elem) × ((plan : List Step) → is_plan pattern var plan ≡ true → IsClosed resolved g pattern.atoms pairs plan)

-- the same from x
abbrev pub HasSearched : Resolved → Graph → Pattern → Elem → List Stand → Type 0
HasSearched resolved g pattern elem pairs = HasSearchedFrom resolved g pattern 0 elem pairs
