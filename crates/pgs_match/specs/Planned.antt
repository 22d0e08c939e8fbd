-- A key with plans of its patterns, from each variable.
use Rattle.std.specs.Prelude.{◌≡◌, ◌≤◌, ℕ, suc, max, Contains, true, List, [], ◌∷◌, length, map, Option, Some, None}
use Rattle.pgs_base.specs.declared.element.Elem.{Elem}
use Rattle.pgs_base.specs.declared.part.Part.{Part}
use Rattle.pgs_base.specs.declared.part.Part.TheVariants as parts
use Rattle.pgs_syntax.specs.declared.key.Key.{Key}
use Rattle.pgs_syntax.specs.declared.pattern.Pattern.{Pattern}
use Rattle.pgs_syntax.specs.Valid.{edge_count, read_var, is_valid_key}
use Rattle.pgs_match.specs.declared.plan.Plan.{Plan}
use Rattle.pgs_match.specs.Plans.{is_plan}
use Rattle.pgs_match.specs.Routes.{on_way, off_way}
use Rattle.pgs_match.specs.declared.planned.Side.{Side}
use Rattle.pgs_match.specs.declared.planned.Side.TheVariants.{Scope, Descriptor}

-- A plan of a pattern from a variable, with the steps of it on the way to wanted variables, and the others.
abbrev pub IsSplit : List ℕ → Pattern → ℕ → Plan → Type 0
IsSplit wanted pattern var plan = (is_plan pattern var plan.steps ≡ true) × (plan.on ≡ on_way wanted plan.steps) × (plan.off ≡ off_way wanted plan.steps)

-- plans of a pattern to variable 0, from one variable on
abbrev pub ArePlansFrom : Pattern → ℕ → List Plan → Type 0
ArePlansFrom pattern var [] = Unit {0}
ArePlansFrom pattern var (plan ∷ plans) = IsSplit (0 ∷ []) pattern var plan × ArePlansFrom pattern (suc var) plans

-- from each of its variables
abbrev pub ArePlans : Pattern → List Plan → Type 0
ArePlans pattern plans = (length plans ≡ length pattern.edge_vars) × ArePlansFrom pattern 0 plans

-- the variables that the expressions of a key take
abbrev pub taken : Key → List ℕ
taken key = map read_var key.exprs

-- A key is valid, these are plans of its patterns to x from each variable, and this is one of its descriptor from x to what the
-- expressions take.
abbrev pub IsPlanned : Key → List Plan → List Plan → Plan → Type 0
IsPlanned key scope descriptor values =
    (is_valid_key key ≡ true) × ArePlans key.scope scope × ArePlans key.descriptor descriptor × IsSplit (taken key) key.descriptor 0 values

-- a pattern of a key
abbrev pub pattern_of : Side → Key → Pattern
pattern_of Scope key = key.scope
pattern_of Descriptor key = key.descriptor

-- the greater number of edge variables of the two patterns of a key
abbrev pub most_edges : Key → ℕ
most_edges key = max (edge_count key.scope.edge_vars) (edge_count key.descriptor.edge_vars)

-- no pattern of the keys has more edge variables
abbrev pub HaveEdgesWithin : List Key → ℕ → Type 0
HaveEdgesWithin keys edges = (key : Key) → Contains keys key → most_edges key ≤ edges

-- the element that a tuple begins with
abbrev pub first_elem : List Part → Option Elem
first_elem (parts.Elem elem ∷ rest) = Some elem
first_elem _ = None
