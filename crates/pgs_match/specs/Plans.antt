-- Plans: steps that bind the variables of a pattern one after another, each through an edge place of the pattern.
use Rattle.std.specs.Prelude.{◌≡◌, ℕ, Bool, true, false, ◌&&◌, ◌==◌, not, cond, List, [], ◌∷◌, Option, Some, None, slice_set, replicate, count_by, nat_le}
use Rattle.std.specs.List.{list_any}
use Rattle.pgs_syntax.specs.declared.pattern.Atom.{Atom}
use Rattle.pgs_syntax.specs.declared.pattern.Atom.TheVariants.{Ends, HasLabel, FitsNode, FitsEdge, Equals}
use Rattle.pgs_syntax.specs.declared.pattern.Pattern.{Pattern}
use Rattle.pgs_syntax.specs.Valid.{is_edge_var}
use Rattle.pgs_match.specs.declared.step.Step.{Step}
use Rattle.pgs_match.specs.declared.step.Step.TheVariants.{Along, End}

-- the variable that a step binds
abbrev pub bound_by : Step → ℕ
bound_by (Along edge node forward) = edge
bound_by (End edge node source) = node

-- whether a variable is among those that are known, which are written as a truth value for each variable
abbrev pub is_known : List Bool → ℕ → Bool
is_known known var = is_edge_var known var

-- the known variables with one more
abbrev pub and_known : List Bool → ℕ → List Bool
and_known known var = slice_set known var true

-- the variable alone is known, of at most 20
abbrev pub known_alone : ℕ → List Bool
known_alone var = and_known (replicate 20 false) var

-- whether an atom says that the node is the source of the edge, or its target
abbrev pub has_end : ℕ → ℕ → Bool → Atom → Bool
has_end edge node source (Ends of first second) = of == edge && cond source first second == node
has_end edge node source _ = false

-- whether a step binds a variable that isn't known from one that is, by an edge place of the pattern
abbrev pub is_step : List Atom → List Bool → Step → Bool
is_step atoms known (Along edge node forward) =
    is_known known node && not (is_known known edge) && list_any (has_end edge node forward) atoms
is_step atoms known (End edge node source) =
    is_known known edge && not (is_known known node) && list_any (has_end edge node source) atoms

-- whether no step is possible at an edge place: of its edge and of its ends all are known, or none is
abbrev pub is_closed_at : List Bool → Atom → Bool
is_closed_at known (Ends edge source target) =
    cond (is_known known edge) (is_known known source && is_known known target) (not (is_known known source) && not (is_known known target))
is_closed_at known _ = true

-- whether an atom asks something of a variable alone, and how many of some do
abbrev pub asks_alone : ℕ → Atom → Bool
asks_alone var (Ends edge source target) = false
asks_alone var (HasLabel of label) = of == var
asks_alone var (FitsNode of number) = of == var
asks_alone var (FitsEdge of number) = of == var
asks_alone var (Equals of key value) = of == var

abbrev pub asked_of : List Atom → ℕ → ℕ
asked_of atoms var = count_by (asks_alone var) atoms

-- whether a step is as good as another: one that takes an end of an edge is better than one along the edges of a node, and else one is
-- as good of whose variable as much is asked
abbrev pub is_as_good : List Atom → Step → Step → Bool
is_as_good atoms (End edge node source) (Along other from forward) = true
is_as_good atoms (Along edge node forward) (End other to source) = false
is_as_good atoms step other = nat_le (asked_of atoms (bound_by other)) (asked_of atoms (bound_by step))

-- a step is one of those that a test tells, and as good as each of them
abbrev pub IsBest : List Atom → (Step → Bool) → Step → Type 0
IsBest atoms among step = (among step ≡ true) × ((other : Step) → among other ≡ true → is_as_good atoms step other ≡ true)

-- the best of those that a test tells, where there are any
abbrev pub IsBestOf : List Atom → (Step → Bool) → Option Step → Type 0
IsBestOf atoms among None = (step : Step) → among step ≡ false
IsBestOf atoms among (Some step) = IsBest atoms among step

-- the step that is possible at one end of an edge place
abbrev pub step_between : List Bool → ℕ → ℕ → Bool → Option Step
step_between known edge node source =
    cond (is_known known edge) (cond (is_known known node) None (Some (End edge node source)))
    (cond (is_known known node) (Some (Along edge node source)) None)

abbrev pub step_at : List Bool → Bool → Atom → Option Step
step_at known source (Ends edge first second) = step_between known edge (cond source first second) source
step_at known source _ = None

-- of what was found and a further step the better one; what was found stays where they are as good
abbrev pub better : List Atom → Option Step → Option Step → Option Step
better atoms None further = further
better atoms (Some step) None = Some step
better atoms (Some step) (Some further) = cond (is_as_good atoms step further) (Some step) (Some further)

-- whether steps are such, one after another
abbrev pub are_steps : List Atom → List Bool → List Step → Bool
are_steps atoms known [] = true
are_steps atoms known (step ∷ plan) = is_step atoms known step && are_steps atoms (and_known known (bound_by step)) plan

-- what is known after steps
abbrev pub known_after : List Bool → List Step → List Bool
known_after known [] = known
known_after known (step ∷ plan) = known_after (and_known known (bound_by step)) plan

-- each of the steps is the best of those that are possible where it is taken
abbrev pub AreBest : List Atom → List Bool → List Step → Type 0
AreBest atoms known [] = Unit {0}
AreBest atoms known (step ∷ plan) = IsBest atoms (is_step atoms known) step × AreBest atoms (and_known known (bound_by step)) plan

-- whether each of the variables is known
abbrev pub covers : List Bool → List Bool → Bool
covers [] known = true
covers (is_edge ∷ edge_vars) [] = false
covers (is_edge ∷ edge_vars) (first ∷ known) = first && covers edge_vars known

-- whether steps are a plan of a pattern where these variables are known: after them all are
abbrev pub completes : Pattern → List Bool → List Step → Bool
completes pattern known plan = are_steps pattern.atoms known plan && covers pattern.edge_vars (known_after known plan)

-- whether steps are a plan of a pattern from a variable
abbrev pub is_plan : Pattern → ℕ → List Step → Bool
is_plan pattern start plan = completes pattern (known_alone start) plan
