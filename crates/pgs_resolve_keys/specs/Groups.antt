-- Groups of variables kept as parents: each variable has a parent that isn't above it, and one that is its own parent stands for
-- its group.
use Rattle.std.specs.Prelude.{◌≡◌, ℕ, ◌<◌, ◌≤◌, Bool, true, ◌&&◌, List, length, nat_lt, slice_index}
use Rattle.pgs_syntax.specs.declared.pattern.Atom.{Atom}
use Rattle.pgs_syntax.specs.declared.pattern.Atom.TheVariants.{Ends}

-- whether no parent is above its variable
abbrev pub AreParents : List ℕ → Type 0
AreParents parents = (i : ℕ) → i < length parents → slice_index parents i ≤ i

-- whether parents keep these groups, a number for each variable: a variable is in its parent's group, and no two that are their
-- own parents are in one
pub record Keep (groups parents : List ℕ) : Type 0 where
  pub same : (i : ℕ) → i < length parents → slice_index groups (slice_index parents i) ≡ slice_index groups i
  pub apart : (i j : ℕ) → i < length parents → j < length parents → slice_index parents i ≡ i → slice_index parents j ≡ j →
      slice_index groups i ≡ slice_index groups j → i ≡ j
  pub count : length groups ≡ length parents

-- whether the ends that an atom gives are among so many variables
abbrev pub has_ends_below : ℕ → Atom → Bool
has_ends_below count (Ends edge source target) = nat_lt edge count && nat_lt source count && nat_lt target count
has_ends_below count _ = true
