-- Unfolded declarations under numbers, each once: 0 is nothing, and each other number is that of an entry, from 1. An entry is over
-- numbers.
use Rattle.std.specs.Prelude.{◌≡◌, ℕ, zero, suc, ◌≤◌, Bool, ◌&&◌, ◌==◌, List, [], ◌∷◌, ◌++◌, length, slice_get, unwrap_or, Some}
use Rattle.pgs_syntax.specs.declared.resolved.Resolved.{Resolved}
use Rattle.pgs_schema_changes.specs.declared.form.Form.{Form}
use Rattle.pgs_schema_changes.specs.Unfolded.{Tree, nothing, tree, node_tree, edge_tree, same_form, same_tree}
use Rattle.pgs_schema_changes.specs.declared.trees.Entry.{Entry}
use Rattle.pgs_schema_changes.specs.declared.declarations.Declarations.{Declarations}
use Rattle.pgs_schema_changes.specs.declared.declarations.TypeNumbers.{TypeNumbers}

-- the tree of a number
abbrev pub tree_at : List Tree → ℕ → Tree
tree_at trees zero = nothing
tree_at trees (suc place) = unwrap_or (slice_get trees place) nothing

-- the trees of entries
abbrev pub trees_from : List Tree → List Entry → List Tree
trees_from trees [] = trees
trees_from trees (entry ∷ entries) =
    trees_from (trees ++ tree entry.form (tree_at trees entry.first) (tree_at trees entry.second) ∷ []) entries

abbrev pub tree_of : List Entry → ℕ → Tree
tree_of entries number = tree_at (trees_from [] entries) number

-- whether an entry is this form over these numbers
abbrev pub is_entry : Form → ℕ → ℕ → Entry → Bool
is_entry form first second entry = entry.first == first && entry.second == second && same_form form entry.form

-- a number that is there stands for a tree
abbrev pub Means : List Entry → ℕ → Tree → Type 0
Means entries number own = (number ≤ length entries) × (tree_of entries number ≡ own)

-- each entry stands for its form over the trees of its numbers, and no two numbers stand for one tree
pub record IsNumbered (entries : List Entry) : Type 0 where
  pub entry : (place : ℕ) (it : Entry) → slice_get entries place ≡ Some it
      → (tree_of entries (suc place) ≡ tree it.form (tree_of entries it.first) (tree_of entries it.second)) × (it.first ≤ length entries) × (it.second ≤ length entries)
  pub one : (i j : ℕ) → i ≤ length entries → j ≤ length entries → tree_of entries i ≡ tree_of entries j → i ≡ j

-- each number of before stands for the tree that it stood for
pub record Grows (old new : List Entry) : Type 0 where
  pub longer : length old ≤ length new
  pub same : (number : ℕ) → number ≤ length old → tree_of new number ≡ tree_of old number

-- a number stands for a tree, after entries were put behind others
pub record Puts (old new : List Entry) (number : ℕ) (own : Tree) : Type 0 where
  pub numbered : IsNumbered new
  pub grows : Grows old new
  pub means : Means new number own

-- the number of a type, by its own number
abbrev pub number_at : List ℕ → ℕ → ℕ
number_at numbers own = unwrap_or (slice_get numbers own) 0

-- the numbers of types stand for what stands in place of them
abbrev pub AreNamed : List Entry → List ℕ → (ℕ → Tree) → Type 0
AreNamed entries numbers names = (own : ℕ) → Means entries (number_at numbers own) (names own)

-- the numbers of types were put
pub record PutsAll (old new : List Entry) (numbers : List ℕ) (names : ℕ → Tree) : Type 0 where
  pub numbered : IsNumbered new
  pub grows : Grows old new
  pub named : AreNamed new numbers names

-- the numbers of a schema's types were put
pub record PutsTypes (old new : List Entry) (resolved : Resolved) (numbers : TypeNumbers) : Type 0 where
  pub numbered : IsNumbered new
  pub grows : Grows old new
  pub nodes : AreNamed new numbers.nodes.items (node_tree resolved)
  pub edges : AreNamed new numbers.edges.items (edge_tree resolved)

-- the numbers of the types of two schemas tell which are declared alike
pub record TellsAlike (old new : Resolved) (it : Declarations) : Type 0 where
  pub nodes : (own number : ℕ) → (number_at it.before.nodes.items own == number_at it.after.nodes.items number) ≡ same_tree (node_tree old own) (node_tree new number)
  pub edges : (own number : ℕ) → (number_at it.before.edges.items own == number_at it.after.edges.items number) ≡ same_tree (edge_tree old own) (edge_tree new number)
