-- The parts of a specification unfolded, by their list.
use Rattle.std.specs.Prelude.{ℕ, List, [], ◌∷◌}
use Rattle.pgs_syntax.specs.declared.specification.Leaf.{Leaf}
use Rattle.pgs_syntax.specs.declared.specification.Spec.{Spec}
use Rattle.pgs_schema_changes.specs.declared.form.Form.TheVariants as forms
use Rattle.pgs_schema_changes.specs.Unfolded.{Tree, nothing, tree, unfolded}

abbrev pub parts_tree : (ℕ → Tree) → List (Spec Leaf) → Tree
parts_tree names [] = nothing
parts_tree names (part ∷ parts) = tree forms.Parts (unfolded names part) (parts_tree names parts)
