-- Which keys the braces of a specification name, and whether some of them have OPEN. A named type counts with its own braces,
-- and so do the types that it names.
use Rattle.std.specs.Prelude.{ℕ, Bool, false, ◌||◌, not, List, length}
use Rattle.pgs_syntax.specs.declared.element_type.NodeType.{NodeType}
use Rattle.pgs_syntax.specs.declared.element_type.EdgeType.{EdgeType}
use Rattle.pgs_syntax.specs.declared.resolved.Resolved.{Resolved}
use Rattle.pgs_syntax.specs.declared.specification.Braces.{Braces}
use Rattle.pgs_syntax.specs.declared.specification.Leaf.{Leaf}
use Rattle.pgs_syntax.specs.declared.specification.Leaf.TheVariants.{Named}
use Rattle.pgs_syntax.specs.declared.specification.Spec as specs
use Rattle.pgs_syntax.specs.declared.specification.Spec.{Spec, Word, And', Or', Opt', Row_of-Spec, end_of-Spec, more_of-Spec}
use Rattle.pgs_syntax.specs.Fitting.{is_named_by}
use Rattle.pgs_syntax.specs.Numbered.{passes_below}

-- Whether some braces in a specification pass a test. Whether some in a named type do is given.
module _ (test : Braces → Bool) (named : ℕ → Bool) where
  abbrev mutual
    pub some_braces : Spec Leaf → Bool
    some_braces (Word (Named number)) = named number
    some_braces (specs.Braces braces) = test braces
    some_braces (And' _ parts) = some_braces_of parts
    some_braces (Or' _ parts) = some_braces_of parts
    some_braces (Opt' _ part) = some_braces_of part
    some_braces _ = false

    pub some_braces_of : {n : _} → Row_of-Spec Leaf n → Bool
    some_braces_of end_of-Spec = false
    some_braces_of (more_of-Spec part parts) = some_braces part || some_braces_of parts

-- whether some braces in a type of one specification pass a test, where it is known in which types of its numbers some do
abbrev pub some_in_type : {T : Type 0} → (T → Spec Leaf) → (ℕ → (Braces → Bool) → Bool) → T → (Braces → Bool) → Bool
some_in_type spec_of named type test = some_braces test (λ number. named number test) (spec_of type)

-- whether some braces in the type of a number below a bound pass a test
abbrev pub some_below : {T : Type 0} → (Braces → Bool) → (T → Spec Leaf) → List T → ℕ → ℕ → Bool
some_below test spec_of types bound number = passes_below (some_in_type spec_of) types bound number test

-- whether some braces in a specification of nodes pass a test, and in one of the middle of edges
abbrev pub some_of_nodes : Resolved → (Braces → Bool) → Spec Leaf → Bool
some_of_nodes resolved test spec =
    some_braces test (some_below test (λ (type : NodeType Leaf). type.spec) resolved.nodes (length resolved.nodes)) spec

abbrev pub some_of_edges : Resolved → (Braces → Bool) → Spec Leaf → Bool
some_of_edges resolved test spec =
    some_braces test (some_below test (λ (type : EdgeType Leaf). type.middle) resolved.edges (length resolved.edges)) spec

-- whether braces have OPEN, and whether they name a key
abbrev pub has_more : Braces → Bool
has_more braces = braces.more

abbrev pub names : List ℕ → Braces → Bool
names key braces = is_named_by braces.properties key

-- whether a specification of nodes is closed, and whether it names a key
abbrev pub is_closed : Resolved → Spec Leaf → Bool
is_closed resolved spec = not (some_of_nodes resolved has_more spec)

abbrev pub names_key : Resolved → Spec Leaf → List ℕ → Bool
names_key resolved spec key = some_of_nodes resolved (names key) spec

-- the same of the middle of edges
abbrev pub is_closed_middle : Resolved → Spec Leaf → Bool
is_closed_middle resolved spec = not (some_of_edges resolved has_more spec)

abbrev pub middle_names_key : Resolved → Spec Leaf → List ℕ → Bool
middle_names_key resolved spec key = some_of_edges resolved (names key) spec
