-- Types whose answers are all that they are contained.
use Rattle.std.proofs.Common.{◌≡◌, ⊎_elim, ℕ, Bool, true, false, not, List, [], ◌∷◌, ◌++◌, Option, Some, None, is_some, slice_get, refl, sym, ap, subst, ◌∙◌, true≢false}
use Rattle.std.specs.Prelude.{Contains, option_and_then, option_map}
use Rattle.std.specs.List.{list_any}
use Rattle.std.specs.Option.{option_map_or}
use Rattle.std.proofs.lemmas.List.{append-nil}
use Rattle.pgs_syntax.proofs.Members.{contains_cases, contains_none, given_given}
use Rattle.pgs_syntax.specs.declared.element_type.EdgeType.{EdgeType}
use Rattle.pgs_syntax.specs.declared.element_type.NodeType.{NodeType}
use Rattle.pgs_syntax.specs.declared.resolved.Resolved.{Resolved}
use Rattle.pgs_syntax.specs.declared.resolved.TypeNo.{TypeNo}
use Rattle.pgs_syntax.specs.declared.resolved.TypeNo.TheVariants as types
use Rattle.pgs_syntax.specs.declared.specification.Leaf.{Leaf}
use Rattle.pgs_contain.specs.Contained.{IsContained}
use Rattle.pgs_schema_changes.specs.AsksNoMore.{AreTypesContained, is_concrete}
use Rattle.pgs_command.specs.declared.status.Status.{Status}
use Rattle.pgs_run_contain.specs.Answers.{Answer, AreRight, Listed, listed, listed_at, shown_name}
use Rattle.pgs_run_contain.specs.Names.{Names}
use Rattle.pgs_run_contain.specs.Running.{Answered, HasAllLines}

-- ---- a type that isn't abstract is listed

name_shown : (hidden : Bool) (own : List ℕ) → not hidden ≡ true → (name : List ℕ) × (shown_name hidden own ≡ Some name)
name_shown true own is = absurd (true≢false (sym is))
name_shown false own is = (own, refl)

node_named : (found : Option (NodeType Leaf)) → option_map_or (λ (type : NodeType Leaf). not type.hidden) found false ≡ true
    → (name : List ℕ) × (option_and_then (λ (type : NodeType Leaf). shown_name type.hidden type.name) found ≡ Some name)
node_named None is = absurd (true≢false (sym is))
node_named (Some type) is = name_shown type.hidden type.name is

edge_named : (found : Option (EdgeType Leaf)) → option_map_or (λ (type : EdgeType Leaf). not type.hidden) found false ≡ true
    → (name : List ℕ) × (option_and_then (λ (type : EdgeType Leaf). shown_name type.hidden type.name) found ≡ Some name)
edge_named None is = absurd (true≢false (sym is))
edge_named (Some type) is = name_shown type.hidden type.name is

listed_here : (first : Resolved) (type : TypeNo) → is_concrete first type ≡ true → (name : List ℕ) × (listed_at first type ≡ Some (type, name))
listed_here first (types.Node number) is =
    let found = node_named (slice_get first.nodes number) is in (found.0, ap (option_map (λ (name : List ℕ). (types.Node number, name))) found.1)
listed_here first (types.Edge number) is =
    let found = edge_named (slice_get first.edges number) is in (found.0, ap (option_map (λ (name : List ℕ). (types.Edge number, name))) found.1)

-- ---- answers of which each is that its type is contained

all_contained : (first second : Resolved) (names : Names) (listed : List Listed) (answers : List Answer) → AreRight first second names listed answers → list_any is_some answers ≡ false → (type : Listed) → Contains listed type → IsContained first type.0 second
all_contained first second names [] answers right none type there = absurd (contains_none type there)
all_contained first second names (one ∷ more) [] right none type there = absurd right
all_contained first second names (one ∷ more) (None ∷ answers) right none type there =
    ⊎_elim (λ same. subst (λ (l : Listed). IsContained first l.0 second) same right.0) (λ later. all_contained first second names more answers right.1 none type later) (contains_cases one more type there)
all_contained first second names (one ∷ more) (Some outside ∷ answers) right none type there = absurd (true≢false none)

pub types_contained : (first second : Resolved) (names : Names) (answers : List Answer) (status : Status) → HasAllLines status → list_any is_some answers ≡ false → Answered first second names (listed first first.guard.types) answers status → AreTypesContained first second
types_contained first second names answers status all_lines none told = λ type there concrete.
    let all : listed first first.guard.types ≡ told.answered = told.parts ∙ ap (λ (more : List Listed). told.answered ++ more) (told.whole all_lines) ∙ append-nil told.answered in
    let name = listed_here first type concrete in
    all_contained first second names told.answered answers told.right none (type, name.0)
    (subst (λ (ts : List Listed). Contains ts (type, name.0)) all (given_given (listed_at first) first.guard.types type (type, name.0) there name.1))
