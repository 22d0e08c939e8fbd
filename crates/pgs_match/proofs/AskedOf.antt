-- What a pattern asks of one variable alone is what its atoms ask under a match.
use Rattle.std.proofs.Common.{◌≡◌, ℕ, Bool, true, false, ◌||◌, ◌==◌, not, List, [], ◌∷◌, slice_get, Some, refl, sym, ◌∙◌, ap, subst}
use Rattle.std.specs.Prelude.{option_map, option_and_then}
use Rattle.std.specs.Option.{option_map_or}
use Rattle.std.specs.List.{list_all}
use Rattle.std.proofs.lemmas.Bool.{and_parts, and_from, eqb-true, eq-eqb}
use Rattle.pgs_base.specs.declared.element.NodeId.{NodeId}
use Rattle.pgs_base.specs.declared.element.EdgeId.{EdgeId}
use Rattle.pgs_base.specs.declared.element.Elem.{Elem}
use Rattle.pgs_base.specs.declared.element.Elem.TheVariants.{Node, Edge}
use Rattle.pgs_base.specs.declared.row.NodeRow.{NodeRow}
use Rattle.pgs_base.specs.declared.row.EdgeRow.{EdgeRow}
use Rattle.pgs_base.specs.Graph.{Graph, node_at, edge_at}
use Rattle.pgs_base.specs.Pair.{has_name, value_at, pair_of}
use Rattle.pgs_syntax.specs.declared.pattern.Atom.{Atom}
use Rattle.pgs_syntax.specs.declared.pattern.Atom.TheVariants.{Ends, HasLabel, FitsNode, FitsEdge, Equals}
use Rattle.pgs_syntax.specs.declared.resolved.Resolved.{Resolved}
use Rattle.pgs_syntax.specs.Fitting.{fits_node, fits_edge}
use Rattle.pgs_syntax.specs.Matches.{same_value, carried, is_node_of_type, is_edge_of_type, carries, holds}
use Rattle.pgs_syntax.specs.Typed.{triple_at}
use Rattle.pgs_match.specs.Tests.{pair_meets, node_meets, triple_meets, node_passes, edge_passes}

asked : (of var : ℕ) (x : Bool) → (of ≡ var → x ≡ true) → (not (of == var) || x) ≡ true
asked of var x h = by (of == var) refl
  where
    by : (b : Bool) → (of == var) ≡ b → (not b || x) ≡ true
    by true e = h (eqb-true of var e)
    by false e = refl

pub asked_here : (var : ℕ) (x : Bool) → (not (var == var) || x) ≡ true → x ≡ true
asked_here var x h = subst (λ b. (not b || x) ≡ true) (eq-eqb var var refl) h

pub all_from : {X : Type 0} (p q : X → Bool) → ((x : X) → p x ≡ true → q x ≡ true) → (xs : List X) → list_all p xs ≡ true → list_all q xs ≡ true
all_from p q h [] all = refl
all_from p q h (x ∷ xs) all = let parts = and_parts (p x) _ all in and_from _ _ (h x parts.0) (all_from p q h xs parts.1)

module _ (resolved : Resolved) (g : Graph) (elems : List Elem) where
  -- what is asked of the pair of a variable, by the pair that its element carries
  pub carries_at : (var : ℕ) (elem : Elem) (own : NodeRow) (test : NodeRow → Bool) → slice_get elems var ≡ Some elem → carried g elem ≡ Some own → carries g elems var test ≡ test own
  carries_at var elem own test at carries_it =
      ap (λ o. option_map_or test (option_and_then (carried g) o) false) at ∙ ap (λ o. option_map_or test o false) carries_it

  module _ (var : ℕ) (elem : Elem) (own : NodeRow) (at : slice_get elems var ≡ Some elem) (carries_it : carried g elem ≡ Some own) where
    carried_here : (of : ℕ) (test : NodeRow → Bool) → of ≡ var → carries g elems of test ≡ true → test own ≡ true
    carried_here of test same h = sym (carries_at of elem own test (ap (slice_get elems) same ∙ at) carries_it) ∙ h

    pub pair_meets_from : (atom : Atom) → holds resolved g elems atom ≡ true → pair_meets var own atom ≡ true
    pair_meets_from (Ends edge source target) h = refl
    pair_meets_from (HasLabel of label) h = asked of var _ (λ same. carried_here of (λ (p : NodeRow). has_name label p.labels) same h)
    pair_meets_from (FitsNode of number) h = refl
    pair_meets_from (FitsEdge of number) h = refl
    pair_meets_from (Equals of key value) h = asked of var _ (λ same. carried_here of (λ (p : NodeRow). option_map_or (same_value value) (value_at key p.props) false) same h)

  module _ (var : ℕ) (id : NodeId) (own : NodeRow) (at : slice_get elems var ≡ Some (Node id)) (row_at : node_at g id ≡ Some own) where
    pub node_meets_from : (atom : Atom) → holds resolved g elems atom ≡ true → node_meets resolved var own atom ≡ true
    node_meets_from (Ends edge source target) h = refl
    node_meets_from (HasLabel of label) h = pair_meets_from var (Node id) own at row_at (HasLabel of label) h
    node_meets_from (FitsNode of number) h =
        asked of var _ (λ same. sym (ap (λ o. option_map_or (is_node_of_type resolved g number) o false) (ap (slice_get elems) same ∙ at)
        ∙ ap (λ o. option_map_or (fits_node resolved number) o false) row_at) ∙ h)
    node_meets_from (FitsEdge of number) h = refl
    node_meets_from (Equals of key value) h = pair_meets_from var (Node id) own at row_at (Equals of key value) h

    pub node_passes_from : (atoms : List Atom) → list_all (holds resolved g elems) atoms ≡ true → node_passes resolved atoms var own ≡ true
    node_passes_from atoms all = all_from (holds resolved g elems) (node_meets resolved var own) node_meets_from atoms all

  module _ (var : ℕ) (id : EdgeId) (row : EdgeRow) (at : slice_get elems var ≡ Some (Edge id)) (row_at : edge_at g id ≡ Some row) where
    pub edge_carries : carried g (Edge id) ≡ Some (pair_of row.labels row.props)
    edge_carries = ap (option_map (λ (r : EdgeRow). pair_of r.labels r.props)) row_at

    pub edge_type_at : (of number : ℕ) → slice_get elems of ≡ Some (Edge id) →
        option_map_or (is_edge_of_type resolved g number) (slice_get elems of) false ≡ option_map_or (fits_edge resolved number) (triple_at g row) false
    edge_type_at of number here =
        ap (λ o. option_map_or (is_edge_of_type resolved g number) o false) here
        ∙ ap (λ o. option_map_or (fits_edge resolved number) (option_and_then (triple_at g) o) false) row_at

    pub triple_meets_from : (atom : Atom) → holds resolved g elems atom ≡ true → triple_meets resolved var (triple_at g row) atom ≡ true
    triple_meets_from (Ends edge source target) h = refl
    triple_meets_from (HasLabel of label) h = refl
    triple_meets_from (FitsNode of number) h = refl
    triple_meets_from (FitsEdge of number) h = asked of var _ (λ same. sym (edge_type_at of number (ap (slice_get elems) same ∙ at)) ∙ h)
    triple_meets_from (Equals of key value) h = refl

    pub edge_passes_from : (atoms : List Atom) → list_all (holds resolved g elems) atoms ≡ true → edge_passes resolved g atoms var row ≡ true
    edge_passes_from atoms all =
        and_from _ _ (all_from (holds resolved g elems) (pair_meets var (pair_of row.labels row.props)) (pair_meets_from var (Edge id) (pair_of row.labels row.props) at edge_carries) atoms all)
        (all_from (holds resolved g elems) (triple_meets resolved var (triple_at g row)) triple_meets_from atoms all)
