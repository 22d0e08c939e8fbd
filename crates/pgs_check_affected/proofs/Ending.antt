-- Where a match binds a node to an end of an edge variable, and the other graph lacks the node, it binds an edge that is an element of the change.
use Rattle.std.proofs.Common.{◌≡◌, ℕ, Bool, true, false, ◌||◌, ◌==◌, cond, ⊎_elim, List, [], ◌∷◌, slice_get, Option, Some, None, is_some, refl, sym, ◌∙◌, ap, subst, true≢false}
use Rattle.std.specs.Prelude.{is_none}
use Rattle.std.specs.List.{list_any, list_all}
use Rattle.std.specs.Map.{lookup}
use Rattle.std.specs.BTreeMap.{is_at}
use Rattle.std.proofs.lemmas.Bool.{and_parts, and_from, or_cases, or_left, or_right, eq-eqb, true_from_ne_false}
use Rattle.pgs_base.specs.declared.element.EdgeId.{EdgeId}
use Rattle.pgs_base.specs.declared.element.Elem.{Elem}
use Rattle.pgs_base.specs.declared.element.Elem.TheVariants.{Node, Edge}
use Rattle.pgs_base.specs.declared.row.EdgeRow.{EdgeRow}
use Rattle.pgs_base.specs.Graph.{Graph, edge_cmp, node_at, edge_at, has_ends, is_graph}
use Rattle.pgs_base.proofs.Graphs.{graph_parts}
use Rattle.pgs_syntax.specs.declared.pattern.Atom.{Atom}
use Rattle.pgs_syntax.specs.declared.pattern.Atom.TheVariants.{Ends, HasLabel, FitsNode, FitsEdge, Equals}
use Rattle.pgs_syntax.specs.declared.pattern.Pattern.{Pattern}
use Rattle.pgs_syntax.specs.declared.resolved.Resolved.{Resolved}
use Rattle.pgs_syntax.specs.Matches.{carried, are_there, is_match}
use Rattle.pgs_syntax.specs.Valid.{is_valid_pattern}
use Rattle.pgs_match.specs.Plans.{has_end}
use Rattle.pgs_match.proofs.Completed.{placed}
use Rattle.pgs_check_affected.specs.Local.{is_one_of, AgreeBut}
use Rattle.pgs_check_affected.specs.Met.{has_as_end, is_end_var}

-- ---- the atom that has a variable as an end

abbrev IsEnd : ℕ → List Atom → Type 0
IsEnd var atoms = (edge : ℕ) × (source : Bool) × (list_any (has_end edge var source) atoms ≡ true)

end_here : (var edge source target : ℕ) (atoms : List Atom) → (source == var || target == var) ≡ true → IsEnd var (Ends edge source target ∷ atoms)
end_here var edge source target atoms h =
    ⊎_elim
    (λ one. (edge, true, or_left (has_end edge var true (Ends edge source target)) _ (and_from _ _ (eq-eqb edge edge refl) one)))
    (λ other. (edge, false, or_left (has_end edge var false (Ends edge source target)) _ (and_from _ _ (eq-eqb edge edge refl) other)))
    (or_cases (source == var) _ h)

end_later : (var : ℕ) (atom : Atom) (atoms : List Atom) → IsEnd var atoms → IsEnd var (atom ∷ atoms)
end_later var atom atoms it = (it.0, it.1, or_right (has_end it.0 var it.1 atom) _ it.2)

some_end : (var : ℕ) (atoms : List Atom) → list_any (has_as_end var) atoms ≡ true → IsEnd var atoms
some_end var [] h = absurd (true≢false (sym h))
some_end var (Ends edge source target ∷ atoms) h =
    ⊎_elim (end_here var edge source target atoms) (λ later. end_later var (Ends edge source target) atoms (some_end var atoms later)) (or_cases (source == var || target == var) _ h)
some_end var (HasLabel of label ∷ atoms) h = end_later var (HasLabel of label) atoms (some_end var atoms h)
some_end var (FitsNode of number ∷ atoms) h = end_later var (FitsNode of number) atoms (some_end var atoms h)
some_end var (FitsEdge of number ∷ atoms) h = end_later var (FitsEdge of number) atoms (some_end var atoms h)
some_end var (Equals of key value ∷ atoms) h = end_later var (Equals of key value) atoms (some_end var atoms h)

-- ---- the ends of an edge are nodes of its graph

found_passes : {K V : Type 0} (test : V → Bool) (at : K → Bool) (es : List (K × V)) (v : V) → list_all (λ (e : K × V). test e.1) es ≡ true → lookup at es ≡ Some v → test v ≡ true
found_passes test at [] v all found = cc
found_passes {K} {V} test at (e ∷ es) v all found = by (at e.0) found (found_passes test at es v (and_parts (test e.1) _ all).1)
  where
    by : (b : Bool) → cond b (Some e.1) (lookup at es) ≡ Some v → (lookup at es ≡ Some v → test v ≡ true) → test v ≡ true
    by true found rest = let same : e.1 ≡ v = cc in ap test (sym same) ∙ (and_parts (test e.1) _ all).0
    by false found rest = rest found

end_there : (g : Graph) → is_graph g ≡ true → (id : EdgeId) (row : EdgeRow) (source : Bool) → edge_at g id ≡ Some row → is_some (node_at g (cond source row.source row.target)) ≡ true
end_there g graph id row source at = by source
  where
    both : (is_some (node_at g row.source) ≡ true) × (is_some (node_at g row.target) ≡ true)
    both = and_parts _ _ (found_passes (has_ends g) (is_at (edge_cmp id)) g.edges row (graph_parts g graph).ends at)

    by : (source : Bool) → is_some (node_at g (cond source row.source row.target)) ≡ true
    by true = both.0
    by false = both.1

some_not_none : {X : Type 0} (o : Option X) → is_some o ≡ true → is_none o ≡ true → ⊥
some_not_none None some none = true≢false (sym some)
some_not_none (Some x) some none = true≢false (sym none)

-- ---- of two graphs that agree but for some elements

module _ (resolved : Resolved) (elems : List Elem) (one other : Graph) (agree : AgreeBut (is_one_of elems) one other) (graph : is_graph other ≡ true) (pattern : Pattern)
    (valid : is_valid_pattern pattern ≡ true) (bound : List Elem) (match : is_match resolved one pattern bound ≡ true) (var : ℕ) (is_end : is_end_var pattern var ≡ true) (elem : Elem)
    (at : slice_get bound var ≡ Some elem) where
  -- the edge that a match binds there, and the node itself
  pub record HasEdge : Type 0 where
    pub edge : ℕ
    pub id : EdgeId
    pub row : EdgeRow
    pub source : Bool
    pub bound_at : slice_get bound edge ≡ Some (Edge id)
    pub row_at : edge_at one id ≡ Some row
    pub node : elem ≡ Node (cond source row.source row.target)

  pub has_edge : HasEdge
  has_edge =
      let end = some_end var pattern.atoms is_end in
      let place = placed resolved one pattern valid bound match end.0 var end.1 pattern.atoms end.2 (and_parts (are_there one pattern.edge_vars bound) _ match).1 in
      let same : Some elem ≡ Some (Node (cond end.1 place.1.source place.1.target)) = sym at ∙ place.4 in
      record { edge = end.0; id = place.0; row = place.1; source = end.1; bound_at = place.2; row_at = place.3; node = cc }

  -- where the other graph lacks the node, it lacks the edge
  pub edge_touched : is_none (carried other elem) ≡ true → is_one_of elems (Edge has_edge.id) ≡ true
  edge_touched none =
      true_from_ne_false _ (λ out.
      let id = has_edge.id in
      let row = has_edge.row in
      some_not_none (node_at other (cond has_edge.source row.source row.target))
      (end_there other graph id row has_edge.source (sym (agree.edges id out) ∙ has_edge.row_at))
      (subst (λ e. is_none (carried other e) ≡ true) has_edge.node none))
