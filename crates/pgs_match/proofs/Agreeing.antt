-- Elements that agree with bindings of all variables are a match exactly where the bindings of each edge place agree.
use Rattle.std.proofs.Common.{◌≡◌, ℕ, zero, suc, arith, ◌+◌, ◌<◌, Bool, true, false, ◌&&◌, ◌==◌, List, [], ◌∷◌, length, slice_get, Option, Some, refl, sym, ◌∙◌, ap, subst, true≢false, zero-add}
use Rattle.std.specs.Option.{option_map_or}
use Rattle.std.specs.List.{list_any, list_all}
use Rattle.std.proofs.lemmas.Bool.{and_parts, and_from, ltb-true}
use Rattle.pgs_base.specs.declared.element.NodeId.{NodeId}
use Rattle.pgs_base.specs.declared.element.EdgeId.{EdgeId}
use Rattle.pgs_base.specs.declared.element.Elem.{Elem}
use Rattle.pgs_base.specs.declared.element.Elem.TheVariants.{Node, Edge}
use Rattle.pgs_base.specs.declared.row.NodeRow.{NodeRow}
use Rattle.pgs_base.specs.declared.row.EdgeRow.{EdgeRow}
use Rattle.pgs_base.specs.Graph.{Graph, node_at, edge_at}
use Rattle.pgs_base.specs.Pair.{has_name, value_at, pair_of}
use Rattle.pgs_syntax.specs.declared.pattern.Atom.{Atom}
use Rattle.pgs_syntax.specs.declared.pattern.Atom.TheVariants.{Ends, HasLabel, FitsNode, FitsEdge, Equals}
use Rattle.pgs_syntax.specs.declared.pattern.Pattern.{Pattern}
use Rattle.pgs_syntax.specs.declared.resolved.Resolved.{Resolved}
use Rattle.pgs_syntax.specs.Fitting.{fits_node}
use Rattle.pgs_syntax.specs.Matches.{same_elem, same_value, elements, leads, is_node_of_type, is_edge_of_type, carries, are_there, holds, is_match}
use Rattle.pgs_syntax.specs.Typed.{triple_at}
use Rattle.pgs_syntax.specs.Valid.{is_edge_var, is_node_var, speaks_of}
use Rattle.pgs_match.proofs.Known.{edge_below, node_below}
use Rattle.pgs_match.specs.declared.bindings.Bound.{Bound}
use Rattle.pgs_match.specs.declared.bindings.Bound.TheVariants as bounds
use Rattle.pgs_match.specs.Bounds.{elem_of, bound_at}
use Rattle.pgs_match.specs.Tests.{pair_meets, node_meets, triple_meets, are_ends, agrees}
use Rattle.pgs_match.proofs.AskedOf.{asked_here, carries_at, edge_carries, edge_type_at}
use Rattle.pgs_match.proofs.Standing.{IsGood, IsState}
use Rattle.pgs_match.proofs.There.{edge_kind, node_kind, no_two_kinds, listing, listing_at, there_from, edge_there, node_there}

-- elements have what the variables are bound to
abbrev pub Agrees : List (Option Bound) → List Elem → Type 0
Agrees b elems = (var : ℕ) (x : Bound) → bound_at b var ≡ Some x → slice_get elems var ≡ Some (elem_of x)

slice_below : {X : Type 0} (xs : List X) (i : ℕ) (x : X) → slice_get xs i ≡ Some x → i < length xs
slice_below [] i x h = cc
slice_below (y ∷ ys) zero x h = omega arith
slice_below (y ∷ ys) (suc i) x h = let rest : i < length ys = slice_below ys i x h in omega arith

module _ (resolved : Resolved) (g : Graph) (pattern : Pattern) where
  -- each variable is bound
  abbrev pub IsFull : List (Option Bound) → Type 0
  IsFull b = (var : ℕ) → var < length pattern.edge_vars → (x : Bound) × (bound_at b var ≡ Some x)

  -- ---- what is bound, by the kind of the variable

  abbrev pub IsEdgeForm : Bound → Type 0
  IsEdgeForm x = (id : EdgeId) × (source : NodeId) × (target : NodeId) × (row : EdgeRow) × (x ≡ bounds.Edge id source target) × (edge_at g id ≡ Some row)
      × (row.source ≡ source) × (row.target ≡ target)

  pub edge_form : (var : ℕ) (x : Bound) → is_edge_var pattern.edge_vars var ≡ true → IsGood resolved g pattern var x → IsEdgeForm x
  edge_form var (bounds.Node id) kind good = absurd (no_two_kinds pattern.edge_vars var kind good.0)
  edge_form var (bounds.Edge id source target) kind good = (id, source, target, good.1.0, refl, good.1.1, good.1.2, good.1.3)

  pub node_form : (var : ℕ) (x : Bound) → is_node_var pattern.edge_vars var ≡ true → IsGood resolved g pattern var x → (id : NodeId) × (x ≡ bounds.Node id)
  node_form var (bounds.Node id) kind good = (id, refl)
  node_form var (bounds.Edge id source target) kind good = absurd (no_two_kinds pattern.edge_vars var good.0 kind)

  pub good_below : (var : ℕ) (x : Bound) → IsGood resolved g pattern var x → var < length pattern.edge_vars
  good_below var (bounds.Node id) good = node_below pattern.edge_vars var good.0
  good_below var (bounds.Edge id source target) good = edge_below pattern.edge_vars var good.0

  good_there : (var : ℕ) (x : Bound) (kind : Bool) → IsGood resolved g pattern var x → slice_get pattern.edge_vars var ≡ Some kind →
      list_any (same_elem (elem_of x)) (elements g kind) ≡ true
  good_there var (bounds.Node id) kind good at =
      let is : false ≡ kind = (let e : Some false ≡ Some kind = sym (node_kind pattern.edge_vars var good.0) ∙ at in cc) in
      subst (λ k. list_any (same_elem (Node id)) (elements g k) ≡ true) is (node_there g id good.1.0 good.1.1)
  good_there var (bounds.Edge id source target) kind good at =
      let is : true ≡ kind = (let e : Some true ≡ Some kind = sym (edge_kind pattern.edge_vars var good.0) ∙ at in cc) in
      subst (λ k. list_any (same_elem (Edge id)) (elements g k) ≡ true) is (edge_there g id good.1.0 good.1.1)

  module _ (known : List Bool) (b : List (Option Bound)) (state : IsState resolved g pattern known b) (full : IsFull b) where
    -- ---- the elements to which all variables are bound

    abbrev elem_at : ℕ → Elem
    elem_at var = option_map_or elem_of (bound_at b var) (Node (record { 0 = 0 }))

    abbrev pub elems_of : List Elem
    elems_of = listing elem_at 0 pattern.edge_vars

    elem_at_is : (var : ℕ) (x : Bound) → bound_at b var ≡ Some x → elem_at (0 + var) ≡ elem_of x
    elem_at_is var x at = ap elem_at (zero-add var) ∙ ap (λ o. option_map_or elem_of o (Node (record { 0 = 0 }))) at

    pub elems_agree : Agrees b elems_of
    elems_agree var x at = listing_at elem_at 0 pattern.edge_vars var (good_below var x (state.good var x at)) ∙ ap Some (elem_at_is var x at)

    pub elems_there : are_there g pattern.edge_vars elems_of ≡ true
    elems_there = there_from g elem_at 0 pattern.edge_vars by
      where
        by : (var : ℕ) (kind : Bool) → slice_get pattern.edge_vars var ≡ Some kind → list_any (same_elem (elem_at (0 + var))) (elements g kind) ≡ true
        by var kind at =
            let x = full var (slice_below pattern.edge_vars var kind at) in
            subst (λ elem. list_any (same_elem elem) (elements g kind) ≡ true) (sym (elem_at_is var x.0 x.1)) (good_there var x.0 kind (state.good var x.0 x.1) at)

    module _ (elems : List Elem) (agree : Agrees b elems) where
      -- ---- what an atom asks holds where the tests of the variables do

      -- what is asked of the pair of a variable
      pair_holds : (of : ℕ) (test : NodeRow → Bool) → of < length pattern.edge_vars →
          ((id : NodeId) (own : NodeRow) → bound_at b of ≡ Some (bounds.Node id) → node_at g id ≡ Some own → test own ≡ true) →
          ((id : EdgeId) (source target : NodeId) (row : EdgeRow) → bound_at b of ≡ Some (bounds.Edge id source target) → edge_at g id ≡ Some row → test (pair_of row.labels row.props) ≡ true) →
          carries g elems of test ≡ true
      pair_holds of test below nodes edges = by (full of below).0 (full of below).1 (state.good of (full of below).0 (full of below).1)
        where
          by : (x : Bound) → bound_at b of ≡ Some x → IsGood resolved g pattern of x → carries g elems of test ≡ true
          by (bounds.Node id) at good =
              carries_at resolved g elems of (Node id) good.1.0 test (agree of (bounds.Node id) at) good.1.1 ∙ nodes id good.1.0 at good.1.1
          by (bounds.Edge id source target) at good =
              let row = good.1.0 in
              carries_at resolved g elems of (Edge id) (pair_of row.labels row.props) test (agree of (bounds.Edge id source target) at) (edge_carries resolved g elems of id row (agree of (bounds.Edge id source target) at) good.1.1)
              ∙ edges id source target row at good.1.1

      ends_hold : (edge source target : ℕ) → are_ends (bound_at b edge) (bound_at b source) (bound_at b target) ≡ true →
          leads g (slice_get elems edge) (slice_get elems source) (slice_get elems target) ≡ true
      ends_hold edge source target h = by (bound_at b edge) refl (bound_at b source) refl (bound_at b target) refl h
        where
          by : (o : Option Bound) → bound_at b edge ≡ o → (p : Option Bound) → bound_at b source ≡ p → (q : Option Bound) → bound_at b target ≡ q →
              are_ends o p q ≡ true → leads g (slice_get elems edge) (slice_get elems source) (slice_get elems target) ≡ true
          by (Some (bounds.Edge id first second)) at_edge (Some (bounds.Node a)) at_source (Some (bounds.Node c)) at_target same =
              let good = state.good edge (bounds.Edge id first second) at_edge in
              let row = good.1.0 in
              let e = agree edge (bounds.Edge id first second) at_edge in
              let s = agree source (bounds.Node a) at_source in
              let t = agree target (bounds.Node c) at_target in
              ap (λ x. leads g x (slice_get elems source) (slice_get elems target)) e ∙ ap (λ x. leads g (Some (Edge id)) x (slice_get elems target)) s
              ∙ ap (λ x. leads g (Some (Edge id)) (Some (Node a)) x) t
              ∙ ap (λ x. option_map_or (λ (r : EdgeRow). r.source.0 == a.0 && r.target.0 == c.0) x false) good.1.1
              ∙ ap (λ (n : NodeId). n.0 == a.0 && row.target.0 == c.0) good.1.2 ∙ ap (λ (n : NodeId). first.0 == a.0 && n.0 == c.0) good.1.3 ∙ same
          by o at_edge p at_source q at_target same = absurd (true≢false (sym same))

      abbrev AskedOfNodes : Atom → Type 0
      AskedOfNodes atom = (var : ℕ) (id : NodeId) (own : NodeRow) → bound_at b var ≡ Some (bounds.Node id) → node_at g id ≡ Some own → node_meets resolved var own atom ≡ true

      abbrev AskedOfEdges : Atom → Type 0
      AskedOfEdges atom = (var : ℕ) (id : EdgeId) (source target : NodeId) (row : EdgeRow) → bound_at b var ≡ Some (bounds.Edge id source target) → edge_at g id ≡ Some row →
          (pair_meets var (pair_of row.labels row.props) atom ≡ true) × (triple_meets resolved var (triple_at g row) atom ≡ true)

      one_holds : (atom : Atom) → speaks_of pattern.edge_vars atom ≡ true → agrees b atom ≡ true → AskedOfNodes atom → AskedOfEdges atom → holds resolved g elems atom ≡ true
      one_holds (Ends edge source target) speaks agree_here nodes edges = ends_hold edge source target agree_here
      one_holds (HasLabel of label) speaks agree_here nodes edges =
          pair_holds of (λ own. has_name label own.labels) (ltb-true of (length pattern.edge_vars) speaks)
          (λ id own at row_at. asked_here of _ (nodes of id own at row_at)) (λ id source target row at row_at. asked_here of _ (edges of id source target row at row_at).0)
      one_holds (FitsNode of number) speaks agree_here nodes edges =
          by (full of (node_below pattern.edge_vars of speaks)).0 (full of (node_below pattern.edge_vars of speaks)).1
          (state.good of (full of (node_below pattern.edge_vars of speaks)).0 (full of (node_below pattern.edge_vars of speaks)).1)
        where
          by : (x : Bound) → bound_at b of ≡ Some x → IsGood resolved g pattern of x → option_map_or (is_node_of_type resolved g number) (slice_get elems of) false ≡ true
          by (bounds.Node id) at good =
              ap (λ o. option_map_or (is_node_of_type resolved g number) o false) (agree of (bounds.Node id) at)
              ∙ ap (λ o. option_map_or (fits_node resolved number) o false) good.1.1 ∙ asked_here of _ (nodes of id good.1.0 at good.1.1)
          by (bounds.Edge id source target) at good = absurd (no_two_kinds pattern.edge_vars of good.0 speaks)
      one_holds (FitsEdge of number) speaks agree_here nodes edges =
          by (full of (edge_below pattern.edge_vars of speaks)).0 (full of (edge_below pattern.edge_vars of speaks)).1
          (state.good of (full of (edge_below pattern.edge_vars of speaks)).0 (full of (edge_below pattern.edge_vars of speaks)).1)
        where
          by : (x : Bound) → bound_at b of ≡ Some x → IsGood resolved g pattern of x → option_map_or (is_edge_of_type resolved g number) (slice_get elems of) false ≡ true
          by (bounds.Node id) at good = absurd (no_two_kinds pattern.edge_vars of speaks good.0)
          by (bounds.Edge id source target) at good =
              edge_type_at resolved g elems of id good.1.0 (agree of (bounds.Edge id source target) at) good.1.1 of number (agree of (bounds.Edge id source target) at)
              ∙ asked_here of _ (edges of id source target good.1.0 at good.1.1).1
      one_holds (Equals of key value) speaks agree_here nodes edges =
          pair_holds of (λ own. option_map_or (same_value value) (value_at key own.props) false) (ltb-true of (length pattern.edge_vars) speaks)
          (λ id own at row_at. asked_here of _ (nodes of id own at row_at)) (λ id source target row at row_at. asked_here of _ (edges of id source target row at row_at).0)

      abbrev AllAskedOfNodes : List Atom → Type 0
      AllAskedOfNodes atoms = (var : ℕ) (id : NodeId) (own : NodeRow) → bound_at b var ≡ Some (bounds.Node id) → node_at g id ≡ Some own → list_all (node_meets resolved var own) atoms ≡ true

      abbrev AllAskedOfEdges : List Atom → Type 0
      AllAskedOfEdges atoms = (var : ℕ) (id : EdgeId) (source target : NodeId) (row : EdgeRow) → bound_at b var ≡ Some (bounds.Edge id source target) → edge_at g id ≡ Some row →
          (list_all (pair_meets var (pair_of row.labels row.props)) atoms ≡ true) × (list_all (triple_meets resolved var (triple_at g row)) atoms ≡ true)

      all_hold : (atoms : List Atom) → list_all (speaks_of pattern.edge_vars) atoms ≡ true → list_all (agrees b) atoms ≡ true → AllAskedOfNodes atoms → AllAskedOfEdges atoms →
          list_all (holds resolved g elems) atoms ≡ true
      all_hold [] speaks agree_all nodes edges = refl
      all_hold (atom ∷ atoms) speaks agree_all nodes edges =
          let s = and_parts _ _ speaks in
          let a = and_parts (agrees b atom) _ agree_all in
          and_from _ _
          (one_holds atom s.0 a.0 (λ var id own at row_at. (and_parts _ _ (nodes var id own at row_at)).0)
          (λ var id source target row at row_at. let both = edges var id source target row at row_at in ((and_parts _ _ both.0).0, (and_parts _ _ both.1).0)))
          (all_hold atoms s.1 a.1 (λ var id own at row_at. (and_parts (node_meets resolved var own atom) _ (nodes var id own at row_at)).1)
          (λ var id source target row at row_at. let both = edges var id source target row at row_at in
          ((and_parts (pair_meets var (pair_of row.labels row.props) atom) _ both.0).1, (and_parts (triple_meets resolved var (triple_at g row) atom) _ both.1).1)))

      pub match_from : list_all (speaks_of pattern.edge_vars) pattern.atoms ≡ true → list_all (agrees b) pattern.atoms ≡ true → are_there g pattern.edge_vars elems ≡ true →
          is_match resolved g pattern elems ≡ true
      match_from speaks agree_all there =
          and_from _ _ there (all_hold pattern.atoms speaks agree_all nodes edges)
        where
          one_row : {X : Type 0} (o : Option X) (x y : X) → o ≡ Some x → o ≡ Some y → x ≡ y
          one_row o x y one other = let e : Some x ≡ Some y = sym one ∙ other in cc

          nodes : AllAskedOfNodes pattern.atoms
          nodes var id own at row_at =
              let good = state.good var (bounds.Node id) at in
              subst (λ p. list_all (node_meets resolved var p) pattern.atoms ≡ true) (one_row (node_at g id) good.1.0 own good.1.1 row_at) good.1.2

          edges : AllAskedOfEdges pattern.atoms
          edges var id source target row at row_at =
              let good = state.good var (bounds.Edge id source target) at in
              subst (λ (r : EdgeRow). (list_all (pair_meets var (pair_of r.labels r.props)) pattern.atoms ≡ true) × (list_all (triple_meets resolved var (triple_at g r)) pattern.atoms ≡ true))
              (one_row (edge_at g id) good.1.0 row good.1.1 row_at) (and_parts _ _ good.1.4)
