-- Where no element of a change can stand in a match of a key's scope, nor behind x in one of its descriptor, nothing differs under the key.
use Rattle.std.proofs.Common.{◌≡◌, ◌⊎◌, ℕ, zero, suc, ◌<◌, ◌≤◌, Bool, true, false, ◌&&◌, ◌||◌, ◌==◌, not, ⊎_elim, inl, inr, List, length, map, slice_get, Option, Some, None, refl, sym, ◌∙◌, ap, subst, true≢false, arith}
use Rattle.std.specs.Prelude.{is_none}
use Rattle.std.specs.Option.{option_map_or}
use Rattle.std.specs.List.{list_any, All}
use Rattle.std.proofs.lemmas.Bool.{and_parts, or_parts, or_cases, or_from, both_ways, eqb-true, false_from_ne_true}
use Rattle.std.proofs.lemmas.List.{get_or-map, length-map}
use Rattle.std.proofs.lemmas.List.Elements.{All-contains}
use Rattle.std.proofs.lemmas.Option.{slice_get_within}
use Rattle.pgs_base.specs.declared.element.EdgeId.{EdgeId}
use Rattle.pgs_base.specs.declared.element.Elem.{Elem}
use Rattle.pgs_base.specs.declared.element.Elem.TheVariants.{Node, Edge}
use Rattle.pgs_base.specs.declared.row.EdgeRow.{EdgeRow}
use Rattle.pgs_base.specs.declared.row.NodeRow.{NodeRow}
use Rattle.pgs_base.specs.Graph.{Graph, edge_at, is_graph}
use Rattle.pgs_syntax.specs.declared.key.Key.{Key}
use Rattle.pgs_syntax.specs.declared.pattern.Pattern.{Pattern}
use Rattle.pgs_syntax.specs.declared.resolved.Resolved.{Resolved}
use Rattle.pgs_syntax.specs.KeyValues.{starts_at, is_in_scope}
use Rattle.pgs_syntax.specs.Matches.{carried, is_match}
use Rattle.pgs_syntax.specs.Valid.{is_edge_var, is_valid_pattern, is_valid_key}
use Rattle.pgs_syntax.proofs.Assigned.{match_found, match_given}
use Rattle.pgs_match.specs.Bounds.{stands_at}
use Rattle.pgs_match.specs.Tests.{own_passes}
use Rattle.pgs_match.proofs.Counts.{some_at}
use Rattle.pgs_match.proofs.There.{there_at, there_size, IsOfKind}
use Rattle.pgs_match.proofs.Walked.{stands}
use Rattle.pgs_check_affected.specs.declared.known.Known.{Known}
use Rattle.pgs_check_affected.specs.Changes.{known_in}
use Rattle.pgs_check_affected.specs.Found.{passes}
use Rattle.pgs_check_affected.specs.Local.{is_one_of, AgreeBut, has_touched_end, is_edge_alone, may_differ, binds_touched, IsAlike}
use Rattle.pgs_check_affected.specs.Met.{is_end_var, is_taken_at, IsApart}
use Rattle.pgs_check_affected.proofs.Ending.{has_edge, edge_touched}
use Rattle.pgs_check_affected.proofs.BoundEnds.{passes_none, untouched_ends}
use Rattle.pgs_check_affected.proofs.Finding.{any_slice, contains_it}
use Rattle.pgs_check_affected.proofs.Agreeing.{free}
use Rattle.pgs_check_affected.proofs.Locality.{patterns_valid, place_same, turned, values_same}
use Rattle.pgs_check_affected.proofs.Passing.{match_passes, stands_itself}

zero_or_more : (n : ℕ) → (n ≡ 0) ⊎ (1 ≤ n)
zero_or_more zero = inl refl
zero_or_more (suc n) = inr (omega arith)

same_item : (a b : Elem) → Some a ≡ Some b → a ≡ b
same_item a b e = cc

-- What a pattern asks of the variables from a number on, in one of two graphs: no element of a change passes it, but for one that the other graph
-- lacks, at an end of an edge variable.
abbrev pub IsFree : Resolved → List Elem → Graph → Graph → Pattern → ℕ → Type 0
IsFree resolved elems one other pattern first = (elem : Elem) → is_one_of elems elem ≡ true → (var : ℕ) → first ≤ var → var < length pattern.edge_vars →
    (passes resolved one pattern var elem ≡ false) ⊎ ((is_none (carried other elem) ≡ true) × (is_end_var pattern var ≡ true))

-- So a match binds none, where none stands before that number.
module _ (resolved : Resolved) (elems : List Elem) (one other : Graph) (agree : AgreeBut (is_one_of elems) one other) (graph : is_graph other ≡ true) (pattern : Pattern)
    (valid : is_valid_pattern pattern ≡ true) (first : ℕ) (free : IsFree resolved elems one other pattern first) (bound : List Elem) (match : is_match resolved one pattern bound ≡ true)
    (later : (var : ℕ) (elem : Elem) → slice_get bound var ≡ Some elem → is_one_of elems elem ≡ true → first ≤ var) where
  -- an element that is bound by a match passes
  below : (var : ℕ) (elem : Elem) → slice_get bound var ≡ Some elem → var < length pattern.edge_vars
  below var elem at =
      let size = there_size one pattern.edge_vars bound (and_parts _ _ match).0 in
      let inside = slice_get_within bound var elem at in
      omega (arith, size, inside)

  bound_passes : (var : ℕ) (elem : Elem) → slice_get bound var ≡ Some elem → passes resolved one pattern var elem ≡ true
  bound_passes var elem at =
      match_passes resolved one pattern valid var (below var elem at) elem
      (match_given resolved one pattern (stands_at var elem) bound match (stands_itself resolved one pattern var elem bound at))

  -- an edge isn't bound to an end
  no_edge : (var : ℕ) (id : EdgeId) → slice_get bound var ≡ Some (Edge id) → is_one_of elems (Edge id) ≡ true → ⊥
  no_edge var id at own =
      ⊎_elim (λ fails. both_ways _ fails (bound_passes var (Edge id) at))
      (λ lacks. let node = (has_edge resolved elems one other agree graph pattern valid bound match var lacks.1 (Edge id) at).node in cc)
      (free (Edge id) own var (later var (Edge id) at own) (below var (Edge id) at))

  pub none_bound : (var : ℕ) (elem : Elem) → slice_get bound var ≡ Some elem → is_one_of elems elem ≡ true → ⊥
  none_bound var elem at own =
      ⊎_elim (λ fails. both_ways _ fails (bound_passes var elem at))
      (λ lacks.
      let edge = has_edge resolved elems one other agree graph pattern valid bound match var lacks.1 elem at in
      no_edge edge.edge edge.id edge.bound_at (edge_touched resolved elems one other agree graph pattern valid bound match var lacks.1 elem at lacks.0))
      (free elem own var (later var elem at own) (below var elem at))

module _ (resolved : Resolved) (elems : List Elem) (key : Key) (valid : is_valid_key key ≡ true) (x : Elem) where
  -- so of all variables of a key's scope, and of those of its descriptor behind x
  pub record AreApart (one other : Graph) : Type 0 where
    pub scope : IsFree resolved elems one other key.scope 0
    pub behind : IsFree resolved elems one other key.descriptor 1

  module _ (one other : Graph) (agree : AgreeBut (is_one_of elems) one other) (graph : is_graph other ≡ true) (apart : AreApart one other) (more : is_edge_alone key.scope ≡ false) where
    pub scope_free : binds_touched resolved (is_one_of elems) one key.scope x ≡ false
    scope_free = false_from_ne_true _ (λ some.
        let it = match_found resolved one key.scope (λ others. starts_at x others && list_any (may_differ (is_one_of elems) one key.scope) others) some in
        let place = any_slice (may_differ (is_one_of elems) one key.scope) it.0 (and_parts (starts_at x it.0) _ it.2).1 in
        ⊎_elim
        (λ own. none_bound resolved elems one other agree graph key.scope (patterns_valid key valid).0 0 apart.scope it.0 it.1 (λ var elem at its. omega arith) place.0 place.1 place.2 own)
        (λ beside. both_ways _ more (and_parts (is_edge_alone key.scope) _ beside).0)
        (or_cases (is_one_of elems place.1) _ place.3))

    -- x is not touched, nor is an end of it, where it is in the scope
    module _ (within : is_in_scope resolved one key x ≡ true) where
      start : (bound : List Elem) × (is_match resolved one key.scope bound ≡ true) × (starts_at x bound ≡ true)
      start = match_found resolved one key.scope (starts_at x) within

      outside : list_any (may_differ (is_one_of elems) one key.scope) start.0 ≡ false
      outside = free resolved (is_one_of elems) one key.scope x scope_free start.0 start.1 start.2

      first : slice_get start.0 0 ≡ Some x
      first = stands 0 x start.0 start.2

      untouched : is_one_of elems x ≡ false
      untouched = (or_parts (is_one_of elems x) _ (passes_none (may_differ (is_one_of elems) one key.scope) start.0 0 x outside first)).0

      own_kind : (elem : Elem) (bound : List Elem) → is_match resolved one key.scope bound ≡ true → slice_get bound 0 ≡ Some elem →
          (kind : Bool) × (slice_get key.scope.edge_vars 0 ≡ Some kind) × IsOfKind one kind elem
      own_kind elem bound match at =
          let size = there_size one key.scope.edge_vars bound (and_parts _ _ match).0 in
          let inside = slice_get_within bound 0 elem at in
          let kind = some_at key.scope.edge_vars 0 (omega (arith, size, inside)) in
          let it = there_at one key.scope.edge_vars bound 0 kind.0 (and_parts _ _ match).0 kind.1 in
          let same : it.0 ≡ elem = (let e : Some it.0 ≡ Some elem = sym it.1 ∙ at in cc) in
          (kind.0, kind.1, subst (IsOfKind one kind.0) same it.2)

      untouched_end : has_touched_end (is_one_of elems) one x ≡ false
      untouched_end = by x first
        where
          edge_var : (kind : Bool) (id : EdgeId) → slice_get key.scope.edge_vars 0 ≡ Some kind → IsOfKind one kind (Edge id) → is_edge_var key.scope.edge_vars 0 ≡ true
          edge_var true id at form = ap (λ o. option_map_or (λ is_edge. is_edge) o false) at
          edge_var false id at form = let is = form.2 in cc

          ends : (id : EdgeId) → slice_get start.0 0 ≡ Some (Edge id) → (o : Option EdgeRow) → edge_at one id ≡ o →
              option_map_or (λ (row : EdgeRow). is_one_of elems (Node row.source) || is_one_of elems (Node row.target)) o false ≡ false
          ends id at None row_at = refl
          ends id at (Some row) row_at =
              let kind = own_kind (Edge id) start.0 start.1 at in
              let both = untouched_ends (is_one_of elems) one resolved key.scope (patterns_valid key valid).0 start.0 outside start.1 0 id row
              (edge_var kind.0 id kind.1 kind.2) at row_at in
              or_from _ _ both.0 both.1

          by : (elem : Elem) → slice_get start.0 0 ≡ Some elem → has_touched_end (is_one_of elems) one elem ≡ false
          by (Node id) at = refl
          by (Edge id) at = ends id at (edge_at one id) refl

      pub descriptor_free : binds_touched resolved (is_one_of elems) one key.descriptor x ≡ false
      descriptor_free = false_from_ne_true _ (λ some.
          let it = match_found resolved one key.descriptor (λ others. starts_at x others && list_any (may_differ (is_one_of elems) one key.descriptor) others) some in
          let both = and_parts (starts_at x it.0) _ it.2 in
          let place = any_slice (may_differ (is_one_of elems) one key.descriptor) it.0 both.1 in
          let size = there_size one key.descriptor.edge_vars it.0 (and_parts _ _ it.1).0 in
          let inside = place.4 in
          let itself = λ (var : ℕ) (elem : Elem) (at : slice_get it.0 var ≡ Some elem) (zero : var ≡ 0).
          (let e : Some elem ≡ Some x = sym at ∙ ap (slice_get it.0) zero ∙ stands 0 x it.0 both.0 in same_item elem x e) in
          ⊎_elim
          (λ touched. none_bound resolved elems one other agree graph key.descriptor (patterns_valid key valid).1 1 apart.behind it.0 it.1
          (λ var elem at own. ⊎_elim (λ (zero : var ≡ 0). absurd (both_ways _ untouched (subst (λ e. is_one_of elems e ≡ true) (itself var elem at zero) own)))
          (λ (later : 1 ≤ var). later) (zero_or_more var))
          place.0 place.1 place.2 touched)
          (λ beside.
          let parts = and_parts (is_edge_alone key.descriptor) _ beside in
          let single = eqb-true (length key.descriptor.edge_vars) 1 (and_parts (length key.descriptor.edge_vars == 1) _ parts.0).0 in
          both_ways _ untouched_end (subst (λ e. has_touched_end (is_one_of elems) one e ≡ true) (itself place.0 place.1 place.2 (omega (arith, single, size, inside))) parts.1))
          (or_cases (is_one_of elems place.1) _ place.3))

  pub alike : (g h : Graph) → AgreeBut (is_one_of elems) g h → is_graph g ≡ true → is_graph h ≡ true → AreApart g h → AreApart h g → is_edge_alone key.scope ≡ false →
      IsAlike resolved g h key x
  alike g h agree graph_g graph_h before after more = by (is_in_scope resolved g key x) refl
    where
      back : AgreeBut (is_one_of elems) h g
      back = turned (is_one_of elems) g h agree

      place : is_in_scope resolved g key x ≡ is_in_scope resolved h key x
      place = place_same resolved (is_one_of elems) g h agree key valid x (or_from _ _ (scope_free g h agree graph_h before more) (scope_free h g back graph_g after more))

      by : (b : Bool) → is_in_scope resolved g key x ≡ b → IsAlike resolved g h key x
      by false out = inl (out, sym place ∙ out)
      by true within = inr (record {
        place = place;
        values = values_same resolved (is_one_of elems) g h agree key valid x
            (or_from _ _ (descriptor_free g h agree graph_h before more within) (descriptor_free h g back graph_g after more (sym place ∙ within)));
      })

-- so of a change, by what is known of its elements
of_mapped : {X Y : Type 0} (f : X → Y) (P : Y → Type 0) (xs : List X) → All P (map f xs) → All (λ x. P (f x)) xs
of_mapped f P xs all k d below = subst P (get_or-map f xs k d (f d) below) (all k (f d) (let size = length-map xs f in omega (arith, size, below)))

-- what isn't there doesn't pass
passes_there : (test : NodeRow → Bool) (o : Option NodeRow) → option_map_or test o false ≡ true → is_none o ≡ false
passes_there test None pass = absurd (true≢false (sym pass))
passes_there test (Some own) pass = refl

-- what is lacking here and there, whether a variable is an end, and what passes here and there, where the variable doesn't take the element
apart_before : (here there ends pass other : Bool) → (pass ≡ true → here ≡ false) → (not ((here || there) && ends) && (pass || other)) ≡ false → (pass ≡ false) ⊎ ((there ≡ true) × (ends ≡ true))
apart_before here there ends false other passed none = inl refl
apart_before here true true true other passed none = inr (refl, refl)
apart_before true there ends true other passed none = absurd (true≢false (passed refl))
apart_before false false ends true other passed none = absurd (true≢false none)
apart_before false true false true other passed none = absurd (true≢false none)

apart_after : (here there ends pass other : Bool) → (pass ≡ true → here ≡ false) → (not ((there || here) && ends) && (other || pass)) ≡ false → (pass ≡ false) ⊎ ((there ≡ true) × (ends ≡ true))
apart_after here there ends false other passed none = inl refl
apart_after here true true true other passed none = inr (refl, refl)
apart_after true there ends true other passed none = absurd (true≢false (passed refl))
apart_after false false ends true true passed none = absurd (true≢false none)
apart_after false false ends true false passed none = absurd (true≢false none)
apart_after false true false true true passed none = absurd (true≢false none)
apart_after false true false true false passed none = absurd (true≢false none)

module _ (resolved : Resolved) (g h : Graph) (known : List Known) (rows : known ≡ map (known_in g h) (map (λ (one : Known). one.elem) known)) (key : Key)
    (valid : is_valid_key key ≡ true) (more : is_edge_alone key.scope ≡ false) (apart : All (IsApart resolved key) known) where
  abbrev elems : List Elem
  elems = map (λ (one : Known). one.elem) known

  own_apart : (elem : Elem) → is_one_of elems elem ≡ true → IsApart resolved key (known_in g h elem)
  own_apart elem own =
      All-contains (λ e. IsApart resolved key (known_in g h e)) elems elem
      (of_mapped (known_in g h) (IsApart resolved key) elems (subst (All (IsApart resolved key)) rows apart)) (contains_it elems elem own)

  free_before : (pattern : Pattern) (var : ℕ) (elem : Elem) → is_taken_at resolved pattern var (known_in g h elem) ≡ false →
      (passes resolved g pattern var elem ≡ false) ⊎ ((is_none (carried h elem) ≡ true) × (is_end_var pattern var ≡ true))
  free_before pattern var elem none =
      apart_before (is_none (carried g elem)) (is_none (carried h elem)) (is_end_var pattern var) (passes resolved g pattern var elem) (passes resolved h pattern var elem)
      (passes_there (own_passes resolved pattern var elem) (carried g elem)) none

  free_after : (pattern : Pattern) (var : ℕ) (elem : Elem) → is_taken_at resolved pattern var (known_in g h elem) ≡ false →
      (passes resolved h pattern var elem ≡ false) ⊎ ((is_none (carried g elem) ≡ true) × (is_end_var pattern var ≡ true))
  free_after pattern var elem none =
      apart_after (is_none (carried h elem)) (is_none (carried g elem)) (is_end_var pattern var) (passes resolved h pattern var elem) (passes resolved g pattern var elem)
      (passes_there (own_passes resolved pattern var elem) (carried h elem)) none

  pub all_alike : AgreeBut (is_one_of elems) g h → is_graph g ≡ true → is_graph h ≡ true → (x : Elem) → IsAlike resolved g h key x
  all_alike agree graph_g graph_h x =
      alike resolved elems key valid x g h agree graph_g graph_h
      (record {
        scope = λ elem own var from below. free_before key.scope var elem ((own_apart elem own).0 var from below);
        behind = λ elem own var from below. free_before key.descriptor var elem ((own_apart elem own).1 var from below);
      })
      (record {
        scope = λ elem own var from below. free_after key.scope var elem ((own_apart elem own).0 var from below);
        behind = λ elem own var from below. free_after key.descriptor var elem ((own_apart elem own).1 var from below);
      })
      more
