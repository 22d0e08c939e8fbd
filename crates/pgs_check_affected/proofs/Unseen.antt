-- Two graphs that agree for a key but for seen elements, and when those of a change do.
use Rattle.std.proofs.Common.{◌≡◌, ℕ, zero, suc, ◌<◌, Bool, true, false, ◌&&◌, ◌||◌, ◌==◌, not, ⊎_elim, List, [], ◌∷◌, filter, length, get_or, slice_get, Option, Some, None, refl, sym, ◌∙◌, ap, subst, true≢false, arith}
use Rattle.std.specs.Prelude.{option_and_then, option_map}
use Rattle.std.specs.Option.{option_map_or}
use Rattle.std.specs.List.{list_any, list_all, Contains}
use Rattle.std.specs.Cmp.{Equal-is}
use Rattle.std.proofs.lemmas.Bool.{and_parts, or_parts, or_left, or_right, both_ways, cases_lt, eq-eqb, false_from_ne_true}
use Rattle.pgs_base.specs.declared.element.NodeId.{NodeId}
use Rattle.pgs_base.specs.declared.element.EdgeId.{EdgeId}
use Rattle.pgs_base.specs.declared.element.Elem.{Elem}
use Rattle.pgs_base.specs.declared.element.Elem.TheVariants.{Node, Edge}
use Rattle.pgs_base.specs.declared.part.Part.TheVariants as parts
use Rattle.pgs_base.specs.declared.row.NodeRow.{NodeRow}
use Rattle.pgs_base.specs.declared.row.EdgeRow.{EdgeRow}
use Rattle.pgs_base.specs.declared.value.Value.{Value}
use Rattle.pgs_base.specs.Graph.{Graph, node_at, edge_at, is_end}
use Rattle.pgs_base.specs.Order.{value_cmp}
use Rattle.pgs_base.specs.OrderLaws.{exact_value}
use Rattle.pgs_base.specs.Pair.{value_at, pair_of}
use Rattle.pgs_conform.proofs.Compared.{one_plain}
use Rattle.pgs_conform.proofs.Plain.{plain, edge_plain}
use Rattle.pgs_syntax.specs.declared.key.Key.{Key}
use Rattle.pgs_syntax.specs.declared.pattern.Atom.{Atom}
use Rattle.pgs_syntax.specs.declared.pattern.Atom.TheVariants.{Ends, HasLabel, FitsNode, FitsEdge, Equals}
use Rattle.pgs_syntax.specs.declared.pattern.Expr.{Expr}
use Rattle.pgs_syntax.specs.declared.pattern.Expr.TheVariants.{Element, Property}
use Rattle.pgs_syntax.specs.declared.pattern.Pattern.{Pattern}
use Rattle.pgs_syntax.specs.declared.resolved.Resolved.{Resolved}
use Rattle.pgs_syntax.specs.Fitting.{fits_edge}
use Rattle.pgs_syntax.specs.KeyValues.{is_in_scope, part_of, tuple_of, key_values}
use Rattle.pgs_syntax.specs.Matches.{same_elem, carried, is_match, is_edge_of_type}
use Rattle.pgs_syntax.specs.Typed.{triple_at}
use Rattle.pgs_syntax.specs.Valid.{is_valid_pattern, is_valid_key}
use Rattle.pgs_syntax.proofs.Halves.{any_filter}
use Rattle.pgs_match.specs.declared.planned.Side.{Side}
use Rattle.pgs_match.specs.declared.planned.Side.TheVariants.{Scope, Descriptor}
use Rattle.pgs_match.specs.Planned.{pattern_of}
use Rattle.pgs_check_affected.specs.declared.known.Known.{Known}
use Rattle.pgs_check_affected.specs.Changes.{have_same_ends, keeps_ends, known_in}
use Rattle.pgs_check_affected.specs.Found.{passes}
use Rattle.pgs_check_affected.specs.Local.{is_one_of, AgreeBut, has_touched_end, may_differ, binds_touched}
use Rattle.pgs_check_affected.specs.Unseen.{ends_in, property_in, names_edge_type, FitsAlike, IsAskedAlike, IsUnseen, AgreeForKey, row_passes, is_one_outcome, passes_alike, is_one_value, value_of, gives_alike, asks_some_type, key_asks_edge_types, look_same, is_left_unseen, seen_elems}
use Rattle.pgs_check_affected.proofs.Agreeing.{AgreesOn, match_same, passes_old, starts_same, values_alike}
use Rattle.pgs_check_affected.proofs.BoundEnds.{passes_none, none_touched, one_node}
use Rattle.pgs_check_affected.proofs.Locality.{carried_same, type_same, patterns_valid}
use Rattle.pgs_check_affected.proofs.Touching.{any_implied, any_of, itself}

-- ---- two graphs that agree for a key

abbrev pair_of_ends : EdgeRow → NodeId × NodeId
pair_of_ends row = (row.source, row.target)

one_pair : (a b : NodeId × NodeId) → Some a ≡ Some b → a ≡ b
one_pair a b e = cc

module _ (resolved : Resolved) (g h : Graph) (seen : Elem → Bool) (key : Key) (agree : AgreeForKey resolved g h seen key) where
  pub scope_on : AgreesOn resolved seen g h key.scope
  scope_on = record {
    ends = λ elem out. (agree.elems elem out).ends;
    passed = λ elem out. (agree.elems elem out).scope;
    fits = λ edge out none. (agree.edges edge out none).0;
  }

  pub descriptor_on : AgreesOn resolved seen g h key.descriptor
  descriptor_on = record {
    ends = λ elem out. (agree.elems elem out).ends;
    passed = λ elem out. (agree.elems elem out).descriptor;
    fits = λ edge out none. (agree.edges edge out none).1;
  }

  module _ (valid : is_valid_pattern key.descriptor ≡ true) (elems : List Elem) (out : list_any (may_differ seen g key.descriptor) elems ≡ false)
      (match : is_match resolved g key.descriptor elems ≡ true) where
    part_alike : (expr : Expr) → Contains key.exprs expr → part_of g elems expr ≡ part_of h elems expr
    part_alike (Element var) inside = refl
    part_alike (Property var name) inside = by (slice_get elems var) refl
      where
        by : (o : Option Elem) → slice_get elems var ≡ o →
            option_map parts.Value (option_and_then (λ (own : NodeRow). value_at name own.props) (option_and_then (carried g) o))
            ≡ option_map parts.Value (option_and_then (λ (own : NodeRow). value_at name own.props) (option_and_then (carried h) o))
        by None at = refl
        by (Some elem) at =
            ap (option_map parts.Value)
            ((agree.elems elem (passes_none seen elems var elem (none_touched seen g resolved key.descriptor valid elems out match) at)).values var name inside
            (or_left _ _ (passes_old resolved seen g h key.descriptor descriptor_on valid elems out match var elem at)))

    tuple_alike : (exprs : List Expr) → ((expr : Expr) → Contains exprs expr → part_of g elems expr ≡ part_of h elems expr) → tuple_of g exprs elems ≡ tuple_of h exprs elems
    tuple_alike [] each = refl
    tuple_alike (expr ∷ exprs) each =
        ap (λ o. option_and_then (λ part. option_map (λ rest. part ∷ rest) (tuple_of g exprs elems)) o) (each expr (0, omega arith, refl))
        ∙ ap (λ rest. option_and_then (λ part. option_map (λ more. part ∷ more) rest) (part_of h elems expr))
        (tuple_alike exprs (λ other inside. each other (let below = inside.1 in (suc inside.0, omega (arith, below), inside.2))))

    pub tuples_alike : tuple_of g key.exprs elems ≡ tuple_of h key.exprs elems
    tuples_alike = tuple_alike key.exprs part_alike

  back_ends : (edge : EdgeId) → seen (Edge edge) ≡ false → has_touched_end seen h (Edge edge) ≡ false → has_touched_end seen g (Edge edge) ≡ false
  back_ends edge out none = by (edge_at g edge) (edge_at h edge) (agree.elems (Edge edge) out).ends none
    where
      by : (o p : Option EdgeRow) → option_map pair_of_ends o ≡ option_map pair_of_ends p →
          option_map_or (λ (row : EdgeRow). seen (Node row.source) || seen (Node row.target)) p false ≡ false →
          option_map_or (λ (row : EdgeRow). seen (Node row.source) || seen (Node row.target)) o false ≡ false
      by None p same none = refl
      by (Some row) None same none = cc
      by (Some row) (Some other) same none =
          let both = one_pair (pair_of_ends row) (pair_of_ends other) same in
          let source : row.source ≡ other.source = ap (λ (e : NodeId × NodeId). e.0) both in
          let target : row.target ≡ other.target = ap (λ (e : NodeId × NodeId). e.1) both in
          ap (λ n. seen (Node n) || seen (Node row.target)) source ∙ ap (λ n. seen (Node other.source) || seen (Node n)) target ∙ none

  pub turned_for : AgreeForKey resolved h g seen key
  turned_for = record {
    elems = λ elem out.
        let same = agree.elems elem out in
        record {
          ends = sym same.ends;
          scope = λ var below. sym (same.scope var below);
          descriptor = λ var below. sym (same.descriptor var below);
          values = λ var name inside pass. sym (same.values var name inside (or_swap (passes resolved h key.descriptor var elem) (passes resolved g key.descriptor var elem) pass));
        };
    edges = λ edge out none.
        let same = agree.edges edge out (back_ends edge out none) in (λ number asked. sym (same.0 number asked), λ number asked. sym (same.1 number asked));
  }
    where
      or_swap : (a b : Bool) → (a || b) ≡ true → (b || a) ≡ true
      or_swap true true h = refl
      or_swap true false h = refl
      or_swap false true h = refl
      or_swap false false h = h

pub side_alike : (resolved : Resolved) (g h : Graph) (seen : Elem → Bool) (key : Key) → AgreeForKey resolved g h seen key → is_valid_key key ≡ true → (side : Side) (elems : List Elem) →
    list_any (may_differ seen g (pattern_of side key)) elems ≡ false → is_match resolved g (pattern_of side key) elems ≡ is_match resolved h (pattern_of side key) elems
side_alike resolved g h seen key agree valid Scope elems out = match_same resolved seen g h key.scope (scope_on resolved g h seen key agree) (patterns_valid key valid).0 elems out
side_alike resolved g h seen key agree valid Descriptor elems out =
    match_same resolved seen g h key.descriptor (descriptor_on resolved g h seen key agree) (patterns_valid key valid).1 elems out

module _ (resolved : Resolved) (g h : Graph) (seen : Elem → Bool) (key : Key) (agree : AgreeForKey resolved g h seen key) (valid : is_valid_key key ≡ true) (elem : Elem) where
  pub place_alike : (binds_touched resolved seen g key.scope elem || binds_touched resolved seen h key.scope elem) ≡ false →
      is_in_scope resolved g key elem ≡ is_in_scope resolved h key elem
  place_alike none = starts_same resolved seen g h key.scope (scope_on resolved g h seen key agree) (patterns_valid key valid).0 elem none

  pub key_values_alike : (binds_touched resolved seen g key.descriptor elem || binds_touched resolved seen h key.descriptor elem) ≡ false →
      key_values resolved g key elem ≡ key_values resolved h key elem
  key_values_alike none =
      let good = (patterns_valid key valid).1 in
      values_alike resolved seen g h key (descriptor_on resolved g h seen key agree) good elem none
      (λ elems out match. tuples_alike resolved g h seen key agree good elems out match)
      (λ elems out match. tuples_alike resolved h g seen key (turned_for resolved g h seen key agree) good elems out match)

-- ---- untouched elements are asked alike

module _ (resolved : Resolved) (g h : Graph) (touched : Elem → Bool) (agree : AgreeBut touched g h) (key : Key) where
  pub untouched_asked : (elem : Elem) → touched elem ≡ false → IsAskedAlike resolved g h key elem
  untouched_asked elem out = record {
    ends = ends elem out;
    scope = λ var below. ap (λ own. row_passes resolved key.scope var elem own) (carried_same touched g h agree elem out);
    descriptor = λ var below. ap (λ own. row_passes resolved key.descriptor var elem own) (carried_same touched g h agree elem out);
    values = λ var name inside pass. ap (λ own. value_of name own) (carried_same touched g h agree elem out);
  }
    where
      ends : (elem : Elem) → touched elem ≡ false → ends_in g elem ≡ ends_in h elem
      ends (Node id) out = refl
      ends (Edge id) out = ap (option_map pair_of_ends) (agree.edges id out)

-- where each touched element that isn't seen is unseen by the key, the graphs agree for it but for the seen ones
module _ (resolved : Resolved) (g h : Graph) (touched seen : Elem → Bool) (agree : AgreeBut touched g h) (key : Key)
    (each : (elem : Elem) → touched elem ≡ true → seen elem ≡ false → IsUnseen resolved g h key elem) where
  fits_beside : (edge : EdgeId) → touched (Edge edge) ≡ false → has_touched_end seen g (Edge edge) ≡ false → (row : EdgeRow) → edge_at g edge ≡ Some row → (node : NodeId) →
      (row.source.0 == node.0 || row.target.0 == node.0) ≡ true → touched (Node node) ≡ true → seen (Node node) ≡ false →
      FitsAlike resolved g h key.scope (Edge edge) × FitsAlike resolved g h key.descriptor (Edge edge)
  fits_beside edge out none row at node is_at own unseen =
      (each (Node node) own unseen).edges edge (or_left _ _ (ap (λ o. option_map_or (is_end node) o false) at ∙ is_at))

  pub unseen_agree : AgreeForKey resolved g h seen key
  unseen_agree = record { elems = λ elem out. asked elem (touched elem) refl out; edges = λ edge out none. typed edge (touched (Edge edge)) refl out none }
    where
      asked : (elem : Elem) (b : Bool) → touched elem ≡ b → seen elem ≡ false → IsAskedAlike resolved g h key elem
      asked elem true own out = (each elem own out).itself
      asked elem false own out = untouched_asked resolved g h touched agree key elem own

      by_row : (edge : EdgeId) → touched (Edge edge) ≡ false → has_touched_end seen g (Edge edge) ≡ false → (row : EdgeRow) → edge_at g edge ≡ Some row →
          (source target : Bool) → touched (Node row.source) ≡ source → touched (Node row.target) ≡ target →
          FitsAlike resolved g h key.scope (Edge edge) × FitsAlike resolved g h key.descriptor (Edge edge)
      by_row edge out none row at source target s t =
          let unseen = or_parts (seen (Node row.source)) (seen (Node row.target)) (sym (ap (λ o. option_map_or (λ (r : EdgeRow). seen (Node r.source) || seen (Node r.target)) o false) at) ∙ none) in
          by source target s t unseen.0 unseen.1
        where
          by : (source target : Bool) → touched (Node row.source) ≡ source → touched (Node row.target) ≡ target → seen (Node row.source) ≡ false → seen (Node row.target) ≡ false →
              FitsAlike resolved g h key.scope (Edge edge) × FitsAlike resolved g h key.descriptor (Edge edge)
          by true target s t a b = fits_beside edge out none row at row.source (or_left _ _ (eq-eqb row.source.0 row.source.0 refl)) s a
          by false true s t a b = fits_beside edge out none row at row.target (or_right (row.source.0 == row.target.0) _ (eq-eqb row.target.0 row.target.0 refl)) t b
          by false false s t a b =
              let beside : has_touched_end touched g (Edge edge) ≡ false =
              ap (λ o. option_map_or (λ (r : EdgeRow). touched (Node r.source) || touched (Node r.target)) o false) at ∙ (λ i. s i || t i) in
              let same = type_same touched g h agree resolved edge out beside in (λ number asked. same number, λ number asked. same number)

      typed : (edge : EdgeId) (b : Bool) → touched (Edge edge) ≡ b → seen (Edge edge) ≡ false → has_touched_end seen g (Edge edge) ≡ false →
          FitsAlike resolved g h key.scope (Edge edge) × FitsAlike resolved g h key.descriptor (Edge edge)
      typed edge true own out none = (each (Edge edge) own out).edges edge (or_left _ _ (eq-eqb edge.0 edge.0 refl))
      typed edge false own out none = by (edge_at g edge) refl
        where
          by : (o : Option EdgeRow) → edge_at g edge ≡ o → FitsAlike resolved g h key.scope (Edge edge) × FitsAlike resolved g h key.descriptor (Edge edge)
          by None at =
              let beside : has_touched_end touched g (Edge edge) ≡ false = ap (λ o. option_map_or (λ (r : EdgeRow). touched (Node r.source) || touched (Node r.target)) o false) at in
              let same = type_same touched g h agree resolved edge own beside in (λ number asked. same number, λ number asked. same number)
          by (Some row) at = by_row edge own none row at (touched (Node row.source)) (touched (Node row.target)) refl refl

-- ---- what the rows of an element tell

pub one_outcome : (a b : Bool) → is_one_outcome a b ≡ true → a ≡ b
one_outcome true b h = sym h
one_outcome false true h = absurd (true≢false (sym h))
one_outcome false false h = refl

pub one_value : (a b : Option Value) → is_one_value a b ≡ true → a ≡ b
one_value None None h = refl
one_value None (Some b) h = absurd (true≢false (sym h))
one_value (Some a) None h = absurd (true≢false (sym h))
one_value (Some a) (Some b) h = ap Some (exact_value a b ((Equal-is (value_cmp a b)).0 h))

one_ends : (o p : Option EdgeRow) → have_same_ends o p ≡ true → option_map pair_of_ends o ≡ option_map pair_of_ends p
one_ends None None h = refl
one_ends None (Some b) h = absurd (true≢false (sym h))
one_ends (Some a) None h = absurd (true≢false (sym h))
one_ends (Some a) (Some b) h =
    let both = and_parts (a.source.0 == b.source.0) _ h in
    let source = one_node a.source b.source both.0 in
    let target = one_node a.target b.target both.1 in
    λ i. Some (source i, target i)

one_look : (o p : Option NodeRow) → look_same o p ≡ true → option_map plain o ≡ option_map plain p
one_look None None h = refl
one_look None (Some q) h = absurd (true≢false (sym h))
one_look (Some p) None h = absurd (true≢false (sym h))
one_look (Some p) (Some q) h = ap Some (one_plain p q h)

of_all : {X : Type 0} (test : X → Bool) (xs : List X) (i : ℕ) (x : X) → list_all test xs ≡ true → i < length xs → get_or xs i x ≡ x → test x ≡ true
of_all test [] i x all below at = absurd (omega (arith, below))
of_all test (y ∷ ys) zero x all below at = subst (λ z. test z ≡ true) at (and_parts (test y) _ all).0
of_all test (y ∷ ys) (suc i) x all below at = of_all test ys i x (and_parts (test y) _ all).1 (omega (arith, below)) at

pub each_outcome : (resolved : Resolved) (pattern : Pattern) (known : Known) (vars : ℕ) → passes_alike resolved pattern vars known ≡ true → (var : ℕ) → var < vars →
    is_one_outcome (row_passes resolved pattern var known.elem known.before) (row_passes resolved pattern var known.elem known.after) ≡ true
each_outcome resolved pattern known zero all var below = absurd (omega (arith, below))
each_outcome resolved pattern known (suc vars) all var below =
    let here = and_parts (passes_alike resolved pattern vars known) _ all in
    ⊎_elim (λ less. each_outcome resolved pattern known vars here.0 var less)
    (λ last. let same : vars ≡ var = omega (arith, below, last) in
    subst (λ v. is_one_outcome (row_passes resolved pattern v known.elem known.before) (row_passes resolved pattern v known.elem known.after) ≡ true) same here.1)
    (cases_lt var vars)

module _ (resolved : Resolved) (g h : Graph) (key : Key) (elem : Elem) (left : is_left_unseen resolved key (known_in g h elem) ≡ true) where
  all_parts : (((keeps_ends g h elem && passes_alike resolved key.scope (length key.scope.edge_vars) (known_in g h elem))
      && passes_alike resolved key.descriptor (length key.descriptor.edge_vars) (known_in g h elem))
      && list_all (gives_alike resolved key.descriptor (known_in g h elem)) key.exprs ≡ true)
      × ((not (key_asks_edge_types key) || look_same (carried g elem) (carried h elem)) ≡ true)
  all_parts = and_parts _ _ left

  passed_alike : (pattern : Pattern) (vars : ℕ) → passes_alike resolved pattern vars (known_in g h elem) ≡ true → (var : ℕ) → var < vars →
      passes resolved g pattern var elem ≡ passes resolved h pattern var elem
  passed_alike pattern vars all var below =
      one_outcome (passes resolved g pattern var elem) (passes resolved h pattern var elem) (each_outcome resolved pattern (known_in g h elem) vars all var below)

  pub left_asked : IsAskedAlike resolved g h key elem
  left_asked =
      let third = and_parts _ _ all_parts.0 in
      let second = and_parts _ _ third.0 in
      let first = and_parts (keeps_ends g h elem) _ second.0 in
      record {
        ends = ends elem first.0;
        scope = passed_alike key.scope (length key.scope.edge_vars) first.1;
        descriptor = passed_alike key.descriptor (length key.descriptor.edge_vars) second.1;
        values = λ var name inside pass.
            one_value (property_in g name elem) (property_in h name elem)
            (given (passes resolved g key.descriptor var elem || passes resolved h key.descriptor var elem) _ pass
            (of_all (gives_alike resolved key.descriptor (known_in g h elem)) key.exprs inside.0 (Property var name) third.1 inside.1 inside.2));
      }
    where
      ends : (elem : Elem) → keeps_ends g h elem ≡ true → ends_in g elem ≡ ends_in h elem
      ends (Node id) keeps = refl
      ends (Edge id) keeps = one_ends (edge_at g id) (edge_at h id) keeps

      given : (a b : Bool) → a ≡ true → (not a || b) ≡ true → b ≡ true
      given true b is h = h
      given false b is h = absurd (true≢false (sym is))

  pub left_looks : key_asks_edge_types key ≡ true → option_map plain (carried g elem) ≡ option_map plain (carried h elem)
  left_looks asks = one_look (carried g elem) (carried h elem) (given (key_asks_edge_types key) _ asks all_parts.1)
    where
      given : (a b : Bool) → a ≡ true → (not a || b) ≡ true → b ≡ true
      given true b is h = h
      given false b is h = absurd (true≢false (sym is))

-- ---- the elements of a change

pub kept_one : (keep : Elem → Bool) (xs : List Elem) (x : Elem) → is_one_of xs x ≡ true → is_one_of (filter keep xs) x ≡ false → keep x ≡ false
kept_one keep xs x own none =
    false_from_ne_true _ (λ kept. both_ways _ none
    (any_filter (same_elem x) keep xs ∙ any_of (λ y. keep y && same_elem x y) x xs own (both kept)))
  where
    both : keep x ≡ true → (keep x && same_elem x x) ≡ true
    both kept = ap (λ b. b && same_elem x x) kept ∙ itself x

same_some : (p q : NodeRow) → Some p ≡ Some q → p ≡ q
same_some p q e = cc

not_false : (b : Bool) → not b ≡ false → b ≡ true
not_false true h = refl
not_false false h = absurd (true≢false h)

-- an edge's fit by the plain pairs of its source, of itself and of its target
module _ (resolved : Resolved) (number : ℕ) where
  abbrev fits_by : Option NodeRow → NodeRow → Option NodeRow → Bool
  fits_by source own target =
      option_map_or (fits_edge resolved number) (option_and_then (λ (s : NodeRow). option_map (λ t. record { source = s; own = own; target = t }) target) source) false

  fits_plain : (source : Option NodeRow) (own : NodeRow) (target : Option NodeRow) → fits_by (option_map plain source) (plain own) (option_map plain target) ≡ fits_by source own target
  fits_plain None own target = refl
  fits_plain (Some s) own None = refl
  fits_plain (Some s) own (Some t) = edge_plain resolved number (record { source = s; own = own; target = t })

  fits_looked : (source other_source : Option NodeRow) (own other : NodeRow) (target other_target : Option NodeRow) → option_map plain source ≡ option_map plain other_source →
      plain own ≡ plain other → option_map plain target ≡ option_map plain other_target → fits_by source own target ≡ fits_by other_source other other_target
  fits_looked source other_source own other target other_target s o t =
      sym (fits_plain source own target) ∙ (λ i. fits_by (s i) (o i) (t i)) ∙ fits_plain other_source other other_target

module _ (resolved : Resolved) (g h : Graph) (key : Key) (elems : List Elem) (agree : AgreeBut (is_one_of elems) g h) where
  abbrev seen : Elem → Bool
  seen = is_one_of (seen_elems resolved g h key elems)

  left_unseen : (elem : Elem) → is_one_of elems elem ≡ true → seen elem ≡ false → is_left_unseen resolved key (known_in g h elem) ≡ true
  left_unseen elem own out = not_false _ (kept_one (λ elem. not (is_left_unseen resolved key (known_in g h elem))) elems elem own out)

  looks : key_asks_edge_types key ≡ true → (elem : Elem) → seen elem ≡ false → option_map plain (carried g elem) ≡ option_map plain (carried h elem)
  looks asks elem out = by (is_one_of elems elem) refl
    where
      by : (b : Bool) → is_one_of elems elem ≡ b → option_map plain (carried g elem) ≡ option_map plain (carried h elem)
      by true own = left_looks resolved g h key elem (left_unseen elem own out) asks
      by false own = ap (option_map plain) (carried_same (is_one_of elems) g h agree elem own)

  typed_alike : key_asks_edge_types key ≡ true → (edge : EdgeId) → seen (Edge edge) ≡ false → has_touched_end seen g (Edge edge) ≡ false → ends_in g (Edge edge) ≡ ends_in h (Edge edge) →
      (number : ℕ) → is_edge_of_type resolved g number (Edge edge) ≡ is_edge_of_type resolved h number (Edge edge)
  typed_alike asks edge out none ends number = by (edge_at g edge) (edge_at h edge) none ends (looks asks (Edge edge) out)
    where
      by : (o p : Option EdgeRow) → option_map_or (λ (row : EdgeRow). seen (Node row.source) || seen (Node row.target)) o false ≡ false →
          option_map pair_of_ends o ≡ option_map pair_of_ends p →
          option_map plain (option_map (λ (row : EdgeRow). pair_of row.labels row.props) o) ≡ option_map plain (option_map (λ (row : EdgeRow). pair_of row.labels row.props) p) →
          option_map_or (fits_edge resolved number) (option_and_then (triple_at g) o) false ≡ option_map_or (fits_edge resolved number) (option_and_then (triple_at h) p) false
      by None None none ends own = refl
      by None (Some other) none ends own = cc
      by (Some row) None none ends own = cc
      by (Some row) (Some other) none ends own =
          let both = one_pair (pair_of_ends row) (pair_of_ends other) ends in
          let source : row.source ≡ other.source = ap (λ (e : NodeId × NodeId). e.0) both in
          let target : row.target ≡ other.target = ap (λ (e : NodeId × NodeId). e.1) both in
          let unseen = or_parts (seen (Node row.source)) (seen (Node row.target)) none in
          let same : plain (pair_of row.labels row.props) ≡ plain (pair_of other.labels other.props) = same_some _ _ own in
          fits_looked resolved number (node_at g row.source) (node_at h other.source) (pair_of row.labels row.props) (pair_of other.labels other.props) (node_at g row.target) (node_at h other.target)
          (looks asks (Node row.source) unseen.0 ∙ ap (λ id. option_map plain (node_at h id)) source) same
          (looks asks (Node row.target) unseen.1 ∙ ap (λ id. option_map plain (node_at h id)) target)

  pub change_agrees : AgreeForKey resolved g h seen key
  change_agrees = record {
    elems = λ elem out. asked elem (is_one_of elems elem) refl out;
    edges = λ edge out none.
        let ends = (asked (Edge edge) (is_one_of elems (Edge edge)) refl out).ends in (
          λ number asks. typed_alike (or_left _ _ (any_implied (names_edge_type number) asks_some_type (names_some number) key.scope.atoms asks)) edge out none ends number,
          λ number asks.
              typed_alike (or_right (list_any asks_some_type key.scope.atoms) _ (any_implied (names_edge_type number) asks_some_type (names_some number) key.descriptor.atoms asks))
              edge out none ends number,
        );
  }
    where
      asked : (elem : Elem) (b : Bool) → is_one_of elems elem ≡ b → seen elem ≡ false → IsAskedAlike resolved g h key elem
      asked elem true own out = left_asked resolved g h key elem (left_unseen elem own out)
      asked elem false own out = untouched_asked resolved g h (is_one_of elems) agree key elem own

      names_some : (number : ℕ) (atom : Atom) → names_edge_type number atom ≡ true → asks_some_type atom ≡ true
      names_some number (FitsEdge var other) h = refl
      names_some number (Ends edge source target) h = h
      names_some number (HasLabel var label) h = h
      names_some number (FitsNode var other) h = h
      names_some number (Equals var name value) h = h
