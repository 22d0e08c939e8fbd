-- Assignments that bind no seen element match alike in two graphs in which all that a pattern asks of the others has one answer.
use Rattle.std.proofs.Common.{◌≡◌, ℕ, suc, ◌<◌, Bool, true, false, ◌&&◌, ◌||◌, ◌==◌, cond, not, List, [], ◌∷◌, length, slice_get, Option, Some, None, refl, sym, ◌∙◌, ap, subst, true≢false, arith}
use Rattle.std.specs.Prelude.{option_and_then, option_map}
use Rattle.std.specs.Option.{option_map_or}
use Rattle.std.specs.List.{list_any, list_all}
use Rattle.std.specs.BTreeMap.{is_at}
use Rattle.std.proofs.lemmas.Bool.{and_parts, and_from, or_parts, or_from, or_left, or_right, both_ways, eq-eqb, false_from_ne_true}
use Rattle.std.proofs.lemmas.Option.{slice_get_within}
use Rattle.pgs_base.specs.declared.element.NodeId.{NodeId}
use Rattle.pgs_base.specs.declared.element.EdgeId.{EdgeId}
use Rattle.pgs_base.specs.declared.element.Elem.{Elem}
use Rattle.pgs_base.specs.declared.element.Elem.TheVariants.{Node, Edge}
use Rattle.pgs_base.specs.declared.part.Part.{Part}
use Rattle.pgs_base.specs.declared.row.NodeRow.{NodeRow}
use Rattle.pgs_base.specs.declared.row.EdgeRow.{EdgeRow}
use Rattle.pgs_base.specs.Graph.{Graph, node_at, edge_at}
use Rattle.pgs_base.specs.Order.{tuple_cmp}
use Rattle.pgs_base.specs.OrderLaws.{tuple_cmp_total, exact_tuple}
use Rattle.pgs_base.specs.Pair.{has_name, value_at, pair_of}
use Rattle.pgs_base.proofs.Ascending.{ascends_decides}
use Rattle.pgs_base.proofs.Lookups.{same_keys}
use Rattle.pgs_syntax.specs.declared.key.Key.{Key}
use Rattle.pgs_syntax.specs.declared.pattern.Atom.{Atom}
use Rattle.pgs_syntax.specs.declared.pattern.Atom.TheVariants.{Ends, HasLabel, FitsNode, FitsEdge, Equals}
use Rattle.pgs_syntax.specs.declared.pattern.Pattern.{Pattern}
use Rattle.pgs_syntax.specs.declared.resolved.Resolved.{Resolved}
use Rattle.pgs_syntax.specs.Fitting.{fits_node}
use Rattle.pgs_syntax.specs.KeyValues.{starts_at, tuple_of, key_values}
use Rattle.pgs_syntax.specs.Matches.{same_elem, same_value, carried, elements, is_node_of_type, is_edge_of_type, leads, holds, are_there, is_match, matches}
use Rattle.pgs_syntax.specs.Valid.{is_edge_var, is_node_var, speaks_of, is_valid_pattern}
use Rattle.pgs_syntax.proofs.Assigned.{match_found, match_given, value_found, value_given}
use Rattle.pgs_syntax.proofs.Halves.{any_same}
use Rattle.pgs_syntax.proofs.InOrder.{values_ascend}
use Rattle.pgs_match.specs.Bounds.{stands_at}
use Rattle.pgs_match.specs.Tests.{pair_meets, node_meets, node_passes}
use Rattle.pgs_match.proofs.Started.{same_truth}
use Rattle.pgs_match.proofs.There.{node_there, edge_there, there_size}
use Rattle.pgs_check_affected.specs.Found.{passes}
use Rattle.pgs_check_affected.specs.Local.{has_touched_end, is_edge_alone, may_differ, binds_touched}
use Rattle.pgs_check_affected.specs.Unseen.{ends_in, names_edge_type, asks_edge_type, PassesAlike, FitsAlike}
use Rattle.pgs_check_affected.proofs.BoundEnds.{passes_none, none_touched, there_in, atoms_in, all_speak, untouched_ends}
use Rattle.pgs_check_affected.proofs.Passing.{match_passes, stands_itself}

-- all that a pattern asks has one answer in both graphs, but of seen elements
pub record AgreesOn (resolved : Resolved) (seen : Elem → Bool) (g h : Graph) (pattern : Pattern) : Type 0 where
  pub ends : (elem : Elem) → seen elem ≡ false → ends_in g elem ≡ ends_in h elem
  pub passed : (elem : Elem) → seen elem ≡ false → PassesAlike resolved g h pattern elem
  pub fits : (edge : EdgeId) → seen (Edge edge) ≡ false → has_touched_end seen g (Edge edge) ≡ false → FitsAlike resolved g h pattern (Edge edge)

-- ---- ends

of_ends : (test : NodeId → NodeId → Bool) (o : Option EdgeRow) →
    option_map_or (λ (row : EdgeRow). test row.source row.target) o false
    ≡ option_map_or (λ (ends : NodeId × NodeId). test ends.0 ends.1) (option_map (λ (row : EdgeRow). (row.source, row.target)) o) false
of_ends test None = refl
of_ends test (Some row) = refl

by_ends : (g h : Graph) (test : NodeId → NodeId → Bool) (edge : EdgeId) → ends_in g (Edge edge) ≡ ends_in h (Edge edge) →
    option_map_or (λ (row : EdgeRow). test row.source row.target) (edge_at g edge) false
    ≡ option_map_or (λ (row : EdgeRow). test row.source row.target) (edge_at h edge) false
by_ends g h test edge same =
    of_ends test (edge_at g edge) ∙ ap (λ o. option_map_or (λ (ends : NodeId × NodeId). test ends.0 ends.1) o false) same ∙ sym (of_ends test (edge_at h edge))

module _ (resolved : Resolved) (seen : Elem → Bool) (g h : Graph) (pattern : Pattern) (agrees : AgreesOn resolved seen g h pattern) where
  ends_alike : (elem : Elem) → seen elem ≡ false → has_touched_end seen g elem ≡ has_touched_end seen h elem
  ends_alike (Node id) out = refl
  ends_alike (Edge id) out = by_ends g h (λ source target. seen (Node source) || seen (Node target)) id (agrees.ends (Edge id) out)

  differs_same : (elem : Elem) → may_differ seen g pattern elem ≡ may_differ seen h pattern elem
  differs_same elem = by (seen elem) refl
    where
      by : (b : Bool) → seen elem ≡ b → may_differ seen g pattern elem ≡ may_differ seen h pattern elem
      by true is = let a : may_differ seen g pattern elem ≡ true = or_left _ _ is in a ∙ sym (or_left _ _ is)
      by false is = ap (λ t. seen elem || (is_edge_alone pattern && t)) (ends_alike elem is)

  pub all_differ_same : (elems : List Elem) → list_any (may_differ seen g pattern) elems ≡ list_any (may_differ seen h pattern) elems
  all_differ_same elems = any_same (may_differ seen g pattern) (may_differ seen h pattern) differs_same elems

  pub turned_on : AgreesOn resolved seen h g pattern
  turned_on = record {
    ends = λ elem out. sym (agrees.ends elem out);
    passed = λ elem out var below. sym (agrees.passed elem out var below);
    fits = λ edge out none number asked. sym (agrees.fits edge out (ends_alike (Edge edge) out ∙ none) number asked);
  }

-- ---- what a variable asks, atom by atom

-- a pattern with fewer atoms
abbrev narrowed : Pattern → List Atom → Pattern
narrowed pattern atoms = record { edge_vars = pattern.edge_vars; atoms = atoms }

abbrev meets : Resolved → ℕ → Elem → Atom → NodeRow → Bool
meets resolved var (Node id) atom own = node_meets resolved var own atom
meets resolved var (Edge id) atom own = pair_meets var own atom

split_passes : (resolved : Resolved) (h : Graph) (pattern : Pattern) (var : ℕ) (elem : Elem) (atom : Atom) (atoms : List Atom) →
    passes resolved h (narrowed pattern (atom ∷ atoms)) var elem ≡ true →
    (option_map_or (meets resolved var elem atom) (carried h elem) false ≡ true) × (passes resolved h (narrowed pattern atoms) var elem ≡ true)
split_passes resolved h pattern var (Node id) atom atoms pass = by (is_node_var pattern.edge_vars var) (node_at h id) pass
  where
    by : (k : Bool) (o : Option NodeRow) →
        option_map_or (λ own. cond k (node_meets resolved var own atom && list_all (node_meets resolved var own) atoms) false) o false ≡ true →
        (option_map_or (λ own. node_meets resolved var own atom) o false ≡ true)
        × (option_map_or (λ own. cond k (list_all (node_meets resolved var own) atoms) false) o false ≡ true)
    by k None pass = absurd (true≢false (sym pass))
    by true (Some own) pass = let parts = and_parts (node_meets resolved var own atom) _ pass in (parts.0, parts.1)
    by false (Some own) pass = absurd (true≢false (sym pass))
split_passes resolved h pattern var (Edge id) atom atoms pass = by (is_edge_var pattern.edge_vars var) (carried h (Edge id)) pass
  where
    by : (k : Bool) (o : Option NodeRow) →
        option_map_or (λ own. cond k (pair_meets var own atom && list_all (pair_meets var own) atoms) false) o false ≡ true →
        (option_map_or (λ own. pair_meets var own atom) o false ≡ true)
        × (option_map_or (λ own. cond k (list_all (pair_meets var own) atoms) false) o false ≡ true)
    by k None pass = absurd (true≢false (sym pass))
    by true (Some own) pass = let parts = and_parts (pair_meets var own atom) _ pass in (parts.0, parts.1)
    by false (Some own) pass = absurd (true≢false (sym pass))

-- what is asked of the variable itself
told : (var : ℕ) (test : NodeRow → Bool) (o : Option NodeRow) → option_map_or (λ own. not (var == var) || test own) o false ≡ true → option_map_or test o false ≡ true
told var test o pass = subst (λ b. option_map_or (λ own. not b || test own) o false ≡ true) (eq-eqb var var refl) pass

-- what passes is there
there_by : (resolved : Resolved) (h : Graph) (pattern : Pattern) (kind : Bool) (var : ℕ) (elem : Elem) → slice_get pattern.edge_vars var ≡ Some kind →
    passes resolved h pattern var elem ≡ true → list_any (same_elem elem) (elements h kind) ≡ true
there_by resolved h pattern kind var (Node id) at pass =
    by kind (node_at h id) refl (ap (λ o. option_map_or (λ own. cond (option_map_or not o false) (node_passes resolved pattern.atoms var own) false) (node_at h id) false) (sym at) ∙ pass)
  where
    by : (k : Bool) (o : Option NodeRow) → node_at h id ≡ o → option_map_or (λ own. cond (not k) (node_passes resolved pattern.atoms var own) false) o false ≡ true →
        list_any (same_elem (Node id)) (elements h k) ≡ true
    by k None is pass = absurd (true≢false (sym pass))
    by true (Some row) is pass = absurd (true≢false (sym pass))
    by false (Some row) is pass = node_there h id row is
there_by resolved h pattern kind var (Edge id) at pass =
    by kind (edge_at h id) refl (ap (λ o. option_map_or (λ own. cond (option_map_or (λ is_edge. is_edge) o false) (list_all (pair_meets var own) pattern.atoms) false) (carried h (Edge id)) false) (sym at) ∙ pass)
  where
    by : (k : Bool) (o : Option EdgeRow) → edge_at h id ≡ o →
        option_map_or (λ own. cond k (list_all (pair_meets var own) pattern.atoms) false) (option_map (λ (row : EdgeRow). pair_of row.labels row.props) o) false ≡ true →
        list_any (same_elem (Edge id)) (elements h k) ≡ true
    by k None is pass = absurd (true≢false (sym pass))
    by true (Some row) is pass = edge_there h id row is
    by false (Some row) is pass = absurd (true≢false (sym pass))

all_there : (h : Graph) (kinds : List Bool) (elems : List Elem) → length elems ≡ length kinds →
    ((var : ℕ) (kind : Bool) (elem : Elem) → slice_get kinds var ≡ Some kind → slice_get elems var ≡ Some elem → list_any (same_elem elem) (elements h kind) ≡ true) →
    are_there h kinds elems ≡ true
all_there h [] [] size each = refl
all_there h [] (x ∷ xs) size each = absurd (omega (arith, size))
all_there h (k ∷ ks) [] size each = absurd (omega (arith, size))
all_there h (k ∷ ks) (x ∷ xs) size each = and_from _ _ (each 0 k x refl refl) (all_there h ks xs (omega (arith, size)) (λ var kind elem a b. each (suc var) kind elem a b))

-- ---- a match that binds no seen element

module _ (resolved : Resolved) (seen : Elem → Bool) (g h : Graph) (pattern : Pattern) (agrees : AgreesOn resolved seen g h pattern) (valid : is_valid_pattern pattern ≡ true)
    (elems : List Elem) (out : list_any (may_differ seen g pattern) elems ≡ false) (match : is_match resolved g pattern elems ≡ true) where
  unseen : (var : ℕ) (elem : Elem) → slice_get elems var ≡ Some elem → seen elem ≡ false
  unseen var elem at = passes_none seen elems var elem (none_touched seen g resolved pattern valid elems out match) at

  size : length elems ≡ length pattern.edge_vars
  size = there_size g pattern.edge_vars elems (there_in seen g resolved pattern valid elems out match)

  below : (var : ℕ) (elem : Elem) → slice_get elems var ≡ Some elem → var < length pattern.edge_vars
  below var elem at = let inside = slice_get_within elems var elem at in omega (arith, size, inside)

  pub passes_old : (var : ℕ) (elem : Elem) → slice_get elems var ≡ Some elem → passes resolved g pattern var elem ≡ true
  passes_old var elem at =
      match_passes resolved g pattern valid var (below var elem at) elem
      (match_given resolved g pattern (stands_at var elem) elems match (stands_itself resolved g pattern var elem elems at))

  passes_new : (var : ℕ) (elem : Elem) → slice_get elems var ≡ Some elem → passes resolved h pattern var elem ≡ true
  passes_new var elem at = sym (agrees.passed elem (unseen var elem at) var (below var elem at)) ∙ passes_old var elem at

  -- the atoms

  leads_same : (edge source target : Option Elem) → ((elem : Elem) → edge ≡ Some elem → seen elem ≡ false) → leads g edge source target ≡ leads h edge source target
  leads_same (Some (Edge id)) (Some (Node s)) (Some (Node t)) outs = by_ends g h (λ source target. source.0 == s.0 && target.0 == t.0) id (agrees.ends (Edge id) (outs (Edge id) refl))
  leads_same None source target outs = refl
  leads_same (Some (Node n)) source target outs = refl
  leads_same (Some (Edge id)) None target outs = refl
  leads_same (Some (Edge id)) (Some (Edge s)) target outs = refl
  leads_same (Some (Edge id)) (Some (Node s)) None outs = refl
  leads_same (Some (Edge id)) (Some (Node s)) (Some (Edge t)) outs = refl

  abbrev Meets : Atom → Type 0
  Meets atom = (var : ℕ) (elem : Elem) → slice_get elems var ≡ Some elem → option_map_or (meets resolved var elem atom) (carried h elem) false ≡ true

  -- a test of a pair, which an atom asks
  carries_new : (var : ℕ) (test : NodeRow → Bool) →
      ((elem : Elem) → slice_get elems var ≡ Some elem → option_map_or (λ own. not (var == var) || test own) (carried h elem) false ≡ true) →
      option_map_or test (option_and_then (carried g) (slice_get elems var)) false ≡ true →
      option_map_or test (option_and_then (carried h) (slice_get elems var)) false ≡ true
  carries_new var test asked old = by (slice_get elems var) refl old
    where
      by : (o : Option Elem) → slice_get elems var ≡ o → option_map_or test (option_and_then (carried g) o) false ≡ true →
          option_map_or test (option_and_then (carried h) o) false ≡ true
      by None at old = absurd (true≢false (sym old))
      by (Some elem) at old = told var test (carried h elem) (asked elem at)

  label_met : (var : ℕ) (label : List ℕ) (elem : Elem) → option_map_or (meets resolved var elem (HasLabel var label)) (carried h elem) false ≡ true →
      option_map_or (λ own. not (var == var) || has_name label own.labels) (carried h elem) false ≡ true
  label_met var label (Node id) pass = pass
  label_met var label (Edge id) pass = pass

  value_met : (var : ℕ) (atom : Atom) (elem : Elem) (test : NodeRow → Bool) → ((own : NodeRow) → pair_meets var own atom ≡ (not (var == var) || test own)) →
      ((own : NodeRow) → node_meets resolved var own atom ≡ pair_meets var own atom) →
      option_map_or (meets resolved var elem atom) (carried h elem) false ≡ true →
      option_map_or (λ own. not (var == var) || test own) (carried h elem) false ≡ true
  value_met var atom (Node id) test is same pass = by (node_at h id) pass
    where
      by : (o : Option NodeRow) → option_map_or (λ own. node_meets resolved var own atom) o false ≡ true → option_map_or (λ own. not (var == var) || test own) o false ≡ true
      by None pass = pass
      by (Some own) pass = sym (is own) ∙ sym (same own) ∙ pass
  value_met var atom (Edge id) test is same pass = by (carried h (Edge id)) pass
    where
      by : (o : Option NodeRow) → option_map_or (λ own. pair_meets var own atom) o false ≡ true → option_map_or (λ own. not (var == var) || test own) o false ≡ true
      by None pass = pass
      by (Some own) pass = sym (is own) ∙ pass

  node_new : (var number : ℕ) → Meets (FitsNode var number) → (o : Option Elem) → slice_get elems var ≡ o →
      option_map_or (is_node_of_type resolved g number) o false ≡ true → option_map_or (is_node_of_type resolved h number) o false ≡ true
  node_new var number asked None at old = absurd (true≢false (sym old))
  node_new var number asked (Some (Edge id)) at old = absurd (true≢false (sym old))
  node_new var number asked (Some (Node id)) at old = told var (fits_node resolved number) (node_at h id) (asked var (Node id) at)

  edge_new : (var number : ℕ) → is_edge_var pattern.edge_vars var ≡ true → asks_edge_type number pattern ≡ true → (o : Option Elem) → slice_get elems var ≡ o →
      option_map_or (is_edge_of_type resolved g number) o false ≡ true → option_map_or (is_edge_of_type resolved h number) o false ≡ true
  edge_new var number kind asked None at old = absurd (true≢false (sym old))
  edge_new var number kind asked (Some (Node id)) at old = absurd (true≢false (sym old))
  edge_new var number kind asked (Some (Edge id)) at old = sym (agrees.fits id (unseen var (Edge id) at) (by (edge_at g id) refl) number asked) ∙ old
    where
      by : (o : Option EdgeRow) → edge_at g id ≡ o → option_map_or (λ (row : EdgeRow). seen (Node row.source) || seen (Node row.target)) o false ≡ false
      by None row_at = refl
      by (Some row) row_at =
          let both = untouched_ends seen g resolved pattern valid elems out match var id row kind at row_at in or_from _ _ both.0 both.1

  one_holds : (atom : Atom) → speaks_of pattern.edge_vars atom ≡ true → ((number : ℕ) → names_edge_type number atom ≡ true → asks_edge_type number pattern ≡ true) →
      Meets atom → holds resolved g elems atom ≡ true → holds resolved h elems atom ≡ true
  one_holds (Ends edge source target) speaks named asked old = sym (leads_same (slice_get elems edge) (slice_get elems source) (slice_get elems target) (unseen edge)) ∙ old
  one_holds (HasLabel var label) speaks named asked old = carries_new var (λ own. has_name label own.labels) (λ elem at. label_met var label elem (asked var elem at)) old
  one_holds (FitsNode var number) speaks named asked old = node_new var number asked (slice_get elems var) refl old
  one_holds (FitsEdge var number) speaks named asked old = edge_new var number speaks (named number (eq-eqb number number refl)) (slice_get elems var) refl old
  one_holds (Equals var key value) speaks named asked old =
      carries_new var (λ own. option_map_or (same_value value) (value_at key own.props) false)
      (λ elem at. value_met var (Equals var key value) elem (λ own. option_map_or (same_value value) (value_at key own.props) false) (λ own. refl) (λ own. refl) (asked var elem at)) old

  all_hold : (atoms : List Atom) → list_all (speaks_of pattern.edge_vars) atoms ≡ true →
      ((number : ℕ) → list_any (names_edge_type number) atoms ≡ true → asks_edge_type number pattern ≡ true) →
      ((var : ℕ) (elem : Elem) → slice_get elems var ≡ Some elem → passes resolved h (narrowed pattern atoms) var elem ≡ true) →
      list_all (holds resolved g elems) atoms ≡ true → list_all (holds resolved h elems) atoms ≡ true
  all_hold [] speaks named pass old = refl
  all_hold (atom ∷ atoms) speaks named pass old =
      let s = and_parts (speaks_of pattern.edge_vars atom) _ speaks in
      let p = and_parts (holds resolved g elems atom) _ old in
      and_from _ _
      (one_holds atom s.0 (λ number one. named number (or_left _ _ one)) (λ var elem at. (split_passes resolved h pattern var elem atom atoms (pass var elem at)).0) p.0)
      (all_hold atoms s.1 (λ number later. named number (or_right (names_edge_type number atom) _ later))
      (λ var elem at. (split_passes resolved h pattern var elem atom atoms (pass var elem at)).1) p.1)

  pub match_too : is_match resolved h pattern elems ≡ true
  match_too =
      and_from _ _
      (all_there h pattern.edge_vars elems size (λ var kind elem a b. there_by resolved h pattern kind var elem a (passes_new var elem b)))
      (all_hold pattern.atoms (all_speak seen g resolved pattern valid elems out match) (λ number one. one) passes_new (atoms_in seen g resolved pattern valid elems out match))

pub match_same : (resolved : Resolved) (seen : Elem → Bool) (g h : Graph) (pattern : Pattern) → AgreesOn resolved seen g h pattern → is_valid_pattern pattern ≡ true →
    (elems : List Elem) → list_any (may_differ seen g pattern) elems ≡ false → is_match resolved g pattern elems ≡ is_match resolved h pattern elems
match_same resolved seen g h pattern agrees valid elems out =
    same_truth _ _ (match_too resolved seen g h pattern agrees valid elems out)
    (match_too resolved seen h g pattern (turned_on resolved seen g h pattern agrees) valid elems (sym (all_differ_same resolved seen g h pattern agrees elems) ∙ out))

-- ---- an element at which no match binds a seen one

-- a match that starts there
pub free : (resolved : Resolved) (seen : Elem → Bool) (g : Graph) (pattern : Pattern) (elem : Elem) → binds_touched resolved seen g pattern elem ≡ false →
    (elems : List Elem) → is_match resolved g pattern elems ≡ true → starts_at elem elems ≡ true → list_any (may_differ seen g pattern) elems ≡ false
free resolved seen g pattern elem none elems match starts =
    false_from_ne_true _ (λ some. both_ways _ none
    (match_given resolved g pattern (λ others. starts_at elem others && list_any (may_differ seen g pattern) others) elems match (and_from _ _ starts some)))

module _ (resolved : Resolved) (seen : Elem → Bool) (g h : Graph) (pattern : Pattern) (agrees : AgreesOn resolved seen g h pattern) (valid : is_valid_pattern pattern ≡ true) (elem : Elem)
    (none : (binds_touched resolved seen g pattern elem || binds_touched resolved seen h pattern elem) ≡ false) where
  parts : (binds_touched resolved seen g pattern elem ≡ false) × (binds_touched resolved seen h pattern elem ≡ false)
  parts = or_parts _ _ none

  back : AgreesOn resolved seen h g pattern
  back = turned_on resolved seen g h pattern agrees

  pub starts_same : list_any (starts_at elem) (matches resolved g pattern) ≡ list_any (starts_at elem) (matches resolved h pattern)
  starts_same =
      same_truth _ _ (too g h agrees parts.0) (too h g back parts.1)
    where
      too : (one other : Graph) → AgreesOn resolved seen one other pattern → binds_touched resolved seen one pattern elem ≡ false →
          list_any (starts_at elem) (matches resolved one pattern) ≡ true → list_any (starts_at elem) (matches resolved other pattern) ≡ true
      too one other agree free_of some =
          let it = match_found resolved one pattern (starts_at elem) some in
          match_given resolved other pattern (starts_at elem) it.0
          (match_too resolved seen one other pattern agree valid it.0 (free resolved seen one pattern elem free_of it.0 it.1 it.2) it.1) it.2

-- where matches that bind no seen element give one tuple, the key values are the same
abbrev pub GivesOneTuple : Resolved → (Elem → Bool) → Graph → Graph → Key → Type 0
GivesOneTuple resolved seen g h key = (elems : List Elem) → list_any (may_differ seen g key.descriptor) elems ≡ false → is_match resolved g key.descriptor elems ≡ true →
    tuple_of g key.exprs elems ≡ tuple_of h key.exprs elems

module _ (resolved : Resolved) (seen : Elem → Bool) (g h : Graph) (key : Key) (agrees : AgreesOn resolved seen g h key.descriptor) (valid : is_valid_pattern key.descriptor ≡ true) (elem : Elem)
    (none : (binds_touched resolved seen g key.descriptor elem || binds_touched resolved seen h key.descriptor elem) ≡ false)
    (before : GivesOneTuple resolved seen g h key) (after : GivesOneTuple resolved seen h g key) where
  value_too : (one other : Graph) → AgreesOn resolved seen one other key.descriptor → binds_touched resolved seen one key.descriptor elem ≡ false → GivesOneTuple resolved seen one other key →
      (tuple : List Part) → list_any (is_at (tuple_cmp tuple)) (key_values resolved one key elem) ≡ true →
      list_any (is_at (tuple_cmp tuple)) (key_values resolved other key elem) ≡ true
  value_too one other agree free_of same tuple some =
      let it = value_found resolved one key elem tuple some in
      let out = free resolved seen one key.descriptor elem free_of it.0 it.1 it.2 in
      value_given resolved other key elem tuple it.0 (match_too resolved seen one other key.descriptor agree valid it.0 out it.1) it.2 (sym (same it.0 out it.1) ∙ it.3)

  pub values_alike : key_values resolved g key elem ≡ key_values resolved h key elem
  values_alike =
      let each = or_parts _ _ none in
      same_keys tuple_cmp_total exact_tuple _ _
      ((ascends_decides tuple_cmp (key_values resolved g key elem)).0 (values_ascend resolved g key elem))
      ((ascends_decides tuple_cmp (key_values resolved h key elem)).0 (values_ascend resolved h key elem))
      (λ tuple. same_truth _ _ (value_too g h agrees each.0 before tuple) (value_too h g (turned_on resolved seen g h key.descriptor agrees) each.1 after tuple))
