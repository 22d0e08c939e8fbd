-- What is bound by a match that binds nothing that may differ is untouched, and so are the ends of an edge there.
use Rattle.std.proofs.Common.{◌≡◌, ℕ, zero, suc, ◌+◌, add-zero, Bool, true, false, ◌&&◌, ◌||◌, ◌==◌, not, ⊎_elim, List, [], ◌∷◌, length, slice_get, Option, Some, None, refl, sym, ◌∙◌, ap, subst, true≢false, arith}
use Rattle.std.specs.Option.{option_map_or}
use Rattle.std.specs.List.{list_any, list_all, enumerate_from}
use Rattle.std.proofs.lemmas.Bool.{and_parts, and_from, or_cases, or_parts, or_from, eqb-true}
use Rattle.pgs_base.specs.declared.element.NodeId.{NodeId}
use Rattle.pgs_base.specs.declared.element.EdgeId.{EdgeId}
use Rattle.pgs_base.specs.declared.element.Elem.{Elem}
use Rattle.pgs_base.specs.declared.element.Elem.TheVariants.{Node, Edge}
use Rattle.pgs_base.specs.declared.row.EdgeRow.{EdgeRow}
use Rattle.pgs_base.specs.Graph.{Graph, edge_at}
use Rattle.pgs_syntax.specs.declared.pattern.Atom.{Atom}
use Rattle.pgs_syntax.specs.declared.pattern.Atom.TheVariants.{Ends, HasLabel, FitsNode, FitsEdge, Equals}
use Rattle.pgs_syntax.specs.declared.pattern.Pattern.{Pattern}
use Rattle.pgs_syntax.specs.declared.resolved.Resolved.{Resolved}
use Rattle.pgs_syntax.specs.Matches.{leads, holds, are_there, is_match}
use Rattle.pgs_syntax.specs.Valid.{is_edge_var, speaks_of, gives_ends, has_all_ends, is_valid_pattern}
use Rattle.pgs_match.proofs.Known.{edge_below, valid_speaks}
use Rattle.pgs_match.proofs.There.{edge_kind}
use Rattle.pgs_check_affected.specs.Local.{AgreeBut, has_touched_end, is_edge_alone, may_differ}

-- what an item of a list with no item that passes
pub passes_none : {X : Type 0} (test : X → Bool) (xs : List X) (var : ℕ) (x : X) → list_any test xs ≡ false → slice_get xs var ≡ Some x → test x ≡ false
passes_none test [] var x none at = cc
passes_none test (y ∷ ys) zero x none at = let same : y ≡ x = cc in subst (λ z. test z ≡ false) same (or_parts (test y) _ none).0
passes_none test (y ∷ ys) (suc var) x none at = passes_none test ys var x (or_parts (test y) _ none).1 at

enumerated : (test : ℕ × Bool → Bool) (xs : List Bool) (start var : ℕ) (kind : Bool) → list_all test (enumerate_from start xs) ≡ true → slice_get xs var ≡ Some kind →
    test (start + var, kind) ≡ true
enumerated test [] start var kind all at = cc
enumerated test (x ∷ xs) start zero kind all at =
    let same : x ≡ kind = cc in
    subst (λ n. test (n, kind) ≡ true) (sym (add-zero start)) (subst (λ k. test (start, k) ≡ true) same (and_parts (test (start, x)) _ all).0)
enumerated test (x ∷ xs) start (suc var) kind all at =
    let here : start + 1 + var ≡ start + suc var = omega arith in
    subst (λ n. test (n, kind) ≡ true) here (enumerated test xs (start + 1) var kind (and_parts (test (start, x)) _ all).1 at)

-- a valid pattern has one variable, or all ends
valid_ends : (pattern : Pattern) → is_valid_pattern pattern ≡ true → has_all_ends pattern ≡ true
valid_ends pattern valid = (and_parts _ _ (and_parts _ _ valid).0).1

pub one_node : (a b : NodeId) → (a.0 == b.0) ≡ true → a ≡ b
one_node a b h = ap (λ n. record { 0 = n }) (eqb-true a.0 b.0 h)

pub ends_same : (touched : Elem → Bool) (g h : Graph) → AgreeBut touched g h → (elem : Elem) → touched elem ≡ false → has_touched_end touched g elem ≡ has_touched_end touched h elem
ends_same touched g h agree (Node id) out = refl
ends_same touched g h agree (Edge id) out =
    ap (λ o. option_map_or (λ (row : EdgeRow). touched (Node row.source) || touched (Node row.target)) o false) (agree.edges id out)

-- ---- a match that binds nothing that may differ

module _ (touched : Elem → Bool) (g : Graph) (resolved : Resolved) (pattern : Pattern) (valid : is_valid_pattern pattern ≡ true) (elems : List Elem)
    (out : list_any (may_differ touched g pattern) elems ≡ false) (match : is_match resolved g pattern elems ≡ true) where
  pub none_touched : list_any touched elems ≡ false
  none_touched = by elems out
    where
      by : (xs : List Elem) → list_any (may_differ touched g pattern) xs ≡ false → list_any touched xs ≡ false
      by [] none = refl
      by (x ∷ xs) none =
          let outs = or_parts (may_differ touched g pattern x) _ none in
          or_from _ _ (or_parts (touched x) _ outs.0).0 (by xs outs.1)

  pub untouched : (var : ℕ) (elem : Elem) → slice_get elems var ≡ Some elem → touched elem ≡ false
  untouched var elem at = passes_none touched elems var elem none_touched at

  pub there_in : are_there g pattern.edge_vars elems ≡ true
  there_in = (and_parts (are_there g pattern.edge_vars elems) _ match).0

  pub atoms_in : list_all (holds resolved g elems) pattern.atoms ≡ true
  atoms_in = (and_parts (are_there g pattern.edge_vars elems) _ match).1

  pub all_speak : list_all (speaks_of pattern.edge_vars) pattern.atoms ≡ true
  all_speak = valid_speaks pattern valid

  abbrev pub UntouchedEnds : EdgeRow → Type 0
  UntouchedEnds row = (touched (Node row.source) ≡ false) × (touched (Node row.target) ≡ false)

  -- the ends of a bound edge, by the atom that gives them
  led : (edge source target : Option Elem) (id : EdgeId) (row : EdgeRow) → edge ≡ Some (Edge id) → edge_at g id ≡ Some row →
      ((elem : Elem) → source ≡ Some elem → touched elem ≡ false) → ((elem : Elem) → target ≡ Some elem → touched elem ≡ false) →
      leads g edge source target ≡ true → UntouchedEnds row
  led (Some (Edge other)) (Some (Node s)) (Some (Node t)) id row is at outs outt h =
      let same : other ≡ id = cc in
      let ends : (row.source.0 == s.0 && row.target.0 == t.0) ≡ true =
      sym (ap (λ o. option_map_or (λ (r : EdgeRow). r.source.0 == s.0 && r.target.0 == t.0) o false) (ap (edge_at g) same ∙ at)) ∙ h in
      let both = and_parts (row.source.0 == s.0) _ ends in (
        subst (λ n. touched (Node n) ≡ false) (sym (one_node row.source s both.0)) (outs (Node s) refl),
        subst (λ n. touched (Node n) ≡ false) (sym (one_node row.target t both.1)) (outt (Node t) refl),
      )
  led None source target id row is at outs outt h = absurd (true≢false (sym h))
  led (Some (Node n)) source target id row is at outs outt h = absurd (true≢false (sym h))
  led (Some (Edge other)) None target id row is at outs outt h = absurd (true≢false (sym h))
  led (Some (Edge other)) (Some (Edge s)) target id row is at outs outt h = absurd (true≢false (sym h))
  led (Some (Edge other)) (Some (Node s)) None id row is at outs outt h = absurd (true≢false (sym h))
  led (Some (Edge other)) (Some (Node s)) (Some (Edge t)) id row is at outs outt h = absurd (true≢false (sym h))

  given : (var : ℕ) (id : EdgeId) (row : EdgeRow) (atoms : List Atom) → slice_get elems var ≡ Some (Edge id) → edge_at g id ≡ Some row →
      list_all (holds resolved g elems) atoms ≡ true → list_any (gives_ends var) atoms ≡ true → UntouchedEnds row
  given var id row [] at row_at hold some = absurd (true≢false (sym some))
  given var id row (atom ∷ atoms) at row_at hold some =
      let holding = and_parts (holds resolved g elems atom) _ hold in
      ⊎_elim (here atom holding.0) (given var id row atoms at row_at holding.1) (or_cases _ _ some)
    where
      here : (atom : Atom) → holds resolved g elems atom ≡ true → gives_ends var atom ≡ true → UntouchedEnds row
      here (Ends edge source target) holding gives =
          let same = eqb-true var edge gives in
          led (slice_get elems edge) (slice_get elems source) (slice_get elems target) id row (ap (slice_get elems) (sym same) ∙ at) row_at
          (untouched source) (untouched target) holding
      here (HasLabel var label) holding gives = absurd (true≢false (sym gives))
      here (FitsNode var number) holding gives = absurd (true≢false (sym gives))
      here (FitsEdge var number) holding gives = absurd (true≢false (sym gives))
      here (Equals var key value) holding gives = absurd (true≢false (sym gives))

  -- the ends of an edge that stands alone
  alone : (var : ℕ) (id : EdgeId) (row : EdgeRow) → is_edge_var pattern.edge_vars var ≡ true → (length pattern.edge_vars == 1) ≡ true →
      slice_get elems var ≡ Some (Edge id) → edge_at g id ≡ Some row → UntouchedEnds row
  alone var id row kind one at row_at =
      let below = edge_below pattern.edge_vars var kind in
      let single = eqb-true (length pattern.edge_vars) 1 one in
      let first : var ≡ 0 = omega (arith, below, single) in
      let lone : is_edge_alone pattern ≡ true = and_from _ _ one (subst (λ v. is_edge_var pattern.edge_vars v ≡ true) first kind) in
      let differ = passes_none (may_differ touched g pattern) elems var (Edge id) out at in
      let ends = (or_parts (touched (Edge id)) _ differ).1 in
      let none : has_touched_end touched g (Edge id) ≡ false = by (is_edge_alone pattern) _ lone ends in
      or_parts (touched (Node row.source)) (touched (Node row.target))
      (sym (ap (λ o. option_map_or (λ (r : EdgeRow). touched (Node r.source) || touched (Node r.target)) o false) row_at) ∙ none)
    where
      by : (b c : Bool) → b ≡ true → (b && c) ≡ false → c ≡ false
      by true c is h = h
      by false c is h = absurd (true≢false (sym is))

  pub untouched_ends : (var : ℕ) (id : EdgeId) (row : EdgeRow) → is_edge_var pattern.edge_vars var ≡ true →
      slice_get elems var ≡ Some (Edge id) → edge_at g id ≡ Some row → UntouchedEnds row
  untouched_ends var id row kind at row_at = ⊎_elim (λ one. alone var id row kind one at row_at) from_atoms
      (or_cases (length pattern.edge_vars == 1)
      (list_all (λ (place : ℕ × Bool). not place.1 || list_any (gives_ends place.0) pattern.atoms) (enumerate_from 0 pattern.edge_vars)) (valid_ends pattern valid))
    where
      from_atoms : list_all (λ (place : ℕ × Bool). not place.1 || list_any (gives_ends place.0) pattern.atoms) (enumerate_from 0 pattern.edge_vars) ≡ true → UntouchedEnds row
      from_atoms all =
          let here = enumerated (λ (place : ℕ × Bool). not place.1 || list_any (gives_ends place.0) pattern.atoms) pattern.edge_vars 0 var true all (edge_kind pattern.edge_vars var kind) in
          let same : 0 + var ≡ var = omega arith in
          given var id row pattern.atoms at row_at atoms_in (subst (λ v. list_any (gives_ends v) pattern.atoms ≡ true) same here)
