-- The first elements of matches.
use Rattle.std.proofs.Common.{◌≡◌, ℕ, Bool, true, false, ◌&&◌, List, [], ◌∷◌, ◌++◌, sym, subst, true≢false}
use Rattle.std.specs.Prelude.{Contains}
use Rattle.std.specs.Cmp.{Equal-is}
use Rattle.std.proofs.lemmas.Bool.{and_parts, and_from}
use Rattle.std.proofs.lemmas.List.Elements.{Contains-append_left, Contains-append_right}
use Rattle.std.proofs.lemmas.List.Kept.{IsStrictlySortedBy-filter}
use Rattle.std.proofs.lemmas.Map.Views.{Contains-from_any}
use Rattle.pgs_base.specs.declared.element.Elem.{Elem}
use Rattle.pgs_base.specs.Graph.{Graph, is_graph}
use Rattle.pgs_base.specs.Order.{ascends, elem_cmp}
use Rattle.pgs_base.specs.OrderLaws.{exact_elem}
use Rattle.pgs_base.proofs.Ascending.{ascends_decides}
use Rattle.pgs_syntax.specs.declared.pattern.Pattern.{Pattern}
use Rattle.pgs_syntax.specs.declared.resolved.Resolved.{Resolved}
use Rattle.pgs_syntax.specs.KeyValues.{starts_at}
use Rattle.pgs_syntax.specs.Matches.{same_elem, elements, are_there, is_match}
use Rattle.pgs_syntax.proofs.Assigned.{match_found, match_given}
use Rattle.pgs_syntax.proofs.Members.{kept_found, kept_given}
use Rattle.pgs_match.specs.Bounds.{stands_at}
use Rattle.pgs_match.specs.Reached.{reaches, reached}
use Rattle.pgs_match.proofs.Reaching.{elements_ascend}

abbrev all : Graph → List Elem
all g = elements g false ++ elements g true

one_elem : (a b : Elem) → same_elem a b ≡ true → a ≡ b
one_elem a b h = exact_elem a b ((Equal-is (elem_cmp a b)).0 h)

-- the element with which elements of a graph begin is an element of the graph
first_there : (g : Graph) (first : Elem) (kinds : List Bool) (elems : List Elem) → are_there g kinds elems ≡ true → starts_at first elems ≡ true → Contains (all g) first
first_there g first [] [] there starts = absurd (true≢false (sym starts))
first_there g first [] (x ∷ xs) there starts = absurd (true≢false (sym there))
first_there g first (kind ∷ kinds) [] there starts = absurd (true≢false (sym there))
first_there g first (kind ∷ kinds) (x ∷ xs) there starts =
    let listed = Contains-from_any one_elem x (elements g kind) (and_parts _ _ there).0 in
    by kind (subst (Contains (elements g kind)) (sym (one_elem first x starts)) listed)
  where
    by : (kind : Bool) → Contains (elements g kind) first → Contains (all g) first
    by true h = Contains-append_right (elements g false) (elements g true) first h
    by false h = Contains-append_left (elements g false) (elements g true) first h

module _ (resolved : Resolved) (g : Graph) (pattern : Pattern) (var : ℕ) (elem : Elem) where
  pub reached_ascends : is_graph g ≡ true → ascends elem_cmp (reached resolved g pattern var elem) ≡ true
  reached_ascends graph =
      (ascends_decides elem_cmp (reached resolved g pattern var elem)).1
      (IsStrictlySortedBy-filter elem_cmp (reaches resolved g pattern var elem) (all g) ((ascends_decides elem_cmp (all g)).0 (elements_ascend g graph)))

  abbrev binds : Elem → List Elem → Bool
  binds first elems = stands_at var elem elems && starts_at first elems

  pub found : (first : Elem) → Contains (reached resolved g pattern var elem) first →
      (elems : List Elem) × (is_match resolved g pattern elems ≡ true) × (stands_at var elem elems ≡ true) × (starts_at first elems ≡ true)
  found first h =
      let it = match_found resolved g pattern (binds first) (kept_found (reaches resolved g pattern var elem) (all g) first h).1 in
      let both = and_parts (stands_at var elem it.0) (starts_at first it.0) it.2 in
      (it.0, it.1, both.0, both.1)

  pub given : (first : Elem) (elems : List Elem) → is_match resolved g pattern elems ≡ true → stands_at var elem elems ≡ true → starts_at first elems ≡ true →
      Contains (reached resolved g pattern var elem) first
  given first elems match stands starts =
      kept_given (reaches resolved g pattern var elem) (all g) first (first_there g first pattern.edge_vars elems (and_parts _ _ match).0 starts)
      (match_given resolved g pattern (binds first) elems match (and_from (stands_at var elem elems) (starts_at first elems) stands starts))
