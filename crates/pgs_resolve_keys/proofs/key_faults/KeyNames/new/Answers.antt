use Rattle.std.proofs.Common.{◌≡◌, ℕ, List, ◌++◌, map, slice_get, ◌∙◌, ap}
use Rattle.pgs_resolve_keys.specs.declared.places.PlaceRef.{PlaceRef}
use Rattle.pgs_resolve_keys.specs.KeyFaults.{within_of, edge_places, node_places}
use Rattle.pgs_resolve_keys.specs.Patterns.{Place, places_of, named_in}
use Rattle.pgs_resolve_keys.specs.Placed.{placed}
use Rattle.pgs_resolve_keys.proofs.key_faults.KeyNames.new.Goals as goal

-- what is told from lent places, as the places that they are
of_places : (f : List Place → List (List ℕ)) (lent places : List PlaceRef) (all : List Place) → lent ≡ places → map placed places ≡ all → f (map placed lent) ≡ f all
of_places f lent places all same e = ap f (ap (map placed) same ∙ e)

of_both : (f : List Place → List (List ℕ)) (lent places more others : List PlaceRef) (xs ys : List Place) → lent ≡ places → map placed places ≡ xs → more ≡ others → map placed others ≡ ys →
    f (map placed lent ++ map placed more) ≡ f (xs ++ ys)
of_both f lent places more others xs ys a x b y = ap (λ l. f (l ++ map placed more)) (ap (map placed) a ∙ x) ∙ ap (λ l. f (xs ++ l)) (ap (map placed) b ∙ y)

pub returns : goal.returns
returns c =
    let key = c.args.key.now in
    let places = c.in_ok-scope_places.scope_places.items in
    let others = c.in_ok-within_places.within_places.items in
    let at_scope : map placed places ≡ places_of key.scope = c.in_ok-scope_places.ensures ∙ ap places_of c.as_slice.ensures in
    let at_within : map placed others ≡ places_of (within_of key) = c.in_ok-within_places.ensures in
    let scope : c.in_ok-scope.scope ≡ named_in (places_of key.scope) = c.in_ok-scope.ensures ∙ of_places named_in c.deref.result.now places (places_of key.scope) c.deref.ensures.value at_scope in
    let within : c.in_ok-within.within ≡ named_in (places_of (within_of key)) = c.in_ok-within.ensures ∙ of_places named_in c.deref-2.result.now others (places_of (within_of key)) c.deref-2.ensures.value at_within in
    record {
      scope = scope;
      within = within;
      descriptor = λ x e. c.in_ok-descriptor.ensures within x (ap (λ names. slice_get names 0) scope ∙ e);
      edges = c.in_ok-edges.ensures
          ∙ of_both (λ l. named_in (edge_places l)) c.deref-3.result.now places c.deref-4.result.now others (places_of key.scope) (places_of (within_of key)) c.deref-3.ensures.value at_scope c.deref-4.ensures.value at_within;
      nodes = c.in_ok-nodes.ensures
          ∙ of_both (λ l. named_in (node_places l)) c.deref-5.result.now places c.deref-6.result.now others (places_of key.scope) (places_of (within_of key)) c.deref-5.ensures.value at_scope c.deref-6.ensures.value at_within;
    }
