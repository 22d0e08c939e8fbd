use Rattle.std.proofs.Common.{◌≡◌, ℕ, ◌+◌, ◌<◌, Bool, true, false, cond, not, List, [], ◌∷◌, ◌++◌, length, map, take, get_or, refl, sym, ◌∙◌, ap}
use Rattle.std.specs.Bool.{beq}
use Rattle.std.proofs.lemmas.List.{append-nil, map-append}
use Rattle.std.proofs.lemmas.List.Elements.{filter-append}
use Rattle.pgs_resolve_declared.proofs.Walks.{one_more}
use Rattle.pgs_resolve_keys.specs.declared.places.PlaceRef.{PlaceRef}
use Rattle.pgs_resolve_keys.specs.KeyFaults.{edge_places, node_places}
use Rattle.pgs_resolve_keys.specs.Patterns.{Place}
use Rattle.pgs_resolve_keys.specs.Placed.{placed}
use Rattle.pgs_resolve_keys.proofs.places.of_kind.Goals as goal
use Rattle.pgs_resolve_keys.proofs.places.of_kind.Goals.{then-place-is_edge+in_ok-push, else-place-is_edge}

abbrev kept_of : Bool → List Place → List Place
kept_of is_edge places = cond is_edge (edge_places places) (node_places places)

module _ (places : List PlaceRef) (i : ℕ) (place : PlaceRef) (lt : i < length places) (is : place ≡ get_or places i place) where
  one_placed : map placed (take (i + 1) places) ≡ map placed (take i places) ++ placed place ∷ []
  one_placed = ap (map placed) (one_more places i place lt is) ∙ map-append placed (take i places) (place ∷ [])

  kept_more : (is_edge : Bool) → kept_of is_edge (map placed (take (i + 1) places))
      ≡ kept_of is_edge (map placed (take i places)) ++ cond (cond is_edge place.is_edge (not place.is_edge)) (placed place ∷ []) []
  kept_more true = ap edge_places one_placed ∙ filter-append (λ (p : Place). p.is_edge) (map placed (take i places)) (placed place ∷ [])
  kept_more false = ap node_places one_placed ∙ filter-append (λ (p : Place). not p.is_edge) (map placed (take i places)) (placed place ∷ [])

is_kept : (a b : Bool) (xs : List Place) → beq a b ≡ true → cond (cond b a (not a)) xs [] ≡ xs
is_kept true true xs e = refl
is_kept false false xs e = refl
is_kept true false xs e = cc
is_kept false true xs e = cc

is_passed : (a b : Bool) (xs : List Place) → beq a b ≡ false → cond (cond b a (not a)) xs [] ≡ []
is_passed true true xs e = cc
is_passed false false xs e = cc
is_passed true false xs e = refl
is_passed false true xs e = refl

pub loop-place-preserved : goal.loop-place-preserved
loop-place-preserved c =
    let places = c.args.places.now in
    let i = c.loop-place.place-index in
    let place = c.place-item.result in
    let before = kept_of c.args.is_edge (map placed (take i places)) in
    let more = kept_more places i place c.loop-place-test.true c.place-item.is c.args.is_edge in
    elim c.if-place-is_edge.branch [
      | then-place-is_edge+in_ok-push w ↦
          rw w.kept-is (
          ap (map placed) w.in_ok-push.ensures.items ∙ map-append placed c.loop-place.kept.items (place ∷ []) ∙ ap (λ ps. ps ++ placed place ∷ []) c.loop-place.invariant
          ∙ ap (λ ps. before ++ ps) (sym (is_kept place.is_edge c.args.is_edge (placed place ∷ []) w.if-place-is_edge.true)) ∙ sym more
          )
      | else-place-is_edge w ↦
          rw w.kept-is (c.loop-place.invariant ∙ sym (append-nil before) ∙ ap (λ ps. before ++ ps) (sym (is_passed place.is_edge c.args.is_edge (placed place ∷ []) w.if-place-is_edge.false)) ∙ sym more)
    ]
