-- Three shapes at once: what two triples of shapes have in common, and the plainest triple of one.
use Rattle.std.proofs.Common.{◌≡◌, Bool, true, false, ◌&&◌, List, refl, sym, ◌∙◌, ap, arith}
use Rattle.std.proofs.lemmas.Bool.{true≢false, and_parts, and_from, false_from_ne_true}
use Rattle.pgs_base.specs.declared.row.NodeRow.{NodeRow}
use Rattle.pgs_base.specs.Pair.{is_pair}
use Rattle.pgs_syntax.specs.Join.{PairTriple}
use Rattle.pgs_syntax.specs.Triples.{is_triple}
use Rattle.pgs_conform.specs.declared.shape.Shape.{Shape}
use Rattle.pgs_conform.specs.declared.shape.Triple.{Triple as ShapeTriple}
use Rattle.pgs_conform.specs.Shapes.{triple_of, in_shape, in_triple, in_some}
use Rattle.pgs_standing.specs.Common.{ends_in}
use Rattle.pgs_standing.specs.Example.{by_nodes, by_edges, NonePasses, IsPlainest}
use Rattle.pgs_standing.specs.Standing.{is_small, is_small_triple}

-- ---- in common

regroup : (a b c d e f : Bool) → (((a && d) && (b && e)) && (c && f)) ≡ (((a && b) && c) && ((d && e) && f))
regroup false b c d e f = refl
regroup true false c true e f = refl
regroup true false c false e f = refl
regroup true true false true true f = refl
regroup true true false true false f = refl
regroup true true false false e f = refl
regroup true true true true true f = refl
regroup true true true true false f = refl
regroup true true true false e f = refl

module _ (first second : ShapeTriple) (source middle target : NodeRow → Bool)
    (source_is : (p : NodeRow) → is_pair p ≡ true → source p ≡ (in_shape first.source p && in_shape second.source p))
    (middle_is : (p : NodeRow) → is_pair p ≡ true → middle p ≡ (in_shape first.middle p && in_shape second.middle p))
    (target_is : (p : NodeRow) → is_pair p ≡ true → target p ≡ (in_shape first.target p && in_shape second.target p)) where
  pub three_common : (t : PairTriple) → is_triple t ≡ true → (source t.source && middle t.own && target t.target) ≡ (in_triple first t && in_triple second t)
  three_common t triple =
      let outer = and_parts _ _ triple in
      let inner = and_parts _ _ outer.0 in
      ap (λ b. b && middle t.own && target t.target) (source_is t.source inner.0)
      ∙ ap (λ b. (in_shape first.source t.source && in_shape second.source t.source) && b && target t.target) (middle_is t.own inner.1)
      ∙ ap (λ b. (in_shape first.source t.source && in_shape second.source t.source) && (in_shape first.middle t.own && in_shape second.middle t.own) && b)
      (target_is t.target outer.1)
      ∙ regroup (in_shape first.source t.source) (in_shape first.middle t.own) (in_shape first.target t.target) (in_shape second.source t.source)
      (in_shape second.middle t.own) (in_shape second.target t.target)

no_middle : (x z : Bool) → (x && false && z) ≡ false
no_middle true z = refl
no_middle false z = refl

no_last : (x : Bool) → (x && false) ≡ false
no_last true = refl
no_last false = refl

-- where nothing is in common at one of the three places, nothing is
module _ (first second : ShapeTriple) where
  abbrev pub AreApart : Shape → Shape → Type 0
  AreApart a b = (p : NodeRow) → is_pair p ≡ true → false ≡ (in_shape a p && in_shape b p)

  abbrev pub AreApartTriples : Type 0
  AreApartTriples = (t : PairTriple) → is_triple t ≡ true → false ≡ (in_triple first t && in_triple second t)

  abbrev both : Shape → Shape → NodeRow → Bool
  both a b p = in_shape a p && in_shape b p

  pub apart_middle : AreApart first.middle second.middle → AreApartTriples
  apart_middle apart t triple =
      sym (no_middle (both first.source second.source t.source) (both first.target second.target t.target))
      ∙ three_common first second (both first.source second.source) (λ p. false) (both first.target second.target) (λ p pair. refl) apart (λ p pair. refl) t triple

  pub apart_source : AreApart first.source second.source → AreApartTriples
  apart_source apart t triple =
      three_common first second (λ p. false) (both first.middle second.middle) (both first.target second.target) apart (λ p pair. refl) (λ p pair. refl) t triple

  pub apart_target : AreApart first.target second.target → AreApartTriples
  apart_target apart t triple =
      sym (no_last (both first.source second.source t.source && both first.middle second.middle t.own))
      ∙ three_common first second (both first.source second.source) (both first.middle second.middle) (λ p. false) (λ p pair. refl) (λ p pair. refl) apart t triple

-- ---- the plainest triple

module _ (shapes : ShapeTriple) (nodes : List Shape) where
  abbrev pub end_test : Shape → NodeRow → Bool
  end_test shape p = is_small p && (in_shape shape p && in_some nodes p)

  abbrev pub own_test : NodeRow → Bool
  own_test p = is_small p && in_shape shapes.middle p

  abbrev pub test : PairTriple → Bool
  test t = is_small_triple t && (in_triple shapes t && ends_in nodes t)

  cut : (t : PairTriple) → test t ≡ true → (end_test shapes.source t.source ≡ true) × (own_test t.own ≡ true) × (end_test shapes.target t.target ≡ true)
  cut t h =
      let outer = and_parts (is_small_triple t) (in_triple shapes t && ends_in nodes t) h in
      let smalls = and_parts (is_small t.source && is_small t.own) (is_small t.target) outer.0 in
      let firsts = and_parts (is_small t.source) (is_small t.own) smalls.0 in
      let rest = and_parts (in_triple shapes t) (ends_in nodes t) outer.1 in
      let inside = and_parts (in_shape shapes.source t.source && in_shape shapes.middle t.own) (in_shape shapes.target t.target) rest.0 in
      let begun = and_parts (in_shape shapes.source t.source) (in_shape shapes.middle t.own) inside.0 in
      let ends = and_parts (in_some nodes t.source) (in_some nodes t.target) rest.1 in (
        and_from _ _ firsts.0 (and_from _ _ begun.0 ends.0),
        and_from _ _ firsts.1 begun.1,
        and_from _ _ smalls.1 (and_from _ _ inside.1 ends.1),
      )

  whole : (s m t : NodeRow) → end_test shapes.source s ≡ true → own_test m ≡ true → end_test shapes.target t ≡ true → test (triple_of s m t) ≡ true
  whole s m t source own target =
      let first = and_parts (is_small s) (in_shape shapes.source s && in_some nodes s) source in
      let second = and_parts (is_small m) (in_shape shapes.middle m) own in
      let third = and_parts (is_small t) (in_shape shapes.target t && in_some nodes t) target in
      let begun = and_parts (in_shape shapes.source s) (in_some nodes s) first.1 in
      let ended = and_parts (in_shape shapes.target t) (in_some nodes t) third.1 in
      and_from _ _ (and_from _ _ (and_from _ _ first.0 second.0) third.0)
      (and_from _ _ (and_from _ _ (and_from _ _ begun.0 second.1) ended.0) (and_from _ _ begun.1 ended.1))

  pub plainest_three : (s m t : NodeRow) → IsPlainest by_nodes (end_test shapes.source) s → IsPlainest by_nodes own_test m →
      IsPlainest by_nodes (end_test shapes.target) t → IsPlainest by_edges test (triple_of s m t)
  plainest_three s m t source own target = record {
    is_one = and_from _ _ (and_from _ _ source.is_one own.is_one) target.is_one;
    passes = whole s m t source.passes own.passes target.passes;
    plain = and_from _ _ (and_from _ _ source.plain own.plain) target.plain;
    fewest = λ q triple h.
        let outer = and_parts (is_pair q.source && is_pair q.own) (is_pair q.target) triple in
        let inner = and_parts (is_pair q.source) (is_pair q.own) outer.0 in
        let parts = cut q h in
        let first = source.fewest q.source inner.0 parts.0 in
        let second = own.fewest q.own inner.1 parts.1 in
        let third = target.fewest q.target outer.1 parts.2 in
        omega (arith, first, second, third);
  }

  pub none_middle : NonePasses by_nodes own_test → NonePasses by_edges test
  none_middle none q triple =
      let inner = and_parts (is_pair q.source) (is_pair q.own) (and_parts (is_pair q.source && is_pair q.own) (is_pair q.target) triple).0 in
      false_from_ne_true (test q) (λ h. true≢false (sym (cut q h).1 ∙ none q.own inner.1))

  pub none_source : NonePasses by_nodes (end_test shapes.source) → NonePasses by_edges test
  none_source none q triple =
      let inner = and_parts (is_pair q.source) (is_pair q.own) (and_parts (is_pair q.source && is_pair q.own) (is_pair q.target) triple).0 in
      false_from_ne_true (test q) (λ h. true≢false (sym (cut q h).0 ∙ none q.source inner.0))

  pub none_target : NonePasses by_nodes (end_test shapes.target) → NonePasses by_edges test
  none_target none q triple =
      false_from_ne_true (test q) (λ h. true≢false (sym (cut q h).2 ∙ none q.target (and_parts (is_pair q.source && is_pair q.own) (is_pair q.target) triple).1))
