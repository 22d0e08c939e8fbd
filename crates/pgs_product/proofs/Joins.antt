-- Joins of pairs and of triples of pairs are lawful, and a join of triples is a join at each place.
use Rattle.std.proofs.Common.{◌≡◌, Bool, true, false, ◌&&◌, refl, sym, ◌∙◌, ap}
use Rattle.std.proofs.lemmas.Bool.{and_parts, and_from}
use Rattle.pgs_base.specs.declared.row.NodeRow.{NodeRow}
use Rattle.pgs_base.specs.Pair.{is_pair}
use Rattle.pgs_syntax.specs.Join.{PairTriple, halves, of_pairs, of_triples, joined, is_empty_pair}
use Rattle.pgs_syntax.specs.Triples.{is_triple}
use Rattle.pgs_syntax.proofs.AnyOrder.{pairs_in_any_order, triples_in_any_order}
use Rattle.pgs_syntax.proofs.Edges.{any_triple_halves}
use Rattle.pgs_syntax.proofs.Halves.{any_same, any_and, joined_any, halves_whole}
use Rattle.pgs_syntax.proofs.JoinMeans.{means, meant}
use Rattle.pgs_syntax.proofs.TriplesMean.{triple_means, triple_meant}
use Rattle.pgs_product.proofs.Exact.{same_answer}
use Rattle.pgs_product.proofs.Several.{AreLawful}

-- ---- pairs

abbrev pub IsGood : NodeRow → Type 0
IsGood p = is_pair p ≡ true

pairs_there : (f g h k : NodeRow → Bool) → ((p : NodeRow) → IsGood p → f p ≡ h p) → ((p : NodeRow) → IsGood p → g p ≡ k p) →
    (p : NodeRow) → IsGood p → joined of_pairs f g p ≡ true → joined of_pairs h k p ≡ true
pairs_there f g h k first second p pair e =
    let m = means f g p pair e in
    meant h k p pair (m.0, m.1, m.2, m.3, m.4, sym (first m.0 m.2) ∙ m.5, sym (second m.1 m.3) ∙ m.6)

pub pairs_lawful : AreLawful of_pairs IsGood
pairs_lawful = record {
  alike = λ f g h k first second p pair. same_answer _ _ (pairs_there f g h k first second p pair)
      (pairs_there h k f g (λ q good. sym (first q good)) (λ q good. sym (second q good)) p pair);
  unit = λ f p. joined_any of_pairs f is_empty_pair p ∙ halves_whole f p;
  any_order = pairs_in_any_order;
}

-- ---- triples

abbrev pub IsGoodTriple : PairTriple → Type 0
IsGoodTriple t = is_triple t ≡ true

triples_there : (f g h k : PairTriple → Bool) → ((t : PairTriple) → IsGoodTriple t → f t ≡ h t) → ((t : PairTriple) → IsGoodTriple t → g t ≡ k t) →
    (t : PairTriple) → IsGoodTriple t → joined of_triples f g t ≡ true → joined of_triples h k t ≡ true
triples_there f g h k first second t pairs e =
    let m = triple_means f g t pairs e in
    triple_meant h k t pairs (m.0, m.1, m.2, m.3, m.4, sym (first m.0 m.2) ∙ m.5, sym (second m.1 m.3) ∙ m.6)

abbrev triple : NodeRow → NodeRow → NodeRow → PairTriple
triple source own target = record { source = source; own = own; target = target }

regroup : (s m e f : Bool) → ((s && m && e) && f) ≡ (s && (m && (e && f)))
regroup true true e f = refl
regroup true false e f = refl
regroup false m e f = refl

triple_unit : (f : PairTriple → Bool) (t : PairTriple) → joined of_triples f (of_triples.asks is_empty_pair) t ≡ f t
triple_unit f t =
    joined_any of_triples f (of_triples.asks is_empty_pair) t
    ∙ any_triple_halves (λ (u : PairTriple × PairTriple). of_triples.asks is_empty_pair u.1 && f u.0) t
    ∙ any_same _ _ (λ (s : NodeRow × NodeRow). any_same _ _ (λ (m : NodeRow × NodeRow). any_same _ _ (λ (e : NodeRow × NodeRow).
    regroup (is_empty_pair s.1) (is_empty_pair m.1) (is_empty_pair e.1) (f (triple s.0 m.0 e.0))) (halves t.target)
    ∙ any_and (is_empty_pair s.1) (λ (e : NodeRow × NodeRow). is_empty_pair m.1 && (is_empty_pair e.1 && f (triple s.0 m.0 e.0))) (halves t.target)
    ∙ ap (λ b. is_empty_pair s.1 && b) (any_and (is_empty_pair m.1) (λ (e : NodeRow × NodeRow). is_empty_pair e.1 && f (triple s.0 m.0 e.0)) (halves t.target)
    ∙ ap (λ b. is_empty_pair m.1 && b) (halves_whole (λ target. f (triple s.0 m.0 target)) t.target))) (halves t.own)
    ∙ any_and (is_empty_pair s.1) (λ (m : NodeRow × NodeRow). is_empty_pair m.1 && f (triple s.0 m.0 t.target)) (halves t.own)
    ∙ ap (λ b. is_empty_pair s.1 && b) (halves_whole (λ own. f (triple s.0 own t.target)) t.own)) (halves t.source)
    ∙ halves_whole (λ source. f (triple source t.own t.target)) t.source

pub triples_lawful : AreLawful of_triples IsGoodTriple
triples_lawful = record {
  alike = λ f g h k first second t pairs. same_answer _ _ (triples_there f g h k first second t pairs)
      (triples_there h k f g (λ u good. sym (first u good)) (λ u good. sym (second u good)) t pairs);
  unit = triple_unit;
  any_order = triples_in_any_order;
}

-- a join of triples is a join at each place
module _ (a b c d e f : NodeRow → Bool) (t : PairTriple) (pairs : is_triple t ≡ true) where
  abbrev first : PairTriple → Bool
  first u = a u.source && b u.own && c u.target

  abbrev second : PairTriple → Bool
  second u = d u.source && e u.own && f u.target

  abbrev at_each : Bool
  at_each = joined of_pairs a d t.source && joined of_pairs b e t.own && joined of_pairs c f t.target

  good : (is_pair t.source ≡ true) × (is_pair t.own ≡ true) × (is_pair t.target ≡ true)
  good = let outer = and_parts _ _ pairs in let inner = and_parts _ _ outer.0 in (inner.0, inner.1, outer.1)

  each_there : joined of_triples first second t ≡ true → at_each ≡ true
  each_there h =
      let m = triple_means first second t pairs h in
      let one = and_parts _ _ m.2 in
      let one_inner = and_parts _ _ one.0 in
      let other = and_parts _ _ m.3 in
      let other_inner = and_parts _ _ other.0 in
      let passes = and_parts _ _ m.5 in
      let passes_inner = and_parts _ _ passes.0 in
      let too = and_parts _ _ m.6 in
      let too_inner = and_parts _ _ too.0 in
      and_from _ _ (and_from _ _
      (meant a d t.source good.0 (m.0.source, m.1.source, one_inner.0, other_inner.0, m.4.source, passes_inner.0, too_inner.0))
      (meant b e t.own good.1 (m.0.own, m.1.own, one_inner.1, other_inner.1, m.4.own, passes_inner.1, too_inner.1)))
      (meant c f t.target good.2 (m.0.target, m.1.target, one.1, other.1, m.4.target, passes.1, too.1))

  each_back : at_each ≡ true → joined of_triples first second t ≡ true
  each_back h =
      let outer = and_parts _ _ h in
      let inner = and_parts _ _ outer.0 in
      let s = means a d t.source good.0 inner.0 in
      let m = means b e t.own good.1 inner.1 in
      let l = means c f t.target good.2 outer.1 in
      triple_meant first second t pairs (
        triple s.0 m.0 l.0,
        triple s.1 m.1 l.1,
        and_from _ _ (and_from _ _ s.2 m.2) l.2,
        and_from _ _ (and_from _ _ s.3 m.3) l.3,
        record { source = s.4; own = m.4; target = l.4 },
        and_from _ _ (and_from _ _ s.5 m.5) l.5,
        and_from _ _ (and_from _ _ s.6 m.6) l.6,
      )

  pub joined_at_each : at_each ≡ joined of_triples first second t
  joined_at_each = same_answer _ _ each_back each_there
