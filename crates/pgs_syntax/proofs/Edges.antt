-- What a triple that fits an edge type is, by its ends.
use Rattle.std.proofs.Common.{◌≡◌, Bool, true, false, ◌&&◌, refl, sym, ◌∙◌}
use Rattle.std.specs.List.{list_any}
use Rattle.std.proofs.lemmas.Bool.{and_parts, and_from}
use Rattle.pgs_base.specs.declared.row.NodeRow.{NodeRow}
use Rattle.pgs_base.specs.Pair.{is_pair}
use Rattle.pgs_syntax.specs.Join.{PairTriple, halves, triple_halves, is_empty_pair, of_triples, joined}
use Rattle.pgs_syntax.specs.Meaning.{IsEdgeOf}
use Rattle.pgs_syntax.proofs.Halves.{any_same, any_map, any_flat_map, any_and, halves_swap, halves_whole, joined_any}
use Rattle.pgs_syntax.proofs.JoinMeans.{halves_found, halves_given}

abbrev triple : NodeRow → NodeRow → NodeRow → PairTriple
triple source own target = record { source = source; own = own; target = target }

-- a test of the couples of triples, pair by pair
pub any_triple_halves : (c : PairTriple × PairTriple → Bool) (t : PairTriple) →
    list_any c (triple_halves t) ≡ list_any (λ (s : NodeRow × NodeRow). list_any (λ (m : NodeRow × NodeRow). list_any (λ (e : NodeRow × NodeRow).
    c (triple s.0 m.0 e.0, triple s.1 m.1 e.1)) (halves t.target)) (halves t.own)) (halves t.source)
any_triple_halves c t =
    any_flat_map c _ (halves t.source)
    ∙ any_same _ _ (λ (s : NodeRow × NodeRow). any_flat_map c _ (halves t.own)
    ∙ any_same _ _ (λ (m : NodeRow × NodeRow). any_map c (λ (e : NodeRow × NodeRow). (triple s.0 m.0 e.0, triple s.1 m.1 e.1)) (halves t.target)) (halves t.own))
    (halves t.source)

-- where the first half has to be empty, the second is the whole
halves_other : (h : NodeRow → Bool) (p : NodeRow) → list_any (λ (s : NodeRow × NodeRow). is_empty_pair s.0 && h s.1) (halves p) ≡ h p
halves_other h p = halves_swap (λ (s : NodeRow × NodeRow). is_empty_pair s.0 && h s.1) p ∙ halves_whole h p

regroup : (m a e b : Bool) → (m && ((a && e) && b)) ≡ (e && (m && (a && b)))
regroup true true true b = refl
regroup true true false b = refl
regroup true false true b = refl
regroup true false false b = refl
regroup false a true b = refl
regroup false a false b = refl

module _ (source target : NodeRow → Bool) (middle : PairTriple → Bool) where
  abbrev ends : PairTriple → Bool
  ends t = source t.source && is_empty_pair t.own && target t.target

  -- an edge's own pair is the middle's: only the pairs at its ends are split
  pub edge_any : (t : PairTriple) → joined of_triples ends middle t
      ≡ list_any (λ (s : NodeRow × NodeRow). list_any (λ (e : NodeRow × NodeRow).
      middle (triple s.1 t.own e.1) && (source s.0 && target e.0)) (halves t.target)) (halves t.source)
  edge_any t =
      joined_any of_triples ends middle t
      ∙ any_triple_halves (λ (u : PairTriple × PairTriple). middle u.1 && ends u.0) t
      ∙ any_same _ _ by_own (halves t.source)
    where
      by_own : (s : NodeRow × NodeRow) → list_any (λ (m : NodeRow × NodeRow). list_any (λ (e : NodeRow × NodeRow).
          middle (triple s.1 m.1 e.1) && ((source s.0 && is_empty_pair m.0) && target e.0)) (halves t.target)) (halves t.own)
          ≡ list_any (λ (e : NodeRow × NodeRow). middle (triple s.1 t.own e.1) && (source s.0 && target e.0)) (halves t.target)
      by_own s =
          any_same _ _ (λ (m : NodeRow × NodeRow).
          any_same _ _ (λ (e : NodeRow × NodeRow). regroup (middle (triple s.1 m.1 e.1)) (source s.0) (is_empty_pair m.0) (target e.0)) (halves t.target)
          ∙ any_and (is_empty_pair m.0) (λ (e : NodeRow × NodeRow). middle (triple s.1 m.1 e.1) && (source s.0 && target e.0)) (halves t.target))
          (halves t.own)
          ∙ halves_other (λ own. list_any (λ (e : NodeRow × NodeRow). middle (triple s.1 own e.1) && (source s.0 && target e.0)) (halves t.target)) t.own

  pub edge_found : (t : PairTriple) → is_pair t.source ≡ true → is_pair t.target ≡ true → joined of_triples ends middle t ≡ true → IsEdgeOf source target middle t
  edge_found t first last h =
      let s = halves_found _ t.source first (sym (edge_any t) ∙ h) in
      let e = halves_found _ t.target last s.5 in
      let parts = and_parts _ _ e.5 in
      let outer = and_parts _ _ parts.1 in
      (s.0, s.1, s.2, s.3, s.4, (e.0, e.1, e.2, e.3, e.4, (outer.0, outer.1, parts.0)))

  pub edge_given : (t : PairTriple) → is_pair t.source ≡ true → is_pair t.target ≡ true → IsEdgeOf source target middle t → joined of_triples ends middle t ≡ true
  edge_given t first last (of_source, at_source, a, b, join, (of_target, at_target, c, d, other, (fits, too, passes))) =
      edge_any t
      ∙ halves_given _ t.source first (
        of_source,
        at_source,
        a,
        b,
        join,
        halves_given _ t.target last (of_target, at_target, c, d, other, and_from _ _ passes (and_from _ _ fits too)),
      )
