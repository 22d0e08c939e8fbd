-- A test of joins of triples says that there are two triples, each of which passes its test, whose join is the triple.
use Rattle.std.proofs.Common.{◌≡◌, Bool, true, ◌&&◌, List, [], ◌∷◌, sym, ◌∙◌}
use Rattle.std.specs.List.{list_any}
use Rattle.std.proofs.lemmas.Bool.{and_parts, and_from}
use Rattle.pgs_base.specs.declared.row.NodeRow.{NodeRow}
use Rattle.pgs_syntax.specs.Join.{PairTriple, triple_halves, of_triples, joined, joined_all}
use Rattle.pgs_syntax.specs.Triples.{is_triple, IsTripleJoin, IsTripleJoinOf, IsTripleJoinOfAll}
use Rattle.pgs_syntax.proofs.Edges.{any_triple_halves}
use Rattle.pgs_syntax.proofs.Halves.{joined_any}
use Rattle.pgs_syntax.proofs.JoinMeans.{halves_found, halves_given}

abbrev triple : NodeRow → NodeRow → NodeRow → PairTriple
triple source own target = record { source = source; own = own; target = target }

-- a couple of halves that passes a test is two triples whose join is the triple, and the other way round
abbrev IsTripleJoinWhere : (PairTriple × PairTriple → Bool) → PairTriple → Type 0
IsTripleJoinWhere c t = (first : PairTriple) × (second : PairTriple) × (is_triple first ≡ true) × (is_triple second ≡ true)
    × IsTripleJoin first second t × (c (first, second) ≡ true)

triples_found : (c : PairTriple × PairTriple → Bool) (t : PairTriple) → is_triple t ≡ true → list_any c (triple_halves t) ≡ true → IsTripleJoinWhere c t
triples_found c t pairs h =
    let outer = and_parts _ _ pairs in
    let inner = and_parts _ _ outer.0 in
    let s = halves_found _ t.source inner.0 (sym (any_triple_halves c t) ∙ h) in
    let m = halves_found _ t.own inner.1 s.5 in
    let e = halves_found _ t.target outer.1 m.5 in (
      triple s.0 m.0 e.0,
      triple s.1 m.1 e.1,
      and_from _ _ (and_from _ _ s.2 m.2) e.2,
      and_from _ _ (and_from _ _ s.3 m.3) e.3,
      record { source = s.4; own = m.4; target = e.4 },
      e.5,
    )

triples_given : (c : PairTriple × PairTriple → Bool) (t : PairTriple) → is_triple t ≡ true → IsTripleJoinWhere c t → list_any c (triple_halves t) ≡ true
triples_given c t pairs (first, second, one, other, join, passes) =
    let outer = and_parts _ _ pairs in
    let inner = and_parts _ _ outer.0 in
    let ones = and_parts _ _ one in
    let first_ones = and_parts _ _ ones.0 in
    let others = and_parts _ _ other in
    let first_others = and_parts _ _ others.0 in
    any_triple_halves c t
    ∙ halves_given _ t.source inner.0 (
      first.source,
      second.source,
      first_ones.0,
      first_others.0,
      join.source,
      halves_given _ t.own inner.1 (
        first.own,
        second.own,
        first_ones.1,
        first_others.1,
        join.own,
        halves_given _ t.target outer.1 (first.target, second.target, ones.1, others.1, join.target, passes),
      ),
    )

module _ (f g : PairTriple → Bool) (t : PairTriple) (pairs : is_triple t ≡ true) where
  pub triple_means : joined of_triples f g t ≡ true → IsTripleJoinOf f g t
  triple_means h =
      let join = triples_found (λ (u : PairTriple × PairTriple). g u.1 && f u.0) t pairs (sym (joined_any of_triples f g t) ∙ h) in
      let passes = and_parts _ _ join.5 in
      (join.0, join.1, join.2, join.3, join.4, passes.1, passes.0)

  pub triple_meant : IsTripleJoinOf f g t → joined of_triples f g t ≡ true
  triple_meant (first, second, one, other, join, passes, too) =
      joined_any of_triples f g t
      ∙ triples_given (λ (u : PairTriple × PairTriple). g u.1 && f u.0) t pairs (first, second, one, other, join, and_from _ _ too passes)

-- joins of one triple for each test
pub all_triples_mean : (tests : List (PairTriple → Bool)) (t : PairTriple) → is_triple t ≡ true → joined_all of_triples tests t ≡ true → IsTripleJoinOfAll tests t
all_triples_mean [] t pairs h = h
all_triples_mean (test ∷ tests) t pairs h =
    let parts = triple_means test (joined_all of_triples tests) t pairs h in
    (parts.0, parts.1, parts.2, parts.3, parts.4, parts.5, all_triples_mean tests parts.1 parts.3 parts.6)

pub all_triples_meant : (tests : List (PairTriple → Bool)) (t : PairTriple) → is_triple t ≡ true → IsTripleJoinOfAll tests t → joined_all of_triples tests t ≡ true
all_triples_meant [] t pairs h = h
all_triples_meant (test ∷ tests) t pairs (first, rest, one, other, join, passes, all) =
    triple_meant test (joined_all of_triples tests) t pairs (first, rest, one, other, join, passes, all_triples_meant tests rest other all)
