-- The tests of a join of many may stand in any order.
use Rattle.std.proofs.Common.{◌≡◌, ℕ, zero, suc, ◌<◌, Bool, true, false, ◌&&◌, List, [], ◌∷◌, length, get_or, set, refl, sym, ◌∙◌, ap, arith}
use Rattle.std.specs.Prelude.{IsPermutation}
use Rattle.std.specs.List.{list_any, swap}
use Rattle.std.proofs.lemmas.Bool.{and_parts, and_from}
use Rattle.std.proofs.lemmas.List.Edits.{swap_is}
use Rattle.std.proofs.lemmas.List.Sorted.{IsPermutation-keeps}
use Rattle.pgs_base.specs.declared.row.NodeRow.{NodeRow}
use Rattle.pgs_base.specs.Pair.{pair_of}
use Rattle.pgs_syntax.specs.Join.{PairTriple, halves, triple_halves, Joins, of_pairs, of_triples, joined, joined_all}
use Rattle.pgs_syntax.proofs.Edges.{any_triple_halves}
use Rattle.pgs_syntax.proofs.Halves.{any_halves, joined_any, joined_same}
use Rattle.pgs_syntax.proofs.Splits.{IsSplit, none, to_left, to_right, to_both, split_from_any, any_from_split}

-- ---- three parts: what the second and the third have together may be what the first and the third have

-- where one part and two others together make the whole, so do the second and the first with the third
split_regrouped : {X : Type 0} (l m a b xs : List X) → IsSplit l m xs → IsSplit a b m → (n : List X) × IsSplit l b n × IsSplit a n xs
split_regrouped _ _ _ _ _ none none = ([], none, none)
split_regrouped _ _ a b _ (to_left {x} {l} {r = m} {xs} outer) inner =
    let rest = split_regrouped l m a b xs outer inner in (x ∷ rest.0, to_left rest.1, to_right rest.2)
split_regrouped l _ _ b _ (to_right {x} {r = m} {xs} outer) (to_left {l = a} inner) =
    let rest = split_regrouped l m a b xs outer inner in (rest.0, rest.1, to_left rest.2)
split_regrouped l _ a _ _ (to_right {x} {r = m} {xs} outer) (to_right {r = b} inner) =
    let rest = split_regrouped l m a b xs outer inner in (x ∷ rest.0, to_right rest.1, to_right rest.2)
split_regrouped l _ _ _ _ (to_right {x} {r = m} {xs} outer) (to_both {l = a} {r = b} inner) =
    let rest = split_regrouped l m a b xs outer inner in (x ∷ rest.0, to_right rest.1, to_both rest.2)
split_regrouped _ _ _ b _ (to_both {x} {l} {r = m} {xs} outer) (to_left {l = a} inner) =
    let rest = split_regrouped l m a b xs outer inner in (x ∷ rest.0, to_left rest.1, to_both rest.2)
split_regrouped _ _ a _ _ (to_both {x} {l} {r = m} {xs} outer) (to_right {r = b} inner) =
    let rest = split_regrouped l m a b xs outer inner in (x ∷ rest.0, to_both rest.1, to_right rest.2)
split_regrouped _ _ _ _ _ (to_both {x} {l} {r = m} {xs} outer) (to_both {l = a} {r = b} inner) =
    let rest = split_regrouped l m a b xs outer inner in (x ∷ rest.0, to_both rest.1, to_both rest.2)

record IsHalf (first second p : NodeRow) : Type 0 where
  pub labels : IsSplit first.labels second.labels p.labels
  pub props : IsSplit first.props second.props p.props

pair_found : (c : NodeRow × NodeRow → Bool) (p : NodeRow) → list_any c (halves p) ≡ true →
    (first : NodeRow) × (second : NodeRow) × IsHalf first second p × (c (first, second) ≡ true)
pair_found c p h =
    let labels = split_from_any _ p.labels (sym (any_halves c p) ∙ h) in
    let props = split_from_any _ p.props labels.3 in
    (pair_of labels.0 props.0, pair_of labels.1 props.1, record { labels = labels.2; props = props.2 }, props.3)

pair_given : (c : NodeRow × NodeRow → Bool) (first second p : NodeRow) → IsHalf first second p → c (first, second) ≡ true → list_any c (halves p) ≡ true
pair_given c first second p half passes =
    any_halves c p
    ∙ any_from_split _ first.labels second.labels p.labels half.labels (any_from_split _ first.props second.props p.props half.props passes)

pair_regrouped : (l m a b p : NodeRow) → IsHalf l m p → IsHalf a b m → (n : NodeRow) × IsHalf l b n × IsHalf a n p
pair_regrouped l m a b p outer inner =
    let labels = split_regrouped l.labels m.labels a.labels b.labels p.labels outer.labels inner.labels in
    let props = split_regrouped l.props m.props a.props b.props p.props outer.props inner.props in
    (pair_of labels.0 props.0, record { labels = labels.1; props = props.1 }, record { labels = labels.2; props = props.2 })

record IsTripleHalf (first second t : PairTriple) : Type 0 where
  pub source : IsHalf first.source second.source t.source
  pub own : IsHalf first.own second.own t.own
  pub target : IsHalf first.target second.target t.target

abbrev triple : NodeRow → NodeRow → NodeRow → PairTriple
triple source own target = record { source = source; own = own; target = target }

triple_found : (c : PairTriple × PairTriple → Bool) (t : PairTriple) → list_any c (triple_halves t) ≡ true →
    (first : PairTriple) × (second : PairTriple) × IsTripleHalf first second t × (c (first, second) ≡ true)
triple_found c t h =
    let s = pair_found _ t.source (sym (any_triple_halves c t) ∙ h) in
    let m = pair_found _ t.own s.3 in
    let e = pair_found _ t.target m.3 in
    (triple s.0 m.0 e.0, triple s.1 m.1 e.1, record { source = s.2; own = m.2; target = e.2 }, e.3)

triple_given : (c : PairTriple × PairTriple → Bool) (first second t : PairTriple) → IsTripleHalf first second t → c (first, second) ≡ true →
    list_any c (triple_halves t) ≡ true
triple_given c first second t half passes =
    any_triple_halves c t
    ∙ pair_given _ first.source second.source t.source half.source
    (pair_given _ first.own second.own t.own half.own (pair_given _ first.target second.target t.target half.target passes))

triple_regrouped : (l m a b t : PairTriple) → IsTripleHalf l m t → IsTripleHalf a b m → (n : PairTriple) × IsTripleHalf l b n × IsTripleHalf a n t
triple_regrouped l m a b t outer inner =
    let source = pair_regrouped l.source m.source a.source b.source t.source outer.source inner.source in
    let own = pair_regrouped l.own m.own a.own b.own t.own outer.own inner.own in
    let target = pair_regrouped l.target m.target a.target b.target t.target outer.target inner.target in (
      triple source.0 own.0 target.0,
      record { source = source.1; own = own.1; target = target.1 },
      record { source = source.2; own = own.2; target = target.2 },
    )

-- ---- joins whose halves regroup

same_answer : (a b : Bool) → (a ≡ true → b ≡ true) → (b ≡ true → a ≡ true) → a ≡ b
same_answer true b there back = sym (there refl)
same_answer false true there back = back refl
same_answer false false there back = refl

module _ {P : Type 0} (joins : Joins P) (Half : P → P → P → Type 0)
    (found : (c : P × P → Bool) (p : P) → list_any c (joins.halves_of p) ≡ true → (first : P) × (second : P) × Half first second p × (c (first, second) ≡ true))
    (given : (c : P × P → Bool) (first second p : P) → Half first second p → c (first, second) ≡ true → list_any c (joins.halves_of p) ≡ true)
    (regrouped : (l m a b p : P) → Half l m p → Half a b m → (n : P) × Half l b n × Half a n p) where
  join_found : (f g : P → Bool) (p : P) → joined joins f g p ≡ true →
      (first : P) × (second : P) × Half first second p × (f first ≡ true) × (g second ≡ true)
  join_found f g p h =
      let couple = found (λ (s : P × P). g s.1 && f s.0) p (sym (joined_any joins f g p) ∙ h) in
      let passes = and_parts _ _ couple.3 in
      (couple.0, couple.1, couple.2, passes.1, passes.0)

  join_given : (f g : P → Bool) (first second p : P) → Half first second p → f first ≡ true → g second ≡ true → joined joins f g p ≡ true
  join_given f g first second p half passes too =
      joined_any joins f g p ∙ given (λ (s : P × P). g s.1 && f s.0) first second p half (and_from _ _ too passes)

  passes_exchanged : (f g h : P → Bool) (p : P) → joined joins f (joined joins g h) p ≡ true → joined joins g (joined joins f h) p ≡ true
  passes_exchanged f g h p e =
      let (first, rest, outer, by_f, others) = join_found f (joined joins g h) p e in
      let (second, third, inner, by_g, by_h) = join_found g h rest others in
      let (new, one, other) = regrouped first rest second third p outer inner in
      join_given g (joined joins f h) second new p other by_g (join_given f h first third new one by_f by_h)

  abbrev Alike : List (P → Bool) → List (P → Bool) → Type 0
  Alike tests others = (p : P) → joined_all joins tests p ≡ joined_all joins others p

  behind : (test : P → Bool) (tests others : List (P → Bool)) → Alike tests others → Alike (test ∷ tests) (test ∷ others)
  behind test tests others alike p = joined_same joins test (joined_all joins tests) test (joined_all joins others) (λ q. refl) alike p

  first_two : (f g : P → Bool) (tests : List (P → Bool)) → Alike (f ∷ g ∷ tests) (g ∷ f ∷ tests)
  first_two f g tests p =
      same_answer _ _ (passes_exchanged f g (joined_all joins tests) p) (passes_exchanged g f (joined_all joins tests) p)

  -- the first test changes places with a later one
  first_and_later : (f : P → Bool) (tests : List (P → Bool)) (k : ℕ) (d : P → Bool) → k < length tests →
      Alike (f ∷ tests) (get_or tests k d ∷ set tests k f)
  first_and_later f [] k d below = absurd (omega arith)
  first_and_later f (g ∷ tests) zero d below = first_two f g tests
  first_and_later f (g ∷ tests) (suc k) d below =
      let later = get_or tests k d in
      let moved = first_and_later f tests k d (omega arith) in
      λ p. first_two f g tests p ∙ behind g (f ∷ tests) (later ∷ set tests k f) moved p ∙ first_two g later (set tests k f) p

  -- any two tests change places
  two_tests : (tests : List (P → Bool)) (i j : ℕ) (d : P → Bool) → i < length tests → j < length tests →
      Alike tests (set (set tests i (get_or tests j d)) j (get_or tests i d))
  two_tests [] i j d first second = absurd (omega arith)
  two_tests (f ∷ tests) zero zero d first second = λ p. refl
  two_tests (f ∷ tests) zero (suc j) d first second = first_and_later f tests j d (omega arith)
  two_tests (f ∷ tests) (suc i) zero d first second = first_and_later f tests i d (omega arith)
  two_tests (f ∷ tests) (suc i) (suc j) d first second = behind f tests _ (two_tests tests i j d (omega arith) (omega arith))

  swapped : (tests : List (P → Bool)) (i j : ℕ) → i < length tests → j < length tests → Alike tests (swap tests i j)
  swapped tests i j first second p =
      two_tests tests i j (λ q. true) first second p ∙ ap (λ others. joined_all joins others p) (swap_is tests i j (λ q. true) first second)

  reordered : (tests others : List (P → Bool)) → IsPermutation tests others → Alike tests others
  reordered tests others permuted =
      IsPermutation-keeps tests (Alike tests) (λ p. refl) (λ between i j first second alike p. alike p ∙ swapped between i j first second p) others permuted

pub pairs_in_any_order : (tests others : List (NodeRow → Bool)) → IsPermutation tests others → (p : NodeRow) →
    joined_all of_pairs tests p ≡ joined_all of_pairs others p
pairs_in_any_order = reordered of_pairs IsHalf pair_found pair_given pair_regrouped

pub triples_in_any_order : (tests others : List (PairTriple → Bool)) → IsPermutation tests others → (t : PairTriple) →
    joined_all of_triples tests t ≡ joined_all of_triples others t
triples_in_any_order = reordered of_triples IsTripleHalf triple_found triple_given triple_regrouped
