-- What the passes over rows find: nothing that they see is less, and what they find is seen.
use Rattle.std.proofs.Common.{◌≡◌, ℕ, Bool, true, false, cond, ⊎_elim, List, [], ◌∷◌, map, Option, Some, None, refl, sym, ◌∙◌, ap, subst, true≢false, arith, Less, Greater, is_lt}
use Rattle.std.specs.Prelude.{Contains, not}
use Rattle.std.specs.Ordering.{ordering_then, ordering_reverse}
use Rattle.std.specs.Option.{option_map_or}
use Rattle.std.specs.Cmp.{tied_itself}
use Rattle.std.proofs.lemmas.Bool.{and_parts}
use Rattle.pgs_base.specs.declared.element.Elem.{Elem}
use Rattle.pgs_base.specs.declared.part.Part.{Part}
use Rattle.pgs_base.specs.Order.{ascends, elem_cmp, tuple_cmp}
use Rattle.pgs_base.specs.OrderLaws.{elem_cmp_total}
use Rattle.pgs_syntax.proofs.Members.{contains_none, contains_cases, contains_later, all_above, is_less, never_itself, never_both, is_among, among}
use Rattle.pgs_violation.specs.declared.violation.Violation.{Violation}
use Rattle.pgs_violation.specs.declared.violation.Violation.TheVariants.{Exclusive}
use Rattle.pgs_violation.specs.Standing.{violation_cmp}
use Rattle.pgs_violation.specs.StandingLaws.{violation_cmp_total, exact_violation}
use Rattle.pgs_keyindex.specs.declared.change.KeyChange.{KeyChange}
use Rattle.pgs_keyindex.specs.Rows.{has_tuple}
use Rattle.pgs_check.specs.Clashes.{lesser, clash, clash_by, with_holder, with_holders, tuples_of, with_owners, entered, with_earlier}
use Rattle.pgs_check.proofs.Shared.{not_less, triples}

abbrev Tuple : Type 0
Tuple = List Part

-- ---- the order of violations

abbrev lt : Violation → Violation → Bool
lt v w = is_lt (violation_cmp v w)

not_itself : (v : Violation) → lt v v ≡ false
not_itself v = ap is_lt (tied_itself violation_cmp_total v)

-- what isn't less than a second, which isn't less than a third, isn't less than that
not_less_trans : (v w u : Violation) → lt v w ≡ false → lt w u ≡ false → lt v u ≡ false
not_less_trans v w u one other = by (lt v u) refl
  where
    by : (b : Bool) → lt v u ≡ b → lt v u ≡ false
    by false is = is
    by true is =
        absurd (⊎_elim
        (λ (same : v ≡ w). true≢false (sym is ∙ ap (λ x. lt x u) same ∙ other))
        (λ less. ⊎_elim
        (λ (same : w ≡ u). true≢false (sym is ∙ ap (lt v) (sym same) ∙ one))
        (λ further. never_both violation_cmp_total v u (is_less (violation_cmp v u) is)
        (violation_cmp_total.trans u w v further less))
        (not_less violation_cmp_total exact_violation u w other))
        (not_less violation_cmp_total exact_violation w v one))

-- something was found, and a violation isn't less than it
abbrev pub covers : Option Violation → Violation → Bool
covers found v = option_map_or (λ w. not (lt v w)) found false

not_true : (b : Bool) → not b ≡ true → b ≡ false
not_true true h = absurd (true≢false (sym h))
not_true false h = refl

not_false : (b : Bool) → b ≡ false → not b ≡ true
not_false b h = ap not h

pub covers_found : (found : Violation) (v : Violation) → covers (Some found) v ≡ true → lt v found ≡ false
covers_found found v h = not_true (lt v found) h

covers_more : (found : Option Violation) (w v : Violation) → covers found w ≡ true → lt v w ≡ false → covers found v ≡ true
covers_more None w v h less = absurd (true≢false (sym h))
covers_more (Some found) w v h less = not_false (lt v found) (not_less_trans v w found less (not_true (lt w found) h))

covers_lesser : (found further : Option Violation) (v : Violation) → covers found v ≡ true → covers (lesser found further) v ≡ true
covers_lesser found None v h = h
covers_lesser None (Some further) v h = absurd (true≢false (sym h))
covers_lesser (Some found) (Some further) v h = by (lt further found) refl
  where
    by : (b : Bool) → lt further found ≡ b → covers (cond b (Some further) (Some found)) v ≡ true
    by false is = h
    by true is =
        not_false (lt v further) (not_less_trans v found further (not_true (lt v found) h) (turned is))
      where
        turned : lt further found ≡ true → lt found further ≡ false
        turned is = at (lt found further) refl
          where
            at : (b : Bool) → lt found further ≡ b → lt found further ≡ false
            at false e = e
            at true e = absurd (never_both violation_cmp_total further found (is_less _ is) (is_less _ e))

covers_further : (found : Option Violation) (further : Violation) → covers (lesser found (Some further)) further ≡ true
covers_further None further = not_false (lt further further) (not_itself further)
covers_further (Some found) further = by (lt further found) refl
  where
    by : (b : Bool) → lt further found ≡ b → covers (cond b (Some further) (Some found)) further ≡ true
    by true is = not_false (lt further further) (not_itself further)
    by false is = not_false (lt further found) is

-- ---- one element and its tuples

module _ (n : ℕ) (holder : Tuple → Option Elem) (elem : Elem) where
  holder_keeps : (found : Option Violation) (tuple : Tuple) (o : Option Elem) (v : Violation) → covers found v ≡ true → covers (with_holder n elem found tuple o) v ≡ true
  holder_keeps found tuple None v h = h
  holder_keeps found tuple (Some other) v h = covers_lesser found (clash n tuple elem other) v h

  pub holders_keep : (found : Option Violation) (tuples : List Tuple) (v : Violation) → covers found v ≡ true → covers (with_holders n holder elem found tuples) v ≡ true
  holders_keep found [] v h = h
  holders_keep found (tuple ∷ tuples) v h = holders_keep (with_holder n elem found tuple (holder tuple)) tuples v (holder_keeps found tuple (holder tuple) v h)

  pub holders_cover : (found : Option Violation) (tuples : List Tuple) (tuple : Tuple) (other : Elem) (v : Violation) → Contains tuples tuple →
      holder tuple ≡ Some other → clash n tuple elem other ≡ Some v → covers (with_holders n holder elem found tuples) v ≡ true
  holders_cover found [] tuple other v there held makes = absurd (contains_none tuple there)
  holders_cover found (first ∷ tuples) tuple other v there held makes =
      ⊎_elim
      (λ (same : first ≡ tuple).
      holders_keep (with_holder n elem found first (holder first)) tuples v
      (subst (λ t. covers (with_holder n elem found t (holder t)) v ≡ true) (sym same)
      (subst (λ o. covers (with_holder n elem found tuple o) v ≡ true) (sym held)
      (subst (λ o. covers (lesser found o) v ≡ true) (sym makes) (covers_further found v)))))
      (λ later. holders_cover (with_holder n elem found first (holder first)) tuples tuple other v later held makes)
      (contains_cases first tuples tuple there)

  -- what is found has a property that what was found and each violation with a holder have
  module _ (P : Violation → Type 0) where
    abbrev pub All : Option Violation → Type 0
    All found = (v : Violation) → found ≡ Some v → P v

    all_lesser : (found further : Option Violation) → All found → All further → All (lesser found further)
    all_lesser found None one other = one
    all_lesser None (Some further) one other = other
    all_lesser (Some found) (Some further) one other = by (lt further found)
      where
        by : (b : Bool) → All (cond b (Some further) (Some found))
        by true = other
        by false = one

    all_holder : (found : Option Violation) (tuple : Tuple) (o : Option Elem) → All found → ((other : Elem) → o ≡ Some other → All (clash n tuple elem other)) →
        All (with_holder n elem found tuple o)
    all_holder found tuple None one each = one
    all_holder found tuple (Some other) one each = all_lesser found (clash n tuple elem other) one (each other refl)

    pub all_holders : (found : Option Violation) (tuples : List Tuple) → All found →
        ((tuple : Tuple) (other : Elem) → Contains tuples tuple → holder tuple ≡ Some other → All (clash n tuple elem other)) → All (with_holders n holder elem found tuples)
    all_holders found [] one each = one
    all_holders found (tuple ∷ tuples) one each =
        all_holders (with_holder n elem found tuple (holder tuple)) tuples
        (all_holder found tuple (holder tuple) one (λ other held. each tuple other (0, omega arith, refl) held))
        (λ t other there held. each t other (contains_later tuple tuples t there) held)

-- ---- rows with the owners of their tuples

module _ (n : ℕ) (owner : Tuple → Option Elem) where
  owners_keep : (found : Option Violation) (rows : List KeyChange) (v : Violation) → covers found v ≡ true → covers (with_owners n owner found rows) v ≡ true
  owners_keep found [] v h = h
  owners_keep found (row ∷ rows) v h =
      owners_keep (with_holders n owner row.elem found (tuples_of row)) rows v (holders_keep n owner row.elem found (tuples_of row) v h)

  pub owners_cover : (found : Option Violation) (rows : List KeyChange) (row : KeyChange) (tuple : Tuple) (other : Elem) (v : Violation) → Contains rows row →
      Contains (tuples_of row) tuple → owner tuple ≡ Some other → clash n tuple row.elem other ≡ Some v → covers (with_owners n owner found rows) v ≡ true
  owners_cover found [] row tuple other v there has owns makes = absurd (contains_none row there)
  owners_cover found (first ∷ rows) row tuple other v there has owns makes =
      ⊎_elim
      (λ (same : first ≡ row).
      owners_keep (with_holders n owner first.elem found (tuples_of first)) rows v
      (subst (λ (r : KeyChange). covers (with_holders n owner r.elem found (tuples_of r)) v ≡ true) (sym same)
      (holders_cover n owner row.elem found (tuples_of row) tuple other v has owns makes)))
      (λ later. owners_cover (with_holders n owner first.elem found (tuples_of first)) rows row tuple other v later has owns makes)
      (contains_cases first rows row there)

  pub owners_all : (P : Violation → Type 0) (found : Option Violation) (rows : List KeyChange) → ((v : Violation) → found ≡ Some v → P v) →
      ((row : KeyChange) (tuple : Tuple) (other : Elem) (v : Violation) → Contains rows row → Contains (tuples_of row) tuple → owner tuple ≡ Some other →
      clash n tuple row.elem other ≡ Some v → P v) → (v : Violation) → with_owners n owner found rows ≡ Some v → P v
  owners_all P found [] one each = one
  owners_all P found (row ∷ rows) one each =
      owners_all P (with_holders n owner row.elem found (tuples_of row)) rows
      (all_holders n owner row.elem P found (tuples_of row) one (λ tuple other has owns v makes. each row tuple other v (0, omega arith, refl) has owns makes))
      (λ r tuple other v there has owns makes. each r tuple other v (contains_later row rows r there) has owns makes)

-- ---- rows with the rows before

abbrev pub elems_of : List KeyChange → List Elem
elems_of rows = map (λ (row : KeyChange). row.elem) rows

elem_there : (rows : List KeyChange) (row : KeyChange) → Contains rows row → Contains (elems_of rows) row.elem
elem_there [] row there = absurd (contains_none row there)
elem_there (first ∷ rows) row there =
    ⊎_elim (λ (same : first ≡ row). (0, omega arith, ap (λ (r : KeyChange). r.elem) same))
    (λ later. contains_later first.elem (elems_of rows) row.elem (elem_there rows row later)) (contains_cases first rows row there)

-- the rows after one have greater elements
after_row : (first : KeyChange) (rows : List KeyChange) (row : KeyChange) → ascends elem_cmp (elems_of (first ∷ rows)) ≡ true → Contains rows row →
    elem_cmp first.elem row.elem ≡ Less
after_row first rows row order there =
    all_above elem_cmp_total first.elem (elems_of rows) row.elem (and_parts _ _ order).0 (elem_there rows row there)

turned : (x y : Elem) → elem_cmp x y ≡ Less → elem_cmp y x ≡ Greater
turned x y less = elem_cmp_total.antisymm y x ∙ ap ordering_reverse less

pub clash_later : (n : ℕ) (tuple : Tuple) (x y : Elem) → elem_cmp x y ≡ Less → clash n tuple y x ≡ Some (Exclusive n x y tuple)
clash_later n tuple x y less = ap (λ o. clash_by o n tuple y x) (turned x y less)

pub clash_sooner : (n : ℕ) (tuple : Tuple) (x y : Elem) → elem_cmp x y ≡ Less → clash n tuple x y ≡ Some (Exclusive n x y tuple)
clash_sooner n tuple x y less = ap (λ o. clash_by o n tuple x y) less

module _ (n : ℕ) where
  pub earlier_keeps : (holder : Tuple → Option Elem) (found : Option Violation) (rows : List KeyChange) (v : Violation) → covers found v ≡ true →
      covers (with_earlier n holder found rows) v ≡ true
  earlier_keeps holder found [] v h = h
  earlier_keeps holder found (row ∷ rows) v h =
      earlier_keeps (entered holder row) (with_holders n holder row.elem found (tuples_of row)) rows v (holders_keep n holder row.elem found (tuples_of row) v h)

  not_before : (x y z : Elem) (tuple : Tuple) → elem_cmp y z ≡ Less → lt (Exclusive n x z tuple) (Exclusive n x y tuple) ≡ false
  not_before x y z tuple less =
      ap is_lt (triples n x z tuple x y tuple)
      ∙ ap (λ o. is_lt (ordering_then o (ordering_then (elem_cmp z y) (tuple_cmp tuple tuple)))) (tied_itself elem_cmp_total x)
      ∙ ap (λ o. is_lt (ordering_then o (tuple_cmp tuple tuple))) (turned y z less)

  -- a holder of a tuple makes a violation with the next row that has it, and the ones with later rows aren't less
  after_holder : (holder : Tuple → Option Elem) (found : Option Violation) (rows : List KeyChange) → ascends elem_cmp (elems_of rows) ≡ true →
      (x : Elem) (tuple : Tuple) → holder tuple ≡ Some x → ((r : KeyChange) → Contains rows r → elem_cmp x r.elem ≡ Less) →
      (row : KeyChange) → Contains rows row → Contains (tuples_of row) tuple → covers (with_earlier n holder found rows) (Exclusive n x row.elem tuple) ≡ true
  after_holder holder found [] order x tuple holds below row there has = absurd (contains_none row there)
  after_holder holder found (first ∷ rows) order x tuple holds below row there has =
      by (has_tuple tuple (tuples_of first)) refl
      (λ held later. after_holder (entered holder first) (with_holders n holder first.elem found (tuples_of first)) rows (and_parts _ _ order).1 x tuple held
      (λ r in_rows. below r (contains_later first rows r in_rows)) row later has)
    where
      by : (b : Bool) → has_tuple tuple (tuples_of first) ≡ b →
          (entered holder first tuple ≡ Some x → Contains rows row → covers (with_earlier n (entered holder first) (with_holders n holder first.elem found (tuples_of first)) rows) (Exclusive n x row.elem tuple) ≡ true) →
          covers (with_earlier n (entered holder first) (with_holders n holder first.elem found (tuples_of first)) rows) (Exclusive n x row.elem tuple) ≡ true
      by true here rest =
          let one = earlier_keeps (entered holder first) (with_holders n holder first.elem found (tuples_of first)) rows (Exclusive n x first.elem tuple)
          (holders_cover n holder first.elem found (tuples_of first) tuple x (Exclusive n x first.elem tuple) (among tuple (tuples_of first) here) holds
          (clash_later n tuple x first.elem (below first (0, omega arith, refl)))) in
          ⊎_elim
          (λ (same : first ≡ row). subst (λ (r : KeyChange). covers (with_earlier n (entered holder first) (with_holders n holder first.elem found (tuples_of first)) rows) (Exclusive n x r.elem tuple) ≡ true) same one)
          (λ later. covers_more (with_earlier n (entered holder first) (with_holders n holder first.elem found (tuples_of first)) rows) (Exclusive n x first.elem tuple) (Exclusive n x row.elem tuple) one
          (not_before x first.elem row.elem tuple (after_row first rows row order later)))
          (contains_cases first rows row there)
      by false here rest =
          ⊎_elim
          (λ (same : first ≡ row). absurd (true≢false (sym (is_among tuple (tuples_of row) has) ∙ ap (λ (r : KeyChange). has_tuple tuple (tuples_of r)) (sym same) ∙ here)))
          (λ later. rest (ap (λ b. cond b (Some first.elem) (holder tuple)) here ∙ holds) later)
          (contains_cases first rows row there)

  -- two rows that have one tuple
  pub earlier_covers : (holder : Tuple → Option Elem) (found : Option Violation) (rows : List KeyChange) → ascends elem_cmp (elems_of rows) ≡ true →
      (one other : KeyChange) → Contains rows one → Contains rows other → elem_cmp one.elem other.elem ≡ Less → (tuple : Tuple) →
      Contains (tuples_of one) tuple → Contains (tuples_of other) tuple → covers (with_earlier n holder found rows) (Exclusive n one.elem other.elem tuple) ≡ true
  earlier_covers holder found [] order one other there second less tuple has too = absurd (contains_none one there)
  earlier_covers holder found (first ∷ rows) order one other there second less tuple has too =
      ⊎_elim
      (λ (same : first ≡ one). ⊎_elim
      (λ (alike : first ≡ other). absurd (never_itself elem_cmp_total one.elem
      (subst (λ (r : KeyChange). elem_cmp one.elem r.elem ≡ Less) (sym alike ∙ same) less)))
      (λ later. after_holder (entered holder first) (with_holders n holder first.elem found (tuples_of first)) rows (and_parts _ _ order).1 one.elem tuple
      (ap (λ b. cond b (Some first.elem) (holder tuple))
      (ap (λ (r : KeyChange). has_tuple tuple (tuples_of r)) same ∙ is_among tuple (tuples_of one) has) ∙ ap (λ (r : KeyChange). Some r.elem) same)
      (λ r in_rows. subst (λ (s : KeyChange). elem_cmp s.elem r.elem ≡ Less) same (after_row first rows r order in_rows)) other later too)
      (contains_cases first rows other second))
      (λ later. ⊎_elim
      (λ (alike : first ≡ other). absurd (never_both elem_cmp_total one.elem other.elem less
      (subst (λ (s : KeyChange). elem_cmp s.elem one.elem ≡ Less) alike (after_row first rows one order later))))
      (λ both. earlier_covers (entered holder first) (with_holders n holder first.elem found (tuples_of first)) rows (and_parts _ _ order).1 one other later both less tuple has too)
      (contains_cases first rows other second))
      (contains_cases first rows one there)

  pub earlier_all : (P : Violation → Type 0) (Holds : Elem → Tuple → Type 0) (holder : Tuple → Option Elem) (found : Option Violation) (rows : List KeyChange) →
      ((v : Violation) → found ≡ Some v → P v) → ((tuple : Tuple) (other : Elem) → holder tuple ≡ Some other → Holds other tuple) →
      ((row : KeyChange) (tuple : Tuple) → Contains rows row → Contains (tuples_of row) tuple → Holds row.elem tuple) →
      ((x y : Elem) (tuple : Tuple) (v : Violation) → Holds x tuple → Holds y tuple → clash n tuple x y ≡ Some v → P v) →
      (v : Violation) → with_earlier n holder found rows ≡ Some v → P v
  earlier_all P Holds holder found [] one held has makes = one
  earlier_all P Holds holder found (row ∷ rows) one held has makes =
      earlier_all P Holds (entered holder row) (with_holders n holder row.elem found (tuples_of row)) rows
      (all_holders n holder row.elem P found (tuples_of row) one
      (λ tuple other there holds v is. makes row.elem other tuple v (has row tuple (0, omega arith, refl) there) (held tuple other holds) is))
      (λ tuple other. entered_holds tuple other (has_tuple tuple (tuples_of row)) refl)
      (λ r tuple there in_row. has r tuple (contains_later row rows r there) in_row) makes
    where
      entered_holds : (tuple : Tuple) (other : Elem) (b : Bool) → has_tuple tuple (tuples_of row) ≡ b → cond b (Some row.elem) (holder tuple) ≡ Some other → Holds other tuple
      entered_holds tuple other true is e =
          let same : row.elem ≡ other = cc in subst (λ x. Holds x tuple) same (has row tuple (0, omega arith, refl) (among tuple (tuples_of row) is))
      entered_holds tuple other false is e = held tuple other e
