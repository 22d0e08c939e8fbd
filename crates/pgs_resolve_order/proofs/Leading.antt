-- Links that lead back: in more steps, by ranks, and by names.
use Rattle.std.proofs.Common.{◌≡◌, ℕ, zero, suc, ◌+◌, ◌<◌, ◌≤◌, ◌==◌, Bool, true, false, ◌||◌, ◌&&◌, List, [], ◌∷◌, length, get_or, leb, Option, Some, None, is_some, refl, sym, ◌∙◌, ap, arith}
use Rattle.std.specs.List.{list_all, list_any, position, filter_map, cons_option}
use Rattle.std.proofs.lemmas.Bool.Decides.{nat_tests}
use Rattle.std.proofs.lemmas.List.{length-map, get_or-map}
use Rattle.std.proofs.lemmas.List.Quantifiers.{position-Some}
use Rattle.std.proofs.lemmas.Option.{slice_get-get_or}
use Rattle.pgs_base.specs.Pair.{same_name, has_name}
use Rattle.pgs_resolve_declared.specs.Order.{number_in}
use Rattle.pgs_resolve_declared.specs.Refused.{leads}
use Rattle.pgs_resolve_order.specs.Links.{AreLinks, row_at, leads_in, leads_back, IsFirst, rank_of, never_falls, stays}
use Rattle.pgs_resolve_declared.proofs.Same.{one_name, itself, some_place}

-- ---- tests of lists

module _ {X : Type 0} where
  -- one that passes the first test, of those that all pass the second and none passes the third
  pub any_of_these : (p q r : X → Bool) (xs : List X) → list_any p xs ≡ true → list_all q xs ≡ true → list_any r xs ≡ false →
      (x : X) × (p x ≡ true) × (q x ≡ true) × (r x ≡ false)
  any_of_these p q r [] a b c = absurd (cc)
  any_of_these p q r (x ∷ xs) a b c =
      by (p x) (q x) (r x) refl refl refl (any_of_these p q r xs) a b c
    where
      by : (d e f : Bool) → p x ≡ d → q x ≡ e → r x ≡ f →
          (list_any p xs ≡ true → list_all q xs ≡ true → list_any r xs ≡ false → (x : X) × (p x ≡ true) × (q x ≡ true) × (r x ≡ false)) →
          (d || list_any p xs) ≡ true → (e && list_all q xs) ≡ true → (f || list_any r xs) ≡ false → (x : X) × (p x ≡ true) × (q x ≡ true) × (r x ≡ false)
      by d e true g h k rest a b c = absurd (cc)
      by d false false g h k rest a b c = absurd (cc)
      by true true false g h k rest a b c = (x, g, h, k)
      by false true false g h k rest a b c = rest a b c

  pub none_at_all : (xs : List X) → list_any (λ x. false) xs ≡ false
  none_at_all [] = refl
  none_at_all (x ∷ xs) = none_at_all xs

  pub any_more : (p q : X → Bool) → ((x : X) → p x ≡ true → q x ≡ true) → (xs : List X) → list_any p xs ≡ true → list_any q xs ≡ true
  any_more p q h [] e = e
  any_more p q h (x ∷ xs) e = by (p x) refl (any_more p q h xs) e
    where
      by : (b : Bool) → p x ≡ b → (list_any p xs ≡ true → list_any q xs ≡ true) → (b || list_any p xs) ≡ true → (q x || list_any q xs) ≡ true
      by true f rest e = ap (λ c. c || list_any q xs) (h x f)
      by false f rest e = last (q x) (rest e)
        where
          last : (c : Bool) → list_any q xs ≡ true → (c || list_any q xs) ≡ true
          last true g = refl
          last false g = g

or_true : (a b : Bool) → a ≡ true → (a || b) ≡ true
or_true a b e = ap (λ c. c || b) e

-- ---- more steps

pub one_step_more : (rows : List (List ℕ)) (steps from to : ℕ) → leads_in rows steps from to ≡ true → leads_in rows (suc steps) from to ≡ true
one_step_more rows zero from to e = absurd (cc)
one_step_more rows (suc steps) from to e =
    any_more (λ n. n == to || leads_in rows steps n to) (λ n. n == to || leads_in rows (suc steps) n to)
    (λ n. by n (n == to) (one_step_more rows steps n to)) (row_at rows from) e
  where
    by : (n : ℕ) (b : Bool) → (leads_in rows steps n to ≡ true → leads_in rows (suc steps) n to ≡ true) →
        (b || leads_in rows steps n to) ≡ true → (b || leads_in rows (suc steps) n to) ≡ true
    by n true h e = refl
    by n false h e = h e

pub in_more_steps : (rows : List (List ℕ)) (more steps all from to : ℕ) → all ≡ more + steps → leads_in rows steps from to ≡ true → leads_in rows all from to ≡ true
in_more_steps rows zero steps all from to e h = let f : all ≡ steps = omega (arith, e) in ap (λ n. leads_in rows n from to) f ∙ h
in_more_steps rows (suc more) steps all from to e h =
    let f : all ≡ suc (more + steps) = omega (arith, e) in
    ap (λ n. leads_in rows n from to) f ∙ one_step_more rows (more + steps) from to (in_more_steps rows more steps (more + steps) from to refl h)

-- a step before others
pub step_before : (rows : List (List ℕ)) (steps next from at to : ℕ) → next ≡ suc steps → list_any (λ other. other == at) (row_at rows from) ≡ true →
    (at == to || leads_in rows steps at to) ≡ true → leads_in rows next from to ≡ true
step_before rows steps next from at to e link h =
    ap (λ n. leads_in rows n from to) e
    ∙ any_more (λ other. other == at) (λ n. n == to || leads_in rows steps n to)
    (λ n same. let f : n ≡ at = grind (arith, nat_tests) in ap (λ m. m == to || leads_in rows steps m to) f ∙ h) (row_at rows from) link

-- ---- ranks

module _ (rows : List (List ℕ)) (ranks : List ℕ) (rise : (number : ℕ) → never_falls rows ranks number ≡ true) where
  pub rank_bound : (steps from to : ℕ) → leads_in rows steps from to ≡ true → rank_of ranks from ≤ rank_of ranks to
  rank_bound zero from to e = absurd (cc)
  rank_bound (suc steps) from to e =
      let h = any_of_these (λ n. n == to || leads_in rows steps n to) (λ n. leb (rank_of ranks from) (rank_of ranks n)) (λ n. false) (row_at rows from)
      e (rise from) (none_at_all (row_at rows from)) in
      by h.0 (h.0 == to) refl h.1 h.2 (rank_bound steps h.0 to)
    where
      by : (n : ℕ) (b : Bool) → (n == to) ≡ b → (b || leads_in rows steps n to) ≡ true → leb (rank_of ranks from) (rank_of ranks n) ≡ true →
          (leads_in rows steps n to ≡ true → rank_of ranks n ≤ rank_of ranks to) → rank_of ranks from ≤ rank_of ranks to
      by n true same f l rest = let e : n ≡ to = grind (arith, nat_tests) in let r = ap (rank_of ranks) e in grind (arith, nat_tests)
      by n false same f l rest = let r = rest f in grind (arith, nat_tests)

  pub rank_less : (steps from to : ℕ) → stays rows ranks from ≡ false → leads_in rows steps from to ≡ true → rank_of ranks from < rank_of ranks to
  rank_less zero from to apart e = absurd (cc)
  rank_less (suc steps) from to apart e =
      let h = any_of_these (λ n. n == to || leads_in rows steps n to) (λ n. leb (rank_of ranks from) (rank_of ranks n)) (λ n. rank_of ranks n == rank_of ranks from) (row_at rows from)
      e (rise from) apart in
      by h.0 (h.0 == to) refl h.1 h.2 h.3 (rank_bound steps h.0 to)
    where
      by : (n : ℕ) (b : Bool) → (n == to) ≡ b → (b || leads_in rows steps n to) ≡ true → leb (rank_of ranks from) (rank_of ranks n) ≡ true →
          (rank_of ranks n == rank_of ranks from) ≡ false →
          (leads_in rows steps n to ≡ true → rank_of ranks n ≤ rank_of ranks to) → rank_of ranks from < rank_of ranks to
      by n true same f l k rest = let e : n ≡ to = grind (arith, nat_tests) in let r = ap (rank_of ranks) e in grind (arith, nat_tests)
      by n false same f l k rest = let r = rest f in grind (arith, nat_tests)

  -- what leads back to itself has a link along which the rank stays
  pub back_stays : (number : ℕ) → leads_back rows number ≡ true → stays rows ranks number ≡ true
  back_stays number e = by (stays rows ranks number) refl
    where
      by : (b : Bool) → stays rows ranks number ≡ b → stays rows ranks number ≡ true
      by true f = f
      by false f = let l = rank_less (length rows) number number f e in absurd (omega (arith, l))

-- ---- by names

module _ (next : List ℕ → List (List ℕ)) (names rows : List (List ℕ)) (links : AreLinks next names rows) where
  length_rows : length rows ≡ length names
  length_rows = ap length links.rows_are ∙ length-map names (λ name. filter_map (number_in names) (next name))

  -- a name that is among names, at its first place
  pub at_place : (name : List ℕ) (number : ℕ) → number_in names name ≡ Some number → (number < length names) × (name ≡ get_or names number [])
  at_place name number e =
      let h = position-Some (same_name name) names number [] e in
      (h.0, one_name name (get_or names number []) h.1)

  pub is_first : (name : List ℕ) (number : ℕ) → number_in names name ≡ Some number → IsFirst names number
  is_first name number e = ap (λ n. position (same_name n) names) (sym (at_place name number e).1) ∙ e

  nowhere : (name : List ℕ) → number_in names name ≡ None → has_name name names ≡ false
  nowhere name e = sym (some_place (same_name name) names) ∙ ap is_some e

  nothing_leads : (steps : ℕ) (name to : List ℕ) → number_in names name ≡ None → leads next steps name to ≡ false
  nothing_leads zero name to e = refl
  nothing_leads (suc steps) name to e = ap (list_any (λ n. same_name to n || leads next steps n to)) (links.closed name (nowhere name e))

  module _ (target : ℕ) (first : IsFirst names target) where
    to : List ℕ
    to = get_or names target []

    -- whether a number is the target, and whether its name is
    one_target : (name : List ℕ) (number : ℕ) → number_in names name ≡ Some number → (number == target) ≡ same_name (get_or names target []) name
    one_target name number e = by (number == target) (same_name (get_or names target []) name) refl refl
      where
        by : (b c : Bool) → (number == target) ≡ b → same_name (get_or names target []) name ≡ c → b ≡ c
        by true true f g = refl
        by false false f g = refl
        by true false f g =
            let n : number ≡ target = grind (arith, nat_tests) in
            let same : get_or names target [] ≡ name = ap (λ m. get_or names m []) (sym n) ∙ sym (at_place name number e).1 in
            let yes : same_name (get_or names target []) name ≡ true = ap (same_name (get_or names target [])) (sym same) ∙ itself (get_or names target []) in
            cc
        by false true f g =
            let same : get_or names target [] ≡ name = one_name (get_or names target []) name g in
            let two : Some number ≡ Some target = sym e ∙ ap (number_in names) (sym same) ∙ first in
            let n : number ≡ target = cc in
            grind (arith, nat_tests)

    not_target : (name : List ℕ) → number_in names name ≡ None → same_name (get_or names target []) name ≡ false
    not_target name e = by (same_name (get_or names target []) name) refl
      where
        by : (c : Bool) → same_name (get_or names target []) name ≡ c → c ≡ false
        by false g = refl
        by true g =
            let same : get_or names target [] ≡ name = one_name (get_or names target []) name g in
            let two : None ≡ Some target = sym e ∙ ap (number_in names) (sym same) ∙ first in
            cc

    -- a row of numbers leads where the names do
    same_row : (steps : ℕ) → ((number : ℕ) → number < length names → leads_in rows steps number target ≡ leads next steps (get_or names number []) (get_or names target [])) →
        (words : List (List ℕ)) →
        list_any (λ n. n == target || leads_in rows steps n target) (filter_map (number_in names) words)
        ≡ list_any (λ n. same_name (get_or names target []) n || leads next steps n (get_or names target [])) words
    same_row steps h [] = refl
    same_row steps h (word ∷ words) = by (number_in names word) refl (same_row steps h words)
      where
        by : (o : Option ℕ) → number_in names word ≡ o →
            list_any (λ n. n == target || leads_in rows steps n target) (filter_map (number_in names) words)
            ≡ list_any (λ n. same_name (get_or names target []) n || leads next steps n (get_or names target [])) words →
            list_any (λ n. n == target || leads_in rows steps n target) (cons_option o (filter_map (number_in names) words))
            ≡ list_any (λ n. same_name (get_or names target []) n || leads next steps n (get_or names target [])) (word ∷ words)
        by None e rest =
            rest ∙ ap (λ b. b || list_any (λ n. same_name (get_or names target []) n || leads next steps n (get_or names target [])) words)
            (sym (ap (λ b. b || leads next steps word (get_or names target [])) (not_target word e) ∙ nothing_leads steps word (get_or names target []) e))
        by (Some number) e rest =
            let at = at_place word number e in
            ap (λ b. (b || leads_in rows steps number target) || list_any (λ n. n == target || leads_in rows steps n target) (filter_map (number_in names) words)) (one_target word number e)
            ∙ ap (λ b. (same_name (get_or names target []) word || b) || list_any (λ n. n == target || leads_in rows steps n target) (filter_map (number_in names) words))
            (h number at.0 ∙ ap (λ n. leads next steps n (get_or names target [])) (sym at.1))
            ∙ ap (λ b. (same_name (get_or names target []) word || leads next steps word (get_or names target [])) || b) rest

    pub same_leads : (steps number : ℕ) → number < length names → leads_in rows steps number target ≡ leads next steps (get_or names number []) (get_or names target [])
    same_leads zero number within = refl
    same_leads (suc steps) number within =
        ap (list_any (λ n. n == target || leads_in rows steps n target))
        (ap (λ all. get_or all number []) links.rows_are ∙ get_or-map (λ name. filter_map (number_in names) (next name)) names number [] [] within)
        ∙ same_row steps (same_leads steps) (next (get_or names number []))

    pub same_back : leads_back rows target ≡ leads next (length names) (get_or names target []) (get_or names target [])
    same_back = ap (λ n. leads_in rows n target target) length_rows ∙ same_leads (length names) target (position-Some (same_name (get_or names target [])) names target [] first).0

pub or_so : (a b : Bool) → b ≡ true → (a || b) ≡ true
or_so true b e = refl
or_so false b e = e

-- the name at a number, whatever stands past the end
pub name_at : (names all : List (List ℕ)) (number : ℕ) (name : List ℕ) → all ≡ names → number < length names → name ≡ get_or all number name → name ≡ get_or names number []
name_at names all number name same within is =
    is ∙ ap (λ xs. get_or xs number name) same ∙ inside (get_or names number name) (get_or names number []) (sym (slice_get-get_or names number name within) ∙ slice_get-get_or names number [] within)
  where
    inside : (a b : List ℕ) → Some a ≡ Some b → a ≡ b
    inside a b e = cc
