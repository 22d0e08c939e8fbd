-- What a walk makes: each visit comes from a variable that is known, and each step touches one.
use Rattle.std.proofs.Common.{true≢false, ◌≡◌, ℕ, zero, suc, ◌+◌, ◌-◌, ◌<◌, ◌≤◌, Bool, true, false, not, cond, ◌||◌, ◌&&◌, inl, inr, List, [], ◌∷◌, ◌++◌, length, take, get_or, Option, Some, None, refl, sym, ◌∙◌, ap, subst, arith, eqb, length-append}
use Rattle.std.specs.List.{list_any, flat_map, fold, find}
use Rattle.std.specs.Option.{option_map_or}
use Rattle.std.proofs.lemmas.Bool.{and_parts, or_left, or_right, or_cases, cases_lt, eqb-true, eq-eqb}
use Rattle.std.proofs.lemmas.List.{get_or_append_left, get_or_at, get_or-take, take-append-le, take-take, take_at}
use Rattle.std.proofs.lemmas.List.Concat.{flat_map-append}
use Rattle.std.proofs.lemmas.List.Folds.{list_any-append}
use Rattle.std.proofs.lemmas.Grind.{fold-append}
use Rattle.pgs_key_causes.specs.declared.walk.Occurrence.{Occurrence}
use Rattle.pgs_key_causes.specs.declared.walk.Visit.{Visit}
use Rattle.pgs_key_causes.specs.Walk.{var_at, is_edge_at, is_visited, is_reached, with_visit, with_way, with_own, with_all, numbers, is_start, is_alone, is_next, with_step, walk_on, walk}
use Rattle.pgs_key_causes.specs.Fronts.{with_var, vars_of_visit, vars_of}
use Rattle.pgs_key_causes.proofs.Vars.{is_in, kept_all, there_all}

module _ (places : List Occurrence) where
  abbrev pub is_known : List Visit → ℕ → Bool
  is_known visits n = is_in (var_at places n) (vars_of places visits)

  abbrev pub touches : List Visit → ℕ → Bool
  touches visits e = is_known visits (e - 1) || is_known visits e || is_known visits (e + 1)

  -- a visit behind others: it comes from what is known, a node is known, and an edge touches what is known
  pub record IsVisitAfter (before : List Visit) (visit : Visit) : Type 0 where
    pub from : is_known before visit.from ≡ true
    pub node : is_edge_at places visit.place ≡ false → is_known before visit.place ≡ true
    pub edge : is_edge_at places visit.place ≡ true → touches before visit.place ≡ true

  abbrev pub AreWalked : List Visit → Type 0
  AreWalked visits = (i : ℕ) (d : Visit) → i < length visits → IsVisitAfter (take i visits) (get_or visits i d)

  pub walked_none : AreWalked []
  walked_none i d lt = absurd (omega (arith, lt))

  -- so are the first of them
  pub walked_front : (visits : List Visit) → AreWalked visits → (n : ℕ) → AreWalked (take n visits)
  walked_front visits walked n i d lt =
      let size = taken_size n visits in
      let low : i < n = omega (arith, lt, size.0) in
      let here : i < length visits = omega (arith, lt, size.1) in
      let P : Visit → Type 0 = λ v. IsVisitAfter (take i (take n visits)) v in
      let Q : List Visit → Type 0 = λ before. IsVisitAfter before (get_or visits i d) in
      subst P (sym (get_or-take n visits i d low)) (subst Q (sym (take-take i n visits (omega (arith, low)))) (walked i d here))
    where
      taken_size : (n : ℕ) (xs : List Visit) → (length (take n xs) ≤ n) × (length (take n xs) ≤ length xs)
      taken_size zero xs = (omega arith, omega arith)
      taken_size (suc n) [] = (omega arith, omega arith)
      taken_size (suc n) (x ∷ xs) = let h = taken_size n xs in (omega (arith, h.0), omega (arith, h.1))

  pub walked_push : (visits : List Visit) (visit : Visit) → AreWalked visits → IsVisitAfter visits visit → AreWalked (visits ++ visit ∷ [])
  walked_push visits visit walked after i d lt = elim (cases_lt i (length visits)) [
    | inl h ↦
        let P : Visit → Type 0 = λ v. IsVisitAfter (take i (visits ++ visit ∷ [])) v in
        let Q : List Visit → Type 0 = λ before. IsVisitAfter before (get_or visits i d) in
        subst P (sym (get_or_append_left visits (visit ∷ []) d i h)) (subst Q (sym (take-append-le i visits (visit ∷ []) (omega (arith, h)))) (walked i d h))
    | inr h ↦
        let at : length visits ≡ i = omega (arith, h, lt, length-append visits (visit ∷ [])) in
        let P : Visit → Type 0 = λ v. IsVisitAfter (take i (visits ++ visit ∷ [])) v in
        let Q : List Visit → Type 0 = λ before. IsVisitAfter before visit in
        subst P (sym (get_or_at visits visit [] d i at)) (subst Q (sym (take_at visits (visit ∷ []) i at)) after)
  ]

  -- ---- what is known

  pub vars_push : (visits : List Visit) (visit : Visit) → vars_of places (visits ++ visit ∷ []) ≡ fold with_var (vars_of places visits) (vars_of_visit places visit)
  vars_push visits visit =
      ap (fold with_var (0 ∷ [])) (flat_map-append (vars_of_visit places) visits (visit ∷ []))
      ∙ fold-append with_var (0 ∷ []) (flat_map (vars_of_visit places) visits) (vars_of_visit places visit ++ [])
      ∙ ap (fold with_var (vars_of places visits)) (nothing (vars_of_visit places visit))
    where
      nothing : (xs : List ℕ) → xs ++ [] ≡ xs
      nothing [] = refl
      nothing (x ∷ xs) = ap (λ ys. x ∷ ys) (nothing xs)

  known_push : (visits : List Visit) (visit : Visit) (n : ℕ) → is_known visits n ≡ true → is_known (visits ++ visit ∷ []) n ≡ true
  known_push visits visit n h =
      ap (is_in (var_at places n)) (vars_push visits visit) ∙ kept_all (var_at places n) (vars_of places visits) (vars_of_visit places visit) h

  -- a property of visits that one more keeps
  module _ (P : List Visit → Type 0) where
    with_cases : (visits : List Visit) (n from : ℕ) → P visits → (is_visited visits n ≡ false → P (visits ++ record { place = n; from = from } ∷ [])) →
        P (with_visit visits n from)
    with_cases visits n from old new = by (is_visited visits n) refl
      where
        by : (b : Bool) → is_visited visits n ≡ b → P (cond b visits (visits ++ record { place = n; from = from } ∷ []))
        by true e = old
        by false e = new e

  known_with : (visits : List Visit) (m from n : ℕ) → is_known visits n ≡ true → is_known (with_visit visits m from) n ≡ true
  known_with visits m from n h =
      with_cases (λ after. is_known after n ≡ true) visits m from h (λ new. known_push visits (record { place = m; from = from }) n h)

  walked_with : (visits : List Visit) (n from : ℕ) → AreWalked visits → IsVisitAfter visits (record { place = n; from = from }) → AreWalked (with_visit visits n from)
  walked_with visits n from walked after =
      with_cases AreWalked visits n from walked (λ new. walked_push visits (record { place = n; from = from }) walked after)

  visited_with : (visits : List Visit) (n from : ℕ) → is_visited (with_visit visits n from) n ≡ true
  visited_with visits n from = by (is_visited visits n) refl
    where
      by : (b : Bool) → is_visited visits n ≡ b → is_visited (cond b visits (visits ++ record { place = n; from = from } ∷ [])) n ≡ true
      by true e = e
      by false e =
          list_any-append (λ (visit : Visit). eqb visit.place n) visits (record { place = n; from = from } ∷ [])
          ∙ or_right (is_visited visits n) _ (or_left (eqb n n) _ (eq-eqb n n refl))

  -- a variable of a visit is known
  some_visit : (v : ℕ) (test : Visit → Bool) → ((visit : Visit) → test visit ≡ true → is_in v (vars_of_visit places visit) ≡ true) → (visits : List Visit) →
      list_any test visits ≡ true → is_in v (flat_map (vars_of_visit places) visits) ≡ true
  some_visit v test each [] h = absurd (true≢false (sym h))
  some_visit v test each (visit ∷ visits) h =
      list_any-append (λ other. eqb other v) (vars_of_visit places visit) (flat_map (vars_of_visit places) visits)
      ∙ elim (or_cases (test visit) (list_any test visits) h) [
        | inl e ↦ or_left (is_in v (vars_of_visit places visit)) _ (each visit e)
        | inr e ↦ or_right (is_in v (vars_of_visit places visit)) _ (some_visit v test each visits e)
      ]

  known_some : (n : ℕ) (test : Visit → Bool) → ((visit : Visit) → test visit ≡ true → is_in (var_at places n) (vars_of_visit places visit) ≡ true) →
      (visits : List Visit) → list_any test visits ≡ true → is_known visits n ≡ true
  known_some n test each visits h =
      there_all (var_at places n) (0 ∷ []) (flat_map (vars_of_visit places) visits) (some_visit (var_at places n) test each visits h)

  own_var : (visit : Visit) (v : ℕ) → v ≡ var_at places visit.place → is_in v (vars_of_visit places visit) ≡ true
  own_var visit v e = by (is_edge_at places visit.place)
    where
      n : ℕ
      n = visit.place

      by : (b : Bool) → is_in v (cond b (var_at places n ∷ var_at places (n - 1) ∷ var_at places (n + 1) ∷ []) (var_at places n ∷ [])) ≡ true
      by true = or_left (eqb (var_at places n) v) _ (eq-eqb (var_at places n) v (sym e))
      by false = or_left (eqb (var_at places n) v) _ (eq-eqb (var_at places n) v (sym e))

  -- the ends of an edge that is visited are known
  known_ends : (visits : List Visit) (e : ℕ) → is_edge_at places e ≡ true → is_visited visits e ≡ true →
      (is_known visits (e - 1) ≡ true) × (is_known visits (e + 1) ≡ true)
  known_ends visits e edge visited = (
    known_some (e - 1) (λ (visit : Visit). eqb visit.place e) (λ visit t. left visit (eqb-true visit.place e t)) visits visited,
    known_some (e + 1) (λ (visit : Visit). eqb visit.place e) (λ visit t. right visit (eqb-true visit.place e t)) visits visited,
  )
    where
      of_edge : (v : ℕ) (visit : Visit) → visit.place ≡ e →
          is_in v (var_at places e ∷ var_at places (e - 1) ∷ var_at places (e + 1) ∷ []) ≡ true → is_in v (vars_of_visit places visit) ≡ true
      of_edge v visit is h =
          ap (λ m. is_in v (cond (is_edge_at places m) (var_at places m ∷ var_at places (m - 1) ∷ var_at places (m + 1) ∷ []) (var_at places m ∷ []))) is
          ∙ ap (λ b. is_in v (cond b (var_at places e ∷ var_at places (e - 1) ∷ var_at places (e + 1) ∷ []) (var_at places e ∷ []))) edge ∙ h

      left : (visit : Visit) → visit.place ≡ e → is_in (var_at places (e - 1)) (vars_of_visit places visit) ≡ true
      left visit is =
          of_edge (var_at places (e - 1)) visit is
          (or_right (eqb (var_at places e) (var_at places (e - 1))) _ (or_left (eqb (var_at places (e - 1)) (var_at places (e - 1))) _ (eq-eqb _ (var_at places (e - 1)) refl)))

      right : (visit : Visit) → visit.place ≡ e → is_in (var_at places (e + 1)) (vars_of_visit places visit) ≡ true
      right visit is =
          of_edge (var_at places (e + 1)) visit is
          (or_right (eqb (var_at places e) (var_at places (e + 1))) _ (or_right (eqb (var_at places (e - 1)) (var_at places (e + 1))) _
          (or_left (eqb (var_at places (e + 1)) (var_at places (e + 1))) _ (eq-eqb _ (var_at places (e + 1)) refl))))

  -- what is reached is known
  pub x_known : (visits : List Visit) (v : ℕ) → v ≡ 0 → is_in v (vars_of places visits) ≡ true
  x_known visits v e = kept_all v (0 ∷ []) (flat_map (vars_of_visit places) visits) (or_left (eqb 0 v) _ (eq-eqb 0 v (sym e)))

  reached_known : (visits : List Visit) (n : ℕ) → is_reached places visits n ≡ true → is_known visits n ≡ true
  reached_known visits n h = elim (or_cases (eqb (var_at places n) 0) (list_any (λ (visit : Visit). eqb (var_at places visit.place) (var_at places n)) visits) h) [
    | inl e ↦ x_known visits (var_at places n) (eqb-true (var_at places n) 0 e)
    | inr e ↦
        known_some n (λ (visit : Visit). eqb (var_at places visit.place) (var_at places n))
        (λ visit t. own_var visit (var_at places n) (sym (eqb-true (var_at places visit.place) (var_at places n) t))) visits e
  ]

  -- ---- visits of a walk

  -- a place that is known, from itself, and a node from what is known
  own_after : (visits : List Visit) (n : ℕ) → is_known visits n ≡ true → IsVisitAfter visits (record { place = n; from = n })
  own_after visits n known = record {
    from = known;
    node = λ e. known;
    edge = λ e. or_left (is_known visits (n - 1) || is_known visits n) _ (or_right (is_known visits (n - 1)) _ known);
  }

  known_after : (visits : List Visit) (n from : ℕ) → is_known visits n ≡ true → is_known visits from ≡ true → IsVisitAfter visits (record { place = n; from = from })
  known_after visits n from known from_known = record {
    from = from_known;
    node = λ e. known;
    edge = λ e. or_left (is_known visits (n - 1) || is_known visits n) _ (or_right (is_known visits (n - 1)) _ known);
  }

  edge_after : (visits : List Visit) (e from : ℕ) → is_edge_at places e ≡ true → touches visits e ≡ true → is_known visits from ≡ true →
      IsVisitAfter visits (record { place = e; from = from })
  edge_after visits e from edge touched from_known = record {
    from = from_known;
    node = λ not_edge. absurd (true≢false (sym edge ∙ not_edge));
    edge = λ also. touched;
  }

  walked_way : (visits : List Visit) (node e further : ℕ) → AreWalked visits → is_edge_at places e ≡ true → is_known visits node ≡ true →
      ((after : List Visit) → is_known after node ≡ true → touches after e ≡ true) →
      ((after : List Visit) → is_visited after e ≡ true → is_known after further ≡ true) → AreWalked (with_way visits node e further)
  walked_way visits node e further walked edge known touched ended =
      let first = with_visit visits node node in
      let second = with_visit first e node in
      let known_first = known_with visits node node node known in
      let known_second = known_with first e node node known_first in
      let one = walked_with visits node node walked (own_after visits node known) in
      let two = walked_with first e node one (edge_after first e node edge (touched first known_first) known_first) in
      walked_with second further node two (known_after second further node (ended second (visited_with first e node)) known_second)

  walked_from_edge : (visits : List Visit) (e : ℕ) → AreWalked visits → is_edge_at places e ≡ true → is_known visits e ≡ true →
      AreWalked (with_visit (with_visit (with_visit visits e e) (e - 1) e) (e + 1) e)
  walked_from_edge visits e walked edge known =
      let first = with_visit visits e e in
      let second = with_visit first (e - 1) e in
      let known_first = known_with visits e e e known in
      let known_second = known_with first (e - 1) e e known_first in
      let ends = known_ends first e edge (visited_with visits e e) in
      let one = walked_with visits e e walked (own_after visits e known) in
      let two = walked_with first (e - 1) e one (known_after first (e - 1) e ends.0 known_first) in
      walked_with second (e + 1) e two (known_after second (e + 1) e (known_with first (e - 1) e (e + 1) ends.1) known_second)

  walked_step : (visits : List Visit) (e : ℕ) → AreWalked visits → is_next places visits e ≡ true → AreWalked (with_step places visits e)
  walked_step visits e walked next = by (is_reached places visits (e - 1)) refl (is_reached places visits (e + 1)) refl
    where
      parts : (is_edge_at places e ≡ true) × ((is_reached places visits (e - 1) || is_reached places visits e || is_reached places visits (e + 1)) ≡ true)
      parts =
          let whole = and_parts (is_edge_at places e && not (is_visited visits e)) _ next in
          ((and_parts (is_edge_at places e) (not (is_visited visits e)) whole.0).0, whole.1)

      middle : (a b c : Bool) → (a || b || c) ≡ true → a ≡ false → c ≡ false → b ≡ true
      middle false true false h f g = refl
      middle true b c h f g = cc
      middle false b true h f g = cc
      middle false false false h f g = cc

      by : (a : Bool) → is_reached places visits (e - 1) ≡ a → (c : Bool) → is_reached places visits (e + 1) ≡ c →
          AreWalked (cond a (with_way visits (e - 1) e (e + 1))
          (cond c (with_way visits (e + 1) e (e - 1)) (with_visit (with_visit (with_visit visits e e) (e - 1) e) (e + 1) e)))
      by true left c right =
          walked_way visits (e - 1) e (e + 1) walked parts.0 (reached_known visits (e - 1) left)
          (λ after h. or_left (is_known after (e - 1) || is_known after e) _ (or_left (is_known after (e - 1)) _ h))
          (λ after h. (known_ends after e parts.0 h).1)
      by false left true right =
          walked_way visits (e + 1) e (e - 1) walked parts.0 (reached_known visits (e + 1) right)
          (λ after h. or_right (is_known after (e - 1) || is_known after e) _ h)
          (λ after h. (known_ends after e parts.0 h).0)
      by false left false right =
          walked_from_edge visits e walked parts.0
          (reached_known visits e (middle (is_reached places visits (e - 1)) (is_reached places visits e) (is_reached places visits (e + 1)) parts.1 left right))

  walked_own : (test : List Visit → ℕ → Bool) → ((visits : List Visit) (n : ℕ) → test visits n ≡ true → is_known visits n ≡ true) → (visits : List Visit) (n : ℕ) →
      AreWalked visits → AreWalked (with_own places test visits n)
  walked_own test each visits zero walked = walked
  walked_own test each visits (suc n) walked =
      by (with_own places test visits n) (walked_own test each visits n walked) (test (with_own places test visits n) n) refl
    where
      by : (before : List Visit) → AreWalked before → (b : Bool) → test before n ≡ b → AreWalked (cond b (with_visit before n n) before)
      by before own true e = walked_with before n n own (own_after before n (each before n e))
      by before own false e = own

  found_passes : (test : ℕ → Bool) (xs : List ℕ) (x : ℕ) → find test xs ≡ Some x → test x ≡ true
  found_passes test [] x h = cc
  found_passes test (y ∷ ys) x h = by (test y) refl h (λ e. found_passes test ys x e)
    where
      by : (b : Bool) → test y ≡ b → cond b (Some y) (find test ys) ≡ Some x → (find test ys ≡ Some x → test x ≡ true) → test x ≡ true
      by true e h later = let same : y ≡ x = cc in ap test (sym same) ∙ e
      by false e h later = later h

  alone_known : (visits : List Visit) (n : ℕ) → is_alone places visits n ≡ true → is_known visits n ≡ true
  alone_known visits n h = reached_known visits n (and_parts _ (is_reached places visits n) h).1

  start_known : (visits : List Visit) (n : ℕ) → is_start places visits n ≡ true → is_known visits n ≡ true
  start_known visits n h = x_known visits (var_at places n) (eqb-true (var_at places n) 0 (and_parts _ (eqb (var_at places n) 0) h).1)

  walked_on : (more : ℕ) (visits : List Visit) → AreWalked visits → AreWalked (walk_on places more visits)
  walked_on zero visits walked = walked
  walked_on (suc more) visits walked = by (find (is_next places visits) (numbers places)) refl (walked_on more)
    where
      by : (o : Option ℕ) → find (is_next places visits) (numbers places) ≡ o → ((after : List Visit) → AreWalked after → AreWalked (walk_on places more after)) →
          AreWalked (option_map_or (λ e. walk_on places more (with_all places (is_alone places) (with_step places visits e))) o visits)
      by None e later = walked
      by (Some n) e later =
          later (with_all places (is_alone places) (with_step places visits n))
          (walked_own (is_alone places) alone_known (with_step places visits n) (length places)
          (walked_step visits n walked (found_passes (is_next places visits) (numbers places) n e)))

  pub walk_walked : AreWalked (walk places)
  walk_walked =
      walked_on (length places) (with_all places (is_start places) []) (walked_own (is_start places) start_known [] (length places) walked_none)
