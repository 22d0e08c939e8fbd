-- The variables of paths: each is at a place, stands once, has its places' kind, and there are no more than places.
use Rattle.std.proofs.Common.{true≢false, ◌≡◌, ℕ, zero, suc, ◌+◌, ◌<◌, ◌≤◌, Bool, true, false, not, cond, ◌⊎◌, inl, inr, List, [], ◌∷◌, ◌++◌, length, take, get_or, Option, Some, None, refl, sym, ◌∙◌, ap, subst, arith, length-append}
use Rattle.std.specs.List.{list_any, cons_option, find, fold, position, slice_get}
use Rattle.std.specs.Option.{option_map_or, option_to_list, unwrap_or, is_some}
use Rattle.std.proofs.lemmas.Bool.{or_left, or_right, both_ways, cases_lt, cases_order, eqb-true, eq-eqb}
use Rattle.std.proofs.lemmas.List.{length-take-le, get_or-take, get_or_append_left, get_or_at, take-append-le, take_at}
use Rattle.std.proofs.lemmas.List.Elements.{filter_map-append, filter-append}
use Rattle.std.proofs.lemmas.List.Folds.{list_any-append, list_any_at}
use Rattle.std.proofs.lemmas.List.Quantifiers.{position-Some}
use Rattle.pgs_base.specs.Pair.{same_name, has_name}
use Rattle.pgs_syntax.specs.declared.raw.RawPath.{RawPath}
use Rattle.pgs_syntax.specs.declared.raw.RawPlace.{RawPlace}
use Rattle.pgs_resolve_keys.specs.KeyFaults.{edge_places, node_places}
use Rattle.pgs_resolve_keys.specs.Patterns.{Place, Variable, called, nameless, same_variable, is_same, variable_at, variables_at, with_variable, variables_of, number_of, named_in, places_of}
use Rattle.pgs_resolve.proofs.Fresh.{In, in_none}
use Rattle.pgs_resolve_declared.proofs.Same.{one_name, itself, some_place}

abbrev pub Kinded : Type 0
Kinded = Variable × Bool

-- ---- lists and their items

module _ {X : Type 0} where
  pub in_left : (x : X) (xs ys : List X) → In x xs → In x (xs ++ ys)
  in_left x [] ys i = absurd i
  in_left x (y ∷ xs) ys (inl e) = inl e
  in_left x (y ∷ xs) ys (inr i) = inr (in_left x xs ys i)

  pub in_right : (x : X) (xs ys : List X) → In x ys → In x (xs ++ ys)
  in_right x [] ys i = i
  in_right x (y ∷ xs) ys i = inr (in_right x xs ys i)

  pub in_either : (x : X) (xs ys : List X) → In x (xs ++ ys) → In x xs ⊎ In x ys
  in_either x [] ys i = inr i
  in_either x (y ∷ xs) ys (inl e) = inl (inl e)
  in_either x (y ∷ xs) ys (inr i) = elim (in_either x xs ys i) [ inl j ↦ inl (inr j) | inr j ↦ inr j ]

  pub in_at : (xs : List X) (k : ℕ) (d : X) → k < length xs → In (get_or xs k d) xs
  in_at [] k d lt = absurd (omega (arith, lt))
  in_at (x ∷ xs) zero d lt = inl refl
  in_at (x ∷ xs) (suc k) d lt = inr (in_at xs k d (omega (arith, lt)))

pub has_in : (name : List ℕ) (names : List (List ℕ)) → In name names → has_name name names ≡ true
has_in name [] i = absurd i
has_in name (n ∷ ns) (inl e) = or_left (same_name name n) _ (ap (same_name name) (sym e) ∙ itself name)
has_in name (n ∷ ns) (inr i) = or_right (same_name name n) _ (has_in name ns i)

-- what is found is there, and passes
pub find_is : {X : Type 0} (p : X → Bool) (xs : List X) (x : X) → find p xs ≡ Some x → p x ≡ true
find_is p [] x h = cc
find_is {X} p (y ∷ ys) x h = by (p y) refl h (λ e. find_is p ys x e)
  where
    by : (b : Bool) → p y ≡ b → cond b (Some y) (find p ys) ≡ Some x → (find p ys ≡ Some x → p x ≡ true) → p x ≡ true
    by true e h later = let same : y ≡ x = cc in ap p (sym same) ∙ e
    by false e h later = later h

pub found_in : {X : Type 0} (p : X → Bool) (xs : List X) (x : X) → find p xs ≡ Some x → In x xs
found_in p [] x h = cc
found_in {X} p (y ∷ ys) x h = by (p y) h (λ e. found_in p ys x e)
  where
    by : (b : Bool) → cond b (Some y) (find p ys) ≡ Some x → (find p ys ≡ Some x → In x ys) → (x ≡ y) ⊎ In x ys
    by true h later = inl (cc)
    by false h later = inr (later h)

-- ---- one variable

pub one_variable : (a b : Variable) → same_variable a b ≡ true → a ≡ b
one_variable (called a) (called b) h = ap called (one_name a b h)
one_variable (nameless a) (nameless b) h = ap nameless (eqb-true a b h)
one_variable (called a) (nameless b) h = cc
one_variable (nameless a) (called b) h = cc

pub variable_itself : (a : Variable) → same_variable a a ≡ true
variable_itself (called a) = itself a
variable_itself (nameless a) = eq-eqb a a refl

-- ---- variables put behind others

abbrev pub some_same : Variable → List Kinded → Bool
some_same v variables = list_any (is_same v) variables

with_known : (variables : List Kinded) (v : Kinded) → some_same v.0 variables ≡ true → with_variable variables v ≡ variables
with_known variables v h = ap (λ b. cond b variables (variables ++ v ∷ [])) h

with_new : (variables : List Kinded) (v : Kinded) → some_same v.0 variables ≡ false → with_variable variables v ≡ variables ++ v ∷ []
with_new variables v h = ap (λ b. cond b variables (variables ++ v ∷ [])) h

-- a property of variables that one more keeps
module _ (P : List Kinded → Type 0) where
  with_cases : (variables : List Kinded) (v : Kinded) → P variables → (some_same v.0 variables ≡ false → P (variables ++ v ∷ [])) → P (with_variable variables v)
  with_cases variables v old new = by (some_same v.0 variables) refl
    where
      by : (b : Bool) → some_same v.0 variables ≡ b → P (cond b variables (variables ++ v ∷ []))
      by true e = old
      by false e = new e

-- each is one of those that were there or are put
pub from_all : (v : Kinded) (variables vs : List Kinded) → In v (fold with_variable variables vs) → In v variables ⊎ In v vs
from_all v variables [] i = inl i
from_all v variables (w ∷ vs) i = elim (from_all v (with_variable variables w) vs i) [
  | inl j ↦
      with_cases (λ after. In v after → In v variables ⊎ ((v ≡ w) ⊎ In v vs)) variables w (λ k. inl k)
      (λ new k. elim (in_either v variables (w ∷ []) k) [ inl l ↦ inl l | inr l ↦ elim l [ inl e ↦ inr (inl e) | inr n ↦ absurd n ] ]) j
  | inr j ↦ inr (inr j)
]

-- those that were there stay, in front
pub stays_first : (v : Kinded) (rest vs : List Kinded) → slice_get (fold with_variable (v ∷ rest) vs) 0 ≡ Some v
stays_first v rest [] = refl
stays_first v rest (w ∷ vs) =
    with_cases (λ after. slice_get (fold with_variable after vs) 0 ≡ Some v) (v ∷ rest) w (stays_first v rest vs) (λ new. stays_first v (rest ++ w ∷ []) vs)

same_stays : (v : Variable) (variables vs : List Kinded) → some_same v variables ≡ true → some_same v (fold with_variable variables vs) ≡ true
same_stays v variables [] h = h
same_stays v variables (w ∷ vs) h =
    with_cases (λ after. some_same v (fold with_variable after vs) ≡ true) variables w (same_stays v variables vs h)
    (λ new. same_stays v (variables ++ w ∷ []) vs (list_any-append (is_same v) variables (w ∷ []) ∙ or_left (some_same v variables) _ h))

-- each that is put is there
pub all_there : (v : Kinded) (variables vs : List Kinded) → In v vs → some_same v.0 (fold with_variable variables vs) ≡ true
all_there v variables [] i = absurd i
all_there v variables (w ∷ vs) (inr i) = all_there v (with_variable variables w) vs i
all_there v variables (w ∷ vs) (inl e) =
    ap (λ (u : Kinded). some_same u.0 (fold with_variable (with_variable variables w) vs)) e ∙ mine
  where
    at : some_same w.0 (with_variable variables w) ≡ true
    at = by (some_same w.0 variables) refl
      where
        by : (b : Bool) → some_same w.0 variables ≡ b → some_same w.0 (cond b variables (variables ++ w ∷ [])) ≡ true
        by true e = e
        by false e =
            list_any-append (is_same w.0) variables (w ∷ []) ∙ or_right (some_same w.0 variables) _ (or_left (same_variable w.0 w.0) _ (variable_itself w.0))

    mine : some_same w.0 (fold with_variable (with_variable variables w) vs) ≡ true
    mine = same_stays w.0 (with_variable variables w) vs at

-- no variable stands twice
abbrev pub Once : List Kinded → Type 0
Once variables = (k : ℕ) (d : Kinded) → k < length variables → some_same (get_or variables k d).0 (take k variables) ≡ false

once_push : (variables : List Kinded) (v : Kinded) → Once variables → some_same v.0 variables ≡ false → Once (variables ++ v ∷ [])
once_push variables v once new k d lt = elim (cases_lt k (length variables)) [
  | inl h ↦
      ap (λ (u : Kinded). some_same u.0 (take k (variables ++ v ∷ []))) (get_or_append_left variables (v ∷ []) d k h)
      ∙ ap (some_same (get_or variables k d).0) (take-append-le k variables (v ∷ []) (omega (arith, h))) ∙ once k d h
  | inr h ↦
      let at : length variables ≡ k = omega (arith, h, lt, length-append variables (v ∷ [])) in
      ap (λ (u : Kinded). some_same u.0 (take k (variables ++ v ∷ []))) (get_or_at variables v [] d k at)
      ∙ ap (some_same v.0) (take_at variables (v ∷ []) k at) ∙ new
]

all_once : (variables vs : List Kinded) → Once variables → Once (fold with_variable variables vs)
all_once variables [] once = once
all_once variables (v ∷ vs) once =
    all_once (with_variable variables v) vs (with_cases Once variables v once (once_push variables v once))

-- ---- how many there are, where each counts some

module _ (weight : Kinded → ℕ) where
  abbrev pub total : List Kinded → ℕ
  total [] = 0
  total (v ∷ vs) = weight v + total vs

  total_push : (variables : List Kinded) (v : Kinded) → total (variables ++ v ∷ []) ≡ total variables + weight v
  total_push [] v = omega arith
  total_push (w ∷ ws) v = let h = total_push ws v in omega (arith, h)

  total_all : (variables vs : List Kinded) → total (fold with_variable variables vs) ≤ total variables + total vs
  total_all variables [] = omega arith
  total_all variables (v ∷ vs) =
      let h = total_all (with_variable variables v) vs in
      let one : total (with_variable variables v) ≤ total variables + weight v =
      with_cases (λ after. total after ≤ total variables + weight v) variables v (omega arith) (λ new. let p = total_push variables v in omega (arith, p)) in
      omega (arith, h, one)

  -- one that was there before is put for nothing
  total_found : (x : List ℕ) (w : Kinded) (variables vs : List Kinded) → some_same (called x) variables ≡ true → find (is_same (called x)) vs ≡ Some w →
      total (fold with_variable variables vs) + weight w ≤ total variables + total vs
  total_found x w variables [] there found = cc
  total_found x w variables (v ∷ vs) there found = by (is_same (called x) v) refl found
      (total_found x w (with_variable variables v) vs
      (with_cases (λ after. some_same (called x) after ≡ true) variables v there
      (λ new. list_any-append (is_same (called x)) variables (v ∷ []) ∙ or_left (some_same (called x) variables) _ there)))
    where
      one : total (with_variable variables v) ≤ total variables + weight v
      one = with_cases (λ after. total after ≤ total variables + weight v) variables v (omega arith) (λ new. let p = total_push variables v in omega (arith, p))

      by : (b : Bool) → is_same (called x) v ≡ b → cond b (Some v) (find (is_same (called x)) vs) ≡ Some w →
          (find (is_same (called x)) vs ≡ Some w → total (fold with_variable (with_variable variables v) vs) + weight w ≤ total (with_variable variables v) + total vs) →
          total (fold with_variable (with_variable variables v) vs) + weight w ≤ total variables + (weight v + total vs)
      by true e f later =
          let is : v ≡ w = cc in
          let same : called x ≡ v.0 = one_variable (called x) v.0 e in
          let known = with_known variables v (ap (λ u. some_same u variables) (sym same) ∙ there) in
          let k = ap (λ after. total (fold with_variable after vs)) known in
          let h = total_all variables vs in
          let g = ap weight is in
          omega (arith, k, h, g)
      by false e f later = let l = later f in omega (arith, l, one)

-- ---- the variables of places

total_found_one : (weight : Kinded → ℕ) (x : List ℕ) (o : Option Kinded) (all : List Kinded) → find (is_same (called x)) all ≡ o →
    total weight (fold with_variable (option_to_list o) all) ≤ total weight all
total_found_one weight x None all e = let h = total_all weight [] all in omega (arith, h)
total_found_one weight x (Some w) all e =
    let h = total_found weight x w (w ∷ []) all (or_left (is_same (called x) w) _ (find_is (is_same (called x)) all w e)) e in omega (arith, h)

pub total_variables : (weight : Kinded → ℕ) (x : List ℕ) (paths : List RawPath) → total weight (variables_of x paths) ≤ total weight (variables_at 0 (places_of paths))
total_variables weight x paths =
    total_found_one weight x (find (is_same (called x)) (variables_at 0 (places_of paths))) (variables_at 0 (places_of paths)) refl

-- each variable is at a place
pub variable_from : (x : List ℕ) (paths : List RawPath) (v : Kinded) → In v (variables_of x paths) → In v (variables_at 0 (places_of paths))
variable_from x paths v i = elim (from_all v (option_to_list first) all i) [
  | inl j ↦ of_first first refl j
  | inr j ↦ j
]
  where
    all : List Kinded
    all = variables_at 0 (places_of paths)

    first : Option Kinded
    first = find (is_same (called x)) all

    of_first : (o : Option Kinded) → find (is_same (called x)) all ≡ o → In v (option_to_list o) → In v all
    of_first None e j = absurd j
    of_first (Some w) e (inl same) = let P : Kinded → Type 0 = λ u. In u all in subst P (sym same) (found_in (is_same (called x)) all w e)
    of_first (Some w) e (inr j) = absurd j

pub variable_there : (x : List ℕ) (paths : List RawPath) (v : Kinded) → In v (variables_at 0 (places_of paths)) → some_same v.0 (variables_of x paths) ≡ true
variable_there x paths v i =
    all_there v (option_to_list (find (is_same (called x)) (variables_at 0 (places_of paths)))) (variables_at 0 (places_of paths)) i

pub variables_once : (x : List ℕ) (paths : List RawPath) → Once (variables_of x paths)
variables_once x paths =
    all_once (option_to_list (find (is_same (called x)) (variables_at 0 (places_of paths)))) (variables_at 0 (places_of paths)) (first (find (is_same (called x)) (variables_at 0 (places_of paths))))
  where
    first : (o : Option Kinded) → Once (option_to_list o)
    first None k d lt = absurd (omega (arith, lt))
    first (Some w) zero d lt = refl
    first (Some w) (suc k) d lt = absurd (omega (arith, lt))

-- ---- kinds

-- no name stands at an edge place and at a node place
abbrev pub OneKind : List Place → Type 0
OneKind places = (name : List ℕ) → In name (named_in (edge_places places)) → In name (named_in (node_places places)) → ⊥

in_parts : (name : List ℕ) (a b : List Place) → (part : List Place → List Place) → ((xs ys : List Place) → part (xs ++ ys) ≡ part xs ++ part ys) →
    (In name (named_in (part a)) ⊎ In name (named_in (part b))) → In name (named_in (part (a ++ b)))
in_parts name a b part both i =
    let e : named_in (part (a ++ b)) ≡ named_in (part a) ++ named_in (part b) =
    ap named_in (both a b) ∙ filter_map-append (λ (place : Place). place.at.var) (part a) (part b) in
    let P : List (List ℕ) → Type 0 = λ names. In name names in
    subst P (sym e) (elim i [ inl j ↦ in_left name (named_in (part a)) (named_in (part b)) j | inr j ↦ in_right name (named_in (part a)) (named_in (part b)) j ])

edges_of_both : (xs ys : List Place) → edge_places (xs ++ ys) ≡ edge_places xs ++ edge_places ys
edges_of_both xs ys = filter-append (λ (place : Place). place.is_edge) xs ys

nodes_of_both : (xs ys : List Place) → node_places (xs ++ ys) ≡ node_places xs ++ node_places ys
nodes_of_both xs ys = filter-append (λ (place : Place). not place.is_edge) xs ys

pub one_kind_parts : (a b : List Place) → OneKind (a ++ b) → OneKind a × OneKind b
one_kind_parts a b one = (
  λ name i j. one name (in_parts name a b edge_places edges_of_both (inl i)) (in_parts name a b node_places nodes_of_both (inl j)),
  λ name i j. one name (in_parts name a b edge_places edges_of_both (inr i)) (in_parts name a b node_places nodes_of_both (inr j)),
)

-- also where they stand in two lists of places
pub one_kind_across : (a b : List Place) → OneKind (a ++ b) → (name : List ℕ) → In name (named_in (edge_places a)) ⊎ In name (named_in (edge_places b)) →
    In name (named_in (node_places a)) ⊎ In name (named_in (node_places b)) → ⊥
one_kind_across a b one name i j = one name (in_parts name a b edge_places edges_of_both i) (in_parts name a b node_places nodes_of_both j)

pub one_kind : (places : List Place) → list_any (λ name. has_name name (named_in (node_places places))) (named_in (edge_places places)) ≡ false → OneKind places
one_kind places h name i j =
    both_ways (has_name name (named_in (node_places places))) (in_none (λ n. has_name n (named_in (node_places places))) name (named_in (edge_places places)) h i)
    (has_in name (named_in (node_places places)) j)

-- a named variable stands at a place of its kind
in_more : (name : List ℕ) (o : Option (List ℕ)) (names : List (List ℕ)) → In name names → In name (cons_option o names)
in_more name None names i = i
in_more name (Some n) names i = inr i

in_first : (name : List ℕ) (o : Option (List ℕ)) (names : List (List ℕ)) (number : ℕ) → called name ≡ option_map_or called o (nameless number) →
    In name (cons_option o names)
in_first name None names number e = cc
in_first name (Some n) names number e = inl (cc)

named_first : (name : List ℕ) (number : ℕ) (place : Place) (names : List (List ℕ)) (kind b : Bool) →
    ◌≡◌ {A = Kinded} (called name, kind) (variable_at number place.at, b) → (kind ≡ b) × In name (cons_option place.at.var names)
named_first name number place names kind b same =
    (ap (λ (v : Kinded). v.1) same, in_first name place.at.var names number (ap (λ (v : Kinded). v.0) same))

pub named_edge : (name : List ℕ) (number : ℕ) (places : List Place) → In (called name, true) (variables_at number places) → In name (named_in (edge_places places))
named_edge name number [] i = absurd i
named_edge name number (place ∷ places) i = by place.is_edge i (named_edge name (number + 1) places)
  where
    Rest : Type 0
    Rest = In (called name, true) (variables_at (number + 1) places) → In name (named_in (edge_places places))

    by : (b : Bool) → ◌≡◌ {A = Kinded} (called name, true) (variable_at number place.at, b) ⊎ In (called name, true) (variables_at (number + 1) places) →
        Rest → In name (named_in (cond b (place ∷ edge_places places) (edge_places places)))
    by true (inr j) later = in_more name place.at.var (named_in (edge_places places)) (later j)
    by true (inl same) later = (named_first name number place (named_in (edge_places places)) true true same).1
    by false (inr j) later = later j
    by false (inl same) later = absurd (true≢false (named_first name number place [] true false same).0)

pub named_node : (name : List ℕ) (number : ℕ) (places : List Place) → In (called name, false) (variables_at number places) → In name (named_in (node_places places))
named_node name number [] i = absurd i
named_node name number (place ∷ places) i = by place.is_edge i (named_node name (number + 1) places)
  where
    Rest : Type 0
    Rest = In (called name, false) (variables_at (number + 1) places) → In name (named_in (node_places places))

    by : (b : Bool) → ◌≡◌ {A = Kinded} (called name, false) (variable_at number place.at, b) ⊎ In (called name, false) (variables_at (number + 1) places) →
        Rest → In name (named_in (cond (not b) (place ∷ node_places places) (node_places places)))
    by false (inr j) later = in_more name place.at.var (named_in (node_places places)) (later j)
    by false (inl same) later = (named_first name number place (named_in (node_places places)) false false same).1
    by true (inr j) later = later j
    by true (inl same) later = absurd (true≢false (sym (named_first name number place [] false true same).0))

-- a place without a name has a number of its own
not_before : (k : ℕ) (kind : Bool) (number : ℕ) (places : List Place) → In (nameless k, kind) (variables_at number places) → number ≤ k
not_before k kind number [] i = absurd i
not_before k kind number (place ∷ places) (inl same) = first place.at.var (ap (λ (v : Kinded). v.0) same)
  where
    first : (o : Option (List ℕ)) → nameless k ≡ option_map_or called o (nameless number) → number ≤ k
    first None e = let same : k ≡ number = cc in omega (arith, same)
    first (Some n) e = cc
not_before k kind number (place ∷ places) (inr i) = let h = not_before k kind (number + 1) places i in omega (arith, h)

at_its_own : (k : ℕ) (number : ℕ) (place : RawPlace) → nameless k ≡ variable_at number place → k ≡ number
at_its_own k number place e = by place.var e
  where
    by : (o : Option (List ℕ)) → nameless k ≡ option_map_or called o (nameless number) → k ≡ number
    by None e = cc
    by (Some n) e = cc

nameless_kind : (k : ℕ) (a b : Bool) (number : ℕ) (places : List Place) → In (nameless k, a) (variables_at number places) → In (nameless k, b) (variables_at number places) →
    a ≡ b
nameless_kind k a b number [] i j = absurd i
nameless_kind k a b number (place ∷ places) (inl s) (inl t) = ap (λ (v : Kinded). v.1) s ∙ sym (ap (λ (v : Kinded). v.1) t)
nameless_kind k a b number (place ∷ places) (inl s) (inr j) =
    let own = at_its_own k number place.at (ap (λ (v : Kinded). v.0) s) in
    let later = not_before k b (number + 1) places j in absurd (omega (arith, own, later))
nameless_kind k a b number (place ∷ places) (inr i) (inl t) =
    let own = at_its_own k number place.at (ap (λ (v : Kinded). v.0) t) in
    let later = not_before k a (number + 1) places i in absurd (omega (arith, own, later))
nameless_kind k a b number (place ∷ places) (inr i) (inr j) = nameless_kind k a b (number + 1) places i j

-- one variable has one kind
pub same_kind : (places : List Place) → OneKind places → (v : Variable) (a b : Bool) → In (v, a) (variables_at 0 places) → In (v, b) (variables_at 0 places) → a ≡ b
same_kind places one (nameless k) a b i j = nameless_kind k a b 0 places i j
same_kind places one (called name) true true i j = refl
same_kind places one (called name) false false i j = refl
same_kind places one (called name) true false i j = absurd (one name (named_edge name 0 places i) (named_node name 0 places j))
same_kind places one (called name) false true i j = absurd (one name (named_edge name 0 places j) (named_node name 0 places i))

-- ---- the numbers of variables

pub number_at : (variables : List Kinded) (v : Variable) → some_same v variables ≡ true →
    (number_of variables v < length variables) × ((d : Kinded) → (get_or variables (number_of variables v) d).0 ≡ v)
number_at variables v there =
    by (position (is_same v) variables) refl (some_place (is_same v) variables ∙ there)
  where
    by : (o : Option ℕ) → position (is_same v) variables ≡ o → is_some o ≡ true →
        (unwrap_or o 0 < length variables) × ((d : Kinded) → (get_or variables (unwrap_or o 0) d).0 ≡ v)
    by None e h = cc
    by (Some n) e h = (
      (position-Some (is_same v) variables n (v, true) e).0,
      λ d. sym (one_variable v (get_or variables n d).0 (position-Some (is_same v) variables n d e).1),
    )

-- the number of the variable at a number is that number
pub own_number : (variables : List Kinded) (k : ℕ) (d : Kinded) → Once variables → k < length variables → number_of variables (get_or variables k d).0 ≡ k
own_number variables k d once lt =
    let v : Variable = (get_or variables k d).0 in
    let there : some_same v variables ≡ true = list_any_at (is_same v) variables k d lt (variable_itself v) in
    let at = number_at variables v there in
    elim (cases_order (number_of variables v) k) [
      | inl e ↦ e
      | inr apart ↦ elim apart [
        | inl less ↦
            let count = length-take-le k variables (omega (arith, lt)) in
            let same : (get_or (take k variables) (number_of variables v) d).0 ≡ v = ap (λ (u : Kinded). u.0) (get_or-take k variables (number_of variables v) d less) ∙ at.1 d in
            absurd (both_ways (some_same v (take k variables)) (once k d lt)
            (list_any_at (is_same v) (take k variables) (number_of variables v) d (omega (arith, less, count)) (ap (same_variable v) same ∙ variable_itself v)))
        | inr more ↦
            let count = length-take-le (number_of variables v) variables (omega (arith, at.0)) in
            let same : (get_or (take (number_of variables v) variables) k d).0 ≡ v = ap (λ (u : Kinded). u.0) (get_or-take (number_of variables v) variables k d more) in
            absurd (both_ways (some_same v (take (number_of variables v) variables))
            (ap (λ u. some_same u (take (number_of variables v) variables)) (sym (at.1 d)) ∙ once (number_of variables v) d at.0)
            (list_any_at (is_same v) (take (number_of variables v) variables) k d (omega (arith, more, count)) (ap (same_variable v) same ∙ variable_itself v)))
      ]
    ]
