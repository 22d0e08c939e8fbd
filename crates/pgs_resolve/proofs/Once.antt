-- Names, each once, with one more.
use Rattle.std.proofs.Common.{◌≡◌, ℕ, ◌+◌, ◌<◌, Bool, true, false, not, cond, List, [], ◌∷◌, ◌++◌, ◌||◌, length, take, map, filter, get_or, refl, sym, ◌∙◌, ap}
use Rattle.std.proofs.lemmas.List.{append_assoc, map-append}
use Rattle.std.proofs.lemmas.List.Elements.{filter-append}
use Rattle.pgs_base.specs.Pair.{same_name, has_name}
use Rattle.pgs_syntax.specs.declared.script.Member.{Member}
use Rattle.pgs_resolve.specs.Guard.{name_of, each_once}
use Rattle.pgs_resolve_declared.proofs.Same.{in_turn, one_name}
use Rattle.pgs_resolve_declared.proofs.Walks.{one_more}

abbrev others : List ℕ → List (List ℕ) → List (List ℕ)
others name names = filter (λ other. not (same_name name other)) names

-- what is left of one name that is new
left_of : (x y : List ℕ) (known : Bool) → others x (cond known [] (y ∷ [])) ≡ cond (same_name y x || known) [] (y ∷ [])
left_of x y known = by known (same_name x y) (same_name y x) refl (in_turn y x)
  where
    by : (known b c : Bool) → same_name x y ≡ b → c ≡ same_name x y → others x (cond known [] (y ∷ [])) ≡ cond (c || known) [] (y ∷ [])
    by true b true e f = refl
    by true b false e f = refl
    by false true c e f = ap (λ d. cond (not d) (y ∷ []) []) e ∙ ap (λ d. cond (d || false) [] (y ∷ [])) (sym (f ∙ e))
    by false false c e f = ap (λ d. cond (not d) (y ∷ []) []) e ∙ ap (λ d. cond (d || false) [] (y ∷ [])) (sym (f ∙ e))

pub once_more : (xs : List (List ℕ)) (y : List ℕ) → each_once (xs ++ y ∷ []) ≡ each_once xs ++ cond (has_name y xs) [] (y ∷ [])
once_more [] y = refl
once_more (x ∷ xs) y =
    ap (λ names. x ∷ others x names) (once_more xs y)
    ∙ ap (λ names. x ∷ names) (filter-append (λ other. not (same_name x other)) (each_once xs) (cond (has_name y xs) [] (y ∷ []))
    ∙ ap (λ names. others x (each_once xs) ++ names) (left_of x y (has_name y xs)))

-- a name is among names exactly where it is among them once
others_keep : (x y : List ℕ) → same_name y x ≡ false → (names : List (List ℕ)) → has_name y (others x names) ≡ has_name y names
others_keep x y apart [] = refl
others_keep x y apart (z ∷ zs) = by (same_name x z) refl (others_keep x y apart zs)
  where
    by : (b : Bool) → same_name x z ≡ b → has_name y (others x zs) ≡ has_name y zs →
        has_name y (cond (not b) (z ∷ others x zs) (others x zs)) ≡ (same_name y z || has_name y zs)
    by true e rest = rest ∙ ap (λ c. c || has_name y zs) (sym (ap (same_name y) (sym (one_name x z e)) ∙ apart))
    by false e rest = ap (λ c. same_name y z || c) rest

pub known_once : (y : List ℕ) (xs : List (List ℕ)) → has_name y (each_once xs) ≡ has_name y xs
known_once y [] = refl
known_once y (x ∷ xs) = by (same_name y x) refl (known_once y xs)
  where
    by : (b : Bool) → same_name y x ≡ b → has_name y (each_once xs) ≡ has_name y xs → (b || has_name y (others x (each_once xs))) ≡ (b || has_name y xs)
    by true e rest = refl
    by false e rest = others_keep x y e (each_once xs) ∙ rest

-- a walk over members
pub more_once : (before : List (List ℕ)) (members : List Member) (i : ℕ) (member : Member) (mid new : List (List ℕ)) → i < length members →
    member ≡ get_or members i member → mid ≡ each_once (before ++ map name_of (take i members)) →
    new ≡ mid ++ cond (has_name (name_of member) mid) [] (name_of member ∷ []) → new ≡ each_once (before ++ map name_of (take (i + 1) members))
more_once before members i member mid new lt is these after =
    let y : List ℕ = name_of member in
    let known : List (List ℕ) = before ++ map name_of (take i members) in
    let next : before ++ map name_of (take (i + 1) members) ≡ known ++ y ∷ [] =
    ap (λ ms. before ++ map name_of ms) (one_more members i member lt is)
    ∙ ap (λ ns. before ++ ns) (map-append name_of (take i members) (member ∷ [])) ∙ sym (append_assoc before _ _) in
    after ∙ ap (λ ns. ns ++ cond (has_name y ns) [] (y ∷ [])) these ∙ ap (λ b. each_once known ++ cond b [] (y ∷ [])) (known_once y known)
    ∙ sym (once_more known y) ∙ ap each_once (sym next)
