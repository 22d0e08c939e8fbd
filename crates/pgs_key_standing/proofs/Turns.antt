-- Keys one after another: the first of those that are left, and the end.
use Rattle.std.proofs.Common.{◌≡◌, ◌<◌, ◌≤◌, Bool, true, ℕ, ◌-◌, List, [], ◌∷◌, ◌++◌, length, take, drop, get_or, ◌∙◌, ap, sym, refl, subst, append_assoc, arith}
use Rattle.std.specs.List.{list_all}
use Rattle.std.proofs.lemmas.Bool.{and_parts}
use Rattle.std.proofs.lemmas.List.{take_all}
use Rattle.pgs_syntax.specs.declared.key.Key.{Key}
use Rattle.pgs_syntax.specs.declared.resolved.Resolved.{Resolved}
use Rattle.pgs_key_standing.specs.declared.reached.Reach.{Reach}
use Rattle.pgs_key_standing.specs.Reach.{AreReached, IsReach}

pub first_passes : {X : Type 0} (test : X → Bool) (xs : List X) (x : X) → 1 ≤ length xs → x ≡ get_or xs 0 x → list_all test xs ≡ true → test x ≡ true
first_passes test [] x some is h = absurd (omega arith)
first_passes test (y ∷ xs) x some is h = ap test is ∙ (and_parts (test y) (list_all test xs) h).0

-- what is left behind the first
whole_rest : {X : Type 0} (x : X) (xs : List X) → take (length (x ∷ xs) - 1) (drop 1 (x ∷ xs)) ≡ xs
whole_rest x xs = take_all (length (x ∷ xs) - 1) xs (omega arith)

pub rest_passes : {X : Type 0} (test : X → Bool) (xs : List X) → 1 ≤ length xs → list_all test xs ≡ true → list_all test (take (length xs - 1) (drop 1 xs)) ≡ true
rest_passes test [] some all = absurd (omega arith)
rest_passes test (x ∷ xs) some all = ap (list_all test) (whole_rest x xs) ∙ (and_parts (test x) (list_all test xs) all).1

pub reached_more : (resolved : Resolved) (keys left : List Key) (key : Key) (all new : List Reach) (reach : Reach) → 1 ≤ length left → key ≡ get_or left 0 key →
    IsReach resolved key reach → new ≡ all ++ reach ∷ [] →
    ((rest : List Reach) → AreReached resolved left rest → AreReached resolved keys (all ++ rest)) →
    (rest : List Reach) → AreReached resolved (take (length left - 1) (drop 1 left)) rest → AreReached resolved keys (new ++ rest)
reached_more resolved keys [] key all new reach some is own pushed before rest behind = absurd (omega arith)
reached_more resolved keys (first ∷ later) key all new reach some is own pushed before rest behind =
    subst (λ (every : List Reach). AreReached resolved keys every) (sym (ap (λ (every : List Reach). every ++ rest) pushed ∙ append_assoc all (reach ∷ []) rest))
    (before (reach ∷ rest)
    (subst (λ (k : Key). IsReach resolved k reach) is own, subst (λ (ks : List Key). AreReached resolved ks rest) (whole_rest first later) behind))

append_none : {X : Type 0} (xs : List X) → xs ++ [] ≡ xs
append_none [] = refl
append_none (x ∷ xs) = ap (λ ys. x ∷ ys) (append_none xs)

pub reached_at_end : (resolved : Resolved) (keys left : List Key) (all : List Reach) → length left < 1 →
    ((rest : List Reach) → AreReached resolved left rest → AreReached resolved keys (all ++ rest)) → AreReached resolved keys all
reached_at_end resolved keys [] all none reached = subst (λ (found : List Reach). AreReached resolved keys found) (append_none all) (reached [] tt)
reached_at_end resolved keys (key ∷ left) all none reached = absurd (omega arith)
