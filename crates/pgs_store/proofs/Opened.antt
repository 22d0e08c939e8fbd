-- The graph without elements conforms to every schema.
use Rattle.std.proofs.Common.{◌≡◌, ℕ, ◌+◌, Bool, true, false, List, [], ◌∷◌, ◌++◌, Option, Some, None, refl, ◌∙◌, ap, arith}
use Rattle.pgs_base.specs.declared.limits.Limits.{Limits}
use Rattle.pgs_base.specs.Graph.{Graph, empty_graph}
use Rattle.pgs_syntax.specs.declared.key.Key.{Key}
use Rattle.pgs_syntax.specs.declared.resolved.Resolved.{Resolved}
use Rattle.pgs_violation.specs.declared.violation.Verdict.TheVariants.{Conforms}
use Rattle.pgs_violation.specs.declared.violation.Violation.{Violation}
use Rattle.pgs_violation.specs.Violations.{where_asked, where_bounded, key_violations, keys_violations, first_of, verdict}
use Rattle.pgs_store.specs.State.{IsGuarded}

none_asked : (asked : Bool) (rest : List Violation) → where_asked asked [] ++ rest ≡ rest
none_asked true rest = refl
none_asked false rest = refl

none_last : (asked : Bool) → where_asked asked [] ≡ []
none_last true = refl
none_last false = refl

none_bounded : (bounds : Option (ℕ × ℕ)) → where_bounded bounds (λ (_ : ℕ × ℕ). []) ≡ []
none_bounded None = refl
none_bounded (Some bounds) = refl

no_key_violated : (resolved : Resolved) (number : ℕ) (key : Key) → key_violations resolved empty_graph number key ≡ []
no_key_violated resolved number key =
    ap (λ found. found ++ where_asked key.qualifiers.exclusive [] ++ where_bounded key.qualifiers.count (λ (_ : ℕ × ℕ). []))
    (none_asked key.qualifiers.mandatory (where_asked key.qualifiers.singleton []) ∙ none_last key.qualifiers.singleton)
    ∙ ap (λ found. found ++ where_bounded key.qualifiers.count (λ (_ : ℕ × ℕ). [])) (none_last key.qualifiers.exclusive)
    ∙ none_bounded key.qualifiers.count

no_keys_violated : (resolved : Resolved) (number : ℕ) (keys : List Key) → keys_violations resolved empty_graph number keys ≡ []
no_keys_violated resolved number [] = refl
no_keys_violated resolved number (key ∷ keys) =
    ap (λ found. found ++ keys_violations resolved empty_graph (number + 1) keys) (no_key_violated resolved number key) ∙ no_keys_violated resolved (number + 1) keys

pub empty_conforms : (resolved : Resolved) → verdict resolved empty_graph ≡ Conforms
empty_conforms resolved = ap first_of (none_asked resolved.guard.strict _ ∙ no_keys_violated resolved 1 resolved.guard.keys)

pub opened : (resolved : Resolved) (limits : Limits) (g : Graph) → g ≡ empty_graph → IsGuarded resolved limits g
opened resolved limits g e = rw e (record { conforms = empty_conforms resolved; within = omega arith; small = refl })
