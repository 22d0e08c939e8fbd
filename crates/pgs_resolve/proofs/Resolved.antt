-- Types resolved in the order of their names: the same types, in another order.
use Rattle.std.proofs.Common.{◌≡◌, ℕ, true, List, [], ◌∷◌, map, Option, Some, refl, sym, ◌∙◌, ap, subst}
use Rattle.std.specs.Prelude.{Contains, IsPermutation, filter_map, option_map, find}
use Rattle.std.specs.List.{cons_option}
use Rattle.std.specs.Option.{option_map_or}
use Rattle.std.proofs.lemmas.List.Sorted.{IsPermutation-map, IsPermutation-sym, Contains-permutation}
use Rattle.pgs_base.specs.Pair.{same_name, has_name}
use Rattle.pgs_syntax.proofs.Members.{contains_first, contains_later}
use Rattle.pgs_resolve.proofs.Members.{has}
use Rattle.pgs_resolve.proofs.Named.{type_named}

module _ {T R : Type 0} (key : T → List ℕ) (types : List T) (resolve : T → R) (default : R) where
  abbrev look : List ℕ → Option T
  look name = find (λ t. same_name name (key t)) types

  abbrev resolved_of : List ℕ → Option R
  resolved_of name = option_map resolve (look name)

  total : List ℕ → R
  total name = option_map_or (λ r. r) (resolved_of name) default

  of_types : (some : List T) → ((type : T) → Contains some type → look (key type) ≡ Some type) → map total (map key some) ≡ map resolve some
  unfolding total
  of_types [] found = refl
  of_types (type ∷ some) found =
      ap (λ (o : Option T). option_map_or (λ (r : R). r) (option_map resolve o) default ∷ map total (map key some)) (found type (contains_first type some))
      ∙ ap (λ (rs : List R). resolve type ∷ rs) (of_types some (λ t i. found t (contains_later type some t i)))

  of_names : (names : List (List ℕ)) → ((name : List ℕ) → Contains names name → has_name name (map key types) ≡ true) → map total names ≡ filter_map resolved_of names
  unfolding total
  of_names [] known = refl
  of_names (name ∷ names) known =
      let it = type_named key types name (known name (contains_first name names)) in
      ap (λ (o : Option T). option_map_or (λ (r : R). r) (option_map resolve o) default ∷ map total names) it.1
      ∙ ap (λ (rs : List R). resolve it.0 ∷ rs) (of_names names (λ n i. known n (contains_later name names n i)))
      ∙ sym (ap (λ (o : Option T). cons_option (option_map resolve o) (filter_map resolved_of names)) it.1)

  -- names in another order give the types in another order
  pub resolved_permute : ((type : T) → Contains types type → look (key type) ≡ Some type) → (names : List (List ℕ)) → IsPermutation (map key types) names →
      IsPermutation (map resolve types) (filter_map resolved_of names)
  resolved_permute found names permutes =
      subst (IsPermutation (map resolve types))
      (of_names names (λ name i. has name (map key types) (Contains-permutation names (map key types) name (IsPermutation-sym (map key types) names permutes) i)))
      (subst (λ (rs : List R). IsPermutation rs (map total names)) (of_types types found) (IsPermutation-map total (map key types) names permutes))
