-- The first refusal of a script, by the lists of its refusals in their order.
use Rattle.std.proofs.Common.{◌≡◌, ℕ, List, [], ◌∷◌, ◌++◌, length, map, Some, None, Ok, Err, refl, sym, ◌∙◌, ap}
use Rattle.std.specs.List.{slice_get, enumerate_from, filter_map}
use Rattle.std.specs.Option.{option_map, option_map_or}
use Rattle.std.proofs.lemmas.Option.{slice_get-map}
use Rattle.pgs_syntax.specs.declared.resolved.Resolved.{Resolved}
use Rattle.pgs_syntax.specs.declared.script.GraphType.{GraphType}
use Rattle.pgs_syntax.specs.declared.script.Script.{Script}
use Rattle.pgs_resolve.specs.declared.fault.ResolveFault.{ResolveFault}
use Rattle.pgs_resolve.specs.declared.fault.ResolveFault.TheVariants as faults
use Rattle.pgs_resolve_declared.specs.Declarations.{graphs_of, keys_of}
use Rattle.pgs_resolve_declared.specs.Refused.{duplicates, unknowns, wrong_kinds, cycle}
use Rattle.pgs_resolve.specs.Resolution.{no_graph_type, bad_key, refusals, resolved, resolution, first_refusal}
use Rattle.pgs_resolve_declared.proofs.Firsts.{none_first, first_stays}

-- the first of mapped names
pub named_first : (fault : List ℕ → ResolveFault) (names : List (List ℕ)) (name : List ℕ) → Some name ≡ slice_get names 0 →
    Some (fault name) ≡ slice_get (map fault names) 0
named_first fault names name e = ap (option_map fault) e ∙ sym (slice_get-map fault names 0)

pub named_none : (fault : List ℕ → ResolveFault) (names : List (List ℕ)) → None ≡ slice_get names 0 → map fault names ≡ []
named_none fault names e = ap (map fault) (none_first names e)

-- the six lists of refusals, one after the other
abbrev pub all_of : List ResolveFault → List ResolveFault → List ResolveFault → List ResolveFault → List ResolveFault → List ResolveFault → List ResolveFault
all_of a b c d e f = a ++ b ++ c ++ d ++ e ++ f

module _ (x : ResolveFault) (a b c d e f : List ResolveFault) where
  pub in_first : Some x ≡ slice_get a 0 → Some x ≡ slice_get (all_of a b c d e f) 0
  in_first h =
      first_stays (a ++ b ++ c ++ d ++ e) f x (first_stays (a ++ b ++ c ++ d) e x (first_stays (a ++ b ++ c) d x (first_stays (a ++ b) c x (first_stays a b x h))))

  module _ (no_a : a ≡ []) where
    without_a : slice_get (all_of a b c d e f) 0 ≡ slice_get (all_of [] b c d e f) 0
    without_a = ap (λ z. slice_get (all_of z b c d e f) 0) no_a

    pub in_second : Some x ≡ slice_get b 0 → Some x ≡ slice_get (all_of a b c d e f) 0
    in_second h =
        first_stays (b ++ c ++ d ++ e) f x (first_stays (b ++ c ++ d) e x (first_stays (b ++ c) d x (first_stays b c x h))) ∙ sym without_a

    module _ (no_b : b ≡ []) where
      without_b : slice_get (all_of a b c d e f) 0 ≡ slice_get (all_of [] [] c d e f) 0
      without_b = without_a ∙ ap (λ z. slice_get (all_of [] z c d e f) 0) no_b

      pub in_third : Some x ≡ slice_get c 0 → Some x ≡ slice_get (all_of a b c d e f) 0
      in_third h = first_stays (c ++ d ++ e) f x (first_stays (c ++ d) e x (first_stays c d x h)) ∙ sym without_b

      module _ (no_c : c ≡ []) where
        without_c : slice_get (all_of a b c d e f) 0 ≡ slice_get (all_of [] [] [] d e f) 0
        without_c = without_b ∙ ap (λ z. slice_get (all_of [] [] z d e f) 0) no_c

        pub in_fourth : Some x ≡ slice_get d 0 → Some x ≡ slice_get (all_of a b c d e f) 0
        in_fourth h = first_stays (d ++ e) f x (first_stays d e x h) ∙ sym without_c

        module _ (no_d : d ≡ []) where
          without_d : slice_get (all_of a b c d e f) 0 ≡ slice_get (all_of [] [] [] [] e f) 0
          without_d = without_c ∙ ap (λ z. slice_get (all_of [] [] [] z e f) 0) no_d

          pub in_fifth : Some x ≡ slice_get e 0 → Some x ≡ slice_get (all_of a b c d e f) 0
          in_fifth h = first_stays e f x h ∙ sym without_d

module _ (a b c d e f : List ResolveFault) where
  pub at_last : a ≡ [] → b ≡ [] → c ≡ [] → d ≡ [] → e ≡ [] → slice_get f 0 ≡ slice_get (all_of a b c d e f) 0
  at_last no_a no_b no_c no_d no_e =
      sym (ap (λ z. slice_get (all_of z b c d e f) 0) no_a ∙ ap (λ z. slice_get (all_of [] z c d e f) 0) no_b
      ∙ ap (λ z. slice_get (all_of [] [] z d e f) 0) no_c ∙ ap (λ z. slice_get (all_of [] [] [] z e f) 0) no_d
      ∙ ap (λ z. slice_get (all_of [] [] [] [] z f) 0) no_e)

pub some_graph : (types : List GraphType) → (length types ≡ 0 → ⊥) → no_graph_type types ≡ []
some_graph [] h = absurd (h refl)
some_graph (type ∷ types) h = refl

-- no items of two lists
none_of_both : {X : Type 0} (xs ys : List X) → xs ++ ys ≡ [] → (xs ≡ []) × (ys ≡ [])
none_of_both [] ys h = (refl, h)
none_of_both (x ∷ xs) ys h = cc

-- a script that isn't refused is so by none of the six
pub record NotRefused (script : Script) : Type 0 where
  pub graphs : no_graph_type (graphs_of script) ≡ []
  pub duplicates : map faults.Duplicate (duplicates script) ≡ []
  pub unknowns : map faults.Unknown (unknowns script) ≡ []
  pub kinds : map faults.Kind (wrong_kinds script) ≡ []
  pub cycle : option_map_or (λ name. faults.Cycle name ∷ []) (cycle script) [] ≡ []
  pub keys : filter_map bad_key (enumerate_from 1 (keys_of script)) ≡ []

pub not_refused : (script : Script) → refusals script ≡ [] → NotRefused script
not_refused script h =
    let a = no_graph_type (graphs_of script) in
    let b = map faults.Duplicate (duplicates script) in
    let c = map faults.Unknown (unknowns script) in
    let d = map faults.Kind (wrong_kinds script) in
    let e = option_map_or (λ name. faults.Cycle name ∷ []) (cycle script) [] in
    let f = filter_map bad_key (enumerate_from 1 (keys_of script)) in
    let last = none_of_both (a ++ b ++ c ++ d ++ e) f h in
    let fifth = none_of_both (a ++ b ++ c ++ d) e last.0 in
    let fourth = none_of_both (a ++ b ++ c) d fifth.0 in
    let third = none_of_both (a ++ b) c fourth.0 in
    let second = none_of_both a b third.0 in
    record { graphs = second.0; duplicates = second.1; unknowns = third.1; kinds = fourth.1; cycle = fifth.1; keys = last.1 }

-- ---- the answer

pub is_refused : (script : Script) (fault : ResolveFault) → Some fault ≡ slice_get (refusals script) 0 → resolution script ≡ Err fault
unfolding resolution
is_refused script fault h = by (refusals script) h
  where
    by : (faults : List ResolveFault) → Some fault ≡ slice_get faults 0 → first_refusal faults (resolved script) ≡ Err fault
    by [] h = cc
    by (other ∷ faults) h = cc

pub is_resolved : (script : Script) → None ≡ slice_get (refusals script) 0 → resolution script ≡ Ok (resolved script)
unfolding resolution
is_resolved script h = ap (λ faults. first_refusal faults (resolved script)) (none_first (refusals script) h)

pub resolved_only : (script : Script) (schema : Resolved) → resolution script ≡ Ok schema → (refusals script ≡ []) × (resolved script ≡ schema)
unfolding resolution
resolved_only script schema h = by (refusals script) h
  where
    by : (faults : List ResolveFault) → first_refusal faults (resolved script) ≡ Ok schema → (faults ≡ []) × (resolved script ≡ schema)
    by [] h = (refl, cc)
    by (fault ∷ faults) h = cc
