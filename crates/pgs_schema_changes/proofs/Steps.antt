-- A safe step asks no more.
use Rattle.std.proofs.Common.{◌≡◌, ◌⊎◌, inl, inr, Bool, true, false, ◌&&◌, ◌||◌, not, List, [], ◌∷◌, map, refl, ap, ◌∙◌}
use Rattle.std.specs.List.{list_all}
use Rattle.std.proofs.lemmas.Bool.{and_parts}
use Rattle.pgs_base.specs.Graph.{Graph, is_graph}
use Rattle.pgs_syntax.specs.declared.key.Key.{Key}
use Rattle.pgs_syntax.specs.declared.resolved.Resolved.{Resolved}
use Rattle.pgs_violation.specs.Violations.{conforms}
use Rattle.pgs_schema_changes.specs.AsksNoMore.{AreTypesContained, AsksNoMore, are_keys_kept, is_kept}
use Rattle.pgs_schema_changes.proofs.Kept.{kept}
use Rattle.pgs_schema_changes.specs.Safe.{is_safe}

each_kept : (test : Key → Bool) (keys : List Key) → list_all (λ kept. kept) (map test keys) ≡ list_all test keys
each_kept test [] = refl
each_kept test (key ∷ keys) = ap (λ rest. test key && rest) (each_kept test keys)

pub all_kept : (old new : Resolved) (kept : List Bool) → kept ≡ map (is_kept old new) new.guard.keys → list_all (λ kept. kept) kept ≡ are_keys_kept old new
all_kept old new kept is = ap (list_all (λ kept. kept)) is ∙ each_kept (is_kept old new) new.guard.keys

types_kept : (old new contained : Bool) {A : Type 0} → (not new || (old && contained)) ≡ true → (contained ≡ true → A) → (new ≡ false) ⊎ ((old ≡ true) × A)
types_kept old false contained is types = inl refl
types_kept true true true is types = inr (refl, types refl)
types_kept true true false is types = cc
types_kept false true contained is types = cc

pub asks_no_more : (old new : Resolved) (contained : Bool) → is_safe old new contained ≡ true → (contained ≡ true → AreTypesContained old new) → AsksNoMore old new
asks_no_more old new contained safe types =
    let parts = and_parts _ _ safe in
    record { types = types_kept old.guard.strict new.guard.strict contained parts.1 types; keys = parts.0 }

pub keeps_graphs : (old new : Resolved) (contained : Bool) → is_safe old new contained ≡ true → (contained ≡ true → AreTypesContained old new) → (g : Graph) → is_graph g ≡ true → conforms old g ≡ true → conforms new g ≡ true
keeps_graphs old new contained safe types g graph conforming = kept old new g graph (asks_no_more old new contained safe types) conforming
