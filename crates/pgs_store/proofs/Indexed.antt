-- When an index stands for the graph of a guard, and what it says of one element.
use Rattle.std.proofs.Common.{◌≡◌, ⊎_elim, ℕ, zero, suc, ◌-◌, ◌<◌, ◌≤◌, Bool, true, false, cond, List, [], ◌∷◌, length, filter, Some, None, refl, sym, ◌∙◌, ap, subst, arith}
use Rattle.std.specs.Prelude.{option_and_then, slice_get, if◌then◌else◌}
use Rattle.std.specs.List.{list_any, list_all}
use Rattle.std.proofs.lemmas.Option.{slice_get_cases}
use Rattle.pgs_base.specs.declared.element.Elem.{Elem}
use Rattle.pgs_base.specs.declared.limits.Limits.{Limits}
use Rattle.pgs_base.specs.declared.part.Part.{Part}
use Rattle.pgs_base.specs.Graph.{Graph, empty_graph}
use Rattle.pgs_check.specs.Standing.{index_changed}
use Rattle.pgs_decide.specs.declared.deciding.Decided.{Decided}
use Rattle.pgs_graph.specs.declared.delta.Delta.{Delta}
use Rattle.pgs_graph.specs.Changed.{changed}
use Rattle.pgs_keyindex.specs.declared.change.KeyChange.{KeyChange}
use Rattle.pgs_keyindex.specs.Index.{IndexState}
use Rattle.pgs_keyindex.specs.Rows.{KeyRows, rows_changed, values_at}
use Rattle.pgs_keyindex.specs.Standing.{StandsFor, exclusive_keys, values_in_scope}
use Rattle.pgs_decide.specs.declared.changing.Ready.{Ready}
use Rattle.pgs_decide.specs.Changing.{IsReadyOf}
use Rattle.pgs_store.specs.Explained.{key_values_of}
use Rattle.pgs_store.specs.State.{IsGuarded, IsIndexed}
use Rattle.pgs_syntax.specs.declared.key.Key.{Key}
use Rattle.pgs_syntax.specs.declared.resolved.Resolved.{Resolved}
use Rattle.pgs_syntax.specs.KeyValues.{starts_at, is_in_scope, key_values}
use Rattle.pgs_syntax.specs.Matches.{assignments, holds}

-- ---- the graph without elements

no_start : (elem : Elem) (there : Bool) → list_any (starts_at elem) (cond there ([] ∷ []) []) ≡ false
no_start elem true = refl
no_start elem false = refl

no_match_starts : (test : List Elem → Bool) (elem : Elem) (edge_vars : List Bool) → list_any (starts_at elem) (filter test (assignments empty_graph edge_vars)) ≡ false
no_match_starts test elem [] = no_start elem (test [])
no_match_starts test elem (true ∷ edge_vars) = refl
no_match_starts test elem (false ∷ edge_vars) = refl

outside : (there : Bool) (values : List (List Part)) → there ≡ false → None ≡ (if there then Some values else None)
outside true values e = cc
outside false values e = refl

-- an index without rows stands for it
pub none_stands : (resolved : Resolved) (g : Graph) (index : IndexState) → g ≡ empty_graph → index.exclusive ≡ exclusive_keys resolved.guard.keys → index.rows ≡ []
    → StandsFor resolved g resolved.guard.keys index
none_stands resolved g index empty exclusive none = record {
  exclusive = exclusive;
  rows = λ number key at elem.
      ap (λ (rows : KeyRows). values_at rows number elem) none
      ∙ outside (is_in_scope resolved empty_graph key elem) (key_values resolved empty_graph key elem)
      (no_match_starts (λ elems. list_all (holds resolved empty_graph elems) key.scope.atoms) elem key.scope.edge_vars)
      ∙ sym (ap (λ (h : Graph). values_in_scope resolved h key elem) empty);
}

-- ---- an index that has the same rows

pub still_stands : (resolved : Resolved) (g h : Graph) (keys : List Key) (index next : IndexState) → h ≡ g → next.exclusive ≡ index.exclusive → next.rows ≡ index.rows
    → StandsFor resolved g keys index → StandsFor resolved h keys next
still_stands resolved g h keys index next same exclusive rows stands = record {
  exclusive = exclusive ∙ stands.exclusive;
  rows = λ number key at elem.
      ap (λ (r : KeyRows). values_at r number elem) rows
      ∙ stands.rows number key at elem
      ∙ sym (ap (λ (k : Graph). values_in_scope resolved k key elem) same);
}

-- ---- what was decided, done

pub made_graph : (g prepared next : Graph) (decided : Decided) (ready : Ready) → prepared ≡ g → next ≡ changed prepared ready.tables.delta → IsReadyOf decided ready
    → next ≡ changed g decided.delta
made_graph g prepared next decided ready same done whole =
    done ∙ ap (λ (h : Graph). changed h ready.tables.delta) same ∙ ap (λ (delta : Delta). changed g delta) whole.delta

-- the index that is prepared and committed has the rows that were decided, so that it stands for the changed graph
pub made_stands : (resolved : Resolved) (g h : Graph) (keys : List Key) (index prepared next : IndexState) (decided : Decided) (ready : Ready) → h ≡ g
    → prepared.exclusive ≡ index.exclusive → prepared.rows ≡ index.rows → next.exclusive ≡ prepared.exclusive → next.rows ≡ rows_changed prepared.rows ready.rows.changes
    → IsReadyOf decided ready → StandsFor resolved g keys (index_changed index decided.changes) → StandsFor resolved h keys next
made_stands resolved g h keys index prepared next decided ready same exclusive rows next_exclusive next_rows whole stands =
    still_stands resolved g h keys (index_changed index decided.changes) next same (next_exclusive ∙ exclusive)
    (next_rows
    ∙ ap (λ (r : KeyRows). rows_changed r ready.rows.changes) rows
    ∙ ap (λ (changes : List KeyChange). rows_changed index.rows changes) whole.changes)
    stands

-- ---- both, under the schema and the limits of a guard

pub still_indexed : (resolved : Resolved) (limits : Limits) (g h : Graph) (index next : IndexState) → h ≡ g → next.exclusive ≡ index.exclusive → next.rows ≡ index.rows
    → IsIndexed resolved limits g index → IsIndexed resolved limits h next
still_indexed resolved limits g h index next same exclusive rows indexed = record {
  guarded = subst (λ (k : Graph). IsGuarded resolved limits k) (sym same) indexed.guarded;
  stands = still_stands resolved g h resolved.guard.keys index next same exclusive rows indexed.stands;
}

pub made_indexed : (resolved : Resolved) (limits : Limits) (g prepared_graph h : Graph) (index prepared next : IndexState) (decided : Decided) (ready : Ready)
    → prepared_graph ≡ g → h ≡ changed prepared_graph ready.tables.delta → prepared.exclusive ≡ index.exclusive → prepared.rows ≡ index.rows
    → next.exclusive ≡ prepared.exclusive → next.rows ≡ rows_changed prepared.rows ready.rows.changes → IsReadyOf decided ready
    → IsGuarded resolved limits (changed g decided.delta) → StandsFor resolved (changed g decided.delta) resolved.guard.keys (index_changed index decided.changes)
    → IsIndexed resolved limits h next
made_indexed resolved limits g prepared_graph h index prepared next decided ready same done exclusive rows next_exclusive next_rows whole guarded stands = record {
  guarded = subst (λ (k : Graph). IsGuarded resolved limits k) (sym (made_graph g prepared_graph h decided ready same done whole)) guarded;
  stands = made_stands resolved (changed g decided.delta) h resolved.guard.keys index prepared next decided ready (made_graph g prepared_graph h decided ready same done whole)
      exclusive rows next_exclusive next_rows whole stands;
}

-- what was decided, done to both at once
pub done_indexed : (resolved : Resolved) (limits : Limits) (g h : Graph) (index next : IndexState) (decided : Decided) → h ≡ changed g decided.delta
    → next.exclusive ≡ index.exclusive → next.rows ≡ rows_changed index.rows decided.changes → IsGuarded resolved limits (changed g decided.delta)
    → StandsFor resolved (changed g decided.delta) resolved.guard.keys (index_changed index decided.changes) → IsIndexed resolved limits h next
done_indexed resolved limits g h index next decided done exclusive rows guarded stands = record {
  guarded = subst (λ (k : Graph). IsGuarded resolved limits k) (sym done) guarded;
  stands = still_stands resolved (changed g decided.delta) h resolved.guard.keys (index_changed index decided.changes) next done exclusive rows stands;
}

-- ---- what it says of one element

pub under_number : (resolved : Resolved) (g : Graph) (index : IndexState) (number : ℕ) (elem : Elem) → StandsFor resolved g resolved.guard.keys index
    → 0 < number → number ≤ length resolved.guard.keys → values_at index.rows number elem ≡ key_values_of resolved g number elem
under_number resolved g index zero elem stands some within = absurd (omega (arith, some))
under_number resolved g index (suc place) elem stands some within =
    let keys = resolved.guard.keys in
    let under = λ (key : Key). values_in_scope resolved g key elem in
    let before : suc place - 1 ≡ place = omega arith in
    ⊎_elim
    (λ there.
    stands.rows (suc place) there.0 there.2 elem
    ∙ sym (ap (option_and_then under) there.2)
    ∙ sym (ap (λ (n : ℕ). option_and_then under (slice_get keys n)) before))
    (λ past. absurd (omega (arith, past.0, within)))
    (slice_get_cases keys place).1
