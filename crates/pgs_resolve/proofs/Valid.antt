-- What resolves without refusal is valid.
use Rattle.std.proofs.Common.{◌≡◌, ℕ, ◌+◌, Bool, true, List, [], ◌∷◌, ◌++◌, length, map, Option, Some, None, Ok, refl, sym, ◌∙◌, ap, leb}
use Rattle.std.specs.List.{list_all, flat_map}
use Rattle.std.specs.Option.{option_map_or}
use Rattle.std.proofs.lemmas.Bool.{and_from}
use Rattle.std.proofs.lemmas.List.{length-map}
use Rattle.std.proofs.lemmas.List.Folds.{list_all-map}
use Rattle.pgs_parser.specs.Statements.{count_from, places_in}
use Rattle.pgs_syntax.specs.declared.element_type.NodeType.{NodeType}
use Rattle.pgs_syntax.specs.declared.element_type.EdgeType.{EdgeType}
use Rattle.pgs_syntax.specs.declared.raw.RawKey.{RawKey}
use Rattle.pgs_syntax.specs.declared.resolved.Resolved.{Resolved}
use Rattle.pgs_syntax.specs.declared.script.GraphType.{GraphType}
use Rattle.pgs_syntax.specs.declared.script.Script.{Script}
use Rattle.pgs_syntax.specs.Valid.{is_valid, is_valid_key_of}
use Rattle.pgs_resolve.specs.declared.fault.ResolveFault.{ResolveFault}
use Rattle.pgs_resolve.specs.declared.fault.ResolveFault.TheVariants as faults
use Rattle.pgs_resolve_declared.specs.Declarations.{nodes_of, edges_of, keys_of}
use Rattle.pgs_resolve_declared.specs.Imports.{walked_graphs}
use Rattle.pgs_resolve.specs.Guard.{each_once, name_of}
use Rattle.pgs_resolve_declared.specs.declared.order.Numbering.{Numbering}
use Rattle.pgs_resolve_declared.specs.Order.{numbering_of}
use Rattle.pgs_resolve_keys.specs.Patterns.{resolved_key}
use Rattle.pgs_resolve_declared.specs.Refused.{marks_of, seconds_after, duplicates, cyclic, named_by, cycle}
use Rattle.pgs_resolve.specs.Resolution.{refusals, resolved, resolution}
use Rattle.pgs_resolve.proofs.Each.{of_guard, keys_in}
use Rattle.pgs_resolve.proofs.FirstBad.{AllSound, all_sound, is_sound}
use Rattle.pgs_resolve.proofs.Refusing.{not_refused, resolved_only}
use Rattle.pgs_resolve.proofs.ValidGuard.{types_there, few_guard_keys}
use Rattle.pgs_resolve.proofs.ValidKeys.{key_valid}
use Rattle.pgs_resolve.proofs.ValidPlaces.{places_distinct}
use Rattle.pgs_resolve.proofs.ValidTypes.{nodes_valid, edges_valid, node_count, edge_count}

none_mapped : (fault : List ℕ → ResolveFault) (names : List (List ℕ)) → map fault names ≡ [] → names ≡ []
none_mapped fault [] h = refl
none_mapped fault (name ∷ names) h = cc

no_cycle : (o : Option (List ℕ)) → option_map_or (λ name. faults.Cycle name ∷ []) o [] ≡ [] → o ≡ None
no_cycle None h = refl
no_cycle (Some name) h = cc

module _ (script : Script) (none : refusals script ≡ []) (placed : count_from 1 (flat_map places_in script.statements) ≡ true) where
  abbrev numbering : Numbering
  numbering = numbering_of script

  abbrev schema : Resolved
  schema = resolved script

  once : seconds_after [] (flat_map marks_of script.statements) ≡ []
  once = none_mapped faults.Duplicate (duplicates script) (not_refused script none).duplicates

  sound : AllSound 1 (keys_of script)
  sound = all_sound 1 (keys_of script) (not_refused script none).keys

  abbrev fine : RawKey → Bool
  fine key = is_valid_key_of schema (resolved_key numbering key)

  each_fine : (n : ℕ) (keys : List RawKey) → AllSound n keys → list_all fine keys ≡ true
  each_fine n [] s = refl
  each_fine n (key ∷ keys) s =
      and_from _ _ (key_valid n key (is_sound n key s.0) schema numbering (node_count script once) (edge_count script once)) (each_fine (n + 1) keys s.1)

  abbrev written : List RawKey
  written = flat_map keys_in (walked_graphs script)

  keys_valid : list_all (is_valid_key_of schema) (map (resolved_key numbering) written) ≡ true
  keys_valid = list_all-map (is_valid_key_of schema) (resolved_key numbering) written ∙ of_guard fine script (each_fine 1 (keys_of script) sound)

  abbrev on_types : List (List ℕ)
  on_types =
      cyclic (named_by script)
      (map (λ (type : NodeType (List ℕ)). type.name) (nodes_of script) ++ map (λ (type : EdgeType (List ℕ)). type.name) (edges_of script))

  few : leb (length (map (resolved_key numbering) written)) 256 ≡ true
  few =
      ap (λ n. leb n 256) (length-map written (resolved_key numbering))
      ∙ few_guard_keys script on_types (no_cycle (cycle script) (not_refused script none).cycle) sound

  pub all_valid : is_valid schema ≡ true
  all_valid =
      and_from _ _ (and_from _ _ (and_from _ _ (and_from _ _ (and_from _ _ (nodes_valid script once) (edges_valid script once))
      (places_distinct script once placed))
      (types_there schema numbering (node_count script once) (edge_count script once)
      (each_once (map name_of (flat_map (λ (type : GraphType). type.members) (walked_graphs script)))))) few) keys_valid

pub schema_valid : (script : Script) (schema : Resolved) → count_from 1 (flat_map places_in script.statements) ≡ true → resolution script ≡ Ok schema →
    is_valid schema ≡ true
schema_valid script schema placed ok =
    let only = resolved_only script schema ok in
    ap is_valid (sym only.1) ∙ all_valid script only.0 placed
