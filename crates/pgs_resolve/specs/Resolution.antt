-- The schema of a script: the first of its refusals, or the one resolved schema.
use Rattle.std.specs.Prelude.{ℕ, List, [], ◌∷◌, ◌++◌, Option, Result, Ok, Err, map, filter_map, option_map}
use Rattle.std.specs.List.{enumerate_from}
use Rattle.std.specs.Option.{option_map_or}
use Rattle.pgs_syntax.specs.declared.raw.RawKey.{RawKey}
use Rattle.pgs_syntax.specs.declared.resolved.Resolved.{Resolved}
use Rattle.pgs_syntax.specs.declared.script.GraphType.{GraphType}
use Rattle.pgs_syntax.specs.declared.script.Script.{Script}
use Rattle.pgs_resolve.specs.declared.fault.ResolveFault.{ResolveFault}
use Rattle.pgs_resolve.specs.declared.fault.ResolveFault.TheVariants as faults
use Rattle.pgs_resolve_declared.specs.Declarations.{graphs_of, keys_of}
use Rattle.pgs_resolve_declared.specs.Refused.{duplicates, unknowns, wrong_kinds, cycle}
use Rattle.pgs_resolve_declared.specs.Order.{numbering_of, resolved_nodes, resolved_edges}
use Rattle.pgs_resolve_keys.specs.KeyFaults.{cause_of}
use Rattle.pgs_resolve.specs.Guard.{guarding}

-- a script without graph types is refused
abbrev pub no_graph_type : List GraphType → List ResolveFault
no_graph_type [] = faults.NoGraphType ∷ []
no_graph_type (type ∷ types) = []

-- the refusal of a key, by its number in the script, where it has a fault
abbrev pub bad_key : ℕ × RawKey → Option ResolveFault
bad_key key = option_map (faults.BadKey key.0) (cause_of key.0 key.1)

-- all refusals of a script, in the order in which they are tested
abbrev pub refusals : Script → List ResolveFault
refusals script =
    no_graph_type (graphs_of script) ++ map faults.Duplicate (duplicates script) ++ map faults.Unknown (unknowns script)
    ++ map faults.Kind (wrong_kinds script) ++ option_map_or (λ name. faults.Cycle name ∷ []) (cycle script) []
    ++ filter_map bad_key (enumerate_from 1 (keys_of script))

-- the schema of a script that isn't refused
abbrev pub resolved : Script → Resolved
resolved script =
    let numbering = numbering_of script in
    record {
      nodes = resolved_nodes script numbering;
      edges = resolved_edges script numbering;
      guard = guarding script numbering;
    }

-- the first refusal where there is one, else the schema
abbrev pub first_refusal : List ResolveFault → Resolved → Result Resolved ResolveFault
first_refusal [] schema = Ok schema
first_refusal (fault ∷ faults) schema = Err fault

unfoldable pub resolution : Script → Result Resolved ResolveFault
resolution script = first_refusal (refusals script) (resolved script)
