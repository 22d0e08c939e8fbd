use Rattle.std.proofs.Common.{◌≡◌, ℕ, List, [], ◌∷◌, map, Option, IfOk, length, sym, ◌∙◌, ap, subst, arith}
use denote.Bor.{Bor}
use Rattle.std.specs.List.{enumerate_from, filter_map}
use Rattle.std.specs.Option.{option_map_or, option_copied}
use Rattle.std.proofs.lemmas.Bool.Decides.{nat_tests}
use Rattle.std.proofs.lemmas.List.{length-map}
use Rattle.pgs_syntax.specs.declared.script.GraphType.{GraphType}
use Rattle.pgs_resolve.specs.declared.fault.ResolveFault.{ResolveFault}
use Rattle.pgs_resolve.specs.declared.fault.ResolveFault.TheVariants as faults
use Rattle.pgs_resolve_declared.specs.Declarations.{graphs_of, keys_of}
use Rattle.pgs_resolve_declared.specs.Refused.{duplicates, unknowns, wrong_kinds, cycle}
use Rattle.pgs_resolve.specs.Resolution.{no_graph_type, bad_key}
use Rattle.pgs_resolve.proofs.Refusing.{at_last, named_none, some_graph}
use Rattle.pgs_resolve.proofs.resolution.first_refusal.Goals as goal

abbrev lent : Bor GraphType → GraphType
lent graph = graph.now

pub returns : goal.returns
returns c =
    let script = c.args.script.now in
    let cycles : Option (List ℕ) → List ResolveFault = λ found. option_map_or (λ name. faults.Cycle name ∷ []) found [] in
    let P : Option ResolveFault → Type 0 = λ first. IfOk c.first_bad_key.result (λ fault. fault ≡ first) in
    subst P
    (at_last (no_graph_type (graphs_of script)) (map faults.Duplicate (duplicates script)) (map faults.Unknown (unknowns script))
    (map faults.Kind (wrong_kinds script)) (cycles (cycle script)) (filter_map bad_key (enumerate_from 1 (keys_of script)))
    (some_graph (graphs_of script)
    (λ none. let count = length-map c.args.declarations.now.graphs.items lent in let e = ap length c.requires.graphs in absurd (grind (arith, nat_tests))))
    (named_none faults.Duplicate (duplicates script) (sym c.in_default.is ∙ c.in_ok-name.ensures))
    (named_none faults.Unknown (unknowns script) (sym (ap option_copied c.in_default-first_unknown.is) ∙ c.first_unknown.ensures script c.requires))
    (named_none faults.Kind (wrong_kinds script) (sym c.in_default-2.is ∙ c.in_ok-name-3.ensures))
    (ap cycles (sym (c.in_ok-name-4.ensures script c.requires) ∙ c.in_default-3.is)))
    (c.first_bad_key.ensures script c.requires)
