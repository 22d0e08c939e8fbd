-- How many edge places paths have.
use Rattle.std.proofs.Common.{arith, ◌≡◌, ◌∙◌, ◌+◌, ◌-◌, ◌≤◌, ℕ, suc, List, [], ◌∷◌, ap, sym, refl, flat_map, length, take, drop, get_or, length-append}
use Rattle.std.proofs.lemmas.Grind.{common_steps}
use Rattle.std.proofs.lemmas.List.Elements.{filter-append}
use Rattle.pgs_syntax.specs.declared.raw.RawPath.{RawPath}
use Rattle.pgs_syntax.specs.declared.raw.RawStep.{RawStep}
use Rattle.pgs_resolve_keys.specs.KeyFaults.{edge_places}
use Rattle.pgs_resolve_keys.specs.Patterns.{Place, places_of, places_of_step}

abbrev pub edges_in : List RawPath → ℕ
edges_in paths = length (edge_places (places_of paths))

step_edges : (steps : List RawStep) → length (edge_places (flat_map places_of_step steps)) ≡ length steps
step_edges [] = refl
step_edges (step ∷ steps) = ap suc (step_edges steps)

-- a path more has as many as it has steps
pub edges_cons : (path : RawPath) (paths : List RawPath) → edges_in (path ∷ paths) ≡ length path.steps + edges_in paths
edges_cons path paths =
    ap length (filter-append (λ (place : Place). place.is_edge) (flat_map places_of_step path.steps) (places_of paths))
    ∙ length-append (edge_places (flat_map places_of_step path.steps)) (edge_places (places_of paths))
    ∙ ap (λ (count : ℕ). count + edges_in paths) (step_edges path.steps)

-- behind the first path fewer may come, by as many edge places as it has
pub after_one : (rest : List RawPath) (path : RawPath) (steps : List RawStep) (left total : ℕ) → 1 ≤ length rest → path ≡ get_or rest 0 path
    → steps ≡ path.steps → length steps ≤ left → left + total ≡ 8 + edges_in rest
    → left - length steps + total ≡ 8 + edges_in (take (length rest - 1) (drop 1 rest))
after_one [] path steps left total some here is within before = absurd (omega (arith, some))
after_one (first ∷ rest) path steps left total some here is within before =
    let count : edges_in (first ∷ rest) ≡ length steps + edges_in rest =
    edges_cons first rest ∙ ap (λ (item : RawPath). length item.steps + edges_in rest) (sym here) ∙ ap (λ (items : List RawStep). length items + edges_in rest) (sym is)
    in
    let behind : take (length (first ∷ rest) - 1) (drop 1 (first ∷ rest)) ≡ rest = grind (arith, common_steps) in
    let whole : edges_in (take (length (first ∷ rest) - 1) (drop 1 (first ∷ rest))) ≡ edges_in rest = ap edges_in behind in
    omega arith
