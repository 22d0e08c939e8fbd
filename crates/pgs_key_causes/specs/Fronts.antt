-- The patterns of the first visits of a walk, and the keys by which it is asked where they end.
use Rattle.std.specs.Prelude.{ℕ, ◌+◌, ◌-◌, ◌==◌, ◌&&◌, Bool, true, List, [], ◌∷◌, ◌++◌, map, flat_map, take, slice_get, unwrap_or, if◌then◌else◌}
use Rattle.std.specs.List.{list_any, enumerate_from, position, fold}
use Rattle.std.specs.Option.{option_map_or}
use Rattle.pgs_syntax.specs.declared.key.Key.{Key}
use Rattle.pgs_syntax.specs.declared.key.Qualifiers.{Qualifiers}
use Rattle.pgs_syntax.specs.declared.pattern.Atom.{Atom}
use Rattle.pgs_syntax.specs.declared.pattern.Expr.{Expr}
use Rattle.pgs_syntax.specs.declared.pattern.Expr.TheVariants.{Element}
use Rattle.pgs_syntax.specs.declared.pattern.Pattern.{Pattern}
use Rattle.pgs_syntax.specs.declared.raw.RawKey.{RawKey}
use Rattle.pgs_syntax.specs.declared.raw.RawPath.{RawPath}
use Rattle.pgs_syntax.specs.declared.raw.RawStep.{RawStep}
use Rattle.pgs_syntax.specs.Valid.{is_edge_var, read_var, is_valid_key}
use Rattle.pgs_resolve_declared.specs.declared.order.Numbering.{Numbering}
use Rattle.pgs_resolve_keys.specs.KeyFaults.{within_of}
use Rattle.pgs_resolve_keys.specs.Patterns.{Place, Variable, x_of, places_of, variables_at, variables_of, number_of, place_atoms, ends, resolved_key}
use Rattle.pgs_pattern_end.specs.declared.front.Front.{Front}
use Rattle.pgs_key_causes.specs.declared.walk.Occurrence.{Occurrence}
use Rattle.pgs_key_causes.specs.declared.walk.Visit.{Visit}
use Rattle.pgs_key_causes.specs.Reading.{is_forward}
use Rattle.pgs_key_causes.specs.Walk.{var_at, is_edge_at, walk}

-- A written descriptor: its places, the occurrence of a variable at each, whether each edge place leads to the node place behind it, and
-- which of its variables are edges.
pub record Descriptor : Type 0 where
  pub places : List Place
  pub occurrences : List Occurrence
  pub directions : List Bool
  pub edge_vars : List Bool

-- places as occurrences of variables, by their numbers among these; and those of paths, of which x is the first
abbrev pub occurrence_of : List (Variable × Bool) → Variable × Bool → Occurrence
occurrence_of variables v = record { var = number_of variables v.0; is_edge = v.1 }

abbrev pub occurrences_by : List (Variable × Bool) → List Place → List Occurrence
occurrences_by variables places = map (occurrence_of variables) (variables_at 0 places)

abbrev pub occurrences_of : List ℕ → List RawPath → List Occurrence
occurrences_of x paths = occurrences_by (variables_of x paths) (places_of paths)

-- whether edge places lead to the node places behind them; at node places it says nothing
abbrev pub directions_of : List RawPath → List Bool
directions_of paths = flat_map (λ (path : RawPath). true ∷ flat_map (λ (step : RawStep). step.forward ∷ true ∷ []) path.steps) paths

abbrev pub descriptor_of : Numbering → RawKey → Descriptor
descriptor_of numbering key =
    let paths = within_of key in
    record {
      places = places_of paths;
      occurrences = occurrences_of (unwrap_or (x_of key) []) paths;
      directions = directions_of paths;
      edge_vars = (resolved_key numbering key).descriptor.edge_vars;
    }

-- whether the keys of a part are valid
abbrev pub has_valid_keys : Front → Bool
has_valid_keys front = is_valid_key front.upto && is_valid_key front.before

-- variables with one more, where it isn't there yet, and the number of a variable of the descriptor among some
abbrev pub with_var : List ℕ → ℕ → List ℕ
with_var vars var = if list_any (λ other. other == var) vars then vars else vars ++ var ∷ []

abbrev pub new_number : List ℕ → ℕ → ℕ
new_number vars var = unwrap_or (position (λ other. other == var) vars) 0

module _ (places : List Occurrence) where
  -- the variables of a visit: of an edge place its own and those of its ends
  abbrev pub vars_of_visit : Visit → List ℕ
  vars_of_visit visit =
      let n = visit.place in
      if is_edge_at places n then var_at places n ∷ var_at places (n - 1) ∷ var_at places (n + 1) ∷ [] else var_at places n ∷ []

  -- the variables of visits, x first and the others as the walk comes to them
  abbrev pub vars_of : List Visit → List ℕ
  vars_of visits = fold with_var (0 ∷ []) (flat_map vars_of_visit visits)

-- what a visit asks: of an edge place that it has its ends, and of each what is written there
abbrev pub ends_atoms : Descriptor → List ℕ → ℕ → List Atom
ends_atoms descriptor vars n =
    let number : ℕ → ℕ = λ place. new_number vars (var_at descriptor.occurrences place) in
    if is_edge_at descriptor.occurrences n then ends (is_forward descriptor.directions n) (number n) (number (n - 1)) (number (n + 1)) ∷ []
    else []

module _ (numbering : Numbering) (descriptor : Descriptor) where
  abbrev pub written_atoms : List ℕ → ℕ → List Atom
  written_atoms vars n =
      option_map_or (λ (place : Place). place_atoms numbering place.is_edge (new_number vars (var_at descriptor.occurrences n)) place.at.filter)
      (slice_get descriptor.places n) []

  abbrev pub visit_atoms : List ℕ → Visit → List Atom
  visit_atoms vars visit = written_atoms vars visit.place ++ ends_atoms descriptor vars visit.place

  -- the pattern of visits: of no visit it is x alone
  abbrev pub visited_pattern : List Visit → Pattern
  visited_pattern visits =
      let vars = vars_of descriptor.occurrences visits in
      record {
        edge_vars = map (is_edge_var descriptor.edge_vars) vars;
        atoms = flat_map (visit_atoms vars) visits;
      }

  -- The key of a visit among visits: its scope are the places up to it, its descriptor those before it, and its expression is the
  -- variable from which the walk comes to it.
  abbrev pub visit_key : Qualifiers → List Visit → ℕ × Visit → Key
  visit_key qualifiers visits visit =
      let before = take visit.0 visits in
      record {
        qualifiers = qualifiers;
        scope = visited_pattern (take (visit.0 + 1) visits);
        descriptor = visited_pattern before;
        exprs = Element (new_number (vars_of descriptor.occurrences before) (var_at descriptor.occurrences visit.1.from)) ∷ [];
      }

  abbrev pub visit_front : Qualifiers → List Visit → ℕ × Visit → Front
  visit_front qualifiers visits visit =
      record { upto = visit_key qualifiers visits visit; before = visit_key qualifiers visits visit }

  -- the parts of visits, and those of the walk
  abbrev pub fronts_of : Qualifiers → List Visit → List Front
  fronts_of qualifiers visits = map (visit_front qualifiers visits) (enumerate_from 0 visits)

  abbrev pub place_fronts : Qualifiers → List Front
  place_fronts qualifiers = fronts_of qualifiers (walk descriptor.occurrences)

-- a key with other expressions
abbrev pub with_exprs : Key → List Expr → Key
with_exprs key exprs = record { qualifiers = key.qualifiers; scope = key.scope; descriptor = key.descriptor; exprs = exprs }

-- The keys of an expression: with the expressions up to it, and with its variable and the expressions before it.
abbrev pub expr_front : Key → ℕ × Expr → Front
expr_front key expr = record {
  upto = with_exprs key (take (expr.0 + 1) key.exprs);
  before = with_exprs key (Element (read_var expr.1) ∷ take expr.0 key.exprs);
}

abbrev pub expr_fronts : Key → List Front
expr_fronts key = map (expr_front key) (enumerate_from 0 key.exprs)
