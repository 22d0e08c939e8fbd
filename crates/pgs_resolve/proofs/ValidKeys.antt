-- Keys without a fault, resolved: valid, and naming types that are there.
use Rattle.std.proofs.Common.{◌≡◌, ℕ, ◌+◌, ◌<◌, Bool, true, false, not, cond, ◌||◌, inl, inr, List, [], ◌∷◌, ◌++◌, length, take, map, Option, Some, None, refl, sym, ◌∙◌, ap, subst, arith, ltb}
use Rattle.std.specs.List.{list_all, find, fold, cons_option, slice_get}
use Rattle.std.specs.Option.{option_map, option_map_or, option_to_list, unwrap_or, is_some}
use Rattle.std.proofs.lemmas.Bool.{and_from, or_parts, or_left, lt-ltb, ltb-false, le-leb, not-false}
use Rattle.std.proofs.lemmas.List.{length-map}
use Rattle.std.proofs.lemmas.Option.{slice_get-map, slice_get_within}
use Rattle.pgs_base.specs.Pair.{same_name, has_name}
use Rattle.pgs_syntax.specs.declared.pattern.Atom.TheVariants.{HasLabel, FitsNode, FitsEdge}
use Rattle.pgs_syntax.specs.declared.pattern.Expr.{Expr}
use Rattle.pgs_syntax.specs.declared.pattern.Expr.TheVariants.{Element, Property}
use Rattle.pgs_syntax.specs.declared.pattern.Pattern.{Pattern}
use Rattle.pgs_syntax.specs.declared.raw.RawExpr.{RawExpr}
use Rattle.pgs_syntax.specs.declared.raw.RawKey.{RawKey}
use Rattle.pgs_syntax.specs.declared.raw.RawPath.{RawPath}
use Rattle.pgs_syntax.specs.declared.resolved.Resolved.{Resolved}
use Rattle.pgs_syntax.specs.Valid.{is_valid_pattern, is_valid_key_of, is_connected, are_one_kind, is_edge_var, read_var, names_types}
use Rattle.pgs_resolve_keys.specs.KeyFaults.{within_of, descriptor_names, are_too_large}
use Rattle.pgs_resolve_declared.specs.declared.order.Numbering.{Numbering}
use Rattle.pgs_resolve_declared.specs.Order.{number_in}
use Rattle.pgs_resolve_keys.specs.Patterns.{Variable, called, nameless, is_same, variables_at, variables_of, number_of, with_variable, name_atom, named_in, places_of, pattern_of, x_of, x_alone, descriptor_variables, resolved_expr, resolved_key}
use Rattle.pgs_resolve_keys.proofs.AtomsOfPaths.{AllGood, paths_ok, number_below}
use Rattle.pgs_resolve.proofs.FirstBad.{IsSound}
use Rattle.pgs_resolve.proofs.Fresh.{In}
use Rattle.pgs_resolve_declared.proofs.Same.{itself}
use Rattle.pgs_resolve.proofs.ValidGuard.{node_there, edge_there}
use Rattle.pgs_resolve.proofs.ValidPatterns.{pattern_valid}
use Rattle.pgs_resolve.proofs.VariablesOfPaths.{Kinded, OneKind, one_kind, one_kind_parts, one_kind_across, find_is, found_in, one_variable, stays_first, named_edge, named_node}

-- ---- what atoms name is there

module _ (schema : Resolved) (numbering : Numbering) (nodes : length schema.nodes ≡ length numbering.nodes) (edges : length schema.edges ≡ length numbering.edges) where
  name_there : (is_edge : Bool) (v : ℕ) (name : List ℕ) → names_types schema (name_atom numbering is_edge v name) ≡ true
  name_there false v name = by (number_in numbering.nodes name) refl
    where
      by : (o : Option ℕ) → number_in numbering.nodes name ≡ o → names_types schema (option_map_or (FitsNode v) o (HasLabel v name)) ≡ true
      by None e = refl
      by (Some n) e = node_there schema numbering nodes edges name n e
  name_there true v name = by (number_in numbering.edges name) refl
    where
      by : (o : Option ℕ) → number_in numbering.edges name ≡ o → names_types schema (option_map_or (FitsEdge v) o (HasLabel v name)) ≡ true
      by None e = refl
      by (Some n) e = edge_there schema numbering nodes edges name n e

  any_good : (var : Variable → ℕ) (number : ℕ) (places : List _) → AllGood var (λ is_edge v. Unit {0}) number places
  any_good var number [] = tt
  any_good var number (place ∷ places) = (tt, any_good var (number + 1) places)

  types_named : (x : List ℕ) (paths : List RawPath) → list_all (names_types schema) (pattern_of numbering x paths).atoms ≡ true
  types_named x paths =
      paths_ok numbering (number_of (variables_of x paths)) (λ is_edge v. Unit {0}) (names_types schema) (λ is_edge v g name. name_there is_edge v name)
      (λ is_edge v g key value. refl) (λ e a b he ha hb. refl) 0 paths (any_good (number_of (variables_of x paths)) 0 (places_of paths))

-- ---- the variable x is the first

-- paths that name x have it for the first variable, at a place
pub record FirstIs (x : List ℕ) (paths : List RawPath) : Type 0 where
  pub kind : Bool
  pub first : slice_get (variables_of x paths) 0 ≡ Some (called x, kind)
  pub among : In {X = Kinded} (called x, kind) (variables_at 0 (places_of paths))

named_found : (x : List ℕ) (number : ℕ) (places : List _) → has_name x (named_in places) ≡ true → is_some (find (is_same (called x)) (variables_at number places)) ≡ true
named_found x number [] h = cc
named_found x number (place ∷ places) h = by place.at.var h (named_found x (number + 1) places)
  where
    Later : Type 0
    Later = has_name x (named_in places) ≡ true → is_some (find (is_same (called x)) (variables_at (number + 1) places)) ≡ true

    same : (b : Bool) (v : Kinded) → (b || has_name x (named_in places)) ≡ true → Later →
        is_some (cond b (Some v) (find (is_same (called x)) (variables_at (number + 1) places))) ≡ true
    same true v e later = refl
    same false v e later = later e

    by : (o : Option (List ℕ)) → has_name x (cons_option o (named_in places)) ≡ true → Later →
        is_some (cond (is_same (called x) (option_map_or called o (nameless number), place.is_edge)) (Some (option_map_or called o (nameless number), place.is_edge))
        (find (is_same (called x)) (variables_at (number + 1) places))) ≡ true
    by None e later = later e
    by (Some n) e later = same (same_name x n) (called n, place.is_edge) e later

first_is : (x : List ℕ) (paths : List RawPath) → has_name x (named_in (places_of paths)) ≡ true → FirstIs x paths
first_is x paths h = by (find (is_same (called x)) (variables_at 0 (places_of paths))) refl (named_found x 0 (places_of paths) h)
  where
    all : List Kinded
    all = variables_at 0 (places_of paths)

    by : (o : Option Kinded) → find (is_same (called x)) all ≡ o → is_some o ≡ true → FirstIs x paths
    by None e h = cc
    by (Some w) e h =
        let same : called x ≡ w.0 = one_variable (called x) w.0 (find_is (is_same (called x)) all w e) in
        let P : Variable → Type 0 = λ v. In {X = Kinded} (v, w.1) all in
        record {
          kind = w.1;
          first = ap (λ o. slice_get (fold with_variable (option_to_list o) all) 0) e ∙ stays_first w [] all
              ∙ ap (λ v. let u : Kinded = (v, w.1) in Some u) (sym same);
          among = subst P (sym same) (found_in (is_same (called x)) all w e);
        }

-- ---- x alone

alone_valid : (edge_vars : List Bool) (kind : Bool) → slice_get edge_vars 0 ≡ Some kind → is_valid_pattern (record { edge_vars = take 1 edge_vars; atoms = [] }) ≡ true
alone_valid [] kind e = cc
alone_valid (true ∷ rest) kind e = refl
alone_valid (false ∷ rest) kind e = refl

alone_kind : (edge_vars : List Bool) (kind : Bool) → slice_get edge_vars 0 ≡ Some kind → are_one_kind (is_edge_var edge_vars 0) (is_edge_var (take 1 edge_vars) 0) ≡ true
alone_kind [] kind e = cc
alone_kind (true ∷ rest) kind e = refl
alone_kind (false ∷ rest) kind e = refl

alone_one : (edge_vars : List Bool) (kind : Bool) → slice_get edge_vars 0 ≡ Some kind → length (take 1 edge_vars) ≡ 1
alone_one [] kind e = cc
alone_one (b ∷ rest) kind e = refl

kind_itself : (a b : Bool) → a ≡ b → are_one_kind a b ≡ true
kind_itself true b e = sym e
kind_itself false b e = sym (ap not e)

first_named : (names : List (List ℕ)) (x : List ℕ) → slice_get names 0 ≡ Some x → has_name x names ≡ true
first_named [] x e = cc
first_named (n ∷ ns) x e = let same : x ≡ n = cc in or_left (same_name x n) _ (ap (same_name x) (sym same) ∙ itself x)

-- ---- a key without a fault

module _ (number : ℕ) (key : RawKey) (sound : IsSound number key) where
  abbrev x : List ℕ
  x = unwrap_or (x_of key) []

  abbrev linked : List ℕ → List RawPath → Bool
  linked y paths = is_connected (pattern_of (record { nodes = []; edges = [] }) y paths)

  x_named : (has_name x (named_in (places_of key.scope)) ≡ true) × (has_name x (descriptor_names key x) ≡ true)
  x_named = by (x_of key) refl sound.has_x
    where
      by : (o : Option (List ℕ)) → x_of key ≡ o → not (option_map_or (λ y. has_name y (descriptor_names key y)) o false) ≡ false →
          (has_name (unwrap_or o []) (named_in (places_of key.scope)) ≡ true) × (has_name (unwrap_or o []) (descriptor_names key (unwrap_or o [])) ≡ true)
      by None e h = cc
      by (Some y) e h = (first_named (named_in (places_of key.scope)) y e, not-false (has_name y (descriptor_names key y)) h)

  one : OneKind (places_of key.scope ++ places_of (within_of key))
  one = one_kind (places_of key.scope ++ places_of (within_of key)) sound.kinds

  limits : (are_too_large key.scope ≡ false) × (are_too_large (within_of key) ≡ false) × (ltb 16 (length key.exprs) ≡ false)
  limits =
      let last = or_parts (are_too_large key.scope || are_too_large (within_of key) || ltb 16 (length key.exprs)) (ltb 256 number) sound.small in
      let third = or_parts (are_too_large key.scope || are_too_large (within_of key)) (ltb 16 (length key.exprs)) last.0 in
      let second = or_parts (are_too_large key.scope) (are_too_large (within_of key)) third.0 in
      (second.0, second.1, third.1)

  links : (linked x key.scope ≡ true) × (option_map_or (linked x) key.within true ≡ true)
  links =
      let both = or_parts (not (linked x key.scope)) (not (option_map_or (linked x) key.within true)) sound.linked in
      (not-false (linked x key.scope) both.0, not-false (option_map_or (linked x) key.within true) both.1)

  scope_first : FirstIs x key.scope
  scope_first = first_is x key.scope x_named.0

  module _ (schema : Resolved) (numbering : Numbering) (nodes : length schema.nodes ≡ length numbering.nodes) (edges : length schema.edges ≡ length numbering.edges) where
    abbrev scope : Pattern
    scope = pattern_of numbering x key.scope

    scope_valid : is_valid_pattern scope ≡ true
    scope_valid =
        pattern_valid numbering x key.scope (one_kind_parts (places_of key.scope) (places_of (within_of key)) one).0
        (slice_get_within (variables_of x key.scope) 0 (called x, scope_first.kind) scope_first.first) limits.0 links.0

    kinds_first : (paths : List RawPath) (first : FirstIs x paths) → slice_get (pattern_of numbering x paths).edge_vars 0 ≡ Some first.kind
    kinds_first paths first =
        slice_get-map (λ (v : Kinded). v.1) (variables_of x paths) 0 ∙ ap (option_map (λ (v : Kinded). v.1)) first.first

    -- the descriptor, written or x alone
    abbrev descriptor : Option (List RawPath) → Pattern
    descriptor o = option_map_or (pattern_of numbering x) o (x_alone scope)

    abbrev own_variables : Option (List RawPath) → List Kinded
    own_variables o = option_map_or (variables_of x) o ((called x, false) ∷ [])

    record Descriptor (o : Option (List RawPath)) : Type 0 where
      valid : is_valid_pattern (descriptor o) ≡ true
      kind : are_one_kind (is_edge_var scope.edge_vars 0) (is_edge_var (descriptor o).edge_vars 0) ≡ true
      count : length (descriptor o).edge_vars ≡ length (own_variables o)
      some : 0 < length (own_variables o)
      types : list_all (names_types schema) (descriptor o).atoms ≡ true

    same_first : (paths : List RawPath) → OneKind (places_of key.scope ++ places_of paths) → (first : FirstIs x paths) → scope_first.kind ≡ first.kind
    same_first paths both first = by scope_first.kind first.kind scope_first.among first.among
      where
        by : (a b : Bool) → In {X = Kinded} (called x, a) (variables_at 0 (places_of key.scope)) → In {X = Kinded} (called x, b) (variables_at 0 (places_of paths)) → a ≡ b
        by true true i j = refl
        by false false i j = refl
        by true false i j =
            absurd (one_kind_across (places_of key.scope) (places_of paths) both x (inl (named_edge x 0 (places_of key.scope) i)) (inr (named_node x 0 (places_of paths) j)))
        by false true i j =
            absurd (one_kind_across (places_of key.scope) (places_of paths) both x (inr (named_edge x 0 (places_of paths) j)) (inl (named_node x 0 (places_of key.scope) i)))

    described : (o : Option (List RawPath)) → key.within ≡ o → Descriptor o
    described None e = record {
      valid = alone_valid scope.edge_vars scope_first.kind (kinds_first key.scope scope_first);
      kind = alone_kind scope.edge_vars scope_first.kind (kinds_first key.scope scope_first);
      count = alone_one scope.edge_vars scope_first.kind (kinds_first key.scope scope_first);
      some = omega arith;
      types = refl;
    }
    described (Some paths) e =
        let named : has_name x (named_in (places_of paths)) ≡ true =
        sym (ap (λ o. has_name x (option_map_or (λ ps. named_in (places_of ps)) o (x ∷ []))) e) ∙ x_named.1 in
        let P : List RawPath → Type 0 = λ ps. OneKind (places_of key.scope ++ places_of ps) in
        let both : OneKind (places_of key.scope ++ places_of paths) = subst P (ap (λ o. unwrap_or o []) e) one in
        let first : FirstIs x paths = first_is x paths named in
        let small : are_too_large paths ≡ false = sym (ap (λ o. are_too_large (unwrap_or o [])) e) ∙ limits.1 in
        let links_here : linked x paths ≡ true = sym (ap (λ o. option_map_or (linked x) o true) e) ∙ links.1 in
        let some : 0 < length (variables_of x paths) = slice_get_within (variables_of x paths) 0 (called x, first.kind) first.first in
        record {
          valid = pattern_valid numbering x paths (one_kind_parts (places_of key.scope) (places_of paths) both).1 some small links_here;
          kind =
              ap (λ o. are_one_kind (option_map_or (λ b. b) o false) (is_edge_var (pattern_of numbering x paths).edge_vars 0)) (kinds_first key.scope scope_first)
              ∙ ap (λ o. are_one_kind scope_first.kind (option_map_or (λ b. b) o false)) (kinds_first paths first)
              ∙ kind_itself scope_first.kind first.kind (same_first paths both first);
          count = length-map (variables_of x paths) (λ (v : Kinded). v.1);
          some = some;
          types = types_named schema numbering nodes edges x paths;
        }

    read_is : (variables : List Kinded) (expr : RawExpr) → read_var (resolved_expr variables expr) ≡ number_of variables (called expr.var)
    read_is variables expr = by expr.key
      where
        by : (o : Option (List ℕ)) → read_var (option_map_or (Property (number_of variables (called expr.var))) o (Element (number_of variables (called expr.var))))
            ≡ number_of variables (called expr.var)
        by None = refl
        by (Some k) = refl

    reads : (variables : List Kinded) (count : ℕ) → count ≡ length variables → 0 < length variables → (exprs : List RawExpr) →
        list_all (λ (expr : Expr). ltb (read_var expr) count) (map (resolved_expr variables) exprs) ≡ true
    reads variables count same some [] = refl
    reads variables count same some (expr ∷ exprs) =
        let is = read_is variables expr in
        let low = number_below variables (called expr.var) some in
        and_from _ _ (lt-ltb (read_var (resolved_expr variables expr)) count (omega (arith, is, low, same))) (reads variables count same some exprs)

    pub key_valid : is_valid_key_of schema (resolved_key numbering key) ≡ true
    key_valid =
        let own = described key.within refl in
        let few = ltb-false 16 (length key.exprs) limits.2 in
        let many = length-map key.exprs (resolved_expr (descriptor_variables x key)) in
        and_from _ _ (and_from _ _
        (and_from _ _ (and_from _ _ (and_from _ _ (and_from _ _ scope_valid own.valid) own.kind)
        (le-leb (length (map (resolved_expr (descriptor_variables x key)) key.exprs)) 16 (omega (arith, few, many))))
        (reads (own_variables key.within) (length (descriptor key.within).edge_vars) own.count own.some key.exprs))
        (types_named schema numbering nodes edges x key.scope)) own.types
