-- Tables of numbers: what stands in them, and atoms whose variables have the numbers of a table.
use Rattle.std.proofs.Common.{◌≡◌, ℕ, zero, suc, ◌+◌, ◌-◌, ◌<◌, ◌≤◌, Bool, true, false, List, [], ◌∷◌, ◌++◌, length, map, slice_index, get_or, refl, sym, ◌∙◌, ap, arith}
use Rattle.std.specs.Prelude.{nat_lt}
use Rattle.std.specs.List.{list_all}
use Rattle.std.proofs.lemmas.Bool.{and_parts, ltb-true}
use Rattle.std.proofs.lemmas.Option.{slice_get_within}
use Rattle.pgs_syntax.specs.declared.pattern.Atom.{Atom}
use Rattle.pgs_syntax.specs.declared.pattern.Atom.TheVariants.{Ends, HasLabel, FitsNode, FitsEdge, Equals}
use Rattle.pgs_syntax.specs.declared.pattern.Expr.{Expr}
use Rattle.pgs_syntax.specs.declared.pattern.Expr.TheVariants.{Element, Property}
use Rattle.pgs_syntax.specs.Valid.{is_edge_var, speaks_of, read_var}
use Rattle.pgs_key_standing.specs.Joint.{beside, numbers}
use Rattle.pgs_key_standing.specs.Renamed.{renamed, renamed_expr}
use Rattle.pgs_key_standing.proofs.Classes.{number_at, at_first}
use Rattle.pgs_key_standing.proofs.Renamings.{speaks_ends, edge_in, node_in, renamed_same}

pub beside_later : (count var : ℕ) → 0 < var → count + (var - 1) ≡ beside count var
beside_later count zero lt = absurd (omega arith)
beside_later count (suc n) lt = omega arith

pub past_table : (xs : List ℕ) (i : ℕ) → length xs ≤ i → 0 ≡ slice_index xs i
past_table [] i le = refl
past_table (x ∷ xs) zero le = absurd (omega arith)
past_table (x ∷ xs) (suc i) le = past_table xs i (omega arith)

pub beside_first : (var : ℕ) → beside 1 var ≡ var
beside_first zero = refl
beside_first (suc n) = omega arith

pub same_list : (xs ys : List ℕ) → length xs ≡ length ys → ((i : ℕ) → i < length xs → slice_index xs i ≡ slice_index ys i) → xs ≡ ys
same_list [] [] size each = refl
same_list [] (y ∷ ys) size each = absurd (omega arith)
same_list (x ∷ xs) [] size each = absurd (omega arith)
same_list (x ∷ xs) (y ∷ ys) size each =
    ap (λ z. z ∷ xs) (each 0 (omega arith)) ∙ ap (λ zs. y ∷ zs) (same_list xs ys (omega arith) (λ i below. each (suc i) (omega arith)))

-- the table behind one variable is that of the numbers
pub first_table : (kinds : List Bool) (table : List ℕ) → length table ≡ length kinds → ((var : ℕ) → var < length kinds → slice_index table var ≡ beside 1 var) → table ≡ numbers kinds
first_table kinds table size each =
    let count = (at_first kinds).size in
    same_list table (numbers kinds) (omega arith) (λ i below. let lt : i < length kinds = omega arith in each i lt ∙ beside_first i ∙ sym (number_at kinds i lt))

-- atoms that speak of variables in a table have the numbers that stand in it
module _ (kinds : List Bool) (f g : ℕ → ℕ) (same : (var : ℕ) → var < length kinds → f var ≡ g var) where
  one_renamed : (atom : Atom) → speaks_of kinds atom ≡ true → renamed f atom ≡ renamed g atom
  one_renamed (Ends edge source target) h =
      let of = speaks_ends kinds edge source target h in
      ap (λ n. Ends n (f source) (f target)) (same edge (slice_get_within kinds edge true of.edge_is))
      ∙ ap (λ n. Ends (g edge) n (f target)) (same source (slice_get_within kinds source false of.source_is))
      ∙ ap (λ n. Ends (g edge) (g source) n) (same target (slice_get_within kinds target false of.target_is))
  one_renamed (HasLabel var label) h = ap (λ n. HasLabel n label) (same var (ltb-true var (length kinds) h))
  one_renamed (FitsNode var number) h = ap (λ n. FitsNode n number) (same var (node_in kinds var h))
  one_renamed (FitsEdge var number) h = ap (λ n. FitsEdge n number) (same var (edge_in kinds var h))
  one_renamed (Equals var key value) h = ap (λ n. Equals n key value) (same var (ltb-true var (length kinds) h))

  pub renamed_by : (atoms : List Atom) → list_all (speaks_of kinds) atoms ≡ true → map (renamed f) atoms ≡ map (renamed g) atoms
  renamed_by [] h = refl
  renamed_by (atom ∷ atoms) h =
      let parts = and_parts (speaks_of kinds atom) (list_all (speaks_of kinds) atoms) h in
      ap (λ a. a ∷ map (renamed f) atoms) (one_renamed atom parts.0) ∙ ap (λ rest. renamed g atom ∷ rest) (renamed_by atoms parts.1)

  one_read : (expr : Expr) → nat_lt (read_var expr) (length kinds) ≡ true → renamed_expr f expr ≡ renamed_expr g expr
  one_read (Element var) h = ap Element (same var (ltb-true var (length kinds) h))
  one_read (Property var key) h = ap (λ n. Property n key) (same var (ltb-true var (length kinds) h))

  pub read_by : (exprs : List Expr) → list_all (λ (expr : Expr). nat_lt (read_var expr) (length kinds)) exprs ≡ true → map (renamed_expr f) exprs ≡ map (renamed_expr g) exprs
  read_by [] h = refl
  read_by (expr ∷ exprs) h =
      let parts = and_parts (nat_lt (read_var expr) (length kinds)) (list_all (λ (e : Expr). nat_lt (read_var e) (length kinds)) exprs) h in
      ap (λ a. a ∷ map (renamed_expr f) exprs) (one_read expr parts.0) ∙ ap (λ rest. renamed_expr g expr ∷ rest) (read_by exprs parts.1)

pub table_beside : (kinds : List Bool) (count : ℕ) (table : List ℕ) (atoms : List Atom) → list_all (speaks_of kinds) atoms ≡ true →
    ((var : ℕ) → var < length kinds → slice_index table var ≡ beside count var) →
    map (renamed (λ var. slice_index table var)) atoms ≡ map (renamed (beside count)) atoms
table_beside kinds count table atoms speak each = renamed_by kinds (λ var. slice_index table var) (beside count) each atoms speak

pub exprs_beside : (kinds : List Bool) (count : ℕ) (table : List ℕ) (exprs : List Expr) →
    list_all (λ (expr : Expr). nat_lt (read_var expr) (length kinds)) exprs ≡ true → ((var : ℕ) → var < length kinds → slice_index table var ≡ beside count var) →
    map (renamed_expr (λ var. slice_index table var)) exprs ≡ map (renamed_expr (beside count)) exprs
exprs_beside kinds count table exprs read each = read_by kinds (λ var. slice_index table var) (beside count) each exprs read

pub beside_one : (kinds : List Bool) (atoms : List Atom) → list_all (speaks_of kinds) atoms ≡ true → map (renamed (beside 1)) atoms ≡ atoms
beside_one kinds atoms speak = renamed_by kinds (beside 1) (λ var. var) (λ var below. beside_first var) atoms speak ∙ renamed_same atoms

pub edge_read : (kinds : List Bool) (var : ℕ) → var < length kinds → get_or kinds var false ≡ is_edge_var kinds var
edge_read [] var below = absurd (omega arith)
edge_read (k ∷ kinds) zero below = refl
edge_read (k ∷ kinds) (suc var) below = edge_read kinds var (omega arith)

pub no_edge : (kinds : List Bool) (var : ℕ) → length kinds ≤ var → false ≡ is_edge_var kinds var
no_edge [] var le = refl
no_edge (k ∷ kinds) zero le = absurd (omega arith)
no_edge (k ∷ kinds) (suc var) le = no_edge kinds var (omega arith)

pub wide_count : (kinds : List Bool) → length (kinds ++ false ∷ false ∷ []) ≡ length kinds + 2
wide_count [] = omega arith
wide_count (k ∷ kinds) = let rest : length (kinds ++ false ∷ false ∷ []) ≡ length kinds + 2 = wide_count kinds in omega arith
