-- The places of a valid key: the types that they name are there, and they are few. So what is found of them is said of the key.
use Rattle.std.proofs.Common.{◌≡◌, ℕ, ◌≤◌, Bool, true, false, ◌==◌, cond, List, [], ◌∷◌, length, map, Result, Ok, Err, IfOk, MatchBool, refl, sym, ◌∙◌, subst, true≢false}
use Rattle.std.specs.List.{list_all}
use Rattle.std.proofs.lemmas.Bool.{and_parts, and_from, false_from_ne_true}
use Rattle.pgs_base.specs.declared.row.NodeRow.{NodeRow}
use Rattle.pgs_syntax.specs.declared.key.Key.{Key}
use Rattle.pgs_syntax.specs.declared.pattern.Atom.{Atom}
use Rattle.pgs_syntax.specs.declared.pattern.Atom.TheVariants.{Ends, HasLabel, FitsNode, FitsEdge, Equals}
use Rattle.pgs_syntax.specs.declared.pattern.Expr.{Expr}
use Rattle.pgs_syntax.specs.declared.pattern.Pattern.{Pattern}
use Rattle.pgs_syntax.specs.declared.resolved.Resolved.{Resolved}
use Rattle.pgs_syntax.specs.Join.{is_empty}
use Rattle.pgs_syntax.specs.KeyValues.{is_in_scope, key_values}
use Rattle.pgs_syntax.specs.Valid.{is_edge_var, is_valid_key, is_valid_key_of, names_types}
use Rattle.pgs_conform.specs.declared.shape.Shape.{Shape}
use Rattle.pgs_key_standing.specs.declared.demand.Demand.{Demand}
use Rattle.pgs_key_standing.specs.Demands.{are_small, are_in, meets, CanMeet, CannotMeet}
use Rattle.pgs_key_standing.specs.Joint.{beside, joint, joint_exprs, widened, with_ends, placed_of, place_of, scope_places, value_places}
use Rattle.pgs_key_standing.specs.Kinds.{all_agree, has_literal, ask_kinds}
use Rattle.pgs_key_standing.specs.Placed.{Placed, HasPairs, LacksPairs}
use Rattle.pgs_key_standing.specs.Reach.{HasScope, LacksScope, HasValue, LacksValue}
use Rattle.pgs_key_standing.specs.Renamed.{renamed}
use Rattle.pgs_key_standing.proofs.Decided.{has_by, lacks_by}
use Rattle.pgs_key_standing.proofs.Matched.{scope_pairs, pairs_scope, value_pairs, pairs_value}
use Rattle.pgs_key_standing.proofs.Sound.{valid_sound, joint_sound, scope_valid, ends_whole, all_append}

-- ---- types that are named

module _ (resolved : Resolved) where
  name_renamed : (f : ℕ → ℕ) (atom : Atom) → names_types resolved (renamed f atom) ≡ names_types resolved atom
  name_renamed f (Ends edge source target) = refl
  name_renamed f (HasLabel var label) = refl
  name_renamed f (FitsNode var number) = refl
  name_renamed f (FitsEdge var number) = refl
  name_renamed f (Equals var key value) = refl

  names_renamed : (f : ℕ → ℕ) (atoms : List Atom) → list_all (names_types resolved) atoms ≡ true → list_all (names_types resolved) (map (renamed f) atoms) ≡ true
  names_renamed f [] h = refl
  names_renamed f (atom ∷ atoms) h =
      let parts = and_parts (names_types resolved atom) (list_all (names_types resolved) atoms) h in
      and_from _ _ (name_renamed f atom ∙ parts.0) (names_renamed f atoms parts.1)

  names_wide : (pattern : Pattern) → list_all (names_types resolved) pattern.atoms ≡ true → list_all (names_types resolved) (with_ends pattern).atoms ≡ true
  names_wide pattern h = by (is_edge_var pattern.edge_vars 0)
    where
      by : (b : Bool) → list_all (names_types resolved) (cond b (widened pattern) pattern).atoms ≡ true
      by true = h
      by false = h

  names_placed : (pattern : Pattern) (exprs : List Expr) → list_all (names_types resolved) pattern.atoms ≡ true → list_all (names_types resolved) (placed_of (with_ends pattern) exprs).atoms ≡ true
  names_placed pattern exprs h = names_renamed (place_of (with_ends pattern)) (with_ends pattern).atoms (names_wide pattern h)

module _ (resolved : Resolved) (key : Key) (valid : is_valid_key_of resolved key ≡ true) where
  pub valid_of : is_valid_key key ≡ true
  valid_of = (and_parts _ _ (and_parts _ _ valid).0).0

  scope_named : list_all (names_types resolved) key.scope.atoms ≡ true
  scope_named = (and_parts _ _ (and_parts _ _ valid).0).1

  descriptor_named : list_all (names_types resolved) key.descriptor.atoms ≡ true
  descriptor_named = (and_parts _ _ valid).1

  pub scope_types : list_all (names_types resolved) (scope_places key).atoms ≡ true
  scope_types = names_placed resolved key.scope [] scope_named

  pub value_types : list_all (names_types resolved) (value_places key).atoms ≡ true
  value_types =
      names_placed resolved (joint key) (joint_exprs key)
      (all_append (names_types resolved) key.scope.atoms _ scope_named (names_renamed resolved (beside (length key.scope.edge_vars)) key.descriptor.atoms descriptor_named))

  pub scope_few : length (scope_places key).kinds ≤ 42
  scope_few = (ends_whole key.scope (valid_sound key.scope (scope_valid key valid_of))).few

  pub value_few : length (value_places key).kinds ≤ 42
  value_few = (ends_whole (joint key) (joint_sound key valid_of)).few

-- ---- answers

if_ok_bool : {E : Type 0} (r : Result Bool E) (A B C D : Type 0) → (A → C) → (B → D) → IfOk r (λ b. MatchBool b A B) → IfOk r (λ b. MatchBool b C D)
if_ok_bool (Ok true) A B C D f g h = f h
if_ok_bool (Ok false) A B C D f g h = g h
if_ok_bool (Err e) A B C D f g h = tt

pub decided : {E : Type 0} (r : Result Bool E) (resolved : Resolved) (placed : Placed) (places searched : List Shape) (demands asked : List Demand) → searched ≡ places → asked ≡ demands →
    list_all has_literal placed.atoms ≡ true → all_agree placed.atoms ≡ true → ((ps : List NodeRow) → are_in places ps ≡ (length ps == length placed.kinds)) →
    ((ps : List NodeRow) → are_small ps ≡ true → list_all (meets ps) demands ≡ ask_kinds resolved placed ps) →
    IfOk r (λ can. MatchBool can (CanMeet searched asked) (CannotMeet searched asked)) → IfOk r (λ has. MatchBool has (HasPairs resolved placed) (LacksPairs resolved placed))
decided r resolved placed places searched demands asked same equal literals agrees any met h =
    if_ok_bool r (CanMeet places demands) (CannotMeet places demands) (HasPairs resolved placed) (LacksPairs resolved placed)
    (has_by resolved placed places demands literals any met agrees) (lacks_by resolved placed places demands literals any met)
    (subst (λ (ss : List Shape). IfOk r (λ can. MatchBool can (CanMeet ss demands) (CannotMeet ss demands))) same
    (subst (λ (ds : List Demand). IfOk r (λ can. MatchBool can (CanMeet searched ds) (CannotMeet searched ds))) equal h))

lacking : (resolved : Resolved) (placed : Placed) → LacksPairs resolved placed → HasPairs resolved placed → ⊥
lacking resolved placed lacks has = true≢false (sym has.asked ∙ lacks has.ps has.pairs has.count)

module _ (resolved : Resolved) (key : Key) (valid : is_valid_key_of resolved key ≡ true) where
  lacks_scope : LacksPairs resolved (scope_places key) → LacksScope resolved key
  lacks_scope lacks g elem standing = false_from_ne_true (is_in_scope resolved g key elem) (λ scope.
      lacking resolved (scope_places key) lacks (scope_pairs resolved key (valid_of resolved key valid) (record { g = g; elem = elem; standing = standing; scope = scope })))

  lacks_value : LacksPairs resolved (value_places key) → LacksValue resolved key
  lacks_value lacks g elem standing scope = by (is_empty (key_values resolved g key elem)) refl
    where
      by : (b : Bool) → is_empty (key_values resolved g key elem) ≡ b → b ≡ true
      by true e = refl
      by false e = absurd (lacking resolved (value_places key) lacks
          (value_pairs resolved key (valid_of resolved key valid) (record { g = g; elem = elem; standing = standing; scope = scope; value = e })))

  pub scope_answer : {E : Type 0} (r : Result Bool E) (placed : Placed) → placed ≡ scope_places key → IfOk r (λ has. MatchBool has (HasPairs resolved placed) (LacksPairs resolved placed)) →
      IfOk r (λ has. MatchBool has (HasScope resolved key) (LacksScope resolved key))
  scope_answer r placed same h =
      if_ok_bool r (HasPairs resolved (scope_places key)) (LacksPairs resolved (scope_places key)) (HasScope resolved key) (LacksScope resolved key)
      (pairs_scope resolved key (valid_of resolved key valid)) lacks_scope
      (subst (λ (p : Placed). IfOk r (λ has. MatchBool has (HasPairs resolved p) (LacksPairs resolved p))) same h)

  pub value_answer : {E : Type 0} (r : Result Bool E) (placed : Placed) → placed ≡ value_places key → IfOk r (λ has. MatchBool has (HasPairs resolved placed) (LacksPairs resolved placed)) →
      IfOk r (λ has. MatchBool has (HasValue resolved key) (LacksValue resolved key))
  value_answer r placed same h =
      if_ok_bool r (HasPairs resolved (value_places key)) (LacksPairs resolved (value_places key)) (HasValue resolved key) (LacksValue resolved key)
      (pairs_value resolved key (valid_of resolved key valid)) lacks_value
      (subst (λ (p : Placed). IfOk r (λ has. MatchBool has (HasPairs resolved p) (LacksPairs resolved p))) same h)
