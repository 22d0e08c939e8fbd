-- A graph that can stand has an element in the scope of a key, and one with a key value, exactly where there are pairs as the places ask.
use Rattle.std.proofs.Common.{◌≡◌, ℕ, zero, suc, ◌+◌, ◌<◌, Bool, true, false, ◌&&◌, ◌==◌, cond, List, [], ◌∷◌, ◌++◌, drop, length, slice_index, slice_get, Option, Some, None, is_some, refl, sym, ◌∙◌, ap, arith}
use Rattle.std.specs.Prelude.{option_and_then, nat_lt}
use Rattle.std.specs.BTreeMap.{is_at}
use Rattle.std.specs.Cmp.{tied_itself, Equal-is}
use Rattle.std.specs.Option.{option_map_or, option_map}
use Rattle.std.specs.Ordering.{is_eq}
use Rattle.std.specs.List.{list_any, list_all}
use Rattle.std.proofs.lemmas.Bool.{true≢false, and_parts, and_from, or_left, eqb-true, eq-eqb}
use Rattle.std.proofs.lemmas.List.{length-map}
use Rattle.std.proofs.lemmas.Option.{same_Some, slice_get_within}
use Rattle.pgs_base.specs.declared.element.EdgeId.{EdgeId}
use Rattle.pgs_base.specs.declared.element.Elem.{Elem}
use Rattle.pgs_base.specs.declared.element.Elem.TheVariants.{Node, Edge}
use Rattle.pgs_base.specs.declared.part.Part.{Part}
use Rattle.pgs_base.specs.declared.row.EdgeRow.{EdgeRow}
use Rattle.pgs_base.specs.declared.row.NodeRow.{NodeRow}
use Rattle.pgs_base.specs.Graph.{Graph, node_at, edge_at, has_ends, edge_cmp}
use Rattle.pgs_base.specs.Order.{elem_cmp, tuple_cmp}
use Rattle.pgs_base.specs.OrderLaws.{elem_cmp_total, exact_elem, tuple_cmp_total}
use Rattle.pgs_base.proofs.Graphs.{graph_parts}
use Rattle.pgs_syntax.specs.declared.key.Key.{Key}
use Rattle.pgs_syntax.specs.declared.pattern.Atom.{Atom}
use Rattle.pgs_syntax.specs.declared.pattern.Atom.TheVariants.{Ends, HasLabel, FitsNode, FitsEdge, Equals}
use Rattle.pgs_syntax.specs.declared.pattern.Expr.{Expr}
use Rattle.pgs_syntax.specs.declared.pattern.Pattern.{Pattern}
use Rattle.pgs_syntax.specs.declared.resolved.Resolved.{Resolved}
use Rattle.pgs_syntax.specs.Join.{is_empty}
use Rattle.pgs_syntax.specs.KeyValues.{starts_at, part_of, tuple_of, key_values}
use Rattle.pgs_syntax.specs.Matches.{same_elem, are_there, holds, is_match, leads}
use Rattle.pgs_syntax.specs.Valid.{is_edge_var, speaks_of, is_valid_key, read_var, together}
use Rattle.pgs_syntax.proofs.Assigned.{match_found, match_given, value_found, value_given}
use Rattle.pgs_key_standing.specs.Joint.{beside, joint, joint_exprs, with_ends, classes_after, place_of, placed_of, numbers, scope_places, value_places}
use Rattle.pgs_key_standing.specs.Placed.{ends_of, HasPairs}
use Rattle.pgs_key_standing.specs.Reach.{IsStanding, HasScope, HasValue}
use Rattle.pgs_key_standing.proofs.Built.{built, elems_from, node_among}
use Rattle.pgs_key_standing.proofs.Classes.{together_carries, at_first, number_at}
use Rattle.pgs_key_standing.proofs.Gathered.{get_within, get_first, get_later, get_dropped, is_there, there_count, there_append, there_dropped, gathered, gathered_at, gathered_there, gathered_holds}
use Rattle.pgs_key_standing.proofs.Renamings.{speaks_ends, all_renamed, parts_renamed, renamed_same, exprs_same, edge_kind}
use Rattle.pgs_key_standing.proofs.Sound.{IsSound, IsWhole, ends_whole, valid_sound, joint_sound, joint_read, scope_valid, descriptor_valid, exprs_read, keeps_own, keeps_other, keeps_more, keeps_place, is_placed, all_append, all_first, all_later, all_read, count_few}
use Rattle.pgs_key_standing.proofs.Stands.{built_stands, built_there, built_holds, all_present}
use Rattle.pgs_key_standing.proofs.Taken.{led, ends_led, taken, taken_asked, taken_count, taken_pairs, edge_listed, found_passes}

-- elements that are a match of a pattern, with all that is read present, in a graph that can stand
pub record HasMatch (resolved : Resolved) (pattern : Pattern) (exprs : List Expr) (g : Graph) (elems : List Elem) : Type 0 where
  pub there : are_there g pattern.edge_vars elems ≡ true
  pub hold : list_all (holds resolved g elems) pattern.atoms ≡ true
  pub present : list_all (λ expr. is_some (part_of g elems expr)) exprs ≡ true

pub record IsReached (resolved : Resolved) (pattern : Pattern) (exprs : List Expr) : Type 0 where
  pub g : Graph
  pub elems : List Elem
  pub standing : IsStanding resolved g
  pub match : HasMatch resolved pattern exprs g elems

-- ---- variables of one class have one element

module _ (resolved : Resolved) (pattern : Pattern) (whole : IsWhole pattern) (g : Graph) (elems : List Elem)
    (hold : list_all (holds resolved g elems) pattern.atoms ≡ true) where
  abbrev One : ℕ → ℕ → Type 0
  One a b = slice_get elems a ≡ slice_get elems b

  same_node : (edge source target first second : Option Elem) → leads g edge source target ≡ true → leads g edge first second ≡ true → (source ≡ first) × (target ≡ second)
  same_node edge source target first second h k =
      let a = led g edge source target h in
      let b = led g edge first second k in
      let id : a.id ≡ b.id = one_edge a.id b.id (sym a.edge_is ∙ b.edge_is) in
      let row : a.row ≡ b.row = same_Some a.row b.row (sym a.row_is ∙ ap (edge_at g) id ∙ b.row_is) in
      let x = and_parts (a.row.source.0 == a.from.0) (a.row.target.0 == a.to.0) a.ends_are in
      let y = and_parts (b.row.source.0 == b.from.0) (b.row.target.0 == b.to.0) b.ends_are in (
        a.source_is ∙ ap (λ (n : ℕ). Some (Node (record { 0 = n }))) (sym (eqb-true a.row.source.0 a.from.0 x.0) ∙ ap (λ (r : EdgeRow). r.source.0) row ∙ eqb-true b.row.source.0 b.from.0 y.0) ∙ sym b.source_is,
        a.target_is ∙ ap (λ (n : ℕ). Some (Node (record { 0 = n }))) (sym (eqb-true a.row.target.0 a.to.0 x.1) ∙ ap (λ (r : EdgeRow). r.target.0) row ∙ eqb-true b.row.target.0 b.to.0 y.1) ∙ sym b.target_is,
      )
    where
      one_edge : (a b : EdgeId) → Some (Edge a) ≡ Some (Edge b) → a ≡ b
      one_edge a b e = cc

  -- a class's number has the element of each member
  abbrev AreOne : List ℕ → Type 0
  AreOne classes = (var : ℕ) → var < length pattern.edge_vars → One var (slice_index classes var)

  together_one : (a b : ℕ) (classes : List ℕ) → length classes ≡ length pattern.edge_vars → a < length pattern.edge_vars → b < length pattern.edge_vars → One a b →
      AreOne classes → AreOne (together a b classes)
  together_one a b classes size first second same are var below =
      together_carries a b classes One var (omega arith) (are var below)
      (λ class before. before ∙ ap (slice_get elems) class ∙ sym (are a first) ∙ same ∙ are b second)

  after_one : (atoms : List Atom) (classes : List ℕ) → list_all (speaks_of pattern.edge_vars) atoms ≡ true → list_all (holds resolved g elems) atoms ≡ true →
      length classes ≡ length pattern.edge_vars → AreOne classes → AreOne (classes_after pattern.atoms classes atoms)
  after_one [] classes speak h size are = are
  after_one (Ends edge source target ∷ atoms) classes speak h size are =
      let parts = and_parts (speaks_of pattern.edge_vars (Ends edge source target)) (list_all (speaks_of pattern.edge_vars) atoms) speak in
      let of = speaks_ends pattern.edge_vars edge source target parts.0 in
      let holding = and_parts (holds resolved g elems (Ends edge source target)) (list_all (holds resolved g elems) atoms) h in
      let ends = whole.ends edge of.edge_is in
      let first = ends_led resolved g elems edge pattern.atoms ends.2 hold in
      let one = same_node (slice_get elems edge) (slice_get elems source) (slice_get elems target) (slice_get elems (ends_of pattern.atoms edge).0)
      (slice_get elems (ends_of pattern.atoms edge).1) holding.0 first in
      let s = slice_get_within pattern.edge_vars source false of.source_is in
      let t = slice_get_within pattern.edge_vars target false of.target_is in
      let a = slice_get_within pattern.edge_vars (ends_of pattern.atoms edge).0 false ends.0 in
      let b = slice_get_within pattern.edge_vars (ends_of pattern.atoms edge).1 false ends.1 in
      let once : length (together source (ends_of pattern.atoms edge).0 classes) ≡ length classes = length-map classes _ in
      let twice : length (together target (ends_of pattern.atoms edge).1 (together source (ends_of pattern.atoms edge).0 classes)) ≡ length (together source (ends_of pattern.atoms edge).0 classes) = length-map (together source (ends_of pattern.atoms edge).0 classes) _ in
      after_one atoms (together target (ends_of pattern.atoms edge).1 (together source (ends_of pattern.atoms edge).0 classes)) parts.1 holding.1 (omega arith)
      (together_one target (ends_of pattern.atoms edge).1 (together source (ends_of pattern.atoms edge).0 classes) (omega arith) t b one.1
      (together_one source (ends_of pattern.atoms edge).0 classes size s a one.0 are))
  after_one (HasLabel var label ∷ atoms) classes speak h size are = after_one atoms classes (and_parts _ _ speak).1 (and_parts _ _ h).1 size are
  after_one (FitsNode var number ∷ atoms) classes speak h size are = after_one atoms classes (and_parts _ _ speak).1 (and_parts _ _ h).1 size are
  after_one (FitsEdge var number ∷ atoms) classes speak h size are = after_one atoms classes (and_parts _ _ speak).1 (and_parts _ _ h).1 size are
  after_one (Equals var key value ∷ atoms) classes speak h size are = after_one atoms classes (and_parts _ _ speak).1 (and_parts _ _ h).1 size are

  pub place_one : (var : ℕ) → var < length pattern.edge_vars → One var (place_of pattern var)
  place_one =
      after_one pattern.atoms (numbers pattern.edge_vars) whole.speak hold (at_first pattern.edge_vars).size
      (λ var below. ap (slice_get elems) (sym (number_at pattern.edge_vars var below)))

-- ---- a whole pattern and its places

abbrev IsRead : Pattern → List Expr → Type 0
IsRead pattern exprs = list_all (λ (expr : Expr). nat_lt (read_var expr) (length pattern.edge_vars)) exprs ≡ true

module _ (resolved : Resolved) (pattern : Pattern) (exprs : List Expr) (whole : IsWhole pattern) (read : IsRead pattern exprs) where
  pub pairs_from : IsReached resolved pattern exprs → HasPairs resolved (placed_of pattern exprs)
  pairs_from reached =
      let g = reached.g in
      let elems = reached.elems in
      let match = reached.match in
      let one = place_one resolved pattern whole g elems match.hold in
      let ok = is_placed pattern whole exprs in
      let hold : list_all (holds resolved g elems) (placed_of pattern exprs).atoms ≡ true =
      sym (all_renamed resolved g pattern.edge_vars (place_of pattern) elems elems one pattern.atoms whole.speak) ∙ match.hold in
      let present : list_all (λ expr. is_some (part_of g elems expr)) (placed_of pattern exprs).exprs ≡ true =
      sym (parts_renamed resolved g pattern.edge_vars (place_of pattern) elems elems one exprs read) ∙ match.present in
      record {
        ps = taken resolved (placed_of pattern exprs) ok g reached.standing elems match.there hold;
        pairs = taken_pairs resolved (placed_of pattern exprs) ok g reached.standing elems match.there hold;
        count = taken_count resolved (placed_of pattern exprs) ok g reached.standing elems match.there hold;
        asked = taken_asked resolved (placed_of pattern exprs) ok g reached.standing elems match.there hold present;
      }

  pub reached_from : HasPairs resolved (placed_of pattern exprs) → IsReached resolved pattern exprs
  reached_from pairs =
      let ok = is_placed pattern whole exprs in
      let placed = placed_of pattern exprs in
      let few = whole.few in
      let there = built_there resolved placed ok pairs.ps pairs.pairs pairs.asked in
      let g = built placed.atoms placed.kinds pairs.ps in
      let elems = elems_from 0 placed.kinds in
      let keeps = keeps_place pattern whole in
      let at = gathered_at resolved g pattern.edge_vars pattern.edge_vars (place_of pattern) keeps elems there in
      record {
        g = g;
        elems = gathered resolved g pattern.edge_vars pattern.edge_vars (place_of pattern) keeps elems there;
        standing = built_stands resolved placed ok pairs.ps pairs.pairs pairs.asked (omega arith);
        match = record {
          there = gathered_there resolved g pattern.edge_vars pattern.edge_vars (place_of pattern) keeps elems there;
          hold = gathered_holds resolved g pattern.edge_vars pattern.edge_vars (place_of pattern) keeps elems there pattern.atoms whole.speak
              (built_holds resolved placed ok pairs.ps pairs.pairs pairs.asked pairs.count);
          present = parts_renamed resolved g pattern.edge_vars (place_of pattern) elems _ at exprs read
              ∙ all_present resolved placed ok pairs.ps pairs.pairs pairs.asked pairs.count placed.exprs (all_read pattern.edge_vars pattern.edge_vars (place_of pattern) keeps exprs read)
              (and_parts _ _ pairs.asked).1;
        };
      }

-- ---- the ends of variable 0

module _ (resolved : Resolved) (pattern : Pattern) (exprs : List Expr) (sound : IsSound pattern) (read : IsRead pattern exprs) where
  abbrev wide : List Bool
  wide = pattern.edge_vars ++ false ∷ false ∷ []

  abbrev own_ends : Atom
  own_ends = Ends 0 (length pattern.edge_vars) (length pattern.edge_vars + 1)

  abbrev widened : Pattern
  widened = record { edge_vars = wide; atoms = own_ends ∷ pattern.atoms }

  narrow_match : (g : Graph) (elems : List Elem) → HasMatch resolved widened exprs g elems → (others : List Elem) × HasMatch resolved pattern exprs g others
  narrow_match g elems match =
      let keeps = keeps_more pattern.edge_vars (false ∷ false ∷ []) in
      let at = gathered_at resolved g pattern.edge_vars wide (λ v. v) keeps elems match.there in (
        gathered resolved g pattern.edge_vars wide (λ v. v) keeps elems match.there,
        record {
          there = gathered_there resolved g pattern.edge_vars wide (λ v. v) keeps elems match.there;
          hold = gathered_holds resolved g pattern.edge_vars wide (λ v. v) keeps elems match.there pattern.atoms sound.speak
              (ap (list_all (holds resolved g elems)) (renamed_same pattern.atoms)
              ∙ (and_parts (holds resolved g elems own_ends) (list_all (holds resolved g elems) pattern.atoms) match.hold).1);
          present = parts_renamed resolved g pattern.edge_vars (λ v. v) elems _ at exprs read
              ∙ ap (list_all (λ expr. is_some (part_of g elems expr))) (exprs_same exprs) ∙ match.present;
        },
      )

  wide_match : (g : Graph) → IsStanding resolved g → (elems : List Elem) → is_edge_var pattern.edge_vars 0 ≡ true → HasMatch resolved pattern exprs g elems →
      (others : List Elem) × HasMatch resolved widened exprs g others
  wide_match g standing elems is_edge match =
      let kind = edge_kind pattern.edge_vars 0 is_edge in
      let first = is_there g pattern.edge_vars elems 0 true match.there kind in
      let listed = edge_listed first.0 g.edges first.2 in
      let ends = found_passes (λ (row : EdgeRow). has_ends g row) (is_at (edge_cmp listed.0)) g.edges listed.1 (graph_parts g standing.graph).ends listed.3 in
      let both = and_parts (is_some (node_at g listed.1.source)) (is_some (node_at g listed.1.target)) ends in
      let source = there_is (node_at g listed.1.source) both.0 in
      let target = there_is (node_at g listed.1.target) both.1 in
      let more : List Elem = Node listed.1.source ∷ Node listed.1.target ∷ [] in
      let size = there_count g pattern.edge_vars elems match.there in
      let some = sound.some in
      let same : (v : ℕ) → v < length pattern.edge_vars → slice_get elems v ≡ slice_get (elems ++ more) v = λ v below. sym (get_first elems more v (omega arith)) in
      let at_edge : slice_get (elems ++ more) 0 ≡ Some (Edge listed.0) = sym (same 0 some) ∙ first.1 ∙ ap Some listed.2 in
      let at_source : slice_get (elems ++ more) (length pattern.edge_vars) ≡ Some (Node listed.1.source) =
      ap (slice_get (elems ++ more)) (let e : length pattern.edge_vars ≡ length elems + 0 = omega arith in e) ∙ get_later elems more 0 in
      let at_target : slice_get (elems ++ more) (length pattern.edge_vars + 1) ≡ Some (Node listed.1.target) =
      ap (slice_get (elems ++ more)) (let e : length pattern.edge_vars + 1 ≡ length elems + 1 = omega arith in e) ∙ get_later elems more 1 in (
        elems ++ more,
        record {
          there = there_append g pattern.edge_vars (false ∷ false ∷ []) elems more match.there
              (and_from _ _ (node_among listed.1.source g.nodes source.0 source.1) (and_from _ _ (node_among listed.1.target g.nodes target.0 target.1) refl));
          hold = and_from _ _
              (ap (λ o. leads g o (slice_get (elems ++ more) (length pattern.edge_vars)) (slice_get (elems ++ more) (length pattern.edge_vars + 1))) at_edge
              ∙ ap (λ o. leads g (Some (Edge listed.0)) o (slice_get (elems ++ more) (length pattern.edge_vars + 1))) at_source
              ∙ ap (λ o. leads g (Some (Edge listed.0)) (Some (Node listed.1.source)) o) at_target
              ∙ ap (λ o. option_map_or (λ (row : EdgeRow). row.source.0 == listed.1.source.0 && row.target.0 == listed.1.target.0) o false) listed.3
              ∙ and_from _ _ (eq-eqb listed.1.source.0 listed.1.source.0 refl) (eq-eqb listed.1.target.0 listed.1.target.0 refl))
              (ap (list_all (holds resolved g (elems ++ more))) (sym (renamed_same pattern.atoms))
              ∙ sym (all_renamed resolved g pattern.edge_vars (λ v. v) (elems ++ more) elems same pattern.atoms sound.speak) ∙ match.hold);
          present = ap (list_all (λ expr. is_some (part_of g (elems ++ more) expr))) (sym (exprs_same exprs))
              ∙ sym (parts_renamed resolved g pattern.edge_vars (λ v. v) (elems ++ more) elems same exprs read) ∙ match.present;
        },
      )
    where
      there_is : (o : Option NodeRow) → is_some o ≡ true → (p : NodeRow) × (o ≡ Some p)
      there_is None h = absurd (true≢false (sym h))
      there_is (Some p) h = (p, refl)

  abbrev by_kind : Bool → Pattern
  by_kind is_edge = cond is_edge widened pattern

  pub ends_from : IsReached resolved pattern exprs → IsReached resolved (with_ends pattern) exprs
  ends_from reached = by (is_edge_var pattern.edge_vars 0) refl
    where
      by : (b : Bool) → is_edge_var pattern.edge_vars 0 ≡ b → IsReached resolved (by_kind b) exprs
      by false h = reached
      by true h =
          let wider = wide_match reached.g reached.standing reached.elems h reached.match in
          record { g = reached.g; elems = wider.0; standing = reached.standing; match = wider.1 }

  pub from_ends : IsReached resolved (with_ends pattern) exprs → IsReached resolved pattern exprs
  from_ends = by (is_edge_var pattern.edge_vars 0)
    where
      by : (b : Bool) → IsReached resolved (by_kind b) exprs → IsReached resolved pattern exprs
      by false reached = reached
      by true reached =
          let narrow = narrow_match reached.g reached.elems reached.match in
          record { g = reached.g; elems = narrow.0; standing = reached.standing; match = narrow.1 }

  wide_read : IsRead (with_ends pattern) exprs
  wide_read = by (is_edge_var pattern.edge_vars 0)
    where
      by : (b : Bool) → IsRead (by_kind b) exprs
      by false = read
      by true =
          ap (list_all (λ (expr : Expr). nat_lt (read_var expr) (length wide))) (sym (exprs_same exprs))
          ∙ all_read pattern.edge_vars wide (λ v. v) (keeps_more pattern.edge_vars (false ∷ false ∷ [])) exprs read

  -- what a sound pattern reaches, its places with the ends of variable 0 have pairs for
  pub pairs_of : IsReached resolved pattern exprs → HasPairs resolved (placed_of (with_ends pattern) exprs)
  pairs_of reached = pairs_from resolved (with_ends pattern) exprs (ends_whole pattern sound) wide_read (ends_from reached)

  pub reached_of : HasPairs resolved (placed_of (with_ends pattern) exprs) → IsReached resolved pattern exprs
  reached_of pairs = from_ends (reached_from resolved (with_ends pattern) exprs (ends_whole pattern sound) wide_read pairs)

-- ---- the element of variable 0

starts_with : (elem : Elem) (elems : List Elem) → starts_at elem elems ≡ true → slice_get elems 0 ≡ Some elem
starts_with elem [] h = absurd (true≢false (sym h))
starts_with elem (e ∷ elems) h = ap Some (sym (exact_elem elem e ((Equal-is (elem_cmp elem e)).0 h)))

starts_there : (elem : Elem) (elems : List Elem) → slice_get elems 0 ≡ Some elem → starts_at elem elems ≡ true
starts_there elem elems at = ap (λ o. option_map_or (same_elem elem) o false) at ∙ ap is_eq (tied_itself elem_cmp_total elem)

-- ---- the scope

module _ (resolved : Resolved) (key : Key) (valid : is_valid_key key ≡ true) where
  abbrev scope_sound : IsSound key.scope
  scope_sound = valid_sound key.scope (scope_valid key valid)

  scope_reached : HasScope resolved key → IsReached resolved key.scope []
  scope_reached has =
      let found = match_found resolved has.g key.scope (starts_at has.elem) has.scope in
      let parts = and_parts (are_there has.g key.scope.edge_vars found.0) (list_all (holds resolved has.g found.0) key.scope.atoms) found.1 in
      record { g = has.g; elems = found.0; standing = has.standing; match = record { there = parts.0; hold = parts.1; present = refl } }

  scope_there : IsReached resolved key.scope [] → HasScope resolved key
  scope_there reached =
      let some = (count_few key.scope (scope_valid key valid)).0 in
      let kind = get_within key.scope.edge_vars 0 some in
      let first = is_there reached.g key.scope.edge_vars reached.elems 0 kind.0 reached.match.there kind.1 in
      record {
        g = reached.g;
        elem = first.0;
        standing = reached.standing;
        scope = match_given resolved reached.g key.scope (starts_at first.0) reached.elems (and_from _ _ reached.match.there reached.match.hold) (starts_there first.0 reached.elems first.1);
      }

  pub scope_pairs : HasScope resolved key → HasPairs resolved (scope_places key)
  scope_pairs has = pairs_of resolved key.scope [] scope_sound refl (scope_reached has)

  pub pairs_scope : HasPairs resolved (scope_places key) → HasScope resolved key
  pairs_scope pairs = scope_there (reached_of resolved key.scope [] scope_sound refl pairs)

-- ---- key values

some_then : {X Y : Type 0} (f : X → Option Y) (o : Option X) (y : Y) → option_and_then f o ≡ Some y → (x : X) × (o ≡ Some x) × (f x ≡ Some y)
some_then f None y e = cc
some_then f (Some x) y e = (x, refl, e)

some_map : {X Y : Type 0} (f : X → Y) (o : Option X) (y : Y) → option_map f o ≡ Some y → (x : X) × (o ≡ Some x)
some_map f None y e = cc
some_map f (Some x) y e = (x, refl)

module _ (g : Graph) (elems : List Elem) where
  tuple_present : (exprs : List Expr) (tuple : List Part) → tuple_of g exprs elems ≡ Some tuple → list_all (λ expr. is_some (part_of g elems expr)) exprs ≡ true
  tuple_present [] tuple e = refl
  tuple_present (expr ∷ exprs) tuple e =
      let first = some_then (λ part. option_map (λ rest. part ∷ rest) (tuple_of g exprs elems)) (part_of g elems expr) tuple e in
      let rest = some_map (λ rest. first.0 ∷ rest) (tuple_of g exprs elems) tuple first.2 in
      and_from _ _ (ap is_some first.1) (tuple_present exprs rest.0 rest.1)

  tuple_there : (exprs : List Expr) → list_all (λ expr. is_some (part_of g elems expr)) exprs ≡ true → (tuple : List Part) × (tuple_of g exprs elems ≡ Some tuple)
  tuple_there [] h = ([], refl)
  tuple_there (expr ∷ exprs) h =
      let parts = and_parts (is_some (part_of g elems expr)) (list_all (λ e. is_some (part_of g elems e)) exprs) h in
      let first = one (part_of g elems expr) parts.0 in
      let rest = tuple_there exprs parts.1 in (
        first.0 ∷ rest.0,
        ap (option_and_then (λ part. option_map (λ rest. part ∷ rest) (tuple_of g exprs elems))) first.1 ∙ ap (option_map (λ rest. first.0 ∷ rest)) rest.1,
      )
    where
      one : (o : Option Part) → is_some o ≡ true → (part : Part) × (o ≡ Some part)
      one None h = absurd (true≢false (sym h))
      one (Some part) h = (part, refl)

first_tuple : (tuples : List (List Part)) → is_empty tuples ≡ false → (tuple : List Part) × (list_any (is_at (tuple_cmp tuple)) tuples ≡ true)
first_tuple [] h = absurd (true≢false h)
first_tuple (tuple ∷ tuples) h = (tuple, or_left (is_at (tuple_cmp tuple) tuple) (list_any (is_at (tuple_cmp tuple)) tuples) (ap is_eq (tied_itself tuple_cmp_total tuple)))

not_empty : {X : Type 0} (test : X → Bool) (xs : List X) → list_any test xs ≡ true → is_empty xs ≡ false
not_empty test [] h = absurd (true≢false (sym h))
not_empty test (x ∷ xs) h = refl

module _ (resolved : Resolved) (key : Key) (valid : is_valid_key key ≡ true) where
  abbrev own : List Bool
  own = key.scope.edge_vars

  abbrev other : List Bool
  other = key.descriptor.edge_vars

  -- a match of each, with one element at variable 0, is a match of both
  joined : (g : Graph) (elem : Elem) (first second : List Elem) → is_match resolved g key.scope first ≡ true → starts_at elem first ≡ true →
      is_match resolved g key.descriptor second ≡ true → starts_at elem second ≡ true → list_all (λ expr. is_some (part_of g second expr)) key.exprs ≡ true →
      HasMatch resolved (joint key) (joint_exprs key) g (first ++ drop 1 second)
  joined g elem first second scope begins descriptor starts present =
      let a = and_parts (are_there g own first) (list_all (holds resolved g first) key.scope.atoms) scope in
      let b = and_parts (are_there g other second) (list_all (holds resolved g second) key.descriptor.atoms) descriptor in
      let size = there_count g own first a.0 in
      let some = (count_few key.scope (scope_valid key valid)).0 in
      let same : (v : ℕ) → v < length own → slice_get first v ≡ slice_get (first ++ drop 1 second) v = λ v below. sym (get_first first (drop 1 second) v (omega arith)) in
      let others : (v : ℕ) → v < length other → slice_get second v ≡ slice_get (first ++ drop 1 second) (beside (length own) v) =
      λ v below. beside_at v size (starts_with elem second starts ∙ sym (starts_with elem first begins) ∙ same 0 some) in
      record {
        there = there_append g own (drop 1 other) first (drop 1 second) a.0 (there_dropped g other second b.0);
        hold = all_append (holds resolved g (first ++ drop 1 second)) key.scope.atoms _
            (ap (list_all (holds resolved g (first ++ drop 1 second))) (sym (renamed_same key.scope.atoms))
            ∙ sym (all_renamed resolved g own (λ v. v) (first ++ drop 1 second) first same key.scope.atoms (valid_sound key.scope (scope_valid key valid)).speak) ∙ a.1)
            (sym (all_renamed resolved g other (beside (length own)) (first ++ drop 1 second) second others key.descriptor.atoms (valid_sound key.descriptor (descriptor_valid key valid)).speak) ∙ b.1);
        present = sym (parts_renamed resolved g other (beside (length own)) (first ++ drop 1 second) second others key.exprs (exprs_read key valid)) ∙ present;
      }
    where
      beside_at : (v : ℕ) → length first ≡ length own → slice_get second 0 ≡ slice_get (first ++ drop 1 second) 0 → slice_get second v ≡ slice_get (first ++ drop 1 second) (beside (length own) v)
      beside_at zero size one = one
      beside_at (suc v) size one =
          sym (get_dropped second v) ∙ sym (get_later first (drop 1 second) v) ∙ ap (λ n. slice_get (first ++ drop 1 second) (n + v)) size

  value_reached : HasValue resolved key → IsReached resolved (joint key) (joint_exprs key)
  value_reached has =
      let found = match_found resolved has.g key.scope (starts_at has.elem) has.scope in
      let tuple = first_tuple (key_values resolved has.g key has.elem) has.value in
      let value = value_found resolved has.g key has.elem tuple.0 tuple.1 in
      record {
        g = has.g;
        elems = found.0 ++ drop 1 value.0;
        standing = has.standing;
        match = joined has.g has.elem found.0 value.0 found.1 found.2 value.1 value.2 (tuple_present has.g value.0 key.exprs tuple.0 value.3);
      }

  value_there : IsReached resolved (joint key) (joint_exprs key) → HasValue resolved key
  value_there reached =
      let g = reached.g in
      let elems = reached.elems in
      let there = reached.match.there in
      let all = (joint key).edge_vars in
      let keep = keeps_own key valid in
      let keeps = keeps_other key valid in
      let first = gathered resolved g own all (λ v. v) keep elems there in
      let second = gathered resolved g other all (beside (length own)) keeps elems there in
      let some = (count_few key.scope (scope_valid key valid)).0 in
      let others = (count_few key.descriptor (descriptor_valid key valid)).0 in
      let kind = get_within own 0 some in
      let one = is_there g all elems 0 kind.0 there (keep 0 kind.0 kind.1) in
      let begins : slice_get first 0 ≡ Some one.0 = gathered_at resolved g own all (λ v. v) keep elems there 0 some ∙ one.1 in
      let starts : slice_get second 0 ≡ Some one.0 = gathered_at resolved g other all (beside (length own)) keeps elems there 0 others ∙ one.1 in
      let scope : is_match resolved g key.scope first ≡ true =
      and_from _ _ (gathered_there resolved g own all (λ v. v) keep elems there)
      (gathered_holds resolved g own all (λ v. v) keep elems there key.scope.atoms (valid_sound key.scope (scope_valid key valid)).speak
      (ap (list_all (holds resolved g elems)) (renamed_same key.scope.atoms) ∙ all_first (holds resolved g elems) key.scope.atoms _ reached.match.hold)) in
      let descriptor : is_match resolved g key.descriptor second ≡ true =
      and_from _ _ (gathered_there resolved g other all (beside (length own)) keeps elems there)
      (gathered_holds resolved g other all (beside (length own)) keeps elems there key.descriptor.atoms (valid_sound key.descriptor (descriptor_valid key valid)).speak
      (all_later (holds resolved g elems) key.scope.atoms _ reached.match.hold)) in
      let present : list_all (λ expr. is_some (part_of g second expr)) key.exprs ≡ true =
      parts_renamed resolved g other (beside (length own)) elems second (gathered_at resolved g other all (beside (length own)) keeps elems there) key.exprs (exprs_read key valid)
      ∙ reached.match.present in
      let tuple = tuple_there g second key.exprs present in
      record {
        g = g;
        elem = one.0;
        standing = reached.standing;
        scope = match_given resolved g key.scope (starts_at one.0) first scope (starts_there one.0 first begins);
        value = not_empty (is_at (tuple_cmp tuple.0)) (key_values resolved g key one.0)
            (value_given resolved g key one.0 tuple.0 second descriptor (starts_there one.0 second starts) tuple.1);
      }

  pub value_pairs : HasValue resolved key → HasPairs resolved (value_places key)
  value_pairs has = pairs_of resolved (joint key) (joint_exprs key) (joint_sound key valid) (joint_read key valid) (value_reached has)

  pub pairs_value : HasPairs resolved (value_places key) → HasValue resolved key
  pairs_value pairs = value_there (reached_of resolved (joint key) (joint_exprs key) (joint_sound key valid) (joint_read key valid) pairs)
