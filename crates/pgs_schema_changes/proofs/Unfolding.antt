-- Specifications and types under numbers.
use Rattle.std.proofs.Common.{◌≡◌, ℕ, zero, suc, ◌+◌, ◌-◌, ◌<◌, ◌≤◌, Bool, true, false, ◌==◌, ◌⊎◌, inl, inr, List, [], ◌∷◌, ◌++◌, drop, length, Option, Some, Result, Ok, Err, slice_get, refl, sym, subst, ◌∙◌, ap, arith}
use Rattle.std.specs.Prelude.{unwrap_or, get_or, IfOk}
use Rattle.std.specs.Option.{option_map_or}
use Rattle.std.proofs.lemmas.Bool.{cases_lt, eqb-true, eqb-false}
use Rattle.std.proofs.lemmas.Option.{slice_get_read}
use mathlib.Core.Former.{Count}
use denote.Hole.Carrier.{hidden}
use Rattle.pgs_syntax.specs.declared.element_type.EdgeType.{EdgeType}
use Rattle.pgs_syntax.specs.declared.resolved.Resolved.{Resolved}
use Rattle.pgs_syntax.specs.declared.specification.Leaf.{Leaf}
use Rattle.pgs_syntax.specs.declared.specification.Spec.{Spec, And, And', Or, Or', Opt, Opt', Row_of-Spec, end_of-Spec, more_of-Spec, items-the_row-Spec, items_hidden-the_row-Spec-0}
use Rattle.pgs_syntax.specs.declared.specification.Spec.TheBlock as block
use Rattle.pgs_schema_changes.specs.declared.form.Form.{Form}
use Rattle.pgs_schema_changes.specs.declared.form.Form.TheVariants as forms
use Rattle.pgs_schema_changes.specs.Unfolded.{Tree, nothing, tree, unfolded, unfolded_parts, tree_below, node_tree, edge_tree, edge_tree_of}
use Rattle.pgs_schema_changes.specs.declared.declarations.Declarations.{Declarations}
use Rattle.pgs_schema_changes.specs.declared.declarations.TypeNumbers.{TypeNumbers}
use Rattle.pgs_schema_changes.specs.declared.trees.Entry.{Entry}
use Rattle.pgs_schema_changes.specs.Numbers.{Means, IsNumbered, Grows, Puts, PutsAll, PutsTypes, TellsAlike, number_at, AreNamed}
use Rattle.pgs_schema_changes.specs.Parts.{parts_tree}
use Rattle.pgs_schema_changes.proofs.Numbering.{length_last, get_front, get_last, get_past, grows_none, grows_on, means_nothing, means_on, named_on, puts_on, tells}

-- ---- parts by their list

abbrev row_of : Spec Leaf → (n : Count) × Row_of-Spec Leaf n
row_of (And' _ row) = (_, row)
row_of (Or' _ row) = (_, row)
row_of (Opt' _ row) = (_, row)
row_of _ = (_, end_of-Spec)

module _ (names : ℕ → Tree) where
  parts_row : (n : _) (row : Row_of-Spec Leaf n) → unfolded_parts names row ≡ parts_tree names (items-the_row-Spec Leaf n row)
  parts_row n end_of-Spec = refl
  parts_row n (more_of-Spec part rest) = ap (tree forms.Parts (unfolded names part)) (parts_row _ rest)

  pub unfolded_and : (parts : List (Spec Leaf)) → unfolded names (And parts) ≡ tree forms.And (parts_tree names parts) nothing
  unfolded_and parts =
      let row = row_of (And parts) in
      ap (λ (t : Tree). tree forms.And t nothing) (parts_row row.0 row.1 ∙ ap (parts_tree names) (items_hidden-the_row-Spec-0 Leaf parts))

  pub unfolded_or : (parts : List (Spec Leaf)) → unfolded names (Or parts) ≡ tree forms.Or (parts_tree names parts) nothing
  unfolded_or parts =
      let row = row_of (Or parts) in
      ap (λ (t : Tree). tree forms.Or t nothing) (parts_row row.0 row.1 ∙ ap (parts_tree names) (items_hidden-the_row-Spec-0 Leaf parts))

  pub unfolded_opt : (part : Spec Leaf) → unfolded names (Opt part) ≡ tree forms.Opt (tree forms.Parts (unfolded names part) nothing) nothing
  unfolding block.hidden-the_row-Spec-1 hidden
  unfolded_opt part = refl

-- ---- one more type

module _ {T : Type 0} (of_type : (ℕ → Tree) → T → Tree) (types : List T) where
  -- no type is named before the first
  pub named_none : (entries : List Entry) → AreNamed entries [] (tree_below of_type types 0)
  named_none entries = λ own. means_nothing entries

  -- the number of the next type is put last
  pub named_more : (entries : List Entry) (numbers : List ℕ) (number place : ℕ) (type : T) → length numbers ≡ place → slice_get types place ≡ Some type
      → AreNamed entries numbers (tree_below of_type types place) → Means entries number (of_type (tree_below of_type types place) type)
      → AreNamed entries (numbers ++ number ∷ []) (tree_below of_type types (suc place))
  named_more entries numbers number place type count at named means own = by (own == place) refl
    where
      number_front : own < length numbers → number_at (numbers ++ number ∷ []) own ≡ number_at numbers own
      number_front below = ap (λ (o : Option ℕ). unwrap_or o 0) (get_front numbers (number ∷ []) own below)

      number_past : length numbers < own → number_at (numbers ++ number ∷ []) own ≡ number_at numbers own
      number_past past =
          let more : length (numbers ++ number ∷ []) ≡ suc (length numbers) = length_last numbers number in
          ap (λ (o : Option ℕ). unwrap_or o 0) (get_past (numbers ++ number ∷ []) own (omega arith) ∙ sym (get_past numbers own (omega arith)))

      apart : (own < length numbers) ⊎ (length numbers ≤ own) → (own ≡ place → ⊥) → number_at (numbers ++ number ∷ []) own ≡ number_at numbers own
      apart (inl below) other = number_front below
      apart (inr past) other = number_past (omega arith)

      number_here : own ≡ place → number_at (numbers ++ number ∷ []) own ≡ number
      number_here here = ap (λ (n : ℕ). number_at (numbers ++ number ∷ []) n) (here ∙ sym count) ∙ ap (λ (o : Option ℕ). unwrap_or o 0) (get_last numbers number)

      by : (b : Bool) → (own == place) ≡ b → Means entries (number_at (numbers ++ number ∷ []) own) (elim b [
        | true ↦ option_map_or (λ (other : T). of_type (tree_below of_type types place) other) (slice_get types place) nothing
        | false ↦ tree_below of_type types place own
      ])
      by true here =
          let same = number_here (eqb-true own place here) in
          subst (λ (n : ℕ). Means entries n (option_map_or (λ (other : T). of_type (tree_below of_type types place) other) (slice_get types place) nothing)) (sym same)
          (subst (λ (o : Option T). Means entries number (option_map_or (λ (other : T). of_type (tree_below of_type types place) other) o nothing)) (sym at) means)
      by false other =
          subst (λ (n : ℕ). Means entries n (tree_below of_type types place own)) (sym (apart (cases_lt own (length numbers)) (eqb-false own place other))) (named own)

-- ---- what is put after more was put

pub if_puts_on : {E : Type 0} (old mid new : List Entry) (result : Result ℕ E) (own : Tree) → Grows old mid → IfOk result (λ number. Puts mid new number own) → IfOk result (λ number. Puts old new number own)
if_puts_on old mid new (Ok number) own grows puts = puts_on old mid new number own grows puts
if_puts_on old mid new (Err fault) own grows puts = tt

-- a form over what was put, and nothing
pub if_over : {E : Type 0} (old mid new : List Entry) (form : Form) (parts : ℕ) (own : Tree) (result : Result ℕ E) → Puts old mid parts own
    → ((left right : Tree) → IsNumbered mid → Means mid parts left → Means mid 0 right → IfOk result (λ number. Puts mid new number (tree form left right)))
    → IfOk result (λ number. Puts old new number (tree form own nothing))
if_over old mid new form parts own result puts put =
    if_puts_on old mid new result (tree form own nothing) puts.grows (put own nothing puts.numbered puts.means (means_nothing mid))

abbrev Over : {E : Type 0} → Form → ℕ → List Entry → List Entry → Result ℕ E → Type 0
Over form number mid new result =
    (left right : Tree) → IsNumbered mid → Means mid number left → Means mid 0 right → IfOk result (λ n. Puts mid new n (tree form left right))

module _ {E : Type 0} (names : ℕ → Tree) (spec : Spec Leaf) (old mid new : List Entry) (number : ℕ) (result : Result ℕ E) where
  as_spec : (own : Tree) → unfolded names spec ≡ own → IfOk result (λ n. Puts old new n own) → IfOk result (λ n. Puts old new n (unfolded names spec))
  as_spec own same puts = subst (λ (t : Tree). IfOk result (λ n. Puts old new n t)) (sym same) puts

  pub over_and : (parts given : List (Spec Leaf)) → spec ≡ And parts → given ≡ parts → Puts old mid number (parts_tree names given) → Over forms.And number mid new result → IfOk result (λ n. Puts old new n (unfolded names spec))
  over_and parts given is same puts put =
      as_spec (tree forms.And (parts_tree names given) nothing) (ap (unfolded names) is ∙ unfolded_and names parts ∙ ap (λ ps. tree forms.And (parts_tree names ps) nothing) (sym same))
      (if_over old mid new forms.And number (parts_tree names given) result puts put)

  pub over_or : (parts given : List (Spec Leaf)) → spec ≡ Or parts → given ≡ parts → Puts old mid number (parts_tree names given) → Over forms.Or number mid new result → IfOk result (λ n. Puts old new n (unfolded names spec))
  over_or parts given is same puts put =
      as_spec (tree forms.Or (parts_tree names given) nothing) (ap (unfolded names) is ∙ unfolded_or names parts ∙ ap (λ ps. tree forms.Or (parts_tree names ps) nothing) (sym same))
      (if_over old mid new forms.Or number (parts_tree names given) result puts put)

  pub over_opt : (part given : Spec Leaf) (before : List Entry) (own : ℕ) → spec ≡ Opt part → given ≡ part → Puts old before own (unfolded names given)
      → ((left right : Tree) → IsNumbered before → Means before own left → Means before 0 right → Puts before mid number (tree forms.Parts left right))
      → Over forms.Opt number mid new result → IfOk result (λ n. Puts old new n (unfolded names spec))
  over_opt part given before own is same puts parts put =
      let one = parts (unfolded names given) nothing puts.numbered puts.means (means_nothing before) in
      as_spec (tree forms.Opt (tree forms.Parts (unfolded names given) nothing) nothing)
      (ap (unfolded names) is ∙ unfolded_opt names part ∙ ap (λ p. tree forms.Opt (tree forms.Parts (unfolded names p) nothing) nothing) (sym same))
      (if_over old mid new forms.Opt number (tree forms.Parts (unfolded names given) nothing) result (puts_on old before mid number (tree forms.Parts (unfolded names given) nothing) puts.grows one) put)

-- ---- one more part, from the last

drop_next : {X : Type 0} (xs : List X) (i : ℕ) (x : X) → slice_get xs i ≡ Some x → drop i xs ≡ x ∷ drop (suc i) xs
drop_next [] i x at = cc
drop_next (y ∷ ys) zero x at = let same : y ≡ x = cc in ap (λ z. z ∷ ys) same
drop_next (y ∷ ys) (suc i) x at = drop_next ys i x at

pub part_before : {X : Type 0} (xs : List X) (left : ℕ) (x : X) → 0 < left → left ≤ length xs → x ≡ get_or xs (left - 1) x → drop (left - 1) xs ≡ x ∷ drop left xs
part_before xs left x some within is =
    let below : left - 1 < length xs = omega arith in
    let next : suc (left - 1) ≡ left = omega arith in
    drop_next xs (left - 1) x (slice_get_read xs (length xs) (left - 1) x refl below is) ∙ ap (λ n. x ∷ drop n xs) next

pub part_put : (names : ℕ → Tree) (named : List ℕ) (part : Spec Leaf) (more parts : List (Spec Leaf)) (old cur mid new : List Entry) (rest first number : ℕ) → parts ≡ part ∷ more → AreNamed old named names
    → Puts old cur rest (parts_tree names more) → (IsNumbered cur → AreNamed cur named names → Puts cur mid first (unfolded names part))
    → ((left right : Tree) → IsNumbered mid → Means mid first left → Means mid rest right → Puts mid new number (tree forms.Parts left right)) → Puts old new number (parts_tree names parts)
part_put names named part more parts old cur mid new rest first number same all before one last =
    let own = one before.numbered (named_on old cur named names before.grows all) in
    let both = last (unfolded names part) (parts_tree names more) own.numbered own.means (means_on cur mid rest (parts_tree names more) own.grows before.means) in
    subst (λ (ps : List (Spec Leaf)). Puts old new number (parts_tree names ps)) (sym same)
    (puts_on old mid new number (tree forms.Parts (unfolded names part) (parts_tree names more)) (grows_on old cur mid before.grows own.grows) both)

-- ---- types

pub edge_put : {E : Type 0} (resolved : Resolved) (names : ℕ → Tree) (nodes edges : List ℕ) (type : EdgeType Leaf) (e0 e1 e2 e3 e4 e5 : List Entry) (source target middle ends : ℕ) (result : Result ℕ E)
    → IsNumbered e0 → AreNamed e0 nodes (node_tree resolved) → AreNamed e0 edges names
    → (IsNumbered e0 → AreNamed e0 nodes (node_tree resolved) → Puts e0 e1 source (unfolded (node_tree resolved) type.source))
    → (IsNumbered e1 → AreNamed e1 nodes (node_tree resolved) → Puts e1 e2 target (unfolded (node_tree resolved) type.target))
    → (IsNumbered e2 → AreNamed e2 edges names → Puts e2 e3 middle (unfolded names type.middle))
    → ((left right : Tree) → IsNumbered e3 → Means e3 source left → Means e3 target right → Puts e3 e4 ends (tree forms.Ends left right))
    → ((left right : Tree) → IsNumbered e4 → Means e4 ends left → Means e4 middle right → IfOk result (λ n. Puts e4 e5 n (tree forms.Edge left right)))
    → IfOk result (λ n. Puts e0 e5 n (edge_tree_of resolved names type))
edge_put resolved names nodes edges type e0 e1 e2 e3 e4 e5 source target middle ends result numbered of_nodes of_edges p q r s t =
    let own = node_tree resolved in
    let a = p numbered of_nodes in
    let b = q a.numbered (named_on e0 e1 nodes own a.grows of_nodes) in
    let to2 = grows_on e0 e1 e2 a.grows b.grows in
    let c = r b.numbered (named_on e0 e2 edges names to2 of_edges) in
    let to3 = grows_on e1 e2 e3 b.grows c.grows in
    let both =
    s (unfolded own type.source) (unfolded own type.target) c.numbered (means_on e1 e3 source (unfolded own type.source) to3 a.means) (means_on e2 e3 target (unfolded own type.target) c.grows b.means) in
    let over = tree forms.Ends (unfolded own type.source) (unfolded own type.target) in
    if_puts_on e0 e4 e5 result (tree forms.Edge over (unfolded names type.middle)) (grows_on e0 e2 e4 to2 (grows_on e2 e3 e4 c.grows both.grows))
    (t over (unfolded names type.middle) both.numbered both.means (means_on e3 e4 middle (unfolded names type.middle) both.grows c.means))

pub type_put : {T : Type 0} (of_type : (ℕ → Tree) → T → Tree) (types : List T) (old cur new : List Entry) (numbers after : List ℕ) (number place : ℕ) (type : T) → length numbers ≡ place → slice_get types place ≡ Some type
    → after ≡ numbers ++ number ∷ [] → PutsAll old cur numbers (tree_below of_type types place)
    → (IsNumbered cur → AreNamed cur numbers (tree_below of_type types place) → Puts cur new number (of_type (tree_below of_type types place) type)) → PutsAll old new after (tree_below of_type types (place + 1))
type_put of_type types old cur new numbers after number place type count at pushed all one =
    let own = one all.numbered all.named in
    let more = named_more of_type types new numbers number place type count at (named_on cur new numbers (tree_below of_type types place) own.grows all.named) own.means in
    let up : suc place ≡ place + 1 = omega arith in
    record {
      numbered = own.numbered;
      grows = grows_on old cur new all.grows own.grows;
      named =
          subst (λ (ns : List ℕ). AreNamed new ns (tree_below of_type types (place + 1))) (sym pushed)
          (subst (λ (n : ℕ). AreNamed new (numbers ++ number ∷ []) (tree_below of_type types n)) up more);
    }

pub types_begin : {T : Type 0} (of_type : (ℕ → Tree) → T → Tree) (types : List T) (entries : List Entry) → IsNumbered entries → PutsAll entries entries [] (tree_below of_type types 0)
types_begin of_type types entries numbered = record { numbered = numbered; grows = grows_none entries; named = named_none of_type types entries }

pub types_put : (resolved : Resolved) (old mid new : List Entry) (numbers : TypeNumbers) → PutsAll old mid numbers.nodes.items (node_tree resolved) → PutsAll mid new numbers.edges.items (edge_tree resolved)
    → PutsTypes old new resolved numbers
types_put resolved old mid new numbers nodes edges = record {
  numbered = edges.numbered;
  grows = grows_on old mid new nodes.grows edges.grows;
  nodes = named_on mid new numbers.nodes.items (node_tree resolved) edges.grows nodes.named;
  edges = edges.named;
}

pub types_alike : (first second : Resolved) (old mid new : List Entry) (it : Declarations) → PutsTypes old mid first it.before → PutsTypes mid new second it.after → TellsAlike first second it
types_alike first second old mid new it before after = record {
  nodes = λ own number.
      tells new (number_at it.before.nodes.items own) (number_at it.after.nodes.items number) (node_tree first own) (node_tree second number) after.numbered
      (named_on mid new it.before.nodes.items (node_tree first) after.grows before.nodes own) (after.nodes number);
  edges = λ own number.
      tells new (number_at it.before.edges.items own) (number_at it.after.edges.items number) (edge_tree first own) (edge_tree second number) after.numbered
      (named_on mid new it.before.edges.items (edge_tree first) after.grows before.edges own) (after.edges number);
}
