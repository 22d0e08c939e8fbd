-- The properties between braces as keys in order: they ask the same.
use Rattle.std.proofs.Common.{◌≡◌, ℕ, Bool, true, false, ◌&&◌, ◌||◌, ◌==◌, not, cond, List, [], ◌∷◌, ◌++◌, take, drop, map, Option, Some, None, refl, sym, ◌∙◌, ap, true≢false}
use Rattle.std.specs.List.{list_any, list_all}
use Rattle.std.specs.Map.{keys_of, lookup}
use Rattle.std.specs.Option.{option_map_or}
use Rattle.std.proofs.lemmas.Bool.{and_parts, and_from, not-true}
use Rattle.std.proofs.lemmas.List.{take-append-drop}
use Rattle.std.proofs.lemmas.List.Folds.{list_any-append, list_all-map}
use Rattle.pgs_base.specs.declared.row.NodeRow.{NodeRow}
use Rattle.pgs_base.specs.declared.value.Kind.{Kind}
use Rattle.pgs_base.specs.declared.value.Kind.TheVariants as kinds
use Rattle.pgs_base.specs.declared.value.Value.{Value}
use Rattle.pgs_base.specs.Order.{ascends}
use Rattle.pgs_base.specs.Pair.{same_name, has_name, value_at, is_pair}
use Rattle.pgs_base.specs.Value.{kind_of, kind_rank, is_of_kind}
use Rattle.pgs_syntax.specs.declared.specification.Braces.{Braces}
use Rattle.pgs_syntax.specs.declared.specification.Property.{Property}
use Rattle.pgs_syntax.specs.Fitting.{is_met, is_named_by, is_braced}
use Rattle.pgs_syntax.specs.Join.{is_empty}
use Rattle.pgs_syntax.proofs.Parts.{one_name}
use Rattle.pgs_conform.specs.declared.options.Options.{Options}
use Rattle.pgs_conform.specs.Shapes.{admits, admits_kind, labels_meet, props_meet}
use Rattle.pgs_conform.specs.JoinedOptions.{free_options, joins_kind, joined_options}
use Rattle.pgs_product.specs.Merged.{merged}
use Rattle.pgs_product.proofs.Asked.{AreApart, apart_ascending, props_meet_same}
use Rattle.pgs_product.proofs.Exact.{same_answer}
use Rattle.pgs_product.proofs.Keyed.{combined, at_merged}
use Rattle.pgs_product.proofs.United.{name_cmp}
use Rattle.pgs_shapes.specs.Properties.{are_apart, property_options, key_of}
use Rattle.pgs_shapes.proofs.Leaves.{no_labels}

abbrev Keys : Type 0
Keys = List (List ℕ × Options)

abbrev keyed : List Property → Keys
keyed properties = map key_of properties

abbrev same_key : Property → Property → Bool
same_key a b = same_name a.key b.key

-- ---- keys that no two properties share

or_parts : (a b : Bool) → (a || b) ≡ false → (a ≡ false) × (b ≡ false)
or_parts true b e = absurd (true≢false e)
or_parts false b e = (refl, e)

-- a key that no property has isn't found
absent : (k : List ℕ) (properties : List Property) → list_any (λ (property : Property). same_name k property.key) properties ≡ false →
    lookup (same_name k) (keyed properties) ≡ None
absent k [] h = refl
absent k (x ∷ xs) h =
    let parts = or_parts _ _ h in
    ap (λ s. cond s (Some (property_options x)) (lookup (same_name k) (keyed xs))) parts.0 ∙ absent k xs parts.1

pub apart_keys : (properties : List Property) → are_apart properties ≡ true → AreApart (keyed properties)
apart_keys [] h = tt
apart_keys (x ∷ xs) h = let parts = and_parts _ _ h in (absent x.key xs (not-true _ parts.0), apart_keys xs parts.1)

-- the parts of properties, of which no two share a key either, nor one of the one part with one of the other
apart_first : (xs ys : List Property) → are_apart (xs ++ ys) ≡ true → are_apart xs ≡ true
apart_first [] ys h = refl
apart_first (x ∷ xs) ys h =
    let parts = and_parts _ _ h in
    let none = or_parts _ _ (sym (list_any-append (same_key x) xs ys) ∙ not-true _ parts.0) in
    and_from _ _ (ap not none.0) (apart_first xs ys parts.1)

apart_second : (xs ys : List Property) → are_apart (xs ++ ys) ≡ true → are_apart ys ≡ true
apart_second [] ys h = h
apart_second (x ∷ xs) ys h = apart_second xs ys (and_parts _ _ h).1

apart_across : (k : List ℕ) (xs ys : List Property) → are_apart (xs ++ ys) ≡ true → (o : Options) → lookup (same_name k) (keyed xs) ≡ Some o →
    lookup (same_name k) (keyed ys) ≡ None
apart_across k [] ys h o is = cc
apart_across k (x ∷ xs) ys h o is = by (same_name k x.key) refl is (apart_across k xs ys (and_parts _ _ h).1 o)
  where
    by : (s : Bool) → same_name k x.key ≡ s → cond s (Some (property_options x)) (lookup (same_name k) (keyed xs)) ≡ Some o →
        (lookup (same_name k) (keyed xs) ≡ Some o → lookup (same_name k) (keyed ys) ≡ None) → lookup (same_name k) (keyed ys) ≡ None
    by true same e rest =
        let none = or_parts _ _ (sym (list_any-append (same_key x) xs ys) ∙ not-true _ (and_parts _ _ h).0) in
        ap (λ key. lookup (same_name key) (keyed ys)) (one_name k x.key same) ∙ absent x.key ys none.1
    by false other e rest = rest e

-- ---- halves merged

or_none : (a b : Bool) → ((a && true) || (b && false)) ≡ a
or_none true b = refl
or_none false true = refl
or_none false false = refl

and_true : (b : Bool) → (b && true) ≡ b
and_true true = refl
and_true false = refl

abbrev options : Bool → Bool → Bool → Bool → Bool → Options
options a t i b d = record { absent = a; text = t; int = i; boolean = b; date = d }

closed_second : (x : Options) → joined_options x (free_options false) ≡ x
closed_second x =
    ap (λ a. options a (joins_kind x.text x.absent false true) (joins_kind x.int x.absent false true) (joins_kind x.boolean x.absent false true) (joins_kind x.date x.absent false true)) (and_true x.absent)
    ∙ ap (λ t. options x.absent t (joins_kind x.int x.absent false true) (joins_kind x.boolean x.absent false true) (joins_kind x.date x.absent false true)) (or_none x.text x.absent)
    ∙ ap (λ i. options x.absent x.text i (joins_kind x.boolean x.absent false true) (joins_kind x.date x.absent false true)) (or_none x.int x.absent)
    ∙ ap (λ b. options x.absent x.text x.int b (joins_kind x.date x.absent false true)) (or_none x.boolean x.absent)
    ∙ ap (λ d. options x.absent x.text x.int x.boolean d) (or_none x.date x.absent)

closed_first : (x : Options) → joined_options (free_options false) x ≡ x
closed_first x = refl

lookup_cut : (k : List ℕ) (xs ys : List Property) → are_apart (xs ++ ys) ≡ true →
    combined (free_options false) (free_options false) (lookup (same_name k) (keyed xs)) (lookup (same_name k) (keyed ys)) ≡ lookup (same_name k) (keyed (xs ++ ys))
lookup_cut k [] ys h = by (lookup (same_name k) (keyed ys))
  where
    by : (o : Option Options) → combined (free_options false) (free_options false) None o ≡ o
    by None = refl
    by (Some x) = ap Some (closed_first x)
lookup_cut k (x ∷ xs) ys h = by (same_name k x.key) refl (lookup_cut k xs ys (and_parts _ _ h).1)
  where
    by : (s : Bool) → same_name k x.key ≡ s →
        combined (free_options false) (free_options false) (lookup (same_name k) (keyed xs)) (lookup (same_name k) (keyed ys)) ≡ lookup (same_name k) (keyed (xs ++ ys)) →
        combined (free_options false) (free_options false) (cond s (Some (property_options x)) (lookup (same_name k) (keyed xs))) (lookup (same_name k) (keyed ys))
        ≡ cond s (Some (property_options x)) (lookup (same_name k) (keyed (xs ++ ys)))
    by true same rest =
        let here : lookup (same_name k) (keyed (x ∷ xs)) ≡ Some (property_options x) = ap (λ s. cond s (Some (property_options x)) (lookup (same_name k) (keyed xs))) same in
        ap (combined (free_options false) (free_options false) (Some (property_options x))) (apart_across k (x ∷ xs) ys h (property_options x) here)
        ∙ ap Some (closed_second (property_options x))
    by false other rest = rest

pub cut_whole : (n : ℕ) (properties front back : List Property) → front ≡ take n properties → back ≡ drop n properties → front ++ back ≡ properties
cut_whole n properties front back f b = ap (λ ps. ps ++ back) f ∙ ap (λ ps. take n properties ++ ps) b ∙ take-append-drop n properties

-- the keys of two halves as one are those of the whole
pub halves_same : (properties front back : List Property) (first second : Keys) → front ++ back ≡ properties →
    ascends name_cmp (keys_of first) ≡ true → ascends name_cmp (keys_of second) ≡ true →
    (are_apart front ≡ true → (k : List ℕ) → lookup (same_name k) first ≡ lookup (same_name k) (keyed front)) →
    (are_apart back ≡ true → (k : List ℕ) → lookup (same_name k) second ≡ lookup (same_name k) (keyed back)) →
    are_apart properties ≡ true → (k : List ℕ) → lookup (same_name k) (merged (free_options false) (free_options false) first second) ≡ lookup (same_name k) (keyed properties)
halves_same properties front back first second whole up too one other apart k =
    let both : are_apart (front ++ back) ≡ true = ap are_apart whole ∙ apart in
    at_merged (free_options false) (free_options false) k first second up too
    ∙ ap (λ o. combined (free_options false) (free_options false) o (lookup (same_name k) second)) (one (apart_first front back both) k)
    ∙ ap (combined (free_options false) (free_options false) (lookup (same_name k) (keyed front))) (other (apart_second front back both) k)
    ∙ lookup_cut k front back both ∙ ap (λ ps. lookup (same_name k) (keyed ps)) whole

-- ---- what the keys ask

admits_of_kind : (property : Property) (kind : Kind) (v : Value) → kind_of v ≡ kind → admits_kind (property_options property) kind ≡ is_of_kind property.kind v
admits_of_kind property kinds.Text v e = ap (λ k. kind_rank k == kind_rank property.kind) (sym e)
admits_of_kind property kinds.Int v e = ap (λ k. kind_rank k == kind_rank property.kind) (sym e)
admits_of_kind property kinds.Bool v e = ap (λ k. kind_rank k == kind_rank property.kind) (sym e)
admits_of_kind property kinds.Date v e = ap (λ k. kind_rank k == kind_rank property.kind) (sym e)

met_same : (props : List (List ℕ × Value)) (property : Property) → admits (property_options property) (value_at property.key props) ≡ is_met props property
met_same props property = by (value_at property.key props)
  where
    by : (o : Option Value) → admits (property_options property) o ≡ option_map_or (is_of_kind property.kind) o property.optional
    by None = refl
    by (Some v) = admits_of_kind property (kind_of v) v refl

all_same : {X : Type 0} (p q : X → Bool) → ((x : X) → p x ≡ q x) → (xs : List X) → list_all p xs ≡ list_all q xs
all_same p q same [] = refl
all_same p q same (x ∷ xs) = ap (λ b. b && list_all p xs) (same x) ∙ ap (λ b. q x && b) (all_same p q same xs)

named_same : (key : List ℕ) (properties : List Property) → has_name key (keys_of (keyed properties)) ≡ is_named_by properties key
named_same key [] = refl
named_same key (x ∷ xs) = ap (λ b. same_name key x.key || b) (named_same key xs)

unsorted : (properties : List Property) (more : Bool) (props : List (List ℕ × Value)) → props_meet (keyed properties) more props
    ≡ (list_all (is_met props) properties && list_all (λ (entry : List ℕ × Value). more || is_named_by properties entry.0) props)
unsorted properties more props =
    ap (λ b. b && list_all (λ (entry : List ℕ × Value). more || has_name entry.0 (keys_of (keyed properties))) props)
    (list_all-map (λ (key : List ℕ × Options). admits key.1 (value_at key.0 props)) key_of properties ∙ all_same _ _ (met_same props) properties)
    ∙ ap (λ b. list_all (is_met props) properties && b) (all_same _ _ (λ (entry : List ℕ × Value). ap (λ b. more || b) (named_same entry.0 properties)) props)

and_assoc : (a b c : Bool) → (a && (b && c)) ≡ ((a && b) && c)
and_assoc true b c = refl
and_assoc false b c = refl

pub braces_meet : (braces : Braces) (labels : List (List ℕ)) (keys : Keys) → labels ≡ [] → ascends name_cmp (keys_of keys) ≡ true → are_apart braces.properties ≡ true →
    ((k : List ℕ) → lookup (same_name k) keys ≡ lookup (same_name k) (keyed braces.properties)) → (p : NodeRow) → is_pair p ≡ true →
    (labels_meet labels false p.labels && props_meet keys braces.more p.props) ≡ is_braced braces p
braces_meet braces labels keys none up apart same p pair =
    let there : ascends name_cmp (keys_of p.props) ≡ true = (and_parts _ _ (and_parts _ _ (and_parts _ _ pair).1).0).0 in
    let sorted : props_meet keys braces.more p.props ≡ props_meet (keyed braces.properties) braces.more p.props = same_answer _ _
    (props_meet_same keys (keyed braces.properties) braces.more p.props (apart_keys braces.properties apart) there (λ k. sym (same k)))
    (props_meet_same (keyed braces.properties) keys braces.more p.props (apart_ascending keys up) there same) in
    ap (λ ls. labels_meet ls false p.labels && props_meet keys braces.more p.props) none
    ∙ ap (λ b. b && props_meet keys braces.more p.props) (no_labels p.labels)
    ∙ ap (λ b. is_empty p.labels && b) (sorted ∙ unsorted braces.properties braces.more p.props)
    ∙ and_assoc (is_empty p.labels) (list_all (is_met p.props) braces.properties) _
