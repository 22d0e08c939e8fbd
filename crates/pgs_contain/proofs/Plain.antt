-- The plainest properties: what stands at each key, and that they are in the region.
use Rattle.std.proofs.Common.{◌≡◌, ℕ, Bool, true, false, ◌||◌, cond, List, [], ◌∷◌, map, length, Option, Some, None, refl, sym, ◌∙◌, ap, true≢false, is_lt, is_eq, arith, pos, Ordering, Less, Equal, Greater}
use Rattle.std.specs.List.{list_all}
use Rattle.std.specs.Map.{keys_of}
use Rattle.std.proofs.lemmas.Bool.{and_parts, and_from, or_left, or_right, or_parts, or_from}
use Rattle.std.proofs.lemmas.Option.{same_Some, none-some}
use Rattle.pgs_base.specs.declared.value.Value.{Value}
use Rattle.pgs_base.specs.declared.value.Value.TheVariants as values
use Rattle.pgs_base.specs.Order.{ascends}
use Rattle.pgs_base.specs.Pair.{same_name, has_name, value_at}
use Rattle.pgs_conform.specs.declared.options.Options.{Options}
use Rattle.pgs_conform.specs.Shapes.{admits}
use Rattle.pgs_product.proofs.Asked.{own_name}
use Rattle.pgs_syntax.proofs.Parts.{one_name}
use Rattle.pgs_product.proofs.United.{name_cmp}
use Rattle.pgs_contain.specs.Contained.{is_plain_value}
use Rattle.pgs_contain.specs.Frames.{Names}
use Rattle.pgs_contain.specs.Regions.{in_region, is_possible, plainest}
use Rattle.pgs_contain.specs.Rows.{row_before, plain_rows}

-- the plainest may stand there
pub plainest_may : (o : Options) → is_possible o ≡ true → admits o (plainest o) ≡ true
plainest_may o possible = by o.absent o.text o.int o.boolean o.date refl refl refl refl refl possible
  where
    by : (a t i b d : Bool) → o.absent ≡ a → o.text ≡ t → o.int ≡ i → o.boolean ≡ b → o.date ≡ d → (a || t || i || b || d) ≡ true → admits o (plainest o) ≡ true
    by true t i b d ea et ei eb ed h = rw ea refl
    by false true i b d ea et ei eb ed h = rw (ea, et) refl
    by false false true b d ea et ei eb ed h = rw (ea, et, ei) refl
    by false false false true d ea et ei eb ed h = rw (ea, et, ei, eb) refl
    by false false false false true ea et ei eb ed h = rw (ea, et, ei, eb, ed) refl
    by false false false false false ea et ei eb ed h = absurd (true≢false (sym h))

-- the rows' keys are among the names
module _ (test : List ℕ → Bool) where
  all_before : (k : List ℕ) (v : Option Value) (rows : List (List ℕ × Value)) → test k ≡ true → list_all test (keys_of rows) ≡ true → list_all test (keys_of (row_before k v rows)) ≡ true
  all_before k None rows own all = all
  all_before k (Some v) rows own all = and_from (test k) (list_all test (keys_of rows)) own all

  pub all_plain : (ks : Names) (os : List Options) → list_all test ks ≡ true → list_all test (keys_of (plain_rows ks os)) ≡ true
  all_plain [] os all = refl
  all_plain (k ∷ ks) [] all = refl
  all_plain (k ∷ ks) (o ∷ os) all = let parts = and_parts _ _ all in all_before k (plainest o) (plain_rows ks os) parts.0 (all_plain ks os parts.1)

-- and ascend
pub rows_ascend : (ks : Names) (os : List Options) → ascends name_cmp ks ≡ true → ascends name_cmp (keys_of (plain_rows ks os)) ≡ true
rows_ascend [] os up = refl
rows_ascend (k ∷ ks) [] up = refl
rows_ascend (k ∷ ks) (o ∷ os) up = by (plainest o) (rows_ascend ks os (and_parts _ _ up).1) (all_plain (λ later. is_lt (name_cmp k later)) ks os (and_parts _ _ up).0)
  where
    by : (v : Option Value) → ascends name_cmp (keys_of (plain_rows ks os)) ≡ true → list_all (λ later. is_lt (name_cmp k later)) (keys_of (plain_rows ks os)) ≡ true →
        ascends name_cmp (keys_of (row_before k v (plain_rows ks os))) ≡ true
    by None rest below = rest
    by (Some v) rest below = and_from _ _ below rest

-- no value stands outside the names
pub rows_apart : (ks : Names) (os : List Options) (k : List ℕ) → has_name k ks ≡ false → value_at k (plain_rows ks os) ≡ None
rows_apart [] os k out = refl
rows_apart (x ∷ xs) [] k out = refl
rows_apart (x ∷ xs) (o ∷ os) k out = by (plainest o) (rows_apart xs os k (or_parts _ _ out).1)
  where
    by : (v : Option Value) → value_at k (plain_rows xs os) ≡ None → value_at k (row_before x v (plain_rows xs os)) ≡ None
    by None rest = rest
    by (Some v) rest = ap (λ b. cond b (Some v) (value_at k (plain_rows xs os))) (or_parts (same_name k x) (has_name k xs) out).0 ∙ rest

-- what stands at the first name, and at later ones
first_stands : (k : List ℕ) (v : Option Value) (rows : List (List ℕ × Value)) → value_at k rows ≡ None → value_at k (row_before k v rows) ≡ v
first_stands k None rows none = none
first_stands k (Some v) rows none = ap (λ b. cond b (Some v) (value_at k rows)) (own_name k)

later_stands : (k x : List ℕ) (v : Option Value) (rows : List (List ℕ × Value)) → same_name k x ≡ false → value_at k (row_before x v rows) ≡ value_at k rows
later_stands k x None rows other = refl
later_stands k x (Some v) rows other = ap (λ b. cond b (Some v) (value_at k rows)) other

map_same : (f g : List ℕ → Option Value) (ks : Names) → ((k : List ℕ) → has_name k ks ≡ true → f k ≡ g k) → map f ks ≡ map g ks
map_same f g [] h = refl
map_same f g (x ∷ xs) h =
    λ i. h x (or_left (same_name x x) (has_name x xs) (own_name x)) i
    ∷ map_same f g xs (λ k there. h k (or_right (same_name k x) (has_name k xs) there)) i

false_from : (b : Bool) → (b ≡ true → ⊥) → b ≡ false
false_from true h = absurd (h refl)
false_from false h = refl

-- a name below some isn't among them
pub below_other : (o : Ordering) → is_lt o ≡ true → is_eq o ≡ false
below_other Less h = refl
below_other Equal h = absurd (true≢false (sym h))
below_other Greater h = refl

pub none_below : (x : List ℕ) (ks : Names) → list_all (λ later. is_lt (name_cmp x later)) ks ≡ true → has_name x ks ≡ false
none_below x [] below = refl
none_below x (k ∷ ks) below = let parts = and_parts _ _ below in or_from (same_name x k) (has_name x ks) (below_other (name_cmp x k) parts.0) (none_below x ks parts.1)

-- a name among those that a name is below isn't that name
other_below : (x k : List ℕ) (ks : Names) → list_all (λ later. is_lt (name_cmp x later)) ks ≡ true → has_name k ks ≡ true → same_name k x ≡ false
other_below x k ks below there = false_from (same_name k x) (λ same. true≢false (sym there ∙ ap (λ z. has_name z ks) (one_name k x same) ∙ none_below x ks below))

pub rows_in : (ks : Names) (os : List Options) → ascends name_cmp ks ≡ true → length ks ≡ length os → list_all is_possible os ≡ true →
    in_region os (map (λ k. value_at k (plain_rows ks os)) ks) ≡ true
rows_in [] [] up same possible = refl
rows_in [] (o ∷ os) up same possible = absurd (omega (arith, same))
rows_in (k ∷ ks) [] up same possible = absurd (omega (arith, same))
rows_in (k ∷ ks) (o ∷ os) up same possible =
    let later = rows_in ks os (and_parts _ _ up).1 (let e : length ks ≡ length os = omega (arith, same) in e) (and_parts _ _ possible).1 in
    and_from _ _
    (ap (admits o) (first_stands k (plainest o) (plain_rows ks os) (rows_apart ks os k (none_below k ks (and_parts _ _ up).0))) ∙ plainest_may o (and_parts _ _ possible).0)
    (ap (in_region os) (map_same (λ l. value_at l (plain_rows (k ∷ ks) (o ∷ os))) (λ l. value_at l (plain_rows ks os)) ks
    (λ l there. later_stands l k (plainest o) (plain_rows ks os) (other_below k l ks (and_parts _ _ up).0 there))) ∙ later)

-- each value is the plainest of its kind
plain_value : (o : Options) (v : Value) → plainest o ≡ Some v → is_plain_value v ≡ true
plain_value o v h = by o.absent o.text o.int o.boolean o.date refl refl refl refl refl
  where
    of_some : (w : Value) → plainest o ≡ Some w → is_plain_value w ≡ true → is_plain_value v ≡ true
    of_some w e plain = ap is_plain_value (same_Some v w (sym h ∙ e)) ∙ plain

    none : plainest o ≡ None → is_plain_value v ≡ true
    none e = absurd (none-some v (sym e ∙ h))

    by : (a t i b d : Bool) → o.absent ≡ a → o.text ≡ t → o.int ≡ i → o.boolean ≡ b → o.date ≡ d → is_plain_value v ≡ true
    by true t i b d ea et ei eb ed = none (rw ea refl)
    by false true i b d ea et ei eb ed = of_some (values.Text []) (rw (ea, et) refl) refl
    by false false true b d ea et ei eb ed = of_some (values.Int (pos 0)) (rw (ea, et, ei) refl) refl
    by false false false true d ea et ei eb ed = of_some (values.Bool false) (rw (ea, et, ei, eb) refl) refl
    by false false false false true ea et ei eb ed = of_some (values.Date (1, 1, 1)) (rw (ea, et, ei, eb, ed) refl) refl
    by false false false false false ea et ei eb ed = none (rw (ea, et, ei, eb, ed) refl)

pub rows_plain : (ks : Names) (os : List Options) → list_all (λ (entry : List ℕ × Value). is_plain_value entry.1) (plain_rows ks os) ≡ true
rows_plain [] os = refl
rows_plain (k ∷ ks) [] = refl
rows_plain (k ∷ ks) (o ∷ os) = by (plainest o) refl (rows_plain ks os)
  where
    by : (v : Option Value) → plainest o ≡ v → list_all (λ (entry : List ℕ × Value). is_plain_value entry.1) (plain_rows ks os) ≡ true →
        list_all (λ (entry : List ℕ × Value). is_plain_value entry.1) (row_before k v (plain_rows ks os)) ≡ true
    by None e rest = rest
    by (Some v) e rest = and_from _ _ (plain_value o v e) rest
