-- The keys of the parts of a walk, and of the expressions, are valid.
use Rattle.std.proofs.Common.{◌≡◌, ℕ, zero, suc, ◌+◌, ◌<◌, ◌≤◌, Bool, true, false, not, List, [], ◌∷◌, length, map, take, get_or, refl, sym, ◌∙◌, ap, arith, ltb}
use Rattle.std.specs.List.{list_all, enumerate_from}
use Rattle.std.proofs.lemmas.Bool.{and_from, and_parts, lt-ltb, le-leb, leb-true}
use Rattle.std.proofs.lemmas.List.{length-map}
use Rattle.pgs_syntax.specs.declared.key.Key.{Key}
use Rattle.pgs_syntax.specs.declared.key.Qualifiers.{Qualifiers}
use Rattle.pgs_syntax.specs.declared.pattern.Expr.{Expr}
use Rattle.pgs_syntax.specs.declared.pattern.Expr.TheVariants.{Element}
use Rattle.pgs_syntax.specs.declared.raw.RawKey.{RawKey}
use Rattle.pgs_syntax.specs.declared.resolved.Resolved.{Resolved}
use Rattle.pgs_syntax.specs.Valid.{are_one_kind, read_var, is_edge_var, is_valid_key, is_valid_key_of}
use Rattle.pgs_resolve_declared.specs.declared.order.Numbering.{Numbering}
use Rattle.pgs_resolve_keys.specs.Patterns.{resolved_key}
use Rattle.pgs_pattern_end.specs.declared.front.Front.{Front}
use Rattle.pgs_pattern_end.specs.End.{is_front_of}
use Rattle.pgs_key_causes.specs.declared.walk.Visit.{Visit}
use Rattle.pgs_key_causes.specs.Fronts.{Descriptor, descriptor_of, vars_of, visit_key, visit_front, fronts_of, place_fronts, has_valid_keys, with_exprs, expr_front, expr_fronts}
use Rattle.pgs_key_causes.specs.Walk.{var_at, walk}
use Rattle.pgs_key_causes.proofs.Linking.{pattern_valid, all_named, first_kind}
use Rattle.pgs_key_causes.proofs.Sound.{IsSound, written_sound}
use Rattle.pgs_key_causes.proofs.Vars.{number_at}
use Rattle.pgs_key_causes.proofs.Walks.{AreWalked, walk_walked, walked_front}

-- what is so of each item with its number
each_enumerated : {X : Type 0} (p : ℕ × X → Bool) (n : ℕ) (xs : List X) → ((k : ℕ) (d : X) → k < length xs → p (n + k, get_or xs k d) ≡ true) →
    list_all p (enumerate_from n xs) ≡ true
each_enumerated p n [] h = refl
each_enumerated p n (x ∷ xs) h =
    let first : n + 0 ≡ n = omega arith in
    and_from _ _ (ap (λ m. p (m, x)) (sym first) ∙ h 0 x (omega arith))
    (each_enumerated p (n + 1) xs
    (λ k d lt. let shift : n + 1 + k ≡ n + suc k = omega arith in ap (λ m. p (m, get_or xs k d)) shift ∙ h (suc k) d (omega (arith, lt))))

all_mapped : {X Y : Type 0} (p : Y → Bool) (f : X → Y) (xs : List X) → list_all (λ x. p (f x)) xs ≡ true → list_all p (map f xs) ≡ true
all_mapped p f [] h = refl
all_mapped p f (x ∷ xs) h =
    let parts = and_parts (p (f x)) (list_all (λ x. p (f x)) xs) h in and_from _ _ parts.0 (all_mapped p f xs parts.1)

same_kind : (a b c : Bool) → a ≡ c → b ≡ c → are_one_kind a b ≡ true
same_kind true b c e f = f ∙ sym e
same_kind false b c e f = ap not (f ∙ sym e)

module _ (schema : Resolved) (numbering : Numbering) (descriptor : Descriptor) (sound : IsSound schema numbering descriptor) (qualifiers : Qualifiers) (visits : List Visit)
    (walked : AreWalked descriptor.occurrences visits) where
  -- the key of a visit
  visit_valid : (k : ℕ) (d : Visit) → k < length visits → is_valid_key_of schema (visit_key numbering descriptor qualifiers visits (k, get_or visits k d)) ≡ true
  visit_valid k d lt =
      let upto = walked_front descriptor.occurrences visits walked (k + 1) in
      let before = walked_front descriptor.occurrences visits walked k in
      let after = walked k d lt in
      let number = number_at (vars_of descriptor.occurrences (take k visits)) (var_at descriptor.occurrences (get_or visits k d).from) after.from in
      let size = length-map (vars_of descriptor.occurrences (take k visits)) (is_edge_var descriptor.edge_vars) in
      let low = number.0 in
      and_from _ _ (and_from _ _
      (and_from _ _ (and_from _ _ (and_from _ _ (and_from _ _ (pattern_valid schema numbering descriptor sound (take (k + 1) visits) upto)
      (pattern_valid schema numbering descriptor sound (take k visits) before))
      (same_kind _ _ (is_edge_var descriptor.edge_vars 0) (first_kind schema numbering descriptor sound (take (k + 1) visits) upto)
      (first_kind schema numbering descriptor sound (take k visits) before)))
      refl)
      (and_from _ _ (lt-ltb _ _ (omega (arith, low, size))) refl))
      (all_named schema numbering descriptor sound (take (k + 1) visits) upto))
      (all_named schema numbering descriptor sound (take k visits) before)

  fronts_valid : list_all (is_front_of schema) (fronts_of numbering descriptor qualifiers visits) ≡ true
  fronts_valid =
      all_mapped (is_front_of schema) (visit_front numbering descriptor qualifiers visits) (enumerate_from 0 visits)
      (each_enumerated (λ visit. is_front_of schema (visit_front numbering descriptor qualifiers visits visit)) 0 visits
      (λ k d lt.
      let zero_more : 0 + k ≡ k = omega arith in
      let valid = visit_valid k d lt in
      ap (λ m. is_front_of schema (visit_front numbering descriptor qualifiers visits (m, get_or visits k d))) zero_more ∙ and_from _ _ valid valid))

pub places_valid : (schema : Resolved) (numbering : Numbering) (key : RawKey) → is_valid_key_of schema (resolved_key numbering key) ≡ true →
    list_all (is_front_of schema) (place_fronts numbering (descriptor_of numbering key) key.qualifiers) ≡ true
places_valid schema numbering key valid =
    let descriptor = descriptor_of numbering key in
    fronts_valid schema numbering descriptor (written_sound schema numbering key valid) key.qualifiers (walk descriptor.occurrences)
    (walk_walked descriptor.occurrences)

-- ---- of a schema, and valid

key_valid : (schema : Resolved) (key : Key) → is_valid_key_of schema key ≡ true → is_valid_key key ≡ true
key_valid schema key h = (and_parts _ _ (and_parts _ _ h).0).0

pub have_valid_keys : (schema : Resolved) (fronts : List Front) → list_all (is_front_of schema) fronts ≡ true → list_all has_valid_keys fronts ≡ true
have_valid_keys schema [] h = refl
have_valid_keys schema (front ∷ fronts) h =
    let both = and_parts (is_front_of schema front) (list_all (is_front_of schema) fronts) h in
    let keys = and_parts (is_valid_key_of schema front.upto) (is_valid_key_of schema front.before) both.0 in
    and_from _ _ (and_from _ _ (key_valid schema front.upto keys.0) (key_valid schema front.before keys.1)) (have_valid_keys schema fronts both.1)

-- ---- expressions

all_taken : {X : Type 0} (p : X → Bool) (n : ℕ) (xs : List X) → list_all p xs ≡ true → list_all p (take n xs) ≡ true
all_taken p zero xs h = refl
all_taken p (suc n) [] h = refl
all_taken p (suc n) (x ∷ xs) h = let parts = and_parts (p x) (list_all p xs) h in and_from _ _ parts.0 (all_taken p n xs parts.1)

taken_size : {X : Type 0} (n : ℕ) (xs : List X) → (length (take n xs) ≤ n) × (length (take n xs) ≤ length xs)
taken_size zero xs = (omega arith, omega arith)
taken_size (suc n) [] = (omega arith, omega arith)
taken_size (suc n) (x ∷ xs) = let h = taken_size n xs in (omega (arith, h.0), omega (arith, h.1))

all_at : {X : Type 0} (p : X → Bool) (xs : List X) (k : ℕ) (d : X) → k < length xs → list_all p xs ≡ true → p (get_or xs k d) ≡ true
all_at p [] k d lt h = absurd (omega (arith, lt))
all_at p (x ∷ xs) zero d lt h = (and_parts (p x) (list_all p xs) h).0
all_at p (x ∷ xs) (suc k) d lt h = all_at p xs k d (omega (arith, lt)) (and_parts (p x) (list_all p xs) h).1

-- a valid key with other expressions, as many and of its variables
with_valid : (schema : Resolved) (key : Key) (exprs : List Expr) → is_valid_key_of schema key ≡ true → length exprs ≤ 16 →
    list_all (λ (expr : Expr). ltb (read_var expr) (length key.descriptor.edge_vars)) exprs ≡ true → is_valid_key_of schema (with_exprs key exprs) ≡ true
with_valid schema key exprs valid size reads =
    let outer = and_parts _ _ valid in
    let scope = and_parts _ _ outer.0 in
    let all_read = and_parts _ _ scope.0 in
    let count = and_parts _ _ all_read.0 in
    and_from _ _ (and_from _ _ (and_from _ _ (and_from _ _ count.0 (le-leb (length exprs) 16 size)) reads) scope.1) outer.1

-- what is said of the expressions of a valid key
record AreFew (key : Key) : Type 0 where
  most : length key.exprs ≤ 16
  read : list_all (λ (expr : Expr). ltb (read_var expr) (length key.descriptor.edge_vars)) key.exprs ≡ true

few_exprs : (schema : Resolved) (key : Key) → is_valid_key_of schema key ≡ true → AreFew key
few_exprs schema key valid =
    let outer = and_parts _ _ valid in
    let scope = and_parts _ _ outer.0 in
    let all_read = and_parts _ _ scope.0 in
    let count = and_parts _ _ all_read.0 in
    record { most = leb-true (length key.exprs) 16 count.1; read = all_read.1 }

expr_valid : (schema : Resolved) (key : Key) (k : ℕ) (d : Expr) → is_valid_key_of schema key ≡ true → k < length key.exprs →
    is_front_of schema (expr_front key (k, get_or key.exprs k d)) ≡ true
expr_valid schema key k d valid lt =
    let few = few_exprs schema key valid in
    let most = few.most in
    let one = taken_size (k + 1) key.exprs in
    let two = taken_size k key.exprs in
    let one_most = one.1 in
    let two_most = two.0 in
    let reads : Expr → Bool = λ (expr : Expr). ltb (read_var expr) (length key.descriptor.edge_vars) in
    and_from _ _ (with_valid schema key (take (k + 1) key.exprs) valid (omega (arith, most, one_most)) (all_taken reads (k + 1) key.exprs few.read))
    (with_valid schema key (Element (read_var (get_or key.exprs k d)) ∷ take k key.exprs) valid (omega (arith, most, two_most, lt))
    (and_from _ _ (all_at reads key.exprs k d lt few.read) (all_taken reads k key.exprs few.read)))

pub key_exprs_valid : (schema : Resolved) (key : Key) → is_valid_key_of schema key ≡ true → list_all (is_front_of schema) (expr_fronts key) ≡ true
key_exprs_valid schema key valid =
    all_mapped (is_front_of schema) (expr_front key) (enumerate_from 0 key.exprs)
    (each_enumerated (λ expr. is_front_of schema (expr_front key expr)) 0 key.exprs
    (λ k d lt.
    let zero_more : 0 + k ≡ k = omega arith in
    ap (λ m. is_front_of schema (expr_front key (m, get_or key.exprs k d))) zero_more ∙ expr_valid schema key k d valid lt))

pub exprs_valid : (schema : Resolved) (numbering : Numbering) (key : RawKey) → is_valid_key_of schema (resolved_key numbering key) ≡ true →
    list_all (is_front_of schema) (expr_fronts (resolved_key numbering key)) ≡ true
exprs_valid schema numbering key valid = key_exprs_valid schema (resolved_key numbering key) valid
