-- What the labels and the keys of a shape ask, of each label and of each key.
use Rattle.std.proofs.Common.{◌≡◌, ℕ, Bool, true, false, ◌||◌, cond, List, [], ◌∷◌, Option, Some, None, is_some, unwrap_or, refl, sym, ◌∙◌, ap, true≢false, ⊎_elim, is_eq}
use Rattle.std.specs.Cmp.{tied_itself}
use Rattle.std.specs.Cmp.Lexicographic.{nat_list_cmp_total}
use Rattle.std.specs.List.{list_all}
use Rattle.std.specs.Map.{keys_of, lookup}
use Rattle.std.proofs.lemmas.Bool.{and_parts, and_from, or_cases}
use Rattle.pgs_base.specs.declared.value.Kind.{Kind}
use Rattle.pgs_base.specs.declared.value.Kind.TheVariants as kinds
use Rattle.pgs_base.specs.declared.value.Value.{Value}
use Rattle.pgs_base.specs.Value.{kind_of}
use Rattle.pgs_base.specs.Order.{ascends}
use Rattle.pgs_base.specs.Pair.{same_name, has_name, value_at}
use Rattle.pgs_syntax.proofs.Parts.{one_name}
use Rattle.pgs_conform.specs.declared.options.Options.{Options}
use Rattle.pgs_conform.specs.Shapes.{admits, admits_kind, labels_meet, props_meet}
use Rattle.pgs_conform.specs.JoinedOptions.{free_options, options_at}
use Rattle.pgs_product.proofs.Keyed.{absent_below}
use Rattle.pgs_product.proofs.United.{name_cmp}

abbrev Names : Type 0
Names = List (List ℕ)

pub own_name : (name : List ℕ) → same_name name name ≡ true
own_name name = ap is_eq (tied_itself nat_list_cmp_total name)

pub or_first : (a b : Bool) → a ≡ true → (a || b) ≡ true
or_first true b h = refl
or_first false b h = absurd (true≢false (sym h))

pub or_second : (a b : Bool) → b ≡ true → (a || b) ≡ true
or_second true b h = refl
or_second false b h = h

-- ---- names

pub all_has : (t : List ℕ → Bool) (names : Names) → list_all t names ≡ true → (name : List ℕ) → has_name name names ≡ true → t name ≡ true
all_has t [] all name there = absurd (true≢false (sym there))
all_has t (x ∷ xs) all name there =
    let parts = and_parts _ _ all in
    ⊎_elim (λ same. ap t (one_name name x same) ∙ parts.0) (λ later. all_has t xs parts.1 name later) (or_cases _ _ there)

pub has_all : (t : List ℕ → Bool) (names : Names) → ((name : List ℕ) → has_name name names ≡ true → t name ≡ true) → list_all t names ≡ true
has_all t [] h = refl
has_all t (x ∷ xs) h =
    and_from _ _ (h x (or_first _ (has_name x xs) (own_name x))) (has_all t xs (λ name there. h name (or_second (same_name name x) _ there)))

-- a label that is asked for is there, and one that is there is asked for or free
abbrev pub IsLabelMet : Bool → Bool → Bool → Type 0
IsLabelMet asked more there = (asked ≡ true → there ≡ true) × (there ≡ true → (more || asked) ≡ true)

pub labels_met : (asked : Names) (more : Bool) (labels : Names) → labels_meet asked more labels ≡ true →
    (l : List ℕ) → IsLabelMet (has_name l asked) more (has_name l labels)
labels_met asked more labels h l = let parts = and_parts _ _ h in (all_has _ asked parts.0 l, all_has _ labels parts.1 l)

pub labels_meet_from : (asked : Names) (more : Bool) (labels : Names) → ((l : List ℕ) → IsLabelMet (has_name l asked) more (has_name l labels)) →
    labels_meet asked more labels ≡ true
labels_meet_from asked more labels h = and_from _ _ (has_all _ asked (λ l. (h l).0)) (has_all _ labels (λ l. (h l).1))

-- ---- entries

abbrev found_at : {V : Type 0} → List ℕ → List (List ℕ × V) → Option V
found_at k entries = lookup (same_name k) entries

pub has_found : {V : Type 0} (k : List ℕ) (entries : List (List ℕ × V)) → has_name k (keys_of entries) ≡ is_some (lookup (same_name k) entries)
has_found k [] = refl
has_found k (e ∷ es) = by (same_name k e.0) (has_found k es)
  where
    by : (s : Bool) → has_name k (keys_of es) ≡ is_some (found_at k es) → (s || has_name k (keys_of es)) ≡ is_some (cond s (Some e.1) (found_at k es))
    by true h = refl
    by false h = h

-- a test of each entry holds of what is found at a key, and the other way round where keys ascend
pub entries_found : {V : Type 0} (t : List ℕ × V → Bool) (entries : List (List ℕ × V)) → list_all t entries ≡ true → (k : List ℕ) (v : V) →
    lookup (same_name k) entries ≡ Some v → t (k, v) ≡ true
entries_found t [] all k v e = cc
entries_found t (x ∷ xs) all k v e = by (same_name k x.0) refl e (entries_found t xs (and_parts _ _ all).1 k v)
  where
    by : (s : Bool) → same_name k x.0 ≡ s → cond s (Some x.1) (found_at k xs) ≡ Some v → (found_at k xs ≡ Some v → t (k, v) ≡ true) → t (k, v) ≡ true
    by true same is rest =
        let value : x.1 ≡ v = cc in
        ap (λ w. t (k, w)) (sym value) ∙ ap (λ key. t (key, x.1)) (one_name k x.0 same) ∙ (and_parts _ _ all).0
    by false other is rest = rest is

-- no key stands twice
abbrev pub AreApart : {V : Type 0} → List (List ℕ × V) → Type 0
AreApart [] = Unit {0}
AreApart (x ∷ xs) = (lookup (same_name x.0) xs ≡ None) × AreApart xs

pub apart_ascending : {V : Type 0} (entries : List (List ℕ × V)) → ascends name_cmp (keys_of entries) ≡ true → AreApart entries
apart_ascending [] up = tt
apart_ascending (x ∷ xs) up = (absent_below x.0 xs (and_parts _ _ up).0, apart_ascending xs (and_parts _ _ up).1)

pub found_apart : {V : Type 0} (t : List ℕ × V → Bool) (entries : List (List ℕ × V)) → AreApart entries →
    ((k : List ℕ) (v : V) → lookup (same_name k) entries ≡ Some v → t (k, v) ≡ true) → list_all t entries ≡ true
found_apart t [] apart h = refl
found_apart {V} t (x ∷ xs) apart h =
    and_from _ _ (h x.0 x.1 (ap (λ s. cond s (Some x.1) (found_at x.0 xs)) (own_name x.0)))
    (found_apart t xs apart.1 (λ k v is. h k v (by k v (same_name k x.0) refl is)))
  where
    by : (k : List ℕ) (v : V) (s : Bool) → same_name k x.0 ≡ s → found_at k xs ≡ Some v → cond s (Some x.1) (found_at k xs) ≡ Some v
    by k v true same is = let none : found_at k xs ≡ None = ap (λ key. found_at key xs) (one_name k x.0 same) ∙ apart.0 in cc
    by k v false other is = is

pub found_entries : {V : Type 0} (t : List ℕ × V → Bool) (entries : List (List ℕ × V)) → ascends name_cmp (keys_of entries) ≡ true →
    ((k : List ℕ) (v : V) → lookup (same_name k) entries ≡ Some v → t (k, v) ≡ true) → list_all t entries ≡ true
found_entries t entries up h = found_apart t entries (apart_ascending entries up) h

-- ---- keys

abbrev Keys : Type 0
Keys = List (List ℕ × Options)

abbrev Props : Type 0
Props = List (List ℕ × Value)

free_admits : (more : Bool) (v : Value) → admits (free_options more) (Some v) ≡ more
free_admits more v = by more (kind_of v)
  where
    by : (m : Bool) (kind : Kind) → admits_kind (free_options m) kind ≡ m
    by m kinds.Text = refl
    by m kinds.Int = refl
    by m kinds.Bool = refl
    by m kinds.Date = refl

pub props_met : (keys : Keys) (more : Bool) (props : Props) → props_meet keys more props ≡ true → (k : List ℕ) → admits (options_at keys more k) (value_at k props) ≡ true
props_met keys more props h k = by (lookup (same_name k) keys) refl (value_at k props) refl
  where
    parts : (list_all (λ (key : List ℕ × Options). admits key.1 (value_at key.0 props)) keys ≡ true)
        × (list_all (λ (entry : List ℕ × Value). more || has_name entry.0 (keys_of keys)) props ≡ true)
    parts = and_parts _ _ h

    by : (o : Option Options) → lookup (same_name k) keys ≡ o → (v : Option Value) → value_at k props ≡ v → admits (unwrap_or o (free_options more)) (value_at k props) ≡ true
    by (Some x) is v there = entries_found (λ (key : List ℕ × Options). admits key.1 (value_at key.0 props)) keys parts.0 k x is
    by None is None there = ap (admits (free_options more)) there
    by None is (Some v) there =
        let named : has_name k (keys_of keys) ≡ false = has_found k keys ∙ ap is_some is in
        let free : (more || has_name k (keys_of keys)) ≡ true = entries_found (λ (entry : List ℕ × Value). more || has_name entry.0 (keys_of keys)) props parts.1 k v there in
        ap (admits (free_options more)) there ∙ free_admits more v ∙ only more (ap (λ b. more || b) (sym named) ∙ free)
      where
        only : (m : Bool) → (m || false) ≡ true → m ≡ true
        only true e = refl
        only false e = e

pub props_meet_apart : (keys : Keys) (more : Bool) (props : Props) → AreApart keys → ascends name_cmp (keys_of props) ≡ true →
    ((k : List ℕ) → admits (options_at keys more k) (value_at k props) ≡ true) → props_meet keys more props ≡ true
props_meet_apart keys more props apart there h =
    and_from _ _ (found_apart (λ (key : List ℕ × Options). admits key.1 (value_at key.0 props)) keys apart
    (λ k x is. ap (λ o. admits (unwrap_or o (free_options more)) (value_at k props)) (sym is) ∙ h k))
    (found_entries (λ (entry : List ℕ × Value). more || has_name entry.0 (keys_of keys)) props there (λ k v is. free k v is (lookup (same_name k) keys) refl))
  where
    free : (k : List ℕ) (v : Value) → value_at k props ≡ Some v → (o : Option Options) → lookup (same_name k) keys ≡ o → (more || has_name k (keys_of keys)) ≡ true
    free k v is (Some x) e = or_second more _ (has_found k keys ∙ ap is_some e)
    free k v is None e =
        or_first more _ (sym (free_admits more v) ∙ ap (admits (free_options more)) (sym is)
        ∙ ap (λ o. admits (unwrap_or o (free_options more)) (value_at k props)) (sym e) ∙ h k)

pub props_meet_from : (keys : Keys) (more : Bool) (props : Props) → ascends name_cmp (keys_of keys) ≡ true → ascends name_cmp (keys_of props) ≡ true →
    ((k : List ℕ) → admits (options_at keys more k) (value_at k props) ≡ true) → props_meet keys more props ≡ true
props_meet_from keys more props up there h = props_meet_apart keys more props (apart_ascending keys up) there h

-- keys that say the same of each key are met by the same properties
pub props_meet_same : (keys others : Keys) (more : Bool) (props : Props) → AreApart others → ascends name_cmp (keys_of props) ≡ true →
    ((k : List ℕ) → lookup (same_name k) others ≡ lookup (same_name k) keys) → props_meet keys more props ≡ true → props_meet others more props ≡ true
props_meet_same keys others more props apart there same h =
    props_meet_apart others more props apart there (λ k. ap (λ o. admits (unwrap_or o (free_options more)) (value_at k props)) (same k) ∙ props_met keys more props h k)
