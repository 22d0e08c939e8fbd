-- What regions have in common, what one leaves of another, and walks over two of them.
use Rattle.std.proofs.Common.{◌≡◌, ℕ, suc, ⊎_elim, MatchOption, IfSome, slice_get, ◌+◌, ◌<◌, ◌≤◌, Bool, true, false, ◌&&◌, ◌||◌, not, List, [], ◌∷◌, ◌++◌, length, get_or, take, append_assoc, Option, Some, None, refl, sym, ◌∙◌, ap, arith, true≢false}
use Rattle.std.specs.List.{list_any, list_all}
use Rattle.std.proofs.Math.Bool.{or-false}
use Rattle.std.proofs.lemmas.List.{take_more}
use Rattle.std.proofs.lemmas.List.Folds.{list_any-append, list_any_at}
use Rattle.std.proofs.lemmas.Bool.{and_parts, and_from, and_left, and_right, or_right, or_cases, or_from}
use Rattle.pgs_base.specs.declared.value.Kind.{Kind}
use Rattle.pgs_base.specs.declared.value.Kind.TheVariants as kinds
use Rattle.pgs_base.specs.declared.value.Value.{Value}
use Rattle.pgs_base.specs.Value.{kind_of}
use Rattle.pgs_conform.proofs.Walks.{later, later_is}
use Rattle.pgs_conform.specs.Shapes.{admits, admits_kind}
use Rattle.pgs_conform.specs.declared.options.Options.{Options}
use Rattle.pgs_contain.specs.Regions.{Point, in_region, in_some_region, is_possible, without, common_options, is_within, lies_in, meets, IsCovered, IsLeft}

-- ---- one key

pub admits_without : (a b : Options) (v : Option Value) → admits (without a b) v ≡ (admits a v && not (admits b v))
admits_without a b None = refl
admits_without a b (Some value) = by (kind_of value)
  where
    by : (kind : Kind) → admits_kind (without a b) kind ≡ (admits_kind a kind && not (admits_kind b kind))
    by kinds.Text = refl
    by kinds.Int = refl
    by kinds.Bool = refl
    by kinds.Date = refl

pub admits_common : (a b : Options) (v : Option Value) → admits (common_options a b) v ≡ (admits a v && admits b v)
admits_common a b None = refl
admits_common a b (Some value) = by (kind_of value)
  where
    by : (kind : Kind) → admits_kind (common_options a b) kind ≡ (admits_kind a kind && admits_kind b kind)
    by kinds.Text = refl
    by kinds.Int = refl
    by kinds.Bool = refl
    by kinds.Date = refl

-- one of five, and all of five
some_of : (a b c d e : Bool) → (a || b || c || d || e) ≡ false → (a ≡ false) × (b ≡ false) × (c ≡ false) × (d ≡ false) × (e ≡ false)
some_of false false false false e h = (refl, refl, refl, refl, h)
some_of false false false true e h = absurd (true≢false h)
some_of false false true d e h = absurd (true≢false h)
some_of false true c d e h = absurd (true≢false h)
some_of true b c d e h = absurd (true≢false h)

each_of : (a b c d e : Bool) → (a && b && c && d && e) ≡ true → (a ≡ true) × (b ≡ true) × (c ≡ true) × (d ≡ true) × (e ≡ true)
each_of true true true true e h = (refl, refl, refl, refl, h)
each_of true true true false e h = absurd (true≢false (sym h))
each_of true true false d e h = absurd (true≢false (sym h))
each_of true false c d e h = absurd (true≢false (sym h))
each_of false b c d e h = absurd (true≢false (sym h))

pub impossible : (o : Options) (v : Option Value) → is_possible o ≡ false → admits o v ≡ false
impossible o None h = (some_of o.absent o.text o.int o.boolean o.date h).0
impossible o (Some value) h = by (kind_of value) (some_of o.absent o.text o.int o.boolean o.date h)
  where
    by : (kind : Kind) → (o.absent ≡ false) × (o.text ≡ false) × (o.int ≡ false) × (o.boolean ≡ false) × (o.date ≡ false) → admits_kind o kind ≡ false
    by kinds.Text parts = parts.1
    by kinds.Int parts = parts.2
    by kinds.Bool parts = parts.3
    by kinds.Date parts = parts.4

then : (a b : Bool) → (not a || b) ≡ true → a ≡ true → b ≡ true
then true b h e = h
then false b h e = absurd (true≢false (sym e))

pub within_admits : (a b : Options) (v : Option Value) → is_within a b ≡ true → admits a v ≡ true → admits b v ≡ true
within_admits a b None h e = then a.absent b.absent (each_of (not a.absent || b.absent) (not a.text || b.text) (not a.int || b.int) (not a.boolean || b.boolean) (not a.date || b.date) h).0 e
within_admits a b (Some value) h e = by (kind_of value) (each_of (not a.absent || b.absent) (not a.text || b.text) (not a.int || b.int) (not a.boolean || b.boolean) (not a.date || b.date) h) e
  where
    by : (kind : Kind) → ((not a.absent || b.absent) ≡ true) × ((not a.text || b.text) ≡ true) × ((not a.int || b.int) ≡ true) × ((not a.boolean || b.boolean) ≡ true) × ((not a.date || b.date) ≡ true) →
        admits_kind a kind ≡ true → admits_kind b kind ≡ true
    by kinds.Text parts is = then a.text b.text parts.1 is
    by kinds.Int parts is = then a.int b.int parts.2 is
    by kinds.Bool parts is = then a.boolean b.boolean parts.3 is
    by kinds.Date parts is = then a.date b.date parts.4 is

-- ---- regions

-- a region that lies in another has no other points
pub lies_in_points : (a b : List Options) (v : Point) → lies_in a b ≡ true → in_region a v ≡ true → in_region b v ≡ true
lies_in_points [] [] v h e = e
lies_in_points [] (y ∷ ys) v h e = absurd (true≢false (sym h))
lies_in_points (x ∷ xs) [] v h e = absurd (true≢false (sym h))
lies_in_points (x ∷ xs) (y ∷ ys) [] h e = absurd (true≢false (sym e))
lies_in_points (x ∷ xs) (y ∷ ys) (v ∷ vs) h e =
    let wide = and_parts _ _ h in
    let here = and_parts _ _ e in
    and_from _ _ (within_admits x y v wide.0 here.0) (lies_in_points xs ys vs wide.1 here.1)

-- so has a list of regions of which one is such
pub lies_in_one_points : (a : List Options) (taken : List (List Options)) (v : Point) → list_any (λ other. lies_in a other) taken ≡ true → in_region a v ≡ true → in_some_region taken v ≡ true
lies_in_one_points a [] v h e = absurd (true≢false (sym h))
lies_in_one_points a (b ∷ bs) v h e = by (lies_in a b) refl h (λ all. lies_in_one_points a bs v all e)
  where
    by : (s : Bool) → lies_in a b ≡ s → (s || list_any (λ other. lies_in a other) bs) ≡ true →
        (list_any (λ other. lies_in a other) bs ≡ true → in_some_region bs v ≡ true) → (in_region b v || in_some_region bs v) ≡ true
    by true is all later = ap (λ t. t || in_some_region bs v) (lies_in_points a b v is e)
    by false is all later = or_right (in_region b v) (in_some_region bs v) (later all)

-- regions that don't meet have no point in common
pub no_meeting : (a b : List Options) (v : Point) → meets a b ≡ false → in_region a v ≡ true → in_region b v ≡ false
no_meeting [] [] v h e = absurd (true≢false h)
no_meeting [] (y ∷ ys) [] h e = refl
no_meeting [] (y ∷ ys) (v ∷ vs) h e = absurd (true≢false (sym e))
no_meeting (x ∷ xs) [] [] h e = absurd (true≢false (sym e))
no_meeting (x ∷ xs) [] (v ∷ vs) h e = refl
no_meeting (x ∷ xs) (y ∷ ys) [] h e = refl
no_meeting (x ∷ xs) (y ∷ ys) (v ∷ vs) h e = by (is_possible (common_options x y)) refl h (λ rest. no_meeting xs ys vs rest (and_parts _ _ e).1)
  where
    by : (s : Bool) → is_possible (common_options x y) ≡ s → (s && meets xs ys) ≡ false → (meets xs ys ≡ false → in_region ys vs ≡ false) →
        (admits y v && in_region ys vs) ≡ false
    by true is rest later = and_right (admits y v) (in_region ys vs) (later rest)
    by false is rest later =
        and_left (admits y v) (in_region ys vs)
        (ap (λ s. s && admits y v) (sym (and_parts _ _ e).0) ∙ sym (admits_common x y v) ∙ impossible (common_options x y) v is)

pub meeting_lengths : (a b : List Options) → meets a b ≡ true → length a ≡ length b
meeting_lengths [] [] h = refl
meeting_lengths [] (y ∷ ys) h = absurd (true≢false (sym h))
meeting_lengths (x ∷ xs) [] h = absurd (true≢false (sym h))
meeting_lengths (x ∷ xs) (y ∷ ys) h = ap suc (meeting_lengths xs ys (and_parts _ _ h).1)

-- where something can't stand at a key there is no point
pub no_point : (a : List Options) (v : Point) → list_all is_possible a ≡ false → in_region a v ≡ false
no_point [] v h = absurd (true≢false h)
no_point (x ∷ xs) [] h = refl
no_point (x ∷ xs) (v ∷ vs) h = by (is_possible x) refl h (no_point xs vs)
  where
    by : (s : Bool) → is_possible x ≡ s → (s && list_all is_possible xs) ≡ false → (list_all is_possible xs ≡ false → in_region xs vs ≡ false) →
        (admits x v && in_region xs vs) ≡ false
    by true is rest later = and_right (admits x v) (in_region xs vs) (later rest)
    by false is rest later = and_left (admits x v) (in_region xs vs) (impossible x v is)

-- ---- one key more of a difference

abbrev IsSplit : Bool → Bool → Bool → Bool → Bool → Type 0
IsSplit own other wrong met both = (own && not other) ≡ (wrong || (met && not both))

split_key : (a b h k : Bool) → IsSplit (a && h) (b && k) ((a && not b) && h) ((a && b) && h) ((a && b) && k)
split_key true true h k = refl
split_key true false true k = refl
split_key true false false k = refl
split_key false b h k = refl

split_later : (c x y z w u : Bool) → IsSplit x y z w u → IsSplit (c && x) (c && y) (c && z) (c && w) (c && u)
split_later true x y z w u h = h
split_later false x y z w u h = refl

split : (kept : List Options) (own other : Options) (owns others : List Options) (v : Point) →
    IsSplit (in_region (kept ++ own ∷ owns) v) (in_region (kept ++ other ∷ others) v) (in_region (kept ++ without own other ∷ owns) v)
    (in_region (kept ++ common_options own other ∷ owns) v) (in_region (kept ++ common_options own other ∷ others) v)
split [] own other owns others [] = refl
split [] own other owns others (v ∷ vs) =
    split_key (admits own v) (admits other v) (in_region owns vs) (in_region others vs)
    ∙ ap (λ s. (s && in_region owns vs) || (((admits own v && admits other v) && in_region owns vs) && not ((admits own v && admits other v) && in_region others vs))) (sym (admits_without own other v))
    ∙ ap (λ s. (admits (without own other) v && in_region owns vs) || ((s && in_region owns vs) && not (s && in_region others vs))) (sym (admits_common own other v))
split (k ∷ ks) own other owns others [] = refl
split (k ∷ ks) own other owns others (v ∷ vs) = split_later (admits k v) _ _ _ _ _ (split ks own other owns others vs)

-- ---- the walks, at lists of which each has a first

-- the first of some isn't met
pub unmet : (region : List Options) (taken left : List (List Options)) (first : List Options) → 1 ≤ length left → first ≡ get_or left 0 first → meets region first ≡ false →
    ((v : Point) → in_region region v ≡ true → in_some_region taken v ≡ in_some_region left v) × (length left ≤ length taken) →
    ((v : Point) → in_region region v ≡ true → in_some_region taken v ≡ in_some_region (later left) v) × (length (later left) ≤ length taken)
unmet region taken [] first some is apart h = absurd (omega arith)
unmet region taken (x ∷ xs) first some is apart h =
    rw (later_is x xs)
    (λ v there. h.0 v there ∙ ap (λ b. b || in_some_region xs v) (no_meeting region x v (ap (meets region) (sym is) ∙ apart) there), omega arith)

-- one key more of a difference
abbrev IsDifference : List Options → List Options → List (List Options) → List Options → List Options → List Options → Type 0
IsDifference region taken parts kept left right =
    ((v : Point) → (in_region region v && not (in_region taken v))
    ≡ (in_some_region parts v || (in_region (kept ++ left) v && not (in_region (kept ++ right) v)))) × (length left ≡ length right)

pub key_more : (region taken : List Options) (parts new_parts : List (List Options)) (kept new_kept left right : List Options) (d e : Options) →
    1 ≤ length left → 1 ≤ length right →
    ((v : Point) → in_some_region new_parts v ≡ (in_some_region parts v || in_region (kept ++ without (get_or left 0 d) (get_or right 0 e) ∷ later left) v)) →
    new_kept ≡ kept ++ common_options (get_or left 0 d) (get_or right 0 e) ∷ [] → IsDifference region taken parts kept left right →
    IsDifference region taken new_parts new_kept (later left) (later right)
key_more region taken parts new_parts kept new_kept [] right d e some_left some_right put pushed h = absurd (omega arith)
key_more region taken parts new_parts kept new_kept (x ∷ xs) [] d e some_left some_right put pushed h = absurd (omega arith)
key_more region taken parts new_parts kept new_kept (x ∷ xs) (y ∷ ys) d e some_left some_right put pushed h =
    (λ v. h.0 v ∙ ap (λ b. in_some_region parts v || b) (both v) ∙ sym (or_assoc (in_some_region parts v) (in_region (kept ++ without x y ∷ xs) v) (in_region (kept ++ common_options x y ∷ xs) v && not (in_region (kept ++ common_options x y ∷ ys) v))) ∙ ends v, omega (arith, length_of))
  where
    length_of : length (later (x ∷ xs)) ≡ length (later (y ∷ ys))
    length_of = ap length (later_is x xs) ∙ (let e : length xs ≡ length ys = omega (arith, h.1) in e) ∙ ap length (sym (later_is y ys))

    or_assoc : (a b c : Bool) → ((a || b) || c) ≡ (a || (b || c))
    or_assoc true b c = refl
    or_assoc false b c = refl

    both : (v : Point) → (in_region (kept ++ x ∷ xs) v && not (in_region (kept ++ y ∷ ys) v))
        ≡ (in_region (kept ++ without x y ∷ xs) v || (in_region (kept ++ common_options x y ∷ xs) v && not (in_region (kept ++ common_options x y ∷ ys) v)))
    both v = split kept x y xs ys v

    grown : (zs : List Options) → new_kept ++ zs ≡ kept ++ common_options x y ∷ zs
    grown zs = ap (λ ks. ks ++ zs) pushed ∙ append_assoc kept (common_options x y ∷ []) zs

    ends : (v : Point) → ((in_some_region parts v || in_region (kept ++ without x y ∷ xs) v) || (in_region (kept ++ common_options x y ∷ xs) v && not (in_region (kept ++ common_options x y ∷ ys) v)))
        ≡ (in_some_region new_parts v || (in_region (new_kept ++ later (x ∷ xs)) v && not (in_region (new_kept ++ later (y ∷ ys)) v)))
    ends v =
        ap (λ zs. (in_some_region parts v || in_region (kept ++ without x y ∷ zs) v) || (in_region (kept ++ common_options x y ∷ xs) v && not (in_region (kept ++ common_options x y ∷ ys) v))) (sym (later_is x xs))
        ∙ ap (λ b. b || (in_region (kept ++ common_options x y ∷ xs) v && not (in_region (kept ++ common_options x y ∷ ys) v))) (sym (put v))
        ∙ ap (λ zs. in_some_region new_parts v || (in_region zs v && not (in_region (kept ++ common_options x y ∷ ys) v))) (sym (grown xs) ∙ ap (λ zs. new_kept ++ zs) (sym (later_is x xs)))
        ∙ ap (λ zs. in_some_region new_parts v || (in_region (new_kept ++ later (x ∷ xs)) v && not (in_region zs v))) (sym (grown ys) ∙ ap (λ zs. new_kept ++ zs) (sym (later_is y ys)))

pub kept_same : (parts new_parts : List (List Options)) (given kept : List Options) (o : Options) (rest : List Options) → given ≡ kept →
    ((v : Point) → in_some_region new_parts v ≡ (in_some_region parts v || in_region (given ++ o ∷ rest) v)) →
    (v : Point) → in_some_region new_parts v ≡ (in_some_region parts v || in_region (kept ++ o ∷ rest) v)
kept_same parts new_parts given kept o rest same h v = h v ∙ ap (λ ks. in_some_region parts v || in_region (ks ++ o ∷ rest) v) same

any_push : (parts : List (List Options)) (part : List Options) (v : Point) → in_some_region (parts ++ part ∷ []) v ≡ (in_some_region parts v || in_region part v)
any_push parts part v = list_any-append (λ region. in_region region v) parts (part ∷ []) ∙ ap (λ b. in_some_region parts v || b) (or-false (in_region part v))

-- a part put, and a part of no point that isn't
pub part_put : (parts new_parts : List (List Options)) (part kept left : List Options) (wrong other : Options) → part ≡ kept ++ wrong ∷ left → wrong ≡ other → new_parts ≡ parts ++ part ∷ [] →
    (v : Point) → in_some_region new_parts v ≡ (in_some_region parts v || in_region (kept ++ other ∷ left) v)
part_put parts new_parts part kept left wrong other made same pushed v =
    ap (λ ps. in_some_region ps v) pushed ∙ any_push parts part v ∙ ap (λ r. in_some_region parts v || in_region r v) (made ∙ ap (λ o. kept ++ o ∷ left) same)

pub part_left_out : (parts : List (List Options)) (kept left : List Options) (wrong other : Options) → is_possible wrong ≡ false → wrong ≡ other →
    (v : Point) → in_some_region parts v ≡ (in_some_region parts v || in_region (kept ++ other ∷ left) v)
part_left_out parts kept left wrong other never same v =
    sym (or-false (in_some_region parts v)) ∙ ap (λ b. in_some_region parts v || b) (sym (none kept v))
  where
    impossible_here : is_possible other ≡ false
    impossible_here = ap is_possible (sym same) ∙ never

    none : (ks : List Options) (w : Point) → in_region (ks ++ other ∷ left) w ≡ false
    none [] [] = refl
    none [] (w ∷ ws) = and_left (admits other w) (in_region left ws) (impossible other w impossible_here)
    none (k ∷ ks) [] = refl
    none (k ∷ ks) (w ∷ ws) = and_right (admits k w) (in_region (ks ++ other ∷ left) ws) (none ks ws)

-- ---- what is left of a region

-- none of some is met: the whole region is left, where it has a point
pub none_met : (region : List Options) (taken left : List (List Options)) (answer : Option (List Options)) → length left < 1 →
    ((v : Point) → in_region region v ≡ true → in_some_region taken v ≡ in_some_region left v) →
    MatchOption answer (list_all is_possible region ≡ false) (λ found. (found ≡ region) × (list_all is_possible region ≡ true)) →
    MatchOption answer (IsCovered region taken) (IsLeft region taken)
none_met region taken (x ∷ xs) answer short same h = absurd (omega arith)
none_met region taken [] None short same h = λ v there. absurd (true≢false (sym there ∙ no_point region v h))
none_met region taken [] (Some found) short same h =
    let inside : (v : Point) → in_region found v ≡ true → in_region region v ≡ true = λ v there. ap (λ r. in_region r v) (sym h.0) ∙ there in
    record {
      possible = ap (list_all is_possible) h.0 ∙ h.1;
      inside = inside;
      outside = λ v there. same v (inside v there);
    }

pub first_length : (region : List Options) (left : List (List Options)) (first : List Options) → 1 ≤ length left → first ≡ get_or left 0 first →
    IfSome (slice_get left 0) (λ one. meets region one ≡ true) → length region ≡ length first
first_length region [] first some is met = absurd (omega arith)
first_length region (x ∷ xs) first some is met = meeting_lengths region x met ∙ ap length (sym is)

-- one part more is covered
pub covered_more : (items rest : List (List Options)) (i : ℕ) (part : List Options) → i < length items → part ≡ get_or items i part →
    ((v : Point) → in_some_region (take i items) v ≡ true → in_some_region rest v ≡ true) → IsCovered part rest →
    (v : Point) → in_some_region (take (i + 1) items) v ≡ true → in_some_region rest v ≡ true
covered_more items rest i part lt is before own v there =
    ⊎_elim (before v) (own v)
    (or_cases (in_some_region (take i items) v) (in_region part v)
    (sym (ap (λ ps. in_some_region ps v) (take_more items i part lt ∙ ap (λ p. take i items ++ p ∷ []) (sym is)) ∙ any_push (take i items) part v) ∙ there))

cut_parts : (a b : Bool) → (a && not b) ≡ true → (a ≡ true) × (b ≡ false)
cut_parts true true h = absurd (true≢false (sym h))
cut_parts true false h = (refl, refl)
cut_parts false b h = absurd (true≢false (sym h))

-- what another region leaves of one
abbrev AreParts : List Options → List Options → List (List Options) → Type 0
AreParts region first parts = (v : Point) → in_some_region parts v ≡ (in_region region v && not (in_region first v))

pub parts_covered : (region first : List Options) (taken met parts : List (List Options)) → 1 ≤ length met → first ≡ get_or met 0 first →
    ((v : Point) → in_region region v ≡ true → in_some_region taken v ≡ in_some_region met v) → AreParts region first parts →
    ((v : Point) → in_some_region parts v ≡ true → in_some_region (later met) v ≡ true) → IsCovered region taken
parts_covered region first taken [] parts some is same made covered = absurd (omega arith)
parts_covered region first taken (x ∷ xs) parts some is same made covered = λ v there. same v there ∙ by v there (in_region x v) refl
  where
    by : (v : Point) → in_region region v ≡ true → (b : Bool) → in_region x v ≡ b → (b || in_some_region xs v) ≡ true
    by v there true e = refl
    by v there false e =
        ap (λ ps. in_some_region ps v) (sym (later_is x xs))
        ∙ covered v (made v ∙ ap (λ b. b && not (in_region first v)) there ∙ ap (λ r. not (in_region r v)) is ∙ ap not e)

pub part_found : (region first : List Options) (taken met parts : List (List Options)) (i : ℕ) (part found : List Options) → 1 ≤ length met → first ≡ get_or met 0 first →
    ((v : Point) → in_region region v ≡ true → in_some_region taken v ≡ in_some_region met v) → AreParts region first parts →
    i < length parts → part ≡ get_or parts i part → IsLeft part (later met) found → IsLeft region taken found
part_found region first taken [] parts i part found some is same made lt at own = absurd (omega arith)
part_found region first taken (x ∷ xs) parts i part found some is same made lt at own =
    record {
      possible = own.possible;
      inside = λ v there. (in_part v there).0;
      outside =
          λ v there.
          same v (in_part v there).0
          ∙ or_from (in_region x v) (in_some_region xs v) (ap (λ r. in_region r v) (sym is) ∙ (in_part v there).1)
          (ap (λ ps. in_some_region ps v) (sym (later_is x xs)) ∙ own.outside v there);
    }
  where
    in_part : (v : Point) → in_region found v ≡ true → (in_region region v ≡ true) × (in_region first v ≡ false)
    in_part v there =
        cut_parts (in_region region v) (in_region first v)
        (sym (made v) ∙ list_any_at (λ r. in_region r v) parts i part lt (ap (λ r. in_region r v) (sym at) ∙ own.inside v there))
