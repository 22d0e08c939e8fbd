-- The first violation of a key in the changed graph is the first that the rows of changed elements make.
use Rattle.std.proofs.Common.{◌≡◌, ℕ, Bool, true, false, ⊎_elim, List, [], ◌∷◌, ◌++◌, map, Option, Some, None, is_some, slice_get, refl, sym, ◌∙◌, ap, subst, true≢false, arith, Ordering, Less, Equal, Greater, is_lt}
use Rattle.std.specs.Prelude.{Contains, filter_map, option_and_then}
use Rattle.std.specs.Option.{option_map_or}
use Rattle.std.specs.Ordering.{ordering_reverse}
use Rattle.std.specs.List.{cons_option}
use Rattle.pgs_base.specs.declared.element.Elem.{Elem}
use Rattle.pgs_base.specs.declared.part.Part.{Part}
use Rattle.pgs_base.specs.Graph.{Graph, is_graph}
use Rattle.pgs_base.specs.Order.{ascends, elem_cmp}
use Rattle.pgs_base.specs.OrderLaws.{elem_cmp_total, exact_elem}
use Rattle.std.specs.Cmp.{Equal-is, eq_by_cmp_equiv}
use Rattle.std.proofs.lemmas.Map.Views.{Contains-from_any, list_any-from_Contains}
use Rattle.pgs_syntax.specs.declared.key.Key.{Key}
use Rattle.pgs_syntax.specs.declared.resolved.Resolved.{Resolved}
use Rattle.pgs_syntax.specs.KeyValues.{scope_of, key_values}
use Rattle.pgs_syntax.specs.Matches.{same_elem}
use Rattle.pgs_syntax.proofs.InOrder.{scope_ascends}
use Rattle.pgs_syntax.proofs.Members.{contains_none, contains_cases, contains_first, contains_later, among, is_among}
use Rattle.pgs_violation.specs.declared.violation.Violation.{Violation}
use Rattle.pgs_violation.specs.declared.violation.Violation.TheVariants.{Exclusive}
use Rattle.pgs_violation.specs.Standing.{violation_cmp}
use Rattle.pgs_violation.specs.Violations.{mandatory_violation, singleton_violation, exclusive_violation, count_violation, where_asked, where_bounded, key_violations}
use Rattle.pgs_keyindex.specs.declared.change.KeyChange.{KeyChange}
use Rattle.pgs_keyindex.specs.Rows.{KeyRows, values_at, has_tuple, has_value}
use Rattle.pgs_keyindex.specs.Standing.{values_in_scope}
use Rattle.pgs_check_affected.specs.Local.{is_one_of}
use Rattle.pgs_check.specs.declared.rule.Rule.{Rule}
use Rattle.pgs_check.specs.declared.rule.Rule.TheVariants as rules
use Rattle.pgs_check.specs.Clashes.{clash, clash_by, tuples_of, with_owners, IsOwner}
use Rattle.pgs_check.specs.Rows.{change_of, found_by, found_in, first_found, first_if, first_or, first_outside, least_shared, first_of_rows}
use Rattle.pgs_check.proofs.Firsts.{first_append, none_given, same_first}
use Rattle.pgs_check.proofs.Shared.{Values, holds, IsSharing, row_found, row_given, shared_first, none_shared, shared_none}
use Rattle.pgs_check.proofs.Covered.{covers, covers_found, owners_cover, owners_all, earlier_keeps, earlier_covers, earlier_all, clash_sooner, clash_later, elems_of}

-- ---- small steps

one_elem : (a b : Elem) → same_elem a b ≡ true → a ≡ b
one_elem a b h = exact_elem a b ((Equal-is (elem_cmp a b)).0 h)

pub listed_there : (elems : List Elem) (elem : Elem) → is_one_of elems elem ≡ true → Contains elems elem
listed_there elems elem = Contains-from_any one_elem elem elems

pub there_listed : (elems : List Elem) (elem : Elem) → Contains elems elem → is_one_of elems elem ≡ true
there_listed elems elem = list_any-from_Contains (eq_by_cmp_equiv elem_cmp_total) elem elems

pub no_front : {X : Type 0} (xs ys : List X) → xs ++ ys ≡ [] → (xs ≡ []) × (ys ≡ [])
no_front [] ys e = (refl, e)
no_front (x ∷ xs) ys e = cc

asked_none : (b : Bool) (vs : List Violation) → where_asked b vs ≡ [] → b ≡ true → vs ≡ []
asked_none true vs e asked = e
asked_none false vs e asked = cc

first_asked : (b : Bool) (found : Option Violation) (vs : List Violation) → (b ≡ true → slice_get vs 0 ≡ found) → slice_get (where_asked b vs) 0 ≡ first_if b found
first_asked true found vs same = same refl
first_asked false found vs same = refl

or_assoc : (a b c : Option Violation) → first_or (first_or a b) c ≡ first_or a (first_or b c)
or_assoc None b c = refl
or_assoc (Some v) b c = refl

pub same_given : {X Y : Type 0} (f g : X → Option Y) (xs : List X) → ((x : X) → Contains xs x → f x ≡ g x) → filter_map f xs ≡ filter_map g xs
same_given f g [] same = refl
same_given f g (x ∷ xs) same =
    ap (λ o. cons_option o (filter_map f xs)) (same x (contains_first x xs))
    ∙ ap (cons_option (g x)) (same_given f g xs (λ y there. same y (contains_later x xs y there)))

some_and : {X Y : Type 0} (f : X → Option Y) (o : Option X) → is_some (option_and_then f o) ≡ true → (x : X) × (o ≡ Some x)
some_and f None h = cc
some_and f (Some x) h = (x, refl)

held : (values : Values) (elem : Elem) (tuple : List Part) → holds values elem tuple ≡ true → (number : ℕ) → Contains (tuples_of (change_of number values elem)) tuple
held values elem tuple h number = by (values elem) h
  where
    by : (o : Option (List (List Part))) → option_map_or (has_tuple tuple) o false ≡ true → Contains (tuples_of (record { key = number; elem = elem; values = o })) tuple
    by None h = absurd (true≢false (sym h))
    by (Some tuples) h = among tuple tuples h

-- ---- the rows of elements

module _ (number : ℕ) (values : Values) where
  pub row_there : (elems : List Elem) (elem : Elem) → Contains elems elem → Contains (map (change_of number values) elems) (change_of number values elem)
  row_there [] elem there = absurd (contains_none elem there)
  row_there (first ∷ elems) elem there =
      ⊎_elim (λ (same : first ≡ elem). (0, omega arith, ap (change_of number values) same))
      (λ later. contains_later (change_of number values first) (map (change_of number values) elems) (change_of number values elem) (row_there elems elem later))
      (contains_cases first elems elem there)

  pub row_from : (elems : List Elem) (row : KeyChange) → Contains (map (change_of number values) elems) row → (elem : Elem) × Contains elems elem × (change_of number values elem ≡ row)
  row_from [] row there = absurd (contains_none row there)
  row_from (first ∷ elems) row there =
      ⊎_elim (λ (same : change_of number values first ≡ row). (first, contains_first first elems, same))
      (λ later. let rest = row_from elems row later in (rest.0, contains_later first elems rest.0 rest.1, rest.2))
      (contains_cases (change_of number values first) (map (change_of number values) elems) row there)

  pub elems_back : (elems : List Elem) → elems_of (map (change_of number values) elems) ≡ elems
  elems_back [] = refl
  elems_back (elem ∷ elems) = ap (λ rest. elem ∷ rest) (elems_back elems)

  rows_given : (rule : Rule) (elems : List Elem) →
      filter_map (found_in rule number) (map (change_of number values) elems) ≡ filter_map (λ elem. option_and_then (found_by rule number elem) (values elem)) elems
  rows_given rule [] = refl
  rows_given rule (elem ∷ elems) = ap (cons_option (option_and_then (found_by rule number elem) (values elem))) (rows_given rule elems)

module _ (resolved : Resolved) (g h : Graph) (before : is_graph g ≡ true) (after : is_graph h ≡ true) (key : Key) (number : ℕ) (elems : List Elem)
    (order : ascends elem_cmp elems ≡ true)
    (others : (elem : Elem) → is_one_of elems elem ≡ false → values_in_scope resolved g key elem ≡ values_in_scope resolved h key elem)
    (rows : List KeyChange) (are_rows : rows ≡ map (change_of number (values_in_scope resolved h key)) elems) where
  abbrev old : Values
  old = values_in_scope resolved g key

  abbrev new : Values
  new = values_in_scope resolved h key

  -- ---- what a rule finds of each element alone

  module _ (rule : Rule) where
    abbrev of_values : Graph → Elem → Option Violation
    of_values graph elem = found_by rule number elem (key_values resolved graph key elem)

    abbrev of_row : Graph → Elem → Option Violation
    of_row graph elem = option_and_then (found_by rule number elem) (values_in_scope resolved graph key elem)

    over_scope : (graph : Graph) → filter_map (of_values graph) (scope_of resolved graph key) ≡ filter_map (of_row graph) (scope_of resolved graph key)
    over_scope graph =
        same_given (of_values graph) (of_row graph) (scope_of resolved graph key)
        (λ elem there. sym (ap (option_and_then (found_by rule number elem)) (row_given resolved graph key elem there)))

    in_scope : (graph : Graph) (elem : Elem) → is_some (of_row graph elem) ≡ true → Contains (scope_of resolved graph key) elem
    in_scope graph elem gives =
        let row = some_and (found_by rule number elem) (values_in_scope resolved graph key elem) gives in (row_found resolved graph key elem row.0 row.1).0

    module _ (none : filter_map (of_values g) (scope_of resolved g key) ≡ []) where
      is_listed : (elem : Elem) → is_some (of_row h elem) ≡ true → Contains elems elem
      is_listed elem gives = by (is_one_of elems elem) refl
        where
          by : (b : Bool) → is_one_of elems elem ≡ b → Contains elems elem
          by true is = listed_there elems elem is
          by false is =
              let same : of_row g elem ≡ of_row h elem = ap (option_and_then (found_by rule number elem)) (others elem is) in
              let gave : is_some (of_row g elem) ≡ true = ap is_some same ∙ gives in
              let nothing = none_given (of_row g) (scope_of resolved g key) (sym (over_scope g) ∙ none) elem (in_scope g elem gave) in
              absurd (true≢false (sym gave ∙ ap is_some nothing))

      pub rule_first : slice_get (filter_map (of_values h) (scope_of resolved h key)) 0 ≡ first_found rule number rows
      rule_first =
          ap (λ vs. slice_get vs 0) (over_scope h)
          ∙ same_first elem_cmp_total (of_row h) (scope_of resolved h key) elems (scope_ascends h after resolved key) order
          (λ elem gives there. is_listed elem gives) (λ elem gives there. in_scope h elem gives)
          ∙ ap (λ vs. slice_get vs 0) (sym (rows_given number new rule elems) ∙ ap (filter_map (found_in rule number)) (sym are_rows))

  -- ---- shared key values

  module _ (index : KeyRows) (stands : (elem : Elem) → values_at index number elem ≡ old elem) (owner : List Part → Option Elem) (owns : IsOwner index number elems owner)
      (none : filter_map (exclusive_violation number (scope_of resolved g key) (key_values resolved g key)) (scope_of resolved g key) ≡ []) where
    abbrev found : Option Violation
    found = least_shared number owner rows

    had : (elem : Elem) (tuple : List Part) → has_value index number elem tuple ≡ holds old elem tuple
    had elem tuple = ap (λ o. option_map_or (has_tuple tuple) o false) (stands elem)

    kept : (elem : Elem) (tuple : List Part) → is_one_of elems elem ≡ false → holds old elem tuple ≡ holds new elem tuple
    kept elem tuple is = ap (λ o. option_map_or (has_tuple tuple) o false) (others elem is)

    -- an element that isn't changed owns its key values
    owned : (elem : Elem) (tuple : List Part) → is_one_of elems elem ≡ false → holds new elem tuple ≡ true → owner tuple ≡ Some elem
    owned elem tuple is has = (owns tuple elem).0 (had elem tuple ∙ kept elem tuple is ∙ has, is)

    owner_holds : (tuple : List Part) (elem : Elem) → owner tuple ≡ Some elem → holds new elem tuple ≡ true
    owner_holds tuple elem is =
        let both = (owns tuple elem).1 is in sym (kept elem tuple both.1) ∙ sym (had elem tuple) ∙ both.0

    the_row : (elem : Elem) → is_one_of elems elem ≡ true → Contains rows (change_of number new elem)
    the_row elem is = subst (λ rs. Contains rs (change_of number new elem)) (sym are_rows) (row_there number new elems elem (listed_there elems elem is))

    rows_order : ascends elem_cmp (elems_of rows) ≡ true
    rows_order = ap (λ rs. ascends elem_cmp (elems_of rs)) are_rows ∙ ap (ascends elem_cmp) (elems_back number new elems) ∙ order

    row_holds : (row : KeyChange) (tuple : List Part) → Contains rows row → Contains (tuples_of row) tuple → holds new row.elem tuple ≡ true
    row_holds row tuple there has =
        let from = row_from number new elems row (subst (λ rs. Contains rs row) are_rows there) in
        let same : change_of number new from.0 ≡ row = from.2 in
        subst (λ (r : KeyChange). holds new r.elem tuple ≡ true) same
        (back from.0 (subst (λ (r : KeyChange). Contains (tuples_of r) tuple) (sym same) has))
      where
        back : (elem : Elem) → Contains (tuples_of (change_of number new elem)) tuple → holds new elem tuple ≡ true
        back elem has = by (new elem) has
          where
            by : (o : Option (List (List Part))) → Contains (tuples_of (record { key = number; elem = elem; values = o })) tuple →
                option_map_or (has_tuple tuple) o false ≡ true
            by None has = absurd (contains_none tuple has)
            by (Some tuples) has = is_among tuple tuples has

    -- each two elements that share a tuple are covered
    all_covered : (e f : Elem) (tuple : List Part) → IsSharing new e f tuple → covers found (Exclusive number e f tuple) ≡ true
    all_covered e f tuple is = by (is_one_of elems e) refl (is_one_of elems f) refl
      where
        by : (b : Bool) → is_one_of elems e ≡ b → (c : Bool) → is_one_of elems f ≡ c → covers found (Exclusive number e f tuple) ≡ true
        by true one true other =
            earlier_covers number (λ tuple. None) (with_owners number owner None rows) rows rows_order (change_of number new e) (change_of number new f)
            (the_row e one) (the_row f other) is.less tuple (held new e tuple is.one number) (held new f tuple is.other number)
        by true one false other =
            earlier_keeps number (λ tuple. None) (with_owners number owner None rows) rows (Exclusive number e f tuple)
            (owners_cover number owner None rows (change_of number new e) tuple f (Exclusive number e f tuple) (the_row e one) (held new e tuple is.one number)
            (owned f tuple other is.other) (clash_sooner number tuple e f is.less))
        by false one true other =
            earlier_keeps number (λ tuple. None) (with_owners number owner None rows) rows (Exclusive number e f tuple)
            (owners_cover number owner None rows (change_of number new f) tuple e (Exclusive number e f tuple) (the_row f other) (held new f tuple is.other number)
            (owned e tuple one is.one) (clash_later number tuple e f is.less))
        by false one false other =
            absurd (shared_none resolved g key before number none e f tuple
            (record { less = is.less; one = kept e tuple one ∙ is.one; other = kept f tuple other ∙ is.other }))

    -- and what is found are two that do
    abbrev IsShared : Violation → Type 0
    IsShared v = (e : Elem) × (f : Elem) × (tuple : List Part) × IsSharing new e f tuple × (Exclusive number e f tuple ≡ v)

    makes : (x y : Elem) (tuple : List Part) (v : Violation) → holds new x tuple ≡ true → holds new y tuple ≡ true → clash number tuple x y ≡ Some v → IsShared v
    makes x y tuple v one other = by (elem_cmp x y) refl
      where
        by : (o : Ordering) → elem_cmp x y ≡ o → clash_by o number tuple x y ≡ Some v → IsShared v
        by Less is e = (x, y, tuple, record { less = is; one = one; other = other }, cc)
        by Equal is e = cc
        by Greater is e = (y, x, tuple, record { less = elem_cmp_total.antisymm y x ∙ ap ordering_reverse is; one = other; other = one }, cc)

    found_shared : (v : Violation) → found ≡ Some v → IsShared v
    found_shared =
        earlier_all number IsShared (λ elem tuple. holds new elem tuple ≡ true) (λ tuple. None) (with_owners number owner None rows) rows
        (owners_all number owner IsShared None rows (λ v e. cc)
        (λ row tuple other v there has owns. makes row.elem other tuple v (row_holds row tuple there has) (owner_holds tuple other owns)))
        (λ tuple other e. cc) row_holds makes

    pub least_is_first : slice_get (filter_map (exclusive_violation number (scope_of resolved h key) (key_values resolved h key)) (scope_of resolved h key)) 0 ≡ found
    least_is_first = by found refl
      where
        by : (o : Option Violation) → found ≡ o →
            slice_get (filter_map (exclusive_violation number (scope_of resolved h key) (key_values resolved h key)) (scope_of resolved h key)) 0 ≡ o
        by None is =
            ap (λ vs. slice_get vs 0) (none_shared resolved h key after number
            (λ e f tuple sharing. true≢false (sym (all_covered e f tuple sharing) ∙ ap (λ o. covers o (Exclusive number e f tuple)) is)))
        by (Some v) is =
            let it = found_shared v is in
            let same : Exclusive number it.0 it.1 it.2 ≡ v = it.4 in
            shared_first resolved h key after number it.0 it.1 it.2 it.3
            (λ e f tuple sharing. subst (λ w. is_lt (violation_cmp (Exclusive number e f tuple) w) ≡ false) (sym same)
            (covers_found v (Exclusive number e f tuple) (ap (λ o. covers o (Exclusive number e f tuple)) (sym is) ∙ all_covered e f tuple sharing)))
            ∙ ap Some same

  -- ---- all violations of the key

  module _ (index : KeyRows) (stands : (elem : Elem) → values_at index number elem ≡ old elem) (owner : List Part → Option Elem)
      (owns : key.qualifiers.exclusive ≡ true → IsOwner index number elems owner) (none : key_violations resolved g number key ≡ []) where
    abbrev missing : Graph → List Violation
    missing graph = where_asked key.qualifiers.mandatory (filter_map (mandatory_violation number (key_values resolved graph key)) (scope_of resolved graph key))

    abbrev several : Graph → List Violation
    several graph = where_asked key.qualifiers.singleton (filter_map (singleton_violation number (key_values resolved graph key)) (scope_of resolved graph key))

    abbrev shared : Graph → List Violation
    shared graph = where_asked key.qualifiers.exclusive (filter_map (exclusive_violation number (scope_of resolved graph key) (key_values resolved graph key)) (scope_of resolved graph key))

    abbrev counts : Graph → ℕ × ℕ → List Violation
    counts graph bounds = filter_map (count_violation number (key_values resolved graph key) bounds) (scope_of resolved graph key)

    first_counts : (o : Option (ℕ × ℕ)) → where_bounded o (counts g) ≡ [] → slice_get (where_bounded o (counts h)) 0 ≡ first_outside o number rows
    first_counts None e = refl
    first_counts (Some bounds) e = rule_first (rules.Count bounds) e

    pub key_first : slice_get (key_violations resolved h number key) 0 ≡ first_of_rows key.qualifiers number owner rows
    key_first =
        let three = no_front (missing g ++ several g ++ shared g) (where_bounded key.qualifiers.count (counts g)) none in
        let two = no_front (missing g ++ several g) (shared g) three.0 in
        let one = no_front (missing g) (several g) two.0 in
        let a = first_asked key.qualifiers.mandatory (first_found rules.Mandatory number rows) _ (λ asked. rule_first rules.Mandatory (asked_none _ _ one.0 asked)) in
        let b = first_asked key.qualifiers.singleton (first_found rules.Singleton number rows) _ (λ asked. rule_first rules.Singleton (asked_none _ _ one.1 asked)) in
        let c = first_asked key.qualifiers.exclusive (least_shared number owner rows) _ (λ asked. least_is_first index stands owner (owns asked) (asked_none _ _ two.1 asked)) in
        let d = first_counts key.qualifiers.count three.1 in
        first_append (missing h ++ several h ++ shared h) (where_bounded key.qualifiers.count (counts h))
        ∙ ap (λ o. first_or o (slice_get (where_bounded key.qualifiers.count (counts h)) 0))
        (first_append (missing h ++ several h) (shared h) ∙ ap (λ o. first_or o (slice_get (shared h) 0)) (first_append (missing h) (several h)))
        ∙ or_assoc (first_or (slice_get (missing h) 0) (slice_get (several h) 0)) (slice_get (shared h) 0) (slice_get (where_bounded key.qualifiers.count (counts h)) 0)
        ∙ or_assoc (slice_get (missing h) 0) (slice_get (several h) 0) (first_or (slice_get (shared h) 0) (slice_get (where_bounded key.qualifiers.count (counts h)) 0))
        ∙ (λ i. first_or (a i) (first_or (b i) (first_or (c i) (d i))))
