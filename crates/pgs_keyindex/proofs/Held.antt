-- What stays true of what is listed, while rows and lists change.
use Rattle.std.proofs.Common.{◌≡◌, ℕ, ◌+◌, ◌<◌, get_or, length, take, Bool, true, false, cond, ◌||◌, not, List, [], ◌∷◌, ◌++◌, Option, Some, None, unwrap_or, refl, sym, ap, subst, ◌∙◌, true≢false, is_some, MatchOption, ◌↔◌}
use Rattle.std.specs.Option.{option_map_or}
use Rattle.std.specs.Cmp.{Equal-is, eq_by_cmp_equiv}
use Rattle.std.specs.List.{list_any, list_all, filter}
use Rattle.std.specs.List.Sorted.{IsStrictlySortedBy}
use Rattle.std.specs.Map.{keys_of, lookup, remove_entry}
use Rattle.std.specs.BTreeMap.{is_at, insert_entry}
use Rattle.std.proofs.lemmas.Bool.{and_parts, and_from}
use Rattle.std.proofs.lemmas.List.Folds.{list_any-append, list_all_more}
use Rattle.std.proofs.lemmas.Map.Views.{any-filter_same}
use Rattle.pgs_base.specs.declared.element.Elem.{Elem}
use Rattle.pgs_base.specs.declared.part.Part.{Part}
use Rattle.pgs_base.specs.declared.seed.Seed.{Seed}
use Rattle.pgs_base.specs.Order.{elem_cmp, tuple_cmp}
use Rattle.pgs_base.specs.OrderLaws.{elem_cmp_total, exact_elem, exact_tuple}
use Rattle.pgs_base.proofs.Lookups.{lookup-insert_entry, lookup-remove_key}
use Rattle.pgs_tables.specs.Slots.{Slots, has_slot}
use Rattle.pgs_keyindex.specs.declared.change.KeyChange.{KeyChange}
use Rattle.pgs_keyindex.specs.declared.digest.Digest.{Digest}
use Rattle.pgs_keyindex.specs.declared.member.Member.{Member}
use Rattle.pgs_keyindex.specs.Digests.{digest_of}
use Rattle.pgs_keyindex.specs.Members.{member_of, member_cmp, digest_cmp}
use Rattle.pgs_keyindex.specs.MemberLaws.{exact_member, exact_digest, digest_cmp_total, found_again, key_found, elem_of}
use Rattle.pgs_keyindex.specs.Rows.{KeyRows, values_at, has_tuple, has_value, is_exclusive, IsOwned}
use Rattle.pgs_keyindex.specs.Table.{TableState, has_elem, has_digest, has_room, has_room_for, is_listed, is_listed_for, listed_at, stands, KeepsRoom, Grows, SameRows}

-- ---- of tests

or_right : (b c : Bool) → c ≡ true → (b || c) ≡ true
or_right true c h = refl
or_right false c h = h

or_left : (b c : Bool) → b ≡ true → (b || c) ≡ true
or_left b c h = rw h refl

any_given : {X : Type 0} (p q : X → Bool) → ((x : X) → p x ≡ true → q x ≡ true) → (xs : List X) → list_any p xs ≡ true → list_any q xs ≡ true
any_given p q gives [] h = absurd (true≢false (sym h))
any_given p q gives (x ∷ xs) h = by (any_given p q gives xs) (p x) refl h
  where
    by : (list_any p xs ≡ true → list_any q xs ≡ true) → (b : Bool) → p x ≡ b → (b || list_any p xs) ≡ true → (q x || list_any q xs) ≡ true
    by rest true here h = or_left (q x) (list_any q xs) (gives x here)
    by rest false other h = or_right (q x) (list_any q xs) (rest h)

pub all_given : {X : Type 0} (p q : X → Bool) → ((x : X) → p x ≡ true → q x ≡ true) → (xs : List X) → list_all p xs ≡ true → list_all q xs ≡ true
all_given p q gives [] h = refl
all_given p q gives (x ∷ xs) h = and_from _ _ (gives x (and_parts _ _ h).0) (all_given p q gives xs (and_parts _ _ h).1)

pub all_one_more : {X : Type 0} (p : X → Bool) (xs : List X) (i : ℕ) (x : X) → i < length xs → x ≡ get_or xs i x → list_all p (take i xs) ≡ true → p x ≡ true → list_all p (take (i + 1) xs) ≡ true
all_one_more p xs i x within is all one = list_all_more p xs i x within ∙ and_from _ _ all (ap p (sym is) ∙ one)

-- what is true of each is true of one that is there
all_any : {X : Type 0} (p test : X → Bool) (y : X) → ((x : X) → test x ≡ true → x ≡ y) → (xs : List X) → list_all p xs ≡ true → list_any test xs ≡ true → p y ≡ true
all_any p test y same [] all any = absurd (true≢false (sym any))
all_any p test y same (x ∷ xs) all any = by (all_any p test y same xs (and_parts _ _ all).1) (test x) refl any
  where
    by : (list_any test xs ≡ true → p y ≡ true) → (b : Bool) → test x ≡ b → (b || list_any test xs) ≡ true → p y ≡ true
    by rest true here h = subst (λ z. p z ≡ true) (same x here) (and_parts _ _ all).0
    by rest false other h = rest h

same_digest : (a b : Digest) → is_at (digest_cmp a) b ≡ true → a ≡ b
same_digest a b tie = exact_digest a b ((Equal-is (digest_cmp a b)).0 tie)

-- ---- of what is listed at a digest

module _ (digest other : Digest) (holders : List (Digest × List Elem)) where
  pub listed_put : (elems : List Elem) → listed_at (insert_entry digest_cmp holders digest elems) other ≡ cond (is_at (digest_cmp digest) other) elems (listed_at holders other)
  listed_put elems =
      ap (λ o. unwrap_or o []) (lookup-insert_entry digest_cmp_total other digest elems holders)
      ∙ either (is_at (digest_cmp digest) other) (lookup (is_at (digest_cmp other)) holders)
    where
      either : (b : Bool) (o : Option (List Elem)) → unwrap_or (cond b (Some elems) o) [] ≡ cond b elems (unwrap_or o [])
      either true o = refl
      either false o = refl

  pub listed_taken : IsStrictlySortedBy digest_cmp (keys_of holders) → listed_at (remove_entry (is_at (digest_cmp digest)) holders) other ≡ cond (is_at (digest_cmp digest) other) [] (listed_at holders other)
  listed_taken sorted =
      ap (λ o. unwrap_or o []) (lookup-remove_key digest_cmp_total other digest holders sorted)
      ∙ either (is_at (digest_cmp digest) other) (lookup (is_at (digest_cmp other)) holders)
    where
      either : (b : Bool) (o : Option (List Elem)) → unwrap_or (cond b None o) [] ≡ cond b [] (unwrap_or o [])
      either true o = refl
      either false o = refl

pub digest_key : (seed : Seed) (key : ℕ) (tuple : List Part) → (digest_of seed key tuple).key ≡ key
unfolding digest_of
digest_key seed key tuple = refl

module _ (table : TableState) where
  -- an element that has a value stands at its digest
  stands_there : (key : ℕ) (tuple : List Part) (elem : Elem) → has_value table.rows.rows key elem tuple ≡ true → stands table (digest_of table.seed key tuple) elem ≡ true
  stands_there key tuple elem value =
      ap (λ k. option_map_or (has_digest table.seed (digest_of table.seed key tuple)) (values_at table.rows.rows k elem) false) (digest_key table.seed key tuple)
      ∙ by (values_at table.rows.rows key elem) value
    where
      again : (other : List Part) → is_at (tuple_cmp tuple) other ≡ true →
          is_at (digest_cmp (digest_of table.seed key tuple)) (digest_of table.seed (digest_of table.seed key tuple).key other) ≡ true
      again other tie =
          let same : tuple ≡ other = exact_tuple tuple other ((Equal-is (tuple_cmp tuple other)).0 tie) in
          let is : digest_of table.seed (digest_of table.seed key tuple).key other ≡ digest_of table.seed key tuple =
          ap (λ k. digest_of table.seed k other) (digest_key table.seed key tuple) ∙ ap (digest_of table.seed key) (sym same) in
          ap (is_at (digest_cmp (digest_of table.seed key tuple))) is ∙ (eq_by_cmp_equiv digest_cmp_total).refl (digest_of table.seed key tuple)

      by : (o : Option (List (List Part))) → option_map_or (has_tuple tuple) o false ≡ true →
          option_map_or (has_digest table.seed (digest_of table.seed key tuple)) o false ≡ true
      by None h = absurd (true≢false (sym h))
      by (Some tuples) h = any_given (is_at (tuple_cmp tuple)) (λ other. is_at (digest_cmp (digest_of table.seed key tuple)) (digest_of table.seed (digest_of table.seed key tuple).key other)) again tuples h

  -- where none of those that are listed has a value, no element has it
  pub none_has : (key : ℕ) (tuple : List Part) (elem : Elem) → (has_value table.rows.rows key elem tuple ≡ true → is_listed table key tuple elem ≡ true) →
      list_any (λ other. has_value table.rows.rows key other tuple) (listed_at table.holders.rows (digest_of table.seed key tuple)) ≡ false →
      has_value table.rows.rows key elem tuple ≡ false
  none_has key tuple elem held none = by (has_value table.rows.rows key elem tuple) refl
    where
      by : (b : Bool) → has_value table.rows.rows key elem tuple ≡ b → has_value table.rows.rows key elem tuple ≡ false
      by true value =
          absurd (true≢false (sym (any_given (is_at (elem_cmp elem)) (λ other. has_value table.rows.rows key other tuple)
          (λ other tie. subst (λ e. has_value table.rows.rows key e tuple ≡ true) (exact_elem elem other ((Equal-is (elem_cmp elem other)).0 tie)) value)
          (listed_at table.holders.rows (digest_of table.seed key tuple)) (held value)) ∙ none))
      by false value = value

  -- where only those that stand at a digest are left
  module _ (digest : Digest) (new : List (Digest × List Elem))
      (is : (other : Digest) → listed_at new other ≡ cond (is_at (digest_cmp digest) other) (filter (stands table digest) (listed_at table.holders.rows digest)) (listed_at table.holders.rows other)) where
    pub tidied : (key : ℕ) (tuple : List Part) (elem : Elem) → has_value table.rows.rows key elem tuple ≡ true → is_listed table key tuple elem ≡ true →
        has_elem elem (listed_at new (digest_of table.seed key tuple)) ≡ true
    tidied key tuple elem value listed = ap (has_elem elem) (is (digest_of table.seed key tuple)) ∙ by (is_at (digest_cmp digest) (digest_of table.seed key tuple)) refl
      where
        by : (b : Bool) → is_at (digest_cmp digest) (digest_of table.seed key tuple) ≡ b →
            has_elem elem (cond b (filter (stands table digest) (listed_at table.holders.rows digest)) (listed_at table.holders.rows (digest_of table.seed key tuple))) ≡ true
        by true tie =
            let same = same_digest digest (digest_of table.seed key tuple) tie in
            subst (λ d. has_elem elem (filter (stands table d) (listed_at table.holders.rows d)) ≡ true) (sym same)
            (any-filter_same (is_at (elem_cmp elem)) (stands table (digest_of table.seed key tuple)) true
            (λ other here. ap (stands table (digest_of table.seed key tuple)) (sym (exact_elem elem other ((Equal-is (elem_cmp elem other)).0 here))) ∙ stands_there key tuple elem value)
            (listed_at table.holders.rows (digest_of table.seed key tuple)) ∙ listed)
        by false apart = listed

    pub tidied_apart : (other : Digest) → listed_at table.holders.rows other ≡ [] → listed_at new other ≡ []
    tidied_apart other none = is other ∙ by (is_at (digest_cmp digest) other) refl
      where
        by : (b : Bool) → is_at (digest_cmp digest) other ≡ b → cond b (filter (stands table digest) (listed_at table.holders.rows digest)) (listed_at table.holders.rows other) ≡ []
        by true tie = ap (filter (stands table digest)) (ap (listed_at table.holders.rows) (same_digest digest other tie) ∙ none)
        by false apart = none

  -- where an element more is listed at a digest
  module _ (digest : Digest) (elem : Elem) (new : List (Digest × List Elem))
      (is : (other : Digest) → listed_at new other ≡ cond (is_at (digest_cmp digest) other) (listed_at table.holders.rows digest ++ elem ∷ []) (listed_at table.holders.rows other)) where
    pub grown : (other : Digest) (e : Elem) → has_elem e (listed_at table.holders.rows other) ≡ true → has_elem e (listed_at new other) ≡ true
    grown other e listed = ap (has_elem e) (is other) ∙ by (is_at (digest_cmp digest) other) refl
      where
        by : (b : Bool) → is_at (digest_cmp digest) other ≡ b → has_elem e (cond b (listed_at table.holders.rows digest ++ elem ∷ []) (listed_at table.holders.rows other)) ≡ true
        by true tie =
            subst (λ d. has_elem e (listed_at table.holders.rows d ++ elem ∷ []) ≡ true) (sym (same_digest digest other tie))
            (list_any-append (is_at (elem_cmp e)) (listed_at table.holders.rows other) (elem ∷ []) ∙ or_left _ _ listed)
        by false apart = listed

    pub grown_there : has_elem elem (listed_at new digest) ≡ true
    grown_there =
        ap (has_elem elem) (is digest)
        ∙ ap (λ b. has_elem elem (cond b (listed_at table.holders.rows digest ++ elem ∷ []) (listed_at table.holders.rows digest))) ((eq_by_cmp_equiv digest_cmp_total).refl digest)
        ∙ list_any-append (is_at (elem_cmp elem)) (listed_at table.holders.rows digest) (elem ∷ [])
        ∙ or_right _ _ (or_left _ _ ((eq_by_cmp_equiv elem_cmp_total).refl elem))

    pub grown_apart : is_exclusive table.exclusive digest.key ≡ true → (other : Digest) → is_exclusive table.exclusive other.key ≡ false → listed_at table.holders.rows other ≡ [] → listed_at new other ≡ []
    grown_apart exclusive other not_so none = is other ∙ by (is_at (digest_cmp digest) other) refl
      where
        by : (b : Bool) → is_at (digest_cmp digest) other ≡ b → cond b (listed_at table.holders.rows digest ++ elem ∷ []) (listed_at table.holders.rows other) ≡ []
        by true tie = absurd (true≢false (sym exclusive ∙ ap (λ (d : Digest). is_exclusive table.exclusive d.key) (same_digest digest other tie) ∙ not_so))
        by false apart = none

  -- where a row is set for which there is room
  pub set_held : (k : ℕ) (e : Elem) (o : Option (List (List Part))) (rows : KeyRows) →
      ((key : ℕ) (elem : Elem) → values_at rows key elem ≡ cond (is_at (member_cmp (member_of k e)) (member_of key elem)) o (values_at table.rows.rows key elem)) →
      has_room_for table k e o ≡ true → (key : ℕ) (tuple : List Part) (elem : Elem) → is_exclusive table.exclusive key ≡ true →
      (has_value table.rows.rows key elem tuple ≡ true → is_listed table key tuple elem ≡ true) → has_value rows key elem tuple ≡ true → is_listed table key tuple elem ≡ true
  set_held k e o rows is room key tuple elem exclusive held value =
      by (is_at (member_cmp (member_of k e)) (member_of key elem)) refl (ap (λ v. option_map_or (has_tuple tuple) v false) (sym (is key elem)) ∙ value)
    where
      listed : (v : Option (List (List Part))) → has_room_for table key elem v ≡ true → option_map_or (has_tuple tuple) v false ≡ true → is_listed table key tuple elem ≡ true
      listed None there h = absurd (true≢false (sym h))
      listed (Some tuples) there h =
          let each : list_all (λ t. is_listed table key t elem) tuples ≡ true =
          ap (λ b. not b || list_all (λ t. is_listed table key t elem) tuples) (sym exclusive) ∙ (and_parts _ _ there).1 in
          all_any (λ t. is_listed table key t elem) (is_at (tuple_cmp tuple)) tuple (λ t tie. sym (exact_tuple tuple t ((Equal-is (tuple_cmp tuple t)).0 tie))) tuples each h

      by : (b : Bool) → is_at (member_cmp (member_of k e)) (member_of key elem) ≡ b → option_map_or (has_tuple tuple) (cond b o (values_at table.rows.rows key elem)) false ≡ true →
          is_listed table key tuple elem ≡ true
      by true tie h =
          let same : member_of k e ≡ member_of key elem = exact_member _ _ ((Equal-is (member_cmp (member_of k e) (member_of key elem))).0 tie) in
          let keys : k ≡ key = sym (key_found k e) ∙ ap (λ (m : Member). m.key) same ∙ key_found key elem in
          let elems : e ≡ elem = sym (found_again k e) ∙ ap elem_of same ∙ found_again key elem in
          listed o (subst (λ x. has_room_for table x elem o ≡ true) keys (subst (λ x. has_room_for table k x o ≡ true) elems room)) h
      by false apart h = held h

-- ---- of room

pub listed_kept : (old new : TableState) → KeepsRoom old new → (key : ℕ) (elem : Elem) (tuple : List Part) → is_listed old key tuple elem ≡ true → is_listed new key tuple elem ≡ true
listed_kept old new keeps key elem tuple here =
    ap (λ s. has_elem elem (listed_at new.holders.rows (digest_of s key tuple))) keeps.seed ∙ keeps.listed (digest_of old.seed key tuple) elem here

pub room_kept : (old new : TableState) → KeepsRoom old new → (change : KeyChange) → has_room old change ≡ true → has_room new change ≡ true
room_kept old new keeps change = by change.values
  where
    listed : (tuples : List (List Part)) (b : Bool) → is_exclusive old.exclusive change.key ≡ b → (not b || list_all (λ t. is_listed old change.key t change.elem) tuples) ≡ true →
        is_listed_for new change.key change.elem tuples ≡ true
    listed tuples true exclusive h =
        or_right _ _ (all_given (λ t. is_listed old change.key t change.elem) (λ t. is_listed new change.key t change.elem)
        (listed_kept old new keeps change.key change.elem) tuples h)
    listed tuples false exclusive h = or_left _ _ (ap (λ l. not (is_exclusive l change.key)) keeps.exclusive ∙ ap not exclusive)

    by : (o : Option (List (List Part))) → has_room_for old change.key change.elem o ≡ true → has_room_for new change.key change.elem o ≡ true
    by None h = refl
    by (Some tuples) h = and_from _ _ (keeps.slots (member_of change.key change.elem) (and_parts _ _ h).0) (listed tuples (is_exclusive old.exclusive change.key) refl (and_parts _ _ h).1)

pub keeps_again : (first second third : TableState) → KeepsRoom first second → KeepsRoom second third → KeepsRoom first third
keeps_again first second third one two = record {
  exclusive = two.exclusive ∙ one.exclusive;
  seed = two.seed ∙ one.seed;
  slots = λ member there. two.slots member (one.slots member there);
  listed = λ digest elem there. two.listed digest elem (one.listed digest elem there);
}

-- ---- of tables with the same rows

pub same_again : (first second third : TableState) → SameRows first second → SameRows second third → SameRows first third
same_again first second third one two = record {
  exclusive = two.exclusive ∙ one.exclusive;
  seed = two.seed ∙ one.seed;
  rows = two.rows ∙ one.rows;
}

pub grows_again : (first second third : TableState) → Grows first second → Grows second third → Grows first third
grows_again first second third one two = record {
  rows = two.rows ∙ one.rows;
  room = keeps_again first second third one.room two.room;
}

pub same_of : (old new : TableState) → Grows old new → SameRows old new
same_of old new grows = record { exclusive = grows.room.exclusive; seed = grows.room.seed; rows = grows.rows }

pub owned_still : (old new : TableState) → SameRows old new → IsOwned old.exclusive old.rows.rows → IsOwned new.exclusive new.rows.rows
owned_still old new same owned =
    subst (λ flags. IsOwned flags new.rows.rows) (sym same.exclusive) (subst (λ rows. IsOwned old.exclusive rows) (sym same.rows) owned)

-- a table in which other rows have slots, and one in which an element more is listed
pub slots_made : (table : TableState) (rows : Slots Member (List (List Part))) → rows.rows ≡ table.rows.rows →
    ((member : Member) → has_slot member_cmp table.rows member ≡ true → has_slot member_cmp rows member ≡ true) →
    Grows table (record { exclusive = table.exclusive; seed = table.seed; rows = rows; holders = table.holders })
slots_made table rows same kept = record {
  rows = same;
  room = record { exclusive = refl; seed = refl; slots = kept; listed = λ digest elem there. there };
}

pub listed_more : (table : TableState) (holders : Slots Digest (List Elem)) →
    ((digest : Digest) (elem : Elem) → has_elem elem (listed_at table.holders.rows digest) ≡ true → has_elem elem (listed_at holders.rows digest) ≡ true) →
    Grows table (record { exclusive = table.exclusive; seed = table.seed; rows = table.rows; holders = holders })
listed_more table holders kept = record {
  rows = refl;
  room = record { exclusive = refl; seed = refl; slots = λ member there. there; listed = kept };
}

-- ---- of one owner

-- an element that has a value is the one that was found to have it
pub one_owner : (exclusive : List Bool) (rows : KeyRows) → IsOwned exclusive rows → (key : ℕ) (tuple : List Part) → is_exclusive exclusive key ≡ true → (o : Option Elem) →
    MatchOption o ((elem : Elem) → has_value rows key elem tuple ≡ false) (λ elem. has_value rows key elem tuple ≡ true) → (elem : Elem) → (has_value rows key elem tuple ≡ true) ↔ (o ≡ Some elem)
one_owner exclusive rows owned key tuple asked None none elem =
    (λ value. absurd (true≢false (sym value ∙ none elem)), λ is. absurd (true≢false (sym (ap is_some is))))
one_owner exclusive rows owned key tuple asked (Some found) has elem = (
  λ value. ap Some (owned key tuple found elem asked has value),
  λ is. subst (λ e. has_value rows key e tuple ≡ true) (ap (λ o. unwrap_or o found) is) has,
)
