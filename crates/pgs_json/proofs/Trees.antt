-- A tree, level by level, and the members of an object in the order of their names.
use Rattle.std.proofs.Common.{◌≡◌, ℕ, ◌+◌, ◌<◌, length, drop, get_or, List, [], ◌∷◌, Option, Some, Vec, Global, Bool, true, false, ◌&&◌, Ordering, Less, Equal, Greater, true≢false, refl, sym, ap, ◌∙◌, rules}
use Rattle.std.proofs.lemmas.Cmp.{nat_list_cmp_total}
use Rattle.std.proofs.lemmas.List.{at_drop_more}
use Rattle.std.proofs.lemmas.Map.Text.{is_eq-slice_cmp}
use Rattle.std.specs.Borrow.{Bor}
use Rattle.std.specs.Str.{bytes_eq}
use Rattle.std.specs.Cmp.Lexicographic.{slice_cmp}
use Rattle.std.specs.List.{AllByRecursion}
use Rattle.std.specs.List.Sorted.{IsStrictlySortedBy}
use Rattle.std.specs.Ordering.{nat_cmp, is_eq, is_lt, match_ordering, ordering_reverse}
use Rattle.std.specs.BTreeMap.{insert_entry}
use Rattle.serde_json.specs.Data.{Data, array, object, Members, no_members, member, put}
use Rattle.serde_json.specs.Find.{get_member}
use Rattle.pgs_json.specs.Form.{names_in}
use Rattle.pgs_json.specs.Tree.{view, items_view, members_view, ascend, ascend_after, put_all}
use Rattle.pgs_json.specs.declared.tree.Json.{Json, Array, Object, the_lemmas}

abbrev pub Member : Type 0
Member = Bor (List ℕ) × Json

pub view-Array : (v : Vec Json Global) → view (Array v) ≡ array (items_view v.items)
view-Array v = search (rules, the_lemmas)

pub view-Object : (v : Vec Member Global) → view (Object v) ≡ object (members_view v.items)
view-Object v = search (rules, the_lemmas)

-- ---- a member is found at its name

same_order : (o : Ordering) (a b : Option Data) → is_eq o ≡ true → match_ordering o a b a ≡ b
same_order Less a b e = absurd (true≢false (sym e))
same_order Equal a b e = refl
same_order Greater a b e = absurd (true≢false (sym e))

other_order : (o : Ordering) (a b : Option Data) → is_eq o ≡ false → match_ordering o a b a ≡ a
other_order Less a b e = refl
other_order Equal a b e = absurd (true≢false e)
other_order Greater a b e = refl

member_here : (name l : List ℕ) (d : Data) (ms : Members) → bytes_eq name l ≡ true → get_member name (member l d ms) ≡ Some d
member_here name l d ms e = same_order (slice_cmp nat_cmp name l) _ _ (is_eq-slice_cmp name l ∙ e)

member_later : (name l : List ℕ) (d : Data) (ms : Members) → bytes_eq name l ≡ false → get_member name (member l d ms) ≡ get_member name ms
member_later name l d ms e = other_order (slice_cmp nat_cmp name l) _ _ (is_eq-slice_cmp name l ∙ e)

pub member_found : (name : List ℕ) (ms : List Member) (i : ℕ) (m : Member) → i < length ms → m ≡ get_or ms i m → bytes_eq name m.0.now ≡ true
    → get_member name (members_view (drop i ms)) ≡ Some (view m.1)
member_found name ms i m within is here =
    at_drop_more (λ rest. get_member name (members_view rest)) ms i m within
    ∙ ap (λ (first : Member). get_member name (members_view (first ∷ drop (i + 1) ms))) (sym is) ∙ member_here name m.0.now (view m.1) (members_view (drop (i + 1) ms)) here

pub member_passed : (name : List ℕ) (ms : List Member) (i : ℕ) (m : Member) → i < length ms → m ≡ get_or ms i m → bytes_eq name m.0.now ≡ false
    → get_member name (members_view (drop i ms)) ≡ get_member name (members_view (drop (i + 1) ms))
member_passed name ms i m within is other =
    at_drop_more (λ rest. get_member name (members_view rest)) ms i m within
    ∙ ap (λ (first : Member). get_member name (members_view (first ∷ drop (i + 1) ms))) (sym is) ∙ member_later name m.0.now (view m.1) (members_view (drop (i + 1) ms)) other

-- ---- members in order

abbrev pub member_cmp : Bor (List ℕ) → Bor (List ℕ) → Ordering
member_cmp a b = slice_cmp nat_cmp a.now b.now

members_view-match_ordering : (o : Ordering) (a b c : List Member) → members_view (match_ordering o a b c) ≡ match_ordering o (members_view a) (members_view b) (members_view c)
members_view-match_ordering Less a b c = refl
members_view-match_ordering Equal a b c = refl
members_view-match_ordering Greater a b c = refl

pub members_view-insert_entry : (es : List Member) (k : Bor (List ℕ)) (v : Json) → members_view (insert_entry member_cmp es k v) ≡ put k.now (view v) (members_view es)
members_view-insert_entry [] k v = refl
members_view-insert_entry (e ∷ es) k v = members_view-match_ordering (member_cmp k e.0) _ _ _ ∙ rw (members_view-insert_entry es k v)

abbrev joined : Members → Members → Members
joined no_members ms = ms
joined (member k d done) ms = member k d (joined done ms)

joined-push : (done : Members) (k : List ℕ) (d : Data) (ms : Members) → joined done (member k d ms) ≡ joined (joined done (member k d no_members)) ms
joined-push no_members k d ms = refl
joined-push (member l e done) k d ms = ap (member l e) (joined-push done k d ms)

joined-none : (done : Members) → joined done no_members ≡ done
joined-none no_members = refl
joined-none (member k d done) = ap (member k d) (joined-none done)

below : (l : List ℕ) (done : Members) (k : List ℕ) (d : Data) (ms : Members) → AllByRecursion (λ y. slice_cmp nat_cmp l y ≡ Less) (names_in (joined done (member k d ms))) → slice_cmp nat_cmp l k ≡ Less
below l no_members k d ms h = h.0
below l (member m e done) k d ms h = below l done k d ms h.1

-- a name above those before it goes last
put_last : (done : Members) (k : List ℕ) (d : Data) (ms : Members) → IsStrictlySortedBy (slice_cmp nat_cmp) (names_in (joined done (member k d ms)))
    → put k d done ≡ joined done (member k d no_members)
unfolding IsStrictlySortedBy
put_last no_members k d ms h = refl
put_last (member l e done) k d ms h =
    let above : slice_cmp nat_cmp k l ≡ Greater = nat_list_cmp_total.antisymm k l ∙ ap ordering_reverse (below l done k d ms h.0) in
    rw above (ap (member l e) (put_last done k d ms h.1))

put_after : (ms done : Members) → IsStrictlySortedBy (slice_cmp nat_cmp) (names_in (joined done ms)) → put_all ms done ≡ joined done ms
put_after no_members done h = sym (joined-none done)
put_after (member k d ms) done h =
    ap (put_all ms) (put_last done k d ms h) ∙ put_after ms (joined done (member k d no_members)) (rw (← joined-push done k d ms) h) ∙ sym (joined-push done k d ms)

less_of : (o : Ordering) → is_lt o ≡ true → o ≡ Less
less_of Less e = refl
less_of Equal e = absurd (true≢false (sym e))
less_of Greater e = absurd (true≢false (sym e))

head_of : (a b : Bool) → (a && b) ≡ true → a ≡ true
head_of true b h = refl
head_of false b h = h

tail_of : (a b : Bool) → (a && b) ≡ true → b ≡ true
tail_of true b h = h
tail_of false b h = absurd (true≢false (sym h))

abbrev Below : List ℕ → List (List ℕ) → Type 0
Below n ns = AllByRecursion (λ l. slice_cmp nat_cmp n l ≡ Less) ns

below_more : (a b : List ℕ) (ns : List (List ℕ)) → slice_cmp nat_cmp a b ≡ Less → Below b ns → Below a ns
below_more a b [] e h = tt
below_more a b (n ∷ ns) e h = (nat_list_cmp_total.trans a b n e h.0, below_more a b ns e h.1)

sorted_after : (k : List ℕ) (ms : Members) → ascend_after k ms ≡ true → Below k (names_in ms) × IsStrictlySortedBy (slice_cmp nat_cmp) (names_in ms)
unfolding IsStrictlySortedBy
sorted_after k no_members h = (tt, tt)
sorted_after k (member l d ms) h =
    let less = less_of (slice_cmp nat_cmp k l) (head_of _ (ascend_after l ms) h) in
    let more = sorted_after l ms (tail_of (is_lt (slice_cmp nat_cmp k l)) _ h) in
    ((less, below_more k l (names_in ms) less more.0), more)

sorted : (ms : Members) → ascend ms ≡ true → IsStrictlySortedBy (slice_cmp nat_cmp) (names_in ms)
unfolding IsStrictlySortedBy
sorted no_members h = tt
sorted (member k d ms) h = sorted_after k ms h

-- members whose names ascend stay as they are
pub in_order_already : (ms : Members) → ascend ms ≡ true → put_all ms no_members ≡ ms
in_order_already ms h = put_after ms no_members (sorted ms h)
