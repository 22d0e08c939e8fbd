-- Numbers of unfolded declarations: what is put last has a number of its own, and no tree has two.
use Rattle.std.proofs.Common.{◌≡◌, ℕ, zero, suc, ◌+◌, ◌<◌, ◌≤◌, Bool, true, false, cond, ◌==◌, ⊎_elim, ◌⊎◌, inl, inr, List, [], ◌∷◌, ◌++◌, length, Option, Some, None, Result, Ok, Err, slice_get, refl, sym, subst, ◌∙◌, ap, ap₂, true≢false, arith}
use Rattle.std.specs.Prelude.{unwrap_or, get_or, nat_lt, not, IfOk}
use Rattle.std.specs.List.{position, position_or_len}
use Rattle.std.proofs.lemmas.Bool.{and_parts, and_from, cases_lt, eqb-true, eq-eqb}
use Rattle.std.proofs.lemmas.Bool.Decides.{nat_tests}
use Rattle.std.proofs.lemmas.List.Quantifiers.{position-Some}
use Rattle.std.proofs.lemmas.Option.{same_Some, slice_get-get_or, slice_get_within}
use Rattle.pgs_schema_changes.specs.declared.form.Form.{Form}
use Rattle.pgs_schema_changes.specs.declared.form.Form.TheVariants as forms
use Rattle.pgs_schema_changes.specs.Unfolded.{Tree, nothing, tree, same_tree}
use Rattle.pgs_schema_changes.proofs.Alike.{one_form, told_form, one_tree, told_tree}
use Rattle.pgs_schema_changes.specs.declared.trees.Entry.{Entry}
use Rattle.pgs_schema_changes.specs.Numbers.{tree_at, trees_from, tree_of, is_entry, Means, IsNumbered, Grows, Puts, number_at, AreNamed}

-- ---- lists

pub get_front : {X : Type 0} (xs ys : List X) (i : ℕ) → i < length xs → slice_get (xs ++ ys) i ≡ slice_get xs i
get_front [] ys i below = absurd (omega arith)
get_front (x ∷ xs) ys zero below = refl
get_front (x ∷ xs) ys (suc i) below = get_front xs ys i (omega arith)

pub get_last : {X : Type 0} (xs : List X) (x : X) → slice_get (xs ++ x ∷ []) (length xs) ≡ Some x
get_last [] x = refl
get_last (y ∷ xs) x =
    let up : length (y ∷ xs) ≡ suc (length xs) = omega arith in
    ap (slice_get (y ∷ (xs ++ x ∷ []))) up ∙ get_last xs x

pub get_past : {X : Type 0} (xs : List X) (i : ℕ) → length xs ≤ i → slice_get xs i ≡ None
get_past [] i past = refl
get_past (x ∷ xs) zero past = absurd (omega arith)
get_past (x ∷ xs) (suc i) past = get_past xs i (omega arith)

pub length_last : {X : Type 0} (xs : List X) (x : X) → length (xs ++ x ∷ []) ≡ suc (length xs)
length_last [] x = omega arith
length_last (y ∷ xs) x = let rest = length_last xs x in omega arith

-- ---- the trees of entries

length_trees : (trees : List Tree) (entries : List Entry) → length (trees_from trees entries) ≡ length trees + length entries
length_trees trees [] = omega arith
length_trees trees (entry ∷ entries) =
    let own = tree entry.form (tree_at trees entry.first) (tree_at trees entry.second) in
    let rest = length_trees (trees ++ own ∷ []) entries in
    let one = length_last trees own in
    omega arith

trees_more : (trees : List Tree) (entries : List Entry) (last : Entry) → trees_from trees (entries ++ last ∷ [])
    ≡ trees_from trees entries ++ tree last.form (tree_at (trees_from trees entries) last.first) (tree_at (trees_from trees entries) last.second) ∷ []
trees_more trees [] last = refl
trees_more trees (entry ∷ entries) last =
    trees_more (trees ++ tree entry.form (tree_at trees entry.first) (tree_at trees entry.second) ∷ []) entries last

tree_front : (trees : List Tree) (own : Tree) (i : ℕ) → i ≤ length trees → tree_at (trees ++ own ∷ []) i ≡ tree_at trees i
tree_front trees own zero within = refl
tree_front trees own (suc i) within = ap (λ (o : Option Tree). unwrap_or o nothing) (get_front trees (own ∷ []) i (omega arith))

tree_last : (trees : List Tree) (own : Tree) → tree_at (trees ++ own ∷ []) (suc (length trees)) ≡ own
tree_last trees own = ap (λ (o : Option Tree). unwrap_or o nothing) (get_last trees own)

-- ---- growing

pub grows_none : (entries : List Entry) → Grows entries entries
grows_none entries = record { longer = omega arith; same = λ number within. refl }

pub grows_on : (a b c : List Entry) → Grows a b → Grows b c → Grows a c
grows_on a b c p q = record {
  longer = let one = p.longer in let two = q.longer in omega arith;
  same = λ number within. q.same number (let one = p.longer in omega arith) ∙ p.same number within;
}

pub means_on : (old new : List Entry) (number : ℕ) (own : Tree) → Grows old new → Means old number own → Means new number own
means_on old new number own grows means = (let longer = grows.longer in let within = means.0 in omega arith, grows.same number means.0 ∙ means.1)

pub named_on : (old new : List Entry) (numbers : List ℕ) (names : ℕ → Tree) → Grows old new → AreNamed old numbers names → AreNamed new numbers names
named_on old new numbers names grows named = λ own. means_on old new (number_at numbers own) (names own) grows (named own)

pub means_nothing : (entries : List Entry) → Means entries 0 nothing
means_nothing entries = (omega arith, refl)

pub none_put : (entries : List Entry) (number : ℕ) (own : Tree) → IsNumbered entries → Means entries number own → Puts entries entries number own
none_put entries number own numbered means = record { numbered = numbered; grows = grows_none entries; means = means }

pub puts_on : (a b c : List Entry) (number : ℕ) (own : Tree) → Grows a b → Puts b c number own → Puts a c number own
puts_on a b c number own grows puts = record { numbered = puts.numbered; grows = grows_on a b c grows puts.grows; means = puts.means }

-- no entries, no trees
pub none_numbered : IsNumbered []
none_numbered = record {
  entry = λ place it at. cc;
  one = λ i j first second same. omega arith;
}

-- ---- one is put

no_entry : Entry
no_entry = record { form = forms.Empty; first = 0; second = 0 }

position_found : (test : Entry → Bool) (entries : List Entry) (place : ℕ) → position test entries ≡ Some place → (it : Entry) × (slice_get entries place ≡ Some it) × (test it ≡ true) × (place < length entries)
position_found test entries place found =
    let said = position-Some test entries place no_entry found in
    (get_or entries place no_entry, slice_get-get_or entries place no_entry said.0, said.1, said.0)

-- where no entry passes a test
none_passes : (test : Entry → Bool) (entries : List Entry) → nat_lt (position_or_len test entries) (length entries) ≡ false
    → (place : ℕ) (it : Entry) → slice_get entries place ≡ Some it → test it ≡ false
none_passes test [] none place it at = cc
none_passes test (entry ∷ entries) none place it at =
    by (test entry) refl none (none_passes test entries) place at
  where
    by : (b : Bool) → test entry ≡ b → nat_lt (cond (not b) (1 + position_or_len test entries) 0) (length (entry ∷ entries)) ≡ false
        → (nat_lt (position_or_len test entries) (length entries) ≡ false → (i : ℕ) (e : Entry) → slice_get entries i ≡ Some e → test e ≡ false)
        → (i : ℕ) → slice_get (entry ∷ entries) i ≡ Some it → test it ≡ false
    by true is past rest i here = absurd (grind (arith, nat_tests))
    by false is past rest zero here = let same : entry ≡ it = cc in ap test (sym same) ∙ is
    by false is past rest (suc i) here = rest (grind (arith, nat_tests)) i it here

none_at : (test : Entry → Bool) (entries : List Entry) (b : Bool) → nat_lt (position_or_len test entries) (length entries) ≡ b
    → cond b (Some (position_or_len test entries)) None ≡ None → nat_lt (position_or_len test entries) (length entries) ≡ false
none_at test entries true is none = cc
none_at test entries false is none = is

position_none : (test : Entry → Bool) (entries : List Entry) → position test entries ≡ None → (place : ℕ) (it : Entry) → slice_get entries place ≡ Some it → test it ≡ false
position_none test entries none =
    none_passes test entries (none_at test entries (nat_lt (position_or_len test entries) (length entries)) refl none)

module _ (old : List Entry) (form : Form) (first second : ℕ) (left right : Tree) (numbered : IsNumbered old) (of_first : Means old first left) (of_second : Means old second right) where
  -- an entry for which it is told that it is this one
  is_this : (it : Entry) → is_entry form first second it ≡ true → (it.form ≡ form) × (it.first ≡ first) × (it.second ≡ second)
  is_this it is =
      let parts = and_parts _ _ is in
      let front = and_parts _ _ parts.0 in
      (sym (one_form form it.form parts.1), eqb-true it.first first front.0, eqb-true it.second second front.1)

  pub put_found : (place : ℕ) → position (is_entry form first second) old ≡ Some place → Puts old old (place + 1) (tree form left right)
  put_found place found =
      let it = position_found (is_entry form first second) old place found in
      let this = is_this it.0 it.2 in
      let up : place + 1 ≡ suc place = omega arith in
      let within = it.3 in
      none_put old (place + 1) (tree form left right) numbered (
        omega arith,
        ap (tree_of old) up ∙ (numbered.entry place it.0 it.1).0
            ∙ ap (λ (f : Form). tree f (tree_of old it.0.first) (tree_of old it.0.second)) this.0
            ∙ ap₂ (λ (n m : ℕ). tree form (tree_of old n) (tree_of old m)) this.1 this.2
            ∙ ap₂ (tree form) of_first.1 of_second.1,
      )

  abbrev last : Entry
  last = record { form = form; first = first; second = second }

  abbrev new : List Entry
  new = old ++ last ∷ []

  trees_new : trees_from [] new ≡ trees_from [] old ++ tree form left right ∷ []
  trees_new = trees_more [] old last ∙ ap₂ (λ (a b : Tree). trees_from [] old ++ tree form a b ∷ []) of_first.1 of_second.1

  count : length (trees_from [] old) ≡ length old
  count = let all = length_trees [] old in omega arith

  same : (i : ℕ) → i ≤ length old → tree_of new i ≡ tree_of old i
  same i within =
      ap (λ (ts : List Tree). tree_at ts i) trees_new ∙ tree_front (trees_from [] old) (tree form left right) i (let all = count in omega arith)

  at_last : tree_of new (suc (length old)) ≡ tree form left right
  at_last =
      ap (λ (ts : List Tree). tree_at ts (suc (length old))) trees_new
      ∙ ap (λ (n : ℕ). tree_at (trees_from [] old ++ tree form left right ∷ []) (suc n)) (sym count)
      ∙ tree_last (trees_from [] old) (tree form left right)

  longer : length new ≡ suc (length old)
  longer = length_last old last

  module _ (none : position (is_entry form first second) old ≡ None) where
    -- no number of before stands for it
    fresh : (i : ℕ) → i ≤ length old → tree_of old i ≡ tree form left right → ⊥
    fresh zero within is = cc
    fresh (suc place) within is =
        let at = slice_get-get_or old place no_entry (omega arith) in
        let it = get_or old place no_entry in
        let said = numbered.entry place it at in
        let both : tree it.form (tree_of old it.first) (tree_of old it.second) ≡ tree form left right = sym said.0 ∙ is in
        let forms_same : it.form ≡ form = cc in
        let firsts : tree_of old it.first ≡ left = cc in
        let seconds : tree_of old it.second ≡ right = cc in
        let one = numbered.one it.first first said.1 of_first.0 (firsts ∙ sym of_first.1) in
        let two = numbered.one it.second second said.2 of_second.0 (seconds ∙ sym of_second.1) in
        true≢false
        (sym (and_from _ _ (and_from _ _ (eq-eqb it.first first one) (eq-eqb it.second second two)) (told_form form it.form (sym forms_same)))
        ∙ position_none (is_entry form first second) old none place it at)

    up_to : (i : ℕ) → i ≤ length new → (i ≤ length old) ⊎ (i ≡ suc (length old))
    up_to i within =
        let long = longer in
        ⊎_elim (λ (below : i < suc (length old)). inl (omega arith)) (λ (past : suc (length old) ≤ i). inr (omega arith)) (cases_lt i (suc (length old)))

    entry_new : (place : ℕ) (it : Entry) → slice_get new place ≡ Some it → (place < length old) ⊎ (length old ≤ place)
        → (tree_of new (suc place) ≡ tree it.form (tree_of new it.first) (tree_of new it.second)) × (it.first ≤ length new) × (it.second ≤ length new)
    entry_new place it at (inl below) =
        let said = numbered.entry place it (sym (get_front old (last ∷ []) place below) ∙ at) in
        let long = longer in
        let first_in = said.1 in
        let second_in = said.2 in
        (same (suc place) (omega arith) ∙ said.0 ∙ ap₂ (tree it.form) (sym (same it.first said.1)) (sym (same it.second said.2)), omega arith, omega arith)
    entry_new place it at (inr past) =
        let long = longer in
        let there : place < length new = slice_get_within new place it at in
        let here : place ≡ length old = omega arith in
        let is : last ≡ it = same_Some last it (sym (get_last old last) ∙ ap (slice_get new) (sym here) ∙ at) in
        let first_in = of_first.0 in
        let second_in = of_second.0 in
        subst (λ (e : Entry). (tree_of new (suc place) ≡ tree e.form (tree_of new e.first) (tree_of new e.second)) × (e.first ≤ length new) × (e.second ≤ length new)) is
        (ap (λ (n : ℕ). tree_of new (suc n)) here ∙ at_last ∙ ap₂ (tree form) (sym (same first of_first.0 ∙ of_first.1)) (sym (same second of_second.0 ∙ of_second.1)), omega arith, omega arith)

    one_new : (i j : ℕ) → (i ≤ length old) ⊎ (i ≡ suc (length old)) → (j ≤ length old) ⊎ (j ≡ suc (length old)) → tree_of new i ≡ tree_of new j → i ≡ j
    one_new i j (inl a) (inl b) is = numbered.one i j a b (sym (same i a) ∙ is ∙ same j b)
    one_new i j (inl a) (inr b) is = absurd (fresh i a (sym (same i a) ∙ is ∙ ap (tree_of new) b ∙ at_last))
    one_new i j (inr a) (inl b) is = absurd (fresh j b (sym (same j b) ∙ sym is ∙ ap (tree_of new) a ∙ at_last))
    one_new i j (inr a) (inr b) is = a ∙ sym b

    pub put_last : Puts old new (length new) (tree form left right)
    put_last = record {
      numbered = record {
        entry = λ place it at. entry_new place it at (cases_lt place (length old));
        one = λ i j a b is. one_new i j (up_to i a) (up_to j b) is;
      };
      grows = record { longer = let long = longer in omega arith; same = same };
      means = (omega arith, ap (tree_of new) longer ∙ at_last);
    }

    pub if_last : {E : Type 0} (now : List Entry) (result : Result ℕ E) → IfOk result (λ number. (now ≡ new) × (number ≡ length now)) → IfOk result (λ number. Puts old now number (tree form left right))
    if_last now (Ok number) is =
        subst (λ (entries : List Entry). Puts old entries number (tree form left right)) (sym is.0)
        (subst (λ (n : ℕ). Puts old new n (tree form left right)) (sym (is.1 ∙ ap length is.0)) put_last)
    if_last now (Err fault) is = tt

-- ---- numbers tell trees apart

pub tells : (entries : List Entry) (i j : ℕ) (a b : Tree) → IsNumbered entries → Means entries i a → Means entries j b → (i == j) ≡ same_tree a b
tells entries i j a b numbered first second = by (i == j) refl (same_tree a b) refl
  where
    by : (e : Bool) → (i == j) ≡ e → (s : Bool) → same_tree a b ≡ s → e ≡ s
    by true equal true same = refl
    by false apart false other = refl
    by true equal false other =
        absurd (true≢false (sym (told_tree a b (sym first.1 ∙ ap (tree_of entries) (eqb-true i j equal) ∙ second.1)) ∙ other))
    by false apart true same =
        absurd (true≢false (sym (eq-eqb i j (numbered.one i j first.0 second.0 (first.1 ∙ one_tree a b same ∙ sym second.1))) ∙ apart))
