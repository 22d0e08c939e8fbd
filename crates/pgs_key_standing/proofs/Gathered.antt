-- Elements of some variables among those of more: what is there, and what holds.
use Rattle.std.proofs.Common.{◌≡◌, ℕ, zero, suc, ◌+◌, ◌<◌, Bool, true, List, [], ◌∷◌, ◌++◌, map, drop, length, Some, slice_get, unwrap_or, refl, sym, ◌∙◌, ap, arith, true≢false}
use Rattle.std.specs.Option.{option_map}
use Rattle.std.specs.List.{list_any, list_all}
use Rattle.std.proofs.lemmas.Bool.{and_parts, and_from}
use Rattle.std.proofs.lemmas.List.{length-map}
use Rattle.std.proofs.lemmas.Option.{same_Some, slice_get-map, slice_get_within, slice_get-get_or}
use Rattle.pgs_base.specs.declared.element.Elem.{Elem}
use Rattle.pgs_base.specs.declared.element.Elem.TheVariants.{Node}
use Rattle.pgs_base.specs.Graph.{Graph}
use Rattle.pgs_syntax.specs.declared.pattern.Atom.{Atom}
use Rattle.pgs_syntax.specs.declared.resolved.Resolved.{Resolved}
use Rattle.pgs_syntax.specs.Matches.{same_elem, elements, are_there, holds}
use Rattle.pgs_syntax.specs.Valid.{speaks_of}
use Rattle.pgs_key_standing.specs.Joint.{numbers}
use Rattle.pgs_key_standing.specs.Renamed.{renamed}
use Rattle.pgs_key_standing.proofs.Built.{the_node}
use Rattle.pgs_key_standing.proofs.Classes.{at_first, number_at}
use Rattle.pgs_key_standing.proofs.Renamings.{all_renamed}

-- ---- lists

pub get_within : {X : Type 0} (xs : List X) (i : ℕ) → i < length xs → (x : X) × (slice_get xs i ≡ Some x)
get_within [] i below = absurd (omega arith)
get_within (x ∷ xs) zero below = (x, refl)
get_within (x ∷ xs) (suc i) below = get_within xs i (omega arith)

pub get_first : {X : Type 0} (xs ys : List X) (i : ℕ) → i < length xs → slice_get (xs ++ ys) i ≡ slice_get xs i
get_first [] ys i below = absurd (omega arith)
get_first (x ∷ xs) ys zero below = refl
get_first (x ∷ xs) ys (suc i) below = get_first xs ys i (omega arith)

pub get_later : {X : Type 0} (xs ys : List X) (i : ℕ) → slice_get (xs ++ ys) (length xs + i) ≡ slice_get ys i
get_later [] ys i = ap (slice_get ys) (let e : 0 + i ≡ i = omega arith in e)
get_later (x ∷ xs) ys i = ap (slice_get (x ∷ (xs ++ ys))) (let e : length (x ∷ xs) + i ≡ suc (length xs + i) = omega arith in e) ∙ get_later xs ys i

pub get_dropped : {X : Type 0} (xs : List X) (i : ℕ) → slice_get (drop 1 xs) i ≡ slice_get xs (suc i)
get_dropped [] i = refl
get_dropped (x ∷ xs) i = refl

-- ---- elements that are there

module _ (g : Graph) where
  pub is_there : (kinds : List Bool) (es : List Elem) (i : ℕ) (kind : Bool) → are_there g kinds es ≡ true → slice_get kinds i ≡ Some kind →
      (elem : Elem) × (slice_get es i ≡ Some elem) × (list_any (same_elem elem) (elements g kind) ≡ true)
  is_there [] es i kind all at = cc
  is_there (k ∷ kinds) [] i kind all at = absurd (true≢false (sym all))
  is_there (k ∷ kinds) (e ∷ es) zero kind all at = (e, refl, ap (λ b. list_any (same_elem e) (elements g b)) (sym (same_Some k kind at)) ∙ (and_parts _ _ all).0)
  is_there (k ∷ kinds) (e ∷ es) (suc i) kind all at = is_there kinds es i kind (and_parts _ _ all).1 at

  pub all_there_by : (kinds : List Bool) (es : List Elem) → length es ≡ length kinds →
      ((i : ℕ) (kind : Bool) → slice_get kinds i ≡ Some kind → (elem : Elem) × (slice_get es i ≡ Some elem) × (list_any (same_elem elem) (elements g kind) ≡ true)) →
      are_there g kinds es ≡ true
  all_there_by [] [] size each = refl
  all_there_by [] (e ∷ es) size each = absurd (omega arith)
  all_there_by (k ∷ kinds) [] size each = absurd (omega arith)
  all_there_by (k ∷ kinds) (e ∷ es) size each =
      let first = each 0 k refl in
      and_from _ _ (ap (λ x. list_any (same_elem x) (elements g k)) (same_Some e first.0 first.1) ∙ first.2)
      (all_there_by kinds es (omega arith) (λ i kind at. each (suc i) kind at))

  pub there_count : (kinds : List Bool) (es : List Elem) → are_there g kinds es ≡ true → length es ≡ length kinds
  there_count [] [] h = refl
  there_count [] (e ∷ es) h = absurd (true≢false (sym h))
  there_count (k ∷ kinds) [] h = absurd (true≢false (sym h))
  there_count (k ∷ kinds) (e ∷ es) h =
      let rest : length es ≡ length kinds = there_count kinds es (and_parts (list_any (same_elem e) (elements g k)) (are_there g kinds es) h).1 in omega arith

  pub there_append : (kinds more : List Bool) (es others : List Elem) → are_there g kinds es ≡ true → are_there g more others ≡ true → are_there g (kinds ++ more) (es ++ others) ≡ true
  there_append [] more [] others first second = second
  there_append [] more (e ∷ es) others first second = absurd (true≢false (sym first))
  there_append (k ∷ kinds) more [] others first second = absurd (true≢false (sym first))
  there_append (k ∷ kinds) more (e ∷ es) others first second =
      let parts = and_parts _ _ first in and_from _ _ parts.0 (there_append kinds more es others parts.1 second)

  pub there_dropped : (kinds : List Bool) (es : List Elem) → are_there g kinds es ≡ true → are_there g (drop 1 kinds) (drop 1 es) ≡ true
  there_dropped [] [] h = refl
  there_dropped [] (e ∷ es) h = absurd (true≢false (sym h))
  there_dropped (k ∷ kinds) [] h = absurd (true≢false (sym h))
  there_dropped (k ∷ kinds) (e ∷ es) h = (and_parts _ _ h).1

-- ---- elements by other numbers

-- each variable's number has its kind among other kinds
abbrev pub KeepsKinds : List Bool → List Bool → (ℕ → ℕ) → Type 0
KeepsKinds kinds others f = (var : ℕ) (kind : Bool) → slice_get kinds var ≡ Some kind → slice_get others (f var) ≡ Some kind

module _ (resolved : Resolved) (g : Graph) (kinds more : List Bool) (f : ℕ → ℕ) (keeps : KeepsKinds kinds more f) (elems : List Elem) (there : are_there g more elems ≡ true) where
  abbrev pub pick : ℕ → Elem
  pick var = unwrap_or (slice_get elems (f var)) (Node (the_node 0))

  abbrev pub gathered : List Elem
  gathered = map pick (numbers kinds)

  gathered_count : length gathered ≡ length kinds
  gathered_count = length-map (numbers kinds) pick ∙ (at_first kinds).size

  gathered_there_at : (var : ℕ) (kind : Bool) → slice_get kinds var ≡ Some kind →
      (elem : Elem) × (slice_get gathered var ≡ Some elem) × (slice_get elems (f var) ≡ Some elem) × (list_any (same_elem elem) (elements g kind) ≡ true)
  gathered_there_at var kind at =
      let below = slice_get_within kinds var kind at in
      let size = (at_first kinds).size in
      let one = is_there g more elems (f var) kind there (keeps var kind at) in
      let number : slice_get (numbers kinds) var ≡ Some var = slice_get-get_or (numbers kinds) var 0 (omega arith) ∙ ap Some (number_at kinds var below) in (
        one.0,
        slice_get-map pick (numbers kinds) var ∙ ap (option_map pick) number ∙ ap (λ o. Some (unwrap_or o (Node (the_node 0)))) one.1,
        one.1,
        one.2,
      )

  pub gathered_at : (var : ℕ) → var < length kinds → slice_get gathered var ≡ slice_get elems (f var)
  gathered_at var below =
      let kind = get_within kinds var below in
      let one = gathered_there_at var kind.0 kind.1 in
      one.1 ∙ sym one.2

  pub gathered_there : are_there g kinds gathered ≡ true
  gathered_there = all_there_by g kinds gathered gathered_count (λ var kind at. let one = gathered_there_at var kind at in (one.0, one.1, one.3))

  pub gathered_holds : (atoms : List Atom) → list_all (speaks_of kinds) atoms ≡ true → list_all (holds resolved g elems) (map (renamed f) atoms) ≡ true →
      list_all (holds resolved g gathered) atoms ≡ true
  gathered_holds atoms speak hold = all_renamed resolved g kinds f elems gathered gathered_at atoms speak ∙ hold
