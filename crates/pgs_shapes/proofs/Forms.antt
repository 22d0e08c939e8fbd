-- Lists for the forms of a specification, of pairs and of triples alike: a list denotes what a join, a union or `?` asks, where the
-- lists of the parts denote what the parts ask.
use Rattle.std.proofs.Common.{◌≡◌, ℕ, ◌+◌, ◌<◌, Bool, true, false, ◌&&◌, ◌||◌, List, [], ◌∷◌, ◌++◌, length, take, map, get_or, refl, sym, ◌∙◌, ap, subst}
use Rattle.std.specs.List.{list_any, list_all, flat_map, AllZip}
use Rattle.std.proofs.lemmas.Bool.{and_parts}
use Rattle.std.proofs.lemmas.List.{take_more}
use Rattle.std.proofs.lemmas.List.Folds.{list_any-append}
use Rattle.std.proofs.lemmas.List.Sums.{AllPass-from_list_all}
use mathlib.Core.Former.{Count}
use denote.Hole.Carrier.{hidden}
use Rattle.pgs_syntax.specs.declared.specification.Leaf.{Leaf}
use Rattle.pgs_syntax.specs.declared.specification.Spec.{Spec, And, And', Or, Or', Opt, Opt', Row_of-Spec, end_of-Spec, more_of-Spec, items-the_row-Spec, items_hidden-the_row-Spec-0}
use Rattle.pgs_syntax.specs.declared.specification.Spec.TheBlock as block
use Rattle.pgs_syntax.specs.Fitting.{suits}
use Rattle.pgs_syntax.specs.Join.{Joins, joined_all, is_empty_pair}
use Rattle.pgs_syntax.specs.Valid.{is_valid_spec, are_valid_specs}
use Rattle.pgs_syntax.proofs.Specs.{suits_and, suits_or, suits_opt}
use Rattle.pgs_product.proofs.Several.{AreLawful}

-- ---- valid parts

abbrev row_of : Spec Leaf → (n : Count) × Row_of-Spec Leaf n
row_of (And' _ row) = (_, row)
row_of (Or' _ row) = (_, row)
row_of (Opt' _ row) = (_, row)
row_of _ = (_, end_of-Spec)

module _ (bound : ℕ) where
  valid_row : (n : _) (row : Row_of-Spec Leaf n) → are_valid_specs bound row ≡ list_all (is_valid_spec bound) (items-the_row-Spec Leaf n row)
  valid_row n end_of-Spec = refl
  valid_row n (more_of-Spec part rest) = ap (λ b. is_valid_spec bound part && b) (valid_row _ rest)

  pub valid_and : (parts : List (Spec Leaf)) → is_valid_spec bound (And parts) ≡ list_all (is_valid_spec bound) parts
  valid_and parts =
      let row = row_of (And parts) in valid_row row.0 row.1 ∙ ap (list_all (is_valid_spec bound)) (items_hidden-the_row-Spec-0 Leaf parts)

  pub valid_or : (parts : List (Spec Leaf)) → is_valid_spec bound (Or parts) ≡ list_all (is_valid_spec bound) parts
  valid_or parts =
      let row = row_of (Or parts) in valid_row row.0 row.1 ∙ ap (list_all (is_valid_spec bound)) (items_hidden-the_row-Spec-0 Leaf parts)

  pub valid_opt : (part : Spec Leaf) → is_valid_spec bound (Opt part) ≡ true → is_valid_spec bound part ≡ true
  unfolding block.hidden-the_row-Spec-1 hidden
  valid_opt part valid = (and_parts (is_valid_spec bound part) true valid).0

-- one of some that all pass
pub one_of_all : {X : Type 0} (test : X → Bool) (xs : List X) (i : ℕ) (x : X) → list_all test xs ≡ true → i < length xs → x ≡ get_or xs i x → test x ≡ true
one_of_all test xs i x all lt is = subst (λ y. test y ≡ true) (sym is) (AllPass-from_list_all test xs all i x lt)

-- ---- lists beside parts

pub zip_push : {X Y : Type 0} (R : X → Y → Type 0) (xs : List X) (ys : List Y) (x : X) (y : Y) → AllZip R xs ys → R x y → AllZip R (xs ++ x ∷ []) (ys ++ y ∷ [])
zip_push R [] [] x y h r = (r, tt)
zip_push R [] (b ∷ ys) x y h r = absurd h
zip_push R (a ∷ xs) [] x y h r = absurd h
zip_push R (a ∷ xs) (b ∷ ys) x y h r = (h.0, zip_push R xs ys x y h.1 r)

pub zip_more : {X Y : Type 0} (R : X → Y → Type 0) (xs : List X) (i : ℕ) (x : X) (old new : List Y) (y : Y) → i < length xs → x ≡ get_or xs i x →
    AllZip R (take i xs) old → R x y → new ≡ old ++ y ∷ [] → AllZip R (take (i + 1) xs) new
zip_more R xs i x old new y lt is h r n =
    let taken : take (i + 1) xs ≡ take i xs ++ x ∷ [] = take_more xs i x lt ∙ ap (λ z. take i xs ++ z ∷ []) (sym is) in
    subst (λ zs. AllZip R zs new) (sym taken) (subst (AllZip R (take i xs ++ x ∷ [])) (sym n) (zip_push R (take i xs) old x y h r))

or_comm : (a b : Bool) → (a || b) ≡ (b || a)
or_comm true true = refl
or_comm true false = refl
or_comm false true = refl
or_comm false false = refl

module _ {P : Type 0} (joins : Joins P) (Good : P → Type 0) (laws : AreLawful joins Good) {S : Type 0} (has : S → P → Bool) (test : ℕ → P → Bool) where
  abbrev some : List S → P → Bool
  some list p = list_any (λ item. has item p) list

  abbrev PartDenotes : Spec Leaf → List S → Type 0
  PartDenotes part list = (p : P) → Good p → some list p ≡ suits joins test part p

  all_parts : (parts : List (Spec Leaf)) (lists : List (List S)) → AllZip PartDenotes parts lists → (p : P) → Good p →
      joined_all joins (map some lists) p ≡ joined_all joins (map (suits joins test) parts) p
  all_parts [] [] h p good = refl
  all_parts [] (list ∷ lists) h p good = absurd h
  all_parts (part ∷ parts) [] h p good = absurd h
  all_parts (part ∷ parts) (list ∷ lists) h p good =
      laws.alike (some list) (joined_all joins (map some lists)) (suits joins test part) (joined_all joins (map (suits joins test) parts)) h.0 (all_parts parts lists h.1) p good

  some_part : (parts : List (Spec Leaf)) (lists : List (List S)) → AllZip PartDenotes parts lists → (p : P) → Good p →
      list_any (λ list. some list p) lists ≡ list_any (λ part. suits joins test part p) parts
  some_part [] [] h p good = refl
  some_part [] (list ∷ lists) h p good = absurd h
  some_part (part ∷ parts) [] h p good = absurd h
  some_part (part ∷ parts) (list ∷ lists) h p good =
      ap (λ b. b || list_any (λ other. some other p) lists) (h.0 p good) ∙ ap (λ b. suits joins test part p || b) (some_part parts lists h.1 p good)

  some_of_all : (lists : List (List S)) (p : P) → some (flat_map (λ list. list) lists) p ≡ list_any (λ list. some list p) lists
  some_of_all [] p = refl
  some_of_all (list ∷ lists) p =
      list_any-append (λ item. has item p) list (flat_map (λ other. other) lists) ∙ ap (λ b. some list p || b) (some_of_all lists p)

  pub and_denotes : (parts : List (Spec Leaf)) (lists : List (List S)) (whole : List S) → AllZip PartDenotes parts lists →
      ((p : P) → Good p → some whole p ≡ joined_all joins (map some lists) p) → PartDenotes (And parts) whole
  and_denotes parts lists whole each w p good = w p good ∙ all_parts parts lists each p good ∙ sym (suits_and joins test parts p)

  pub or_denotes : (parts : List (Spec Leaf)) (lists : List (List S)) (whole : List S) → AllZip PartDenotes parts lists →
      whole ≡ flat_map (λ list. list) lists → PartDenotes (Or parts) whole
  or_denotes parts lists whole each w p good =
      ap (λ list. some list p) w ∙ some_of_all lists p ∙ some_part parts lists each p good ∙ sym (suits_or joins test parts p)

  pub opt_denotes : (part : Spec Leaf) (list whole : List S) → PartDenotes part list →
      ((p : P) → some whole p ≡ (some list p || joins.asks is_empty_pair p)) → PartDenotes (Opt part) whole
  opt_denotes part list whole denotes w p good =
      w p ∙ or_comm (some list p) (joins.asks is_empty_pair p) ∙ ap (λ b. joins.asks is_empty_pair p || b) (denotes p good) ∙ sym (suits_opt joins test part p)

-- ---- the arms of a specification: what a list denotes, where those of the parts denote what the parts ask

module _ {P : Type 0} (joins : Joins P) (Good : P → Type 0) (laws : AreLawful joins Good) {S : Type 0} (has : S → P → Bool) (bound : ℕ)
    (Known : (ℕ → P → Bool) → Type 0) where
  abbrev Answers : Spec Leaf → List S → Type 0
  Answers spec list = is_valid_spec bound spec ≡ true → (test : ℕ → P → Bool) → Known test → PartDenotes joins Good laws has test spec list

  abbrev AnswerEach : List (Spec Leaf) → List (List S) → Type 0
  AnswerEach parts lists = list_all (is_valid_spec bound) parts ≡ true → (test : ℕ → P → Bool) → Known test →
      AllZip (PartDenotes joins Good laws has test) parts lists

  abbrev those_of : List S → P → Bool
  those_of list p = list_any (λ item. has item p) list

  pub and_answers : (spec : Spec Leaf) (parts slice : List (Spec Leaf)) (lists lent : List (List S)) → spec ≡ And parts → slice ≡ parts → lent ≡ lists →
      AnswerEach slice lists → (whole : List S) → ((p : P) → Good p → those_of whole p ≡ joined_all joins (map those_of lent) p) → Answers spec whole
  and_answers spec parts slice lists lent is same lends each whole w valid test known p good =
      let all_valid = ap (list_all (is_valid_spec bound)) same ∙ sym (valid_and bound parts) ∙ ap (is_valid_spec bound) (sym is) ∙ valid in
      let denote = subst (λ ps. AllZip (PartDenotes joins Good laws has test) ps lists) same (each all_valid test known) in
      and_denotes joins Good laws has test parts lists whole denote (λ q fine. w q fine ∙ ap (λ ls. joined_all joins (map those_of ls) q) lends) p good
      ∙ ap (λ own. suits joins test own p) (sym is)

  pub or_answers : (spec : Spec Leaf) (parts slice : List (Spec Leaf)) (lists : List (List S)) → spec ≡ Or parts → slice ≡ parts →
      AnswerEach slice lists → (whole : List S) → whole ≡ flat_map (λ list. list) lists → Answers spec whole
  or_answers spec parts slice lists is same each whole w valid test known p good =
      let all_valid = ap (list_all (is_valid_spec bound)) same ∙ sym (valid_or bound parts) ∙ ap (is_valid_spec bound) (sym is) ∙ valid in
      let denote = subst (λ ps. AllZip (PartDenotes joins Good laws has test) ps lists) same (each all_valid test known) in
      or_denotes joins Good laws has test parts lists whole denote w p good ∙ ap (λ own. suits joins test own p) (sym is)

  pub opt_answers : (spec part lent : Spec Leaf) (list : List S) → spec ≡ Opt part → lent ≡ part → Answers lent list →
      (whole : List S) → ((p : P) → those_of whole p ≡ (those_of list p || joins.asks is_empty_pair p)) → Answers spec whole
  opt_answers spec part lent list is same own whole w valid test known p good =
      let part_valid = ap (is_valid_spec bound) same ∙ valid_opt bound part (ap (is_valid_spec bound) (sym is) ∙ valid) in
      let denote = subst (λ s. PartDenotes joins Good laws has test s list) same (own part_valid test known) in
      opt_denotes joins Good laws has test part list whole denote w p good ∙ ap (λ s. suits joins test s p) (sym is)
