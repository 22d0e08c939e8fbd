-- Fields that are read exactly: what is read is spelled so, and what is spelled so is read, whatever follows it.
use Rattle.std.proofs.Common.{◌≡◌, ℕ, zero, suc, ◌^◌, ◌<◌, ◌≤◌, Bool, true, false, cond, ◌&&◌, List, [], ◌∷◌, ◌++◌, length, get_or, take, drop, Option, Some, None, refl, sym, ap, subst, ◌∙◌, append_assoc, arith, inl, inr, lit<}
use Rattle.std.specs.Prelude.{flat_map, eqb, leb, ltb}
use Rattle.std.specs.Int.{Width, w16, w32, w64, byte_len, to_be_bytes, from_be_bytes}
use Rattle.std.specs.List.{list_all, AllByRecursion}
use Rattle.std.proofs.lemmas.Bool.{eqb-true, ltb-true, ltb-false, le-ltb, lt-ltb, and_parts, and_from, cases_Bool}
use Rattle.std.proofs.lemmas.List.{take_at, drop_at, take-append-drop, length-append, length-take}
use Rattle.std.proofs.lemmas.Option.{cond_some}
use Rattle.std.proofs.lemmas.Nat.{be_bytes_2, be_bytes_4, be_bytes_8, from_be_bytes-to_be_bytes_2, from_be_bytes-to_be_bytes_4, from_be_bytes-to_be_bytes_8}
use Rattle.pgs_base.specs.Options.{◌>>=◌}
use Rattle.pgs_codec.specs.Reading.{Reading, pair_at, named_at, tested_at, many_at, counted_at, kind_in, kind_at, bytes_at, byte_at, number_at}

abbrev pub IsBytes : List ℕ → Type 0
IsBytes bytes = (i : ℕ) → get_or bytes i 0 < 256

-- the bytes behind others
pub IsBytes-behind : (a b : List ℕ) → IsBytes (a ++ b) → IsBytes b
IsBytes-behind [] b fits i = fits i
IsBytes-behind (x ∷ a) b fits i = IsBytes-behind a b (λ j. fits (suc j)) i

pub IsBytes-rest : (bytes a b : List ℕ) → bytes ≡ a ++ b → IsBytes bytes → IsBytes b
IsBytes-rest bytes a b e fits = IsBytes-behind a b (subst IsBytes e fits)

-- what was read from the front, and what has the field
pub record Takes {A : Type 0} (field : A → List ℕ) (fits : A → Bool) (bytes : List ℕ) (x : A × List ℕ) : Type 0 where
  pub spelled : bytes ≡ field x.0 ++ x.1
  pub fit : fits x.0 ≡ true

pub record IsExact {A : Type 0} (field : A → List ℕ) (fits : A → Bool) (read : Reading A) : Type 0 where
  pub takes : (bytes : List ℕ) (x : A × List ℕ) → IsBytes bytes → read bytes ≡ Some x → Takes field fits bytes x
  pub again : (x : A) (rest : List ℕ) → fits x ≡ true → read (field x ++ rest) ≡ Some (x, rest)

-- ---- steps

-- the value of a step that gave one
pub then_some : {A B : Type 0} (o : Option A) (f : A → Option B) (y : B) → (o >>= f) ≡ Some y → (x : A) × (o ≡ Some x) × (f x ≡ Some y)
then_some (Some x) f y e = (x, refl, e)
then_some None f y e = absurd cc

abbrev pub given : {A : Type 0} → A → Option A
given x = Some x

pub same_given : {A : Type 0} (x y : A) → given x ≡ given y → x ≡ y
same_given x y e = cc

-- ---- one field and another

module _ {A B : Type 0} {f : A → List ℕ} {p : A → Bool} {r : Reading A} {g : B → List ℕ} {q : B → Bool} {s : Reading B} (first : IsExact f p r) (second : IsExact g q s) where
  pair_takes : (bytes : List ℕ) (x : (A × B) × List ℕ) → IsBytes bytes → pair_at r s bytes ≡ Some x → Takes (λ (x : A × B). f x.0 ++ g x.1) (λ (x : A × B). p x.0 && q x.1) bytes x
  unfolding pair_at
  pair_takes bytes x fits e =
      let a = then_some (r bytes) (λ a. s a.1 >>= λ b. Some ((a.0, b.0), b.1)) x e in
      let b = then_some (s a.0.1) (λ b. Some ((a.0.0, b.0), b.1)) x a.2 in
      let ta = first.takes bytes a.0 fits a.1 in
      let tb = second.takes a.0.1 b.0 (IsBytes-rest bytes (f a.0.0) a.0.1 ta.spelled fits) b.1 in
      let made : (A × B) × List ℕ = ((a.0.0, b.0.0), b.0.1) in
      subst (λ (y : (A × B) × List ℕ). Takes (λ (x : A × B). f x.0 ++ g x.1) (λ (x : A × B). p x.0 && q x.1) bytes y) (same_given made x b.2)
      (record { spelled = ta.spelled ∙ ap (λ (t : List ℕ). f a.0.0 ++ t) tb.spelled ∙ sym (append_assoc (f a.0.0) (g b.0.0) b.0.1); fit = and_from _ _ ta.fit tb.fit })

  pair_again : (x : A × B) (rest : List ℕ) → (p x.0 && q x.1) ≡ true → pair_at r s ((f x.0 ++ g x.1) ++ rest) ≡ Some (x, rest)
  unfolding pair_at
  pair_again x rest e =
      let parts = and_parts (p x.0) (q x.1) e in
      rw (append_assoc (f x.0) (g x.1) rest, first.again x.0 (g x.1 ++ rest) parts.0, second.again x.1 rest parts.1) refl

  pub pair_exact : IsExact (λ (x : A × B). f x.0 ++ g x.1) (λ (x : A × B). p x.0 && q x.1) (pair_at r s)
  pair_exact = record { takes = pair_takes; again = pair_again }

-- ---- a field under another name

module _ {A : Type 0} {f : A → List ℕ} {p : A → Bool} {r : Reading A} (field : IsExact f p r) where
  pub named_takes : {B : Type 0} (name : A → B) (P : List ℕ → B × List ℕ → Type 0) (bytes : List ℕ) (y : B × List ℕ) → IsBytes bytes → named_at name r bytes ≡ Some y →
      ((x : A × List ℕ) → Takes f p bytes x → P bytes (name x.0, x.1)) → P bytes y
  unfolding named_at
  named_takes name P bytes y fits e goes =
      let a = then_some (r bytes) (λ a. Some (name a.0, a.1)) y e in
      subst (P bytes) (same_given (name a.0.0, a.0.1) y a.2) (goes a.0 (field.takes bytes a.0 fits a.1))

  pub named_again : {B : Type 0} (name : A → B) (x : A) (rest : List ℕ) → p x ≡ true → named_at name r (f x ++ rest) ≡ Some (name x, rest)
  unfolding named_at
  named_again name x rest e = rw (field.again x rest e) refl

  -- where each value of the other name is one
  pub named_exact : {B : Type 0} (name : A → B) (parts : B → A) → ((y : B) → name (parts y) ≡ y) → ((x : A) → parts (name x) ≡ x) → IsExact (λ y. f (parts y)) (λ y. p (parts y)) (named_at name r)
  named_exact {B = B} name parts whole same = record {
    takes = λ bytes y fits e. named_takes name (λ bytes y. Takes (λ y. f (parts y)) (λ y. p (parts y)) bytes y) bytes y fits e
        (λ x t. record { spelled = t.spelled ∙ ap (λ (a : A). f a ++ x.1) (sym (same x.0)); fit = ap p (same x.0) ∙ t.fit });
    again = λ y rest e. named_again name (parts y) rest e ∙ ap (λ (z : B). Some (z, rest)) (whole y);
  }

  -- ---- a field that passes a test
  tested_takes : (test : A → Bool) (bytes : List ℕ) (x : A × List ℕ) → IsBytes bytes → tested_at test r bytes ≡ Some x → Takes f (λ x. p x && test x) bytes x
  unfolding tested_at
  tested_takes test bytes x fits e =
      let a = then_some (r bytes) (λ a. cond (test a.0) (Some a) None) x e in
      let g = cond_some (test a.0.0) a.0 x a.2 in
      let t = field.takes bytes a.0 fits a.1 in
      subst (Takes f (λ x. p x && test x) bytes) g.1 (record { spelled = t.spelled; fit = and_from _ _ t.fit g.0 })

  tested_again : (test : A → Bool) (x : A) (rest : List ℕ) → (p x && test x) ≡ true → tested_at test r (f x ++ rest) ≡ Some (x, rest)
  unfolding tested_at
  tested_again test x rest e =
      let parts = and_parts (p x) (test x) e in
      rw (field.again x rest parts.0, parts.1) refl

  pub tested_exact : (test : A → Bool) → IsExact f (λ x. p x && test x) (tested_at test r)
  tested_exact test = record { takes = tested_takes test; again = tested_again test }

  -- ---- another word for what has the field
  pub refit : (q : A → Bool) → ((x : A) → p x ≡ true → q x ≡ true) → ((x : A) → q x ≡ true → p x ≡ true) → IsExact f q r
  refit q to from = record {
    takes = λ bytes x fits e. let t = field.takes bytes x fits e in record { spelled = t.spelled; fit = to x.0 t.fit };
    again = λ x rest e. field.again x rest (from x e);
  }

  -- ---- so many fields
  pub many_takes : (n : ℕ) (bytes : List ℕ) (x : List A × List ℕ) → IsBytes bytes → many_at r n bytes ≡ Some x → Takes (flat_map f) (list_all p) bytes x × (length x.0 ≡ n)
  unfolding many_at
  many_takes zero bytes x fits e =
      subst (λ (y : List A × List ℕ). Takes (flat_map f) (list_all p) bytes y × (length y.0 ≡ 0)) (same_given ([], bytes) x e) (record { spelled = refl; fit = refl }, refl)
  many_takes (suc n) bytes x fits e =
      let a = then_some (r bytes) (λ a. many_at r n a.1 >>= λ b. Some (a.0 ∷ b.0, b.1)) x e in
      let b = then_some (many_at r n a.0.1) (λ b. Some (a.0.0 ∷ b.0, b.1)) x a.2 in
      let ta = field.takes bytes a.0 fits a.1 in
      let tb = many_takes n a.0.1 b.0 (IsBytes-rest bytes (f a.0.0) a.0.1 ta.spelled fits) b.1 in
      let made : List A × List ℕ = (a.0.0 ∷ b.0.0, b.0.1) in
      subst (λ (y : List A × List ℕ). Takes (flat_map f) (list_all p) bytes y × (length y.0 ≡ suc n)) (same_given made x b.2)
      (record { spelled = ta.spelled ∙ ap (λ (t : List ℕ). f a.0.0 ++ t) tb.0.spelled ∙ sym (append_assoc (f a.0.0) (flat_map f b.0.0) b.0.1); fit = and_from _ _ ta.fit tb.0.fit }, ap suc tb.1)

  pub many_again : (xs : List A) (rest : List ℕ) → list_all p xs ≡ true → many_at r (length xs) (flat_map f xs ++ rest) ≡ Some (xs, rest)
  unfolding many_at
  many_again [] rest e = refl
  many_again (x ∷ xs) rest e =
      let parts = and_parts (p x) (list_all p xs) e in
      rw (append_assoc (f x) (flat_map f xs) rest, field.again x (flat_map f xs ++ rest) parts.0, many_again xs rest parts.1) refl

-- ---- bytes and numbers

pub bytes_take : (n : ℕ) (bytes : List ℕ) (x : List ℕ × List ℕ) → bytes_at n bytes ≡ Some x → (bytes ≡ x.0 ++ x.1) × (length x.0 ≡ n)
unfolding bytes_at
bytes_take n bytes x e =
    elim (cases_Bool (ltb (length bytes) n)) [
      | inl short ↦ absurd (let h : given x ≡ None = sym e ∙ ap (λ b. cond b None (Some (take n bytes, drop n bytes))) short in cc)
      | inr long ↦
          let same : (take n bytes, drop n bytes) ≡ x = same_given _ x (ap (λ b. cond b None (Some (take n bytes, drop n bytes))) (sym long) ∙ e) in
          let enough : n ≤ length bytes = ltb-false _ _ long in
          subst (λ (y : List ℕ × List ℕ). (bytes ≡ y.0 ++ y.1) × (length y.0 ≡ n)) same (sym (take-append-drop n bytes), omega (arith, length-take n bytes))
    ]

pub bytes_again : (front rest : List ℕ) → bytes_at (length front) (front ++ rest) ≡ Some (front, rest)
unfolding bytes_at
bytes_again front rest =
    let enough : ltb (length (front ++ rest)) (length front) ≡ false = le-ltb _ _ (omega (arith, length-append front rest)) in
    rw (enough, take_at front rest (length front) refl, drop_at front rest (length front) refl) refl

-- how many bytes a number has, and that it is read as it was written
pub record IsNumber (w : Width) (limit : ℕ) : Type 0 where
  pub len : (n : ℕ) → length (to_be_bytes w n) ≡ byte_len w
  pub back : (bytes : List ℕ) → length bytes ≡ byte_len w → IsBytes bytes → to_be_bytes w (from_be_bytes w bytes) ≡ bytes
  pub again : (n : ℕ) → n < limit → from_be_bytes w (to_be_bytes w n) ≡ n
  pub below : (bytes : List ℕ) → IsBytes bytes → from_be_bytes w bytes < limit

pub two_bytes : IsNumber w16 (2 ^ 16)
two_bytes = record {
  len = λ n. refl;
  back = λ bytes len fits. be_bytes_2 bytes _ len fits refl;
  again = λ n lt. from_be_bytes-to_be_bytes_2 n lt;
  below = λ bytes fits. omega (arith, fits 0, fits 1);
}

pub four_bytes : IsNumber w32 (2 ^ 32)
four_bytes = record {
  len = λ n. refl;
  back = λ bytes len fits. be_bytes_4 bytes _ len fits refl;
  again = λ n lt. from_be_bytes-to_be_bytes_4 n lt;
  below = λ bytes fits. omega (arith, fits 0, fits 1, fits 2, fits 3);
}

pub eight_bytes : IsNumber w64 (2 ^ 64)
eight_bytes = record {
  len = λ n. refl;
  back = λ bytes len fits. be_bytes_8 bytes _ len fits refl;
  again = λ n lt. from_be_bytes-to_be_bytes_8 n lt;
  below = λ bytes fits. omega (arith, fits 0, fits 1, fits 2, fits 3, fits 4, fits 5, fits 6, fits 7);
}

IsBytes-front : (a b : List ℕ) → IsBytes (a ++ b) → IsBytes a
IsBytes-front [] b fits i = lit< tt
IsBytes-front (x ∷ a) b fits zero = fits zero
IsBytes-front (x ∷ a) b fits (suc i) = IsBytes-front a b (λ j. fits (suc j)) i

pub number_exact : (w : Width) (limit : ℕ) → IsNumber w limit → IsExact (to_be_bytes w) (λ n. ltb n limit) (number_at w)
unfolding number_at
number_exact w limit wide = record {
  takes = λ bytes x fits e.
      let a = then_some (bytes_at (byte_len w) bytes) (λ n. Some (from_be_bytes w n.0, n.1)) x e in
      let t = bytes_take (byte_len w) bytes a.0 a.1 in
      let front : IsBytes a.0.0 = IsBytes-front a.0.0 a.0.1 (subst IsBytes t.0 fits) in
      subst (Takes (to_be_bytes w) (λ n. ltb n limit) bytes) (same_given (from_be_bytes w a.0.0, a.0.1) x a.2)
      (record { spelled = t.0 ∙ ap (λ (l : List ℕ). l ++ a.0.1) (sym (wide.back a.0.0 t.1 front)); fit = lt-ltb _ _ (wide.below a.0.0 front) });
  again = λ n rest e.
      let long : bytes_at (byte_len w) (to_be_bytes w n ++ rest) ≡ Some (to_be_bytes w n, rest) = subst (λ (k : ℕ). bytes_at k (to_be_bytes w n ++ rest) ≡ Some (to_be_bytes w n, rest)) (wide.len n) (bytes_again (to_be_bytes w n) rest) in
      ap (λ (o : Option (List ℕ × List ℕ)). o >>= λ n. Some (from_be_bytes w n.0, n.1)) long ∙ ap (λ (k : ℕ). Some (k, rest)) (wide.again n (ltb-true n limit e));
}

pub byte_takes : (bytes : List ℕ) (x : ℕ × List ℕ) → byte_at bytes ≡ Some x → bytes ≡ x.0 ∷ x.1
unfolding byte_at
byte_takes [] x e = absurd cc
byte_takes (b ∷ bytes) x e = subst (λ (y : ℕ × List ℕ). b ∷ bytes ≡ y.0 ∷ y.1) (same_given (b, bytes) x e) refl

pub byte_exact : IsExact (λ b. b ∷ []) (λ b. ltb b 256) byte_at
unfolding byte_at
byte_exact = record {
  takes = λ bytes x fits e. let t = byte_takes bytes x e in record { spelled = t; fit = lt-ltb _ _ (subst IsBytes t fits 0) };
  again = λ b rest e. refl;
}

-- ---- a count and so many fields

module _ {A : Type 0} {f : A → List ℕ} {p : A → Bool} {r : Reading A} (field : IsExact f p r) where
  pub counted_exact : (w : Width) (limit most : ℕ) → IsNumber w limit →
      IsExact (λ xs. to_be_bytes w (length xs) ++ flat_map f xs) (λ xs. ltb (length xs) limit && leb (length xs) most && list_all p xs) (counted_at w most r)
  unfolding counted_at
  counted_exact w limit most wide = record {
    takes = λ bytes x fits e.
        let a = then_some (number_at w bytes) (λ count. cond (leb count.0 most) (many_at r count.0 count.1) None) x e in
        let g = chosen_some (leb a.0.0 most) (many_at r a.0.0 a.0.1) x a.2 in
        let ta = number.takes bytes a.0 fits a.1 in
        let tb = many_takes field a.0.0 a.0.1 x (IsBytes-rest bytes (to_be_bytes w a.0.0) a.0.1 ta.spelled fits) g.1 in
        record {
          spelled = ta.spelled ∙ ap (λ (t : List ℕ). to_be_bytes w a.0.0 ++ t) tb.0.spelled ∙ sym (append_assoc (to_be_bytes w a.0.0) (flat_map f x.0) x.1)
              ∙ ap (λ (n : ℕ). (to_be_bytes w n ++ flat_map f x.0) ++ x.1) (sym tb.1);
          fit = and_from _ _ (and_from _ _ (ap (λ n. ltb n limit) tb.1 ∙ ta.fit) (ap (λ n. leb n most) tb.1 ∙ g.0)) tb.0.fit;
        };
    again = λ xs rest e.
        let parts = and_parts (ltb (length xs) limit && leb (length xs) most) (list_all p xs) e in
        let sizes = and_parts (ltb (length xs) limit) (leb (length xs) most) parts.0 in
        rw (append_assoc (to_be_bytes w (length xs)) (flat_map f xs) rest, number.again (length xs) (flat_map f xs ++ rest) sizes.0, sizes.1) (many_again field xs rest parts.1);
  }
    where
      number : IsExact (to_be_bytes w) (λ n. ltb n limit) (number_at w)
      number = number_exact w limit wide

      chosen_some : {X : Type 0} (b : Bool) (o : Option X) (x : X) → cond b o None ≡ Some x → (b ≡ true) × (o ≡ Some x)
      chosen_some true o x h = (refl, h)
      chosen_some false o x h = absurd cc

-- ---- a byte for the kind

-- what is read behind the byte of a row
abbrev pub RowTakes : {A : Type 0} → (A → List ℕ) → (A → Bool) → ℕ × Reading A → Type 0
RowTakes {A = A} field fits row = (bytes : List ℕ) (x : A × List ℕ) → IsBytes bytes → row.1 bytes ≡ Some x → Takes field fits (row.0 ∷ bytes) x

module _ {A : Type 0} (field : A → List ℕ) (fits : A → Bool) where
  kind_in_takes : (rows : List (ℕ × Reading A)) → AllByRecursion (RowTakes field fits) rows → (kind : ℕ) (bytes : List ℕ) (x : A × List ℕ) → IsBytes bytes →
      kind_in rows kind bytes ≡ Some x → Takes field fits (kind ∷ bytes) x
  kind_in_takes [] all kind bytes x fit e = absurd cc
  kind_in_takes (row ∷ rows) all kind bytes x fit e = by (kind_in_takes rows all.1 kind bytes x fit) (eqb kind row.0) refl e
    where
      by : (kind_in rows kind bytes ≡ Some x → Takes field fits (kind ∷ bytes) x) → (b : Bool) → eqb kind row.0 ≡ b → cond b (row.1 bytes) (kind_in rows kind bytes) ≡ Some x →
          Takes field fits (kind ∷ bytes) x
      by later true same h = subst (λ (k : ℕ). Takes field fits (k ∷ bytes) x) (sym (eqb-true kind row.0 same)) (all.0 bytes x fit h)
      by later false other h = later h

  pub kind_takes : (rows : List (ℕ × Reading A)) → AllByRecursion (RowTakes field fits) rows → (bytes : List ℕ) (x : A × List ℕ) → IsBytes bytes → kind_at rows bytes ≡ Some x → Takes field fits bytes x
  kind_takes rows all [] x fit e = absurd cc
  kind_takes rows all (kind ∷ bytes) x fit e = kind_in_takes rows all kind bytes x (IsBytes-behind (kind ∷ []) bytes fit) e

  -- the row of a kind that names what a field has
  pub row_takes : {B : Type 0} {f : B → List ℕ} {p : B → Bool} {r : Reading B} (kind : ℕ) (part : IsExact f p r) (name : B → A) →
      ((x : B) → p x ≡ true → field (name x) ≡ kind ∷ f x) → ((x : B) → p x ≡ true → fits (name x) ≡ true) → RowTakes field fits (kind, named_at name r)
  row_takes kind part name spelled fit bytes y is e = named_takes part name (λ bytes y. Takes field fits (kind ∷ bytes) y) bytes y is e
      (λ x t. record { spelled = ap (λ (l : List ℕ). kind ∷ l) t.spelled ∙ ap (λ (l : List ℕ). l ++ x.1) (sym (spelled x.0 t.fit)); fit = fit x.0 t.fit })
