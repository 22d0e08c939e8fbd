-- What a chain of readers read, step by step.
use Prim.Native.String.{String}
use Rattle.std.proofs.Common.{◌≡◌, ℕ, zero, suc, ◌+◌, ◌==◌, ◌<◌, ◌≤◌, Bool, true, false, cond, List, [], ◌∷◌, ◌++◌, length, flat_map, Option, Some, None, ◌⊎◌, inl, inr, refl, ap, subst, arith, codes, length-append}
use Rattle.std.proofs.lemmas.Option.{cond_some, same_Some}
use Rattle.std.proofs.lemmas.Bool.{and_parts, and_from}
use Rattle.std.proofs.lemmas.Slice.Eq.{bytes_eq-Decides}
use Rattle.pgs_base.specs.Options.{◌>>=◌}
use Rattle.pgs_lexer.specs.Token.{Lexeme}
use Rattle.pgs_lexer.specs.declared.kind.TokenKind.{TokenKind}
use Rattle.pgs_lexer.specs.declared.kind.TokenKind.TheVariants.{Name, Keyword, Number, Text, Sign}
use Rattle.pgs_parser.specs.Literal.{name}
use Rattle.pgs_parser.specs.Production.{Production, ◌▸◌, here, sign, keyword, keyword_if, maybe, each, listed}
use Rattle.pgs_parser.specs.Statements.{count_from}
use Rattle.pgs_parser.specs.Reader.{Reader, Test, a_name, the_keyword, the_sign, second, after, sign_at, keyword_at, name_at, keyword_if_at, maybe_at, comma_unless, more, numbered, listed_at, none_declared}
use Rattle.pgs_parser.proofs.Items.{IsBegin}

-- what there was before what a function made of it
pub bind_some : {A B : Type 0} (o : Option A) (f : A → Option B) (y : B) → (o >>= f) ≡ Some y → (x : A) × (o ≡ Some x) × (f x ≡ Some y)
bind_some None f y e = cc
bind_some (Some x) f y e = (x, refl, e)

-- which of two ways was taken
pub either_way : {A B : Type 0} (o : Option A) (f : A → Option B) (g : Option B) (y : B) → (elim o [ Some x ↦ f x | None ↦ g ]) ≡ Some y →
    ((x : A) × (o ≡ Some x) × (f x ≡ Some y)) ⊎ ((o ≡ None) × (g ≡ Some y))
either_way None f g y e = inr (refl, e)
either_way (Some x) f g y e = inl (x, refl, e)

pub chosen_way : {A : Type 0} (b : Bool) (x y z : A) → cond b x y ≡ z → ((b ≡ true) × (x ≡ z)) ⊎ ((b ≡ false) × (y ≡ z))
chosen_way true x y z e = inl (refl, e)
chosen_way false x y z e = inr (refl, e)

-- what is so of what was read
pub holds : {A : Type 0} (P : A → Type 0) {x y : A} → Some x ≡ Some y → P x → P y
holds P {x = x} {y = y} e p = subst P (same_Some x y e) p

-- a production was read, by one token or more; by any number of tokens
abbrev pub Took : {A : Type 0} → (A → Production) → List Lexeme → A × List Lexeme → Type 0
Took item tokens x = item x.0 tokens x.1 × (length x.1 < length tokens)

abbrev pub TookAny : {A : Type 0} → (A → Production) → List Lexeme → A × List Lexeme → Type 0
TookAny item tokens x = item x.0 tokens x.1 × (length x.1 ≤ length tokens)

-- a reader reads what is of the production
abbrev pub Sound : {A : Type 0} → Reader A → (A → Production) → Type 0
Sound {A} reader item = (tokens : List Lexeme) (x : A × List Lexeme) → reader tokens ≡ Some x → Took item tokens x

abbrev pub SoundAny : {A : Type 0} → Reader A → (A → Production) → Type 0
SoundAny {A} reader item = (tokens : List Lexeme) (x : A × List Lexeme) → reader tokens ≡ Some x → TookAny item tokens x

-- ---- one token

pub sign_spelled : (text : List ℕ) (kind : TokenKind) (bytes : List ℕ) → the_sign text kind bytes ≡ true → (kind ≡ Sign) × (bytes ≡ text)
sign_spelled text Sign bytes e = (refl, (bytes_eq-Decides bytes text).0 e)
sign_spelled text Name bytes e = cc
sign_spelled text Keyword bytes e = cc
sign_spelled text Number bytes e = cc
sign_spelled text Text bytes e = cc

pub keyword_spelled : (text : List ℕ) (kind : TokenKind) (bytes : List ℕ) → the_keyword text kind bytes ≡ true → (kind ≡ Keyword) × (bytes ≡ text)
keyword_spelled text Keyword bytes e = (refl, (bytes_eq-Decides bytes text).0 e)
keyword_spelled text Name bytes e = cc
keyword_spelled text Sign bytes e = cc
keyword_spelled text Number bytes e = cc
keyword_spelled text Text bytes e = cc

pub name_spelled : (kind : TokenKind) (bytes : List ℕ) → a_name kind bytes ≡ true → kind ≡ Name
name_spelled Name bytes e = refl
name_spelled Keyword bytes e = cc
name_spelled Sign bytes e = cc
name_spelled Number bytes e = cc
name_spelled Text bytes e = cc

pub sign_sound : (text : String) (tokens rest : List Lexeme) → sign_at text tokens ≡ Some rest →
    sign text tokens rest × (length rest < length tokens)
sign_sound text [] rest e = cc
sign_sound text (t ∷ ts) rest e =
    let p = cond_some (the_sign (codes text) t.kind t.bytes) ts rest e in
    (subst (sign text (t ∷ ts)) p.1 (here (sign_spelled (codes text) t.kind t.bytes p.0)), omega (arith, ap length p.1))

pub keyword_sound : (text : String) (tokens rest : List Lexeme) → keyword_at text tokens ≡ Some rest →
    keyword text tokens rest × (length rest < length tokens)
keyword_sound text [] rest e = cc
keyword_sound text (t ∷ ts) rest e =
    let p = cond_some (the_keyword (codes text) t.kind t.bytes) ts rest e in
    (subst (keyword text (t ∷ ts)) p.1 (here (keyword_spelled (codes text) t.kind t.bytes p.0)), omega (arith, ap length p.1))

pub name_sound : Sound name_at name
name_sound [] x e = cc
name_sound (t ∷ ts) x e =
    let p = cond_some (a_name t.kind t.bytes) _ x e in
    subst (Took name (t ∷ ts)) p.1 (here (name_spelled t.kind t.bytes p.0, refl), omega arith)

pub keyword_if_sound : (text : String) → SoundAny (keyword_if_at (codes text)) (λ there. keyword_if there text)
unfolding keyword_if_at
keyword_if_sound text tokens x e =
    let P = TookAny (λ there. keyword_if there text) tokens in
    elim (either_way (keyword_at text tokens) _ _ x e) [
      | inl w ↦ let k = keyword_sound text tokens w.0 w.1 in holds P w.2 (k.0, omega arith)
      | inr w ↦ holds P w.1 (refl, omega arith)
    ]

-- an item after what begins it
pub maybe_sound : {A : Type 0} (begin : List Lexeme → Option (List Lexeme)) (reader : Reader A) (item : A → Production) →
    ((tokens rest : List Lexeme) → begin tokens ≡ Some rest → (x : A × List Lexeme) → reader rest ≡ Some x → Took item tokens x) →
    SoundAny (maybe_at begin reader) (maybe item)
unfolding maybe_at
maybe_sound begin reader item s tokens x e =
    let P = TookAny (maybe item) tokens in
    elim (either_way (begin tokens) _ _ x e) [
      | inl w ↦
          let found = bind_some (reader w.0) _ x w.2 in
          let k = s tokens w.0 w.1 found.0 found.1 in
          holds P found.2 (k.0, omega arith)
      | inr w ↦ holds P w.1 (refl, omega arith)
    ]

-- ---- what says that a further item begins

pub after_begin : (test : Test) → IsBegin (after test)
after_begin test = record { none = refl; kept = shorter }
  where
    shorter : (tokens rest : List Lexeme) → after test tokens ≡ Some rest → length rest ≤ length tokens
    shorter [] rest e = cc
    shorter (t ∷ ts) rest e = let p = cond_some (test t.kind t.bytes) ts rest e in omega (arith, ap length p.1)

pub comma_sound : (text : List ℕ) (tokens rest : List Lexeme) → comma_unless text tokens ≡ Some rest →
    sign_at "," tokens ≡ Some rest
comma_sound text tokens rest e = elim (chosen_way (second (the_keyword text) tokens) None (sign_at "," tokens) (Some rest) e) [ inl w ↦ cc | inr w ↦ w.1 ]

pub comma_begin : (text : List ℕ) → IsBegin (comma_unless text)
comma_begin text = record {
  none = refl;
  kept = λ tokens rest e. (after_begin (the_sign (codes ","))).kept tokens rest (comma_sound text tokens rest e);
}

-- ---- lists

-- what a further item is, from its begin on
abbrev pub SoundFurther : {A : Type 0} → (List Lexeme → Option (List Lexeme)) → (ℕ → Reader A) → (A → List ℕ) → (A → Production) → Type 0
SoundFurther {A} begin reader places item = (place : ℕ) (tokens rest : List Lexeme) (x : A × List Lexeme) → begin tokens ≡ Some rest →
    reader place rest ≡ Some x → Took item tokens x × (count_from place (places x.0) ≡ true)

pub count_append : (n : ℕ) (xs ys : List ℕ) → count_from n xs ≡ true → count_from (n + length xs) ys ≡ true → count_from n (xs ++ ys) ≡ true
count_append n [] ys h k = subst (λ m. count_from m ys ≡ true) (omega arith) k
count_append n (x ∷ xs) ys h k =
    let p = and_parts (x == n) (count_from (n + 1) xs) h in
    and_from (x == n) (count_from (n + 1) (xs ++ ys)) p.0 (count_append (n + 1) xs ys p.1 (subst (λ m. count_from m ys ≡ true) (omega arith) k))

-- an item, and further ones
abbrev pub first_and : {A : Type 0} → (A → Production) → (A → Production) → List A → Production
first_and first_item item [] before after = ⊥
first_and first_item item (x ∷ xs) before after = (first_item x ▸ each item xs) before after

module _ {A : Type 0} (begin : List Lexeme → Option (List Lexeme)) (reader : ℕ → Reader A) (places : A → List ℕ) (item : A → Production)
    (s : SoundFurther begin reader places item) where
  -- the numbers of declarations go up by one, and there is a token for each
  pub record TookMany (place : ℕ) (tokens : List Lexeme) (x : List A × List Lexeme) : Type 0 where
    pub items : each item x.0 tokens x.1
    pub left : length x.1 ≤ length tokens
    pub numbers : count_from place (flat_map places x.0) ≡ true
    pub enough : ((y : A) → length (places y) ≤ 1) → length (flat_map places x.0) + length x.1 ≤ length tokens

  pub more_sound : (n place : ℕ) (tokens : List Lexeme) (x : List A × List Lexeme) → more begin reader places n place tokens ≡ Some x → TookMany place tokens x
  unfolding more
  more_sound zero place tokens x e = holds (TookMany place tokens) e (record { items = refl; left = omega arith; numbers = refl; enough = λ few. omega arith })
  more_sound (suc n) place tokens x e =
      elim (either_way (begin tokens) _ _ x e) [
        | inl w ↦
            let first = bind_some (reader place w.0) _ x w.2 in
            let others = bind_some (more begin reader places n (place + length (places first.0.0)) first.0.1) _ x first.2 in
            let k = s place tokens w.0 first.0 w.1 first.1 in
            let m = more_sound n (place + length (places first.0.0)) first.0.1 others.0 others.1 in
            holds (TookMany place tokens) others.2 (record {
              items = (first.0.1, k.0.0, m.items);
              left = let a = k.0.1 in let b = m.left in omega arith;
              numbers = count_append place (places first.0.0) (flat_map places others.0.0) k.1 m.numbers;
              enough = λ few.
                  let a = k.0.1 in let b = m.enough few in let c = few first.0.0 in
                  omega (arith, length-append (places first.0.0) (flat_map places others.0.0));
            })
        | inr w ↦ holds (TookMany place tokens) w.1 (record { items = refl; left = omega arith; numbers = refl; enough = λ few. omega arith })
      ]

  pub numbered_sound : (first_item : A → Production) →
      ((place : ℕ) (tokens : List Lexeme) (x : A × List Lexeme) → reader place tokens ≡ Some x → Took first_item tokens x × (count_from place (places x.0) ≡ true)) →
      (place : ℕ) (tokens : List Lexeme) (x : List A × List Lexeme) → numbered begin reader places place tokens ≡ Some x →
      Took (λ xs. first_and first_item item xs) tokens x × (count_from place (flat_map places x.0) ≡ true)
      × (((y : A) → length (places y) ≤ 1) → length (flat_map places x.0) + length x.1 ≤ length tokens)
  unfolding numbered
  numbered_sound first_item f place tokens x e =
      let first = bind_some (reader place tokens) _ x e in
      let others = bind_some (more begin reader places (length first.0.1) (place + length (places first.0.0)) first.0.1) _ x first.2 in
      let k = f place tokens first.0 first.1 in
      let m = more_sound (length first.0.1) (place + length (places first.0.0)) first.0.1 others.0 others.1 in
      holds (λ (y : List A × List Lexeme). Took (λ xs. first_and first_item item xs) tokens y × (count_from place (flat_map places y.0) ≡ true)
      × (((z : A) → length (places z) ≤ 1) → length (flat_map places y.0) + length y.1 ≤ length tokens)) others.2 (
        ((first.0.1, k.0.0, m.items), let a = k.0.1 in let b = m.left in omega arith),
        count_append place (places first.0.0) (flat_map places others.0.0) k.1 m.numbers,
        λ few.
            let a = k.0.1 in let b = m.enough few in let c = few first.0.0 in
            omega (arith, length-append (places first.0.0) (flat_map places others.0.0)),
      )

as_listed : {A : Type 0} (separator : Production) (item : A → Production) (xs : List A) (before after : List Lexeme) →
    first_and item (λ y. separator ▸ item y) xs before after → listed separator item xs before after
as_listed separator item [] before after h = absurd h
as_listed separator item (x ∷ xs) before after h = h

-- items with a separator between them
pub numbered_listed : {A : Type 0} (begin : List Lexeme → Option (List Lexeme)) (separator : Production) →
    ((tokens rest : List Lexeme) → begin tokens ≡ Some rest → separator tokens rest × (length rest ≤ length tokens)) →
    (reader : ℕ → Reader A) (places : A → List ℕ) (item : A → Production) →
    ((place : ℕ) (tokens : List Lexeme) (x : A × List Lexeme) → reader place tokens ≡ Some x → Took item tokens x × (count_from place (places x.0) ≡ true)) →
    (place : ℕ) (tokens : List Lexeme) (x : List A × List Lexeme) → numbered begin reader places place tokens ≡ Some x →
    Took (listed separator item) tokens x × (count_from place (flat_map places x.0) ≡ true)
    × (((y : A) → length (places y) ≤ 1) → length (flat_map places x.0) + length x.1 ≤ length tokens)
numbered_listed begin separator b reader places item s place tokens x e =
    let k = numbered_sound begin reader places (λ y. separator ▸ item y)
    (λ place tokens rest x h g. let p = b tokens rest h in let q = s place rest x g in (((rest, p.0, q.0.0), let l = p.1 in let m = q.0.1 in omega arith), q.1))
    item s place tokens x e in
    ((as_listed separator item x.0 tokens x.1 k.0.0, k.0.1), k.1, k.2)

-- the same for items that declare nothing
pub listed_by : {A : Type 0} (begin : List Lexeme → Option (List Lexeme)) (separator : Production) →
    ((tokens rest : List Lexeme) → begin tokens ≡ Some rest → separator tokens rest × (length rest ≤ length tokens)) →
    (reader : Reader A) (item : A → Production) → Sound reader item → Sound (listed_at begin reader) (listed separator item)
listed_by begin separator b reader item s tokens x e =
    (numbered_listed begin separator b (λ place. reader) none_declared item (λ place tokens x e. (s tokens x e, refl)) 0 tokens x e).0

pub sign_before : (text : String) (tokens rest : List Lexeme) → sign_at text tokens ≡ Some rest → sign text tokens rest × (length rest ≤ length tokens)
sign_before text tokens rest e = let k = sign_sound text tokens rest e in (k.0, omega arith)

pub comma_before : (text : List ℕ) (tokens rest : List Lexeme) → comma_unless text tokens ≡ Some rest → sign "," tokens rest × (length rest ≤ length tokens)
comma_before text tokens rest e = sign_before "," tokens rest (comma_sound text tokens rest e)

-- items with a sign between them
pub listed_sound : {A : Type 0} (text : String) (reader : Reader A) (item : A → Production) → Sound reader item →
    Sound (listed_at (sign_at text) reader) (listed (sign text) item)
listed_sound text reader item s = listed_by (sign_at text) (sign text) (sign_before text) reader item s

pub commas_sound : {A : Type 0} (text : List ℕ) (reader : Reader A) (item : A → Production) → Sound reader item →
    Sound (listed_at (comma_unless text) reader) (listed (sign ",") item)
commas_sound text reader item s = listed_by (comma_unless text) (sign ",") (comma_before text) reader item s
