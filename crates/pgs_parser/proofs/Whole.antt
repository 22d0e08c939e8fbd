-- What is of the grammar is read, before ends of some kind.
use Prim.Native.String.{String}
use Rattle.std.proofs.Common.{◌≡◌, ℕ, zero, suc, ◌+◌, ◌==◌, ◌<◌, ◌≤◌, Bool, true, false, cond, List, [], ◌∷◌, ◌++◌, length, flat_map, Option, Some, None, refl, sym, ap, ◌∙◌, subst, arith, codes, bytes_eq}
use Rattle.std.proofs.lemmas.Bool.{and_parts, or_parts}
use Rattle.std.proofs.lemmas.Slice.Eq.{bytes_eq-Decides}
use Rattle.pgs_base.specs.Options.{◌>>=◌}
use Rattle.pgs_lexer.specs.Token.{Lexeme}
use Rattle.pgs_lexer.specs.declared.kind.TokenKind.{TokenKind}
use Rattle.pgs_lexer.specs.declared.kind.TokenKind.TheVariants.{Name, Keyword, Number, Text, Sign}
use Rattle.pgs_parser.specs.Literal.{name, name_in}
use Rattle.pgs_parser.specs.Production.{Production, ◌▸◌, IsToken, IsSpelled, here, sign, keyword, keyword_if, maybe, each, listed}
use Rattle.pgs_parser.specs.Statements.{count_from}
use Rattle.pgs_parser.specs.Reader.{Reader, Test, a_name, the_keyword, the_sign, next, second, after, sign_at, keyword_at, name_at, keyword_if_at, maybe_at, comma_unless, more, numbered, listed_at, none_declared}
use Rattle.pgs_parser.proofs.Items.{IsBegin, Shortens, ahead, and_more, more-none, more-some}
use Rattle.std.specs.List.{list_any}
use Rattle.pgs_parser.proofs.Chains.{Sound, first_and, after_begin, comma_begin}
use Rattle.pgs_parser.proofs.NextToken.{word}

-- what is of the production is read, up to such ends
abbrev pub Complete : {A : Type 0} → (List Lexeme → Type 0) → Reader A → (A → Production) → Type 0
Complete {A} Ends reader item = (x : A) (before after : List Lexeme) → item x before after → Ends after → reader before ≡ Some (x, after)

abbrev pub Anything : List Lexeme → Type 0
Anything tokens = Unit {0}

-- ---- one token

same_bytes : (bytes text : List ℕ) → bytes ≡ text → bytes_eq bytes text ≡ true
same_bytes bytes text e = (bytes_eq-Decides bytes text).1 e

pub the_sign_is : (text : List ℕ) (kind : TokenKind) (bytes : List ℕ) → kind ≡ Sign → bytes ≡ text → the_sign text kind bytes ≡ true
the_sign_is text kind bytes k b = ap (λ kind. the_sign text kind bytes) k ∙ same_bytes bytes text b

pub the_keyword_is : (text : List ℕ) (kind : TokenKind) (bytes : List ℕ) → kind ≡ Keyword → bytes ≡ text → the_keyword text kind bytes ≡ true
the_keyword_is text kind bytes k b = ap (λ kind. the_keyword text kind bytes) k ∙ same_bytes bytes text b

pub sign_read : (text : String) {before rest : List Lexeme} → sign text before rest → sign_at text before ≡ Some rest
sign_read text (here {token = t} {rest = rest} asked) = ap (λ b. cond b (Some rest) None) (the_sign_is (codes text) t.kind t.bytes asked.0 asked.1)

pub keyword_read : (text : String) {before rest : List Lexeme} → keyword text before rest → keyword_at text before ≡ Some rest
keyword_read text (here {token = t} {rest = rest} asked) = ap (λ b. cond b (Some rest) None) (the_keyword_is (codes text) t.kind t.bytes asked.0 asked.1)

pub name_read : {wanted : List ℕ} {before rest : List Lexeme} → name wanted before rest → name_at before ≡ Some (wanted, rest)
name_read (here {token = t} {rest = rest} asked) =
    ap (λ kind. cond (a_name kind t.bytes) (Some (name_in t.bytes, rest)) None) asked.0 ∙ ap (λ n. Some (n, rest)) asked.1

pub not_passed : (test : Test) (tokens : List Lexeme) → next test tokens ≡ false → after test tokens ≡ None
not_passed test [] e = refl
not_passed test (t ∷ ts) e = ap (λ b. cond b (Some ts) None) e

-- a keyword that may be left out
pub keyword_if_read : (text : String) (there : Bool) (before rest : List Lexeme) → keyword_if there text before rest →
    next (the_keyword (codes text)) rest ≡ false → keyword_if_at (codes text) before ≡ Some (there, rest)
unfolding keyword_if_at
keyword_if_read text true before rest h e = rw (keyword_read text h, keyword_if_at) refl
keyword_if_read text false before rest h e =
    let none : keyword_at text before ≡ None = not_passed (the_keyword (codes text)) before (ap (next (the_keyword (codes text))) h ∙ e) in
    rw (none, keyword_if_at) (ap (λ (tokens : List Lexeme). Some (false, tokens)) h)

-- an item that may be left out, where nothing that ends it begins one
pub maybe_read : {A : Type 0} {Ends : List Lexeme → Type 0} (begin : List Lexeme → Option (List Lexeme)) (reader : Reader A) (item : A → Production) →
    ((x : A) (before after : List Lexeme) → item x before after → Ends after →
    (rest : List Lexeme) × (begin before ≡ Some rest) × (reader rest ≡ Some (x, after))) →
    ((tokens : List Lexeme) → Ends tokens → begin tokens ≡ None) → Complete Ends (maybe_at begin reader) (maybe item)
unfolding maybe_at
maybe_read begin reader item goes stops None before after h f =
    let none : begin before ≡ None = ap begin h ∙ stops after f in
    rw (none, maybe_at) (ap (λ (tokens : List Lexeme). Some (None, tokens)) h)
maybe_read begin reader item goes stops (Some x) before after h f = let g = goes x before after h f in rw (g.1, maybe_at, g.2) refl

-- ---- lists

pub count_parts : (n : ℕ) (xs ys : List ℕ) → count_from n (xs ++ ys) ≡ true → (count_from n xs ≡ true) × (count_from (n + length xs) ys ≡ true)
count_parts n [] ys h = (refl, subst (λ m. count_from m ys ≡ true) (omega arith) h)
count_parts n (x ∷ xs) ys h =
    let p = and_parts (x == n) (count_from (n + 1) (xs ++ ys)) h in
    let q = count_parts (n + 1) xs ys p.1 in
    (rw (p.0, q.0) refl, subst (λ m. count_from m ys ≡ true) (omega arith) q.1)

-- what a further item needs to be read
abbrev pub GoesOn : {A : Type 0} → (List Lexeme → Option (List Lexeme)) → (ℕ → Reader A) → (A → List ℕ) → (List Lexeme → Type 0) → (A → Production) → Type 0
GoesOn {A} begin reader places Inner item = (x : A) (place : ℕ) (before after : List Lexeme) → item x before after → Inner after →
    count_from place (places x) ≡ true → (rest : List Lexeme) × (begin before ≡ Some rest) × (reader place rest ≡ Some (x, after))

module _ {A : Type 0} (begin : List Lexeme → Option (List Lexeme)) (reader : ℕ → Reader A) (places : A → List ℕ) (item : A → Production)
    {Inner Ends : List Lexeme → Type 0} (b : IsBegin begin) (short : Shortens reader) (goes : GoesOn begin reader places Inner item)
    (begins : (x : A) (before after : List Lexeme) → item x before after → Inner before)
    (ends : (tokens : List Lexeme) → Ends tokens → Inner tokens) (stops : (tokens : List Lexeme) → Ends tokens → begin tokens ≡ None) where
  pub each_inner : (xs : List A) (before after : List Lexeme) → each item xs before after → Ends after → Inner before
  each_inner [] before after h f = subst Inner (sym h) (ends after f)
  each_inner (x ∷ xs) before after h f = begins x before h.0 h.1

  pub more_read : (xs : List A) (n place : ℕ) (before after : List Lexeme) → each item xs before after → Ends after → length before ≤ n →
      count_from place (flat_map places xs) ≡ true → more begin reader places n place before ≡ Some (xs, after)
  more_read [] n place before after h f l e =
      more-none begin reader places n place before (ap begin h ∙ stops after f) ∙ ap (λ (tokens : List Lexeme). Some ([], tokens)) h
  more_read (x ∷ xs) n place before after (m, h, r) f l e =
      let p = count_parts place (places x) (flat_map places xs) e in
      let g = goes x place before m h (each_inner xs m after r f) p.0 in
      let k = b.kept before g.0 g.1 in
      let s = short place g.0 (x, m) g.2 in
      one_more n l (omega arith) g.0 g.1 g.2 (λ n l. more_read xs n (place + length (places x)) m after r f l p.1)
    where
      one_more : (n : ℕ) → length before ≤ n → length m < length before → (rest : List Lexeme) → begin before ≡ Some rest → reader place rest ≡ Some (x, m) →
          ((n : ℕ) → length m ≤ n → more begin reader places n (place + length (places x)) m ≡ Some (xs, after)) →
          more begin reader places n place before ≡ Some (x ∷ xs, after)
      one_more zero l less rest e q others = absurd (omega arith)
      one_more (suc n) l less rest e q others =
          more-some begin reader places n place before rest e ∙ ap (λ o. o >>= and_more begin reader places n place) q
          ∙ ap (ahead (x ∷ [])) (others n (omega arith))

  pub numbered_read : (first_item : A → Production) →
      ((x : A) (place : ℕ) (before after : List Lexeme) → first_item x before after → Inner after → count_from place (places x) ≡ true → reader place before ≡ Some (x, after)) →
      (xs : List A) (place : ℕ) (before after : List Lexeme) → first_and first_item item xs before after → Ends after → count_from place (flat_map places xs) ≡ true →
      numbered begin reader places place before ≡ Some (xs, after)
  unfolding numbered
  numbered_read first_item first [] place before after h f e = absurd h
  numbered_read first_item first (x ∷ xs) place before after (m, h, r) f e =
      let p = count_parts place (places x) (flat_map places xs) e in
      let q = first x place before m h (each_inner xs m after r f) p.0 in
      ap (λ o. o >>= λ first. more begin reader places (length first.1) (place + length (places first.0)) first.1 >>= λ others. Some (first.0 ∷ others.0, others.1)) q
      ∙ ap (ahead (x ∷ [])) (more_read xs (length m) (place + length (places x)) m after r f (omega arith) p.1)

-- ---- lists of items that declare nothing

pub no_numbers : {A : Type 0} (xs : List A) → count_from 0 (flat_map (none_declared {A = A}) xs) ≡ true
no_numbers [] = refl
no_numbers (x ∷ xs) = no_numbers xs

as_first : {A : Type 0} (separator : Production) (item : A → Production) (xs : List A) (before after : List Lexeme) →
    listed separator item xs before after → first_and item (λ y. separator ▸ item y) xs before after
as_first separator item [] before after h = absurd h
as_first separator item (x ∷ xs) before after h = h

-- items with a separator between them
pub listed_read : {A : Type 0} {Inner Ends : List Lexeme → Type 0} (begin : List Lexeme → Option (List Lexeme)) (separator : Production) →
    IsBegin begin → (reader : Reader A) (item : A → Production) → ((tokens : List Lexeme) (x : A × List Lexeme) → reader tokens ≡ Some x → length x.1 < length tokens) →
    Complete Inner reader item →
    ((x : A) (before between after : List Lexeme) → separator before between → item x between after → (begin before ≡ Some between) × Inner before) →
    ((tokens : List Lexeme) → Ends tokens → Inner tokens) → ((tokens : List Lexeme) → Ends tokens → begin tokens ≡ None) →
    Complete Ends (listed_at begin reader) (listed separator item)
listed_read begin separator b reader item short whole goes ends stops xs before after h f =
    numbered_read begin (λ place. reader) none_declared (λ y. separator ▸ item y) b (λ place tokens x e. short tokens x e)
    (λ x place before after k i e. (k.0, (goes x before k.0 after k.1 k.2).0, whole x k.0 after k.2 i))
    (λ x before after k. (goes x before k.0 after k.1 k.2).1) ends stops item (λ x place before after k i e. whole x before after k i)
    xs 0 before after (as_first separator item xs before after h) f (no_numbers xs)

-- the same where declarations are numbered
pub numbered_listed_read : {A : Type 0} {Inner Ends : List Lexeme → Type 0} (begin : List Lexeme → Option (List Lexeme)) (separator : Production) →
    IsBegin begin → (reader : ℕ → Reader A) (places : A → List ℕ) (item : A → Production) → Shortens reader →
    ((x : A) (place : ℕ) (before after : List Lexeme) → item x before after → Inner after → count_from place (places x) ≡ true → reader place before ≡ Some (x, after)) →
    ((x : A) (before between after : List Lexeme) → separator before between → item x between after → (begin before ≡ Some between) × Inner before) →
    ((tokens : List Lexeme) → Ends tokens → Inner tokens) → ((tokens : List Lexeme) → Ends tokens → begin tokens ≡ None) →
    (xs : List A) (place : ℕ) (before after : List Lexeme) → listed separator item xs before after → Ends after → count_from place (flat_map places xs) ≡ true →
    numbered begin reader places place before ≡ Some (xs, after)
numbered_listed_read begin separator b reader places item short whole goes ends stops xs place before after h f e =
    numbered_read begin reader places (λ y. separator ▸ item y) b short
    (λ x place before after k i e. (k.0, (goes x before k.0 after k.1 k.2).0, whole x place k.0 after k.2 i e))
    (λ x before after k. (goes x before k.0 after k.1 k.2).1) ends stops item whole
    xs place before after (as_first separator item xs before after h) f e

-- the same test at a token's kind and bytes as `IsToken` has them
pub next_is : (test : Test) (kind : TokenKind) (text : String) {before rest : List Lexeme} → IsToken (IsSpelled kind text) before rest →
    next test before ≡ test kind (codes text)
next_is test kind text (here {token = t} asked) = ap (λ kind. test kind t.bytes) asked.0 ∙ ap (test kind) asked.1

-- the token after a separator
pub second_is : (test : Test) (value : Bool) {Asked : Lexeme → Type 0} {before between : List Lexeme} → IsToken Asked before between → next test between ≡ value →
    second test before ≡ value
second_is test value (here asked) e = e

pub comma_read : (text : String) {before between : List Lexeme} → sign "," before between → next (the_keyword (codes text)) between ≡ false →
    comma_unless (codes text) before ≡ Some between
comma_read text {before = before} h e = ap (λ b. cond b None (sign_at "," before)) (second_is (the_keyword (codes text)) false h e) ∙ sign_read "," h

-- items with a sign between them
pub signs_read : {A : Type 0} {Inner Ends : List Lexeme → Type 0} (text : String) (reader : Reader A) (item : A → Production) → Sound reader item →
    Complete Inner reader item → ((before between : List Lexeme) → sign text before between → Inner before) →
    ((tokens : List Lexeme) → Ends tokens → Inner tokens) → ((tokens : List Lexeme) → Ends tokens → sign_at text tokens ≡ None) →
    Complete Ends (listed_at (sign_at text) reader) (listed (sign text) item)
signs_read text reader item sound whole inner ends stops =
    listed_read (sign_at text) (sign text) (after_begin (the_sign (codes text))) reader item (λ tokens x e. (sound tokens x e).1) whole
    (λ x before between after h k. (sign_read text h, inner before between h)) ends stops

-- items with commas between them, none of which begins with the keyword
pub commas_read : {A : Type 0} {Inner Ends : List Lexeme → Type 0} (text : String) (reader : Reader A) (item : A → Production) → Sound reader item →
    Complete Inner reader item → ((x : A) (before after : List Lexeme) → item x before after → next (the_keyword (codes text)) before ≡ false) →
    ((before between : List Lexeme) → sign "," before between → Inner before) →
    ((tokens : List Lexeme) → Ends tokens → Inner tokens) → ((tokens : List Lexeme) → Ends tokens → comma_unless (codes text) tokens ≡ None) →
    Complete Ends (listed_at (comma_unless (codes text)) reader) (listed (sign ",") item)
commas_read text reader item sound whole apart inner ends stops =
    listed_read (comma_unless (codes text)) (sign ",") (comma_begin (codes text)) reader item (λ tokens x e. (sound tokens x e).1) whole
    (λ x before between after h k. (comma_read text h (apart x between after k), inner before between h)) ends stops

-- ---- what does not follow

pub word_sign : (text : String) (texts : List String) (kind : TokenKind) (bytes : List ℕ) → word (text ∷ texts) kind bytes ≡ false →
    the_sign (codes text) kind bytes ≡ false
word_sign text texts Sign bytes e = (or_parts (bytes_eq bytes (codes text)) (list_any (λ t. bytes_eq bytes (codes t)) texts) e).0
word_sign text texts Keyword bytes e = refl
word_sign text texts Name bytes e = refl
word_sign text texts Number bytes e = refl
word_sign text texts Text bytes e = refl

pub word_keyword : (text : String) (texts : List String) (kind : TokenKind) (bytes : List ℕ) → word (text ∷ texts) kind bytes ≡ false →
    the_keyword (codes text) kind bytes ≡ false
word_keyword text texts Keyword bytes e = (or_parts (bytes_eq bytes (codes text)) (list_any (λ t. bytes_eq bytes (codes t)) texts) e).0
word_keyword text texts Sign bytes e = refl
word_keyword text texts Name bytes e = refl
word_keyword text texts Number bytes e = refl
word_keyword text texts Text bytes e = refl

pub no_sign_next : (text : String) (texts : List String) (tokens : List Lexeme) → next (word (text ∷ texts)) tokens ≡ false →
    sign_at text tokens ≡ None
no_sign_next text texts [] e = refl
no_sign_next text texts (t ∷ ts) e = not_passed (the_sign (codes text)) (t ∷ ts) (word_sign text texts t.kind t.bytes e)

pub no_keyword_next : (text : String) (texts : List String) (tokens : List Lexeme) → next (word (text ∷ texts)) tokens ≡ false →
    next (the_keyword (codes text)) tokens ≡ false
no_keyword_next text texts [] e = refl
no_keyword_next text texts (t ∷ ts) e = word_keyword text texts t.kind t.bytes e

-- a keyword is no other keyword
pub other : (text word : String) {before rest : List Lexeme} → keyword word before rest → bytes_eq (codes word) (codes text) ≡ false →
    keyword_at text before ≡ None
other text word {before = before} h e = not_passed (the_keyword (codes text)) before (next_is (the_keyword (codes text)) Keyword word h ∙ e)

-- where a comma goes on with nothing: the keyword follows it, or there is no comma
pub comma_then : (text : String) {before between : List Lexeme} → sign "," before between → next (the_keyword (codes text)) between ≡ true →
    comma_unless (codes text) before ≡ None
comma_then text {before = before} h e = ap (λ b. cond b None (sign_at "," before)) (second_is (the_keyword (codes text)) true h e)

pub comma_not_next : (text : String) (tokens : List Lexeme) → next (the_sign (codes ",")) tokens ≡ false → comma_unless (codes text) tokens ≡ None
comma_not_next text tokens e = either (second (the_keyword (codes text)) tokens)
  where
    either : (b : Bool) → cond b None (sign_at "," tokens) ≡ None
    either true = refl
    either false = not_passed (the_sign (codes ",")) tokens e
