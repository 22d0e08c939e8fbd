-- Keys of the grammar are read.
use Rattle.std.proofs.Common.{◌≡◌, ℕ, ℤ, pos, Bool, true, false, cond, List, [], ◌∷◌, length, ◌≤◌, Option, Some, None, inl, inr, refl, sym, ap, ◌∙◌, subst, codes, bytes_eq, arith}
use Rattle.std.proofs.lemmas.Bool.{le-leb}
use Rattle.std.specs.List.{list_all}
use Rattle.std.specs.Str.Parse.{signed_digits_value}
use Rattle.std.specs.Int.RustNames.{FitsSigned}
use mir.Syntax.{w64}
use Rattle.pgs_base.specs.Options.{◌>>=◌}
use Rattle.pgs_base.specs.declared.value.Value.{Value}
use Rattle.pgs_base.specs.declared.value.Value.TheVariants as values
use Rattle.pgs_lexer.specs.Token.{Lexeme}
use Rattle.pgs_lexer.specs.declared.kind.TokenKind.{TokenKind}
use Rattle.pgs_lexer.specs.declared.kind.TokenKind.TheVariants as tokens
use Rattle.pgs_syntax.specs.declared.key.Qualifiers.{Qualifiers}
use Rattle.pgs_syntax.specs.declared.raw.RawPlace.{RawPlace}
use Rattle.pgs_syntax.specs.declared.raw.RawPath.{RawPath}
use Rattle.pgs_syntax.specs.declared.raw.RawExpr.{RawExpr}
use Rattle.pgs_syntax.specs.declared.raw.RawKey.{RawKey}
use Rattle.pgs_parser.specs.Literal.{name, literal, text_in, IsDay}
use Rattle.pgs_parser.specs.Production.{◌▸◌, ◌or◌, nothing, IsToken, here, sign, keyword, maybe, listed}
use Rattle.pgs_parser.specs.Keys.{test, tests, names, place, node, arrow, step, path, paths, bound, bounds, qualifier, qualifiers, expr, key}
use Rattle.pgs_parser.specs.Reader.{Test, a_name, a_keyword, the_keyword, the_sign, next, sign_at, keyword_at, name_at, maybe_at, comma_unless, listed_at, none_declared}
use Rattle.pgs_parser.specs.KeyReaders.{text_value, number_value, keyword_value, value_of, value_at, day_of, day_at, literal_at, test_at, names_at, tests_at, name_if_at, place_at, node_at, edge_at, arrow_at, step_at, step_begins, path_at, paths_at, bound_at, bounds_at, qualifier_at, qualifier_begins, qualifier_list_at, qualifiers_at, expr_at, exprs_at, key_at}
use Rattle.pgs_parser.specs.declared.qualifier.Qualifier.{Qualifier}
use Rattle.pgs_parser.specs.declared.qualifier.Qualifier.TheVariants.{Exclusive, Mandatory, Singleton, Count}
use Rattle.pgs_parser.proofs.Digits.{within_range}
use Rattle.pgs_parser.proofs.NextToken.{Fails, Passes, word, tells, fewer, next_sign, next_keyword, next_name, next_word}
use Rattle.pgs_parser.proofs.Chains.{name_sound}
use Rattle.pgs_parser.proofs.SoundKeys.{test_sound, step_sound, step_begin, path_sound, qualifier_sound, qualifier_begin, expr_sound}
use Rattle.pgs_parser.proofs.Whole.{Complete, Anything, sign_read, keyword_read, name_read, maybe_read, not_passed, signs_read, commas_read, listed_read, more_read, no_sign_next, other, comma_then, comma_not_next, no_numbers}
use Rattle.pgs_parser.proofs.WholeTypes.{closers}

-- ---- literals

-- one token that is a value
token_read : (value : Value) (token : Lexeme) (kind : TokenKind) (rest : List Lexeme) → token.kind ≡ kind → value_of kind token.bytes ≡ Some value →
    value_at (token ∷ rest) ≡ Some (value, rest)
token_read value token kind rest k e = ap (λ kind. value_of kind token.bytes >>= λ value. Some (value, rest)) k ∙ ap (λ o. o >>= λ value. Some (value, rest)) e

no_date : (token : Lexeme) (kind : TokenKind) (rest : List Lexeme) → token.kind ≡ kind → the_keyword (codes "DATE") kind token.bytes ≡ false → keyword_at "DATE" (token ∷ rest) ≡ None
no_date token kind rest k e = ap (λ b. cond b (Some rest) None) (ap (λ kind. the_keyword (codes "DATE") kind token.bytes) k ∙ e)

text_read : (text bytes : List ℕ) → text_in bytes ≡ text → length text ≤ 65535 → value_of tokens.Text bytes ≡ Some (values.Text text)
text_read text bytes e l = ap text_value e ∙ ap (λ b. cond b (Some (values.Text text)) None) (le-leb _ _ l)

number_read : (number : ℤ) (bytes : List ℕ) → signed_digits_value 10 bytes ≡ number → FitsSigned w64 number → value_of tokens.Number bytes ≡ Some (values.Int number)
number_read number bytes e f = ap number_value e ∙ ap (λ b. cond b (Some (values.Int number)) None) (within_range number f)

literal_read : Complete Anything literal_at literal
unfolding literal_at
literal_read (values.Text text) _ after (here {token = t} asked) f =
    rw (no_date t tokens.Text after asked.0 refl, literal_at) (token_read (values.Text text) t tokens.Text after asked.0 (text_read text t.bytes asked.1 asked.2))
literal_read (values.Int number) _ after (here {token = t} asked) f =
    rw (no_date t tokens.Number after asked.0 refl, literal_at) (token_read (values.Int number) t tokens.Number after asked.0 (number_read number t.bytes asked.1 asked.2))
literal_read (values.Bool true) _ after (here {token = t} asked) f =
    rw (no_date t tokens.Keyword after asked.0 (ap (λ bytes. bytes_eq bytes (codes "DATE")) asked.1), literal_at)
    (token_read (values.Bool true) t tokens.Keyword after asked.0 (ap keyword_value asked.1))
literal_read (values.Bool false) _ after (here {token = t} asked) f =
    rw (no_date t tokens.Keyword after asked.0 (ap (λ bytes. bytes_eq bytes (codes "DATE")) asked.1), literal_at)
    (token_read (values.Bool false) t tokens.Keyword after asked.0 (ap keyword_value asked.1))
literal_read (values.Date day) before after (m, h, k) f = rw (keyword_read "DATE" h, literal_at) (day_read day m after k)
  where
    day_read : (day : ℕ × ℕ × ℕ) (before after : List Lexeme) → IsToken (IsDay day) before after → day_at before ≡ Some (values.Date day, after)
    day_read day _ after (here {token = t} asked) =
        ap (λ kind. day_of kind t.bytes >>= λ day. Some (values.Date day, after)) asked.0 ∙ ap (λ o. o >>= λ day. Some (values.Date day, after)) asked.1

-- ---- places

test_read : Complete Anything test_at test
unfolding test_at
test_read x before after (a, h, (b, i, j)) f = rw (name_read h, sign_read ":" i, literal_read x.1 b after j tt) refl

abbrev names_signs : Test
names_signs = word (":" ∷ "&" ∷ [])

some_names_read : Complete (Fails names_signs) (listed_at (sign_at "&") name_at) (listed (sign "&") name)
some_names_read = signs_read {Inner = Anything} "&" name_at name name_sound (λ x before after h f. name_read h) (λ before between h. tt) (λ tokens f. tt)
    (λ tokens f. no_sign_next "&" [] tokens (fewer ":" ("&" ∷ []) tokens f))

names_read : Complete (Fails names_signs) names_at names
unfolding names_at
names_read [] before after h f =
    let none : sign_at ":" before ≡ None = ap (sign_at ":") h ∙ no_sign_next ":" ("&" ∷ []) after f in
    rw (none, names_at) (ap (λ (tokens : List Lexeme). Some ([], tokens)) h)
names_read (n ∷ ns) before after (m, h, k) f = rw (sign_read ":" h, names_at) (some_names_read (n ∷ ns) m after k f)

some_tests_read : Complete (Passes (word ("}" ∷ []))) (listed_at (sign_at ",") test_at) (listed (sign ",") test)
some_tests_read = signs_read {Inner = Anything} "," test_at test test_sound test_read (λ before between h. tt) (λ tokens f. tt)
    (λ tokens f. not_passed (the_sign (codes ",")) tokens (next_word (the_sign (codes ",")) false ("}" ∷ []) tokens refl f))

tests_read : Complete (Fails (word ("{" ∷ []))) tests_at tests
unfolding tests_at
tests_read [] before after h f =
    let none : sign_at "{" before ≡ None = ap (sign_at "{") h ∙ no_sign_next "{" [] after f in
    rw (none, tests_at) (ap (λ (tokens : List Lexeme). Some ([], tokens)) h)
tests_read (t ∷ ts) before after (m, h, (n, k, l)) f =
    rw (sign_read "{" h, tests_at, some_tests_read (t ∷ ts) m n k (next_sign (word ("}" ∷ [])) "}" l), sign_read "}" l) refl

tests_begin : (check : Test) (value : Bool) → check tokens.Sign (codes "{") ≡ value → (xs : List (List ℕ × Value)) (before after : List Lexeme) →
    tests xs before after → next check after ≡ value → next check before ≡ value
tests_begin check value e [] before after h f = ap (next check) h ∙ f
tests_begin check value e (x ∷ xs) before after h f = next_sign check "{" h.1 ∙ e

names_begin : (check : Test) (value : Bool) → check tokens.Sign (codes ":") ≡ value → (xs : List (List ℕ)) (before after : List Lexeme) →
    names xs before after → next check after ≡ value → next check before ≡ value
names_begin check value e [] before after h f = ap (next check) h ∙ f
names_begin check value e (x ∷ xs) before after h f = next_sign check ":" h.1 ∙ e

name_if_read : Complete (Fails a_name) name_if_at (maybe name)
unfolding name_if_at
name_if_read None before after h f =
    let none : next a_name before ≡ false = ap (next a_name) h ∙ f in
    rw none (ap (λ (tokens : List Lexeme). Some (None, tokens)) h)
name_if_read (Some n) before after h f = rw (next_name a_name true (λ bytes. refl) h, name_read h) refl

place_read : Complete (Passes (word closers)) place_at place
unfolding place_at
place_read x before after (m, h, (n, k, l)) f =
    let closed = λ (check : Test) (e : list_all (tells check false) closers ≡ true). next_word check false closers after e f in
    let a = name_if_read x.var before m h (names_begin a_name false refl x.filter.names m n k (tests_begin a_name false refl x.filter.tests n after l (closed a_name refl))) in
    let b = names_read x.filter.names m n k (tests_begin names_signs false refl x.filter.tests n after l (closed names_signs refl)) in
    let c = tests_read x.filter.tests n after l (closed (word ("{" ∷ [])) refl) in
    rw (a, b, c) refl

node_read : Complete Anything node_at node
unfolding node_at
node_read x before after (a, h, (b, i, j)) f = rw (sign_read "(" h, place_read x a b i (next_sign (word closers) ")" j), sign_read ")" j) refl

-- ---- paths

edge_read : (x : RawPlace) (before m n after : List Lexeme) → sign "[" before m → place x m n → sign "]" n after → edge_at before ≡ Some (x, after)
unfolding edge_at
edge_read x before m n after h i j = rw (sign_read "[" h, place_read x m n i (next_sign (word closers) "]" j), sign_read "]" j) refl

arrow_read : (forward : Bool) (x : RawPlace) (before after : List Lexeme) → arrow forward x before after → arrow_at before ≡ Some ((forward, x), after)
unfolding arrow_at
arrow_read true x before after (a, h, (b, i, (c, j, (d, k, l)))) = rw (sign_read "-" h, arrow_at, edge_read x a b c d i j k, sign_read "->" l) refl
arrow_read false x before after (a, h, (b, i, (c, j, (d, k, l)))) =
    let none : sign_at "-" before ≡ None = not_passed (the_sign (codes "-")) before (next_sign (the_sign (codes "-")) "<-" h) in
    rw (none, arrow_at, sign_read "<-" h, edge_read x a b c d i j k, sign_read "-" l) refl

arrow_begins : (forward : Bool) (x : RawPlace) (before after : List Lexeme) → arrow forward x before after → step_begins before ≡ Some before
arrow_begins true x before after h = rw (next_sign (the_sign (codes "-")) "-" h.1) refl
arrow_begins false x before after h = rw (next_sign (the_sign (codes "-")) "<-" h.1, next_sign (the_sign (codes "<-")) "<-" h.1) refl

step_read : Complete Anything step_at step
unfolding step_at
step_read x before after (m, h, k) f = rw (arrow_read x.forward x.edge before m h, node_read x.node m after k tt) refl

-- where no step follows
abbrev NoStep : List Lexeme → Type 0
NoStep tokens = step_begins tokens ≡ None

path_read : Complete NoStep path_at path
unfolding path_at
path_read x before after (m, h, k) f =
    let steps = more_read step_begins (λ place. step_at) none_declared step {Inner = Anything} {Ends = NoStep} step_begin (λ place tokens x e. (step_sound tokens x e).1)
    (λ x place before after h i e. (before, arrow_begins x.forward x.edge before h.0 h.1, step_read x before after h tt))
    (λ x before after h. tt) (λ tokens f. tt) (λ tokens f. f) x.steps (length m) 0 m after k f (omega arith) (no_numbers x.steps) in
    rw (node_read x.start before m h tt, steps) refl

-- where no step and no further path follows
record PathsEnd (tokens : List Lexeme) : Type 0 where
  step : NoStep tokens
  comma : comma_unless (codes "FOR") tokens ≡ None

no_step : (tokens : List Lexeme) → next (the_sign (codes "-")) tokens ≡ false → next (the_sign (codes "<-")) tokens ≡ false → NoStep tokens
no_step tokens e f = rw (e, f) refl

paths_read : Complete PathsEnd paths_at paths
paths_read = commas_read {Inner = NoStep} "FOR" path_at path path_sound path_read (λ x before after h. next_sign (the_keyword (codes "FOR")) "(" h.1.1)
    (λ before between h. no_step before (next_sign (the_sign (codes "-")) "," h) (next_sign (the_sign (codes "<-")) "," h))
    (λ tokens f. f.step) (λ tokens f. f.comma)

-- ---- qualifiers

bound_read : (number : ℕ) (before after : List Lexeme) → bound number before after → number ≤ 1000000 → bound_at before ≡ Some (number, after)
unfolding bound_at
bound_read number _ after (here {token = t} asked) small =
    let value = token_read (values.Int (pos number)) t tokens.Number after asked.0 (number_read (pos number) t.bytes asked.1 asked.2) in
    let within = le-leb number 1000000 small in
    rw (value, within) refl

bounds_read : Complete Anything bounds_at bounds
unfolding bounds_at
bounds_read x before after (ordered, small, (a, h, (b, i, (c, j, k)))) f =
    let least = bound_read x.0 before a h (omega arith) in
    let most = bound_read x.1 b c j small in
    let within = le-leb x.0 x.1 ordered in
    rw (least, sign_read ".." i, most, keyword_read "OF" k, within) refl

qualifier_read : Complete Anything qualifier_at qualifier
unfolding qualifier_at
qualifier_read Exclusive before after h f = rw (keyword_read "EXCLUSIVE" h, qualifier_at) refl
qualifier_read Mandatory before after h f = rw (other "EXCLUSIVE" "MANDATORY" h refl, qualifier_at, keyword_read "MANDATORY" h) refl
qualifier_read Singleton before after h f = rw (other "EXCLUSIVE" "SINGLETON" h refl, qualifier_at, other "MANDATORY" "SINGLETON" h refl, keyword_read "SINGLETON" h) refl
qualifier_read (Count least most) before after (m, h, k) f =
    rw (
      other "EXCLUSIVE" "COUNT" h refl,
      qualifier_at,
      other "MANDATORY" "COUNT" h refl,
      other "SINGLETON" "COUNT" h refl,
      keyword_read "COUNT" h,
      bounds_read (least, most) m after k tt,
    ) refl

-- what a test tells of the four words, it tells of what begins a qualifier
qualifier_first : (check : Test) (value : Bool) → ((bytes : List ℕ) → check tokens.Keyword bytes ≡ value) → (x : Qualifier) (before after : List Lexeme) →
    qualifier x before after → next check before ≡ value
qualifier_first check value e Exclusive before after h = next_keyword check "EXCLUSIVE" h ∙ e (codes "EXCLUSIVE")
qualifier_first check value e Mandatory before after h = next_keyword check "MANDATORY" h ∙ e (codes "MANDATORY")
qualifier_first check value e Singleton before after h = next_keyword check "SINGLETON" h ∙ e (codes "SINGLETON")
qualifier_first check value e (Count least most) before after h = next_keyword check "COUNT" h.1 ∙ e (codes "COUNT")

qualifier_goes : (x : Qualifier) (before between after : List Lexeme) → (sign "," or nothing) before between → qualifier x between after →
    (qualifier_begins before ≡ Some between) × Unit {0}
qualifier_goes x before between after (inl h) k = (rw (sign_read "," h, qualifier_begins) refl, tt)
qualifier_goes x before between after (inr h) k =
    let first : next a_keyword before ≡ true = ap (next a_keyword) h ∙ qualifier_first a_keyword true (λ bytes. refl) x between after k in
    let none : sign_at "," before ≡ None =
    not_passed (the_sign (codes ",")) before (ap (next (the_sign (codes ","))) h ∙ qualifier_first (the_sign (codes ",")) false (λ bytes. refl) x between after k) in
    (rw (none, qualifier_begins, first) (ap Some h), tt)

name_apart : (kind : TokenKind) (bytes : List ℕ) → a_name kind bytes ≡ true → (the_sign (codes ",") kind bytes ≡ false) × (a_keyword kind bytes ≡ false)
name_apart tokens.Name bytes e = (refl, refl)
name_apart tokens.Keyword bytes e = cc
name_apart tokens.Sign bytes e = cc
name_apart tokens.Number bytes e = cc
name_apart tokens.Text bytes e = cc

name_stops : (tokens : List Lexeme) → Passes a_name tokens → qualifier_begins tokens ≡ None
name_stops [] f = cc
name_stops (t ∷ ts) f =
    let p = name_apart t.kind t.bytes f in
    let none : sign_at "," (t ∷ ts) ≡ None = not_passed (the_sign (codes ",")) (t ∷ ts) p.0 in
    rw (none, qualifier_begins, p.1) refl

written_read : Complete (Passes a_name) (listed_at qualifier_begins qualifier_at) (listed (sign "," or nothing) qualifier)
written_read = listed_read {Inner = Anything} qualifier_begins (sign "," or nothing) qualifier_begin qualifier_at qualifier (λ tokens x e. (qualifier_sound tokens x e).1) qualifier_read
    qualifier_goes (λ tokens f. tt) name_stops

no_identifier : (xs : List Qualifier) (before after : List Lexeme) → listed (sign "," or nothing) qualifier xs before after → keyword_at "IDENTIFIER" before ≡ None
no_identifier [] before after h = absurd h
no_identifier (Exclusive ∷ xs) before after h = other "IDENTIFIER" "EXCLUSIVE" h.1 refl
no_identifier (Mandatory ∷ xs) before after h = other "IDENTIFIER" "MANDATORY" h.1 refl
no_identifier (Singleton ∷ xs) before after h = other "IDENTIFIER" "SINGLETON" h.1 refl
no_identifier (Count least most ∷ xs) before after h = other "IDENTIFIER" "COUNT" h.1.1 refl

qualifiers_read : Complete (Passes a_name) qualifiers_at qualifiers
unfolding qualifiers_at qualifier_list_at
qualifiers_read x before after (inl (e, h)) f = rw (keyword_read "IDENTIFIER" h, qualifiers_at) (ap (λ x. Some (x, after)) (sym e))
qualifiers_read x before after (inr (written, d, e, h)) f =
    rw (no_identifier written before after h, qualifiers_at, written_read written before after h f, d) (ap (λ x. Some (x, after)) (sym e))

qualifiers_begin : (check : Test) (value : Bool) → ((bytes : List ℕ) → check tokens.Keyword bytes ≡ value) → (x : Qualifiers) (before after : List Lexeme) →
    qualifiers x before after → next check before ≡ value
qualifiers_begin check value e x before after (inl h) = next_keyword check "IDENTIFIER" h.1 ∙ e (codes "IDENTIFIER")
qualifiers_begin check value e x before after (inr (written, d, g, h)) = first written before after h
  where
    first : (xs : List Qualifier) (before after : List Lexeme) → listed (sign "," or nothing) qualifier xs before after → next check before ≡ value
    first [] before after h = absurd h
    first (q ∷ qs) before after h = qualifier_first check value e q before h.0 h.1

-- ---- keys

abbrev NoDot : List Lexeme → Type 0
NoDot tokens = sign_at "." tokens ≡ None

expr_read : Complete NoDot expr_at expr
unfolding expr_at
expr_read x before after (m, h, k) f =
    let key = maybe_read {Ends = NoDot} (sign_at ".") name_at (λ key. sign "." ▸ name key)
    (λ x before after h f. (h.0, sign_read "." h.1, name_read h.2)) (λ tokens f. f) x.key m after k f in
    rw (name_read h, key) refl

-- where no dot and no further expression follows
record ExprsEnd (tokens : List Lexeme) : Type 0 where
  dot : NoDot tokens
  comma : comma_unless (codes "FOR") tokens ≡ None

exprs_read : Complete ExprsEnd exprs_at (listed (sign ",") expr)
exprs_read = commas_read {Inner = NoDot} "FOR" expr_at expr expr_sound expr_read (λ x before after h. next_name (the_keyword (codes "FOR")) false (λ bytes. refl) h.1)
    (λ before between h. not_passed (the_sign (codes ".")) before (next_sign (the_sign (codes ".")) "," h)) (λ tokens f. f.dot) (λ tokens f. f.comma)

-- what ends a key: }, or a comma and a further key
pub data KeyEnd : List Lexeme → Type 0 where
  last : {before after : List Lexeme} → sign "}" before after → KeyEnd before
  key_next : {before after : List Lexeme} → (sign "," ▸ keyword "FOR") before after → KeyEnd before

key_end : (check : Test) (value : Bool) → check tokens.Sign (codes "}") ≡ value → check tokens.Sign (codes ",") ≡ value → {after : List Lexeme} →
    KeyEnd after → next check after ≡ value
key_end check value e f (last h) = next_sign check "}" h ∙ e
key_end check value e f (key_next h) = next_sign check "," h.1 ∙ f

pub no_further : (tokens : List Lexeme) → KeyEnd tokens → comma_unless (codes "FOR") tokens ≡ None
no_further tokens (last h) = comma_not_next "FOR" tokens (next_sign (the_sign (codes ",")) "}" h)
no_further tokens (key_next h) = comma_then "FOR" h.1 (next_keyword (the_keyword (codes "FOR")) "FOR" h.2)

within_read : Complete KeyEnd (maybe_at (keyword_at "WITHIN") paths_at) (maybe (λ descriptor. keyword "WITHIN" ▸ paths descriptor))
within_read = maybe_read (keyword_at "WITHIN") paths_at (λ descriptor. keyword "WITHIN" ▸ paths descriptor)
    (λ x before after h f. (
      h.0,
      keyword_read "WITHIN" h.1,
      paths_read x h.0 after h.2 (record {
        step = no_step after (key_end (the_sign (codes "-")) false refl refl f) (key_end (the_sign (codes "<-")) false refl refl f);
        comma = no_further after f;
      }),
    ))
    (λ tokens f. not_passed (the_keyword (codes "WITHIN")) tokens (key_end (the_keyword (codes "WITHIN")) false refl refl f))

scope_end : (x : Qualifiers) (before after : List Lexeme) → qualifiers x before after → PathsEnd before
scope_end x before after h = record {
  step = no_step before (qualifiers_begin (the_sign (codes "-")) false (λ bytes. refl) x before after h) (qualifiers_begin (the_sign (codes "<-")) false (λ bytes. refl) x before after h);
  comma = comma_not_next "FOR" before (qualifiers_begin (the_sign (codes ",")) false (λ bytes. refl) x before after h);
}

exprs_end : (x : Option (List RawPath)) (before after : List Lexeme) → maybe (λ descriptor. keyword "WITHIN" ▸ paths descriptor) x before after → KeyEnd after → ExprsEnd before
exprs_end None before after h f = subst ExprsEnd (sym h) (record {
  dot = not_passed (the_sign (codes ".")) after (key_end (the_sign (codes ".")) false refl refl f);
  comma = no_further after f;
})
exprs_end (Some x) before after h f = record {
  dot = not_passed (the_sign (codes ".")) before (next_keyword (the_sign (codes ".")) "WITHIN" h.1);
  comma = comma_not_next "FOR" before (next_keyword (the_sign (codes ",")) "WITHIN" h.1);
}

exprs_begin : (xs : List RawExpr) (before after : List Lexeme) → listed (sign ",") expr xs before after → Passes a_name before
exprs_begin [] before after h = absurd h
exprs_begin (x ∷ xs) before after h = next_name a_name true (λ bytes. refl) h.1.1

pub key_read : (x : RawKey) (before after : List Lexeme) → key x before after → KeyEnd after → key_at x.place before ≡ Some (x, after)
unfolding key_at
key_read x before after (a, h, (b, i, (c, j, (d, k, l)))) f =
    rw (
      keyword_read "FOR" h,
      paths_read x.scope a b i (scope_end x.qualifiers b c j),
      qualifiers_read x.qualifiers b c j (exprs_begin x.exprs c d k),
      exprs_read x.exprs c d k (exprs_end x.within d after l f),
      within_read x.within d after l f,
    ) refl
