-- What is read as a key is one by the grammar.
use Rattle.std.proofs.Common.{◌≡◌, ℕ, ℤ, pos, negsuc, ◌<◌, ◌≤◌, Bool, false, ◌||◌, List, [], ◌∷◌, length, Some, inl, inr, refl, sym, ap, subst, arith, codes, bytes_eq, nat_le}
use Rattle.std.proofs.lemmas.Option.{same_Some, cond_some}
use Rattle.std.proofs.lemmas.Bool.{leb-true}
use Rattle.std.proofs.lemmas.Slice.Eq.{bytes_eq-Decides}
use Rattle.std.specs.Str.Parse.{signed_digits_value}
use Rattle.pgs_base.specs.declared.value.Value.{Value}
use Rattle.pgs_base.specs.declared.value.Value.TheVariants as values
use Rattle.pgs_lexer.specs.Token.{Lexeme}
use Rattle.pgs_lexer.specs.declared.kind.TokenKind.{TokenKind}
use Rattle.pgs_lexer.specs.declared.kind.TokenKind.TheVariants as tokens
use Rattle.pgs_syntax.specs.declared.raw.RawPlace.{RawPlace}
use Rattle.pgs_syntax.specs.declared.raw.RawKey.{RawKey}
use Rattle.pgs_syntax.specs.Valid.{are_distinct}
use Rattle.pgs_parser.specs.Literal.{name, literal, text_in, IsDay}
use Rattle.pgs_parser.specs.Production.{Production, ◌▸◌, ◌or◌, nothing, IsToken, here, sign, keyword, maybe, listed}
use Rattle.pgs_parser.specs.Keys.{test, tests, names, place, node, arrow, step, path, paths, bound, bounds, qualifier, qualifiers, expr, key, is_same_kind}
use Rattle.pgs_parser.specs.Reader.{a_name, a_keyword, the_sign, next, sign_at, keyword_at, name_at, maybe_at, listed_at, each_at, none_declared}
use Rattle.pgs_parser.specs.KeyReaders.{text_value, number_value, keyword_value, value_of, value_at, day_of, day_at, literal_at, test_at, names_at, tests_at, name_if_at, place_at, node_at, edge_at, arrow_at, step_at, step_begins, path_at, paths_at, bound_of, bound_at, bounds_at, qualifier_at, qualifier_begins, qualifier_list_at, qualifiers_at, expr_at, exprs_at, key_at}
use Rattle.pgs_parser.proofs.Digits.{in_range}
use Rattle.pgs_parser.proofs.Items.{IsBegin}
use Rattle.pgs_parser.proofs.Chains.{bind_some, either_way, chosen_way, holds, Took, TookAny, Sound, SoundAny, sign_sound, keyword_sound, name_sound, maybe_sound, listed_sound, commas_sound, listed_by, more_sound}

-- ---- literals

text_one : (text : List ℕ) (token : Lexeme) (v : Value) → token.kind ≡ tokens.Text → text_in token.bytes ≡ text → text_value text ≡ Some v → (rest : List Lexeme) → literal v (token ∷ rest) rest
text_one text token v k b e rest =
    let p = cond_some _ (values.Text text) v e in
    subst (λ v. literal v (token ∷ rest) rest) p.1 (here (k, b, leb-true _ _ p.0))

number_one : (number : ℤ) (token : Lexeme) (v : Value) → token.kind ≡ tokens.Number → signed_digits_value 10 token.bytes ≡ number → number_value number ≡ Some v → (rest : List Lexeme) → literal v (token ∷ rest) rest
number_one number token v k b e rest =
    let p = cond_some _ (values.Int number) v e in
    subst (λ v. literal v (token ∷ rest) rest) p.1 (here (k, b, in_range number p.0))

keyword_one : (token : Lexeme) (v : Value) → token.kind ≡ tokens.Keyword → keyword_value token.bytes ≡ Some v → (rest : List Lexeme) → literal v (token ∷ rest) rest
keyword_one token v k e rest =
    elim (chosen_way (bytes_eq token.bytes (codes "TRUE")) _ _ (Some v) e) [
      | inl w ↦ holds (λ v. literal v (token ∷ rest) rest) w.1 (here (k, (bytes_eq-Decides token.bytes (codes "TRUE")).0 w.0))
      | inr w ↦
          let p = cond_some (bytes_eq token.bytes (codes "FALSE")) (values.Bool false) v w.1 in
          subst (λ v. literal v (token ∷ rest) rest) p.1 (here (k, (bytes_eq-Decides token.bytes (codes "FALSE")).0 p.0))
    ]

value_one : (kind : TokenKind) (token : Lexeme) (v : Value) → token.kind ≡ kind → value_of kind token.bytes ≡ Some v → (rest : List Lexeme) → literal v (token ∷ rest) rest
value_one tokens.Text token v k e rest = text_one (text_in token.bytes) token v k refl e rest
value_one tokens.Number token v k e rest = number_one (signed_digits_value 10 token.bytes) token v k refl e rest
value_one tokens.Keyword token v k e rest = keyword_one token v k e rest
value_one tokens.Name token v k e rest = cc
value_one tokens.Sign token v k e rest = cc

value_sound : Sound value_at literal
value_sound [] x e = cc
value_sound (t ∷ ts) x e =
    let v = bind_some (value_of t.kind t.bytes) _ x e in
    holds (Took literal (t ∷ ts)) v.2 (value_one t.kind t v.0 refl v.1 ts, omega arith)

day_one : (kind : TokenKind) (token : Lexeme) (d : ℕ × ℕ × ℕ) → token.kind ≡ kind → day_of kind token.bytes ≡ Some d → IsDay d token
day_one tokens.Text token d k e = (k, e)
day_one tokens.Number token d k e = cc
day_one tokens.Keyword token d k e = cc
day_one tokens.Name token d k e = cc
day_one tokens.Sign token d k e = cc

after_date : (before : List Lexeme) (tokens : List Lexeme) (x : Value × List Lexeme) → keyword "DATE" before tokens → day_at tokens ≡ Some x →
    literal x.0 before x.1 × (length x.1 < length tokens)
after_date before [] x h e = cc
after_date before (t ∷ ts) x h e =
    let d = bind_some (day_of t.kind t.bytes) _ x e in
    holds (λ (y : Value × List Lexeme). literal y.0 before y.1 × (length y.1 < length (t ∷ ts))) d.2 ((t ∷ ts, h, here (day_one t.kind t d.0 refl d.1)), omega arith)

literal_sound : Sound literal_at literal
unfolding literal_at
literal_sound tokens x e =
    elim (either_way (keyword_at "DATE" tokens) _ _ x e) [
      | inl w ↦
          let k = keyword_sound "DATE" tokens w.0 w.1 in
          let d = after_date tokens w.0 x k.0 w.2 in
          (d.0, omega arith)
      | inr w ↦ value_sound tokens x w.1
    ]

-- ---- places

pub test_sound : Sound test_at test
unfolding test_at
test_sound tokens x e =
    let key = bind_some (name_at tokens) _ x e in
    let colon = bind_some (sign_at ":" key.0.1) _ x key.2 in
    let value = bind_some (literal_at colon.0) _ x colon.2 in
    let a = name_sound tokens key.0 key.1 in
    let b = sign_sound ":" key.0.1 colon.0 colon.1 in
    let c = literal_sound colon.0 value.0 value.1 in
    holds (Took test tokens) value.2 ((key.0.1, a.0, (colon.0, b.0, c.0)), omega arith)

some_names : (xs : List (List ℕ)) (before m after : List Lexeme) → sign ":" before m → listed (sign "&") name xs m after → names xs before after
some_names [] before m after h k = absurd k
some_names (x ∷ xs) before m after h k = (m, h, k)

names_sound : SoundAny names_at names
unfolding names_at
names_sound tokens x e =
    elim (either_way (sign_at ":" tokens) _ _ x e) [
      | inl w ↦
          let a = sign_sound ":" tokens w.0 w.1 in
          let b = listed_sound "&" name_at name name_sound w.0 x w.2 in
          (some_names x.0 tokens w.0 x.1 a.0 b.0, omega arith)
      | inr w ↦ holds (TookAny names tokens) w.1 (refl, omega arith)
    ]

some_tests : (xs : List (List ℕ × Value)) (before m n after : List Lexeme) → sign "{" before m → listed (sign ",") test xs m n → sign "}" n after →
    tests xs before after
some_tests [] before m n after h k l = absurd k
some_tests (x ∷ xs) before m n after h k l = (m, h, (n, k, l))

tests_sound : SoundAny tests_at tests
unfolding tests_at
tests_sound tokens x e =
    elim (either_way (sign_at "{" tokens) _ _ x e) [
      | inl w ↦
          let found = bind_some (listed_at (sign_at ",") test_at w.0) _ x w.2 in
          let close_ = bind_some (sign_at "}" found.0.1) _ x found.2 in
          let a = sign_sound "{" tokens w.0 w.1 in
          let b = listed_sound "," test_at test test_sound w.0 found.0 found.1 in
          let c = sign_sound "}" found.0.1 close_.0 close_.1 in
          holds (TookAny tests tokens) close_.2 (some_tests found.0.0 tokens w.0 found.0.1 close_.0 a.0 b.0 c.0, omega arith)
      | inr w ↦ holds (TookAny tests tokens) w.1 (refl, omega arith)
    ]

name_if_sound : SoundAny name_if_at (maybe name)
unfolding name_if_at
name_if_sound tokens x e =
    elim (chosen_way (next a_name tokens) _ _ (Some x) e) [
      | inl w ↦
          let found = bind_some (name_at tokens) _ x w.1 in
          let k = name_sound tokens found.0 found.1 in
          holds (TookAny (maybe name) tokens) found.2 (k.0, omega arith)
      | inr w ↦ holds (TookAny (maybe name) tokens) w.1 (refl, omega arith)
    ]

place_sound : SoundAny place_at place
unfolding place_at
place_sound tokens x e =
    let var = bind_some (name_if_at tokens) _ x e in
    let names = bind_some (names_at var.0.1) _ x var.2 in
    let tests = bind_some (tests_at names.0.1) _ x names.2 in
    let a = name_if_sound tokens var.0 var.1 in
    let b = names_sound var.0.1 names.0 names.1 in
    let c = tests_sound names.0.1 tests.0 tests.1 in
    holds (TookAny place tokens) tests.2 ((var.0.1, a.0, (names.0.1, b.0, c.0)), omega arith)

node_sound : Sound node_at node
unfolding node_at
node_sound tokens x e =
    let open_ = bind_some (sign_at "(" tokens) _ x e in
    let place = bind_some (place_at open_.0) _ x open_.2 in
    let close_ = bind_some (sign_at ")" place.0.1) _ x place.2 in
    let a = sign_sound "(" tokens open_.0 open_.1 in
    let b = place_sound open_.0 place.0 place.1 in
    let c = sign_sound ")" place.0.1 close_.0 close_.1 in
    holds (Took node tokens) close_.2 ((open_.0, a.0, (place.0.1, b.0, c.0)), omega arith)

-- ---- paths

abbrev edge : RawPlace → Production
edge p = sign "[" ▸ place p ▸ sign "]"

edge_sound : Sound edge_at edge
unfolding edge_at
edge_sound tokens x e =
    let open_ = bind_some (sign_at "[" tokens) _ x e in
    let place = bind_some (place_at open_.0) _ x open_.2 in
    let close_ = bind_some (sign_at "]" place.0.1) _ x place.2 in
    let a = sign_sound "[" tokens open_.0 open_.1 in
    let b = place_sound open_.0 place.0 place.1 in
    let c = sign_sound "]" place.0.1 close_.0 close_.1 in
    holds (Took edge tokens) close_.2 ((open_.0, a.0, (place.0.1, b.0, c.0)), omega arith)

-- an edge between two signs
between_signs : {Asked Wanted : Lexeme → Type 0} (p : RawPlace) (before m n after : List Lexeme) → IsToken Asked before m → edge p m n → IsToken Wanted n after →
    (IsToken Asked ▸ sign "[" ▸ place p ▸ sign "]" ▸ IsToken Wanted) before after
between_signs p before m n after h (a, open_, (b, inside, close_)) k = (m, h, (a, open_, (b, inside, (n, close_, k))))

arrow_sound : Sound arrow_at (λ x. arrow x.0 x.1)
unfolding arrow_at
arrow_sound tokens x e =
    let P = Took (λ (x : Bool × RawPlace). arrow x.0 x.1) tokens in
    elim (either_way (sign_at "-" tokens) _ _ x e) [
      | inl w ↦
          let middle = bind_some (edge_at w.0) _ x w.2 in
          let head = bind_some (sign_at "->" middle.0.1) _ x middle.2 in
          let a = sign_sound "-" tokens w.0 w.1 in
          let b = edge_sound w.0 middle.0 middle.1 in
          let c = sign_sound "->" middle.0.1 head.0 head.1 in
          holds P head.2 (between_signs middle.0.0 tokens w.0 middle.0.1 head.0 a.0 b.0 c.0, omega arith)
      | inr v ↦
          let w = bind_some (sign_at "<-" tokens) _ x v.1 in
          let middle = bind_some (edge_at w.0) _ x w.2 in
          let tail = bind_some (sign_at "-" middle.0.1) _ x middle.2 in
          let a = sign_sound "<-" tokens w.0 w.1 in
          let b = edge_sound w.0 middle.0 middle.1 in
          let c = sign_sound "-" middle.0.1 tail.0 tail.1 in
          holds P tail.2 (between_signs middle.0.0 tokens w.0 middle.0.1 tail.0 a.0 b.0 c.0, omega arith)
    ]

pub step_sound : Sound step_at step
unfolding step_at
step_sound tokens x e =
    let arrow = bind_some (arrow_at tokens) _ x e in
    let node = bind_some (node_at arrow.0.1) _ x arrow.2 in
    let a = arrow_sound tokens arrow.0 arrow.1 in
    let b = node_sound arrow.0.1 node.0 node.1 in
    holds (Took step tokens) node.2 ((arrow.0.1, a.0, b.0), omega arith)

step_same : (tokens rest : List Lexeme) → step_begins tokens ≡ Some rest → tokens ≡ rest
step_same tokens rest e = same_Some _ _ (let p = cond_some (next (the_sign (codes "-")) tokens || next (the_sign (codes "<-")) tokens) tokens rest e in ap Some p.1)

pub step_begin : IsBegin step_begins
step_begin = record { none = refl; kept = λ tokens rest e. omega (arith, ap length (step_same tokens rest e)) }

pub path_sound : Sound path_at path
unfolding path_at
path_sound tokens x e =
    let start = bind_some (node_at tokens) _ x e in
    let steps = bind_some (each_at step_begins step_at start.0.1) _ x start.2 in
    let a = node_sound tokens start.0 start.1 in
    let b = more_sound step_begins (λ place. step_at) none_declared step
    (λ place tokens rest x h g. (subst (λ ts. Took step ts x) (sym (step_same tokens rest h)) (step_sound rest x g), refl))
    (length start.0.1) 0 start.0.1 steps.0 steps.1 in
    let l = b.left in
    holds (Took path tokens) steps.2 ((start.0.1, a.0, b.items), omega arith)

pub paths_sound : Sound paths_at paths
paths_sound = commas_sound (codes "FOR") path_at path path_sound

-- ---- qualifiers

is_bound : (value : Value) (number : ℕ) → bound_of value ≡ Some number → (value ≡ values.Int (pos number)) × (number ≤ 1000000)
is_bound (values.Int (pos n)) number e =
    let p = cond_some (nat_le n 1000000) n number e in
    (ap (λ (k : ℕ). values.Int (pos k)) p.1, subst (λ k. k ≤ 1000000) p.1 (leb-true n 1000000 p.0))
is_bound (values.Int (negsuc n)) number e = cc
is_bound (values.Text text) number e = cc
is_bound (values.Bool value) number e = cc
is_bound (values.Date day) number e = cc

bound_found : (tokens : List Lexeme) (x : ℕ × List Lexeme) → bound_at tokens ≡ Some x → Took bound tokens x × (x.0 ≤ 1000000)
unfolding bound_at
bound_found tokens x e =
    let value = bind_some (value_at tokens) _ x e in
    let number = bind_some (bound_of value.0.0) _ x value.2 in
    let a = value_sound tokens value.0 value.1 in
    let b = is_bound value.0.0 number.0 number.1 in
    holds (λ (x : ℕ × List Lexeme). Took bound tokens x × (x.0 ≤ 1000000)) number.2
    ((subst (λ v. literal v tokens value.0.1) b.0 a.0, omega arith), b.1)

bounds_sound : Sound bounds_at bounds
unfolding bounds_at
bounds_sound tokens x e =
    let least = bind_some (bound_at tokens) _ x e in
    let dots = bind_some (sign_at ".." least.0.1) _ x least.2 in
    let most = bind_some (bound_at dots.0) _ x dots.2 in
    let last = bind_some (keyword_at "OF" most.0.1) _ x most.2 in
    let ordered = cond_some (nat_le least.0.0 most.0.0) _ x last.2 in
    let a = bound_found tokens least.0 least.1 in
    let b = sign_sound ".." least.0.1 dots.0 dots.1 in
    let c = bound_found dots.0 most.0 most.1 in
    let d = keyword_sound "OF" most.0.1 last.0 last.1 in
    subst (Took bounds tokens) ordered.1
    ((leb-true _ _ ordered.0, c.1, (least.0.1, a.0.0, (dots.0, b.0, (most.0.1, c.0.0, d.0)))), omega (arith, a.0.1, b.1, c.0.1, d.1))

pub qualifier_sound : Sound qualifier_at qualifier
unfolding qualifier_at
qualifier_sound tokens x e =
    let P = Took qualifier tokens in
    elim (either_way (keyword_at "EXCLUSIVE" tokens) _ _ x e) [
      | inl w ↦ holds P w.2 (keyword_sound "EXCLUSIVE" tokens w.0 w.1)
      | inr v ↦ elim (either_way (keyword_at "MANDATORY" tokens) _ _ x v.1) [
        | inl w ↦ holds P w.2 (keyword_sound "MANDATORY" tokens w.0 w.1)
        | inr u ↦ elim (either_way (keyword_at "SINGLETON" tokens) _ _ x u.1) [
          | inl w ↦ holds P w.2 (keyword_sound "SINGLETON" tokens w.0 w.1)
          | inr s ↦
              let w = bind_some (keyword_at "COUNT" tokens) _ x s.1 in
              let ends = bind_some (bounds_at w.0) _ x w.2 in
              let a = keyword_sound "COUNT" tokens w.0 w.1 in
              let b = bounds_sound w.0 ends.0 ends.1 in
              holds P ends.2 ((w.0, a.0, b.0), omega arith)
        ]
      ]
    ]

separator_sound : (tokens rest : List Lexeme) → qualifier_begins tokens ≡ Some rest → (sign "," or nothing) tokens rest × (length rest ≤ length tokens)
separator_sound tokens rest e =
    elim (either_way (sign_at "," tokens) _ _ rest e) [
      | inl w ↦ let k = sign_sound "," tokens w.0 w.1 in holds (λ rest. (sign "," or nothing) tokens rest × (length rest ≤ length tokens)) w.2 (inl k.0, omega arith)
      | inr w ↦ let p = cond_some (next a_keyword tokens) tokens rest w.1 in (inr p.1, omega (arith, ap length p.1))
    ]

pub qualifier_begin : IsBegin qualifier_begins
qualifier_begin = record { none = refl; kept = λ tokens rest e. (separator_sound tokens rest e).1 }

qualifiers_sound : Sound qualifiers_at qualifiers
unfolding qualifiers_at qualifier_list_at
qualifiers_sound tokens x e =
    let P = Took qualifiers tokens in
    elim (either_way (keyword_at "IDENTIFIER" tokens) _ _ x e) [
      | inl w ↦ let k = keyword_sound "IDENTIFIER" tokens w.0 w.1 in holds P w.2 (inl (refl, k.0), k.1)
      | inr w ↦
          let found = bind_some (listed_at qualifier_begins qualifier_at tokens) _ x w.1 in
          let k = listed_by qualifier_begins (sign "," or nothing) separator_sound qualifier_at qualifier qualifier_sound tokens found.0 found.1 in
          let p = cond_some (are_distinct is_same_kind found.0.0) _ x found.2 in
          subst P p.1 (inr (found.0.0, p.0, refl, k.0), k.1)
    ]

-- ---- keys

pub expr_sound : Sound expr_at expr
unfolding expr_at
expr_sound tokens x e =
    let var = bind_some (name_at tokens) _ x e in
    let key = bind_some (maybe_at (sign_at ".") name_at var.0.1) _ x var.2 in
    let a = name_sound tokens var.0 var.1 in
    let b = maybe_sound (sign_at ".") name_at (λ key. sign "." ▸ name key)
    (λ tokens rest h x g. let k = sign_sound "." tokens rest h in let l = name_sound rest x g in ((rest, k.0, l.0), omega arith)) var.0.1 key.0 key.1 in
    holds (Took expr tokens) key.2 ((var.0.1, a.0, b.0), omega arith)

pub key_sound : (place : ℕ) → Sound (key_at place) key
unfolding key_at
key_sound place tokens x e =
    let for = bind_some (keyword_at "FOR" tokens) _ x e in
    let scope = bind_some (paths_at for.0) _ x for.2 in
    let asked = bind_some (qualifiers_at scope.0.1) _ x scope.2 in
    let exprs = bind_some (exprs_at asked.0.1) _ x asked.2 in
    let within = bind_some (maybe_at (keyword_at "WITHIN") paths_at exprs.0.1) _ x exprs.2 in
    let a = keyword_sound "FOR" tokens for.0 for.1 in
    let b = paths_sound for.0 scope.0 scope.1 in
    let c = qualifiers_sound scope.0.1 asked.0 asked.1 in
    let d = commas_sound (codes "FOR") expr_at expr expr_sound asked.0.1 exprs.0 exprs.1 in
    let f = maybe_sound (keyword_at "WITHIN") paths_at (λ descriptor. keyword "WITHIN" ▸ paths descriptor)
    (λ tokens rest h x g. let k = keyword_sound "WITHIN" tokens rest h in let l = paths_sound rest x g in ((rest, k.0, l.0), omega arith)) exprs.0.1 within.0 within.1 in
    holds (Took key tokens) within.2 ((for.0, a.0, (scope.0.1, b.0, (asked.0.1, c.0, (exprs.0.1, d.0, f.0)))), omega arith)

pub key_number : (place : ℕ) (tokens : List Lexeme) (x : RawKey × List Lexeme) → key_at place tokens ≡ Some x → x.0.place ≡ place
unfolding key_at
key_number place tokens x e =
    let for = bind_some (keyword_at "FOR" tokens) _ x e in
    let scope = bind_some (paths_at for.0) _ x for.2 in
    let asked = bind_some (qualifiers_at scope.0.1) _ x scope.2 in
    let exprs = bind_some (exprs_at asked.0.1) _ x asked.2 in
    let within = bind_some (maybe_at (keyword_at "WITHIN") paths_at exprs.0.1) _ x exprs.2 in
    holds (λ (x : RawKey × List Lexeme). x.0.place ≡ place) within.2 refl
