-- The names of tokens, one after another, and those of a text by its tokens.
use Rattle.std.proofs.Common.{◌≡◌, ℕ, ◌+◌, ◌<◌, ◌≤◌, true, false, nat_lt, List, [], ◌∷◌, ◌++◌, length, take, get_or, slice_get, Some, Ok, Err, refl, sym, ap, ◌∙◌, append_assoc, arith}
use Rattle.std.proofs.lemmas.Bool.Decides.{nat_tests}
use Rattle.std.proofs.lemmas.List.{append-nil, take_more}
use Rattle.std.proofs.lemmas.Option.{slice_get-get_or, get_or_from_slice_get}
use Rattle.pgs_lexer.specs.Cut.{tokens_of}
use Rattle.pgs_lexer.specs.Token.{Lexeme}
use Rattle.pgs_run_input.specs.Input.{text_limit}
use Rattle.pgs_run_contain.specs.Names.{Names, name_in, name_at, names_of, names_in}

names_join : (xs ys : List Lexeme) → names_of (xs ++ ys) ≡ names_of xs ++ names_of ys
names_join [] ys = refl
names_join (x ∷ xs) ys = ap (λ ns. name_in x.bytes ++ ns) (names_join xs ys) ∙ sym (append_assoc (name_in x.bytes) (names_of xs) (names_of ys))

more_at : (tokens : List Lexeme) (i : ℕ) (token : Lexeme) → i < length tokens → token ≡ get_or tokens i token → names_of (take (i + 1) tokens) ≡ names_of (take i tokens) ++ name_at (Some token)
more_at tokens i token lt is =
    ap names_of (take_more tokens i token lt ∙ ap (λ (t : Lexeme). take i tokens ++ t ∷ []) (sym is)) ∙ names_join (take i tokens) (token ∷ [])
    ∙ ap (λ ns. names_of (take i tokens) ++ ns) (append-nil (name_in token.bytes))

-- some token is there, to stand in for a default
first_of : (tokens : List Lexeme) (i : ℕ) → i < length tokens → Lexeme
first_of [] i lt = absurd (omega (arith, lt))
first_of (t ∷ ts) i lt = t

pub name_more : (tokens : List Lexeme) (i : ℕ) (start all new : Names) → i < length tokens → new ≡ all ++ name_at (slice_get tokens i) → all ≡ start ++ names_of (take i tokens) →
    new ≡ start ++ names_of (take (i + 1) tokens)
name_more tokens i start all new lt pushed before =
    let token = get_or tokens i (first_of tokens i lt) in
    let here = slice_get-get_or tokens i (first_of tokens i lt) lt in
    pushed ∙ ap (λ ns. ns ++ name_at (slice_get tokens i)) before ∙ ap (λ found. (start ++ names_of (take i tokens)) ++ name_at found) here
    ∙ append_assoc start (names_of (take i tokens)) (name_at (Some token))
    ∙ ap (λ ns. start ++ ns) (sym (more_at tokens i token lt (sym (get_or_from_slice_get tokens i token token here))))

-- ---- of a text

pub none_long : (text : List ℕ) (names : Names) → text_limit < length text → names ≡ names ++ names_in text
unfolding names_in
none_long text names long = rw (let is : nat_lt text_limit (length text) ≡ true = grind (arith, nat_tests) in is) (sym (append-nil names))

pub none_cut : (text : List ℕ) (line : ℕ) (names : Names) → length text ≤ text_limit → tokens_of text ≡ Err line → names ≡ names ++ names_in text
unfolding names_in
none_cut text line names short cut = rw (let is : nat_lt text_limit (length text) ≡ false = grind (arith, nat_tests) in is, cut) (sym (append-nil names))

pub names_cut : (text : List ℕ) (tokens : List Lexeme) → length text ≤ text_limit → tokens_of text ≡ Ok tokens → names_of tokens ≡ names_in text
unfolding names_in
names_cut text tokens short cut = rw (let is : nat_lt text_limit (length text) ≡ false = grind (arith, nat_tests) in is, cut) refl
