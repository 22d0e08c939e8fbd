-- The characters of a text in quotes, as they are written: where they end, and what they are.
use Rattle.std.proofs.Common.{◌≡◌, ◌∙◌, sym, ap, ℕ, suc, ◌+◌, ◌<◌, Bool, true, false, not, cond, ◌&&◌, eqb, Option, Some, None, List, [], ◌∷◌, ◌++◌, length, drop, refl, arith, subst, IsUtf8, append_assoc, length-append, append-nil}
use Rattle.std.specs.Prelude.{option_map, encode_utf8, encode_utf8_all, flat_map}
use Rattle.std.specs.List.{list_all}
use Rattle.std.specs.Str.{all_scalars}
use Rattle.std.proofs.lemmas.Bool.{and_parts, and_from, eqb-true, not-true, not_from_false}
use Rattle.std.proofs.lemmas.Option.{same_Some, cond_some}
use Rattle.std.proofs.lemmas.Str.{encode_ascii, length-encode, len_utf8_bounds, IsUtf8-nil, IsUtf8-append}
use lib.Utf8.{scalar}
use Rattle.pgs_lexer.specs.Form.{begins_with, is_quote, is_line_feed, is_line, written}
use Rattle.pgs_lexer.specs.Scan.{closing}
use Rattle.pgs_lexer.proofs.Closing.{closing_step, later}
use Rattle.pgs_lexer.proofs.Sizes.{mapped}
use Rattle.pgs_lexer.proofs.Characters.{other_than, bytes_other}

-- a byte that is neither a quote nor a line feed
abbrev is_plain : ℕ → Bool
is_plain b = not (is_line_feed b) && not (is_quote b)

all_plain : (xs : List ℕ) → list_all (other_than 10) xs ≡ true → list_all (other_than 39) xs ≡ true → list_all is_plain xs ≡ true
all_plain [] e f = refl
all_plain (x ∷ xs) e f =
    let p = and_parts (other_than 10 x) (list_all (other_than 10) xs) e in
    let q = and_parts (other_than 39 x) (list_all (other_than 39) xs) f in
    and_from (is_plain x) (list_all is_plain xs) (and_from (other_than 10 x) (other_than 39 x) p.0 q.0) (all_plain xs p.1 q.1)

shift_none : (o : Option ℕ) → o ≡ option_map (λ k. 0 + k) o
shift_none None = refl
shift_none (Some k) = ap Some (omega arith)

-- such bytes are passed over
skips_plain : (xs more : List ℕ) → list_all is_plain xs ≡ true → closing (xs ++ more) ≡ option_map (λ k. length xs + k) (closing more)
skips_plain [] more e = shift_none (closing more)
skips_plain (x ∷ xs) more e =
    let p = and_parts (is_plain x) (list_all is_plain xs) e in
    let q = and_parts (not (is_line_feed x)) (not (is_quote x)) p.0 in
    let no_feed = not-true (is_line_feed x) q.0 in
    let no_quote = not-true (is_quote x) q.1 in
    let size : 1 + length xs ≡ suc (length xs) = omega arith in
    closing_step x (xs ++ more) ∙ rw (no_feed, no_quote) (ap (option_map (λ k. 1 + k)) (skips_plain xs more p.1) ∙ later 1 (length xs) (closing more) ∙ ap (λ n. option_map (λ k. n + k) (closing more)) size)

-- so is a character other than these two
pub skips_char : (c : ℕ) (more : List ℕ) → is_line_feed c ≡ false → is_quote c ≡ false → closing (encode_utf8 c ++ more) ≡ option_map (λ k. length (encode_utf8 c) + k) (closing more)
skips_char c more no_feed no_quote =
    skips_plain (encode_utf8 c) more (all_plain (encode_utf8 c) (bytes_other 10 (omega arith) c (not_from_false (is_line_feed c) no_feed)) (bytes_other 39 (omega arith) c (not_from_false (is_quote c) no_quote)))

pub skips_pair : (more : List ℕ) → closing (39 ∷ 39 ∷ more) ≡ option_map (λ k. 2 + k) (closing more)
skips_pair more = refl

written_cases : (c : ℕ) (more : List ℕ) → is_line_feed c ≡ false → (b : Bool) → is_quote c ≡ b → closing (cond b (39 ∷ 39 ∷ []) (encode_utf8 c) ++ more) ≡ option_map (λ k. length (cond b (39 ∷ 39 ∷ []) (encode_utf8 c)) + k) (closing more)
written_cases c more no_feed true e = skips_pair more
written_cases c more no_feed false e = skips_char c more no_feed e

skips_written : (c : ℕ) (more : List ℕ) → is_line_feed c ≡ false → closing (written c ++ more) ≡ option_map (λ k. length (written c) + k) (closing more)
skips_written c more no_feed = written_cases c more no_feed (is_quote c) refl

-- characters as they are written end at the quote after them
pub closing_written : (cs rest : List ℕ) → is_line cs ≡ true → begins_with is_quote rest ≡ false → closing (flat_map written cs ++ 39 ∷ rest) ≡ Some (length (flat_map written cs))
closing_written [] rest line stop = closing_step 39 rest ∙ rw stop refl
closing_written (c ∷ cs) rest line stop =
    let p = and_parts (not (is_line_feed c)) (is_line cs) line in
    ap closing (append_assoc (written c) (flat_map written cs) (39 ∷ rest))
    ∙ skips_written c (flat_map written cs ++ 39 ∷ rest) (not-true (is_line_feed c) p.0)
    ∙ ap (option_map (λ k. length (written c) + k)) (closing_written cs rest p.1 stop)
    ∙ ap Some (sym (length-append (written c) (flat_map written cs)))

scalar_utf8 : (c : ℕ) → scalar c ≡ true → IsUtf8 (encode_utf8 c)
scalar_utf8 c e = (c ∷ [], (and_from (scalar c) true e refl, append-nil (encode_utf8 c)))

written_utf8 : (c : ℕ) → scalar c ≡ true → (b : Bool) → IsUtf8 (cond b (39 ∷ 39 ∷ []) (encode_utf8 c))
written_utf8 c e true = let one : encode_utf8 39 ≡ 39 ∷ [] = encode_ascii 39 (omega arith) in (39 ∷ 39 ∷ [], (refl, rw one refl))
written_utf8 c e false = scalar_utf8 c e

-- characters as they are written are UTF-8
pub all_written_utf8 : (cs : List ℕ) → all_scalars cs ≡ true → IsUtf8 (flat_map written cs)
all_written_utf8 [] e = IsUtf8-nil
all_written_utf8 (c ∷ cs) e =
    let p = and_parts (scalar c) (all_scalars cs) e in
    IsUtf8-append (written c) (flat_map written cs) (written_utf8 c p.0 (is_quote c)) (all_written_utf8 cs p.1)

-- What the bytes before the closing quote are. The cases of two characters at the front of such bytes:
abbrev pub IsWrittenLine : List ℕ → Type 0
IsWrittenLine bytes = (cs : List ℕ) × (all_scalars cs ≡ true) × (is_line cs ≡ true) × (bytes ≡ flat_map written cs)

abbrev pub EndsAfter : List ℕ → List ℕ → Type 0
EndsAfter bytes after = closing (bytes ++ after) ≡ Some (length bytes)

another : (c : ℕ) (bytes : List ℕ) → scalar c ≡ true → is_line_feed c ≡ false → IsWrittenLine bytes → IsWrittenLine (written c ++ bytes)
another c bytes s no_feed w = (c ∷ w.0, and_from (scalar c) (all_scalars w.0) s w.1, and_from (not (is_line_feed c)) (is_line w.0) (not_from_false (is_line_feed c) no_feed) w.2, ap (λ (l : List ℕ). written c ++ l) w.3)

written_other : (c : ℕ) → is_quote c ≡ false → written c ≡ encode_utf8 c
written_other c e = rw e refl

-- a character that is neither a quote nor a line feed
after_char : (c : ℕ) (bytes after : List ℕ) → scalar c ≡ true → is_line_feed c ≡ false → is_quote c ≡ false → EndsAfter (encode_utf8 c ++ bytes) after → (EndsAfter bytes after → IsWrittenLine bytes) → IsWrittenLine (encode_utf8 c ++ bytes)
after_char c bytes after s no_feed no_quote ends rest =
    let e = sym (skips_char c (bytes ++ after) no_feed no_quote) ∙ sym (ap closing (append_assoc (encode_utf8 c) bytes after)) ∙ ends in
    let m = mapped (λ k. length (encode_utf8 c) + k) (closing (bytes ++ after)) (length (encode_utf8 c ++ bytes)) e in
    let same : m.0 ≡ length bytes = omega (arith, m.2, length-append (encode_utf8 c) bytes) in
    subst (λ (l : List ℕ). IsWrittenLine (l ++ bytes)) (written_other c no_quote) (another c bytes s no_feed (rest (m.1 ∙ ap Some same)))

-- no character is a line feed
no_line_feed : (bytes after : List ℕ) → EndsAfter (10 ∷ bytes) after → ⊥
no_line_feed bytes after ends = cc (closing_step 10 (bytes ++ after))

-- a pair of quotes
after_pair : (bytes after : List ℕ) → EndsAfter (39 ∷ 39 ∷ bytes) after → (EndsAfter bytes after → IsWrittenLine bytes) → IsWrittenLine (39 ∷ 39 ∷ bytes)
after_pair bytes after ends rest =
    let m = mapped (λ k. 2 + k) (closing (bytes ++ after)) (suc (suc (length bytes))) ends in
    let same : m.0 ≡ length bytes = omega (arith, m.2) in
    another 39 bytes refl refl (rest (m.1 ∙ ap Some same))

-- a quote with no other after it isn't passed over
no_lone_quote : (bytes after : List ℕ) → begins_with is_quote (bytes ++ after) ≡ false → EndsAfter (39 ∷ bytes) after → ⊥
no_lone_quote bytes after stop ends = let e : Some 0 ≡ Some (suc (length bytes)) = sym (closing_step 39 (bytes ++ after) ∙ rw stop refl) ∙ ends in absurd (let same = same_Some 0 (suc (length bytes)) e in omega arith)

begins_plain : (bytes more : List ℕ) → 0 < length bytes → list_all (other_than 39) bytes ≡ true → begins_with is_quote (bytes ++ more) ≡ false
begins_plain [] more some e = absurd (omega arith)
begins_plain (b ∷ bytes) more some e = let p = and_parts (other_than 39 b) (list_all (other_than 39) bytes) e in not-true (is_quote b) p.0

begins_char : (c : ℕ) (more : List ℕ) → is_quote c ≡ false → begins_with is_quote (encode_utf8 c ++ more) ≡ false
begins_char c more e = begins_plain (encode_utf8 c) more (omega (arith, length-encode c, len_utf8_bounds c)) (bytes_other 39 (omega arith) c (not_from_false (is_quote c) e))

as_one_byte : (c b : ℕ) → b < 128 → eqb c b ≡ true → encode_utf8 c ≡ b ∷ []
as_one_byte c b low e = ap encode_utf8 (eqb-true c b e) ∙ encode_ascii b low

-- the first character, where a line feed can't be and a quote has a case of its own
first_char : (c : ℕ) (bytes after : List ℕ) (feed quote : Bool) → is_line_feed c ≡ feed → is_quote c ≡ quote → scalar c ≡ true → EndsAfter (encode_utf8 c ++ bytes) after
    → (EndsAfter bytes after → IsWrittenLine bytes) → (EndsAfter (39 ∷ bytes) after → IsWrittenLine (39 ∷ bytes)) → IsWrittenLine (encode_utf8 c ++ bytes)
first_char c bytes after true quote e f s ends rest pair = absurd (no_line_feed bytes after (subst (λ (l : List ℕ). EndsAfter (l ++ bytes) after) (as_one_byte c 10 (omega arith) e) ends))
first_char c bytes after false true e f s ends rest pair =
    let one = as_one_byte c 39 (omega arith) f in
    subst (λ (l : List ℕ). IsWrittenLine (l ++ bytes)) (sym one) (pair (subst (λ (l : List ℕ). EndsAfter (l ++ bytes) after) one ends))
first_char c bytes after false false e f s ends rest pair = after_char c bytes after s e f ends rest

last_quote : (after : List ℕ) (b : Bool) → begins_with is_quote after ≡ b → EndsAfter (39 ∷ []) after → ⊥
last_quote after false e ends = no_lone_quote [] after e ends
last_quote after true e ends =
    let e : option_map (λ k. 2 + k) (closing (drop 1 after)) ≡ Some 1 = sym (closing_step 39 after ∙ rw e refl) ∙ ends in
    let m = mapped (λ k. 2 + k) (closing (drop 1 after)) 1 e in
    omega (arith, m.2)

second_char : (c : ℕ) (bytes after : List ℕ) (quote : Bool) → is_quote c ≡ quote → EndsAfter (39 ∷ (encode_utf8 c ++ bytes)) after → (EndsAfter bytes after → IsWrittenLine bytes) → IsWrittenLine (39 ∷ (encode_utf8 c ++ bytes))
second_char c bytes after true e ends rest =
    let one = as_one_byte c 39 (omega arith) e in
    subst (λ (l : List ℕ). IsWrittenLine (39 ∷ (l ++ bytes))) (sym one) (after_pair bytes after (subst (λ (l : List ℕ). EndsAfter (39 ∷ (l ++ bytes)) after) one ends) rest)
second_char c bytes after false e ends rest =
    absurd (no_lone_quote (encode_utf8 c ++ bytes) after (ap (begins_with is_quote) (append_assoc (encode_utf8 c) bytes after) ∙ begins_char c (bytes ++ after) e) ends)

-- UTF-8 up to the closing quote is characters as they are written
pub unwrite : (ds after : List ℕ) → all_scalars ds ≡ true → EndsAfter (encode_utf8_all ds) after → IsWrittenLine (encode_utf8_all ds)
unwrite [] after s ends = ([], refl, refl, refl)
unwrite (c ∷ []) after s ends =
    let p = and_parts (scalar c) true s in
    first_char c [] after (is_line_feed c) (is_quote c) refl refl p.0 ends (λ _. ([], refl, refl, refl)) (λ e. absurd (last_quote after (begins_with is_quote after) refl e))
unwrite (c ∷ d ∷ ds) after s ends =
    let p = and_parts (scalar c) (all_scalars (d ∷ ds)) s in
    let q = and_parts (scalar d) (all_scalars ds) p.1 in
    first_char c (encode_utf8_all (d ∷ ds)) after (is_line_feed c) (is_quote c) refl refl p.0 ends (unwrite (d ∷ ds) after p.1)
    (λ e. second_char d (encode_utf8_all ds) after (is_quote d) refl e (unwrite ds after q.1))

abbrev pub IsClosedAt : List ℕ → ℕ → Type 0
IsClosedAt text n = (rest : List ℕ) × (drop n text ≡ 39 ∷ rest) × (begins_with is_quote rest ≡ false)

closed_later : (text longer : List ℕ) (m n : ℕ) → drop n longer ≡ drop m text → IsClosedAt text m → IsClosedAt longer n
closed_later text longer m n same c = (c.0, same ∙ c.1, c.2)

closed_cases : (a b : ℕ) (text : List ℕ) (n : ℕ) → ((m : ℕ) → closing (b ∷ text) ≡ Some m → IsClosedAt (b ∷ text) m) → ((m : ℕ) → closing text ≡ Some m → IsClosedAt text m) → (feed quote pair : Bool)
    → is_quote a ≡ quote → is_quote b ≡ pair
    → cond feed None (cond (not quote) (option_map (λ k. 1 + k) (closing (b ∷ text))) (cond pair (option_map (λ k. 2 + k) (closing text)) (Some 0))) ≡ Some n → IsClosedAt (a ∷ b ∷ text) n
closed_cases a b text n one two true quote pair q p e = cc
closed_cases a b text n one two false false pair q p e =
    let m = mapped (λ k. 1 + k) (closing (b ∷ text)) n e in
    let size : n ≡ suc m.0 = omega (arith, m.2) in
    closed_later (b ∷ text) (a ∷ b ∷ text) m.0 n (ap (λ k. drop k (a ∷ b ∷ text)) size) (one m.0 m.1)
closed_cases a b text n one two false true true q p e =
    let m = mapped (λ k. 2 + k) (closing text) n e in
    let size : n ≡ suc (suc m.0) = omega (arith, m.2) in
    closed_later text (a ∷ b ∷ text) m.0 n (ap (λ k. drop k (a ∷ b ∷ text)) size) (two m.0 m.1)
closed_cases a b text n one two false true false q p e =
    let size : n ≡ 0 = sym (same_Some 0 n e) in
    (b ∷ text, ap (λ k. drop k (a ∷ b ∷ text)) size ∙ ap (λ x. x ∷ b ∷ text) (eqb-true a 39 q), p)

-- the byte at the place that was found is a quote, and the one after it is none
pub closed_at : (text : List ℕ) (n : ℕ) → closing text ≡ Some n → IsClosedAt text n
closed_at [] n e = cc
closed_at (a ∷ []) n e =
    let p = cond_some (is_quote a) 0 n e in
    ([], ap (λ k. drop k (a ∷ [])) (sym p.1) ∙ ap (λ x. x ∷ []) (eqb-true a 39 p.0), refl)
closed_at (a ∷ b ∷ text) n e = closed_cases a b text n (closed_at (b ∷ text)) (closed_at text) (is_line_feed a) (is_quote a) (is_quote b) refl refl e
