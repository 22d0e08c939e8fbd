-- How a text's lines grow when more of the text comes.
use Rattle.std.proofs.Common.{◌≡◌, ℕ, zero, suc, ◌≤◌, Bool, true, false, ◌==◌, List, [], ◌∷◌, ◌++◌, length, take, map, ◌+◌, refl, sym, ap, ◌∙◌, append_assoc, arith}
use Rattle.std.proofs.lemmas.List.{map-append}
use Rattle.pgs_run_lines.proofs.Fronts.{front_left, front_none}
use Rattle.pgs_run_lines.specs.Input.{Lines, with_byte, with_front, lines_of, has_no_feed, front_of, fronts_of, kept_of}

-- the lines after a line feed
abbrev pub fed : Lines → Lines
fed lines = record { ended = lines.ended ++ lines.rest ∷ []; rest = [] }

-- the lines after more bytes without a line feed
abbrev pub extended : Lines → List ℕ → Lines
extended lines more = record { ended = lines.ended; rest = lines.rest ++ more }

with_byte_fed : (b : ℕ) (ended : List (List ℕ)) (rest : List ℕ) → with_byte b (ended ++ rest ∷ []) [] ≡ fed (with_byte b ended rest)
with_byte_fed b [] rest = refl
with_byte_fed b (line ∷ lines) rest = refl

with_front_fed : (b : ℕ) (feed : Bool) (lines : Lines) → (b == 10) ≡ feed → with_front b (fed lines) ≡ fed (with_front b lines)
with_front_fed b true lines e = rw e refl
with_front_fed b false lines e = rw e (with_byte_fed b lines.ended lines.rest)

-- a line feed ends the line
pub lines_of_fed : (text : List ℕ) → lines_of (text ++ 10 ∷ []) ≡ fed (lines_of text)
lines_of_fed [] = refl
lines_of_fed (b ∷ text) = ap (with_front b) (lines_of_fed text) ∙ with_front_fed b (b == 10) (lines_of text) refl

with_byte_extended : (b : ℕ) (ended : List (List ℕ)) (rest more : List ℕ) → with_byte b ended (rest ++ more) ≡ extended (with_byte b ended rest) more
with_byte_extended b [] rest more = refl
with_byte_extended b (line ∷ lines) rest more = refl

with_front_extended : (b : ℕ) (feed : Bool) (lines : Lines) (more : List ℕ) → (b == 10) ≡ feed → with_front b (extended lines more) ≡ extended (with_front b lines) more
with_front_extended b true lines more e = rw e refl
with_front_extended b false lines more e = rw e (with_byte_extended b lines.ended lines.rest more)

pub only_rest : (more : List ℕ) → has_no_feed more ≡ true → lines_of more ≡ record { ended = []; rest = more }
only_rest [] none = refl
only_rest (b ∷ more) none = by_byte b more (b == 10) refl none (only_rest more)
  where
    by_byte : (b : ℕ) (more : List ℕ) (feed : Bool) → (b == 10) ≡ feed → has_no_feed (b ∷ more) ≡ true → (has_no_feed more ≡ true → lines_of more ≡ record { ended = []; rest = more }) → lines_of (b ∷ more) ≡ record { ended = []; rest = b ∷ more }
    by_byte b more true e none later = cc (rw e at none)
    by_byte b more false e none later = rw (later (rw e at none)) (rw e refl)

-- bytes without a line feed go on with the line
pub lines_of_extended : (text more : List ℕ) → has_no_feed more ≡ true → lines_of (text ++ more) ≡ extended (lines_of text) more
lines_of_extended [] more none = only_rest more none
lines_of_extended (b ∷ text) more none =
    ap (with_front b) (lines_of_extended text more none) ∙ with_front_extended b (b == 10) (lines_of text) more refl

-- the ended lines go on with these
pub record GoesOn (old new : List (List ℕ)) : Type 0 where
  pub later : List (List ℕ)
  pub is : new ≡ old ++ later

with_byte_goes_on : (b : ℕ) (old new : List (List ℕ)) (old_rest new_rest : List ℕ) → GoesOn old new → GoesOn (with_byte b old old_rest).ended (with_byte b new new_rest).ended
with_byte_goes_on b [] new old_rest new_rest on = record { later = (with_byte b new new_rest).ended; is = refl }
with_byte_goes_on b (line ∷ lines) [] old_rest new_rest on = let e = on.is in absurd (cc)
with_byte_goes_on b (line ∷ lines) (first ∷ more) old_rest new_rest on =
    record { later = on.later; is = let e = on.is in cc }

with_front_goes_on : (b : ℕ) (feed : Bool) (old new : Lines) → (b == 10) ≡ feed → GoesOn old.ended new.ended → GoesOn (with_front b old).ended (with_front b new).ended
with_front_goes_on b true old new e on = rw e (record { later = on.later; is = ap (λ lines. [] ∷ lines) on.is })
with_front_goes_on b false old new e on = rw e (with_byte_goes_on b old.ended new.ended old.rest new.rest on)

-- a longer text has more ended lines behind the same
pub lines_of_goes_on : (text more : List ℕ) → GoesOn (lines_of text).ended (lines_of (text ++ more)).ended
lines_of_goes_on [] more = record { later = (lines_of more).ended; is = refl }
lines_of_goes_on (b ∷ text) more =
    with_front_goes_on b (b == 10) (lines_of text) (lines_of (text ++ more)) refl (lines_of_goes_on text more)

with_byte_few : (b n : ℕ) (ended : List (List ℕ)) (rest : List ℕ) → length ended ≤ n → length (with_byte b ended rest).ended ≤ n
with_byte_few b n [] rest few = omega arith
with_byte_few b n (line ∷ lines) rest few = few

with_front_few : (b n : ℕ) (feed : Bool) (lines : Lines) → (b == 10) ≡ feed → length lines.ended ≤ n → length (with_front b lines).ended ≤ suc n
with_front_few b n true lines e few = rw e (omega arith)
with_front_few b n false lines e few = rw e (let few = with_byte_few b n lines.ended lines.rest few in omega (arith, few))

-- a text has no more ended lines than bytes
pub lines_of_few : (text : List ℕ) → length (lines_of text).ended ≤ length text
lines_of_few [] = omega arith
lines_of_few (b ∷ text) = with_front_few b (length text) (b == 10) (lines_of text) refl (lines_of_few text)

-- ---- a text that goes on

-- these lines, and then the lines of what follows
abbrev pub followed : Lines → Lines → Lines
followed lines more = record { ended = lines.ended ++ more.ended; rest = more.rest }

with_byte_followed : (b : ℕ) (ended : List (List ℕ)) (rest more : List ℕ) → (b == 10) ≡ false → with_byte b (ended ++ (lines_of (rest ++ more)).ended) (lines_of (rest ++ more)).rest ≡ followed (with_byte b ended rest) (lines_of ((with_byte b ended rest).rest ++ more))
with_byte_followed b [] rest more e = rw e refl
with_byte_followed b (line ∷ lines) rest more e = refl

with_front_followed : (b : ℕ) (feed : Bool) (lines : Lines) (more : List ℕ) → (b == 10) ≡ feed → with_front b (followed lines (lines_of (lines.rest ++ more))) ≡ followed (with_front b lines) (lines_of ((with_front b lines).rest ++ more))
with_front_followed b true lines more e = rw e refl
with_front_followed b false lines more e = rw e (with_byte_followed b lines.ended lines.rest more e)

-- the lines of a text that goes on, by its lines and the rest
pub lines_of_more : (text more : List ℕ) → lines_of (text ++ more) ≡ followed (lines_of text) (lines_of ((lines_of text).rest ++ more))
lines_of_more [] more = refl
lines_of_more (b ∷ text) more = ap (with_front b) (lines_of_more text more) ∙ with_front_followed b (b == 10) (lines_of text) more refl

-- ---- the rest

no_feed_byte : (b : ℕ) (rest : List ℕ) → (b == 10) ≡ false → has_no_feed rest ≡ true → has_no_feed (b ∷ rest) ≡ true
no_feed_byte b rest e none = rw (e, none) refl

with_byte_rest : (b : ℕ) (ended : List (List ℕ)) (rest : List ℕ) → (b == 10) ≡ false → has_no_feed rest ≡ true → has_no_feed (with_byte b ended rest).rest ≡ true
with_byte_rest b [] rest e none = no_feed_byte b rest e none
with_byte_rest b (line ∷ lines) rest e none = none

with_front_rest : (b : ℕ) (feed : Bool) (lines : Lines) → (b == 10) ≡ feed → has_no_feed lines.rest ≡ true → has_no_feed (with_front b lines).rest ≡ true
with_front_rest b true lines e none = rw e none
with_front_rest b false lines e none = rw e (with_byte_rest b lines.ended lines.rest e none)

-- the rest has no line feed
pub no_feed_rest : (text : List ℕ) → has_no_feed (lines_of text).rest ≡ true
no_feed_rest [] = refl
no_feed_rest (b ∷ text) = with_front_rest b (b == 10) (lines_of text) refl (no_feed_rest text)

-- these bytes at the front of the first line
abbrev pub with_line : List ℕ → List (List ℕ) → List ℕ → Lines
with_line bytes [] rest = record { ended = []; rest = bytes ++ rest }
with_line bytes (line ∷ lines) rest = record { ended = (bytes ++ line) ∷ lines; rest = rest }

with_no_line : (ended : List (List ℕ)) (rest : List ℕ) → with_line [] ended rest ≡ record { ended = ended; rest = rest }
with_no_line [] rest = refl
with_no_line (line ∷ lines) rest = refl

with_one_more : (b : ℕ) (bytes : List ℕ) (ended : List (List ℕ)) (rest : List ℕ) → with_byte b (with_line bytes ended rest).ended (with_line bytes ended rest).rest ≡ with_line (b ∷ bytes) ended rest
with_one_more b bytes [] rest = refl
with_one_more b bytes (line ∷ lines) rest = refl

-- bytes without a line feed stand at the front of the first line
lines_behind : (bytes more : List ℕ) → has_no_feed bytes ≡ true → lines_of (bytes ++ more) ≡ with_line bytes (lines_of more).ended (lines_of more).rest
lines_behind [] more none = sym (with_no_line (lines_of more).ended (lines_of more).rest)
lines_behind (b ∷ bytes) more none = by_byte (b == 10) refl none (lines_behind bytes more)
  where
    by_byte : (feed : Bool) → (b == 10) ≡ feed → has_no_feed (b ∷ bytes) ≡ true → (has_no_feed bytes ≡ true → lines_of (bytes ++ more) ≡ with_line bytes (lines_of more).ended (lines_of more).rest) → lines_of (b ∷ (bytes ++ more)) ≡ with_line (b ∷ bytes) (lines_of more).ended (lines_of more).rest
    by_byte true e none later = cc (rw e at none)
    by_byte false e none later =
        rw (later (rw e at none)) (rw e (with_one_more b bytes (lines_of more).ended (lines_of more).rest))

no_feed_take : (n : ℕ) (bytes : List ℕ) → has_no_feed bytes ≡ true → has_no_feed (take n bytes) ≡ true
no_feed_take zero bytes none = refl
no_feed_take (suc n) [] none = refl
no_feed_take (suc n) (b ∷ bytes) none = by_byte (b == 10) refl none (no_feed_take n bytes)
  where
    by_byte : (feed : Bool) → (b == 10) ≡ feed → has_no_feed (b ∷ bytes) ≡ true → (has_no_feed bytes ≡ true → has_no_feed (take n bytes) ≡ true) → has_no_feed (b ∷ take n bytes) ≡ true
    by_byte true e none later = cc (rw e at none)
    by_byte false e none later = no_feed_byte b (take n bytes) e (later (rw e at none))

-- nor has its front
pub no_feed_front : (limit : ℕ) (bytes : List ℕ) → has_no_feed bytes ≡ true → has_no_feed (front_of limit bytes) ≡ true
unfolding front_of
no_feed_front limit bytes none = no_feed_take (limit + 1) bytes none

-- ---- fronts

fronts_behind : (limit : ℕ) (bytes : List ℕ) (ended : List (List ℕ)) (rest : List ℕ) → fronts_of limit (with_line bytes ended rest) ≡ fronts_of limit (with_line (front_of limit bytes) ended rest)
fronts_behind limit bytes [] rest = ap (λ (text : List ℕ). let r : Lines = record { ended = []; rest = text } in r) (sym (front_left limit bytes rest))
fronts_behind limit bytes (line ∷ lines) rest =
    ap (λ (text : List ℕ). let r : Lines = record { ended = text ∷ map (front_of limit) lines; rest = front_of limit rest } in r) (sym (front_left limit bytes line))

fronts_followed : (limit : ℕ) (lines more : Lines) → fronts_of limit (followed lines more) ≡ followed (fronts_of limit lines) (fronts_of limit more)
fronts_followed limit lines more =
    ap (λ (ended : List (List ℕ)). let r : Lines = record { ended = ended; rest = front_of limit more.rest } in r) (map-append (front_of limit) lines.ended more.ended)

fronts_of_rest : (limit : ℕ) (rest more : List ℕ) → has_no_feed rest ≡ true → fronts_of limit (lines_of (rest ++ more)) ≡ fronts_of limit (lines_of (front_of limit rest ++ more))
fronts_of_rest limit rest more none =
    ap (fronts_of limit) (lines_behind rest more none) ∙ fronts_behind limit rest (lines_of more).ended (lines_of more).rest
    ∙ ap (fronts_of limit) (sym (lines_behind (front_of limit rest) more (no_feed_front limit rest none)))

-- the kept lines of a text that goes on, by its kept lines and the front of the rest
pub kept_more : (limit : ℕ) (text more : List ℕ) → kept_of limit (text ++ more) ≡ followed (kept_of limit text) (kept_of limit ((kept_of limit text).rest ++ more))
unfolding kept_of
kept_more limit text more =
    ap (fronts_of limit) (lines_of_more text more) ∙ fronts_followed limit (lines_of text) (lines_of ((lines_of text).rest ++ more))
    ∙ ap (followed (fronts_of limit (lines_of text))) (fronts_of_rest limit (lines_of text).rest more (no_feed_rest text))

-- a line without its feed
pub kept_begun : (limit : ℕ) (line part : List ℕ) → has_no_feed line ≡ true → has_no_feed part ≡ true → kept_of limit (line ++ part) ≡ record { ended = []; rest = front_of limit (line ++ part) }
unfolding kept_of
kept_begun limit line part none more = ap (fronts_of limit) (line_begun line part none more)
  where
    line_begun : (line part : List ℕ) → has_no_feed line ≡ true → has_no_feed part ≡ true → lines_of (line ++ part) ≡ record { ended = []; rest = line ++ part }
    line_begun line part none more = lines_of_extended line part more ∙ ap (λ (l : Lines). extended l part) (only_rest line none)

-- a line that was ended by these bytes
pub kept_ended : (limit : ℕ) (line part : List ℕ) → has_no_feed line ≡ true → has_no_feed part ≡ true → kept_of limit (line ++ (part ++ 10 ∷ [])) ≡ record { ended = front_of limit (line ++ part) ∷ []; rest = [] }
unfolding kept_of
kept_ended limit line part none more =
    ap (fronts_of limit)
    (ap lines_of (sym (append_assoc line part (10 ∷ []))) ∙ lines_of_fed (line ++ part)
    ∙ ap fed (lines_of_extended line part more ∙ ap (λ (l : Lines). extended l part) (only_rest line none)))
    ∙ ap (λ (rest : List ℕ). let r : Lines = record { ended = front_of limit (line ++ part) ∷ []; rest = rest } in r) (front_none limit)

-- the kept lines of a longer text go on behind those of its front
pub kept_goes_on : (limit : ℕ) (text more : List ℕ) → GoesOn (kept_of limit text).ended (kept_of limit (text ++ more)).ended
kept_goes_on limit text more =
    record { later = (kept_of limit ((kept_of limit text).rest ++ more)).ended; is = ap (λ (l : Lines). l.ended) (kept_more limit text more) }

-- of no bytes
pub kept_nothing : (limit : ℕ) → kept_of limit [] ≡ record { ended = []; rest = [] }
unfolding kept_of
kept_nothing limit = ap (λ (rest : List ℕ). let r : Lines = record { ended = []; rest = rest } in r) (front_none limit)

no_feed_both : (line part : List ℕ) → has_no_feed line ≡ true → has_no_feed part ≡ true → has_no_feed (line ++ part) ≡ true
no_feed_both line part none more =
    ap has_no_feed (sym (ap (λ (l : Lines). l.rest) (lines_of_extended line part more ∙ ap (λ (l : Lines). extended l part) (only_rest line none)))) ∙ no_feed_rest (line ++ part)

-- the buffer after a part has no line feed
pub no_feed_kept : (limit : ℕ) (line part : List ℕ) → has_no_feed line ≡ true → has_no_feed part ≡ true → has_no_feed (front_of limit (line ++ part)) ≡ true
no_feed_kept limit line part none more = no_feed_front limit (line ++ part) (no_feed_both line part none more)
