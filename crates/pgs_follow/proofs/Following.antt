-- How what is followed goes on when more bytes come.
use Rattle.std.proofs.Common.{◌≡◌, ℕ, ◌+◌, ◌<◌, Bool, true, false, ◌==◌, nat_lt, ◌⊎◌, inl, inr, List, [], ◌∷◌, ◌++◌, length, Option, Some, None, is_some, Err, refl, sym, ap, ◌∙◌, append_assoc, length-append, arith}
use Rattle.std.proofs.lemmas.Bool.{lt-ltb}
use Rattle.std.proofs.lemmas.Bool.Decides.{nat_tests}
use Rattle.pgs_base.specs.declared.limits.Limits.{Limits}
use Rattle.pgs_json.specs.declared.commit.TheConstants.{COMMIT_LIMIT}
use Rattle.pgs_json.specs.declared.commit_fault.CommitFault.TheVariants as commits
use Rattle.pgs_json.specs.Commit.{read_commit_line}
use Rattle.pgs_run_lines.specs.Input.{Lines, with_byte, lines_of, has_no_feed}
use Rattle.pgs_run_lines.proofs.Cutting.{fed, extended, lines_of_fed, lines_of_extended, no_feed_rest}
use Rattle.pgs_run_lines.proofs.Cutting as cutting
use Rattle.pgs_follow.specs.declared.fault.FollowFault.TheVariants.{LineTooLong}
use Rattle.pgs_follow.specs.declared.fault.FollowFault.{FollowFault}
use Rattle.pgs_follow.specs.Followed.{Followed, nothing_followed, faulted, after_line, after_lines, with_rest, followed}

-- ---- after a fault

after_line_fault : (limits : Limits) (f : Followed) (line : List ℕ) → is_some f.fault ≡ true → after_line limits f line ≡ f
after_line_fault limits f line h = rw h refl

pub after_lines_fault : (limits : Limits) (f : Followed) (lines : List (List ℕ)) → is_some f.fault ≡ true → after_lines limits f lines ≡ f
after_lines_fault limits f [] h = refl
after_lines_fault limits f (line ∷ lines) h =
    ap (λ (g : Followed). after_lines limits g lines) (after_line_fault limits f line h) ∙ after_lines_fault limits f lines h

pub with_rest_fault : (f : Followed) (rest : List ℕ) → is_some f.fault ≡ true → with_rest f rest ≡ f
with_rest_fault f rest h = rw h refl

-- ---- without one

pub after_lines_both : (limits : Limits) (f : Followed) (lines more : List (List ℕ)) → after_lines limits f (lines ++ more) ≡ after_lines limits (after_lines limits f lines) more
after_lines_both limits f [] more = refl
after_lines_both limits f (line ∷ lines) more = after_lines_both limits (after_line limits f line) lines more

-- an unfinished line is told by its length alone
by_length : (f : Followed) (rest : List ℕ) (ended long : Bool) → is_some f.fault ≡ ended → nat_lt COMMIT_LIMIT (length rest) ≡ long → is_some (with_rest f rest).fault ≡ false → with_rest f rest ≡ f
by_length f rest true long e l none = rw e refl
by_length f rest false true e l none = cc (rw (e, l) at none)
by_length f rest false false e l none = rw (e, l) refl

pub with_rest_none : (f : Followed) (rest : List ℕ) → is_some (with_rest f rest).fault ≡ false → with_rest f rest ≡ f
with_rest_none f rest none = by_length f rest (is_some f.fault) (nat_lt COMMIT_LIMIT (length rest)) refl refl none

with_no_rest_by : (f : Followed) (ended : Bool) → is_some f.fault ≡ ended → with_rest f [] ≡ f
with_no_rest_by f true e = rw e refl
with_no_rest_by f false e = rw e refl

pub with_no_rest : (f : Followed) → with_rest f [] ≡ f
with_no_rest f = with_no_rest_by f (is_some f.fault) refl

-- ---- of all bytes

-- what is followed of the ended lines
abbrev pub of_ended : Limits → List ℕ → Followed
of_ended limits bytes = after_lines limits nothing_followed (lines_of bytes).ended

pub followed_is : (limits : Limits) (bytes : List ℕ) → followed limits bytes ≡ with_rest (of_ended limits bytes) (lines_of bytes).rest
unfolding followed
followed_is limits bytes = refl

-- a text that has these lines
followed_lines : (limits : Limits) (bytes : List ℕ) (lines : Lines) → lines_of bytes ≡ lines → followed limits bytes ≡ with_rest (after_lines limits nothing_followed lines.ended) lines.rest
followed_lines limits bytes lines e = followed_is limits bytes ∙ ap (λ (l : Lines). with_rest (after_lines limits nothing_followed l.ended) l.rest) e

-- without a fault it is what the ended lines give
pub followed_none : (limits : Limits) (bytes : List ℕ) → is_some (followed limits bytes).fault ≡ false → followed limits bytes ≡ of_ended limits bytes
followed_none limits bytes none =
    let e = followed_is limits bytes in e ∙ with_rest_none (of_ended limits bytes) (lines_of bytes).rest (rw e at none)

-- bytes without a line feed go on with the unfinished line
pub followed_kept : (limits : Limits) (bytes part : List ℕ) → has_no_feed part ≡ true → followed limits (bytes ++ part) ≡ with_rest (of_ended limits bytes) ((lines_of bytes).rest ++ part)
followed_kept limits bytes part none = followed_lines limits (bytes ++ part) (extended (lines_of bytes) part) (lines_of_extended bytes part none)

pub lines_ended : (bytes part : List ℕ) → has_no_feed part ≡ true → lines_of (bytes ++ (part ++ 10 ∷ [])) ≡ fed (extended (lines_of bytes) part)
lines_ended bytes part none =
    ap lines_of (sym (append_assoc bytes part (10 ∷ []))) ∙ lines_of_fed (bytes ++ part) ∙ ap fed (lines_of_extended bytes part none)

-- with a line feed behind them they end it
pub followed_ended : (limits : Limits) (bytes part : List ℕ) → has_no_feed part ≡ true → followed limits (bytes ++ (part ++ 10 ∷ [])) ≡ after_line limits (of_ended limits bytes) ((lines_of bytes).rest ++ part)
followed_ended limits bytes part none =
    followed_lines limits (bytes ++ (part ++ 10 ∷ [])) (fed (extended (lines_of bytes) part)) (lines_ended bytes part none)
    ∙ with_no_rest (after_lines limits nothing_followed ((lines_of bytes).ended ++ ((lines_of bytes).rest ++ part) ∷ []))
    ∙ after_lines_both limits nothing_followed (lines_of bytes).ended (((lines_of bytes).rest ++ part) ∷ [])

-- ---- a fault stays

-- the lines of a text that goes on, where the unfinished line goes on
goes_on : (bytes more : List ℕ) → lines_of (bytes ++ more) ≡ cutting.followed (lines_of bytes) (lines_of ((lines_of bytes).rest ++ more))
goes_on bytes more = cutting.lines_of_more bytes more

-- bytes without a line feed stand at the front of the first line behind them, ended or not
record StandsAhead (rest : List ℕ) (lines : Lines) : Type 0 where
  more : List ℕ
  later : List (List ℕ)
  is : (lines ≡ record { ended = []; rest = rest ++ more }) ⊎ (lines.ended ≡ (rest ++ more) ∷ later)

with_byte_ahead : (b : ℕ) (rest : List ℕ) (lines : Lines) → StandsAhead rest lines → StandsAhead (b ∷ rest) (with_byte b lines.ended lines.rest)
with_byte_ahead b rest lines ahead = elim ahead.is [
  | inl e ↦ record { more = ahead.more; later = ahead.later; is = inl (rw e refl) }
  | inr e ↦ record { more = ahead.more; later = ahead.later; is = inr (rw e refl) }
]

lines_ahead : (rest more : List ℕ) → has_no_feed rest ≡ true → StandsAhead rest (lines_of (rest ++ more))
lines_ahead [] more none = at_front (lines_of more)
  where
    at_front : (lines : Lines) → StandsAhead [] lines
    at_front lines = by_ended lines.ended lines.rest
      where
        by_ended : (ended : List (List ℕ)) (rest : List ℕ) → StandsAhead [] (record { ended = ended; rest = rest })
        by_ended [] rest = record { more = rest; later = []; is = inl refl }
        by_ended (line ∷ lines) rest = record { more = line; later = lines; is = inr refl }
lines_ahead (b ∷ rest) more none = by_byte (b == 10) refl none (lines_ahead rest more)
  where
    by_byte : (feed : Bool) → (b == 10) ≡ feed → has_no_feed (b ∷ rest) ≡ true → (has_no_feed rest ≡ true → StandsAhead rest (lines_of (rest ++ more))) → StandsAhead (b ∷ rest) (lines_of (b ∷ (rest ++ more)))
    by_byte true e none later = cc (rw e at none)
    by_byte false e none later = rw e (with_byte_ahead b rest (lines_of (rest ++ more)) (later (rw e at none)))

long_line : (line more : List ℕ) → COMMIT_LIMIT < length line → read_commit_line (line ++ more) ≡ Err commits.LineTooLong
unfolding read_commit_line
long_line line more long = rw (lt-ltb COMMIT_LIMIT (length (line ++ more)) (simp length-append (omega arith))) refl

-- the fault of an unfinished line is that of the line, however it goes on
long_goes_on : (limits : Limits) (f : Followed) (rest : List ℕ) (lines : Lines) → is_some f.fault ≡ false → COMMIT_LIMIT < length rest → StandsAhead rest lines
    → with_rest (after_lines limits f lines.ended) lines.rest ≡ faulted f (LineTooLong (f.lines + 1))
long_goes_on limits f rest lines none long ahead = elim ahead.is [
  | inl e ↦ rw (e, none, lt-ltb COMMIT_LIMIT (length (rest ++ ahead.more)) (simp length-append (omega arith))) refl
  | inr e ↦
      let first : after_line limits f (rest ++ ahead.more) ≡ faulted f (LineTooLong (f.lines + 1)) = rw (none, long_line rest ahead.more long) refl in
      ap (λ (ls : List (List ℕ)). with_rest (after_lines limits f ls) lines.rest) e
      ∙ ap (λ (g : Followed). with_rest (after_lines limits g ahead.later) lines.rest) first
      ∙ ap (λ (g : Followed). with_rest g lines.rest) (after_lines_fault limits (faulted f (LineTooLong (f.lines + 1))) ahead.later refl)
]

too_long_rest : (f : Followed) (rest : List ℕ) → is_some f.fault ≡ false → nat_lt COMMIT_LIMIT (length rest) ≡ true → with_rest f rest ≡ faulted f (LineTooLong (f.lines + 1))
too_long_rest f rest e l = rw (e, l) refl

short_rest : (f : Followed) (rest : List ℕ) → is_some f.fault ≡ false → nat_lt COMMIT_LIMIT (length rest) ≡ false → with_rest f rest ≡ f
short_rest f rest e l = rw (e, l) refl

-- what was followed of the ended lines ends by a fault, or the unfinished line is too long, or there is no fault
stays_by : (limits : Limits) (bytes more : List ℕ) (ended long : Bool) → is_some (of_ended limits bytes).fault ≡ ended → nat_lt COMMIT_LIMIT (length (lines_of bytes).rest) ≡ long
    → is_some (followed limits bytes).fault ≡ true → followed limits (bytes ++ more) ≡ followed limits bytes
stays_by limits bytes more true long e l fault =
    let f = of_ended limits bytes in
    let later = lines_of ((lines_of bytes).rest ++ more) in
    followed_lines limits (bytes ++ more) (cutting.followed (lines_of bytes) later) (goes_on bytes more)
    ∙ ap (λ (g : Followed). with_rest g later.rest)
    (after_lines_both limits nothing_followed (lines_of bytes).ended later.ended ∙ after_lines_fault limits f later.ended e)
    ∙ with_rest_fault f later.rest e ∙ sym (with_rest_fault f (lines_of bytes).rest e) ∙ sym (followed_is limits bytes)
stays_by limits bytes more false true e l fault =
    let f = of_ended limits bytes in
    let later = lines_of ((lines_of bytes).rest ++ more) in
    let long : COMMIT_LIMIT < length (lines_of bytes).rest = grind (arith, nat_tests) in
    followed_lines limits (bytes ++ more) (cutting.followed (lines_of bytes) later) (goes_on bytes more)
    ∙ ap (λ (g : Followed). with_rest g later.rest) (after_lines_both limits nothing_followed (lines_of bytes).ended later.ended)
    ∙ long_goes_on limits f (lines_of bytes).rest later e long (lines_ahead (lines_of bytes).rest more (no_feed_rest bytes))
    ∙ sym (too_long_rest f (lines_of bytes).rest e l) ∙ sym (followed_is limits bytes)
stays_by limits bytes more false false e l fault =
    let same : followed limits bytes ≡ of_ended limits bytes = followed_is limits bytes ∙ short_rest (of_ended limits bytes) (lines_of bytes).rest e l in
    let no : true ≡ false = sym fault ∙ ap (λ (g : Followed). is_some g.fault) same ∙ e in
    cc

pub fault_stays : (limits : Limits) (bytes more : List ℕ) → is_some (followed limits bytes).fault ≡ true → followed limits (bytes ++ more) ≡ followed limits bytes
fault_stays limits bytes more fault =
    stays_by limits bytes more (is_some (of_ended limits bytes).fault) (nat_lt COMMIT_LIMIT (length (lines_of bytes).rest)) refl refl fault

-- ---- the unfinished line tells the rest

same_by : (limits : Limits) (bytes other more : List ℕ) (fault : Bool) → is_some (followed limits bytes).fault ≡ fault → followed limits bytes ≡ followed limits other
    → ((followed limits bytes).fault ≡ None → (lines_of bytes).rest ≡ (lines_of other).rest) → followed limits (bytes ++ more) ≡ followed limits (other ++ more)
same_by limits bytes other more true e same rests =
    fault_stays limits bytes more e ∙ same ∙ sym (fault_stays limits other more (ap (λ (g : Followed). is_some g.fault) (sym same) ∙ e))
same_by limits bytes other more false e same rests =
    let later = lines_of ((lines_of bytes).rest ++ more) in
    let rest : (lines_of bytes).rest ≡ (lines_of other).rest = rests (none_of (followed limits bytes).fault e) in
    let ended : of_ended limits bytes ≡ of_ended limits other = sym (followed_none limits bytes e) ∙ same ∙ followed_none limits other (ap (λ (g : Followed). is_some g.fault) (sym same) ∙ e) in
    by_more bytes
    ∙ ap (λ (g : Followed). with_rest (after_lines limits g later.ended) later.rest) ended
    ∙ ap (λ (r : List ℕ). with_rest (after_lines limits (of_ended limits other) (lines_of (r ++ more)).ended) (lines_of (r ++ more)).rest) rest
    ∙ sym (by_more other)
  where
    none_of : (o : Option FollowFault) → is_some o ≡ false → o ≡ None
    none_of None h = refl
    none_of (Some x) h = cc

    by_more : (text : List ℕ) → followed limits (text ++ more) ≡ with_rest (after_lines limits (of_ended limits text) (lines_of ((lines_of text).rest ++ more)).ended) (lines_of ((lines_of text).rest ++ more)).rest
    by_more text =
        let later = lines_of ((lines_of text).rest ++ more) in
        followed_lines limits (text ++ more) (cutting.followed (lines_of text) later) (goes_on text more)
        ∙ ap (λ (g : Followed). with_rest g later.rest) (after_lines_both limits nothing_followed (lines_of text).ended later.ended)

pub same_later : (limits : Limits) (bytes other more : List ℕ) → followed limits bytes ≡ followed limits other
    → ((followed limits bytes).fault ≡ None → (lines_of bytes).rest ≡ (lines_of other).rest) → followed limits (bytes ++ more) ≡ followed limits (other ++ more)
same_later limits bytes other more same rests = same_by limits bytes other more (is_some (followed limits bytes).fault) refl same rests

-- ---- a line that is too long

pub long_ends : (limits : Limits) (f : Followed) (line part : List ℕ) → is_some f.fault ≡ false → COMMIT_LIMIT < length line + length part
    → after_line limits f (line ++ part) ≡ faulted f (LineTooLong (f.lines + 1))
unfolding read_commit_line
long_ends limits f line part none long = rw (none, lt-ltb COMMIT_LIMIT (length (line ++ part)) (simp length-append (omega arith))) refl
