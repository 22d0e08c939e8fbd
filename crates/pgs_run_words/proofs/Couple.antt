-- Two plain words, and no other number of them.
use Rattle.std.proofs.Common.{◌≡◌, ◌∙◌, ◌⊎◌, ap, ap₂, inl, inr, refl, subst, sym, true, false, List, [], ◌∷◌, Some, None, codes, is_some}
use Rattle.clap.specs.Words.{fault_of, IsAmong, Kinds, matches_of}
use Rattle.clap.specs.Kinds.{or_else}
use Rattle.clap.specs.Simple.{Shape, built, entered}
use Rattle.clap.specs.Faults.{check_fault, defaults_fault, entered_fault, settle_fault, turn_fault, walk_fault}
use Rattle.clap.specs.Walk.{Text, Walk, finished, idle, settled, walked, walk_from, nothing_held}
use Rattle.clap.specs.declared.error.kind.ErrorKind.TheVariants.{OutOfMemory, UnknownArgument}
use Rattle.clap.specs.declared.error.kind.ErrorKind.{ErrorKind}
use Rattle.clap.proofs.WalkLemmas.{both}
use Rattle.pgs_run_words.specs.Further.{are_plain, is_plain, two_words, two_found, two_of}
use Rattle.pgs_run_words.proofs.NoFlag.{no_flag}
use Rattle.pgs_run_words.proofs.Walks.{row}

abbrev top : Shape
top = (built two_words).top

abbrev start : Walk
start = walk_from nothing_held

abbrev at_first : Text → Walk
at_first a = record {
  held = record { rows = []; pending = Some (codes "FIRST", a ∷ []); skip = 0 };
  waiting = idle;
  position = 2;
  is_trailing = false;
  stopped = None;
}

abbrev at_second : Text → Text → Walk
at_second a b = record {
  held = record { rows = row (codes "FIRST") (a ∷ []) ∷ []; pending = Some (codes "SECOND", b ∷ []); skip = 0 };
  waiting = idle;
  position = 3;
  is_trailing = false;
  stopped = None;
}

step_a : (a : Text) → is_plain a ≡ true → walked top.rules [] start a ≡ at_first a
unfolding walked
step_a a h = let f = no_flag a h in rw (f.end, f.long, f.short) refl

step_b : (a b : Text) → is_plain b ≡ true → walked top.rules [] (at_first a) b ≡ at_second a b
unfolding walked
step_b a b h = let f = no_flag b h in rw (f.end, f.long, f.short) refl

turn_a : (a : Text) → is_plain a ≡ true → turn_fault top [] start a ≡ []
turn_a a h = let f = no_flag a h in rw (f.end, f.long, f.short) refl

turn_b : (a b : Text) → is_plain b ≡ true → turn_fault top [] (at_first a) b ≡ []
turn_b a b h = let f = no_flag b h in rw (f.end, f.long, f.short) refl

turn_c : (a b c : Text) → is_plain c ≡ true → turn_fault top [] (at_second a b) c ≡ UnknownArgument ∷ []
turn_c a b c h = let f = no_flag c h in rw (f.end, f.long, f.short) refl

-- two_words steps as one equation
both_steps : (a b : Text) → is_plain a ≡ true → is_plain b ≡ true → walked top.rules [] (walked top.rules [] start a) b ≡ at_second a b
both_steps a b h k = ap (λ s. walked top.rules [] s b) (step_a a h) ∙ step_b a b k

later_turn : (a b : Text) → is_plain a ≡ true → is_plain b ≡ true → turn_fault top [] (walked top.rules [] start a) b ≡ []
later_turn a b h k = ap (λ s. turn_fault top [] s b) (step_a a h) ∙ turn_b a b k

third_fails : (a b c : Text) (ws : List Text) → is_plain a ≡ true → is_plain b ≡ true → is_plain c ≡ true
    → (rest : Kinds) → or_else (walk_fault top [] start (a ∷ b ∷ c ∷ ws)) rest ≡ UnknownArgument ∷ []
unfolding walk_fault
third_fails a b c ws h k l rest =
    let s = walked top.rules [] (walked top.rules [] start a) b in
    let third : turn_fault top [] s c ≡ UnknownArgument ∷ [] = ap (λ s. turn_fault top [] s c) (both_steps a b h k) ∙ turn_c a b c l in
    let on : Kinds → Kinds → Kinds → Kinds = λ x y z. or_else (or_else x (or_else y (or_else z (walk_fault top [] (walked top.rules [] s c) ws)))) rest in
    ap₂ (λ x y. on x y (turn_fault top [] s c)) (turn_a a h) (later_turn a b h k) ∙ ap (on [] []) third

pub two_refuses_more : (a b c : Text) (ws : List Text) → are_plain (a ∷ b ∷ c ∷ ws) ≡ true → fault_of two_words (a ∷ b ∷ c ∷ ws) ≡ UnknownArgument ∷ []
two_refuses_more a b c ws h =
    let p = both (is_plain a) (are_plain (b ∷ c ∷ ws)) h in
    let q = both (is_plain b) (are_plain (c ∷ ws)) p.1 in
    third_fails a b c ws p.0 q.0 (both (is_plain c) (are_plain ws) q.1).0 _

abbrev end_of_two : Walk → Kinds → Kinds
end_of_two s on_way =
    let has = is_some (entered (built two_words) s.stopped) in
    or_else on_way (or_else (entered_fault (built two_words) s.stopped) (or_else (settle_fault top.rules false s.held)
    (or_else (defaults_fault (settled top.rules s.held).rows top.rules)
    (check_fault top (finished top.rules s.held) has))))

two_passes : (a b : Text) → is_plain a ≡ true → is_plain b ≡ true → fault_of two_words (a ∷ b ∷ []) ≡ []
unfolding walk_fault defaults_fault
two_passes a b h k = ap₂ end_of_two (both_steps a b h k) (ap₂ (λ x y. or_else x (or_else y [])) (turn_a a h) (later_turn a b h k))

-- where clap refuses nothing
pub found_two : (words : List Text) → are_plain words ≡ true → fault_of two_words words ≡ [] → two_found (matches_of two_words words) ≡ two_of words
found_two [] h faultless = refl
found_two (a ∷ []) h faultless = ap (λ (s : Walk). two_found (finished top.rules s.held)) (step_a a (both (is_plain a) true h).0)
found_two (a ∷ b ∷ []) h faultless =
    let p = both (is_plain a) (are_plain (b ∷ [])) h in
    ap (λ (s : Walk). two_found (finished top.rules s.held)) (both_steps a b p.0 (both (is_plain b) true p.1).0)
found_two (a ∷ b ∷ c ∷ ws) h faultless =
    let no : UnknownArgument ∷ [] ≡ [] = sym (two_refuses_more a b c ws h) ∙ faultless in
    absurd (cc)

-- an error that is not of memory comes only where there are not two_words words
pub two_refuses : (k : ErrorKind) (words : List Text) → are_plain words ≡ true → (k ≡ OutOfMemory → ⊥)
    → (k ≡ OutOfMemory) ⊎ IsAmong k (fault_of two_words words) → None ≡ two_of words
two_refuses k [] h other kind = refl
two_refuses k (a ∷ []) h other kind = refl
two_refuses k (a ∷ b ∷ []) h other (inl memory) = absurd (other memory)
two_refuses k (a ∷ b ∷ []) h other (inr among) =
    let p = both (is_plain a) (are_plain (b ∷ [])) h in
    let P : Kinds → Type 0 = IsAmong k in
    absurd (subst P (two_passes a b p.0 (both (is_plain b) true p.1).0) among)
two_refuses k (a ∷ b ∷ c ∷ ws) h other kind = refl
