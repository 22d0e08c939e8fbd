-- Which numbers of plain words clap refuses.
use Rattle.std.proofs.Common.{◌≡◌, ◌∙◌, ap, ap₂, fold, refl, subst, None, ◌⊎◌, inl, inr, true, false, List, [], ◌∷◌, ◌++◌, is_some}
use Rattle.clap.specs.Words.{fault_of, IsAmong, Kinds}
use Rattle.clap.specs.Kinds.{or_else}
use Rattle.clap.specs.Simple.{Shape, built, entered}
use Rattle.clap.specs.Faults.{check_fault, defaults_fault, entered_fault, settle_fault, turn_fault, walk_fault}
use Rattle.clap.specs.Walk.{Text, Walk, finished, settled, walked, walk_from, nothing_held}
use Rattle.clap.specs.declared.error.kind.ErrorKind.TheVariants.{OutOfMemory, UnknownArgument}
use Rattle.clap.specs.declared.error.kind.ErrorKind.{ErrorKind}
use Rattle.clap.proofs.WalkLemmas.{both}
use Rattle.pgs_run_words.specs.Further.{are_plain, name_and_feeds, name_and_feeds_of, one_word, is_plain, one_of}
use Rattle.pgs_run_words.proofs.NoFlag.{no_flag}
use Rattle.pgs_run_words.proofs.Walks.{at_feed, at_name, rules_of_apply, rules_of_load, step_load, step_name, step_first, step_feed}

abbrev top_of_load : Shape
top_of_load = (built one_word).top

abbrev top_of_apply : Shape
top_of_apply = (built name_and_feeds).top

-- ---- one word

turn_load : (w : Text) → is_plain w ≡ true → turn_fault top_of_load [] (walk_from nothing_held) w ≡ []
turn_load w h = let f = no_flag w h in rw (f.end, f.long, f.short) refl

turn_more : (name w : Text) → is_plain w ≡ true → turn_fault top_of_load [] (at_name name) w ≡ UnknownArgument ∷ []
turn_more name w h = let f = no_flag w h in rw (f.end, f.long, f.short) refl

turn_name : (w : Text) → is_plain w ≡ true → turn_fault top_of_apply [] (walk_from nothing_held) w ≡ []
turn_name w h = let f = no_flag w h in rw (f.end, f.long, f.short) refl

turn_first : (name w : Text) → is_plain w ≡ true → turn_fault top_of_apply [] (at_name name) w ≡ []
turn_first name w h = let f = no_flag w h in rw (f.end, f.long, f.short) refl

turn_feed : (name : Text) (feeds : List Text) (last w : Text) → is_plain w ≡ true → turn_fault top_of_apply [] (at_feed name feeds last) w ≡ []
turn_feed name feeds last w h = let f = no_flag w h in rw (f.end, f.long, f.short) refl

-- ---- all words of `name_and_feeds`

-- the faults, from what the words met and where they ended
abbrev end_of_apply : Kinds → Walk → Kinds
end_of_apply on_way s =
    let has = is_some (entered (built name_and_feeds) s.stopped) in
    or_else on_way (or_else (entered_fault (built name_and_feeds) s.stopped) (or_else (settle_fault rules_of_apply false s.held)
    (or_else (defaults_fault (settled rules_of_apply s.held).rows rules_of_apply)
    (check_fault top_of_apply (finished rules_of_apply s.held) has))))

-- the faults of the words from a place on
abbrev faults_from : List Text → Walk → Kinds
faults_from ws s = end_of_apply (walk_fault top_of_apply [] s ws) (fold (walked rules_of_apply []) s ws)

feeds_pass : (name : Text) (feeds : List Text) (last : Text) (ws : List Text) → are_plain ws ≡ true → faults_from ws (at_feed name feeds last) ≡ []
unfolding walk_fault defaults_fault
feeds_pass name [] last [] h = refl
feeds_pass name (v ∷ vs) last [] h = refl
feeds_pass name feeds last (w ∷ ws) h =
    let p = both (is_plain w) (are_plain ws) h in
    ap₂ (λ fault s. end_of_apply (or_else fault (walk_fault top_of_apply [] s ws)) (fold (walked rules_of_apply []) s ws))
    (turn_feed name feeds last w p.0) (step_feed name feeds last w p.0)
    ∙ feeds_pass name (feeds ++ last ∷ []) w ws p.1

after_name : (name : Text) (ws : List Text) → are_plain ws ≡ true → faults_from ws (at_name name) ≡ []
unfolding walk_fault defaults_fault
after_name name [] h = refl
after_name name (w ∷ ws) h =
    let p = both (is_plain w) (are_plain ws) h in
    ap₂ (λ fault s. end_of_apply (or_else fault (walk_fault top_of_apply [] s ws)) (fold (walked rules_of_apply []) s ws))
    (turn_first name w p.0) (step_first name w p.0)
    ∙ feeds_pass name [] w ws p.1

pub apply_passes : (name : Text) (feeds : List Text) → are_plain (name ∷ feeds) ≡ true → fault_of name_and_feeds (name ∷ feeds) ≡ []
unfolding walk_fault
apply_passes name feeds h =
    let p = both (is_plain name) (are_plain feeds) h in
    ap₂ (λ fault s. end_of_apply (or_else fault (walk_fault top_of_apply [] s feeds)) (fold (walked rules_of_apply []) s feeds))
    (turn_name name p.0) (step_name name p.0)
    ∙ after_name name feeds p.1

-- an error that is not of memory comes only where there is no word
pub apply_refuses : (k : ErrorKind) (words : List Text) → are_plain words ≡ true → (k ≡ OutOfMemory → ⊥)
    → (k ≡ OutOfMemory) ⊎ IsAmong k (fault_of name_and_feeds words) → None ≡ name_and_feeds_of words
apply_refuses k [] h other kind = refl
apply_refuses k (name ∷ feeds) h other (inl memory) = absurd (other memory)
apply_refuses k (name ∷ feeds) h other (inr among) =
    let P : Kinds → Type 0 = IsAmong k in
    absurd (subst P (apply_passes name feeds h) among)

-- ---- `one_word`

more_fail : (name w : Text) (ws : List Text) → is_plain name ≡ true → is_plain w ≡ true
    → (rest : Kinds) → or_else (walk_fault top_of_load [] (walk_from nothing_held) (name ∷ w ∷ ws)) rest ≡ UnknownArgument ∷ []
unfolding walk_fault
more_fail name w ws h k rest =
    let on : Walk → Kinds = λ s. walk_fault top_of_load [] (walked rules_of_load [] s w) ws in
    ap₂ (λ first later. or_else (or_else first later) rest) (turn_load name h)
    (ap (λ (s : Walk). or_else (turn_fault top_of_load [] s w) (on s)) (step_load name h)
    ∙ ap (λ fault. or_else fault (on (at_name name))) (turn_more name w k))

pub load_refuses_more : (name w : Text) (ws : List Text) → are_plain (name ∷ w ∷ ws) ≡ true → fault_of one_word (name ∷ w ∷ ws) ≡ UnknownArgument ∷ []
load_refuses_more name w ws h =
    let p = both (is_plain name) (are_plain (w ∷ ws)) h in
    more_fail name w ws p.0 (both (is_plain w) (are_plain ws) p.1).0 _

abbrev end_of_load : Walk → Kinds → Kinds
end_of_load s on_way =
    let has = is_some (entered (built one_word) s.stopped) in
    or_else on_way (or_else (entered_fault (built one_word) s.stopped) (or_else (settle_fault rules_of_load false s.held)
    (or_else (defaults_fault (settled rules_of_load s.held).rows rules_of_load)
    (check_fault top_of_load (finished rules_of_load s.held) has))))

load_passes : (name : Text) → is_plain name ≡ true → fault_of one_word (name ∷ []) ≡ []
unfolding walk_fault defaults_fault
load_passes name h = ap₂ end_of_load (step_load name h) (ap (λ k. or_else k []) (turn_load name h))

-- an error that is not of memory comes only where there is not one word
pub load_refuses : (k : ErrorKind) (words : List Text) → are_plain words ≡ true → (k ≡ OutOfMemory → ⊥)
    → (k ≡ OutOfMemory) ⊎ IsAmong k (fault_of one_word words) → None ≡ one_of words
load_refuses k [] h other kind = refl
load_refuses k (name ∷ []) h other (inl memory) = absurd (other memory)
load_refuses k (name ∷ []) h other (inr among) =
    let P : Kinds → Type 0 = IsAmong k in
    absurd (subst P (load_passes name (both (is_plain name) true h).0) among)
load_refuses k (name ∷ w ∷ ws) h other kind = refl
