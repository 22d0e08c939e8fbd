-- No words, and no other number of them.
use Rattle.std.proofs.Common.{◌≡◌, ◌∙◌, ◌⊎◌, ap, inl, inr, refl, subst, sym, true, false, List, [], ◌∷◌}
use Rattle.clap.specs.Words.{fault_of, IsAmong, Kinds}
use Rattle.clap.specs.Kinds.{or_else}
use Rattle.clap.specs.Simple.{Shape, built}
use Rattle.clap.specs.Faults.{defaults_fault, turn_fault, walk_fault}
use Rattle.clap.specs.Walk.{Text, walked, walk_from, nothing_held}
use Rattle.clap.specs.declared.error.kind.ErrorKind.TheVariants.{OutOfMemory, UnknownArgument}
use Rattle.clap.specs.declared.error.kind.ErrorKind.{ErrorKind}
use Rattle.clap.proofs.WalkLemmas.{both}
use Rattle.pgs_run_words.specs.Further.{are_plain, is_plain, no_word, is_none}
use Rattle.pgs_run_words.proofs.NoFlag.{no_flag}

abbrev top : Shape
top = (built no_word).top

turn_first : (w : Text) → is_plain w ≡ true → turn_fault top [] (walk_from nothing_held) w ≡ UnknownArgument ∷ []
turn_first w h = let f = no_flag w h in rw (f.end, f.long, f.short) refl

first_fails : (w : Text) (ws : List Text) → is_plain w ≡ true
    → (rest : Kinds) → or_else (walk_fault top [] (walk_from nothing_held) (w ∷ ws)) rest ≡ UnknownArgument ∷ []
unfolding walk_fault
first_fails w ws h rest =
    ap (λ fault. or_else (or_else fault (walk_fault top [] (walked top.rules [] (walk_from nothing_held) w) ws)) rest) (turn_first w h)

none_refuses_some : (w : Text) (ws : List Text) → are_plain (w ∷ ws) ≡ true → fault_of no_word (w ∷ ws) ≡ UnknownArgument ∷ []
none_refuses_some w ws h = first_fails w ws (both (is_plain w) (are_plain ws) h).0 _

none_passes : fault_of no_word [] ≡ []
unfolding walk_fault defaults_fault
none_passes = refl

-- where clap refuses nothing
pub found_none : (words : List Text) → are_plain words ≡ true → fault_of no_word words ≡ [] → true ≡ is_none words
found_none [] h faultless = refl
found_none (w ∷ ws) h faultless =
    let no : UnknownArgument ∷ [] ≡ [] = sym (none_refuses_some w ws h) ∙ faultless in
    absurd (cc)

-- an error that is not of memory comes only where there is a word
pub none_refuses : (k : ErrorKind) (words : List Text) → are_plain words ≡ true → (k ≡ OutOfMemory → ⊥)
    → (k ≡ OutOfMemory) ⊎ IsAmong k (fault_of no_word words) → false ≡ is_none words
none_refuses k [] h other (inl memory) = absurd (other memory)
none_refuses k [] h other (inr among) =
    let P : Kinds → Type 0 = IsAmong k in
    absurd (subst P none_passes among)
none_refuses k (w ∷ ws) h other kind = refl
