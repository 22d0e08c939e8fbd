-- The walk over plain words, one step and all of them.
use Rattle.std.proofs.Common.{◌≡◌, ◌∙◌, ap, refl, true, false, List, [], ◌∷◌, ◌++◌, Some, None, codes, fold, append_assoc}
use Rattle.clap.specs.Simple.{built}
use Rattle.clap.specs.Walk.{Row, Rule, Text, Walk, finished, idle, positional, walk, walked, walk_from, nothing_held}
use Rattle.clap.specs.declared.parser.matches.ValueSource.TheVariants.{CommandLine}
use Rattle.clap.specs.declared.builder.value_parser.Reading.TheVariants.{AsWritten}
use Rattle.clap.proofs.WalkLemmas.{both}
use Rattle.pgs_run_words.specs.Further.{are_plain, name_and_feeds, one_word, is_plain}
use Rattle.pgs_run_words.proofs.NoFlag.{no_flag}

abbrev pub rules_of_load : List Rule
rules_of_load = (built one_word).top.rules

abbrev pub rules_of_apply : List Rule
rules_of_apply = (built name_and_feeds).top.rules

abbrev pub row : Text → List Text → Row
row id values = record { id = id; values = values; count = None; source = Some CommandLine; reading = AsWritten }

-- after the name, and after the name and these feeds
abbrev pub at_name : Text → Walk
at_name name = record {
  held = record { rows = []; pending = Some (codes "NAME", name ∷ []); skip = 0 };
  waiting = idle;
  position = 2;
  is_trailing = false;
  stopped = None;
}

abbrev pub feed_rows : List Text → List Row
feed_rows [] = []
feed_rows (v ∷ vs) = row (codes "FEED") (v ∷ vs) ∷ []

abbrev pub at_feed : Text → List Text → Text → Walk
at_feed name feeds last = record {
  held = record { rows = row (codes "NAME") (name ∷ []) ∷ feed_rows feeds; pending = Some (codes "FEED", last ∷ []); skip = 0 };
  waiting = positional;
  position = 2;
  is_trailing = false;
  stopped = None;
}

-- ---- one word

pub step_load : (w : Text) → is_plain w ≡ true → walked rules_of_load [] (walk_from nothing_held) w ≡ at_name w
unfolding walked
step_load w h = let f = no_flag w h in rw (f.end, f.long, f.short) refl

pub step_name : (w : Text) → is_plain w ≡ true → walked rules_of_apply [] (walk_from nothing_held) w ≡ at_name w
unfolding walked
step_name w h = let f = no_flag w h in rw (f.end, f.long, f.short) refl

pub step_first : (name w : Text) → is_plain w ≡ true → walked rules_of_apply [] (at_name name) w ≡ at_feed name [] w
unfolding walked
step_first name w h = let f = no_flag w h in rw (f.end, f.long, f.short) refl

pub step_feed : (name : Text) (feeds : List Text) (last w : Text) → is_plain w ≡ true
    → walked rules_of_apply [] (at_feed name feeds last) w ≡ at_feed name (feeds ++ last ∷ []) w
unfolding walked
step_feed name [] last w h = let f = no_flag w h in rw (f.end, f.long, f.short) refl
step_feed name (v ∷ vs) last w h = let f = no_flag w h in rw (f.end, f.long, f.short) refl

-- ---- all words

abbrev rows_with : Text → List Text → List Row
rows_with name feeds = row (codes "NAME") (name ∷ []) ∷ row (codes "FEED") feeds ∷ []

rows_feed : (name : Text) (feeds : List Text) (last : Text) (ws : List Text) → are_plain ws ≡ true
    → finished rules_of_apply (fold (walked rules_of_apply []) (at_feed name feeds last) ws).held ≡ rows_with name (feeds ++ last ∷ ws)
rows_feed name [] last [] h = refl
rows_feed name (v ∷ vs) last [] h = refl
rows_feed name feeds last (w ∷ ws) h =
    let p = both (is_plain w) (are_plain ws) h in
    ap (λ s. finished rules_of_apply (fold (walked rules_of_apply []) s ws).held) (step_feed name feeds last w p.0)
    ∙ rows_feed name (feeds ++ last ∷ []) w ws p.1
    ∙ ap (rows_with name) (append_assoc feeds (last ∷ []) (w ∷ ws))

pub rows_apply : (name w : Text) (ws : List Text) → is_plain name ≡ true → are_plain (w ∷ ws) ≡ true
    → finished rules_of_apply (walk rules_of_apply [] nothing_held (name ∷ w ∷ ws)).held ≡ rows_with name (w ∷ ws)
rows_apply name w ws h k =
    let p = both (is_plain w) (are_plain ws) k in
    let on : Walk → List Row = λ s. finished rules_of_apply (fold (walked rules_of_apply []) s ws).held in
    ap (λ s. on (walked rules_of_apply [] s w)) (step_name name h)
    ∙ ap on (step_first name w p.0)
    ∙ rows_feed name [] w ws p.1
