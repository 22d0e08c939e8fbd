-- What clap finds in plain words.
use Rattle.std.proofs.Common.{◌≡◌, ◌∙◌, sym, ap, refl, true, List, [], ◌∷◌, codes}
use Rattle.clap.specs.Words.{fault_of, first_of, matches_of}
use Rattle.clap.specs.declared.error.kind.ErrorKind.TheVariants.{UnknownArgument}
use Rattle.pgs_run_words.proofs.Faulty.{load_refuses_more}
use Rattle.clap.specs.Walk.{Text, Walk, finished}
use Rattle.clap.proofs.WalkLemmas.{both}
use Rattle.pgs_run_words.specs.Further.{are_plain, name_and_feeds, name_and_feeds_found, name_and_feeds_of, one_word, is_plain, one_of}
use Rattle.pgs_run_words.proofs.Walks.{rules_of_apply, rules_of_load, step_load, step_name, rows_apply}

-- where clap refuses nothing
pub found_load : (words : List Text) → are_plain words ≡ true → fault_of one_word words ≡ [] → first_of (codes "NAME") (matches_of one_word words) ≡ one_of words
found_load [] h faultless = refl
found_load (name ∷ []) h faultless =
    ap (λ (s : Walk). first_of (codes "NAME") (finished rules_of_load s.held)) (step_load name (both (is_plain name) true h).0)
found_load (name ∷ w ∷ ws) h faultless =
    let no : UnknownArgument ∷ [] ≡ [] = sym (load_refuses_more name w ws h) ∙ faultless in
    absurd (cc)

pub found_apply : (words : List Text) → are_plain words ≡ true → name_and_feeds_found (matches_of name_and_feeds words) ≡ name_and_feeds_of words
found_apply [] h = refl
found_apply (name ∷ []) h =
    ap (λ (s : Walk). name_and_feeds_found (finished rules_of_apply s.held)) (step_name name (both (is_plain name) true h).0)
found_apply (name ∷ w ∷ ws) h =
    let p = both (is_plain name) (are_plain (w ∷ ws)) h in
    ap name_and_feeds_found (rows_apply name w ws p.0 p.1)
