use Rattle.std.proofs.Common.{◌≡◌, ◌∙◌, ap, ap₂, Some, None, codes, option_map, option_and_then, Option}
use Rattle.clap.specs.Words.{Text, first_of, found_of, rows_of}
use Rattle.clap.proofs.WalkLemmas.{first_value-rows}
use Rattle.pgs_run_words.proofs.two_words.words_in.Goals as goal

abbrev couple : Option Text → Option Text → Option (Text × Text)
couple a b = option_and_then (λ first. option_map (λ second. (first, second)) b) a

pub returns-in_default : goal.returns-in_default
returns-in_default c =
    let f = found_of c.args.matches.now in
    let first : None ≡ first_of (codes "FIRST") (rows_of f) = c.in_default.ensures ∙ first_value-rows f (codes "FIRST") in
    ap (λ a. couple a (first_of (codes "SECOND") (rows_of f))) first

pub returns-in_default-get_str : goal.returns-in_default-get_str
returns-in_default-get_str c =
    let f = found_of c.args.matches.now in
    let first : Some c.in-Some.first.now ≡ first_of (codes "FIRST") (rows_of f) = c.in-Some.ensures ∙ first_value-rows f (codes "FIRST") in
    let second : None ≡ first_of (codes "SECOND") (rows_of f) = c.in_default-get_str.ensures ∙ first_value-rows f (codes "SECOND") in
    ap₂ couple first second

pub returns : goal.returns
returns c =
    let f = found_of c.args.matches.now in
    let first : Some c.in-Some.first.now ≡ first_of (codes "FIRST") (rows_of f) = c.in-Some.ensures ∙ first_value-rows f (codes "FIRST") in
    let second : Some c.in-Some-get_str.second.now ≡ first_of (codes "SECOND") (rows_of f) = c.in-Some-get_str.ensures ∙ first_value-rows f (codes "SECOND") in
    ap₂ couple first second
