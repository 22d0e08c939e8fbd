use Rattle.std.proofs.Common.{◌≡◌, ◌∙◌, ap, ap₂, Some, None, codes, map, option_map, unwrap_or, []}
use Rattle.clap.specs.Words.{found_of, rows_of, all_of, first_of}
use Rattle.clap.proofs.WalkLemmas.{first_value-rows, raw_values-rows}
use Rattle.pgs_run_words.proofs.name_and_feeds.found_in.Goals as goal
use Rattle.pgs_run_words.proofs.name_and_feeds.found_in.Goals.{in-Some-get_strs+in_ok-feeds-in-Some-get_strs, in-None}

pub returns-in_default : goal.returns-in_default
returns-in_default c =
    let f = found_of c.args.matches.now in
    let none : None ≡ first_of (codes "NAME") (rows_of f) = c.in_default.ensures ∙ first_value-rows f (codes "NAME") in
    ap (option_map (λ name. (name, unwrap_or (all_of (codes "FEED") (rows_of f)) []))) none

pub returns : goal.returns
returns c =
    let f = found_of c.args.matches.now in
    let name : Some c.in-Some.name.now ≡ first_of (codes "NAME") (rows_of f) = c.in-Some.ensures ∙ first_value-rows f (codes "NAME") in
    let feeds : map (λ s. s.now) c.match-get_strs.feeds.items ≡ unwrap_or (all_of (codes "FEED") (rows_of f)) [] =
    elim c.match-get_strs.branch [
      | in-Some-get_strs+in_ok-feeds-in-Some-get_strs w ↦
          let some : Some (map (λ v. v.now) w.in-Some-get_strs.found.now) ≡ all_of (codes "FEED") (rows_of f) = w.in-Some-get_strs.ensures ∙ raw_values-rows f (codes "FEED") in
          ap (λ v. map (λ s. s.now) v.items) w.feeds-is
          ∙ ap (map (λ s. s.now)) (w.in_ok-feeds-in-Some-get_strs.ensures.items_if_clones_equal (λ x y h. h))
          ∙ ap (λ o. unwrap_or o []) some
      | in-None w ↦
          let none : None ≡ all_of (codes "FEED") (rows_of f) = w.in-None.ensures ∙ raw_values-rows f (codes "FEED") in
          ap (λ v. map (λ s. s.now) v.items) w.feeds-is
          ∙ ap (map (λ s. s.now)) w.new-feeds.ensures.items
          ∙ ap (λ o. unwrap_or o []) none
    ] in
    ap₂ (λ n fs. option_map (λ x. (x, fs)) n) name feeds
