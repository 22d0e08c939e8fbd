use Rattle.std.proofs.Common.{◌≡◌, ◌∙◌, ◌⊎◌, ap, map, subst, sym, codes, []}
use Rattle.clap.specs.Words.{App, HasKind, IsAmong, fault_of, first_of, found_of, is_simple, is_simple_and_free, kind_of, matches_of, rows_of}
use Rattle.clap.specs.declared.error.kind.ErrorKind.TheVariants.{OutOfMemory}
use Rattle.clap.proofs.WalkLemmas.{first_value-rows}
use Rattle.pgs_run_words.specs.Further.{one_word}
use Rattle.pgs_run_words.proofs.Matched.{found_load}
use Rattle.pgs_run_words.proofs.Faulty.{load_refuses}
use Rattle.pgs_run_words.proofs.one_word.read_one_word.Goals as goal

pub returns-in-Ok : goal.returns-in-Ok
returns-in-Ok c =
    let ws = map (λ w. w.now) c.args.words.now in
    let f = found_of c.in-Ok.matches in
    let is = c.in_ok-command.ensures in
    let faultless : fault_of one_word ws ≡ [] = ap (λ a. fault_of a ws) (sym is) ∙ c.in-Ok.ensures.kinds (ap is_simple_and_free is) in
    let rows : rows_of f ≡ matches_of one_word ws = (c.in-Ok.ensures.matches (ap is_simple is)).0 ∙ ap (λ a. matches_of a ws) is in
    c.get_str.ensures ∙ first_value-rows f (codes "NAME") ∙ ap (first_of (codes "NAME")) rows ∙ found_load ws c.requires faultless

pub returns : goal.returns
returns c =
    let ws = map (λ w. w.now) c.args.words.now in
    let is = c.in_ok-command.ensures in
    let kind : (kind_of c.in-Err.error ≡ OutOfMemory) ⊎ IsAmong (kind_of c.in-Err.error) (fault_of one_word ws) =
    let P : App → Type 0 = λ a. HasKind (fault_of a ws) c.in-Err.error in
    subst P is (c.in-Err.ensures.kinds (ap is_simple_and_free is)) in
    load_refuses (kind_of c.in-Err.error) ws c.requires (λ e. c.in_default.not-OutOfMemory (c.kind.ensures ∙ e)) kind
