use Rattle.std.proofs.Common.{◌≡◌, ◌∙◌, ◌⊎◌, ap, map, subst}
use Rattle.std.proofs.lemmas.Result.{IfOk-weaker}
use Rattle.clap.specs.Words.{App, HasKind, IsAmong, fault_of, found_of, is_simple, is_simple_and_free, kind_of, matches_of, rows_of}
use Rattle.clap.specs.declared.error.kind.ErrorKind.TheVariants.{OutOfMemory}
use Rattle.pgs_run_words.specs.Further.{name_and_feeds, name_and_feeds_found}
use Rattle.pgs_run_words.proofs.Matched.{found_apply}
use Rattle.pgs_run_words.proofs.Faulty.{apply_refuses}
use Rattle.pgs_run_words.proofs.name_and_feeds.read_name_and_feeds.Goals as goal

pub returns-in-Ok : goal.returns-in-Ok
returns-in-Ok c =
    let ws = map (λ w. w.now) c.args.words.now in
    let is = c.in_ok-command.ensures in
    let rows : rows_of (found_of c.in-Ok.matches) ≡ matches_of name_and_feeds ws =
    (c.in-Ok.ensures.matches (ap is_simple is)).0 ∙ ap (λ a. matches_of a ws) is in
    IfOk-weaker c.found_in.result _ _ (λ r h. h ∙ ap name_and_feeds_found rows ∙ found_apply ws c.requires) c.found_in.ensures

pub returns : goal.returns
returns c =
    let ws = map (λ w. w.now) c.args.words.now in
    let is = c.in_ok-command.ensures in
    let kind : (kind_of c.in-Err.error ≡ OutOfMemory) ⊎ IsAmong (kind_of c.in-Err.error) (fault_of name_and_feeds ws) =
    let P : App → Type 0 = λ a. HasKind (fault_of a ws) c.in-Err.error in
    subst P is (c.in-Err.ensures.kinds (ap is_simple_and_free is)) in
    apply_refuses (kind_of c.in-Err.error) ws c.requires (λ e. c.in_default.not-OutOfMemory (c.kind.ensures ∙ e)) kind
