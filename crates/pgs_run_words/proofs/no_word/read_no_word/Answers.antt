use Rattle.std.proofs.Common.{◌≡◌, ◌∙◌, ◌⊎◌, ap, map, subst, sym, []}
use Rattle.clap.specs.Words.{App, HasKind, IsAmong, fault_of, is_simple_and_free, kind_of}
use Rattle.clap.specs.declared.error.kind.ErrorKind.TheVariants.{OutOfMemory}
use Rattle.pgs_run_words.specs.Further.{no_word}
use Rattle.pgs_run_words.proofs.Alone.{found_none, none_refuses}
use Rattle.pgs_run_words.proofs.no_word.read_no_word.Goals as goal

pub returns-in-Ok : goal.returns-in-Ok
returns-in-Ok c =
    let ws = map (λ w. w.now) c.args.words.now in
    let is = c.no_word_command-command.ensures in
    let faultless : fault_of no_word ws ≡ [] = ap (λ a. fault_of a ws) (sym is) ∙ c.in-Ok.ensures.kinds (ap is_simple_and_free is) in
    found_none ws c.requires faultless

pub returns : goal.returns
returns c =
    let ws = map (λ w. w.now) c.args.words.now in
    let is = c.no_word_command-command.ensures in
    let kind : (kind_of c.in-Err.error ≡ OutOfMemory) ⊎ IsAmong (kind_of c.in-Err.error) (fault_of no_word ws) =
    let P : App → Type 0 = λ a. HasKind (fault_of a ws) c.in-Err.error in
    subst P is (c.in-Err.ensures.kinds (ap is_simple_and_free is)) in
    none_refuses (kind_of c.in-Err.error) ws c.requires (λ e. c.in_default.not-OutOfMemory (c.kind.ensures ∙ e)) kind
