use Rattle.std.proofs.Common.{◌∙◌}
use Rattle.pgs_run_words.proofs.SlicesOn.{found_by_now}
use Rattle.pgs_run_words.proofs.command_word.found_in.Goals as goal

pub returns : goal.returns
returns g c = c.first_row.ensures ∙ found_by_now c.args.word.now c.args.rows.now
