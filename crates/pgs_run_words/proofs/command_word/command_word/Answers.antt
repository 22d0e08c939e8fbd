use Rattle.pgs_run_words.proofs.command_word.command_word.Goals as goal

pub returns : goal.returns
returns c = c.found_in.ensures
