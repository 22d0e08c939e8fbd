use Rattle.std.proofs.Common.{◌∙◌, sym}
use Rattle.std.proofs.lemmas.List.Folds.{list_all-map}
use Rattle.pgs_run_words.specs.Further.{is_plain}
use Rattle.pgs_run_words.proofs.plain.are_plain.Goals as goal

pub returns : goal.returns
returns c = c.all_plain.ensures ∙ sym (list_all-map is_plain (λ w. w.now) c.args.words.now)
