-- What each command is, and which one words name. Words that are no command are one, too: a line says so.
use Rattle.std.specs.Prelude.{ℕ, List, Option, Some, None}
use Rattle.pgs_answer.specs.Lines.{words_refused_line}
use Rattle.pgs_command.specs.Spec.{CommandSpec}
use Rattle.pgs_command.specs.Words.{refused_words}
use Rattle.pgs_run_apply.specs.Spec.{apply_spec}
use Rattle.pgs_run_contain.specs.Spec.{contain_spec}
use Rattle.pgs_run_gen.specs.Spec.{gen_spec}
use Rattle.pgs_run_renewal.specs.CheckpointSpec.{checkpoint_spec}
use Rattle.pgs_run_renewal.specs.EvolveSpec.{evolve_spec}
use Rattle.pgs_run_renewal.specs.LoadSpec.{load_spec}
use Rattle.pgs_run_store.specs.Dump.{told_dump}
use Rattle.pgs_run_store.specs.Explaining.{told_element}
use Rattle.pgs_run_store.specs.Spec.{reader_spec}
use Rattle.pgs_run_try.specs.declared.judging.Judging.TheVariants.{EachLine, AtEnd}
use Rattle.pgs_run_try.specs.Spec.{judging_spec}
use Rattle.pgs_run_words.specs.declared.command.Command.{Command}
use Rattle.pgs_run_words.specs.declared.command.Command.TheVariants.{Try, Validate, Load, Apply, Recover, Explain, Gen, Checkpoint, Contain, Evolve}
use Rattle.pgs_run_words.specs.Words.{command_of}

abbrev pub spec_of : Command → CommandSpec
spec_of Try = judging_spec EachLine
spec_of Validate = judging_spec AtEnd
spec_of Load = load_spec
spec_of Apply = apply_spec
spec_of Recover = reader_spec told_dump
spec_of (Explain elem) = reader_spec (told_element elem)
spec_of (Gen workload) = gen_spec workload.0 workload.1
spec_of Checkpoint = checkpoint_spec
spec_of Contain = contain_spec
spec_of Evolve = evolve_spec

abbrev pub spec_named : Option Command → CommandSpec
spec_named None = refused_words words_refused_line
spec_named (Some command) = spec_of command

abbrev pub spec_for : (words : List (List ℕ)) → CommandSpec
spec_for words = spec_named (command_of words)
