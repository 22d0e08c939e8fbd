-- What each command is, and which one words name. Words that are no command are one, too: a line says so.
use Rattle.std.specs.Prelude.{ℕ, List, Option, Some, None}
use Rattle.pgs_answer.specs.Lines.{words_refused_line}
use Rattle.pgs_command.specs.Spec.{CommandSpec}
use Rattle.pgs_command.specs.Words.{refused_words}
use Rattle.pgs_run_check.specs.declared.command.CheckCommand.{CheckCommand}
use Rattle.pgs_run_check.specs.declared.command.CheckCommand.TheVariants.{Schema, Try, Evolve, EvolveStore, Apply}
use Rattle.pgs_run_check.specs.Words.{command_of}
use Rattle.pgs_run_check_evolve.specs.Spec.{check_evolve_spec}
use Rattle.pgs_run_check_evolve.specs.StoreSpec.{check_evolve_store_spec}
use Rattle.pgs_run_check_schema.specs.Spec.{schema_spec}
use Rattle.pgs_run_check_try.specs.Spec.{check_apply_spec, check_try_spec}

abbrev pub spec_of : CheckCommand → CommandSpec
spec_of Schema = schema_spec
spec_of Try = check_try_spec
spec_of Evolve = check_evolve_spec
spec_of EvolveStore = check_evolve_store_spec
spec_of Apply = check_apply_spec

abbrev pub spec_named : Option CheckCommand → CommandSpec
spec_named None = refused_words words_refused_line
spec_named (Some command) = spec_of command

abbrev pub spec_for : (words : List (List ℕ)) → CommandSpec
spec_for words = spec_named (command_of words)
