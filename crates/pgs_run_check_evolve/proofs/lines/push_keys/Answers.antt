use Rattle.std.proofs.Common.{ℕ, ◌+◌, List, ◌++◌, Option, ap, ◌∙◌, arith}
use Rattle.std.proofs.lemmas.List.{take_more}
use Rattle.pgs_run_check_evolve.specs.Lines.{line_at}
use Rattle.pgs_run_check_evolve.proofs.Numbered.{key_pushed}
use Rattle.pgs_run_check_evolve.proofs.lines.push_keys.Goals as goal

pub loop-flag-preserved : goal.loop-flag-preserved
loop-flag-preserved c =
    let flags = c.args.flags.now in
    let i = c.loop-flag.flag-index in
    let so_far = c.loop-flag.invariant.number in
    record {
      number = omega arith;
      lines = key_pushed c.args.keys flags i (c.loop-flag.number + 1) _ (take_more flags i _ c.loop-flag-test.true) c.loop-flag-test.true (omega arith) c.args.lines.now.items c.loop-flag.lines.items c.push_line.new.lines.items
          c.loop-flag.invariant.lines
          (c.in_ok-push_line.ensures ∙ ap (λ (word : Option (List ℕ)). c.loop-flag.lines.items ++ line_at word (c.loop-flag.number + 1)) c.word_of.ensures);
    }
