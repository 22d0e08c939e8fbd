use Rattle.std.proofs.Common.{◌++◌, not, length, sym, ap, ◌∙◌}
use Rattle.pgs_match.specs.Planned.{pattern_of}
use Rattle.pgs_check_affected.specs.declared.known.Known.{Known}
use Rattle.pgs_check_affected.specs.Found.{starts_of, row_in}
use Rattle.pgs_check_affected.specs.Unseen.{is_left_unseen}
use Rattle.pgs_check_affected.proofs.Together.{turn_left, turn_kept}
use Rattle.pgs_check_affected.proofs.gathering.Sought.starts.Goals as goal

pub loop-one-preserved-then-is_left_unseen : goal.loop-one-preserved-then-is_left_unseen
loop-one-preserved-then-is_left_unseen c =
    let resolved = c.args.self.now.compiled.now in
    let key = c.args.self.now.key.now in
    let pattern = pattern_of c.args.self.now.side key in
    record {
      so_far =
          turn_left (λ (one : Known). starts_of resolved pattern one.elem (row_in c.args.is_new one) (length pattern.edge_vars)) (λ one. not (is_left_unseen resolved key one)) c.args.known.now
          c.loop-one.one-index c.one-item.result c.loop-one-test.true (sym c.one-item.is) c.loop-one.starts.items c.loop-one.invariant.so_far
          (ap not (sym c.is_left_unseen.ensures ∙ c.if-is_left_unseen.true));
    }

pub loop-one-preserved : goal.loop-one-preserved
loop-one-preserved c =
    let resolved = c.args.self.now.compiled.now in
    let key = c.args.self.now.key.now in
    let pattern = pattern_of c.args.self.now.side key in
    record {
      so_far =
          turn_kept (λ (one : Known). starts_of resolved pattern one.elem (row_in c.args.is_new one) (length pattern.edge_vars)) (λ one. not (is_left_unseen resolved key one)) c.args.known.now
          c.loop-one.one-index c.one-item.result c.loop-one-test.true (sym c.one-item.is) c.loop-one.starts.items c.loop-one.invariant.so_far _
          (ap not (sym c.is_left_unseen.ensures ∙ c.if-is_left_unseen.false))
          (c.in_ok-add_starts.ensures ∙ ap (λ own. c.loop-one.starts.items ++ starts_of resolved pattern c.one-item.result.elem own (length pattern.edge_vars)) c.row_in.ensures);
    }
