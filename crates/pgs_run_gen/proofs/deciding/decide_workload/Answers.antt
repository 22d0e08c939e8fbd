use Rattle.std.proofs.Common.{true, false, refl, sym, ap, ap₂, ◌∙◌, add-zero, arith}
use Rattle.std.specs.Result.{is_ok}
use Rattle.pgs_violation.specs.Decision.{decide, graph_after}
use Rattle.pgs_violation.specs.Violations.{verdict}
use Rattle.pgs_run_gen.specs.Workload.{graph_left, accepted_of, rejected_of}
use Rattle.pgs_run_gen.proofs.Decided.{decided_none, accepted_few, rejected_few, graph_more, accepted_after, rejected_after}
use Rattle.pgs_run_gen.proofs.deciding.decide_workload.Goals as goal
use Rattle.pgs_run_gen.proofs.deciding.decide_workload.Goals.{then-not-branch, else-not-branch}

pub loop-made-init : goal.loop-made-init
loop-made-init g c =
    let none = decided_none c.args.guard.now.limits (verdict c.args.guard.now.schema) c.args.start in
    record {
      limits = refl;
      schema = refl;
      graph = c.requires.empty ∙ sym (ap graph_left none);
      accepted = c.requires.new ∙ sym (ap accepted_of none);
      rejected = sym (ap rejected_of none);
    }

pub takes-requires : goal.takes-requires
takes-requires g c = omega (arith, accepted_few c.args.guard.now.limits (verdict c.args.guard.now.schema) c.args.start c.loop-made.made)

pub overflow_add-rejected : goal.overflow_add-rejected
overflow_add-rejected g c = omega (arith, rejected_few c.args.guard.now.limits (verdict c.args.guard.now.schema) c.args.start c.loop-made.made)

pub loop-made-preserved : goal.loop-made-preserved
loop-made-preserved g c =
    let limits = c.args.guard.now.limits in
    let judged = verdict c.args.guard.now.schema in
    let here = c.loop-made.invariant.graph in
    let graph = c.loop-made.guard.graph in
    let txn = c.in_ok-txn.txn in
    let same = ap₂ (λ l s. decide l (verdict s) graph txn) c.loop-made.invariant.limits c.loop-made.invariant.schema in
    let taken = c.in_ok-takes.ensures.taken ∙ ap is_ok same in
    record {
      limits = c.takes.ensures.limits ∙ c.loop-made.invariant.limits;
      schema = c.takes.ensures.schema ∙ c.loop-made.invariant.schema;
      graph = c.in_ok-takes.ensures.graph ∙ ap (graph_after graph) same
          ∙ sym (graph_more limits judged c.args.start c.loop-made.made graph txn here c.in_ok-txn.ensures);
      accepted = c.in_ok-takes.ensures.commits
          ∙ accepted_after limits judged c.args.start c.loop-made.made graph txn here c.in_ok-txn.ensures c.in_ok-takes.field-0 taken
          c.loop-made.guard.commits c.loop-made.invariant.accepted;
      rejected = elim c.if-not-branch.branch [
        | then-not-branch w ↦ w.rejected-is
            ∙ rejected_after limits judged c.args.start c.loop-made.made graph txn here c.in_ok-txn.ensures c.in_ok-takes.field-0 taken false
            c.loop-made.rejected w.if-not-branch.true c.loop-made.invariant.rejected
        | else-not-branch w ↦ w.rejected-is ∙ sym (add-zero _)
            ∙ rejected_after limits judged c.args.start c.loop-made.made graph txn here c.in_ok-txn.ensures c.in_ok-takes.field-0 taken true
            c.loop-made.rejected w.if-not-branch.false c.loop-made.invariant.rejected
      ];
    }
