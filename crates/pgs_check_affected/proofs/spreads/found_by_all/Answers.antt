use Rattle.std.proofs.Common.{◌+◌, ◌^◌, ◌++◌, ap, ◌∙◌}
use Rattle.pgs_match.specs.Planned.{most_edges}
use Rattle.pgs_check_affected.proofs.Counting.{both_cost, first_cost, searched_cost}
use Rattle.pgs_check_affected.proofs.spreads.found_by_all.Goals as goal

pub returns-clause-found : goal.returns-clause-found
returns-clause-found g c = record {
  by_scope = c.is_searched.result;
  by_descriptor = c.is_searched-2.result;
  scope = c.in_ok-add_more.ensures.more.0;
  descriptor = c.in_ok-add_more-2.ensures.more.0;
  is = c.in_ok-add_more-2.ensures.more.1 ∙ ap (λ xs. xs ++ c.in_ok-add_more-2.ensures.more.0)
      (c.in_ok-add_more.ensures.more.1 ∙ ap (λ xs. xs ++ c.in_ok-add_more.ensures.more.0) c.in_ok-elems.ensures.found);
  in_scope = c.in_ok-add_more.ensures.more.2;
  in_descriptor = c.in_ok-add_more-2.ensures.more.2;
}

pub returns-in_err-elems-clause-cost : goal.returns-in_err-elems-clause-cost
returns-in_err-elems-clause-cost g c = λ most sparse.
    searched_cost c.is_searched.result c.is_searched-2.result _ ((most + 2) ^ (most_edges c.args.key.now + 1)) c.args.steps.now c.searched_by_all.new.steps (c.searched_by_all.ensures.cost most sparse)

pub returns-in_err-add_more-clause-cost : goal.returns-in_err-add_more-clause-cost
returns-in_err-add_more-clause-cost g c = λ most sparse.
    first_cost c.is_searched.result c.is_searched-2.result _ ((most + 2) ^ (most_edges c.args.key.now + 1)) c.args.steps.now c.searched_by_all.new.steps c.add_more.new.steps
    (c.searched_by_all.ensures.cost most sparse) (c.add_more.ensures.cost most sparse)

pub returns-in_err-add_more-2-clause-cost : goal.returns-in_err-add_more-2-clause-cost
returns-in_err-add_more-2-clause-cost g c = λ most sparse.
    both_cost c.is_searched.result c.is_searched-2.result _ ((most + 2) ^ (most_edges c.args.key.now + 1)) c.args.steps.now c.searched_by_all.new.steps c.add_more.new.steps c.add_more-2.new.steps
    (c.searched_by_all.ensures.cost most sparse) (c.add_more.ensures.cost most sparse) (c.add_more-2.ensures.cost most sparse)

pub returns-clause-cost : goal.returns-clause-cost
returns-clause-cost g c = λ most sparse.
    both_cost c.is_searched.result c.is_searched-2.result _ ((most + 2) ^ (most_edges c.args.key.now + 1)) c.args.steps.now c.searched_by_all.new.steps c.add_more.new.steps c.add_more-2.new.steps
    (c.searched_by_all.ensures.cost most sparse) (c.add_more.ensures.cost most sparse) (c.add_more-2.ensures.cost most sparse)
