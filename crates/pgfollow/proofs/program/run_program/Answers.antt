use Rattle.pgfollow.proofs.program.run_program.Goals as goal

pub returns : goal.returns
returns g c = record {
  start = c.without_files-outside.result;
  fresh = c.without_files-outside.ensures.fresh;
  areas = c.without_files-outside.ensures.no_files;
  promise = λ places. rw c.status.ensures (c.run_follow-ended.ensures.promise places);
  last = rw c.status.ensures c.run_follow-ended.ensures.last;
  calls = rw c.status.ensures c.run_follow-ended.ensures.calls;
}
