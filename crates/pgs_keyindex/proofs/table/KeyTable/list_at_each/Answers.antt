use Rattle.std.proofs.Common.{◌+◌, ◌∙◌, sym, ap, subst, take}
use Rattle.std.specs.List.{list_all}
use Rattle.pgs_keyindex.specs.Table.{Grows, is_listed}
use Rattle.pgs_keyindex.proofs.Held.{all_given, all_one_more, grows_again, listed_kept}
use Rattle.pgs_keyindex.proofs.table.KeyTable.list_at_each.Goals.{then-not-has_listed+in_ok-list_value, else-not-has_listed}
use Rattle.pgs_keyindex.proofs.table.KeyTable.list_at_each.Goals as goal

pub loop-tuple-preserved : goal.loop-tuple-preserved
loop-tuple-preserved c =
    let key = c.args.key in
    let elem = c.args.elem in
    let tuples = c.as_slice-tuples.result.now in
    let i = c.loop-tuple.tuple-index in
    let tuple = c.tuple-item.result in
    elim c.if-not-has_listed.branch [
      | then-not-has_listed+in_ok-list_value w ↦
          let old = c.loop-tuple.self in
          let new = w.list_value.new.self in
          let grows = w.in_ok-list_value.ensures.grows in
          let grown = grows_again _ _ _ c.loop-tuple.invariant.grows grows in
          let all =
          all_one_more (λ t. is_listed new key t elem) tuples i tuple c.loop-tuple-test.true c.tuple-item.is
          (all_given (λ t. is_listed old key t elem) (λ t. is_listed new key t elem) (listed_kept old new grows.room key elem) (take i tuples) c.loop-tuple.invariant.there)
          w.in_ok-list_value.ensures.there in
          record {
            grows = subst (Grows c.args.self.now) (sym w.self-is) grown;
            there = ap (λ s. list_all (λ t. is_listed s key t elem) (take (i + 1) tuples)) w.self-is ∙ all;
          }
      | else-not-has_listed w ↦
          let old = c.loop-tuple.self in
          let all =
          all_one_more (λ t. is_listed old key t elem) tuples i tuple c.loop-tuple-test.true c.tuple-item.is c.loop-tuple.invariant.there
          (c.has_listed.ensures w.if-not-has_listed.false) in
          record {
            grows = subst (Grows c.args.self.now) (sym w.self-is) c.loop-tuple.invariant.grows;
            there = ap (λ s. list_all (λ t. is_listed s key t elem) (take (i + 1) tuples)) w.self-is ∙ all;
          }
    ]
