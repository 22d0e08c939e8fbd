-- One more transaction of a workload, decided after those before it.
use Rattle.std.proofs.Common.{◌≡◌, ℕ, suc, ◌+◌, ◌≤◌, Bool, true, false, not, cond, List, [], ◌∷◌, ◌++◌, length, refl, sym, ap, ap₂, ◌∙◌, subst, arith}
use Rattle.std.specs.Prelude.{count_by, fold}
use Rattle.std.specs.Result.{is_ok}
use Rattle.std.proofs.lemmas.List.FromFn.{map-range_with_len_more, length-map-range_with_len}
use Rattle.std.proofs.lemmas.List.Sums.{count_by-le-length, fold-append, sum_by-append, sum_by-cons}
use Rattle.pgs_base.specs.declared.limits.Limits.{Limits}
use Rattle.pgs_base.specs.Graph.{Graph, empty_graph}
use Rattle.pgs_gen.specs.Generated.{generated}
use Rattle.pgs_graph.specs.declared.operation.Txn.{Txn}
use Rattle.pgs_violation.specs.declared.violation.Verdict.{Verdict}
use Rattle.pgs_violation.specs.Decision.{decide, decisions, graph_after}
use Rattle.pgs_run_gen.specs.Workload.{workload, decided, graph_left, accepted_of, rejected_of}

decisions_more : (limits : Limits) (v : Graph → Verdict) (g : Graph) (txns : List Txn) (txn : Txn)
    → decisions limits v g (txns ++ txn ∷ []) ≡ decisions limits v g txns ++ decide limits v (fold graph_after g (decisions limits v g txns)) txn ∷ []
decisions_more limits v g [] txn = refl
decisions_more limits v g (first ∷ txns) txn =
    ap (λ later. decide limits v g first ∷ later) (decisions_more limits v (graph_after g (decide limits v g first)) txns txn)

length-decisions : (limits : Limits) (v : Graph → Verdict) (g : Graph) (txns : List Txn) → length (decisions limits v g txns) ≡ length txns
length-decisions limits v g [] = refl
length-decisions limits v g (first ∷ txns) = ap suc (length-decisions limits v (graph_after g (decide limits v g first)) txns)

count_more : {X : Type 0} (p : X → Bool) (xs : List X) (x : X) → count_by p (xs ++ x ∷ []) ≡ count_by p xs + cond (p x) 1 0
count_more p xs x = sum_by-append (λ y. cond (p y) 1 0) xs (x ∷ []) ∙ ap (λ n. count_by p xs + n) (sum_by-cons (λ y. cond (p y) 1 0) x [] ∙ omega arith)

one_if : (b : Bool) (n : ℕ) → cond b (n + 1) n ≡ n + cond b 1 0
one_if true n = refl
one_if false n = omega arith

module _ (limits : Limits) (v : Graph → Verdict) (start : ℕ) where
  pub decided_none : decided limits v start 0 ≡ []
  unfolding decided
  decided_none = refl

  module _ (n : ℕ) where
    pub decided_more : decided limits v start (n + 1) ≡ decided limits v start n ++ decide limits v (graph_left (decided limits v start n)) (generated start (n + 1)) ∷ []
    unfolding decided
    decided_more =
        ap (decisions limits v empty_graph) (map-range_with_len_more (generated start) 1 n (n + 1) (omega arith))
        ∙ decisions_more limits v empty_graph (workload start n) (generated start (n + 1))

    length-decided : length (decided limits v start n) ≡ n
    unfolding decided
    length-decided = length-decisions limits v empty_graph (workload start n) ∙ length-map-range_with_len (generated start) 1 n

    pub accepted_few : accepted_of (decided limits v start n) ≤ n
    accepted_few = subst (λ m. accepted_of (decided limits v start n) ≤ m) length-decided (count_by-le-length is_ok (decided limits v start n))

    pub rejected_few : rejected_of (decided limits v start n) ≤ n
    rejected_few =
        subst (λ m. rejected_of (decided limits v start n) ≤ m) length-decided (count_by-le-length (λ decision. not (is_ok decision)) (decided limits v start n))

    -- the next decision, by a graph and a transaction that are the ones it is on
    module _ (g : Graph) (txn : Txn) (here : g ≡ graph_left (decided limits v start n)) (next : txn ≡ generated start (n + 1)) where
      more_by : decided limits v start (n + 1) ≡ decided limits v start n ++ decide limits v g txn ∷ []
      more_by = rw (here, next) decided_more

      pub graph_more : graph_left (decided limits v start (n + 1)) ≡ graph_after g (decide limits v g txn)
      graph_more =
          ap graph_left more_by ∙ fold-append graph_after empty_graph (decided limits v start n) (decide limits v g txn ∷ [])
          ∙ ap (λ before. graph_after before (decide limits v g txn)) (sym here)

      pub accepted_more : accepted_of (decided limits v start (n + 1)) ≡ accepted_of (decided limits v start n) + cond (is_ok (decide limits v g txn)) 1 0
      accepted_more = ap accepted_of more_by ∙ count_more is_ok (decided limits v start n) (decide limits v g txn)

      pub rejected_more : rejected_of (decided limits v start (n + 1)) ≡ rejected_of (decided limits v start n) + cond (not (is_ok (decide limits v g txn))) 1 0
      rejected_more = ap rejected_of more_by ∙ count_more (λ decision. not (is_ok decision)) (decided limits v start n) (decide limits v g txn)

      -- and by whether it accepts
      module _ (taken : Bool) (is : taken ≡ is_ok (decide limits v g txn)) where
        pub accepted_after : (accepted : ℕ) → accepted ≡ accepted_of (decided limits v start n) → cond taken (accepted + 1) accepted ≡ accepted_of (decided limits v start (n + 1))
        accepted_after accepted so_far =
            one_if taken accepted ∙ ap₂ (λ m b. m + cond b 1 0) so_far is ∙ sym accepted_more

        pub rejected_after : (found : Bool) (rejected : ℕ) → taken ≡ found → rejected ≡ rejected_of (decided limits v start n) → rejected + cond (not found) 1 0 ≡ rejected_of (decided limits v start (n + 1))
        rejected_after found rejected on so_far = ap₂ (λ m b. m + cond (not b) 1 0) so_far (sym on ∙ is) ∙ sym rejected_more
