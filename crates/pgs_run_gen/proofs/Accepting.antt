-- The decisions on a workload: each transaction is accepted.
use Rattle.std.proofs.Common.{◌≡◌, ℕ, zero, suc, ◌+◌, ◌≤◌, ◌<◌, Bool, true, false, cond, not, List, [], ◌∷◌, ◌++◌, length, map, Option, Some, None, is_some, Result, Ok, Err, refl, sym, ap, ap₂, subst, ◌∙◌, add-one, arith}
use Rattle.std.specs.Prelude.{nat_lt}
use Rattle.std.specs.BTreeMap.{insert_entry}
use Rattle.std.specs.Result.{is_ok}
use Rattle.std.proofs.lemmas.Bool.{le-ltb}
use Rattle.std.proofs.lemmas.Bool.Decides.{nat_tests}
use Rattle.std.proofs.lemmas.List.{append-nil, length-append, length-map, map-append}
use Rattle.pgs_base.specs.declared.element.EdgeId.{EdgeId}
use Rattle.pgs_base.specs.declared.element.Elem.TheVariants.{Node, Edge}
use Rattle.pgs_base.specs.declared.element.NodeId.{NodeId}
use Rattle.pgs_base.specs.declared.row.EdgeRow.{EdgeRow}
use Rattle.pgs_base.specs.declared.row.NodeRow.{NodeRow}
use Rattle.pgs_base.specs.Graph.{Graph, edge_cmp, element_count, node_at, node_cmp}
use Rattle.pgs_gen.specs.Generated.{generated, known_by, knowing, person}
use Rattle.pgs_graph.specs.declared.operation.Op.{Op}
use Rattle.pgs_violation.specs.declared.rejection.Rejection.{Rejection}
use Rattle.pgs_violation.specs.declared.rejection.Rejection.TheVariants.{Structural as ByStructure}
use Rattle.pgs_violation.specs.declared.structural.Cause.TheVariants.{AlreadyThere, NoNode}
use Rattle.pgs_violation.specs.declared.structural.Structural.{Structural}
use Rattle.pgs_violation.specs.declared.structural.Structural.TheVariants.{TooManyElements, TooManyOps}
use Rattle.pgs_violation.specs.Decision.{conforming, decide, graph_after, judged, judging}
use Rattle.pgs_violation.specs.Staging.{◌>>=◌, StepFault, Unable, after_ops, found_or, going_on, step, within_limit}
use Rattle.pgs_violation.specs.Violations.{verdict}
use Rattle.pgs_run_input.specs.Session.{standard}
use Rattle.pgs_run_gen.specs.Persons.{persons}
use Rattle.pgs_run_gen.specs.Workload.{accepted_of, decided, graph_left, rejected_of}
use Rattle.pgs_run_gen.proofs.Conforming.{edge_id, edge_row, graph_conforms, graph_to, known_before, node_id, node_row}
use Rattle.pgs_run_gen.proofs.Decided.{accepted_more, graph_more, rejected_more}
use Rattle.pgs_run_gen.proofs.Numbered.{Each, IsOther, IsUpTo, absent, each_so, found, length_numbers, numbers, numbers_up_to, others, others_up_to, put_last}

abbrev node_entry : ℕ → NodeId × NodeRow
node_entry i = (node_id i, node_row i)

abbrev edge_entry : ℕ → ℕ → EdgeId × EdgeRow
edge_entry start i = (edge_id i, edge_row start i)

-- the graph with one more person, and with one more edge
abbrev with_person : ℕ → ℕ → Graph
with_person start n = record { nodes = map node_entry (numbers (suc n)); edges = map (edge_entry start) (others n) }

abbrev with_more : ℕ → ℕ → List ℕ → Graph
with_more start n more = record { nodes = map node_entry (numbers (suc n)); edges = map (edge_entry start) (others n ++ more) }

numbers_below : (n : ℕ) → Each (λ j. j < suc n) (numbers n)
numbers_below n = each_so (IsUpTo n) (λ j. j < suc n) (numbers n) (λ j up. let h = up.1 in omega arith) (numbers_up_to n)

others_below : (n : ℕ) → Each (λ j. j < suc n) (others n)
others_below n = each_so (IsOther n) (λ j. j < suc n) (others n) (λ j up. let h = up.1 in omega arith) (others_up_to n)

-- ---- one operation after the other

module _ (start n : ℕ) where
  added : insert_entry node_cmp (map node_entry (numbers n)) (node_id (suc n)) (node_row (suc n)) ≡ map node_entry (numbers (suc n))
  unfolding numbers
  added =
      put_last node_cmp node_id node_row (λ i j. refl) (suc n) (numbers n) (numbers_below n) ∙ sym (map-append node_entry (numbers n) (suc n ∷ []))

  person_added : step (graph_to start n) (person (suc n)) ≡ Ok (with_person start n)
  person_added =
      ap (λ (there : Option NodeRow). let r : Result Graph StepFault = cond (is_some there) (Err (Unable (AlreadyThere (Node (node_id (suc n))))))
      (Ok (record { nodes = insert_entry node_cmp (map node_entry (numbers n)) (node_id (suc n)) (node_row (suc n)); edges = map (edge_entry start) (others n) })) in r)
      (absent node_cmp node_id node_row (λ i j. refl) (suc n) (numbers n) (numbers_below n))
      ∙ ap (λ (nodes : List (NodeId × NodeRow)). let r : Result Graph StepFault = Ok (record { nodes = nodes; edges = map (edge_entry start) (others n) }) in r) added

  joined : insert_entry edge_cmp (map (edge_entry start) (others n)) (edge_id (suc n)) (edge_row start (suc n)) ≡ map (edge_entry start) (others n ++ suc n ∷ [])
  joined =
      put_last edge_cmp edge_id (edge_row start) (λ i j. refl) (suc n) (others n) (others_below n) ∙ sym (map-append (edge_entry start) (others n) (suc n ∷ []))

  there_in : (i : ℕ) → IsUpTo (suc n) i → node_at (with_person start n) (node_id i) ≡ Some (node_row i)
  there_in i up = found node_cmp node_id node_row (λ i j. refl) (suc n) i up

  edge_added : 2 ≤ suc n → step (with_person start n) (knowing start (suc n)) ≡ Ok (with_more start n (suc n ∷ []))
  edge_added two =
      let known = known_before start (suc n) two in
      let result : Option EdgeRow → Option NodeRow → Option NodeRow → List (EdgeId × EdgeRow) → Result Graph StepFault =
      λ there source target edges. cond (is_some there) (Err (Unable (AlreadyThere (Edge (edge_id (suc n))))))
      (found_or (NoNode (node_id (suc n))) source >>= λ _. found_or (NoNode (node_id (known_by start (suc n)))) target
      >>= λ _. Ok (record { nodes = map node_entry (numbers (suc n)); edges = edges })) in
      let edges = insert_entry edge_cmp (map (edge_entry start) (others n)) (edge_id (suc n)) (edge_row start (suc n)) in
      ap (λ there. result there (node_at (with_person start n) (node_id (suc n))) (node_at (with_person start n) (node_id (known_by start (suc n)))) edges)
      (absent edge_cmp edge_id (edge_row start) (λ i j. refl) (suc n) (others n) (others_below n))
      ∙ ap (λ source. result None source (node_at (with_person start n) (node_id (known_by start (suc n)))) edges) (there_in (suc n) (omega arith, omega arith))
      ∙ ap (λ target. result None (Some (node_row (suc n))) target edges) (there_in (known_by start (suc n)) known)
      ∙ ap (result None (Some (node_row (suc n))) (Some (node_row (known_by start (suc n))))) joined

  -- the operations of a transaction, of which the second is missing at the first number
  abbrev ops_by : Bool → List Op
  ops_by first = person (suc n) ∷ cond first [] (knowing start (suc n) ∷ [])

  abbrev more_by : Bool → List ℕ
  more_by first = cond first [] (suc n ∷ [])

  done_by : (first : Bool) → nat_lt (suc n) 2 ≡ first → after_ops (graph_to start n) 1 (ops_by first) ≡ Ok (with_more start n (more_by first))
  done_by true is =
      ap (λ (r : Result Graph StepFault). going_on 1 r (λ next. Ok next)) person_added
      ∙ ap (λ (xs : List ℕ). let r : Result Graph Structural = Ok (record { nodes = map node_entry (numbers (suc n)); edges = map (edge_entry start) xs }) in r) (sym (append-nil (others n)))
  done_by false is =
      ap (λ (r : Result Graph StepFault). going_on 1 r (λ next. after_ops next 2 (knowing start (suc n) ∷ []))) person_added
      ∙ ap (λ (r : Result Graph StepFault). going_on 2 r (λ next. Ok next)) (edge_added (grind (arith, nat_tests, is)))

  few_ops : (first : Bool) → nat_lt 10000 (length (ops_by first)) ≡ false
  few_ops true = refl
  few_ops false = refl

  whole : with_more start n (more_by (nat_lt (suc n) 2)) ≡ graph_to start (suc n)
  unfolding others
  whole = refl

-- ---- a transaction

length_others : (n : ℕ) → length (others n) ≤ n
unfolding others
length_others zero = omega arith
length_others (suc n) = by (nat_lt (suc n) 2) (length_others n)
  where
    by : (first : Bool) → length (others n) ≤ n → length (others n ++ cond first [] (suc n ∷ [])) ≤ suc n
    by true before = let h = length-append (others n) [] in omega arith
    by false before = let h = length-append (others n) (suc n ∷ []) in omega arith

module _ (start n : ℕ) (few : n ≤ 500000) where
  within : nat_lt 1000000 (element_count (graph_to start n)) ≡ false
  within =
      let nodes : length (map node_entry (numbers n)) ≡ n = length-map (numbers n) node_entry ∙ length_numbers n in
      let edges = length-map (others n) (edge_entry start) in
      let most = length_others n in
      le-ltb 1000000 (element_count (graph_to start n)) (omega arith)

  judged_so : judged standard (verdict persons) (graph_to start n) ≡ Ok (graph_to start n)
  judged_so =
      ap (λ b. let r : Result Graph Rejection = cond b (Err (ByStructure (TooManyElements (element_count (graph_to start n))))) (conforming (graph_to start n) (verdict persons (graph_to start n))) in r) within
      ∙ ap (conforming (graph_to start n)) (graph_conforms start n few)

pub next_accepted : (start n : ℕ) → suc n ≤ 500000 → decide standard (verdict persons) (graph_to start n) (generated start (suc n)) ≡ Ok (graph_to start (suc n))
next_accepted start n few =
    let first = nat_lt (suc n) 2 in
    ap (λ b. judging standard (verdict persons) (let r : Result Graph Structural = cond b (Err (TooManyOps (length (ops_by start n first)))) (after_ops (graph_to start n) 1 (ops_by start n first) >>= within_limit standard) in r)) (few_ops start n first)
    ∙ ap (λ (r : Result Graph Structural). judging standard (verdict persons) (r >>= within_limit standard))
    (done_by start n first refl ∙ ap (λ (g : Graph). let r : Result Graph Structural = Ok g in r) (whole start n))
    ∙ ap (λ b. judging standard (verdict persons) (let r : Result Graph Structural = cond b (Err (TooManyElements (element_count (graph_to start (suc n))))) (Ok (graph_to start (suc n))) in r)) (within start (suc n) few)
    ∙ judged_so start (suc n) few

-- ---- all of them

-- the decisions on the first n transactions accept, and leave this graph
pub record AllAccepted (start n : ℕ) : Type 0 where
  pub graph : graph_left (decided standard (verdict persons) start n) ≡ graph_to start n
  pub accepted : accepted_of (decided standard (verdict persons) start n) ≡ n
  pub rejected : rejected_of (decided standard (verdict persons) start n) ≡ 0

none_yet : (start : ℕ) → AllAccepted start 0
unfolding decided numbers others
none_yet start = record { graph = refl; accepted = refl; rejected = refl }

one_more : (start n : ℕ) → suc n ≤ 500000 → AllAccepted start n → AllAccepted start (n + 1)
one_more start n few all =
    let v = verdict persons in
    let here = sym all.graph in
    let decision : decide standard v (graph_to start n) (generated start (n + 1)) ≡ Ok (graph_to start (n + 1)) =
    subst (λ m. decide standard v (graph_to start n) (generated start m) ≡ Ok (graph_to start m)) (sym (add-one n)) (next_accepted start n few) in
    record {
      graph = graph_more standard v start n (graph_to start n) (generated start (n + 1)) here refl ∙ ap (graph_after (graph_to start n)) decision;
      accepted = accepted_more standard v start n (graph_to start n) (generated start (n + 1)) here refl
          ∙ ap₂ (λ (m : ℕ) (r : Result Graph Rejection). m + cond (is_ok r) 1 0) all.accepted decision;
      rejected = rejected_more standard v start n (graph_to start n) (generated start (n + 1)) here refl
          ∙ ap₂ (λ (m : ℕ) (r : Result Graph Rejection). m + cond (not (is_ok r)) 1 0) all.rejected decision;
    }

pub all_accepted : (start n : ℕ) → n ≤ 500000 → AllAccepted start n
all_accepted start zero few = none_yet start
all_accepted start (suc n) few = subst (AllAccepted start) (add-one n) (one_more start n few (all_accepted start n (omega (arith, few))))
