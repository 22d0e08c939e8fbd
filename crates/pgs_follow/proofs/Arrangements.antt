-- Lines of commits that were accepted in order, arranged anyhow, lead to the graph after some first ones.
use Rattle.std.proofs.Common.{◌≡◌, ℕ, zero, suc, ◌+◌, ◌<◌, ◌≤◌, Bool, true, false, ◌==◌, nat_le, nat_lt, List, [], ◌∷◌, length, take, Option, Some, None, is_some, Result, Ok, Err, refl, sym, ap, ◌∙◌, subst, arith}
use Rattle.std.specs.Prelude.{slice_get}
use Rattle.std.specs.List.{list_all}
use Rattle.std.proofs.lemmas.Bool.{and_parts}
use Rattle.std.proofs.lemmas.Bool.Decides.{nat_tests}
use Rattle.std.proofs.lemmas.Option.{slice_get_within}
use Rattle.pgs_base.specs.declared.limits.Limits.{Limits}
use Rattle.pgs_base.specs.Graph.{Graph, empty_graph, element_count}
use Rattle.pgs_graph.specs.declared.operation.Txn.{Txn}
use Rattle.pgs_graph.specs.Operations.{is_well_formed_txn}
use Rattle.pgs_violation.specs.declared.rejection.Rejection.{Rejection}
use Rattle.pgs_violation.specs.declared.structural.Structural.{Structural}
use Rattle.pgs_violation.specs.declared.violation.Verdict.{Verdict}
use Rattle.pgs_violation.specs.declared.violation.Verdict.TheVariants.{Conforms, Refused}
use Rattle.pgs_violation.specs.Decision.{judged, judging, decide}
use Rattle.pgs_violation.specs.Staging.{staged}
use Rattle.pgs_json.specs.declared.commit.TheConstants.{COMMIT_LIMIT}
use Rattle.pgs_json.specs.Canonical.{text_of_txn}
use Rattle.pgs_json.specs.Commit.{read_commit_line}
use Rattle.pgs_json.proofs.Commits.{written_commit_line}
use Rattle.pgs_run_lines.specs.Input.{lines_of}
use Rattle.pgs_follow.specs.declared.fault.FollowFault.{FollowFault}
use Rattle.pgs_follow.specs.declared.fault.FollowFault.TheVariants.{LineTooLong, BadLine, Gap, BadCommit}
use Rattle.pgs_follow.specs.Followed.{Followed, nothing_followed, committed, after_commit, after_line, after_lines, with_rest, followed}
use Rattle.pgs_follow.specs.Arranged.{after_all, IsHistory, IsFeedLine, AreFeedLines, IsGapOrLongRest, FollowsFirst}
use Rattle.pgs_follow.proofs.Following.{of_ended, followed_is}

-- ---- what is accepted is staged

judged_same : (limits : Limits) (verdict : Graph → Verdict) (g next : Graph) (large : Bool) (v : Verdict) → nat_lt limits.elements (element_count g) ≡ large
    → verdict g ≡ v → judged limits verdict g ≡ Ok next → g ≡ next
judged_same limits verdict g next true v e is h = cc (rw e at h)
judged_same limits verdict g next false Conforms e is h = let k = rw (e, is) at h in cc
judged_same limits verdict g next false (Refused violation) e is h = cc (rw (e, is) at h)

staged_by : (limits : Limits) (verdict : Graph → Verdict) (g next : Graph) (txn : Txn) (s : Result Graph Structural) → staged limits g txn ≡ s → judging limits verdict s ≡ Ok next
    → staged limits g txn ≡ Ok next
staged_by limits verdict g next txn (Ok h) e is =
    e ∙ ap (λ (x : Graph). let r : Result Graph Structural = Ok x in r) (judged_same limits verdict h next (nat_lt limits.elements (element_count h)) (verdict h) refl refl is)
staged_by limits verdict g next txn (Err cause) e is = cc

accepted_staged : (limits : Limits) (verdict : Graph → Verdict) (g next : Graph) (txn : Txn) → decide limits verdict g txn ≡ Ok next → staged limits g txn ≡ Ok next
accepted_staged limits verdict g next txn h = staged_by limits verdict g next txn (staged limits g txn) refl h

-- ---- one transaction more

record Next (limits : Limits) (verdict : Graph → Verdict) (first : Graph) (txns : List Txn) (m : ℕ) (g : Graph) (txn : Txn) : Type 0 where
  next : Graph
  stages : staged limits g txn ≡ Ok next
  upto : after_all limits verdict first (take (suc m) txns) ≡ Ok next

next_of : (limits : Limits) (verdict : Graph → Verdict) (first : Graph) (txns : List Txn) (m : ℕ) (last g : Graph) (txn : Txn) → after_all limits verdict first txns ≡ Ok last
    → slice_get txns m ≡ Some txn → after_all limits verdict first (take m txns) ≡ Ok g → Next limits verdict first txns m g txn
next_of limits verdict first [] m last g txn all there upto = cc
next_of limits verdict first (x ∷ xs) zero last g txn all there upto = by_decision (decide limits verdict first x) refl all
  where
    by_decision : (d : Result Graph Rejection) → decide limits verdict first x ≡ d → after_all limits verdict first (x ∷ xs) ≡ Ok last → Next limits verdict first (x ∷ xs) zero g txn
    by_decision (Ok n) e h =
        let one : x ≡ txn = cc in
        let same : first ≡ g = cc in
        record {
          next = n;
          stages = subst (λ (t : Txn). staged limits g t ≡ Ok n) one (subst (λ (h : Graph). staged limits h x ≡ Ok n) same (accepted_staged limits verdict first n x e));
          upto = rw e refl;
        }
    by_decision (Err rejection) e h = cc (rw e at h)
next_of limits verdict first (x ∷ xs) (suc m) last g txn all there upto =
    by_decision (decide limits verdict first x) refl all upto (λ n later up. next_of limits verdict n xs m last g txn later there up)
  where
    by_decision : (d : Result Graph Rejection) → decide limits verdict first x ≡ d → after_all limits verdict first (x ∷ xs) ≡ Ok last
        → after_all limits verdict first (x ∷ take m xs) ≡ Ok g
        → ((n : Graph) → after_all limits verdict n xs ≡ Ok last → after_all limits verdict n (take m xs) ≡ Ok g → Next limits verdict n xs m g txn)
        → Next limits verdict first (x ∷ xs) (suc m) g txn
    by_decision (Ok n) e h up more =
        let later = more n (rw e at h) (rw e at up) in
        record { next = later.next; stages = later.stages; upto = rw e later.upto }
    by_decision (Err rejection) e h up more = cc (rw e at h)

-- ---- a line of a commit

well_formed_at : (txns : List Txn) (place : ℕ) (txn : Txn) → list_all is_well_formed_txn txns ≡ true → slice_get txns place ≡ Some txn → is_well_formed_txn txn ≡ true
well_formed_at [] place txn all there = cc
well_formed_at (x ∷ xs) zero txn all there =
    let one : x ≡ txn = cc in ap is_well_formed_txn (sym one) ∙ (and_parts (is_well_formed_txn x) _ all).0
well_formed_at (x ∷ xs) (suc place) txn all there = well_formed_at xs place txn (and_parts (is_well_formed_txn x) _ all).1 there

line_read : (limits : Limits) (verdict : Graph → Verdict) (txns : List Txn) (line : List ℕ) → IsHistory limits verdict txns → (is : IsFeedLine txns line)
    → read_commit_line line ≡ Ok (is.place + 1, is.txn)
line_read limits verdict txns line history is =
    let within = slice_get_within txns is.place is.txn is.there in
    let few = history.few in
    let short : length (text_of_txn is.txn (Some (is.place + 1))) ≤ COMMIT_LIMIT = subst (λ (l : List ℕ). length l ≤ COMMIT_LIMIT) is.text is.short in
    ap read_commit_line is.text
    ∙ written_commit_line is.txn (is.place + 1) (well_formed_at txns is.place is.txn history.well_formed is.there) (omega arith) (omega (arith, within, few)) short

-- ---- what holds between lines

abbrev IsGap : Option FollowFault → Type 0
IsGap None = Unit {0}
IsGap (Some (Gap expected found)) = Unit {0}
IsGap (Some (LineTooLong line)) = ⊥
IsGap (Some (BadLine line)) = ⊥
IsGap (Some (BadCommit commit cause)) = ⊥

record Sound (limits : Limits) (verdict : Graph → Verdict) (txns : List Txn) (f : Followed) : Type 0 where
  within : f.commits ≤ length txns
  graph : after_all limits verdict empty_graph (take f.commits txns) ≡ Ok f.graph
  fault : IsGap f.fault

sound_next : (limits : Limits) (verdict : Graph → Verdict) (txns : List Txn) (f : Followed) (txn : Txn) → f.commits < length txns
    → Next limits verdict empty_graph txns f.commits f.graph txn → Sound limits verdict txns f → Sound limits verdict txns (committed f (staged limits f.graph txn))
sound_next limits verdict txns f txn inside next sound =
    let one : suc f.commits ≡ f.commits + 1 = omega arith in
    subst (λ (s : Result Graph Structural). Sound limits verdict txns (committed f s)) (sym next.stages) (record {
      within = omega arith;
      graph = subst (λ (n : ℕ). after_all limits verdict empty_graph (take n txns) ≡ Ok next.next) one next.upto;
      fault = sound.fault;
    })

sound_commit : (limits : Limits) (verdict : Graph → Verdict) (txns : List Txn) (f : Followed) (place : ℕ) (txn : Txn) (old here : Bool) → IsHistory limits verdict txns
    → slice_get txns place ≡ Some txn → nat_le (place + 1) f.commits ≡ old → (place + 1 == f.commits + 1) ≡ here → Sound limits verdict txns f
    → Sound limits verdict txns (after_commit limits f (place + 1) txn)
sound_commit limits verdict txns f place txn true here history there o h sound =
    rw o (record { within = sound.within; graph = sound.graph; fault = sound.fault })
sound_commit limits verdict txns f place txn false false history there o h sound =
    rw (o, h) (record { within = sound.within; graph = sound.graph; fault = tt })
sound_commit limits verdict txns f place txn false true history there o h sound =
    let same : place ≡ f.commits = grind (arith, nat_tests) in
    let at : slice_get txns f.commits ≡ Some txn = subst (λ (n : ℕ). slice_get txns n ≡ Some txn) same there in
    let next = next_of limits verdict empty_graph txns f.commits history.last f.graph txn history.accepted at sound.graph in
    rw (o, h) (sound_next limits verdict txns f txn (slice_get_within txns f.commits txn at) next sound)

sound_line : (limits : Limits) (verdict : Graph → Verdict) (txns : List Txn) (f : Followed) (line : List ℕ) → IsHistory limits verdict txns → IsFeedLine txns line
    → Sound limits verdict txns f → Sound limits verdict txns (after_line limits f line)
sound_line limits verdict txns f line history is sound = by_fault (is_some f.fault) refl
  where
    by_fault : (ended : Bool) → is_some f.fault ≡ ended → Sound limits verdict txns (after_line limits f line)
    by_fault true e = rw e sound
    by_fault false e =
        rw (e, line_read limits verdict txns line history is)
        (sound_commit limits verdict txns f is.place is.txn (nat_le (is.place + 1) f.commits) (is.place + 1 == f.commits + 1) history is.there refl refl sound)

sound_lines : (limits : Limits) (verdict : Graph → Verdict) (txns : List Txn) (f : Followed) (lines : List (List ℕ)) → IsHistory limits verdict txns → AreFeedLines txns lines
    → Sound limits verdict txns f → Sound limits verdict txns (after_lines limits f lines)
sound_lines limits verdict txns f [] history are sound = sound
sound_lines limits verdict txns f (line ∷ lines) history are sound =
    sound_lines limits verdict txns (after_line limits f line) lines history are.1 (sound_line limits verdict txns f line history are.0 sound)

-- ---- of all bytes

gap_or_rest : (bytes : List ℕ) (fault : Option FollowFault) → IsGap fault → IsGapOrLongRest bytes fault
gap_or_rest bytes None gap = tt
gap_or_rest bytes (Some (Gap expected found)) gap = tt
gap_or_rest bytes (Some (LineTooLong line)) gap = absurd gap
gap_or_rest bytes (Some (BadLine line)) gap = absurd gap
gap_or_rest bytes (Some (BadCommit commit cause)) gap = absurd gap

record Ends (limits : Limits) (verdict : Graph → Verdict) (txns : List Txn) (bytes : List ℕ) (f : Followed) : Type 0 where
  within : f.commits ≤ length txns
  graph : after_all limits verdict empty_graph (take f.commits txns) ≡ Ok f.graph
  fault : IsGapOrLongRest bytes f.fault

sound_rest : (limits : Limits) (verdict : Graph → Verdict) (txns : List Txn) (bytes : List ℕ) (f : Followed) (ended long : Bool) → is_some f.fault ≡ ended
    → nat_lt COMMIT_LIMIT (length (lines_of bytes).rest) ≡ long → Sound limits verdict txns f → Ends limits verdict txns bytes (with_rest f (lines_of bytes).rest)
sound_rest limits verdict txns bytes f true long e l sound =
    rw e (record { within = sound.within; graph = sound.graph; fault = gap_or_rest bytes f.fault sound.fault })
sound_rest limits verdict txns bytes f false true e l sound =
    rw (e, l) (record { within = sound.within; graph = sound.graph; fault = grind (arith, nat_tests) })
sound_rest limits verdict txns bytes f false false e l sound =
    rw (e, l) (record { within = sound.within; graph = sound.graph; fault = gap_or_rest bytes f.fault sound.fault })

pub arranged : (limits : Limits) (verdict : Graph → Verdict) (txns : List Txn) (bytes : List ℕ) → IsHistory limits verdict txns → AreFeedLines txns (lines_of bytes).ended
    → FollowsFirst limits verdict txns bytes
arranged limits verdict txns bytes history are =
    let f = of_ended limits bytes in
    let sound = sound_lines limits verdict txns nothing_followed (lines_of bytes).ended history are
    (record { within = omega arith; graph = refl; fault = tt }) in
    let ends = sound_rest limits verdict txns bytes f (is_some f.fault) (nat_lt COMMIT_LIMIT (length (lines_of bytes).rest)) refl refl sound in
    let ends : Ends limits verdict txns bytes (followed limits bytes) = subst (λ (g : Followed). Ends limits verdict txns bytes g) (sym (followed_is limits bytes)) ends in
    record { within = ends.within; graph = ends.graph; fault = ends.fault }
