use Rattle.std.proofs.Common.{◌≡◌, ℕ, Some, List, [], ◌∷◌, ◌++◌, ⊎_elim, sym, ◌∙◌, ap, arith}
use Rattle.std.specs.List.{slice_get}
use Rattle.std.proofs.lemmas.Option.{slice_get_within, slice_get-get_or}
use Rattle.pgs_resolve_order.specs.declared.listing.Queue.{Queue}
use Rattle.pgs_resolve_order.specs.Listing.{Awaits, Stands}
use Rattle.pgs_resolve_declared.specs.Order.{Entry}
use Rattle.pgs_resolve_order.proofs.Kept.{stands_listed, kept_listed, awaits_taken, kept_next}
use Rattle.pgs_resolve_order.proofs.listing.Queue.list.Goals as goal

pub loop-pending-init : goal.loop-pending-init
loop-pending-init c =
    let old = c.args.self.now in
    let new : Queue = record old { listed = c.push.new.self; waiting = c.take_waiting-all.new.waiting } in
    let name = c.args.name.now in
    let these = c.in_ok-push.ensures.ok ∙ ap (λ (n : List ℕ). old.listed ++ n ∷ []) c.in_ok-copy.ensures in
    let taken = c.as_slice-pending-items.ensures.value ∙ c.take_waiting-all.ensures.taken in
    record {
      listed = these;
      stands = stands_listed old new name c.as_slice-pending-items.result.now these taken c.take_waiting-all.ensures.others;
      kept = λ entries stands entry number is. kept_listed old new name c.as_slice-pending-items.result.now these taken c.take_waiting-all.ensures.others entry number;
    }

pub loop-pending-preserved : goal.loop-pending-preserved
loop-pending-preserved c =
    let old = c.args.self.now in
    let new : Queue = record old { listed = c.loop-pending.self.listed; waiting = c.take_waiting-all.new.waiting } in
    let name = c.args.name.now in
    let batch = c.as_slice-pending-items.result.now in
    let before = c.loop-pending.invariant in
    let step = c.in_ok-settle.ensures in
    let taken = c.as_slice-pending-items.ensures.value ∙ c.take_waiting-all.ensures.taken in
    let at : slice_get batch c.loop-pending.pending-index ≡ Some c.pending-item.result =
    slice_get-get_or batch c.loop-pending.pending-index c.pending-item.result (omega arith) ∙ ap Some (sym c.pending-item.is) in
    let awaits : (entries : List Entry) → Stands entries old → Awaits entries c.loop-pending.self.listed c.pending-item.result.place c.pending-item.result.number c.pending-item.result.rest.now =
    λ entries stands. awaits_taken old new name batch before.listed taken c.take_waiting-all.ensures.others entries stands c.loop-pending.pending-index c.pending-item.result at in
    record {
      listed = step.listed ∙ before.listed;
      stands = λ entries stands. step.stands entries (before.stands entries stands) (awaits entries stands);
      kept = λ entries stands entry number is known. kept_next entries c.loop-pending.self c.settle.new.self c.loop-pending.self.listed batch c.loop-pending.pending-index c.pending-item.result
          (omega arith) c.pending-item.is (awaits entries stands) step.keeps step.puts entry number is (before.kept entries stands entry number is known);
    }

pub returns-clause-keeps : goal.returns-clause-keeps
returns-clause-keeps c entries stands entry number is known =
    ⊎_elim (λ kept. kept)
    (λ h. let l = slice_get_within c.as_slice-pending-items.result.now h.0 h.1 h.3 in let m = h.2 in absurd (omega arith))
    (c.loop-pending.invariant.kept entries stands entry number is known)
