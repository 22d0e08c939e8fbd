-- What a stop during a checkpoint leaves of a store, and what stands after it.
use Rattle.std.proofs.Common.{◌≡◌, inl, inr, ⊎_elim, ℕ, ◌+◌, ◌-◌, ◌*◌, ◌^◌, ◌<◌, ◌≤◌, true, IsTrue, List, length, Option, Result, Some, sym, ◌∙◌, ap, subst, arith}
use Rattle.std.proofs.lemmas.Bool.{and_from}
use Rattle.std.proofs.lemmas.Bool.Decides.{nat_tests}
use Rattle.pgs_base.specs.Graph.{is_graph}
use Rattle.pgs_codec.specs.declared.command.Command.TheVariants.{Schema}
use Rattle.pgs_codec.specs.Encodable.{is_sized}
use Rattle.pgs_codec.specs.Payload.{payload_of}
use Rattle.pgs_codec.specs.Reading.{decoded}
use Rattle.pgs_journal.specs.Creating.{IsStoreMade}
use Rattle.pgs_journal.specs.declared.journal.Journal.{Journal}
use Rattle.pgs_journal.specs.declared.format.Format.TheVariants.{Second}
use Rattle.pgs_journal.specs.Format.{Holds, IsFrames, IsNextWithin, is_epoch}
use Rattle.pgs_journal.specs.Stops.{Turns, Creates}
use Rattle.pgs_saved_graph.specs.Small.{has_small_rows}
use Rattle.pgs_resolve.specs.SchemaOf.{schema, schema_of}
use Rattle.pgs_snapshot.specs.Saved.{saved_of, store}
use Rattle.pgs_snapshot.proofs.Fitness.{AreFit, checkpoint_fit}
use Rattle.pgs_snapshot.proofs.Histories.{snapshot_saves}
use Rattle.pgs_snapshot.proofs.Stores.{checkpoint_left, next_chosen, same_other}
use Rattle.pgs_store.specs.State.{GuardState, IsGuarded}
use Rattle.pgs_store.specs.Stored.{IsBounded, IsSavedBy, IsSavedIn, IsRenewedIn, StandsOn, next_journal, renewed, snapshot_of}
use Rattle.pgs_world.specs.declared.area.Area.{Area}
use Rattle.pgs_world.specs.declared.fault.AreaFault.{AreaFault}
use Rattle.pgs_world.specs.Disk.{IsSameBeside}
use Rattle.pgs_world.specs.Moment.{Passes, StopsBy, EachSince, IsSynced, IsSettled}
use Rattle.pgs_world.specs.World.{Triple, View, part, other}
use Rattle.pgs_world.proofs.Moments.{each_step, synced_settled}
use Rattle.pgs_store.proofs.Applied.{same_images}
use Rattle.pgs_store.proofs.Decided.{judged_within}

module _ (guard : GuardState) (journal : Journal) (size : ℕ)
    (of_text : schema_of guard.text ≡ schema guard.schema)
    (guarded : IsGuarded guard.schema guard.limits guard.graph)
    (first : decoded (payload_of (Schema guard.text)) ≡ Some (Schema guard.text))
    (second : decoded (payload_of (snapshot_of guard)) ≡ Some (snapshot_of guard))
    (few : guard.commits ≤ journal.epoch * 2 ^ 40)
    (small : size < 2 ^ 64) where
  saves : saved_of guard.limits (renewed guard) ≡ store guard.text guard.commits guard.graph
  saves =
      snapshot_saves guard.limits (payload_of (Schema guard.text)) (payload_of (snapshot_of guard)) guard.text guard.commits guard.graph.nodes guard.graph.edges guard.schema
      first second of_text (judged_within guard.schema guard.limits guard.graph guarded)

  fit : AreFit Second (journal.epoch + 1) (renewed guard)
  fit =
      checkpoint_fit journal.epoch (payload_of (Schema guard.text)) (payload_of (snapshot_of guard)) guard.text guard.commits guard.graph.nodes guard.graph.edges
      first second few

  renewed_stops : (old new : Triple) → IsSavedIn guard journal old → Turns (other journal.area) (Creates (journal.epoch + 1) (renewed guard) size) old new
      → IsRenewedIn guard journal new
  renewed_stops old new saved turns =
      ⊎_elim (λ before. inl (saved.0, record { has = before; saves = saved.1.saves }))
      (λ after. inr (size, record { has = after; saves = saves }))
      (checkpoint_left journal.area journal.epoch journal.end size journal.next saved.0 (renewed guard) old new saved.1.has fit small turns)

  renewed_done : (old new : Triple) → IsSavedIn guard journal old → Holds (Some 3) (journal.epoch + 1) (renewed guard) size (part (other journal.area) new)
      → IsSameBeside (other journal.area) old new → IsSavedBy guard (next_journal journal size) (renewed guard) new
  renewed_done old new saved holds same = record {
    has = next_chosen journal.area journal.epoch journal.end size journal.next (Some 3) saved.0 (renewed guard) old new saved.1.has
        (sym (same_other journal.area new) ∙ same.beside ∙ same_other journal.area old) holds fit small;
    saves = saves;
  }

  pub stops_renewed : (old new : View) → StandsOn guard journal old → IsTrue old.honest → IsTrue old.tells_bytes
      → (IsTrue old.tells_bytes → IsSynced (other journal.area) old → StopsBy (Turns (other journal.area) (Creates (journal.epoch + 1) (renewed guard) size)) old new)
      → EachSince (IsRenewedIn guard journal) old new
  stops_renewed old new stands honest told stops =
      let settled = stands.settled honest told in
      each_step old new (Turns (other journal.area) (Creates (journal.epoch + 1) (renewed guard) size)) (IsSavedIn guard journal) (IsRenewedIn guard journal) honest
      (λ d left. same_images guard journal old.shown d (stands.saved told) (settled.a d left) (settled.b d left)) renewed_stops
      (stops told (synced_settled (other journal.area) old settled))

  pub alone_renewed : (old new : View) → StandsOn guard journal old → Passes old new
      → (IsTrue old.tells_bytes → Holds (Some 3) (journal.epoch + 1) (renewed guard) size (part (other journal.area) new.shown))
      → IsSameBeside (other journal.area) old.shown new.shown → IsTrue new.tells_bytes → IsSavedBy guard (next_journal journal size) (renewed guard) new.shown
  alone_renewed old new stands passes holds same told =
      let before = sym passes.tells_bytes ∙ told in
      renewed_done old.shown new.shown (stands.saved before) (holds before) same

  pub stands_renewed : (old new : View) → StandsOn guard journal old → Passes old new
      → (IsTrue old.tells_bytes → Holds (Some 3) (journal.epoch + 1) (renewed guard) size (part (other journal.area) new.shown))
      → IsSameBeside (other journal.area) old.shown new.shown → (IsSettled old → IsSettled new) → StandsOn guard (next_journal journal size) new
  stands_renewed old new stands passes holds same settled = record {
    saved = λ told. (renewed guard, alone_renewed old new stands passes holds same told);
    settled = λ honest told. settled (stands.settled (sym passes.honest ∙ honest) (sym passes.tells_bytes ∙ told));
  }

-- there is a next epoch, and no more commits than its stores may have
at_most : (epoch : ℕ) → IsTrue (is_epoch epoch) → (1 ≤ epoch) × (epoch ≤ 16777215)
at_most epoch numbered = (grind (arith, nat_tests), grind (arith, nat_tests))

pub few_before : (epoch end commits : ℕ) → IsTrue (is_epoch epoch) → end < 2 ^ 40 → commits ≤ (epoch - 1) * 2 ^ 40 + end → commits ≤ epoch * 2 ^ 40
few_before epoch end commits numbered below most = let bounds = at_most epoch numbered in omega (arith, bounds.0, bounds.1, below, most)

epoch_test : (epoch : ℕ) → 1 ≤ epoch → epoch ≤ 16777215 → IsTrue (is_epoch epoch)
epoch_test epoch least most = grind (arith, nat_tests)

pub next_epoch : (epoch : ℕ) → IsTrue (is_epoch epoch) → (epoch ≡ 16777215 → ⊥) → IsTrue (is_epoch (epoch + 1))
next_epoch epoch numbered last = let bounds = at_most epoch numbered in epoch_test (epoch + 1) (omega arith) (omega (arith, bounds.1, last))

-- what a stop leaves while the call makes the store that a guard begins anew, in the other area
pub renewing_stops : (guard : GuardState) (journal : Journal) (area : Area) (first : List ℕ) {result : Result Journal AreaFault} {failed : Type 0} {old new : View}
    → schema_of guard.text ≡ schema guard.schema → IsGuarded guard.schema guard.limits guard.graph → decoded (payload_of (Schema guard.text)) ≡ Some (Schema guard.text)
    → decoded (payload_of (snapshot_of guard)) ≡ Some (snapshot_of guard) → IsBounded journal guard.commits → 16 + length first < 2 ^ 64 → area ≡ other journal.area
    → IsFrames (renewed guard) 3 first → IsStoreMade area (journal.epoch + 1) 3 first result failed old new → StandsOn guard journal old
    → IsTrue old.honest → IsTrue old.tells_bytes → EachSince (IsRenewedIn guard journal) old new
renewing_stops guard journal area first {result} {failed} {old} {new} of_text guarded schema_read snapshot_read bounded small is frames made stands honest told =
    stops_renewed guard journal (16 + length first) of_text guarded schema_read snapshot_read (few_before journal.epoch journal.end guard.commits bounded.epoch bounded.end bounded.most) small old new stands honest told
    (subst (λ (a : Area). IsTrue old.tells_bytes → IsSynced a old → StopsBy (Turns a (Creates (journal.epoch + 1) (renewed guard) (16 + length first))) old new) is (made.stops (renewed guard) frames))

-- the rows of a guard's graph have a payload
pub snapshot_sized : (guard : GuardState) → has_small_rows guard.graph ≡ true → is_graph guard.graph ≡ true → IsTrue (is_sized (snapshot_of guard))
snapshot_sized guard small graph = and_from (has_small_rows guard.graph) (is_graph guard.graph) small graph

-- the journal of the next epoch has no more commits than it may
pub next_bounded : (journal after : Journal) (area : Area) (commits end : ℕ) → IsBounded journal commits → (journal.epoch ≡ 16777215 → ⊥)
    → after ≡ record { area = area; epoch = journal.epoch + 1; end = end; next = Some 3 } → after.end < 2 ^ 40 → 3 ≤ after.end → IsBounded after commits
next_bounded journal after area commits end bounded last is below within =
    let epoch : after.epoch ≡ journal.epoch + 1 = ap (λ (j : Journal). j.epoch) is in
    let few = few_before journal.epoch journal.end commits bounded.epoch bounded.end bounded.most in
    let before : journal.epoch + 1 - 1 ≡ journal.epoch = omega arith in
    record {
      epoch = subst (λ (e : ℕ). IsTrue (is_epoch e)) (sym epoch) (next_epoch journal.epoch bounded.epoch last);
      end = below;
      next = subst (λ (n : Option ℕ). IsNextWithin n after.end) (sym (ap (λ (j : Journal). j.next) is)) within;
      most = rw (epoch, before) (omega (arith, few));
    }
