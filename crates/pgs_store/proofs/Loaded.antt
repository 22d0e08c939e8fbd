-- What a stop while a first store is made leaves, and what stands after it.
use Rattle.std.proofs.Common.{◌≡◌, false, Err, refl, inl, inr, ⊎_elim, ℕ, ◌+◌, ◌<◌, ◌^◌, IsTrue, List, [], ◌∷◌, length, Result, Some, sym, ◌∙◌, ap, subst}
use Rattle.pgs_base.specs.declared.limits.Limits.{Limits}
use Rattle.pgs_base.specs.declared.seed.Seed.{Seed}
use Rattle.pgs_base.specs.Graph.{Graph, empty_graph}
use Rattle.pgs_codec.specs.declared.command.Command.TheVariants.{Schema}
use Rattle.pgs_codec.specs.Payload.{payload_of}
use Rattle.pgs_codec.specs.Reading.{decoded}
use Rattle.pgs_journal.specs.Creating.{IsStoreMade}
use Rattle.pgs_journal.specs.declared.journal.Journal.{Journal}
use Rattle.pgs_journal.specs.Format.{Holds, IsFrames}
use Rattle.pgs_journal.specs.Stops.{Turns, Creates}
use Rattle.pgs_resolve.specs.SchemaOf.{schema, schema_of}
use Rattle.pgs_snapshot.specs.Choice.{choice_of, no_store}
use Rattle.pgs_snapshot.proofs.Fitness.{first_fit}
use Rattle.pgs_snapshot.proofs.Histories.{first_saves}
use Rattle.pgs_snapshot.proofs.Stores.{first_left, first_chosen}
use Rattle.pgs_store.specs.declared.fault.LoadFault.{LoadFault}
use Rattle.pgs_store.specs.declared.fault.LoadFault.TheVariants.{Memory, DiskFault, AlreadyStore, Foreign, Schema as SchemaRefused}
use Rattle.pgs_store.specs.Loads.{FindsNone, HasSchema, IsOccupied, Loads, is_of_text}
use Rattle.pgs_store.specs.State.{GuardState}
use Rattle.pgs_store.specs.Stored.{StandsOn, IsLoadedIn, opened, first_journal}
use Rattle.pgs_syntax.specs.declared.resolved.Resolved.{Resolved}
use Rattle.pgs_world.specs.declared.area.Area.TheVariants.{A}
use Rattle.pgs_world.specs.declared.fault.AreaFault.{AreaFault}
use Rattle.pgs_world.specs.Disk.{IsSameBeside}
use Rattle.pgs_world.specs.Moment.{Passes, StopsBy, EachSince, IsQuiet, IsSynced, IsSettled}
use Rattle.pgs_world.specs.World.{Triple, View}
use Rattle.pgs_world.proofs.Moments.{each_on, each_quiet, each_step, settled_quiet, synced_settled}

abbrev is_free : Triple → Type 0
is_free triple = choice_of triple.a triple.b ≡ no_store

same_free : (old new : Triple) → is_free old → new.a ≡ old.a → new.b ≡ old.b → is_free new
same_free old new free a b = ap (λ (image : List ℕ). choice_of image new.b) a ∙ ap (λ (image : List ℕ). choice_of old.a image) b ∙ free

-- before anything is written
pub unwritten : (limits : Limits) (text : List ℕ) (old new : View) → FindsNone old → IsSettled old → IsQuiet old new → EachSince (IsLoadedIn limits text) old new
unwritten limits text old new free settled quiet =
    each_quiet old new (IsLoadedIn limits text) settled.honest quiet
    (λ c left. inl (same_free old.shown c (free settled.tells_bytes) (settled.a c left) (settled.b c left)))

module _ (limits : Limits) (text : List ℕ) (resolved : Resolved) (payload : List ℕ) (end : ℕ)
    (of_text : schema_of text ≡ schema resolved) (read : decoded payload ≡ Some (Schema text)) (small : end < 2 ^ 64) where
  create_stops : (old new : Triple) → is_free old → Turns A (Creates 1 (payload ∷ []) end) old new → IsLoadedIn limits text new
  create_stops old new free turns =
      ⊎_elim (λ none. inl none)
      (λ has. inr (resolved, end, of_text, (payload ∷ [], record { has = has; saves = first_saves limits payload text resolved read of_text })))
      (first_left (payload ∷ []) end old new free (first_fit 1 payload text read) small turns)

  pub load_stops : (old mid new : View) → FindsNone old → IsSettled old → IsQuiet old mid → Passes mid new
      → (IsTrue mid.tells_bytes → IsSynced A mid → StopsBy (Turns A (Creates 1 (payload ∷ []) end)) mid new) → EachSince (IsLoadedIn limits text) old new
  load_stops old mid new free settled quiet passes stops =
      let there = settled_quiet old mid settled quiet in
      let none = subst is_free (sym quiet.shown) (free settled.tells_bytes) in
      each_on old mid new (IsLoadedIn limits text) quiet.passes passes (unwritten limits text old mid free settled quiet)
      (each_step mid new (Turns A (Creates 1 (payload ∷ []) end)) is_free (IsLoadedIn limits text) there.honest
      (λ d left. same_free mid.shown d none (there.a d left) (there.b d left)) create_stops (stops there.tells_bytes (synced_settled A mid there)))

  pub load_stands : (seed : Seed) (old mid new : View) → FindsNone old → IsQuiet old mid → Passes mid new
      → (IsTrue mid.tells_bytes → Holds (Some 2) 1 (payload ∷ []) end new.shown.a) → IsSameBeside A mid.shown new.shown
      → (IsTrue old.honest → IsTrue old.tells_bytes → IsSettled mid) → (IsSettled mid → IsSettled new) → StandsOn (opened text resolved limits seed) (first_journal end) new
  load_stands seed old mid new free quiet passes holds same settled kept = record {
    saved = λ told.
        let middle = sym passes.tells_bytes ∙ told in
        let before = sym quiet.passes.tells_bytes ∙ middle in
        let none = subst is_free (sym quiet.shown) (free before) in (
          payload ∷ [],
          record {
            has = first_chosen (Some 2) (payload ∷ []) end mid.shown new.shown none (holds middle) (first_fit 1 payload text read) small same;
            saves = first_saves limits payload text resolved read of_text;
          },
        );
    settled = λ honest told. kept (settled (sym quiet.passes.honest ∙ (sym passes.honest ∙ honest)) (sym quiet.passes.tells_bytes ∙ (sym passes.tells_bytes ∙ told)));
  }

-- what a stop leaves while the call makes the store of this text, in area A
pub loading_stops : (limits : Limits) (text : List ℕ) (resolved : Resolved) (first : List ℕ) {result : Result Journal AreaFault} {failed : Type 0} {old mid new : View}
    → schema_of text ≡ schema resolved → decoded (payload_of (Schema text)) ≡ Some (Schema text) → 16 + length first < 2 ^ 64 → IsFrames (payload_of (Schema text) ∷ []) 2 first
    → FindsNone old → IsSettled old → IsQuiet old mid → IsStoreMade A 1 2 first result failed mid new → EachSince (IsLoadedIn limits text) old new
loading_stops limits text resolved first {result} {failed} {old} {mid} {new} of_text read small frames free settled quiet made =
    load_stops limits text resolved (payload_of (Schema text)) (16 + length first) of_text read small old mid new free settled quiet made.step.passes (made.stops (payload_of (Schema text) ∷ []) frames)

-- a guard that was just made
pub just_made : (guard : GuardState) (text : List ℕ) (limits : Limits) → guard.text ≡ text → guard.limits ≡ limits → guard.graph ≡ empty_graph → guard.commits ≡ 0
    → guard ≡ opened text guard.schema limits guard.seed
just_made guard text limits same_text same_limits empty none =
    ap (λ (t : List ℕ). let s : GuardState = record { text = t; schema = guard.schema; limits = guard.limits; graph = guard.graph; commits = guard.commits; seed = guard.seed } in s) same_text
    ∙ ap (λ (l : Limits). let s : GuardState = record { text = text; schema = guard.schema; limits = l; graph = guard.graph; commits = guard.commits; seed = guard.seed } in s) same_limits
    ∙ ap (λ (g : Graph). let s : GuardState = record { text = text; schema = guard.schema; limits = limits; graph = g; commits = guard.commits; seed = guard.seed } in s) empty
    ∙ ap (λ (n : ℕ). let s : GuardState = record { text = text; schema = guard.schema; limits = limits; graph = empty_graph; commits = n; seed = guard.seed } in s) none

-- areas that are refused
pub occupied_answer : (limits : Limits) (text : List ℕ) (fault : LoadFault) (old now : View) → HasSchema text → IsOccupied old fault → Loads (Err fault) limits text old now
occupied_answer limits text Memory old now has occupied = tt
occupied_answer limits text DiskFault old now has occupied = tt
occupied_answer limits text AlreadyStore old now has occupied = (has, occupied)
occupied_answer limits text Foreign old now has occupied = (has, occupied)
occupied_answer limits text (SchemaRefused fault) old now has occupied = absurd occupied

-- and it isn't for the text
pub not_of_text : (fault : LoadFault) (old : View) → IsOccupied old fault → is_of_text fault ≡ false
not_of_text Memory old occupied = refl
not_of_text DiskFault old occupied = refl
not_of_text AlreadyStore old occupied = refl
not_of_text Foreign old occupied = refl
not_of_text (SchemaRefused fault) old occupied = absurd occupied
