-- What a call of a store leaves where it ends before its first call on the world, and where that call failed.
use Rattle.std.proofs.Common.{◌≡◌, ℕ, ◌+◌, ◌^◌, ◌<◌, ◌≤◌, [], ◌∷◌, ◌++◌, Bool, true, false, IsTrue, List, length, length-append, Option, Some, refl, sym, ◌∙◌, ap, subst, arith}
use Rattle.std.specs.Int.{bytes_high_first}
use Rattle.std.proofs.lemmas.Bool.{false≢true}
use Rattle.pgs_base.specs.declared.limits.Limits.{Limits}
use Rattle.pgs_base.specs.declared.seed.Seed.{Seed}
use Rattle.pgs_base.specs.Graph.{Graph}
use Rattle.pgs_codec.specs.Frame.{framed, number_field}
use Rattle.pgs_journal.specs.declared.journal.Journal.{Journal}
use Rattle.pgs_journal.specs.Format.{IsNextWithin, is_epoch}
use Rattle.pgs_store.specs.State.{GuardState}
use Rattle.pgs_store.specs.Stored.{StoreState, IsBounded, IsSavedIn, StandsOn}
use Rattle.pgs_syntax.specs.declared.resolved.Resolved.{Resolved}
use Rattle.pgs_world.specs.declared.area.Area.TheVariants.{A}
use Rattle.pgs_world.specs.Moment.{IsTimed, EachSince}
use Rattle.pgs_world.specs.World.{View}
use Rattle.pgs_store.proofs.Applied.{same_images}

-- a `Bool` that is false isn't true
pub never : {P : Type 0} (b : Bool) → b ≡ false → b ≡ true → P
never b isnt is = absurd (false≢true (sym isnt ∙ is))

pub no_more : (n m : ℕ) → n ≤ n + m
no_more n m = omega arith

-- ---- before the first call

-- a stop leaves what is saved
pub still_saved : (guard : GuardState) (journal : Journal) (view : View) → IsTimed view → StandsOn guard journal view → IsTrue view.honest → IsTrue view.tells_bytes
    → EachSince (IsSavedIn guard journal) view view
still_saved guard journal view timed stands honest told triple left =
    let settled = stands.settled honest told in
    let here = timed.only_now triple left in
    same_images guard journal view.shown triple (stands.saved told) (settled.a triple here) (settled.b triple here)

-- ---- a store by its parts

abbrev pub store_of : GuardState → Journal → Bool → StoreState
store_of guard journal failed = record { guard = guard; journal = journal; failed = failed }

-- only the mark is set
pub same_store : (old : StoreState) (guard : GuardState) (journal : Journal) (failed : Bool) → guard ≡ old.guard → journal ≡ old.journal
    → store_of guard journal failed ≡ record old { failed = failed }
same_store old guard journal failed same kept =
    ap (λ (g : GuardState). store_of g journal failed) same ∙ ap (λ (j : Journal). store_of old.guard j failed) kept

-- the mark stays unset
pub unmarked : (old : StoreState) (guard : GuardState) (journal : Journal) → old.failed ≡ false → guard ≡ old.guard → journal ≡ old.journal
    → store_of guard journal false ≡ old
unmarked old guard journal whole same kept = same_store old guard journal false same kept ∙ ap (λ (b : Bool). store_of old.guard old.journal b) (sym whole)

-- ---- a guard by its parts, of which the graph is another one that is the same

abbrev pub guard_of : List ℕ → Resolved → Limits → ℕ → Seed → Graph → GuardState
guard_of text resolved limits commits seed graph = record { text = text; schema = resolved; limits = limits; graph = graph; commits = commits; seed = seed }

pub same_guard : (text : List ℕ) (resolved : Resolved) (limits : Limits) (commits : ℕ) (seed : Seed) (graph prepared : Graph) (guard : GuardState) → prepared ≡ graph
    → guard_of text resolved limits commits seed graph ≡ guard → guard_of text resolved limits commits seed prepared ≡ guard
same_guard text resolved limits commits seed graph prepared guard same is = ap (guard_of text resolved limits commits seed) same ∙ is

-- ---- a journal with one record more

some_bytes : (number size payload : List ℕ) → 0 < length (number ++ (size ++ (payload ++ 0 ∷ [])))
some_bytes number size payload =
    omega (arith, length-append number (size ++ (payload ++ 0 ∷ [])), length-append size (payload ++ 0 ∷ []), length-append payload (0 ∷ []))

pub ends_later : (next : Option ℕ) (frame payload : List ℕ) (end after : ℕ) → frame ≡ framed next payload → after ≡ end + length frame → end < after
ends_later next frame payload end after is long = let some : 0 < length (framed next payload) = some_bytes (number_field next) (bytes_high_first 8 (length payload)) payload in let same = ap length is in omega (arith, some, same, long)

pub still_bounded : (journal after : Journal) (commits more : ℕ) → IsBounded journal commits → more ≤ commits + 1 → after.epoch ≡ journal.epoch → after.end < 2 ^ 40
    → IsNextWithin after.next after.end → journal.end < after.end → IsBounded after more
still_bounded journal after commits more bounded one epoch below next later = record {
  epoch = subst (λ (e : ℕ). IsTrue (is_epoch e)) (sym epoch) bounded.epoch;
  end = below;
  next = next;
  most = let before = bounded.most in rw epoch (omega (arith, before, one, later));
}

-- the first journal of a store, without commits
pub first_bounded : (journal : Journal) (end commits : ℕ) → journal ≡ record { area = A; epoch = 1; end = end; next = Some 2 } → commits ≡ 0 → journal.end < 2 ^ 40
    → 2 ≤ journal.end → IsBounded journal commits
first_bounded journal end commits is none below within = record {
  epoch = subst (λ (e : ℕ). IsTrue (is_epoch e)) (sym (ap (λ (j : Journal). j.epoch) is)) refl;
  end = below;
  next = subst (λ (n : Option ℕ). IsNextWithin n journal.end) (sym (ap (λ (j : Journal). j.next) is)) within;
  most = omega (arith, none);
}
