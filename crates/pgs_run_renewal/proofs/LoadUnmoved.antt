-- What is left where nothing was done.
use Rattle.std.proofs.Common.{◌≡◌, ◌⊎◌, inl, ℕ, IsTrue, List, [], ◌∷◌, sym, ap₂, subst, ◌∙◌}
use Rattle.std.proofs.lemmas.List.{append-nil}
use Rattle.pgs_snapshot.specs.Choice.{choice_of}
use Rattle.pgs_snapshot.specs.Choice as choices
use Rattle.pgs_snapshot.specs.Saved.{saved, no_store}
use Rattle.pgs_store.specs.Loads.{FindsNone}
use Rattle.pgs_run_store.proofs.Conforming.{chosen_saves}
use Rattle.pgs_world.specs.Moment.{IsSettled, IsTimed}
use Rattle.pgs_world.specs.World.{Triple, View}
use Rattle.pgs_run_input.specs.Session.{standard}
use Rattle.pgs_run_renewal.specs.Loading.{IsLoadingAt, IsNewStore}

pub nothing_saved : (c : Triple) → choice_of c.a c.b ≡ choices.no_store → saved standard c.a c.b ≡ no_store
nothing_saved c none = chosen_saves standard c.a c.b choices.no_store none

-- no line is empty
abbrev IsEmpty : List ℕ → Type 0
IsEmpty [] = Unit {0}
IsEmpty (byte ∷ bytes) = ⊥

-- the output is as it was
pub loading_here : (was c : Triple) (text : List ℕ) → c.output ≡ was.output → (saved standard c.a c.b ≡ no_store) ⊎ IsNewStore text c → IsLoadingAt was text c
loading_here was c text output state = record {
  front = [];
  out = output ∙ sym (append-nil was.output);
  state = state;
  loaded = λ resolved is said. absurd (subst IsEmpty said tt);
}

-- ---- at the start nothing is saved

pub starts_empty : (view : View) → FindsNone view → IsSettled view → (c : Triple) → view.may_leave c → saved standard c.a c.b ≡ no_store
starts_empty view free settled c may = nothing_saved c (ap₂ choice_of (settled.a c may) (settled.b c may) ∙ free settled.tells_bytes)

pub starts_at : (view : View) (text : List ℕ) → IsTimed view → FindsNone view → IsTrue view.tells_output → IsSettled view → (c : Triple) → view.may_leave c → IsLoadingAt view.shown text c
starts_at view text timed free tells settled c may = loading_here view.shown c text (timed.output settled.honest tells c may) (inl (starts_empty view free settled c may))
