-- What is left where nothing was done.
use Rattle.std.proofs.Common.{◌≡◌, ◌⊎◌, inl, ℕ, IsTrue, List, [], ◌∷◌, Option, refl, sym, ap₂, subst, ◌∙◌}
use Rattle.std.proofs.lemmas.List.{append-nil}
use Rattle.pgs_base.specs.Graph.{Graph}
use Rattle.pgs_run_lines.specs.Pieces.{shown_of}
use Rattle.pgs_run_lines.proofs.Showing.{shows_none}
use Rattle.pgs_command.specs.declared.status.Status.TheVariants.{Memory}
use Rattle.pgs_command.proofs.Images.{area_none, images_none}
use Rattle.pgs_run_input.specs.Session.{standard}
use Rattle.pgs_snapshot.specs.Choice.{chosen_area, chosen_epoch}
use Rattle.pgs_snapshot.specs.Saved.{saved}
use Rattle.pgs_world.specs.Moment.{IsSettled, IsTimed}
use Rattle.pgs_world.specs.World.{Triple, View, other}
use Rattle.pgs_world.proofs.Moments.{each_none, passes_none}
use Rattle.pgs_run_renewal.specs.Evolving.{Kept, IsEvolving, IsEvolvingAt, IsRenewed, IsUnder}
use Rattle.pgs_run_renewal.specs.EvolveLeaving.{LeavesEvolved, SavesAs, kept_of}

-- images of the same areas
pub same_under : (it : Kept) (text : List ℕ) (d c : Triple) → c.a ≡ d.a → c.b ≡ d.b → IsUnder it text d → IsUnder it text c
same_under it text d c a b under = record {
  saves = ap₂ (saved standard) a b ∙ under.saves;
  area = ap₂ chosen_area a b ∙ under.area;
  epoch = ap₂ chosen_epoch a b ∙ under.epoch;
}

-- no line is empty
abbrev IsEmpty : List ℕ → Type 0
IsEmpty [] = Unit {0}
IsEmpty (byte ∷ bytes) = ⊥

-- the output is as it was
pub evolving_here : (it : Kept) (before text : List ℕ) (c : Triple) → c.output ≡ it.was.output → IsUnder it before c ⊎ IsRenewed it text c → IsEvolvingAt it before text c
evolving_here it before text c same state = record {
  front = [];
  out = same ∙ sym (append-nil it.was.output);
  state = state;
  evolved = λ resolved is said. absurd (subst IsEmpty said tt);
}

-- ---- at the start

module _ (view : View) (before : List ℕ) (commits : ℕ) (graph : Graph) (saves : SavesAs view before commits graph) where
  starts_under : IsUnder (kept_of view commits graph) before view.shown
  starts_under = record { saves = saves; area = refl; epoch = refl }

  pub settled_under : IsSettled view → (c : Triple) → view.may_leave c → IsUnder (kept_of view commits graph) before c
  settled_under settled c may = same_under (kept_of view commits graph) before view.shown c (settled.a c may) (settled.b c may) starts_under

  pub starts_at : (text : List ℕ) → IsTimed view → IsTrue view.tells_output → IsSettled view → (c : Triple) → view.may_leave c → IsEvolvingAt (kept_of view commits graph) before text c
  starts_at text timed tells settled c may =
      evolving_here (kept_of view commits graph) before text c (timed.output settled.honest tells c may) (inl (settled_under settled c may))

pub evolved_none : (left : Option (List ℕ)) (view : View) → IsTimed view → LeavesEvolved left view view Memory
evolved_none left view timed = record {
  passes = passes_none view timed;
  stops = λ input before commits graph is saves tells settled.
      each_none view (IsEvolvingAt (kept_of view commits graph) before input) timed (starts_at view before commits graph saves input timed tells settled);
  grows = λ before commits graph saves settled. each_none view (IsEvolving (kept_of view commits graph) before) timed (λ c may. inl (settled_under view before commits graph saves settled c may));
  unsaved = λ tells none. images_none view timed;
  old_format = λ tells none. images_none view timed;
  unwritten = λ is. images_none view timed;
  refused = λ tells input before commits graph is saves unfit. images_none view timed;
  beside = λ tells area is. area_none (other area) view timed;
  made = λ tells input before commits graph is saves made. absurd made;
  unput = λ is. shows_none (shown_of view);
}
