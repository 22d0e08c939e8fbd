-- What images save while a text is loaded.
use Rattle.std.proofs.Common.{◌≡◌, ◌⊎◌, inl, inr, ℕ, List, Some, sym, ap, ap₂, subst, ◌∙◌}
use Rattle.pgs_base.specs.Graph.{empty_graph}
use Rattle.pgs_base.specs.declared.seed.Seed.{Seed}
use Rattle.pgs_base.specs.declared.seed.Seed.TheVariants.{Fixed}
use Rattle.pgs_snapshot.specs.Choice.{area_chosen, chosen_area, chosen_epoch, chosen_next, epoch_chosen, next_chosen}
use Rattle.pgs_snapshot.specs.Choice as choices
use Rattle.pgs_snapshot.specs.Saved.{saved, no_store}
use Rattle.pgs_store.specs.Stored.{IsLoadedIn, IsSavedIn, first_journal, opened}
use Rattle.pgs_run_store.proofs.Conforming.{chosen_saves, saved_conforming}
use Rattle.pgs_syntax.specs.declared.resolved.Resolved.{Resolved}
use Rattle.pgs_world.specs.declared.area.Area.TheVariants.{A}
use Rattle.pgs_world.specs.World.{Triple}
use Rattle.pgs_run_input.specs.Input.{text_front}
use Rattle.pgs_run_input.specs.Session.{standard}
use Rattle.pgs_run_input.proofs.Answering.{answer_ok}
use Rattle.pgs_run_input.proofs.SameFronts.{schema_of_front, whole_text}
use Rattle.pgs_run_renewal.specs.Loading.{IsLoading, IsLoadingAt, IsNewStore}
use Rattle.pgs_run_renewal.proofs.LoadUnmoved.{loading_here, nothing_saved}

-- ---- images of the same areas

pub same_new : (text : List ℕ) (d c : Triple) → c.a ≡ d.a → c.b ≡ d.b → IsNewStore text d → IsNewStore text c
same_new text d c a b new = record {
  saves = ap₂ (saved standard) a b ∙ new.saves;
  area = ap₂ chosen_area a b ∙ new.area;
  epoch = ap₂ chosen_epoch a b ∙ new.epoch;
  next = ap₂ chosen_next a b ∙ new.next;
}

pub same_loading : (d c : Triple) → c.a ≡ d.a → c.b ≡ d.b → IsLoading d → IsLoading c
same_loading d c a b (inl none) = inl (ap₂ (saved standard) a b ∙ none)
same_loading d c a b (inr (text, resolved, answer, new)) = inr (text, resolved, answer, same_new text d c a b new)

-- ---- inside the load

-- images that hold the first store of a text
pub new_store : (seed : Seed) (text : List ℕ) (resolved : Resolved) (end : ℕ) (c : Triple) → IsSavedIn (opened text resolved standard seed) (first_journal end) c → IsNewStore text c
new_store seed text resolved end c is = record {
  saves = chosen_saves standard c.a c.b (choices.chosen A 1 end (Some 2) is.0) is.1.has.choice ∙ is.1.saves;
  area = ap area_chosen is.1.has.choice;
  epoch = ap epoch_chosen is.1.has.choice;
  next = ap next_chosen is.1.has.choice;
}

pub loading_in : (text : List ℕ) (c : Triple) → IsLoadedIn standard text c → IsLoading c
loading_in text c (inl none) = inl (nothing_saved c none)
loading_in text c (inr (resolved, end, of_text, is)) = inr (text, resolved, answer_ok text resolved of_text, new_store Fixed text resolved end c is)

pub loading_at : (was c : Triple) (text : List ℕ) → c.output ≡ was.output → IsLoadedIn standard text c → IsLoadingAt was text c
loading_at was c text output (inl none) = loading_here was c text output (inl (nothing_saved c none))
loading_at was c text output (inr (resolved, end, of_text, is)) = loading_here was c text output (inr (new_store Fixed text resolved end c is))

-- ---- a text by its front

pub new_whole : (input : List ℕ) (c : Triple) → IsNewStore (text_front input) c → IsNewStore input c
new_whole input c new =
    let found = saved_conforming standard c.a c.b (text_front input) 0 empty_graph new.saves in
    subst (λ (text : List ℕ). IsNewStore text c) (whole_text input found.resolved (sym (schema_of_front input) ∙ answer_ok (text_front input) found.resolved found.of_text)) new

pub loading_whole : (was : Triple) (input : List ℕ) (c : Triple) → IsLoadingAt was (text_front input) c → IsLoadingAt was input c
loading_whole was input c at = record {
  front = at.front;
  out = at.out;
  state = by_state at.state;
  loaded = λ resolved is said. new_whole input c (at.loaded resolved (schema_of_front input ∙ is) said);
}
  where
    by_state : (saved standard c.a c.b ≡ no_store) ⊎ IsNewStore (text_front input) c → (saved standard c.a c.b ≡ no_store) ⊎ IsNewStore input c
    by_state (inl none) = inl none
    by_state (inr new) = inr (new_whole input c new)
