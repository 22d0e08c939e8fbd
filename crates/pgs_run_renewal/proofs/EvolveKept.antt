-- What images save, by the store that they hold, and that the same images save the same.
use Rattle.std.proofs.Common.{◌≡◌, ◌⊎◌, inl, inr, ⊎_elim, ℕ, IsTrue, List, Some, Ok, sym, ◌∙◌, ap, subst}
use Rattle.pgs_base.specs.declared.limits.Limits.{Limits}
use Rattle.pgs_base.specs.Graph.{Graph}
use Rattle.pgs_codec.specs.declared.command.Command.TheVariants.{Schema}
use Rattle.pgs_journal.specs.declared.journal.Journal.{Journal}
use Rattle.pgs_run_input.specs.Answers.{schema_answer}
use Rattle.pgs_run_input.specs.Input.{text_front}
use Rattle.pgs_run_input.specs.Session.{standard}
use Rattle.pgs_run_input.proofs.Answering.{answer_ok}
use Rattle.pgs_run_input.proofs.SameFronts.{schema_of_front, whole_text}
use Rattle.pgs_snapshot.specs.Choice.{area_chosen, chosen_area, chosen_epoch, chosen_next, epoch_chosen, next_chosen}
use Rattle.pgs_snapshot.specs.Choice as choices
use Rattle.pgs_snapshot.specs.Saved.{saved, saved_of, store}
use Rattle.pgs_store.specs.State.{GuardState}
use Rattle.pgs_store.specs.Stored.{StoreState, IsConforming, IsEvolvedIn, IsSavedIn, evolved, longer}
use Rattle.pgs_run_store.proofs.Conforming.{chosen_saves}
use Rattle.pgs_syntax.specs.declared.resolved.Resolved.{Resolved}
use Rattle.pgs_world.specs.World.{Triple, View}
use Rattle.pgs_run_renewal.specs.Evolving.{Kept, IsEvolving, IsEvolvingAt, IsRenewed, IsUnder}
use Rattle.pgs_run_renewal.specs.EvolveLeaving.{IsEvolvable, SavesAs, kept_of}
use Rattle.pgs_run_renewal.proofs.EvolveUnmoved.{same_under}

-- ---- images of the same areas

pub same_renewed : (it : Kept) (text : List ℕ) (d c : Triple) → c.a ≡ d.a → c.b ≡ d.b → IsRenewed it text d → IsRenewed it text c
same_renewed it text d c a b renewed = record {
  schema = renewed.schema;
  of_text = renewed.of_text;
  conforms = renewed.conforms;
  under = same_under it text d c a b renewed.under;
}

pub same_evolving : (it : Kept) (before : List ℕ) (d c : Triple) → c.a ≡ d.a → c.b ≡ d.b → IsEvolving it before d → IsEvolving it before c
same_evolving it before d c a b (inl under) = inl (same_under it before d c a b under)
same_evolving it before d c a b (inr (text, renewed)) = inr (text, same_renewed it text d c a b renewed)

-- ---- a text by its front

front_is : (input : List ℕ) (resolved : Resolved) → schema_answer (text_front input) ≡ Ok resolved → text_front input ≡ input
front_is input resolved is = whole_text input resolved (sym (schema_of_front input) ∙ is)

pub renewed_whole : (it : Kept) (input : List ℕ) (c : Triple) → IsRenewed it (text_front input) c → IsRenewed it input c
renewed_whole it input c renewed = subst (λ (text : List ℕ). IsRenewed it text c) (front_is input renewed.schema renewed.of_text) renewed

pub evolving_whole : (it : Kept) (before input : List ℕ) (c : Triple) → IsEvolvingAt it before (text_front input) c → IsEvolvingAt it before input c
evolving_whole it before input c at = record {
  front = at.front;
  out = at.out;
  state = ⊎_elim (λ under. inl under) (λ renewed. inr (renewed_whole it input c renewed)) at.state;
  evolved = λ resolved is said. renewed_whole it input c (at.evolved resolved (schema_of_front input ∙ is) said);
}

-- ---- images that hold a store

saves_in : (guard : GuardState) (journal : Journal) (c : Triple) → guard.limits ≡ standard → IsSavedIn guard journal c → saved standard c.a c.b ≡ store guard.text guard.commits guard.graph
saves_in guard journal c limits is =
    chosen_saves standard c.a c.b (choices.chosen journal.area journal.epoch journal.end journal.next is.0) is.1.has.choice
    ∙ ap (λ (l : Limits). saved_of l is.0) (sym limits) ∙ is.1.saves

area_in : (guard : GuardState) (journal : Journal) (c : Triple) → IsSavedIn guard journal c → chosen_area c.a c.b ≡ Some journal.area
area_in guard journal c is = ap area_chosen is.1.has.choice

epoch_in : (guard : GuardState) (journal : Journal) (c : Triple) → IsSavedIn guard journal c → chosen_epoch c.a c.b ≡ Some journal.epoch
epoch_in guard journal c is = ap epoch_chosen is.1.has.choice

next_in : (guard : GuardState) (journal : Journal) (c : Triple) → IsSavedIn guard journal c → chosen_next c.a c.b ≡ journal.next
next_in guard journal c is = ap next_chosen is.1.has.choice

-- what is saved is one text, one number of commits and one graph
same_store : (text before : List ℕ) (n commits : ℕ) (g graph : Graph) → store text n g ≡ store before commits graph → (P : List ℕ → ℕ → Graph → Type 0) → P text n g → P before commits graph
same_store text before n commits g graph is P holds =
    let texts : text ≡ before = cc in
    let numbers : n ≡ commits = cc in
    let graphs : g ≡ graph = cc in
    subst (λ (t : List ℕ). P t commits graph) texts (subst (λ (k : ℕ). P text k graph) numbers (subst (λ (h : Graph). P text n h) graphs holds))

-- a store that stands on a world that tells its bytes
module _ (it : StoreState) (view : View) (ready : IsEvolvable it view) (tells : IsTrue view.tells_bytes) where
  abbrev pub kept : Kept
  kept = kept_of view it.guard.commits it.guard.graph

  pub saves_there : SavesAs view it.guard.text it.guard.commits it.guard.graph
  saves_there = saves_in it.guard it.journal view.shown ready.limits (ready.stands.saved tells)

  pub area_there : chosen_area view.shown.a view.shown.b ≡ Some it.journal.area
  area_there = area_in it.guard it.journal view.shown (ready.stands.saved tells)

  pub next_there : chosen_next view.shown.a view.shown.b ≡ it.journal.next
  next_there = next_in it.guard it.journal view.shown (ready.stands.saved tells)

  -- whatever is known of its text, commits and graph is known of what is saved
  pub as_saved : (before : List ℕ) (commits : ℕ) (graph : Graph) → SavesAs view before commits graph → (P : List ℕ → ℕ → Graph → Type 0) → P it.guard.text it.guard.commits it.guard.graph → P before commits graph
  as_saved before commits graph saves = same_store it.guard.text before it.guard.commits commits it.guard.graph graph (sym saves_there ∙ saves)

  under_in : (c : Triple) → IsSavedIn it.guard it.journal c → IsUnder kept it.guard.text c
  under_in c is = record {
    saves = saves_in it.guard it.journal c ready.limits is;
    area = area_in it.guard it.journal c is ∙ sym area_there;
    epoch = epoch_in it.guard it.journal c is ∙ sym (epoch_in it.guard it.journal view.shown (ready.stands.saved tells));
  }

  pub renewed_in : (c : Triple) (text : List ℕ) (resolved : Resolved) → IsConforming it.guard text resolved → IsSavedIn (evolved it.guard text resolved) (longer it.journal (Schema text)) c → IsRenewed kept text c
  renewed_in c text resolved conforming is = record {
    schema = resolved;
    of_text = answer_ok text resolved conforming.0;
    conforms = conforming.1;
    under = record {
      saves = saves_in (evolved it.guard text resolved) (longer it.journal (Schema text)) c ready.limits is;
      area = area_in (evolved it.guard text resolved) (longer it.journal (Schema text)) c is ∙ sym area_there;
      epoch = epoch_in (evolved it.guard text resolved) (longer it.journal (Schema text)) c is ∙ sym (epoch_in it.guard it.journal view.shown (ready.stands.saved tells));
    };
  }

  -- what a stop inside the call leaves
  pub evolved_in : (c : Triple) (text : List ℕ) → IsEvolvedIn it.guard it.journal text c → IsUnder kept it.guard.text c ⊎ IsRenewed kept text c
  evolved_in c text (inl is) = inl (under_in c is)
  evolved_in c text (inr (resolved, conforming, is)) = inr (renewed_in c text resolved conforming is)
