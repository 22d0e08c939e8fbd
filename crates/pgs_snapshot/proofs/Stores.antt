-- How the chosen store goes on where one image changes.
use Rattle.std.proofs.Common.{◌≡◌, ◌⊎◌, inl, inr, ⊎_elim, ℕ, ◌+◌, ◌<◌, ◌^◌, ◌≤◌, Bool, true, IsTrue, List, [], ◌∷◌, ◌++◌, length, Some, None, if◌then◌else◌, refl, sym, ◌∙◌, ap, subst, arith}
use Rattle.std.specs.declared.option.Option.{Option}
use Rattle.std.proofs.lemmas.Bool.Decides.{nat_tests}
use Rattle.pgs_codec.specs.Frame.{framed}
use Rattle.pgs_world.specs.declared.area.Area.{Area}
use Rattle.pgs_world.specs.declared.area.Area.TheVariants.{A, B}
use Rattle.pgs_world.specs.Disk.{IsSameBeside}
use Rattle.pgs_world.specs.World.{Triple, part, other}
use Rattle.pgs_journal.specs.declared.area_state.AreaState.TheVariants.{NoStore, Store}
use Rattle.pgs_journal.specs.declared.format.Format.TheVariants.{Second}
use Rattle.pgs_journal.specs.Area.{area_state, head_format, is_no_store, state_with}
use Rattle.pgs_journal.specs.Format.{advanced, format_of, Holds, is_epoch}
use Rattle.pgs_journal.specs.Stops.{Turns, Appends, Creates}
use Rattle.pgs_journal.proofs.Written.{holds-read}
use Rattle.pgs_snapshot.specs.Choice.{no_store, choice_of, store_epoch}
use Rattle.pgs_snapshot.specs.Standing.{HasStore}
use Rattle.pgs_snapshot.proofs.Choices.{Leads, leading, led, leads_alone, next_leads, none_of, of_none}
use Rattle.pgs_snapshot.proofs.Fitness.{AreFit, read_fit}

below : (epoch : ℕ) → IsTrue (is_epoch epoch) → epoch ≤ 16777215
below epoch numbered = grind (arith, nat_tests)

-- an area that holds fit records is read as their store
read : (epoch end : ℕ) (next : Option ℕ) (payloads : List (List ℕ)) (image : List ℕ) → Holds next epoch payloads end image → AreFit (format_of next) epoch payloads → end < 2 ^ 64 → area_state image ≡ Store epoch end next payloads
read epoch end next payloads image holds are small = holds-read next epoch payloads end image holds (omega (arith, small)) (omega (arith, below epoch holds.numbered)) are.some are.fit

-- the chosen area has a store of its own epoch again, and the other area is as it was
pub goes_on : (area : Area) (epoch end size : ℕ) (next after : Option ℕ) (payloads more : List (List ℕ)) (old new : Triple) → HasStore area epoch end next payloads old → Holds after epoch more size (part area new) → AreFit (format_of after) epoch more → size < 2 ^ 64
    → part (other area) new ≡ part (other area) old → HasStore area epoch size after more new
goes_on area epoch end size next after payloads more old new has holds are small beside =
    record {
      choice =
          led area epoch size after more new (record {
            state = read epoch size after more (part area new) holds are small;
            leads = subst (λ image. Leads area epoch (store_epoch (area_state image))) (sym beside) (leading area epoch end next payloads old has.choice).leads;
          });
      holds = holds;
    }

-- the records of a chosen store
pub are_fit : (area : Area) (epoch end : ℕ) (next : Option ℕ) (payloads : List (List ℕ)) (triple : Triple) → HasStore area epoch end next payloads triple → AreFit (format_of next) epoch payloads
are_fit area epoch end next payloads triple has = read_fit epoch end next payloads (part area triple) (leading area epoch end next payloads triple has.choice).state

pub same_other : (area : Area) (triple : Triple) → part (other (other area)) triple ≡ part area triple
same_other A triple = refl
same_other B triple = refl

-- the other area is as it was, and so is the chosen one
pub stays : (area : Area) (epoch end : ℕ) (next : Option ℕ) (payloads : List (List ℕ)) (old new : Triple) → HasStore area epoch end next payloads old → part area new ≡ part area old → part (other area) new ≡ part (other area) old → HasStore area epoch end next payloads new
stays area epoch end next payloads old new has own beside =
    let was = leading area epoch end next payloads old has.choice in
    record {
      choice =
          led area epoch end next payloads new (record {
            state = ap area_state own ∙ was.state;
            leads = subst (λ image. Leads area epoch (store_epoch (area_state image))) (sym beside) was.leads;
          });
      holds = subst (λ image. Holds next epoch payloads end image) (sym own) has.holds;
    }

-- no store is read as none
none_read : (image : List ℕ) → is_no_store image ≡ true → area_state image ≡ NoStore
none_read image is = ap (λ (b : Bool). if b then NoStore else state_with (head_format image) image) is

-- the other area is no store now, and the chosen one is as it was
stays_alone : (area : Area) (epoch end : ℕ) (next : Option ℕ) (payloads : List (List ℕ)) (old new : Triple) → HasStore area epoch end next payloads old → part area new ≡ part area old → is_no_store (part (other area) new) ≡ true → HasStore area epoch end next payloads new
stays_alone area epoch end next payloads old new has own none =
    record {
      choice =
          led area epoch end next payloads new (record {
            state = ap area_state own ∙ (leading area epoch end next payloads old has.choice).state;
            leads = subst (λ state. Leads area epoch (store_epoch state)) (sym (none_read (part (other area) new) none)) (leads_alone area epoch);
          });
      holds = subst (λ image. Holds next epoch payloads end image) (sym own) has.holds;
    }

-- the other area has a store of the next epoch
pub next_chosen : (area : Area) (epoch end size : ℕ) (next after : Option ℕ) (payloads more : List (List ℕ)) (old new : Triple) → HasStore area epoch end next payloads old → part area new ≡ part area old → Holds after (epoch + 1) more size (part (other area) new) → AreFit (format_of after) (epoch + 1) more → size < 2 ^ 64
    → HasStore (other area) (epoch + 1) size after more new
next_chosen area epoch end size next after payloads more old new has own holds are small =
    record {
      choice =
          led (other area) (epoch + 1) size after more new (record {
            state = read (epoch + 1) size after more (part (other area) new) holds are small;
            leads =
                subst (λ state. Leads (other area) (epoch + 1) (store_epoch state))
                (sym (ap area_state (same_other area new ∙ own) ∙ (leading area epoch end next payloads old has.choice).state)) (next_leads area epoch);
          });
      holds = holds;
    }

-- what a stop of a checkpoint leaves
pub checkpoint_left : (area : Area) (epoch end size : ℕ) (next : Option ℕ) (payloads more : List (List ℕ)) (old new : Triple) → HasStore area epoch end next payloads old → AreFit Second (epoch + 1) more → size < 2 ^ 64
    → Turns (other area) (Creates (epoch + 1) more size) old new → HasStore area epoch end next payloads new ⊎ HasStore (other area) (epoch + 1) size (Some (length more + 1)) more new
checkpoint_left area epoch end size next payloads more old new has are small turns =
    let own = sym (same_other area new) ∙ turns.same.beside ∙ same_other area old in
    ⊎_elim (λ same. inl (stays area epoch end next payloads old new has own same))
    (λ made. ⊎_elim (λ none. inl (stays_alone area epoch end next payloads old new has own none))
    (λ holds. inr (next_chosen area epoch end size next (Some (length more + 1)) payloads more old new has own holds are small)) made) turns.image

-- one record more is of the same format
pub same_format : (next : Option ℕ) → format_of (advanced next) ≡ format_of next
same_format None = refl
same_format (Some number) = refl

-- the chosen store with one record more
pub one_longer : (area : Area) (epoch end size : ℕ) (next : Option ℕ) (payloads more : List (List ℕ)) (old new : Triple) → HasStore area epoch end next payloads old → Holds (advanced next) epoch more size (part area new) → AreFit (format_of next) epoch more → size < 2 ^ 64
    → part (other area) new ≡ part (other area) old → HasStore area epoch size (advanced next) more new
one_longer area epoch end size next payloads more old new has holds are small beside =
    goes_on area epoch end size next (advanced next) payloads more old new has holds (subst (λ format. AreFit format epoch more) (sym (same_format next)) are) small beside

-- what a stop of an append leaves
pub append_left : (area : Area) (epoch end : ℕ) (next : Option ℕ) (payloads : List (List ℕ)) (payload : List ℕ) (old new : Triple) → HasStore area epoch end next payloads old → AreFit (format_of next) epoch (payloads ++ payload ∷ []) → end + length (framed next payload) < 2 ^ 64
    → Turns area (Appends next epoch end payload) old new → HasStore area epoch end next payloads new ⊎ HasStore area epoch (end + length (framed next payload)) (advanced next) (payloads ++ payload ∷ []) new
append_left area epoch end next payloads payload old new has are small turns =
    ⊎_elim (λ before. inl (goes_on area epoch end end next next payloads payloads old new has before (are_fit area epoch end next payloads old has) (omega (arith, small)) turns.same.beside))
    (λ after. inr (one_longer area epoch end (end + length (framed next payload)) next payloads (payloads ++ payload ∷ []) old new has after are small turns.same.beside)) (turns.image payloads has.holds)

-- the same images have the same store
pub images_decide : (area : Area) (epoch end : ℕ) (next : Option ℕ) (payloads : List (List ℕ)) (old new : Triple) → HasStore area epoch end next payloads old → new.a ≡ old.a → new.b ≡ old.b → HasStore area epoch end next payloads new
images_decide A epoch end next payloads old new has a b = stays A epoch end next payloads old new has a b
images_decide B epoch end next payloads old new has a b = stays B epoch end next payloads old new has b a

-- a first store stands alone
pub first_chosen : (next : Option ℕ) (payloads : List (List ℕ)) (end : ℕ) (old new : Triple) → choice_of old.a old.b ≡ no_store → Holds next 1 payloads end new.a → AreFit (format_of next) 1 payloads → end < 2 ^ 64 → IsSameBeside A old new → HasStore A 1 end next payloads new
first_chosen next payloads end old new none holds are small same =
    record {
      choice =
          led A 1 end next payloads new (record {
            state = read 1 end next payloads new.a holds are small;
            leads = subst (λ state. Leads A 1 (store_epoch state)) (sym (ap area_state same.beside ∙ (none_of old.a old.b none).1)) (leads_alone A 1);
          });
      holds = holds;
    }

-- what a stop of the making of a first store leaves
pub first_left : (payloads : List (List ℕ)) (end : ℕ) (old new : Triple) → choice_of old.a old.b ≡ no_store → AreFit Second 1 payloads → end < 2 ^ 64 → Turns A (Creates 1 payloads end) old new
    → (choice_of new.a new.b ≡ no_store) ⊎ HasStore A 1 end (Some (length payloads + 1)) payloads new
first_left payloads end old new none are small turns =
    let were = none_of old.a old.b none in
    let beside = ap area_state turns.same.beside ∙ were.1 in
    ⊎_elim (λ same. inl (of_none new.a new.b (ap area_state same ∙ were.0) beside))
    (λ made. ⊎_elim (λ closed. inl (of_none new.a new.b (none_read new.a closed) beside)) (λ holds. inr (first_chosen (Some (length payloads + 1)) payloads end old new none holds are small turns.same)) made) turns.image
