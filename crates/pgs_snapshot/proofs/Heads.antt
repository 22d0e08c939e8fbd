-- The choice of two areas, by their heads and by what the area of the greater epoch is.
use Rattle.std.proofs.Common.{◌≡◌, ℕ, ◌+◌, Bool, true, false, ◌||◌, ◌&&◌, List, length, drop, Some, None, refl, sym, ◌∙◌, ap, if◌then◌else◌}
use Rattle.std.specs.declared.option.Option.{Option}
use Rattle.pgs_world.specs.declared.area.Area.{Area}
use Rattle.pgs_world.specs.declared.area.Area.TheVariants.{A, B}
use Rattle.pgs_world.specs.World.{Triple, part}
use Rattle.pgs_journal.specs.declared.area_state.AreaState.{AreaState}
use Rattle.pgs_journal.specs.declared.area_state.AreaState.TheVariants.{NoStore, Damaged, Store}
use Rattle.pgs_journal.specs.declared.format.Format.{Format}
use Rattle.pgs_journal.specs.declared.head.Head.{Head}
use Rattle.pgs_journal.specs.declared.head.Head.TheVariants as heads
use Rattle.pgs_journal.specs.Area.{area_state, epoch_of, first_unfit, has_some, head_format, head_of, head_with, is_no_store, judged, state_with, state_within, store_of}
use Rattle.pgs_journal.specs.Format.{next_after, opened}
use Rattle.pgs_journal.specs.Reading.{Found, records_in}
use Rattle.pgs_snapshot.specs.Choice.{choice_in, choice_of, foreign, greater, head_epoch, is_foreign, is_foreign_head, leading, no_store, store_epoch, taken, without_heads}

module _ (format : Format) (epoch : ℕ) (found : Found) where
  within_epoch : store_epoch (state_within format epoch found) ≡ Some epoch
  within_epoch = at (first_unfit format epoch 1 found.payloads)
    where
      whole : (b : Bool) → store_epoch (if b then Store epoch (length (opened format epoch found.payloads)) (next_after format found.payloads) found.payloads else Damaged epoch (length found.payloads + 1)) ≡ Some epoch
      whole true = refl
      whole false = refl

      at : (o : Option ℕ) → store_epoch (judged o epoch (store_of format epoch found)) ≡ Some epoch
      at None = whole (found.ended && has_some found.payloads)
      at (Some number) = refl

  within_ours : is_foreign (state_within format epoch found) ≡ false
  within_ours = at (first_unfit format epoch 1 found.payloads)
    where
      whole : (b : Bool) → is_foreign (if b then Store epoch (length (opened format epoch found.payloads)) (next_after format found.payloads) found.payloads else Damaged epoch (length found.payloads + 1)) ≡ false
      whole true = refl
      whole false = refl

      at : (o : Option ℕ) → is_foreign (judged o epoch (store_of format epoch found)) ≡ false
      at None = whole (found.ended && has_some found.payloads)
      at (Some number) = refl

module _ (image : List ℕ) where
  -- the head tells the epoch of the store
  epoch_told : store_epoch (area_state image) ≡ head_epoch (head_of image)
  epoch_told = at (is_no_store image)
    where
      inside : (format : Option Format) → store_epoch (state_with format image) ≡ head_epoch (head_with format (epoch_of image))
      inside None = refl
      inside (Some format) = within_epoch format (epoch_of image) (records_in format (drop 16 image))

      at : (b : Bool) → store_epoch (if b then NoStore else state_with (head_format image) image)
          ≡ head_epoch (if b then heads.NoStore else head_with (head_format image) (epoch_of image))
      at true = refl
      at false = inside (head_format image)

  -- and whether the area is another program's file
  foreign_told : is_foreign (area_state image) ≡ is_foreign_head (head_of image)
  foreign_told = at (is_no_store image)
    where
      inside : (format : Option Format) → is_foreign (state_with format image) ≡ is_foreign_head (head_with format (epoch_of image))
      inside None = refl
      inside (Some format) = within_ours format (epoch_of image) (records_in format (drop 16 image))

      at : (b : Bool) → is_foreign (if b then NoStore else state_with (head_format image) image)
          ≡ is_foreign_head (if b then heads.NoStore else head_with (head_format image) (epoch_of image))
      at true = refl
      at false = inside (head_format image)

-- both heads of a triple are these
pub record AreHeads (a b : Head) (triple : Triple) : Type 0 where
  pub of_a : a ≡ head_of triple.a
  pub of_b : b ≡ head_of triple.b

module _ (a b : Head) (triple : Triple) (are : AreHeads a b triple) where
  abbrev x : AreaState
  x = area_state triple.a

  abbrev y : AreaState
  y = area_state triple.b

  choice_led : choice_of triple.a triple.b ≡ choice_in x y (leading a b)
  unfolding choice_of
  choice_led =
      ap (λ o. choice_in x y (greater o (store_epoch y))) (epoch_told triple.a ∙ ap head_epoch (sym are.of_a))
      ∙ ap (λ o. choice_in x y (greater (head_epoch a) o)) (epoch_told triple.b ∙ ap head_epoch (sym are.of_b))

  -- where a head is a store's, the choice is what the area is of the one with the greater epoch
  pub leading_choice : (area : Area) → leading a b ≡ Some area → choice_of triple.a triple.b ≡ taken area (area_state (part area triple))
  leading_choice A is = choice_led ∙ ap (choice_in x y) is
  leading_choice B is = choice_led ∙ ap (choice_in x y) is

  -- else the heads tell which one it is
  pub headless_choice : leading a b ≡ None → choice_of triple.a triple.b ≡ without_heads a b
  headless_choice is =
      choice_led ∙ ap (choice_in x y) is
      ∙ ap (λ (f : Bool). if (f || is_foreign y) then foreign else no_store) (foreign_told triple.a ∙ ap is_foreign_head (sym are.of_a))
      ∙ ap (λ (f : Bool). if (is_foreign_head a || f) then foreign else no_store) (foreign_told triple.b ∙ ap is_foreign_head (sym are.of_b))
