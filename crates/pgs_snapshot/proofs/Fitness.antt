-- Which records are fit for their places.
use Rattle.std.proofs.Common.{◌≡◌, ℕ, suc, ◌+◌, ◌-◌, ◌*◌, ◌^◌, ◌≤◌, Bool, true, false, ◌&&◌, ◌||◌, nat_eq, nat_le, List, [], ◌∷◌, ◌++◌, length, drop, Some, None, refl, sym, ◌∙◌, ap, subst, arith, if◌then◌else◌}
use Rattle.std.specs.declared.option.Option.{Option}
use Rattle.std.specs.Option.{option_map_or}
use Rattle.std.proofs.lemmas.Bool.{and_parts}
use Rattle.std.proofs.lemmas.Bool.Decides.{nat_tests}
use Rattle.pgs_base.specs.declared.element.EdgeId.{EdgeId}
use Rattle.pgs_base.specs.declared.element.NodeId.{NodeId}
use Rattle.pgs_base.specs.declared.row.EdgeRow.{EdgeRow}
use Rattle.pgs_base.specs.declared.row.NodeRow.{NodeRow}
use Rattle.pgs_codec.specs.declared.command.Command.{Command}
use Rattle.pgs_codec.specs.declared.command.Command.TheVariants.{Schema, Txn as Transaction, Snapshot}
use Rattle.pgs_codec.specs.Places.{is_schema, is_txn, is_snapshot_within}
use Rattle.pgs_codec.specs.Reading.{decoded}
use Rattle.pgs_journal.specs.declared.area_state.AreaState.{AreaState}
use Rattle.pgs_journal.specs.declared.area_state.AreaState.TheVariants.{NoStore, Foreign, Damaged, Store}
use Rattle.pgs_journal.specs.declared.format.Format.{Format}
use Rattle.pgs_journal.specs.declared.format.Format.TheVariants.{First, Second}
use Rattle.pgs_journal.specs.Area.{area_state, epoch_of, first_unfit, has_later_schemas, has_some, head_format, is_fit, is_no_store, judged, state_with, state_within, store_of}
use Rattle.pgs_journal.specs.Format.{format_of, next_after, opened}
use Rattle.pgs_journal.specs.Reading.{Found, records_in}
use Rattle.pgs_snapshot.specs.Standing.{IsAppendable}

-- at least one record, and each is fit
pub record AreFit (format : Format) (epoch : ℕ) (payloads : List (List ℕ)) : Type 0 where
  pub some : has_some payloads ≡ true
  pub fit : first_unfit format epoch 1 payloads ≡ None

-- the records of a store
abbrev HasFit : AreaState → Type 0
HasFit NoStore = Unit {0}
HasFit Foreign = Unit {0}
HasFit (Damaged epoch number) = Unit {0}
HasFit (Store epoch end next payloads) = AreFit (format_of next) epoch payloads

-- the next number tells the format
pub format_kept : (format : Format) (payloads : List (List ℕ)) → format_of (next_after format payloads) ≡ format
format_kept First payloads = refl
format_kept Second payloads = refl

fit_store : (format : Format) (epoch : ℕ) (found : Found) → first_unfit format epoch 1 found.payloads ≡ None → HasFit (store_of format epoch found)
fit_store format epoch found is = at (found.ended && has_some found.payloads) refl
  where
    at : (b : Bool) → (found.ended && has_some found.payloads) ≡ b
        → HasFit (if b then Store epoch (length (opened format epoch found.payloads)) (next_after format found.payloads) found.payloads else Damaged epoch (length found.payloads + 1))
    at true both =
        subst (λ f. AreFit f epoch found.payloads) (sym (format_kept format found.payloads))
        (record { some = (and_parts found.ended (has_some found.payloads) both).1; fit = is })
    at false both = tt

fit_within : (format : Format) (epoch : ℕ) (found : Found) → HasFit (state_within format epoch found)
fit_within format epoch found = at (first_unfit format epoch 1 found.payloads) refl
  where
    at : (o : Option ℕ) → first_unfit format epoch 1 found.payloads ≡ o → HasFit (judged o epoch (store_of format epoch found))
    at None is = fit_store format epoch found is
    at (Some number) is = tt

fit_with : (format : Option Format) (image : List ℕ) → HasFit (state_with format image)
fit_with None image = tt
fit_with (Some format) image = fit_within format (epoch_of image) (records_in format (drop 16 image))

fit_state : (image : List ℕ) → HasFit (area_state image)
fit_state image = at (is_no_store image)
  where
    at : (b : Bool) → HasFit (if b then NoStore else state_with (head_format image) image)
    at true = tt
    at false = fit_with (head_format image) image

-- an area that is read as a store has fit records
pub read_fit : (epoch end : ℕ) (next : Option ℕ) (payloads : List (List ℕ)) (image : List ℕ) → area_state image ≡ Store epoch end next payloads → AreFit (format_of next) epoch payloads
read_fit epoch end next payloads image is = subst HasFit is (fit_state image)

-- ---- records of commands

not_first : (number : ℕ) → 2 ≤ number → nat_eq number 1 ≡ false
not_first number later = grind (arith, nat_tests)

-- whether a command's record is fit behind the first
abbrev fit_later : Format → ℕ → ℕ → Option Command → Bool
fit_later format epoch number command =
    option_map_or is_txn command false || (has_later_schemas format && option_map_or is_schema command false)
    || (nat_eq number 2 && option_map_or (is_snapshot_within ((epoch - 1) * 2 ^ 40)) command false)

later_fit : (format : Format) (epoch number : ℕ) (payload : List ℕ) → 2 ≤ number → is_fit format epoch number payload ≡ fit_later format epoch number (decoded payload)
unfolding is_fit
later_fit format epoch number payload later =
    ap (λ (b : Bool). if b then option_map_or is_schema (decoded payload) false else fit_later format epoch number (decoded payload)) (not_first number later)

fit_schema : (format : Format) (epoch : ℕ) (payload text : List ℕ) → decoded payload ≡ Some (Schema text) → is_fit format epoch 1 payload ≡ true
unfolding is_fit
fit_schema format epoch payload text is = ap (λ o. option_map_or is_schema o false) is

-- a transaction, or a schema in the second format
fit_appended : (next : Option ℕ) (epoch number : ℕ) (command : Option Command) → IsAppendable next command → fit_later (format_of next) epoch number command ≡ true
fit_appended next epoch number (Some (Transaction txn)) is = refl
fit_appended (Some place) epoch number (Some (Schema text)) is = refl
fit_appended None epoch number (Some (Schema text)) is = absurd is
fit_appended next epoch number (Some (Snapshot commits nodes edges)) is = absurd is
fit_appended next epoch number None is = absurd is

fit_snapshot : (epoch : ℕ) (payload : List ℕ) (commits : ℕ) (nodes : List (NodeId × NodeRow)) (edges : List (EdgeId × EdgeRow)) → decoded payload ≡ Some (Snapshot commits nodes edges) → commits ≤ epoch * 2 ^ 40 → is_fit Second (epoch + 1) 2 payload ≡ true
fit_snapshot epoch payload commits nodes edges is within =
    later_fit Second (epoch + 1) 2 payload (omega arith) ∙ ap (fit_later Second (epoch + 1) 2) is ∙ most
  where
    small : nat_le commits (epoch * 2 ^ 40) ≡ true
    small = grind (arith, nat_tests)

    most : nat_le commits ((epoch + 1 - 1) * 2 ^ 40) ≡ true
    most = let same : epoch + 1 - 1 ≡ epoch = omega arith in ap (λ n. nat_le commits (n * 2 ^ 40)) same ∙ small

-- the records of a first store, and of a checkpoint
pub first_fit : (epoch : ℕ) (payload text : List ℕ) → decoded payload ≡ Some (Schema text) → AreFit Second epoch (payload ∷ [])
first_fit epoch payload text is =
    record { some = refl; fit = ap (λ (b : Bool). let o : Option ℕ = if b then None else Some 1 in o) (fit_schema Second epoch payload text is) }

pub checkpoint_fit : (epoch : ℕ) (first second text : List ℕ) (commits : ℕ) (nodes : List (NodeId × NodeRow)) (edges : List (EdgeId × EdgeRow)) → decoded first ≡ Some (Schema text) → decoded second ≡ Some (Snapshot commits nodes edges) → commits ≤ epoch * 2 ^ 40
    → AreFit Second (epoch + 1) (first ∷ second ∷ [])
checkpoint_fit epoch first second text commits nodes edges one two within =
    record {
      some = refl;
      fit =
          ap (λ (b : Bool). if b then first_unfit Second (epoch + 1) 2 (second ∷ []) else Some 1) (fit_schema Second (epoch + 1) first text one)
          ∙ ap (λ (b : Bool). let o : Option ℕ = if b then None else Some 2 in o) (fit_snapshot epoch second commits nodes edges two within);
    }

push_fit : (format : Format) (epoch number : ℕ) (payloads : List (List ℕ)) (payload : List ℕ) → first_unfit format epoch number payloads ≡ None → is_fit format epoch (number + length payloads) payload ≡ true → first_unfit format epoch number (payloads ++ payload ∷ []) ≡ None
push_fit format epoch number [] payload before fit =
    let same : number + length {A = List ℕ} [] ≡ number = omega arith in
    ap (λ (b : Bool). let o : Option ℕ = if b then None else Some number in o) (sym (ap (λ n. is_fit format epoch n payload) same) ∙ fit)
push_fit format epoch number (first ∷ payloads) payload before fit =
    at (is_fit format epoch number first) before (λ rest. push_fit format epoch (suc number) payloads payload rest (sym (ap (λ n. is_fit format epoch n payload) same) ∙ fit))
  where
    same : number + length (first ∷ payloads) ≡ suc number + length payloads
    same = omega arith

    at : (b : Bool) → (if b then first_unfit format epoch (suc number) payloads else Some number) ≡ None → (first_unfit format epoch (suc number) payloads ≡ None → first_unfit format epoch (suc number) (payloads ++ payload ∷ []) ≡ None)
        → (if b then first_unfit format epoch (suc number) (payloads ++ payload ∷ []) else Some number) ≡ None
    at true rest more = more rest
    at false rest more = absurd (let o : Option ℕ = None in let h : Some number ≡ o = rest in cc)

-- one transaction more, or one schema more in the second format
pub more_fit : (next : Option ℕ) (epoch : ℕ) (payloads : List (List ℕ)) (payload : List ℕ) → AreFit (format_of next) epoch payloads → IsAppendable next (decoded payload) → AreFit (format_of next) epoch (payloads ++ payload ∷ [])
more_fit next epoch [] payload are is = absurd (let h : false ≡ true = are.some in cc)
more_fit next epoch (first ∷ payloads) payload are is =
    record {
      some = refl;
      fit =
          push_fit (format_of next) epoch 1 (first ∷ payloads) payload are.fit
          (later_fit (format_of next) epoch (1 + length (first ∷ payloads)) payload (omega arith) ∙ fit_appended next epoch (1 + length (first ∷ payloads)) (decoded payload) is);
    }

-- a snapshot that is fit has no more commits than the stores before it may have
pub snapshot_within : (format : Format) (epoch number : ℕ) (payload : List ℕ) (commits : ℕ) (nodes : List (NodeId × NodeRow)) (edges : List (EdgeId × EdgeRow)) → 2 ≤ number → decoded payload ≡ Some (Snapshot commits nodes edges) → is_fit format epoch number payload ≡ true → commits ≤ (epoch - 1) * 2 ^ 40
snapshot_within format epoch number payload commits nodes edges later is fit = small (and_parts (nat_eq number 2) (nat_le commits ((epoch - 1) * 2 ^ 40)) test).1
  where
    no_schema : (b : Bool) → (b && false) ≡ false
    no_schema true = refl
    no_schema false = refl

    test : (nat_eq number 2 && nat_le commits ((epoch - 1) * 2 ^ 40)) ≡ true
    test =
        sym (later_fit format epoch number payload later ∙ ap (fit_later format epoch number) is
        ∙ ap (λ (b : Bool). b || (nat_eq number 2 && nat_le commits ((epoch - 1) * 2 ^ 40))) (no_schema (has_later_schemas format)))
        ∙ fit

    small : nat_le commits ((epoch - 1) * 2 ^ 40) ≡ true → commits ≤ (epoch - 1) * 2 ^ 40
    small le = grind (arith, nat_tests)
