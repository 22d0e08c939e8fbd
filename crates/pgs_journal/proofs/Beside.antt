-- How a reading goes beside appends.
use Rattle.std.proofs.Common.{◌≡◌, ⊎_elim, ℕ, suc, ◌+◌, ◌≤◌, ◌<◌, ◌^◌, Bool, true, false, nat_lt, IsTrue, List, [], ◌∷◌, ◌++◌, length, take, drop, refl, sym, ◌∙◌, ap, subst, arith, append_assoc}
use Rattle.std.specs.declared.option.Option.{Option}
use Rattle.std.proofs.lemmas.Bool.Decides.{nat_tests}
use Rattle.std.proofs.lemmas.List.{append-nil, take-take}
use Rattle.pgs_codec.specs.Frame.{framed}
use Rattle.pgs_world.specs.Answers.{Answer, Answers}
use Rattle.pgs_world.specs.Disk.{IsTorn}
use Rattle.pgs_journal.specs.Appended.{HasFrame, IsAppending, AreAppended, none_appended, more_appended, AreGivenBeside}
use Rattle.pgs_journal.specs.Area.{head_of}
use Rattle.pgs_journal.specs.declared.area_state.AreaState.{AreaState}
use Rattle.pgs_journal.specs.declared.format.Format.{Format}
use Rattle.pgs_journal.specs.declared.head.Head.TheVariants as heads
use Rattle.pgs_journal.specs.Format.{is_epoch, format_of, advanced, opened, Holds}
use Rattle.pgs_journal.specs.Reading.{Found, Closed, records_in}
use Rattle.pgs_journal.specs.Told.{bytes_in, told_by, Begins, AreInTurn, IsUnended, IsOpenYet, EndsWith, IsStateOf, IsMadeBy}
use Rattle.pgs_journal.proofs.Images.{holds-front, appended}
use Rattle.pgs_journal.proofs.Telling.{split, stands_more}
use Rattle.pgs_journal.proofs.Written.{found_in, head_in_front, closed_next}

below : (epoch : ℕ) → IsTrue (is_epoch epoch) → epoch ≤ 16777215
below epoch numbered = grind (arith, nat_tests)

-- what is read of an area that holds records
held_found : (next : Option ℕ) (epoch : ℕ) (payloads : List (List ℕ)) (end : ℕ) (image : List ℕ) → Holds next epoch payloads end image → end < 2 ^ 40
    → (head_of image ≡ heads.Store (format_of next) epoch) × (records_in (format_of next) (drop 16 image) ≡ record { payloads = payloads; ended = true })
held_found next epoch payloads end image h small =
    let format = format_of next in
    let tail : List ℕ = h.gate ∷ h.rest in
    let fits : length (opened (format_of next) epoch payloads) < 256 ^ 8 = omega (arith, h.place, small) in (
      ap head_of h.bytes ∙ head_in_front format epoch payloads tail fits (omega arith) h.numbered (omega (arith, below epoch h.numbered)),
      ap (λ (l : List ℕ). records_in format (drop 16 l)) h.bytes ∙ found_in format epoch payloads tail fits (omega arith) Closed (closed_next format (suc (length payloads)) h.gate h.rest h.closed)
          ∙ ap (λ (ps : List (List ℕ)). record { payloads = ps; ended = true }) (append-nil payloads),
    )

same_format : (x y : Format) (d e : ℕ) → heads.Store x d ≡ heads.Store y e → x ≡ y
same_format x y d e is = cc

same_epoch : (x y : Format) (d e : ℕ) → heads.Store x d ≡ heads.Store y e → d ≡ e
same_epoch x y d e is = cc

-- ---- what was told behind no closed gate stays

module _ (told old : List ℕ) (un : IsUnended told) (begins : Begins told old) where
  ends_before : (next : Option ℕ) (epoch : ℕ) (payloads : List (List ℕ)) (end : ℕ) → Holds next epoch payloads end old → end < 2 ^ 40 → length told ≤ end
  ends_before next epoch payloads end h small = at (nat_lt end (length told)) refl
    where
      never : end < length told → ⊥
      never past =
          let front : take (end + 1) told ≡ take (end + 1) old = ap (λ (l : List ℕ). take (end + 1) l) (sym begins) ∙ take-take (end + 1) (length told) old (omega (arith, past)) in
          let found = held_found next epoch payloads end told (holds-front next epoch payloads end old told h front) small in
          let same : un.format ≡ format_of next = same_format un.format (format_of next) un.epoch epoch (sym un.head ∙ found.0) in
          let no : false ≡ true = sym un.unended ∙ ap (λ f. (records_in f (drop 16 told)).ended) same ∙ ap (λ (f : Found). f.ended) found.1 in
          cc

      past : nat_lt end (length told) ≡ true → end < length told
      past is = grind (arith, nat_tests)

      not_past : nat_lt end (length told) ≡ false → length told ≤ end
      not_past is = grind (arith, nat_tests)

      at : (b : Bool) → nat_lt end (length told) ≡ b → length told ≤ end
      at true is = absurd (never (past is))
      at false is = not_past is

  kept_by : (new : List ℕ) → IsAppending old new → Begins told new
  kept_by new step =
      let short = ends_before step.next step.epoch step.payloads step.end step.holds step.below in
      sym (take-take (length told) step.end new short) ∙ ap (λ (l : List ℕ). take (length told) l) (⊎_elim behind gate step.write) ∙ take-take (length told) step.end old short ∙ begins
    where
      behind : ((size : ℕ) × IsTorn (step.end + 1) size old new) → take step.end new ≡ take step.end old
      behind write =
          sym (take-take step.end (step.end + 1) new (omega arith)) ∙ ap (λ (l : List ℕ). take step.end l) write.1.before ∙ take-take step.end (step.end + 1) old (omega arith)

      gate : HasFrame step.next step.end old × IsTorn step.end 1 old new → take step.end new ≡ take step.end old
      gate write = write.1.before

kept : (told first last : List ℕ) → IsUnended told → Begins told first → AreAppended first last → Begins told last
kept told first last un begins none_appended = begins
kept told first last un begins (more_appended {mid = mid} step steps) = kept told mid last un (kept_by told first un begins mid step) steps

kept_yet : (told first last : List ℕ) → IsOpenYet told → Begins told first → AreAppended first last → Begins told last
kept_yet told first last yet begins steps = ⊎_elim (λ none. subst (λ (l : List ℕ). Begins l last) (sym none) refl) (λ un. kept told first last un begins steps) yet

-- ---- the answers

ends_beside : (first last : List ℕ) (answers : List Answer) → AreGivenBeside first answers last → EndsWith answers last
ends_beside first last [] given = tt
ends_beside first last (x ∷ []) given = subst (λ (l : List ℕ). Answers l x) (sym given.3) given.2
ends_beside first last (x ∷ y ∷ answers) given = ends_beside given.0 last (y ∷ answers) given.3

told_beside : (first last told : List ℕ) (answers : List Answer) → AreInTurn IsOpenYet 0 told answers → AreGivenBeside first answers last → Begins told first → Begins (told ++ told_by answers) last
told_beside first last told [] turn given begins = subst (λ (l : List ℕ). Begins l last) (sym (append-nil told)) (subst (Begins told) (sym given) begins)
told_beside first last told (x ∷ answers) turn given begins =
    subst (λ (l : List ℕ). Begins l last) (append_assoc told (bytes_in x) (told_by answers))
    (told_beside given.0 last (told ++ bytes_in x) answers turn.2 given.3 (stands_more 0 given.0 told x turn.1 given.2 (kept_yet told first given.0 turn.0 begins given.1)))

pub read_beside : (answers : List Answer) (state : AreaState) (first last : List ℕ) → IsMadeBy answers state → AreGivenBeside first answers last → IsStateOf state last
read_beside answers state first last made given =
    made.decided last (told_beside first last [] answers made.in_turn given refl) (ends_beside first last answers given)

-- ---- what appends keep

appended_then : (old mid new : List ℕ) → AreAppended old mid → AreAppended mid new → AreAppended old new
appended_then old mid new none_appended two = two
appended_then old mid new (more_appended {mid = next} step one) two = more_appended step (appended_then next mid new one two)

pub given_later : (answers : List Answer) (first last : List ℕ) → AreGivenBeside first answers last → AreAppended first last
given_later [] first last given = subst (AreAppended first) (sym given) none_appended
given_later (x ∷ answers) first last given = appended_then first given.0 last given.1 (given_later answers given.0 last given.3)

-- it holds these records, and maybe more
record HoldsMore (epoch : ℕ) (payloads : List (List ℕ)) (image : List ℕ) : Type 0 where
  more : List (List ℕ)
  next : Option ℕ
  end : ℕ
  holds : Holds next epoch (payloads ++ more) end image
  below_limit : end < 2 ^ 40

more_by : (epoch : ℕ) (payloads : List (List ℕ)) (old new : List ℕ) → HoldsMore epoch payloads old → IsAppending old new → HoldsMore epoch payloads new
more_by epoch payloads old new held step = ⊎_elim behind gate step.write
  where
    one : (head_of old ≡ heads.Store (format_of held.next) epoch) × (records_in (format_of held.next) (drop 16 old) ≡ record { payloads = payloads ++ held.more; ended = true })
    one = held_found held.next epoch (payloads ++ held.more) held.end old held.holds held.below_limit

    two : (head_of old ≡ heads.Store (format_of step.next) step.epoch) × (records_in (format_of step.next) (drop 16 old) ≡ record { payloads = step.payloads; ended = true })
    two = held_found step.next step.epoch step.payloads step.end old step.holds step.below

    epoch_is : step.epoch ≡ epoch
    epoch_is = same_epoch (format_of step.next) (format_of held.next) step.epoch epoch (sym two.0 ∙ one.0)

    payloads_are : step.payloads ≡ payloads ++ held.more
    payloads_are =
        ap (λ (f : Found). f.payloads) (sym two.1)
        ∙ ap (λ f. (records_in f (drop 16 old)).payloads) (same_format (format_of step.next) (format_of held.next) step.epoch epoch (sym two.0 ∙ one.0)) ∙ ap (λ (f : Found). f.payloads) one.1

    -- in these words
    as_more : (next : Option ℕ) (extra : List (List ℕ)) (end : ℕ) → Holds next step.epoch (step.payloads ++ extra) end new → end < 2 ^ 40 → HoldsMore epoch payloads new
    as_more next extra end holds small =
        record {
          more = held.more ++ extra;
          next = next;
          end = end;
          holds =
              subst (λ e. Holds next e (payloads ++ (held.more ++ extra)) end new) epoch_is
              (subst (λ (ps : List (List ℕ)). Holds next step.epoch ps end new) (ap (λ (ps : List (List ℕ)). ps ++ extra) payloads_are ∙ append_assoc payloads held.more extra) holds);
          below_limit = small;
        }

    as_before : Holds step.next step.epoch step.payloads step.end new → HoldsMore epoch payloads new
    as_before holds = as_more step.next [] step.end (subst (λ (ps : List (List ℕ)). Holds step.next step.epoch ps step.end new) (sym (append-nil step.payloads)) holds) step.below

    behind : ((size : ℕ) × IsTorn (step.end + 1) size old new) → HoldsMore epoch payloads new
    behind write = as_before (holds-front step.next step.epoch step.payloads step.end old new step.holds write.1.before)

    gate : HasFrame step.next step.end old × IsTorn step.end 1 old new → HoldsMore epoch payloads new
    gate write =
        let frame = write.0 in
        ⊎_elim as_before (λ holds. as_more (advanced step.next) (frame.payload ∷ []) (step.end + length (framed step.next frame.payload)) holds frame.below)
        (appended step.next step.epoch step.payloads step.end old old new frame.payload (drop (length (framed step.next frame.payload)) (drop (step.end + 1) old)) step.holds refl
        (sym (split (framed step.next frame.payload) (drop (step.end + 1) old) frame.stands)) write.1)

more_all : (epoch : ℕ) (payloads : List (List ℕ)) (first last : List ℕ) → HoldsMore epoch payloads first → AreAppended first last → HoldsMore epoch payloads last
more_all epoch payloads first last held none_appended = held
more_all epoch payloads first last held (more_appended {mid = mid} step steps) = more_all epoch payloads mid last (more_by epoch payloads first mid held step) steps

pub records_kept : (first last : List ℕ) (next : Option ℕ) (epoch end : ℕ) (payloads : List (List ℕ)) → AreAppended first last → Holds next epoch payloads end first → end < 2 ^ 40
    → (more : List (List ℕ)) × (now : Option ℕ) × (place : ℕ) × Holds now epoch (payloads ++ more) place last
records_kept first last next epoch end payloads steps holds small =
    let held =
    more_all epoch payloads first last
    (record { more = []; next = next; end = end; holds = subst (λ (ps : List (List ℕ)). Holds next epoch ps end first) (sym (append-nil payloads)) holds; below_limit = small }) steps
    in (held.more, held.next, held.end, held.holds)
