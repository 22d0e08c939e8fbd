-- What an area is by what its head says, and which bytes decide that.
use Rattle.std.proofs.Common.{◌≡◌, inl, ℕ, suc, ◌+◌, ◌≤◌, ◌<◌, ◌^◌, Bool, true, false, not, ◌||◌, nat_lt, IsTrue, List, [], ◌∷◌, ◌++◌, length, take, drop, slice_index, Some, None, refl, sym, ◌∙◌, ap, subst, arith, length-append, length-take, length-take-le, if◌then◌else◌, bytes_eq}
use Rattle.std.specs.declared.option.Option.{Option}
use Rattle.std.proofs.lemmas.Bool.Decides.{nat_tests}
use Rattle.std.proofs.lemmas.List.{append-nil, take-take, drop-take, drop_more, drop_all}
use Rattle.byteorder.specs.Endian.{big_number}
use Rattle.byteorder.specs.Numbers.{big_from-take}
use Rattle.pgs_world.specs.declared.area.Area.{Area}
use Rattle.pgs_world.specs.Answers.{Answer, Long, Read, Answered}
use Rattle.pgs_world.specs.Moment.{IsQuiet}
use Rattle.pgs_world.specs.World.{View, part}
use Rattle.pgs_journal.specs.declared.area_state.AreaState.{AreaState}
use Rattle.pgs_journal.specs.declared.area_state.AreaState.TheVariants.{NoStore, Foreign}
use Rattle.pgs_journal.specs.declared.head.Head.{Head}
use Rattle.pgs_journal.specs.declared.head.Head.TheVariants as heads
use Rattle.pgs_journal.specs.Area.{is_no_store, epoch_of, head_format, head_with, head_of, head_in, state_with, area_state}
use Rattle.pgs_journal.specs.declared.format.Format.{Format}
use Rattle.pgs_journal.specs.declared.format.Format.TheVariants.{First, Second}
use Rattle.pgs_journal.specs.Format.{is_open, is_epoch, magic, head_body, opened}
use Rattle.pgs_journal.specs.Seen.{HasLength, Stand, AreOf, AreShown, IsFront, front_answers, IsSettled, IsScanned}
use Rattle.pgs_journal.specs.Told.{told_by, Begins, AreInTurn, IsOpenYet, IsStateOf, IsMadeBy}
use Rattle.pgs_journal.proofs.Held.{IsBytes, head_parts, head_stands}
use Rattle.pgs_journal.proofs.Images.{open_is_one}
use Rattle.pgs_journal.proofs.Telling.{parted, split, in_turn_behind, ends_on, of_on, of_ends, stands, shown_back}

not_less : (m n : ℕ) → n ≤ m → nat_lt m n ≡ false
not_less m n le = grind (arith, nat_tests)

less : (m n : ℕ) → m < n → nat_lt m n ≡ true
less m n lt = grind (arith, nat_tests)

is_less : (m n : ℕ) → nat_lt m n ≡ true → m + 1 ≤ n
is_less m n is = grind (arith, nat_tests)

at_least : (m n : ℕ) → nat_lt m n ≡ false → n ≤ m
at_least m n is = grind (arith, nat_tests)

-- ---- the head of an area by its first 17 bytes

no_store_front : (image : List ℕ) → 17 ≤ length image → is_no_store (take 17 image) ≡ is_no_store image
no_store_front [] long = absurd (omega (arith, long))
no_store_front (gate ∷ image) long =
    ap (λ (b : Bool). b || not (is_open gate))
    (not_less (length (take 17 (gate ∷ image))) 17 (omega (arith, length-take-le 17 (gate ∷ image) long)) ∙ sym (not_less (length (gate ∷ image)) 17 long))

head_by : Bool → List ℕ → ℕ → Head
head_by none seven epoch =
    if none then heads.NoStore
    else head_with (if is_epoch epoch then (if bytes_eq seven (magic First) then Some First else (if bytes_eq seven (magic Second) then Some Second else None)) else None) epoch

pub head_front : (image : List ℕ) → 17 ≤ length image → head_of (take 17 image) ≡ head_of image
unfolding head_by
head_front image long =
    ap (λ (b : Bool). head_by b (take 7 (drop 1 (take 17 image))) (epoch_of (take 17 image))) (no_store_front image long)
    ∙ ap (λ (l : List ℕ). head_by (is_no_store image) l (epoch_of (take 17 image))) (ap (λ (l : List ℕ). take 7 l) (drop-take 1 16 image) ∙ take-take 7 16 (drop 1 image) (omega arith))
    ∙ ap (λ n. head_by (is_no_store image) (take 7 (drop 1 image)) n) (ap (λ (l : List ℕ). big_number 8 l) (drop-take 8 9 image) ∙ big_from-take 0 8 9 (drop 8 image) (omega arith))

-- fewer bytes are no store
few_none : (image : List ℕ) → nat_lt (length image) 17 ≡ true → head_of image ≡ heads.NoStore
few_none [] few = refl
few_none (gate ∷ image) few =
    ap (λ (b : Bool). if (b || not (is_open gate)) then heads.NoStore else head_with (head_format (gate ∷ image)) (epoch_of (gate ∷ image))) few

-- the first bytes decide what the head says
pub front_decides : (front image : List ℕ) → length front ≡ 17 → Begins front image → head_of front ≡ head_of image
front_decides front image size begins =
    ap head_of (sym begins ∙ ap (λ n. take n image) size) ∙ head_front image (omega (arith, ap length begins, length-take (length front) image, size))

pub head_decided : (len : ℕ) (front image : List ℕ) → length front ≡ 17 → (17 ≤ len → Begins front image) → len ≡ length image → head_in len front ≡ head_of image
head_decided len front image size begins is = at (nat_lt len 17) refl
  where
    at : (b : Bool) → nat_lt len 17 ≡ b → (if b then heads.NoStore else head_of front) ≡ head_of image
    at true few = sym (few_none image (ap (λ n. nat_lt n 17) (sym is) ∙ few))
    at false much = front_decides front image size (begins (at_least len 17 much))

-- a store's head stands in at least 17 bytes
pub store_is_long : (len : ℕ) (format : Format) (epoch : ℕ) (front : List ℕ) → head_in len front ≡ heads.Store format epoch → 17 ≤ len
store_is_long len format epoch front is = at (nat_lt len 17) refl is
  where
    at : (b : Bool) → nat_lt len 17 ≡ b → (if b then heads.NoStore else head_of front) ≡ heads.Store format epoch → 17 ≤ len
    at true few same = absurd (let h : heads.NoStore ≡ heads.Store format epoch = same in cc)
    at false much same = at_least len 17 much

-- ---- what an area is by its head

module _ (image : List ℕ) where
  pub none_state : head_of image ≡ heads.NoStore → area_state image ≡ NoStore
  none_state is = at (is_no_store image) is
    where
      inside : (o : Option Format) → head_with o (epoch_of image) ≡ heads.NoStore → ⊥
      inside (Some format) same = cc
      inside None same = cc

      at : (b : Bool) → (if b then heads.NoStore else head_with (head_format image) (epoch_of image)) ≡ heads.NoStore → (if b then NoStore else state_with (head_format image) image) ≡ NoStore
      at true same = refl
      at false same = absurd (inside (head_format image) same)

  pub foreign_state : head_of image ≡ heads.Foreign → area_state image ≡ Foreign
  foreign_state is = at (is_no_store image) is
    where
      inside : (o : Option Format) → head_with o (epoch_of image) ≡ heads.Foreign → state_with o image ≡ Foreign
      inside (Some format) same = absurd (cc)
      inside None same = refl

      at : (b : Bool) → (if b then heads.NoStore else head_with (head_format image) (epoch_of image)) ≡ heads.Foreign → (if b then NoStore else state_with (head_format image) image) ≡ Foreign
      at true same = absurd (cc)
      at false same = inside (head_format image) same

-- where the head is no store's
pub none_is : (image : List ℕ) → head_of image ≡ heads.NoStore → IsStateOf NoStore image
none_is image is = record { state = sym (none_state image is); holds = tt }

pub foreign_is : (image : List ℕ) → head_of image ≡ heads.Foreign → IsStateOf Foreign image
foreign_is image is = record { state = sym (foreign_state image is); holds = tt }

-- ---- what the answers make of the first bytes

-- where the head decides: no other answer is asked for
pub head_scanned : {W : Type 0} (made : W → Area → Answer → W → Type 0) (view : View) (area : Area) (world : W) (len : ℕ) (front : List ℕ) (h : Head) (state : AreaState) → length front ≡ 17 → head_in len front ≡ h
    → ((image : List ℕ) → head_of image ≡ h → IsStateOf state image) → IsScanned made view area world world len front state
head_scanned made view area world len front h state size is follows =
    record {
      answers = [];
      answered = refl;
      shown = λ told. tt;
      made_by = both (nat_lt len 17) refl is;
      image = (some (nat_lt len 17) is).0;
      limit = (some (nat_lt len 17) is).1;
      state_of = (some (nat_lt len 17) is).2;
    }
  where
    both : (b : Bool) → nat_lt len 17 ≡ b → (if b then heads.NoStore else head_of front) ≡ h → IsMadeBy ((if b then Long len ∷ [] else Long len ∷ Read 0 front ∷ []) ++ []) state
    both true few same =
        record {
          in_turn = (inl refl, tt, tt);
          decided = λ image begins ends. follows image (few_none image (ap (λ n. nat_lt n 17) (sym ends) ∙ few) ∙ same);
        }
    both false much same =
        record {
          in_turn = (inl refl, tt, (inl refl, refl, tt));
          decided = λ image begins ends. follows image (sym (front_decides front image size (subst (λ (l : List ℕ). Begins l image) (append-nil front) begins)) ∙ same);
        }

    some : (b : Bool) → (if b then heads.NoStore else head_of front) ≡ h → (image : List ℕ) × (length image ≤ 2 ^ 40) × IsStateOf state image
    some true same = ([], omega arith, follows [] same)
    some false same = (front, omega (arith, size), follows front same)

-- where records are read behind them
pub records_scanned : {W : Type 0} (made : W → Area → Answer → W → Type 0) (view : View) (area : Area) (old new : W) (len : ℕ) (front : List ℕ) (state : AreaState) → length front ≡ 17 → 17 ≤ len
    → IsSettled made view area old new (λ told. IsOpenYet (front ++ told)) 17 (λ rest. IsStateOf state (front ++ rest)) → IsScanned made view area old new len front state
records_scanned made view area old new len front state size long it =
    record {
      answers = it.told.answers;
      answered = it.told.answered;
      shown = it.told.shown;
      made_by = subst (λ (first : List Answer). IsMadeBy (first ++ it.told.answers) state) (sym first_two) all_made;
      image = front ++ it.bytes;
      limit = omega (arith, length-append front it.bytes, size, it.within);
      state_of = it.alone;
    }
  where
    first_two : front_answers len front ≡ Long len ∷ Read 0 front ∷ []
    first_two = ap (λ (b : Bool). if b then Long len ∷ [] else Long len ∷ Read 0 front ∷ []) (not_less len 17 long)

    behind : AreInTurn IsOpenYet 0 front it.told.answers
    behind =
        subst (λ (l : List ℕ). AreInTurn IsOpenYet 0 l it.told.answers) (append-nil front)
        (in_turn_behind (λ told. IsOpenYet (front ++ told)) IsOpenYet front 0 17 (omega (arith, size)) (λ l may. may) [] it.told.answers it.told.in_turn)

    all_made : IsMadeBy (Long len ∷ Read 0 front ∷ it.told.answers) state
    all_made =
        record {
          in_turn = (inl refl, tt, (inl refl, refl, behind));
          decided = λ image begins ends.
              let parts = parted front (told_by it.told.answers) image begins in
              let place : drop (length front) image ≡ drop 17 image = ap (λ n. drop n image) size in
              subst (IsStateOf state) (ap (λ (l : List ℕ). front ++ l) (sym place) ∙ split front image parts.0)
              (it.each image (ends_on (Long len ∷ Read 0 front ∷ []) it.told.answers image ends)
              (subst (λ (l : List ℕ). Begins l (drop 17 image)) it.told.told (subst (Begins (told_by it.told.answers)) place parts.1)));
        }

-- the first answers are of the area, where the world tells it
pub front_shown : (view : View) (area : Area) (len : ℕ) (front : List ℕ) → HasLength view area len → (17 ≤ len → Stand view area 0 front) → AreShown view area (front_answers len front)
front_shown view area len front has stand told = at (nat_lt len 17) refl
  where
    at : (b : Bool) → nat_lt len 17 ≡ b → AreOf (part area view.shown) (if b then Long len ∷ [] else Long len ∷ Read 0 front ∷ [])
    at true few = (has told, tt)
    at false much = (has told, (sym (stand (at_least len 17 much) told), tt))

-- ---- the first bytes of a store

-- the head of a store is that of its format and its epoch
store_head : (o : Option Format) (format : Format) (read epoch : ℕ) → head_with o read ≡ heads.Store format epoch → (o ≡ Some format) × (read ≡ epoch)
store_head (Some first) format read epoch is = both first format is
  where
    same_format : (x y : Format) → heads.Store x read ≡ heads.Store y epoch → x ≡ y
    same_format x y same = cc

    same_epoch : (x y : Format) → heads.Store x read ≡ heads.Store y epoch → read ≡ epoch
    same_epoch x y same = cc

    both : (x y : Format) → heads.Store x read ≡ heads.Store y epoch → (Some x ≡ Some y) × (read ≡ epoch)
    both x y same = (ap (λ f. Some f) (same_format x y same), same_epoch x y same)
store_head None format read epoch is = absurd (let h : heads.Foreign ≡ heads.Store format epoch = is in cc)

pub front_of_store : (front : List ℕ) (format : Format) (epoch : ℕ) → length front ≡ 17 → IsBytes front → head_of front ≡ heads.Store format epoch → IsFront format epoch front
front_of_store [] format epoch long small is = absurd (omega (arith, long))
front_of_store (gate ∷ front) format epoch long small is =
    at (is_open gate) refl
    (ap (λ (b : Bool). if (b || not (is_open gate)) then heads.NoStore else head_with (head_format (gate ∷ front)) (epoch_of (gate ∷ front))) (sym (not_less (length (gate ∷ front)) 17 (omega (arith, long)))) ∙ is)
  where
    last : drop 15 front ≡ slice_index front 15 ∷ []
    last = drop_more front 15 0 (omega (arith, long)) ∙ ap (λ (l : List ℕ). slice_index front 15 ∷ l) (drop_all 16 front (omega (arith, long)))

    stands : take 7 front ≡ magic format → gate ≡ 1 → epoch_of (gate ∷ front) ≡ epoch → gate ∷ front ≡ opened format epoch [] ++ slice_index front 15 ∷ []
    stands seven one same =
        ap (λ x. x ∷ front) one
        ∙ ap (λ (l : List ℕ). 1 ∷ l)
        (head_stands format gate front (omega (arith, long)) (λ i. small (suc i)) seven
        ∙ ap (λ (l : List ℕ). head_body format (epoch_of (gate ∷ front)) ++ l) last
        ∙ ap (λ e. head_body format e ++ slice_index front 15 ∷ []) same
        ∙ ap (λ (l : List ℕ). l ++ slice_index front 15 ∷ []) (sym (append-nil (head_body format epoch))))

    at : (b : Bool) → is_open gate ≡ b → (if (false || not b) then heads.NoStore else head_with (head_format (gate ∷ front)) (epoch_of (gate ∷ front))) ≡ heads.Store format epoch → IsFront format epoch (gate ∷ front)
    at true one same =
        let head = store_head (head_format (gate ∷ front)) format (epoch_of (gate ∷ front)) epoch same in
        let parts = head_parts (gate ∷ front) format head.0 in
        record { numbered = ap is_epoch (sym head.1) ∙ parts.0; spelled = stands parts.1 (open_is_one gate one) head.1 }
    at false one same = absurd (let h : heads.NoStore ≡ heads.Store format epoch = same in cc)

-- ---- the first answers

-- an area of fewer than 17 bytes
pub front_short : {W : Type 0} (made : W → Area → Answer → W → Type 0) (area : Area) (old new : W) (len : ℕ) (front : List ℕ) → len < 17 → made old area (Long len) new → Answered made area old (front_answers len front) new
front_short made area old new len front few it =
    subst (λ (answers : List Answer). Answered made area old answers new) (sym (ap (λ (b : Bool). if b then Long len ∷ [] else Long len ∷ Read 0 front ∷ []) (less len 17 few))) (new, it, refl)

pub front_long : {W : Type 0} (made : W → Area → Answer → W → Type 0) (area : Area) (old mid new : W) (len : ℕ) (front : List ℕ) → 17 ≤ len → made old area (Long len) mid → made mid area (Read 0 front) new → Answered made area old (front_answers len front) new
front_long made area old mid new len front long one two =
    subst (λ (answers : List Answer). Answered made area old answers new) (sym (ap (λ (b : Bool). if b then Long len ∷ [] else Long len ∷ Read 0 front ∷ []) (not_less len 17 long))) (mid, one, (new, two, refl))

-- what all the answers make of the area, where the world tells it
pub scanned_shown : {W : Type 0} (made : W → Area → Answer → W → Type 0) (first view : View) (area : Area) (old new : W) (len : ℕ) (front : List ℕ) (state : AreaState) → IsQuiet first view → HasLength first area len → (17 ≤ len → Stand first area 0 front)
    → IsScanned made view area old new len front state → IsTrue first.tells_bytes → IsStateOf state (part area first.shown)
scanned_shown made first view area old new len front state q has stand it told =
    it.made_by.decided (part area first.shown) (stands IsOpenYet 0 (part area first.shown) [] (front_answers len front ++ it.answers) it.made_by.in_turn all refl)
    (of_ends (part area first.shown) (front_answers len front ++ it.answers) all)
  where
    all : AreOf (part area first.shown) (front_answers len front ++ it.answers)
    all = of_on (part area first.shown) (front_answers len front) it.answers (front_shown first area len front has stand told) (shown_back first view area it.answers q it.shown told)

pub scanned_in : {W : Type 0} (made : W → Area → Answer → W → Type 0) (view : View) (area other : Area) (old new : W) (len : ℕ) (front : List ℕ) (state : AreaState) → area ≡ other → IsScanned made view area old new len front state
    → IsScanned made view other old new len front state
scanned_in made view area other old new len front state is it = subst (λ (a : Area). IsScanned made view a old new len front state) is it
