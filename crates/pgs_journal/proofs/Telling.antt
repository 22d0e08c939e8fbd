-- How answers of an area are joined, and what they tell.
use Rattle.std.proofs.Common.{◌≡◌, ℕ, ◌+◌, Bool, true, false, IsTrue, List, [], ◌∷◌, ◌++◌, length, take, drop, refl, sym, ◌∙◌, ap, subst, arith, append_assoc, length-append}
use Rattle.std.proofs.lemmas.List.{append-nil, take-append-drop, take-take, drop-drop, drop-take}
use Rattle.std.proofs.Math.Seq.{take-add, take-append_seam, drop-append_seam}
use Rattle.pgs_world.specs.declared.area.Area.{Area}
use Rattle.pgs_world.specs.Answers.{Answer, Long, Read, Answers, Answered}
use Rattle.pgs_world.specs.Moment.{IsQuiet}
use Rattle.pgs_world.specs.World.{Triple, View, part}
use Rattle.pgs_journal.specs.Seen.{HasLength, Stand, AreOf, AreShown, length_answers, IsAsked, IsTold, IsSettled}
use Rattle.pgs_journal.specs.Told.{bytes_in, told_by, Begins, IsFrom, AreInTurn, EndsWith}

-- ---- lists

pub joined : (xs ys l : List ℕ) (at : ℕ) → take (length xs) (drop at l) ≡ xs → take (length ys) (drop (at + length xs) l) ≡ ys → take (length (xs ++ ys)) (drop at l) ≡ xs ++ ys
joined xs ys l at one two =
    ap (λ n. take n (drop at l)) (length-append xs ys) ∙ take-add (length xs) (length ys) (drop at l)
    ∙ ap (λ (m : List ℕ). m ++ take (length ys) (drop (length xs) (drop at l))) one
    ∙ ap (λ (m : List ℕ). xs ++ m) (ap (λ (m : List ℕ). take (length ys) m) (drop-drop (length xs) at l) ∙ two)

pub parted : (xs ys l : List ℕ) → Begins (xs ++ ys) l → Begins xs l × Begins ys (drop (length xs) l)
parted xs ys l both = (
  sym (take-take (length xs) (length (xs ++ ys)) l (omega (arith, length-append xs ys))) ∙ ap (λ (m : List ℕ). take (length xs) m) both ∙ take-append_seam xs ys,
  sym (drop-take (length xs) (length ys) l) ∙ ap (λ n. drop (length xs) (take n l)) (sym (length-append xs ys)) ∙ ap (λ (m : List ℕ). drop (length xs) m) both ∙ drop-append_seam xs ys,
)

-- an image is the bytes that it begins with, and the rest
pub split : (xs l : List ℕ) → Begins xs l → xs ++ drop (length xs) l ≡ l
split xs l begins = ap (λ (m : List ℕ). m ++ drop (length xs) l) (sym begins) ∙ take-append-drop (length xs) l

pub begins_alone : (xs : List ℕ) → Begins xs xs
begins_alone xs = ap (λ (l : List ℕ). take (length xs) l) (sym (append-nil xs)) ∙ take-append_seam xs []

-- ---- several answers

pub told_on : (xs ys : List Answer) → told_by (xs ++ ys) ≡ told_by xs ++ told_by ys
told_on [] ys = refl
told_on (x ∷ xs) ys = ap (λ (l : List ℕ). bytes_in x ++ l) (told_on xs ys) ∙ sym (append_assoc (bytes_in x) (told_by xs) (told_by ys))

module _ {W : Type 0} (made : W → Area → Answer → W → Type 0) (area : Area) where
  pub answered_on : (old mid new : W) (xs ys : List Answer) → Answered made area old xs mid → Answered made area mid ys new → Answered made area old (xs ++ ys) new
  answered_on old mid new [] ys one two = subst (λ w. Answered made area w ys new) one two
  answered_on old mid new (x ∷ xs) ys one two = (one.0, one.1, answered_on one.0 mid new xs ys one.2 two)

pub in_turn_on : (MayGoOn : List ℕ → Type 0) (at : ℕ) (told : List ℕ) (xs ys : List Answer) → AreInTurn MayGoOn at told xs → AreInTurn MayGoOn at (told ++ told_by xs) ys → AreInTurn MayGoOn at told (xs ++ ys)
in_turn_on MayGoOn at told [] ys one two = subst (λ (l : List ℕ). AreInTurn MayGoOn at l ys) (append-nil told) two
in_turn_on MayGoOn at told (x ∷ xs) ys one two =
    (one.0, one.1, in_turn_on MayGoOn at (told ++ bytes_in x) xs ys one.2 (subst (λ (l : List ℕ). AreInTurn MayGoOn at l ys) (sym (append_assoc told (bytes_in x) (told_by xs))) two))

-- the same behind bytes that were told before
pub in_turn_behind : (MayGoOn Before : List ℕ → Type 0) (xs : List ℕ) (from at : ℕ) → at ≡ from + length xs → ((l : List ℕ) → MayGoOn l → Before (xs ++ l))
    → (told : List ℕ) (answers : List Answer) → AreInTurn MayGoOn at told answers → AreInTurn Before from (xs ++ told) answers
in_turn_behind MayGoOn Before xs from at is follows told [] turn = tt
in_turn_behind MayGoOn Before xs from at is follows told (x ∷ answers) turn = (
  follows told turn.0,
  moved x turn.1,
  subst (λ (l : List ℕ). AreInTurn Before from l answers) (sym (append_assoc xs told (bytes_in x))) (in_turn_behind MayGoOn Before xs from at is follows (told ++ bytes_in x) answers turn.2),
)
  where
    moved : (answer : Answer) → IsFrom (at + length told) answer → IsFrom (from + length (xs ++ told)) answer
    moved (Long len) it = tt
    moved (Read place bytes) it = omega (arith, it, is, length-append xs told)

pub of_on : (image : List ℕ) (xs ys : List Answer) → AreOf image xs → AreOf image ys → AreOf image (xs ++ ys)
of_on image [] ys one two = two
of_on image (x ∷ xs) ys one two = (one.0, of_on image xs ys one.1 two)

pub of_ends : (image : List ℕ) (answers : List Answer) → AreOf image answers → EndsWith answers image
of_ends image [] it = tt
of_ends image (x ∷ []) it = it.0
of_ends image (x ∷ y ∷ answers) it = of_ends image (y ∷ answers) it.1

pub ends_on : (xs ys : List Answer) (image : List ℕ) → EndsWith (xs ++ ys) image → EndsWith ys image
ends_on [] ys image it = it
ends_on (x ∷ []) [] image it = tt
ends_on (x ∷ []) (y ∷ ys) image it = it
ends_on (x ∷ z ∷ xs) ys image it = ends_on (z ∷ xs) ys image it

-- one answer more of an image in which what was told stands
pub stands_more : (at : ℕ) (image told : List ℕ) (answer : Answer) → IsFrom (at + length told) answer → Answers image answer → Begins told (drop at image) → Begins (told ++ bytes_in answer) (drop at image)
stands_more at image told (Long len) from it begins = subst (λ (l : List ℕ). Begins l (drop at image)) (sym (append-nil told)) begins
stands_more at image told (Read place bytes) from it begins =
    joined told bytes image at begins (ap (λ n. take (length bytes) (drop n image)) (sym from) ∙ sym it)

-- what answers of one image told stands in it
pub stands : (MayGoOn : List ℕ → Type 0) (at : ℕ) (image told : List ℕ) (answers : List Answer) → AreInTurn MayGoOn at told answers → AreOf image answers → Begins told (drop at image) → Begins (told ++ told_by answers) (drop at image)
stands MayGoOn at image told [] turn it begins = subst (λ (l : List ℕ). Begins l (drop at image)) (sym (append-nil told)) begins
stands MayGoOn at image told (x ∷ answers) turn it begins =
    subst (λ (l : List ℕ). Begins l (drop at image)) (append_assoc told (bytes_in x) (told_by answers))
    (stands MayGoOn at image (told ++ bytes_in x) answers turn.2 it.1 (stands_more at image told x turn.1 it.0 begins))

-- ---- worlds that were only read

pub shown_back : (old new : View) (area : Area) (answers : List Answer) → IsQuiet old new → AreShown new area answers → AreShown old area answers
shown_back old new area answers q shown told = subst (λ (t : Triple). AreOf (part area t) answers) q.shown (shown (q.passes.tells_bytes ∙ told))

pub shown_on : (view : View) (area : Area) (xs ys : List Answer) → AreShown view area xs → AreShown view area ys → AreShown view area (xs ++ ys)
shown_on view area xs ys one two told = of_on (part area view.shown) xs ys (one told) (two told)

pub length_back : (old new : View) (area : Area) (len : ℕ) → IsQuiet old new → HasLength new area len → HasLength old area len
length_back old new area len q has told = has (q.passes.tells_bytes ∙ told) ∙ ap (λ (t : Triple). length (part area t)) q.shown

pub length_still : (old new : View) (area : Area) (len : ℕ) → IsQuiet old new → HasLength old area len → HasLength new area len
length_still old new area len q has told = has (sym q.passes.tells_bytes ∙ told) ∙ ap (λ (t : Triple). length (part area t)) (sym q.shown)

-- what was read into a buffer
pub read_shown : (view : View) (area : Area) (at n : ℕ) (bytes : List ℕ) → length bytes ≡ n → (IsTrue view.tells_bytes → bytes ≡ take n (drop at (part area view.shown))) → AreShown view area (Read at bytes ∷ [])
read_shown view area at n bytes long read told = (read told ∙ ap (λ (m : ℕ). take m (drop at (part area view.shown))) (sym long), tt)

pub stand_shown : (view : View) (area : Area) (at : ℕ) (bytes : List ℕ) → Stand view area at bytes → AreShown view area (Read at bytes ∷ [])
stand_shown view area at bytes stand told = (sym (stand told), tt)

-- ---- bytes that were told

-- at most the length is asked where what was told may go on
pub lengths_turn : (MayGoOn : List ℕ → Type 0) (at len : ℕ) (told : List ℕ) → MayGoOn told → (asked : Bool) → AreInTurn MayGoOn at told (length_answers asked len)
lengths_turn MayGoOn at len told may false = tt
lengths_turn MayGoOn at len told may true = (may, tt, tt)

pub lengths_none : (asked : Bool) (len : ℕ) → told_by (length_answers asked len) ≡ []
lengths_none false len = refl
lengths_none true len = refl

module _ {W : Type 0} (made : W → Area → Answer → W → Type 0) (view : View) (area : Area) where
  unfoldable pub told_none : (world : W) (MayGoOn : List ℕ → Type 0) (at : ℕ) → IsTold made view area world world MayGoOn at []
  told_none world MayGoOn at = record { answers = []; answered = refl; shown = λ told. tt; in_turn = tt; told = refl }

  -- where then at most the length is asked
  unfoldable pub told_asked : (old mid new : W) (len : ℕ) (within : Bool) (MayGoOn : List ℕ → Type 0) (at : ℕ) (bytes : List ℕ) → MayGoOn bytes → IsTold made view area old mid MayGoOn at bytes
      → IsAsked made view area len within mid new → IsTold made view area old new MayGoOn at bytes
  told_asked old mid new len within MayGoOn at bytes may one two =
      record {
        answers = one.answers ++ length_answers two.asked len;
        answered = answered_on made area old mid new one.answers (length_answers two.asked len) one.answered two.answered;
        shown = shown_on view area one.answers (length_answers two.asked len) one.shown two.shown;
        in_turn =
            in_turn_on MayGoOn at [] one.answers (length_answers two.asked len) one.in_turn (lengths_turn MayGoOn at len (told_by one.answers) (subst MayGoOn (sym one.told) may) two.asked);
        told =
            told_on one.answers (length_answers two.asked len) ∙ ap (λ (l : List ℕ). told_by one.answers ++ l) (lengths_none two.asked len) ∙ append-nil (told_by one.answers) ∙ one.told;
      }

  pub told_read : (old new : W) (MayGoOn : List ℕ → Type 0) (at : ℕ) (bytes : List ℕ) → MayGoOn [] → made old area (Read at bytes) new → AreShown view area (Read at bytes ∷ []) → IsTold made view area old new MayGoOn at bytes
  told_read old new MayGoOn at bytes may it shown =
      record {
        answers = Read at bytes ∷ [];
        answered = (new, it, refl);
        shown = shown;
        in_turn = (may, let here : at ≡ at + 0 = omega arith in here, tt);
        told = append-nil bytes;
      }

  -- and then more behind them
  unfoldable pub told_then : (old mid new : W) (MayGoOn Behind : List ℕ → Type 0) (at next : ℕ) (xs ys : List ℕ) → next ≡ at + length xs → ((l : List ℕ) → Behind l → MayGoOn (xs ++ l))
      → IsTold made view area old mid MayGoOn at xs → IsTold made view area mid new Behind next ys → IsTold made view area old new MayGoOn at (xs ++ ys)
  told_then old mid new MayGoOn Behind at next xs ys is follows one two =
      record {
        answers = one.answers ++ two.answers;
        answered = answered_on made area old mid new one.answers two.answers one.answered two.answered;
        shown = shown_on view area one.answers two.answers one.shown two.shown;
        in_turn =
            in_turn_on MayGoOn at [] one.answers two.answers one.in_turn
            (subst (λ (l : List ℕ). AreInTurn MayGoOn at l two.answers) (append-nil xs ∙ sym one.told) (in_turn_behind Behind MayGoOn xs at next is follows [] two.answers two.in_turn));
        told = told_on one.answers two.answers ∙ ap (λ (l : List ℕ). l ++ told_by two.answers) one.told ∙ ap (λ (l : List ℕ). xs ++ l) two.told;
      }

-- the same on the world before, which was only read
unfoldable pub told_back : {W : Type 0} (made : W → Area → Answer → W → Type 0) (first view : View) (area : Area) (old new : W) (MayGoOn : List ℕ → Type 0) (at : ℕ) (bytes : List ℕ) → IsQuiet first view
    → IsTold made view area old new MayGoOn at bytes → IsTold made first area old new MayGoOn at bytes
told_back made first view area old new MayGoOn at bytes q it =
    record { answers = it.answers; answered = it.answered; shown = shown_back first view area it.answers q it.shown; in_turn = it.in_turn; told = it.told }

pub asked_back : {W : Type 0} (made : W → Area → Answer → W → Type 0) (first view : View) (area : Area) (len : ℕ) (within : Bool) (old new : W) → IsQuiet first view → IsAsked made view area len within old new → IsAsked made first area len within old new
asked_back made first view area len within old new q it =
    record { asked = it.asked; answered = it.answered; shown = shown_back first view area (length_answers it.asked len) q it.shown; surely = it.surely }

-- the length was asked last where a place wasn't within
pub asked_ends : {W : Type 0} (made : W → Area → Answer → W → Type 0) (view : View) (area : Area) (len : ℕ) (within : Bool) (old new : W) (it : IsAsked made view area len within old new) (before : List Answer) (image : List ℕ) → within ≡ false
    → EndsWith (before ++ length_answers it.asked len) image → len ≡ length image
asked_ends made view area len within old new it before image out ends = at it.asked (it.surely out) (ends_on before (length_answers it.asked len) image ends)
  where
    at : (asked : Bool) → asked ≡ true → EndsWith (length_answers asked len) image → len ≡ length image
    at false is last = absurd (let h : false ≡ true = is in cc)
    at true is last = last

-- ---- what is settled

pub settled_weaker : {W : Type 0} (made : W → Area → Answer → W → Type 0) (view : View) (area : Area) (old new : W) (MayGoOn : List ℕ → Type 0) (at : ℕ) (P Q : List ℕ → Type 0) → ((rest : List ℕ) → P rest → Q rest)
    → IsSettled made view area old new MayGoOn at P → IsSettled made view area old new MayGoOn at Q
settled_weaker made view area old new MayGoOn at P Q follows it =
    record { bytes = it.bytes; told = it.told; within = it.within; alone = follows it.bytes it.alone; each = λ image ends begins. follows (drop at image) (it.each image ends begins) }

pub settled_back : {W : Type 0} (made : W → Area → Answer → W → Type 0) (first view : View) (area : Area) (old new : W) (MayGoOn : List ℕ → Type 0) (at : ℕ) (P : List ℕ → Type 0) → IsQuiet first view
    → IsSettled made view area old new MayGoOn at P → IsSettled made first area old new MayGoOn at P
unfolding told_back
settled_back made first view area old new MayGoOn at P q it =
    record { bytes = it.bytes; told = told_back made first view area old new MayGoOn at it.bytes q it.told; within = it.within; alone = it.alone; each = λ image ends begins. it.each image ends begins }
