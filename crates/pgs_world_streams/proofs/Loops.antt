-- One more turn of a loop of reads or of writes.
use Rattle.std.proofs.Common.{◌≡◌, ℕ, ◌+◌, ◌-◌, ◌<◌, ◌≤◌, List, [], ◌++◌, length, take, drop, Ok, Result, sym, ap, ◌∙◌, subst, le_refl, drop_at, length-drop, length-take-le, take_all, append-nil, arith}
use Rattle.std.proofs.lemmas.List.{take_rest, drop_all}
use Rattle.std.proofs.lemmas.Slice.{take-put_mid_below}
use Rattle.std.proofs.Math.Seq.{take-add}
use borrow.Rule.Slice.PartMut.{put_mid, post_of, same_len_mid}
use Rattle.std.specs.declared.io.Error.{Error}
use Rattle.pgs_world_streams.specs.Given.{PlacedCall, PlainCall}
use Rattle.pgs_world_streams.specs.Pieces.{FailsToWrite, IsErrorOf, placeless}
use Rattle.pgs_world_streams.specs.Tries.{ReadIsTried, WriteIsTried}
use Rattle.pgs_world_streams.specs.Whole.{HasRead, HasWritten, HasFailedToRead, HasFailedToWrite, IsFailure}
use Rattle.pgs_world_streams.specs.Whole.HasRead.{read_some}
use Rattle.pgs_world_streams.specs.Whole.HasWritten.{wrote_some}

rest_is : (bytes : List ℕ) (done : ℕ) → take (length bytes - done) (drop done bytes) ≡ drop done bytes
rest_is bytes done = take_rest bytes done

pub within_more : (bytes : List ℕ) (done count now : ℕ) → now ≡ done + count → done ≤ length bytes → count ≤ length (take (length bytes - done) (drop done bytes)) → now ≤ length bytes
within_more bytes done count now is within fits =
    let e : length (drop done bytes) ≡ length bytes - done = length-drop done bytes in
    let f : count ≤ length (drop done bytes) = subst (λ (xs : List ℕ). count ≤ length xs) (rest_is bytes done) fits in
    omega arith

module _ {H : Type 0} (gives : PlacedCall H) (start : H) (at : ℕ) (bytes : List ℕ) (done : ℕ) (before after : H) where
  -- a write that took some of the bytes that were left
  pub wrote_more : (count now : ℕ) → now ≡ done + count → HasWritten gives start at bytes done before
      → WriteIsTried gives before (at + done) (take (length bytes - done) (drop done bytes)) (Ok count) after → 1 ≤ count → HasWritten gives start at bytes now after
  wrote_more count now is front tried some =
      subst (λ n. HasWritten gives start at bytes n after) (sym is)
      (wrote_some front (subst (λ xs. WriteIsTried gives before (at + done) xs (Ok count) after) (rest_is bytes done) tried) some)

  -- a write that failed
  pub write_failed : (answer : Result ℕ Error) → IsFailure answer → done < length bytes → HasWritten gives start at bytes done before
      → WriteIsTried gives before (at + done) (take (length bytes - done) (drop done bytes)) answer after → HasFailedToWrite gives start at bytes after
  write_failed answer fails left front tried =
      record {
        done = done;
        before = before;
        front = front;
        left = left;
        answer = answer;
        tried = subst (λ xs. WriteIsTried gives before (at + done) xs answer after) (rest_is bytes done) tried;
        fails = fails;
      }

-- the same of a piece, with the error that comes of it
pub fails_to_write : {W : Type 0} (writes : PlainCall W) (start : W) (piece : List ℕ) (done : ℕ) (before after : W) (answer : Result ℕ Error) (error : Error) → IsFailure answer → IsErrorOf answer error → done < length piece
    → HasWritten (placeless writes) start 0 piece done before → WriteIsTried (placeless writes) before 0 (take (length piece - done) (drop done piece)) answer after → FailsToWrite writes start piece error after
unfolding write_failed
fails_to_write writes start piece done before after answer error fails is left front tried =
    let failed = write_failed (placeless writes) start 0 piece done before after answer fails left front tried in
    record { done = done; before = before; front = front; left = left; answer = answer; tried = failed.tried; fails = fails; is = is }

-- the buffer is full
pub read_all : {H : Type 0} (gives : PlacedCall H) (start : H) (at : ℕ) (xs : List ℕ) (done : ℕ) (after : H) → length xs ≤ done → HasRead gives start at (take done xs) after → HasRead gives start at xs after
read_all gives start at xs done after full first = subst (λ b. HasRead gives start at b after) (take_all done xs full) first

-- a buffer of which the rest is what a read left there
module _ (xs ys : List ℕ) (done : ℕ) where
  front_stays : done ≤ length xs → take done (put_mid done (length xs - done) xs ys) ≡ take done xs
  front_stays within = take-put_mid_below done (length xs - done) xs ys done (le_refl done) within

  rest_read : done ≤ length xs → drop done (put_mid done (length xs - done) xs ys) ≡ ys
  rest_read within =
      let after : post_of done (length xs - done) xs ≡ [] = drop_all (length xs - done) (drop done xs) (omega (arith, length-drop done xs)) in
      drop_at (take done xs) (ys ++ post_of done (length xs - done) xs) done (length-take-le done xs within)
      ∙ ap (λ (l : List ℕ). ys ++ l) after ∙ append-nil ys

  front_grows : (count : ℕ) → done ≤ length xs → take (done + count) (put_mid done (length xs - done) xs ys) ≡ take done xs ++ take count ys
  front_grows count within =
      take-add done count (put_mid done (length xs - done) xs ys)
      ∙ ap (λ (l : List ℕ). l ++ take count (drop done (put_mid done (length xs - done) xs ys))) (front_stays within)
      ∙ ap (λ (l : List ℕ). take done xs ++ take count l) (rest_read within)

  pub buffer_within : (now : ℕ) → length ys ≡ length (take (length xs - done) (drop done xs)) → now ≤ length xs → now ≤ length (put_mid done (length xs - done) xs ys)
  buffer_within now same within = subst (λ n. now ≤ n) (sym (same_len_mid done (length xs - done) xs ys same)) within

  pub buffer_within_more : (count now : ℕ) → now ≡ done + count → done ≤ length xs → length ys ≡ length (take (length xs - done) (drop done xs)) → count ≤ length ys → now ≤ length (put_mid done (length xs - done) xs ys)
  buffer_within_more count now is within same fits =
      buffer_within now same (within_more xs done count now is within (subst (λ n. count ≤ n) same fits))

  module _ {H : Type 0} (gives : PlacedCall H) (start : H) (at : ℕ) (before after : H) (within : done ≤ length xs) (front : HasRead gives start at (take done xs) before) where
    -- a read that gave some bytes
    pub read_more : (count now : ℕ) → now ≡ done + count → ReadIsTried gives before (at + done) ys (Ok count) after → 1 ≤ count
        → HasRead gives start at (take now (put_mid done (length xs - done) xs ys)) after
    read_more count now is tried some =
        let there = subst (λ n. ReadIsTried gives before (at + n) ys (Ok count) after) (sym (length-take-le done xs within)) tried in
        subst (λ n. HasRead gives start at (take n (put_mid done (length xs - done) xs ys)) after) (sym is)
        (subst (λ b. HasRead gives start at b after) (sym (front_grows count within)) (read_some front there some))

    -- a read that failed
    pub read_failed : (answer : Result ℕ Error) → IsFailure answer → done < length xs → length ys ≡ length (take (length xs - done) (drop done xs))
        → ReadIsTried gives before (at + done) ys answer after → HasFailedToRead gives start at (put_mid done (length xs - done) xs ys) after
    read_failed answer fails left same tried =
        record {
          done = done;
          before = before;
          front = subst (λ b. HasRead gives start at b before) (sym (front_stays within)) front;
          left = subst (λ n. done < n) (sym (same_len_mid done (length xs - done) xs ys same)) left;
          answer = answer;
          tried = subst (λ b. ReadIsTried gives before (at + done) b answer after) (sym (rest_read within)) tried;
          fails = fails;
        }
