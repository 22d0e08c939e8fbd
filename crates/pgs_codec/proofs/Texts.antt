-- Reading a text: what its bytes say.
use Rattle.std.proofs.Common.{◌≡◌, ℕ, ◌≤◌, Bool, true, false, cond, List, length, Some, None, refl, ap, ◌∙◌, arith}
use Rattle.std.specs.Prelude.{leb}
use Rattle.std.specs.Int.{w16}
use Rattle.std.specs.Str.{IsUtf8, is_utf8}
use Rattle.std.proofs.lemmas.Bool.{le-leb, and_from, and_left, and_right, cond-true, cond-false, false_from_ne_true}
use Rattle.std.proofs.lemmas.Str.{is_utf8-from_IsUtf8, IsUtf8-from_is_utf8}
use Rattle.pgs_base.specs.Value.{is_text}
use Rattle.pgs_codec.specs.Reading.{bytes_at, number_at, text_bytes_at, text_at, tested_at}
use Rattle.pgs_codec.specs.Unread.{end_of}
use Rattle.pgs_codec.proofs.Exact.{same_given, bytes_take}

module _ (rest after bytes left : List ℕ) (len : ℕ) (counted : number_at w16 rest ≡ Some (len, after)) (taken : bytes_at len after ≡ Some (bytes, left)) where
  text_read : text_at rest ≡ cond (is_text bytes) (Some (bytes, left)) None
  unfolding text_at text_bytes_at tested_at
  text_read = rw (counted, taken) refl

  no_text : is_text bytes ≡ false → text_at rest ≡ None
  no_text e = text_read ∙ cond-false (is_text bytes) (Some (bytes, left)) None e

  pub is_not_utf8 : (IsUtf8 bytes → ⊥) → text_at rest ≡ None
  is_not_utf8 not_utf8 = no_text (and_left (is_utf8 bytes) (leb (length bytes) 65535) (false_from_ne_true (is_utf8 bytes) (λ e. not_utf8 (IsUtf8-from_is_utf8 bytes e))))

  -- where the length is tested with this outcome
  pub is_too_long : cond (leb (length bytes) 65535) (Some bytes) None ≡ None → text_at rest ≡ None
  is_too_long e = by (leb (length bytes) 65535) refl e
    where
      by : (b : Bool) → leb (length bytes) 65535 ≡ b → cond b (Some bytes) None ≡ None → text_at rest ≡ None
      by true t h = absurd cc
      by false t h = no_text (and_right (is_utf8 bytes) (leb (length bytes) 65535) t)

  pub is_the_text : IsUtf8 bytes → (text : List ℕ) → cond (leb (length bytes) 65535) (Some bytes) None ≡ Some text → text_at rest ≡ Some (text, left)
  is_the_text utf8 text e = by (leb (length bytes) 65535) refl e
    where
      by : (b : Bool) → leb (length bytes) 65535 ≡ b → cond b (Some bytes) None ≡ Some text → text_at rest ≡ Some (text, left)
      by true t h =
          text_read ∙ cond-true (is_text bytes) (Some (bytes, left)) None (and_from _ _ (is_utf8-from_IsUtf8 bytes utf8) t) ∙ ap (λ x. Some (x, left)) (same_given bytes text h)
      by false t h = absurd cc

  -- a length of two bytes is short enough
  pub text_passed : IsUtf8 bytes → len ≤ 65535 → end_of (text_at rest) ≡ Some left
  text_passed utf8 le =
      let size : length bytes ≡ len = (bytes_take len after (bytes, left) taken).1 in
      let short : length bytes ≤ 65535 = omega arith in
      ap end_of (text_read ∙ cond-true (is_text bytes) (Some (bytes, left)) None (and_from _ _ (is_utf8-from_IsUtf8 bytes utf8) (le-leb (length bytes) 65535 short)))
