-- Bytes of UTF-8 that are short are a text.
use Rattle.std.proofs.Common.{◌≡◌, ◌≤◌, ℕ, List, length, true}
use Rattle.std.specs.Str.{IsUtf8}
use Rattle.std.proofs.lemmas.Str.{is_utf8-from_IsUtf8}
use Rattle.std.proofs.lemmas.Bool.{and_from, le-leb}
use Rattle.pgs_base.specs.Value.{is_text}

pub text_from : (bytes : List ℕ) → IsUtf8 bytes → length bytes ≤ 65535 → is_text bytes ≡ true
text_from bytes utf8 short = and_from _ _ (is_utf8-from_IsUtf8 bytes utf8) (le-leb _ _ short)
