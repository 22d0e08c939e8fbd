-- A line of a feed, as far as it is looked at, and what the last bytes of a file say of it as a feed.
use Rattle.std.specs.Prelude.{◌≡◌, ◌⊎◌, ℕ, ◌+◌, ◌*◌, ◌^◌, ◌==◌, Bool, true, false, not, ◌&&◌, List, [], ◌∷◌, ◌++◌, length, take, drop, Option, Some, None, Result, Ok, Err, nat_lt, nat_le, if◌then◌else◌, codes}
use Rattle.std.specs.Char.{is_ascii_digit, digit_value}
use Rattle.std.specs.List.{list_all, position_or_len, starts_with, ends_with}
use Rattle.pgs_world_files.specs.declared.feed_cause.FeedCause.{FeedCause}
use Rattle.pgs_world_files.specs.declared.feed_cause.FeedCause.TheVariants.{NoFeed, Torn}
use Rattle.pgs_world_files.specs.declared.feed_line.TheConstants.{LINE_LIMIT}

-- the number that digits go on with; none where a byte is no digit, or the number has more than 64 bits
abbrev pub number_after : ℕ → List ℕ → Option ℕ
number_after number [] = Some number
number_after number (digit ∷ digits) =
    if is_ascii_digit digit && nat_lt (number * 10 + digit_value digit) (2 ^ 64)
    then number_after (number * 10 + digit_value digit) digits else None

-- the same, but not 0
abbrev pub from_one : Option ℕ → Option ℕ
from_one None = None
from_one (Some number) = if number == 0 then None else Some number

abbrev pub commit_of_number : List ℕ → Option ℕ
commit_of_number digits = from_one (number_after 0 digits)

-- the place of the first comma; the length where there is none
abbrev pub comma_in : List ℕ → ℕ
comma_in bytes = position_or_len (λ b. b == 44) bytes

-- bytes begin with these
abbrev pub begins : List ℕ → List ℕ → Bool
begins bytes front = starts_with (λ x y. x == y) bytes front

-- the number that stands before the first comma, where `,"ops":[` stands there
abbrev pub commit_before : List ℕ → Option ℕ
commit_before rest =
    if begins (drop (comma_in rest) rest) (codes ",\"ops\":[") then commit_of_number (take (comma_in rest) rest) else None

-- the number of the commit with which bytes begin: `{"commit":`, the digits of a number from 1 to 2^64 - 1, and `,"ops":[`
abbrev pub commit_of : List ℕ → Option ℕ
commit_of bytes = if begins bytes (codes "{\"commit\":") then commit_before (drop 10 bytes) else None

-- the same of a whole line: at most LINE_LIMIT bytes, of which `]}` are the last
abbrev pub commit_of_line : List ℕ → Option ℕ
commit_of_line line = if nat_le (length line) LINE_LIMIT && ends_with (λ x y. x == y) line (codes "]}") then commit_of line else None

-- what stands behind the last line feed; all where there is none
pub record IsBehindFeed (bytes line : List ℕ) : Type 0 where
  pub before : List ℕ
  pub parts : bytes ≡ before ++ line
  pub starts : (before ≡ []) ⊎ ((lines : List ℕ) × (before ≡ lines ++ 10 ∷ []))
  pub no_feed : list_all (λ b. not (b == 10)) line ≡ true

-- the last line of bytes that end with a line feed
pub record IsLastLine (end line : List ℕ) : Type 0 where
  pub lines : List ℕ
  pub parts : end ≡ lines ++ 10 ∷ []
  pub behind : IsBehindFeed lines line

-- there are bytes, and no line feed is the last
pub record IsTorn (end : List ℕ) : Type 0 where
  pub front : List ℕ
  pub last : ℕ
  pub parts : end ≡ front ++ last ∷ []
  pub torn : (last == 10) ≡ false

-- What the last bytes of a file say of it as a feed: the number of its last line, which is a line of a feed; none where there are no
-- bytes; or why it is no feed to write behind.
abbrev pub EndIs : List ℕ → Result (Option ℕ) FeedCause → Type 0
EndIs end (Ok None) = end ≡ []
EndIs end (Ok (Some number)) = (line : List ℕ) × IsLastLine end line × (commit_of_line line ≡ Some number)
EndIs end (Err NoFeed) = (line : List ℕ) × IsLastLine end line × (commit_of_line line ≡ None)
EndIs end (Err Torn) = IsTorn end
EndIs end (Err cause) = ⊥
