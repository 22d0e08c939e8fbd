-- A word that doesn't begin with `-` is no flag.
use Rattle.std.proofs.Common.{◌≡◌, Bool, true, false, not, ◌==◌, [], ◌∷◌, None, refl, rules}
use Rattle.std.specs.Str.{bytes_eq}
use Rattle.clap.specs.Lexer.{long_of, short_of}
use Rattle.clap.specs.Walk.{Text}
use Rattle.pgs_run_words.specs.Further.{is_plain}

pub record IsNoFlag (w : Text) : Type 0 where
  pub long : long_of w ≡ None
  pub short : short_of w ≡ None
  pub end : bytes_eq w (45 ∷ 45 ∷ []) ≡ false

is_false : (b : Bool) → not b ≡ true → b ≡ false
is_false true h = search rules
is_false false h = refl

pub no_flag : (w : Text) → is_plain w ≡ true → IsNoFlag w
no_flag [] h = record { long = refl; short = refl; end = refl }
no_flag (x ∷ xs) h =
    let e : (x == 45) ≡ false = is_false (x == 45) h in
    record { long = rw e refl; short = rw e refl; end = rw e refl }
