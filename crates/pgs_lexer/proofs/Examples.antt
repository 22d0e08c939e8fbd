-- Worked examples, by hand: the tokens of a text compute.
use Rattle.std.proofs.Common.{◌≡◌, Ok, Err, [], ◌∷◌, refl}
use Rattle.std.specs.Prelude.{codes}
use Rattle.std.specs.Char.{encode_utf8}
use Rattle.std.specs.Str.{is_utf8, chars}
use Rattle.std.specs.Str.Lossy.{utf8_valid_len}
use Rattle.pgs_lexer.specs.declared.kind.TokenKind.TheVariants.{Number, Text, Sign}
use Rattle.pgs_lexer.specs.Scan.{item_at}
use Rattle.pgs_lexer.specs.Cut.{tokens_from, tokens_of}

numbers : tokens_of (codes "5..7") ≡ Ok (
    record { kind = Number; start = 0; end = 1; bytes = codes "5" } ∷
    record { kind = Sign; start = 1; end = 3; bytes = codes ".." } ∷
    record { kind = Number; start = 3; end = 4; bytes = codes "7" } ∷ [])
unfolding tokens_of tokens_from item_at
numbers = refl

bad : tokens_of (codes "OPEN #") ≡ Err 1
unfolding tokens_of tokens_from item_at
bad = refl

strings : tokens_of (codes "'it''s' // all") ≡ Ok (record { kind = Text; start = 0; end = 7; bytes = codes "'it''s'" } ∷ [])
unfolding tokens_of tokens_from item_at is_utf8 utf8_valid_len chars encode_utf8
strings = refl
