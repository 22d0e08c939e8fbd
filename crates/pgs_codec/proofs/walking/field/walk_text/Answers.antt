use Rattle.std.proofs.Common.{◌≡◌, ℕ, List, Option, sym, ap, ◌∙◌, arith}
use Rattle.pgs_codec.specs.Reading.{bytes_at}
use Rattle.pgs_codec.specs.Unread.{end_of}
use Rattle.pgs_codec.proofs.Texts.{is_not_utf8, text_passed}
use Rattle.pgs_codec.proofs.walking.field.walk_text.Goals as goal

-- the length as it is used
taken : (used len : ℕ) (after : List ℕ) (read : Option (List ℕ × List ℕ)) → used ≡ len → bytes_at used after ≡ read → bytes_at len after ≡ read
taken used len after read e h = ap (λ n. bytes_at n after) (sym e) ∙ h

pub returns-in-Ok : goal.returns-in-Ok
returns-in-Ok c =
    text_passed c.args.reader.now.rest.now c.number16.new.self.rest.now c.in_ok-bytes.bytes.now c.bytes.new.self.rest.now c.in_ok-len.len c.in_ok-len.ensures
    (taken c.from.result c.in_ok-len.len c.number16.new.self.rest.now _ c.from.ensures c.in_ok-bytes.ensures) c.in-Ok.ensures.cases.1 (omega (arith, c.number16.auto))

pub returns-in-Err : goal.returns-in-Err
returns-in-Err c =
    ap end_of (is_not_utf8 c.args.reader.now.rest.now c.number16.new.self.rest.now c.in_ok-bytes.bytes.now c.bytes.new.self.rest.now c.in_ok-len.len c.in_ok-len.ensures
    (taken c.from.result c.in_ok-len.len c.number16.new.self.rest.now _ c.from.ensures c.in_ok-bytes.ensures) c.in-Err.ensures.cases.0)
