use Rattle.std.proofs.Common.{◌≡◌, ℕ, List, Option, Some, None, cond, length, sym, ap, ◌∙◌}
use Rattle.std.specs.Prelude.{leb}
use Rattle.pgs_codec.specs.Reading.{bytes_at}
use Rattle.pgs_codec.proofs.Texts.{is_not_utf8, is_too_long, is_the_text}
use Rattle.pgs_codec.proofs.value.read_text.Goals as goal

-- the length as it is used, and the text as it was made
taken : (used len : ℕ) (after : List ℕ) (read : Option (List ℕ × List ℕ)) → used ≡ len → bytes_at used after ≡ read → bytes_at len after ≡ read
taken used len after read e h = ap (λ n. bytes_at n after) (sym e) ∙ h

tested : (text bytes : List ℕ) (made : Option (List ℕ)) (outcome : Option (List ℕ)) → text ≡ bytes → made ≡ cond (leb (length text) 65535) (Some text) None → made ≡ outcome →
    cond (leb (length bytes) 65535) (Some bytes) None ≡ outcome
tested text bytes made outcome e h is = ap (λ t. cond (leb (length t) 65535) (Some t) None) (sym e) ∙ sym h ∙ is

pub returns-in_default : goal.returns-in_default
returns-in_default c =
    is_not_utf8 c.args.reader.now.rest.now c.number16.new.self.rest.now c.in_ok-bytes.bytes.now c.bytes.new.self.rest.now c.in_ok-len.len c.in_ok-len.ensures
    (taken c.from.result c.in_ok-len.len c.number16.new.self.rest.now _ c.from.ensures c.in_ok-bytes.ensures) c.in_default.ensures.cases.0

pub returns-in-Some : goal.returns-in-Some
returns-in-Some c =
    is_the_text c.args.reader.now.rest.now c.number16.new.self.rest.now c.in_ok-bytes.bytes.now c.bytes.new.self.rest.now c.in_ok-len.len c.in_ok-len.ensures
    (taken c.from.result c.in_ok-len.len c.number16.new.self.rest.now _ c.from.ensures c.in_ok-bytes.ensures) c.in-Ok.ensures.cases.1 c.in-Some.text
    (tested c.in-Ok.text.now c.in_ok-bytes.bytes.now c.in_ok-text.field-0 (Some c.in-Some.text) c.in-Ok.ensures.cases.0 c.in_ok-text.ensures c.in-Some.is)

pub returns-in-None : goal.returns-in-None
returns-in-None c =
    is_too_long c.args.reader.now.rest.now c.number16.new.self.rest.now c.in_ok-bytes.bytes.now c.bytes.new.self.rest.now c.in_ok-len.len c.in_ok-len.ensures
    (taken c.from.result c.in_ok-len.len c.number16.new.self.rest.now _ c.from.ensures c.in_ok-bytes.ensures)
    (tested c.in-Ok.text.now c.in_ok-bytes.bytes.now c.in_ok-text.field-0 None c.in-Ok.ensures.cases.0 c.in_ok-text.ensures c.in-None.is)
