use Rattle.std.proofs.Common.{◌∙◌, ◌≤◌, ℕ, List, ◌∷◌, [], ap, arith, length, length-append}
use Rattle.std.specs.Fmt.{decimal}
use Rattle.std.proofs.lemmas.Fmt.{length-decimal-le}
use Rattle.pgs_gen.proofs.workload.address.Goals as goal

pub short_text-requires : goal.short_text-requires
short_text-requires c =
    let number = c.args.number in
    let digits : length (decimal number) ≤ 6 = length-decimal-le 6 number (omega arith) (omega (arith, c.requires)) (omega (arith, c.requires)) in
    let domain : List ℕ = 64 ∷ 120 ∷ 46 ∷ 111 ∷ 114 ∷ 103 ∷ [] in
    omega (arith, ap length (c.as_str.ensures.value ∙ c.in_ok-text.ensures.ok), length-append (decimal number) domain, digits)
