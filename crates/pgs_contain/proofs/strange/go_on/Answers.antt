use Rattle.std.proofs.Common.{◌≡◌, ℕ, ◌/◌, ◌<◌, ◌++◌, ◌∷◌, [], List, refl, ◌∙◌, ap, arith}
use Rattle.pgs_contain.specs.Known.{count_beginning}
use Rattle.pgs_contain.proofs.Letters.{gone_on, other_half}
use Rattle.pgs_contain.proofs.strange.go_on.Goals as goal

pub returns-then-count_beginning-most-clause-fewer : goal.returns-then-count_beginning-most-clause-fewer
returns-then-count_beginning-most-clause-fewer c =
    let bytes = c.args.bytes.now.items in
    let names = c.args.names.now in
    let longer : c.as_slice-2.result.now ≡ bytes ++ 97 ∷ [] =
    c.as_slice-2.ensures.value ∙ c.in_ok-push.ensures.items ∙ ap (λ (xs : List ℕ). xs ++ 97 ∷ []) (c.in_ok-longer.ensures.items ∙ c.as_slice.ensures.value) in
    let counted : c.count_beginning.result ≡ count_beginning (bytes ++ 97 ∷ []) names = c.count_beginning.ensures ∙ ap (λ xs. count_beginning xs names) longer in
    let many : c.args.most / 2 < count_beginning (bytes ++ 97 ∷ []) names = omega (arith, counted) in
    gone_on bytes c.push-then-count_beginning-most.new.self.items names 98 (c.args.most / 2) c.in_ok-push-2.ensures.items (other_half bytes names c.args.most c.requires.most many) refl c.requires.letters
