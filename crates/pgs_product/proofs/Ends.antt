-- Lists of names and of keys as one, where one of them has ended.
use Rattle.std.proofs.Common.{◌≡◌, ℕ, ◌<◌, List, [], ◌∷◌, ◌++◌, map, length, refl, sym, ◌∙◌, ap, arith}
use Rattle.pgs_conform.specs.declared.options.Options.{Options}
use Rattle.pgs_product.specs.Merged.{united, merged, of_first}

united_end : (xs : List (List ℕ)) → united xs [] ≡ xs
united_end [] = refl
united_end (x ∷ xs) = ap (λ ys. x ∷ ys) (united_end xs)

merged_end : (a b : Options) (xs : List (List ℕ × Options)) → merged a b xs [] ≡ map (of_first b) xs
merged_end a b [] = refl
merged_end a b (x ∷ xs) = ap (λ ys. of_first b x ∷ ys) (merged_end a b xs)

-- what is left of the first, where the second has ended
pub names_ended : (out new xs ys whole : List (List ℕ)) → length ys < 1 → new ≡ out ++ xs → out ++ united xs ys ≡ whole → new ≡ whole
names_ended out new xs [] whole end n w = n ∙ ap (λ zs. out ++ zs) (sym (united_end xs)) ∙ w
names_ended out new xs (y ∷ ys) whole end n w = absurd (omega arith)

pub keys_ended : (a b : Options) (out new xs ys whole : List (List ℕ × Options)) → length ys < 1 → new ≡ out ++ map (of_first b) xs → out ++ merged a b xs ys ≡ whole → new ≡ whole
keys_ended a b out new xs [] whole end n w = n ∙ ap (λ zs. out ++ zs) (sym (merged_end a b xs)) ∙ w
keys_ended a b out new xs (y ∷ ys) whole end n w = absurd (omega arith)
