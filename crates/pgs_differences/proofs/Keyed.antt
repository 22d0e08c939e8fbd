-- A name among keys.
use Rattle.std.proofs.Common.{◌≡◌, Bool, ◌||◌, List, [], ◌∷◌, refl, ap}
use Rattle.std.specs.List.{list_any}
use Rattle.std.specs.Map.{keys_of}

pub key_among : {K V : Type 0} (test : K → Bool) (es : List (K × V)) → list_any (λ (e : K × V). test e.0) es ≡ list_any test (keys_of es)
key_among test [] = refl
key_among test (e ∷ es) = ap (λ b. test e.0 || b) (key_among test es)
