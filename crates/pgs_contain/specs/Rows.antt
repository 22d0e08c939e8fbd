-- The plainest properties: at each of some keys the plainest that may stand there.
use Rattle.std.specs.Prelude.{ℕ, List, [], ◌∷◌, Option, Some, None}
use Rattle.pgs_base.specs.declared.value.Value.{Value}
use Rattle.pgs_conform.specs.declared.options.Options.{Options}
use Rattle.pgs_contain.specs.Regions.{plainest}

-- what stands at a key, before rows
abbrev pub row_before : List ℕ → Option Value → List (List ℕ × Value) → List (List ℕ × Value)
row_before key None rows = rows
row_before key (Some value) rows = (key, value) ∷ rows

abbrev pub plain_rows : List (List ℕ) → List Options → List (List ℕ × Value)
plain_rows [] os = []
plain_rows (k ∷ ks) [] = []
plain_rows (k ∷ ks) (o ∷ os) = row_before k (plainest o) (plain_rows ks os)
