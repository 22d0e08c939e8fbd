-- When two atoms agree on values.
use Rattle.std.proofs.Common.{◌≡◌, ℕ, Bool, true, false, ◌&&◌, ◌||◌, ◌==◌, not, List, sym, ◌∙◌, ap, refl}
use Rattle.std.proofs.lemmas.Bool.{false_from_ne_true, eqb-true, eq-eqb}
use Rattle.pgs_base.specs.declared.value.Value.{Value}
use Rattle.pgs_base.specs.Pair.{same_name}
use Rattle.pgs_syntax.specs.declared.pattern.Atom.TheVariants.{Equals}
use Rattle.pgs_syntax.specs.Matches.{same_value}
use Rattle.pgs_key_standing.specs.Kinds.{agree}

pub agree_apart : (place other : ℕ) (key name : List ℕ) (value second : Value) → (place ≡ other → ⊥) → true ≡ agree (Equals place key value) (Equals other name second)
agree_apart place other key name value second apart =
    ap (λ b. not (b && same_name key name) || same_value value second) (sym (false_from_ne_true (place == other) (λ h. apart (eqb-true place other h))))

pub agree_unnamed : (place other : ℕ) (key name : List ℕ) (value second : Value) → same_name key name ≡ false → true ≡ agree (Equals place key value) (Equals other name second)
agree_unnamed place other key name value second apart =
    both (place == other) ∙ ap (λ b. not ((place == other) && b) || same_value value second) (sym apart)
  where
    both : (b : Bool) → true ≡ (not (b && false) || same_value value second)
    both true = refl
    both false = refl

pub agree_values : (place other : ℕ) (key name : List ℕ) (value second : Value) → place ≡ other → same_name key name ≡ true → same_value value second ≡ agree (Equals place key value) (Equals other name second)
agree_values place other key name value second same named =
    ap (λ b. not (b && true) || same_value value second) (sym (eq-eqb place other same)) ∙ ap (λ b. not ((place == other) && b) || same_value value second) (sym named)
