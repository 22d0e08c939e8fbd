-- A list of shapes at a number, where no list is longer than its width counts.
use Rattle.std.proofs.Common.{◌≡◌, ℕ, zero, suc, ◌<◌, ◌≤◌, List, [], ◌∷◌, length, get_or, sym, subst, arith}
use Rattle.pgs_syntax.specs.Width.{Width}
use Rattle.pgs_conform.specs.Counts.{AreWithin, forms_at}

pub within_at : {S : Type 0} (widths : List Width) (lists : List (List S)) (number : ℕ) (list : List S) → AreWithin widths lists →
    number < length lists → list ≡ get_or lists number list → length list ≤ forms_at widths number
within_at widths [] number list h low is = absurd (omega arith)
within_at [] (own ∷ lists) number list h low is = absurd h
within_at (width ∷ widths) (own ∷ lists) zero list h low is = subst (λ one. length one ≤ width.count) (sym is) h.0
within_at (width ∷ widths) (own ∷ lists) (suc number) list h low is = within_at widths lists number list h.1 (omega arith) is
