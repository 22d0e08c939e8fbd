-- Items of a list that are visited in turn.
use Rattle.std.specs.Prelude.{◌≡◌, List, [], ◌∷◌}

-- Each item was visited once, the first first: each visit goes on from the visitor that the one before it left.
abbrev pub AreVisited : {V X : Type 0} → (V → X → X → V → Type 0) → V → List X → List X → V → Type 0
AreVisited visited old [] [] new = new ≡ old
AreVisited visited old [] (y ∷ after) new = ⊥
AreVisited visited old (x ∷ before) [] new = ⊥
AreVisited {V} visited old (x ∷ before) (y ∷ after) new = (mid : V) × visited old x y mid × AreVisited visited mid before after new
