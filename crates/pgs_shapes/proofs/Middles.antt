-- What a triple of a shape in the middle asks, and a number that is in range.
use Rattle.std.proofs.Common.{◌≡◌, ℕ, zero, suc, ◌<◌, Bool, true, ◌&&◌, ◌||◌, nat_lt, List, [], ◌∷◌, ◌++◌, length, slice_get, None, ◌∙◌, ap, arith}
use Rattle.std.proofs.Math.Bool.{or-false}
use Rattle.std.proofs.lemmas.Bool.{ltb-true}
use Rattle.std.proofs.lemmas.List.Folds.{list_any-append}
use Rattle.pgs_base.specs.declared.row.NodeRow.{NodeRow}
use Rattle.pgs_syntax.specs.Join.{of_triples, is_empty_pair, PairTriple}
use Rattle.pgs_conform.specs.declared.shape.Shape.{Shape}
use Rattle.pgs_conform.specs.declared.shape.Triple.{Triple as ShapeTriple}
use Rattle.pgs_conform.specs.Shapes.{in_shape, in_triple, in_some_triple}

pub asked_of_middle : (triples : List ShapeTriple) (middle : ShapeTriple) (shape : Shape) (test : NodeRow → Bool) (t : PairTriple) → triples ≡ middle ∷ [] →
    in_triple middle t ≡ (is_empty_pair t.source && in_shape shape t.own && is_empty_pair t.target) → in_shape shape t.own ≡ test t.own →
    in_some_triple triples t ≡ of_triples.asks test t
asked_of_middle triples middle shape test t one own same =
    ap (λ list. in_some_triple list t) one ∙ or-false (in_triple middle t) ∙ own ∙ ap (λ b. is_empty_pair t.source && b && is_empty_pair t.target) same

there : {X : Type 0} (xs : List X) (n : ℕ) → n < length xs → None ≡ slice_get xs n → ⊥
there [] n lt e = omega arith
there (x ∷ xs) zero lt e = cc
there (x ∷ xs) (suc n) lt e = there xs n (omega arith) e

pub never_past : {X : Type 0} (xs : List X) (n : ℕ) → nat_lt n (length xs) ≡ true → None ≡ slice_get xs n → ⊥
never_past xs n within e = there xs n (ltb-true n (length xs) within) e

-- the triple of the empty pairs put last
pub empty_added : (triples whole : List ShapeTriple) (middle : ShapeTriple) (shape : Shape) (t : PairTriple) → whole ≡ triples ++ middle ∷ [] →
    in_triple middle t ≡ (is_empty_pair t.source && in_shape shape t.own && is_empty_pair t.target) → in_shape shape t.own ≡ is_empty_pair t.own →
    in_some_triple whole t ≡ (in_some_triple triples t || of_triples.asks is_empty_pair t)
empty_added triples whole middle shape t added own same =
    ap (λ list. in_some_triple list t) added ∙ list_any-append (λ shapes. in_triple shapes t) triples (middle ∷ [])
    ∙ ap (λ b. in_some_triple triples t || b)
    (or-false (in_triple middle t) ∙ own ∙ ap (λ b. is_empty_pair t.source && b && is_empty_pair t.target) same)
