use Rattle.std.proofs.Common.{◌≡◌, ◌∙◌, ℕ, ◌+◌, Bool, true, false, List, ◌++◌, [], ◌∷◌, cond, get_or, take, sym, ap, refl}
use Rattle.std.specs.List.{filter}
use Rattle.std.proofs.lemmas.List.Elements.{filter_more}
use Rattle.pgs_base.specs.declared.element.Elem.TheVariants.{Node}
use Rattle.pgs_keyindex.specs.Table.{stands}
use Rattle.pgs_keyindex.proofs.table.KeyTable.standing.Goals.{then-stands+in_ok-push, else-stands}
use Rattle.pgs_keyindex.proofs.table.KeyTable.standing.Goals as goal

nothing_more : {X : Type 0} (xs : List X) → xs ++ [] ≡ xs
nothing_more [] = refl
nothing_more (x ∷ xs) = ap (λ l. x ∷ l) (nothing_more xs)

-- what passes the test of one element more
one_in : {X : Type 0} (p : X → Bool) (xs : List X) (i : ℕ) (x : X) (made : List X) → filter p (take (i + 1) xs) ≡ filter p (take i xs) ++ cond (p x) (x ∷ []) [] → p x ≡ true →
    made ≡ filter p (take i xs) ++ x ∷ [] → made ≡ filter p (take (i + 1) xs)
one_in p xs i x made more passes is = is ∙ sym (more ∙ ap (λ b. filter p (take i xs) ++ cond b (x ∷ []) []) passes)

none_in : {X : Type 0} (p : X → Bool) (xs : List X) (i : ℕ) (x : X) (made : List X) → filter p (take (i + 1) xs) ≡ filter p (take i xs) ++ cond (p x) (x ∷ []) [] → p x ≡ false →
    made ≡ filter p (take i xs) → made ≡ filter p (take (i + 1) xs)
none_in p xs i x made more fails is = is ∙ sym (more ∙ ap (λ b. filter p (take i xs) ++ cond b (x ∷ []) []) fails ∙ nothing_more (filter p (take i xs)))

pub loop-elem-preserved : goal.loop-elem-preserved
loop-elem-preserved c =
    let p = stands c.args.self.now c.args.digest in
    let elems = c.as_slice-elems.result.now in
    let i = c.loop-elem.elem-index in
    let x = get_or elems i (Node (record { 0 = 0 })) in
    let more = filter_more p elems i (Node (record { 0 = 0 })) c.loop-elem-test.true in
    elim c.if-stands.branch [
      | then-stands+in_ok-push w ↦
          ap (λ v. v.items) w.standing-is
          ∙ one_in p elems i x w.push.new.self.items more (sym c.stands.ensures ∙ w.if-stands.true) (w.in_ok-push.ensures.items ∙ ap (λ l. l ++ x ∷ []) c.loop-elem.invariant)
      | else-stands w ↦ ap (λ v. v.items) w.standing-is ∙ none_in p elems i x c.loop-elem.standing.items more (sym c.stands.ensures ∙ w.if-stands.false) c.loop-elem.invariant
    ]
