use Rattle.std.proofs.Common.{ℕ, List, ◌++◌, ◌∷◌, [], ◌==◌, cond, map, take, get_or, sym, ap, ◌∙◌}
use Rattle.std.proofs.lemmas.List.{map-append, take_more}
use Rattle.pgs_key_standing.proofs.joint.together.Goals as goal

pub loop-class-preserved : goal.loop-class-preserved
loop-class-preserved c =
    let classes = c.args.classes.now in
    let i = c.loop-class.class-index in
    let put : ℕ → ℕ = λ class. cond (class == c.number_at-from.result) c.number_at-to.result class in
    c.in_ok-push.ensures.items ∙ ap (λ (own : ℕ). c.loop-class.next.items ++ own ∷ []) c.moved-new.ensures
    ∙ ap (λ (next : List ℕ). next ++ put (get_or classes i 0) ∷ []) c.loop-class.invariant
    ∙ sym (map-append put (take i classes) (get_or classes i 0 ∷ [])) ∙ ap (map put) (sym (take_more classes i 0 c.loop-class-test.true))
