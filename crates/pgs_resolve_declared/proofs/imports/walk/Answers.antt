use Rattle.std.proofs.Common.{◌≡◌, ℕ, ◌++◌, ◌∷◌, [], List, length, sym, ◌∙◌, ap}
use Rattle.std.specs.List.{fold}
use Rattle.pgs_resolve_declared.specs.Imports.{walked}
use Rattle.pgs_resolve_declared.proofs.Steps.{finish, finish_closed, next_walked, walked_none, walked_known, walked_deeper, less_after_next, less_after_deeper, next_is_less, deeper_by_one}
use Rattle.pgs_resolve_declared.proofs.imports.walk.Goals as goal
use Rattle.pgs_resolve_declared.proofs.imports.walk.Goals.{then-frame-eq0-via-then-frame-eq0, then-frame-eq0-via-else-frame-eq0+then-contains}

pub loop-frame-preserved-in_ok-push-in-None : goal.loop-frame-preserved-in_ok-push-in-None
loop-frame-preserved-in_ok-push-in-None c script are =
    let frame = c.in-Some.frame in
    let names = c.loop-frame.names in
    ap (finish script c.pop.new.self.items)
    (c.in_ok-push-in-None.ensures.ok ∙ ap (λ (name : List ℕ). names ++ name ∷ []) c.in_ok-copy-in-None.ensures
    ∙ sym (ap (λ xs. fold (walked script frame.depth) names xs ++ frame.name.now ∷ []) c.in-None.ensures))
    ∙ sym (finish_closed script c.loop-frame.stack.items c.pop.new.self.items frame names c.in-Some.ensures.items) ∙ c.loop-frame.invariant script are

pub loop-frame-smaller-then-frame-eq0 : goal.loop-frame-smaller-then-frame-eq0
loop-frame-smaller-then-frame-eq0 c =
    less_after_next _ c.loop-frame.stack.items c.pop.new.self.items c.push-in-Some-split.new.self.items c.in-Some.frame _ c.in-Some.ensures.items
    c.in_ok-push-in-Some-split.ensures.items (next_is_less _ c.in-Some.frame.depth _ _ (ap length c.in-Some-split.ensures))

pub loop-frame-preserved-then-frame-eq0 : goal.loop-frame-preserved-then-frame-eq0
loop-frame-preserved-then-frame-eq0 c script are =
    let frame = c.in-Some.frame in
    let names = c.loop-frame.names in
    let next = c.in-Some-split.next in
    let stays : walked script frame.depth names next.0.now ≡ names = elim c.then-frame-eq0.branch [
      | then-frame-eq0-via-then-frame-eq0 w ↦ walked_none script frame.depth names next.0.now w.if-frame-eq0.true
      | then-frame-eq0-via-else-frame-eq0+then-contains w ↦ walked_known script frame.depth names next.0.now (sym w.contains.ensures ∙ w.if-contains.true)
    ] in
    finish_closed script c.push-in-Some-split.new.self.items c.pop.new.self.items _ names c.in_ok-push-in-Some-split.ensures.items
    ∙ ap (finish script c.pop.new.self.items)
    (sym (next_walked script frame.depth names names next.0.now frame.name.now next.1.now frame.rest.now c.in-Some-split.ensures stays))
    ∙ sym (finish_closed script c.loop-frame.stack.items c.pop.new.self.items frame names c.in-Some.ensures.items) ∙ c.loop-frame.invariant script are

pub loop-frame-smaller : goal.loop-frame-smaller
loop-frame-smaller c =
    less_after_deeper _ c.loop-frame.stack.items c.pop.new.self.items c.push-in-Some-split.new.self.items c.push-in-Some-split-2.new.self.items c.in-Some.frame _ _
    c.in-Some.ensures.items c.in_ok-push-in-Some-split.ensures.items c.in_ok-push-in-Some-split-2.ensures.items
    (deeper_by_one _ c.in-Some.frame.depth _ _ _ c.if-frame-eq0.false (ap length c.in-Some-split.ensures) c.imports_of-in-Some-split.ensures.within)

pub loop-frame-preserved : goal.loop-frame-preserved
loop-frame-preserved c script are =
    let frame = c.in-Some.frame in
    let names = c.loop-frame.names in
    let next = c.in-Some-split.next in
    finish_closed script c.push-in-Some-split-2.new.self.items c.push-in-Some-split.new.self.items _ names c.in_ok-push-in-Some-split-2.ensures.items
    ∙ finish_closed script c.push-in-Some-split.new.self.items c.pop.new.self.items _ _ c.in_ok-push-in-Some-split.ensures.items
    ∙ ap (finish script c.pop.new.self.items)
    (sym (next_walked script frame.depth names _ next.0.now frame.name.now next.1.now frame.rest.now c.in-Some-split.ensures
    (sym (walked_deeper script frame.depth names _ next.0.now c.if-frame-eq0.false (sym c.contains.ensures ∙ c.if-contains.false) (c.imports_of-in-Some-split.ensures.value script are)))))
    ∙ sym (finish_closed script c.loop-frame.stack.items c.pop.new.self.items frame names c.in-Some.ensures.items) ∙ c.loop-frame.invariant script are
