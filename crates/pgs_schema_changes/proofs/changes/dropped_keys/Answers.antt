use Rattle.std.proofs.Common.{◌≡◌, ◌+◌, Bool, List, ◌++◌, ◌∷◌, [], map, take, sym, ap, ◌∙◌}
use Rattle.std.proofs.lemmas.List.{map-append, take_all, take_more}
use Rattle.pgs_syntax.specs.declared.key.Key.{Key}
use Rattle.pgs_schema_changes.specs.AsksNoMore.{is_dropped}
use Rattle.pgs_schema_changes.proofs.changes.dropped_keys.Goals as goal

pub loop-own-preserved : goal.loop-own-preserved
loop-own-preserved c =
    let old = c.args.old.now in
    let new = c.args.new.now in
    let keys = c.args.keys.now in
    let i = c.loop-own.own-index in
    let key = c.own-item.result in
    let more : take (i + 1) keys ≡ take i keys ++ key ∷ [] = take_more keys i key c.loop-own-test.true ∙ ap (λ (k : Key). take i keys ++ k ∷ []) (sym c.own-item.is) in
    c.in_ok-push.ensures.items ∙ ap (λ (own : Bool). c.loop-own.dropped.items ++ own ∷ []) c.is_dropped.ensures
    ∙ ap (λ (dropped : List Bool). dropped ++ is_dropped old new key ∷ []) c.loop-own.invariant
    ∙ sym (map-append (is_dropped old new) (take i keys) (key ∷ [])) ∙ ap (map (is_dropped old new)) (sym more)

pub returns : goal.returns
returns c =
    c.from_vec.ensures ∙ c.loop-own.invariant ∙ ap (map (is_dropped c.args.old.now c.args.new.now)) (take_all c.loop-own.own-index c.args.keys.now c.loop-own-test.false)
