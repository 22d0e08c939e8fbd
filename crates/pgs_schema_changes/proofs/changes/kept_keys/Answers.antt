use Rattle.std.proofs.Common.{◌≡◌, ◌+◌, Bool, List, ◌++◌, ◌∷◌, [], map, take, sym, ap, ◌∙◌}
use Rattle.std.proofs.lemmas.List.{map-append, take_all, take_more}
use Rattle.pgs_syntax.specs.declared.key.Key.{Key}
use Rattle.pgs_schema_changes.specs.AsksNoMore.{is_kept}
use Rattle.pgs_schema_changes.proofs.changes.kept_keys.Goals as goal

pub loop-key-preserved : goal.loop-key-preserved
loop-key-preserved c =
    let old = c.args.old.now in
    let new = c.args.new.now in
    let keys = c.args.keys.now in
    let i = c.loop-key.key-index in
    let key = c.key-item.result in
    let more : take (i + 1) keys ≡ take i keys ++ key ∷ [] = take_more keys i key c.loop-key-test.true ∙ ap (λ (k : Key). take i keys ++ k ∷ []) (sym c.key-item.is) in
    c.in_ok-push.ensures.items ∙ ap (λ (own : Bool). c.loop-key.kept.items ++ own ∷ []) c.is_kept.ensures
    ∙ ap (λ (kept : List Bool). kept ++ is_kept old new key ∷ []) c.loop-key.invariant
    ∙ sym (map-append (is_kept old new) (take i keys) (key ∷ [])) ∙ ap (map (is_kept old new)) (sym more)

pub returns : goal.returns
returns c =
    c.from_vec.ensures ∙ c.loop-key.invariant ∙ ap (map (is_kept c.args.old.now c.args.new.now)) (take_all c.loop-key.key-index c.args.keys.now c.loop-key-test.false)
