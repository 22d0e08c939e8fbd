use Rattle.std.proofs.Common.{List, [], ◌∷◌, ◌++◌, map, take, sym, ap, ◌∙◌, append_assoc}
use Rattle.std.proofs.lemmas.List.{map-append, take_all}
use denote.Bor.{Bor}
use Rattle.pgs_syntax.specs.declared.raw.RawKey.{RawKey}
use Rattle.pgs_resolve_declared.proofs.Walks.{one_more}
use Rattle.pgs_key_causes.proofs.guide.push_keys.Goals as goal

abbrev lent : Bor RawKey → RawKey
lent key = key.now

pub loop-key-preserved : goal.loop-key-preserved
loop-key-preserved c =
    let old = map lent c.args.keys.now.items in
    let written = c.args.written.now in
    let i = c.loop-key.key-index in
    let key = c.key-item.result in
    ap (map lent) c.in_ok-push.ensures.items ∙ map-append lent c.loop-key.keys.items _ ∙ ap (λ (keys : List RawKey). keys ++ key ∷ []) c.loop-key.invariant
    ∙ append_assoc old (take i written) (key ∷ []) ∙ ap (λ (keys : List RawKey). old ++ keys) (sym (one_more written i key c.loop-key-test.true c.key-item.is))

pub returns : goal.returns
returns c =
    c.loop-key.invariant
    ∙ ap (λ (keys : List RawKey). map lent c.args.keys.now.items ++ keys) (take_all c.loop-key.key-index c.args.written.now c.loop-key-test.false)
