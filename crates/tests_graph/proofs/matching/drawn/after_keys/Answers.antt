use Rattle.std.proofs.Common.{◌≡◌, ◌∙◌, true, sym, subst}
use Rattle.pgs_schema.proofs.Keys.{valid_key}
use Rattle.pgs_syntax.specs.Valid.{is_valid_key_of}
use Rattle.tests_graph.proofs.matching.drawn.after_keys.Goals as goal

pub after_asked-requires : goal.after_asked-requires
after_asked-requires g c =
    subst (λ resolved. is_valid_key_of resolved c.key-item.result ≡ true) (sym c.compiled-compiled.ensures.schema)
    (valid_key c.args.schema.now.resolved c.compiled-compiled.ensures.valid c.as_slice-key-items.result.now
    (c.as_slice-key-items.ensures ∙ c.keys.ensures) c.loop-key.key-index c.loop-key-test.true c.key-item.result c.key-item.is)
