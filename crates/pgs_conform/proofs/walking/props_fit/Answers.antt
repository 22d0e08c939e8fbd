use Rattle.std.proofs.Common.{◌==◌, length, sym, ap, ◌∙◌, ◌||◌}
use Rattle.pgs_conform.proofs.walking.props_fit.Goals as goal
use Rattle.pgs_conform.specs.Shapes.{admits_kind}
use Rattle.pgs_conform.proofs.PropWalk.{required, left_out, met, refused, passed, ended}

pub returns-then-not-key : goal.returns-then-not-key
returns-then-not-key c =
    required c.args.keys.now c.args.more c.args.props.now c.loop-keys_left.keys_left.now c.loop-keys_left.left.now
    c.key-item.result c.entry-item.result
    (record { some_keys = c.in-len1-up.len_at_least; some_props = c.in-len1-up-left.len_at_least; key = c.key-item.is; entry = c.entry-item.is; compared = sym c.order.ensures ∙ c.in-Less.is })
    c.if-not-key.true c.loop-keys_left.invariant

pub loop-keys_left-preserved-in-Less : goal.loop-keys_left-preserved-in-Less
loop-keys_left-preserved-in-Less c =
    left_out c.args.keys.now c.args.more c.args.props.now c.loop-keys_left.keys_left.now c.loop-keys_left.left.now
    c.key-item.result c.entry-item.result
    (record { some_keys = c.in-len1-up.len_at_least; some_props = c.in-len1-up-left.len_at_least; key = c.key-item.is; entry = c.entry-item.is; compared = sym c.order.ensures ∙ c.in-Less.is })
    c.if-not-key.false c.loop-keys_left.invariant

pub loop-keys_left-preserved-in-Equal : goal.loop-keys_left-preserved-in-Equal
loop-keys_left-preserved-in-Equal c =
    met c.args.keys.now c.args.more c.args.props.now c.loop-keys_left.keys_left.now c.loop-keys_left.left.now
    c.key-item.result c.entry-item.result
    (record { some_keys = c.in-len1-up.len_at_least; some_props = c.in-len1-up-left.len_at_least; key = c.key-item.is; entry = c.entry-item.is; compared = sym c.order.ensures ∙ c.in-Equal.is })
    (sym (c.admits.ensures ∙ ap (admits_kind c.key-item.result.1) c.kind.ensures) ∙ c.if-not-admits.false) c.loop-keys_left.invariant

pub returns-then-not-more : goal.returns-then-not-more
returns-then-not-more c =
    refused c.args.keys.now c.args.more c.args.props.now c.loop-keys_left.keys_left.now c.loop-keys_left.left.now
    c.key-item.result c.entry-item.result
    (record { some_keys = c.in-len1-up.len_at_least; some_props = c.in-len1-up-left.len_at_least; key = c.key-item.is; entry = c.entry-item.is; compared = sym c.order.ensures ∙ c.in-Greater.is })
    c.if-not-more.true c.loop-keys_left.invariant

pub loop-keys_left-preserved : goal.loop-keys_left-preserved
loop-keys_left-preserved c =
    passed c.args.keys.now c.args.more c.args.props.now c.loop-keys_left.keys_left.now c.loop-keys_left.left.now
    c.key-item.result c.entry-item.result
    (record { some_keys = c.in-len1-up.len_at_least; some_props = c.in-len1-up-left.len_at_least; key = c.key-item.is; entry = c.entry-item.is; compared = sym c.order.ensures ∙ c.in-Greater.is })
    c.if-not-more.false c.loop-keys_left.invariant

pub returns-then-more : goal.returns-then-more
returns-then-more c =
    let whole = ended c.args.keys.now c.args.more c.args.props.now c.loop-keys_left.keys_left.now c.loop-keys_left.left.now
    c.in_default.len_below c.loop-keys_left.invariant in
    c.if-more.true ∙ sym (whole ∙ ap (λ b. b || (length c.loop-keys_left.left.now == 0)) c.if-more.true)

pub returns-else-more : goal.returns-else-more
returns-else-more c =
    let whole = ended c.args.keys.now c.args.more c.args.props.now c.loop-keys_left.keys_left.now c.loop-keys_left.left.now
    c.in_default.len_below c.loop-keys_left.invariant in
    c.is_empty.ensures ∙ sym (whole ∙ ap (λ b. b || (length c.loop-keys_left.left.now == 0)) c.if-more.false)
