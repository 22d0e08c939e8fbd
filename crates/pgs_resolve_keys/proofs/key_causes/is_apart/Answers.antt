use Rattle.std.proofs.Common.{◌≡◌, ℕ, Bool, true, not, ◌||◌, List, [], Option, sym, ◌∙◌, ap}
use Rattle.std.specs.Option.{unwrap_or, option_map_or}
use Rattle.pgs_syntax.specs.declared.raw.RawPath.{RawPath}
use Rattle.pgs_syntax.specs.Valid.{is_connected}
use Rattle.pgs_resolve_keys.specs.Patterns.{pattern_of}
use Rattle.pgs_resolve_keys.proofs.key_causes.is_apart.Goals as goal

abbrev are_linked : List ℕ → List RawPath → Bool
are_linked x paths = is_connected (pattern_of (record { nodes = []; edges = [] }) x paths)

abbrev apart_of : List ℕ → List RawPath → Option (List RawPath) → Bool
apart_of x scope within = not (are_linked x scope) || not (option_map_or (are_linked x) within true)

pub returns-in_ok-is_linked-in-Some : goal.returns-in_ok-is_linked-in-Some
returns-in_ok-is_linked-in-Some c =
    let key = c.args.key.now in
    let x = c.args.x.now in
    let scope : are_linked x key.scope ≡ true =
    sym (c.in_ok-is_linked.ensures ∙ ap (are_linked x) c.as_slice.ensures) ∙ c.if-not-branch.false in
    ap not (c.in_ok-is_linked-in-Some.ensures ∙ ap (are_linked x) c.as_slice-in-Some.ensures)
    ∙ sym (ap (λ o. apart_of (unwrap_or o []) key.scope key.within) c.requires ∙ ap (apart_of x key.scope) c.in-Some.is
    ∙ ap (λ b. not b || not (are_linked x c.in-Some.paths)) scope)
