use Rattle.std.proofs.Common.{◌≡◌, Bool, List, map, ◌∙◌, ap}
use denote.Bor.{Bor}
use Rattle.std.specs.List.{flat_map, filter_map, list_all}
use Rattle.pgs_syntax.specs.declared.resolved.Guarding.{Guarding}
use Rattle.pgs_syntax.specs.declared.resolved.TypeNo.{TypeNo}
use Rattle.pgs_syntax.specs.declared.key.Key.{Key}
use Rattle.pgs_syntax.specs.declared.script.GraphType.{GraphType}
use Rattle.pgs_syntax.specs.declared.script.Member.{Member}
use Rattle.pgs_resolve.specs.Guard.{name_of, each_once, type_no}
use Rattle.pgs_resolve_keys.specs.Patterns.{resolved_key}
use Rattle.pgs_resolve.specs.Keyed.{names_x}
use Rattle.pgs_resolve.proofs.Each.{of_guard, keys_in}
use Rattle.pgs_resolve_declared.proofs.Firsts.{flat_map_through}
use Rattle.pgs_resolve.proofs.guard.guarding.Goals as goal

abbrev lent : Bor GraphType → GraphType
lent graph = graph.now

pub resolve_keys-requires : goal.resolve_keys-requires
resolve_keys-requires c =
    let script = c.requires.0 in
    ap (λ graphs. list_all names_x (flat_map (λ (graph : Bor GraphType). graph.now.keys) graphs)) c.deref-2.ensures.value
    ∙ ap (list_all names_x) (flat_map_through lent keys_in c.in_ok-graphs.graphs.items ∙ ap (flat_map keys_in) (c.in_ok-graphs.ensures script c.requires.1.0))
    ∙ of_guard names_x script c.requires.1.1

same_guarding : (a b : Bool) (s t : List TypeNo) (k l : List Key) → a ≡ b → s ≡ t → k ≡ l →
    ◌≡◌ {A = Guarding} (record { strict = a; types = s; keys = k }) (record { strict = b; types = t; keys = l })
same_guarding a b s t k l x y z =
    ap (λ v. let g : Guarding = record { strict = v; types = s; keys = k } in g) x
    ∙ ap (λ v. let g : Guarding = record { strict = b; types = v; keys = k } in g) y
    ∙ ap (λ v. let g : Guarding = record { strict = b; types = t; keys = v } in g) z

pub returns : goal.returns
returns c script are =
    let graphs = c.in_ok-graphs.graphs.items in
    let walked = c.in_ok-graphs.ensures script are in
    let numbering = c.args.numbering.now in
    let members : GraphType → List Member = λ type. type.members in
    same_guarding _ _ _ _ _ _ (c.is_strict.ensures script are)
    (c.from_vec.ensures ∙ c.in_ok-types.ensures
    ∙ ap (λ names. filter_map (type_no numbering) (each_once (map name_of names)))
    (ap (flat_map (λ (graph : Bor GraphType). graph.now.members)) c.deref.ensures.value ∙ flat_map_through lent members graphs ∙ ap (flat_map members) walked))
    (c.from_vec-2.ensures ∙ c.in_ok-keys.ensures
    ∙ ap (map (resolved_key numbering))
    (ap (flat_map (λ (graph : Bor GraphType). graph.now.keys)) c.deref-2.ensures.value ∙ flat_map_through lent keys_in graphs ∙ ap (flat_map keys_in) walked))
