-- The places of the keys of graph types, by a walk over these.
use Rattle.std.proofs.Common.{◌≡◌, ℕ, ◌+◌, ◌<◌, List, [], ◌++◌, length, map, take, get_or, refl, sym, ap, ◌∙◌}
use Rattle.std.specs.List.{flat_map}
use Rattle.std.proofs.lemmas.List.{map-append}
use denote.Bor.{Bor}
use Rattle.pgs_syntax.specs.declared.raw.RawKey.{RawKey}
use Rattle.pgs_syntax.specs.declared.script.GraphType.{GraphType}
use Rattle.pgs_resolve_declared.proofs.Firsts.{flat_map_through}
use Rattle.pgs_resolve_declared.proofs.Walks.{more_of}
use Rattle.pgs_schema_places.specs.KeyTexts.{place_of}

abbrev lent : Bor GraphType → GraphType
lent graph = graph.now

abbrev keys_in : GraphType → List RawKey
keys_in graph = graph.keys

abbrev pub keys_at : Bor GraphType → List RawKey
keys_at graph = graph.now.keys

pub more_places : (graphs : List (Bor GraphType)) (i : ℕ) (graph : Bor GraphType) (mid new : List ℕ) → i < length graphs → graph ≡ get_or graphs i graph →
    mid ≡ map place_of (flat_map keys_at (take i graphs)) → new ≡ mid ++ map place_of (keys_at graph) → new ≡ map place_of (flat_map keys_at (take (i + 1) graphs))
more_places graphs i graph mid new h is before after =
    let keys = flat_map keys_at (take i graphs) in
    after ∙ ap (λ (ys : List ℕ). ys ++ map place_of (keys_at graph)) before ∙ sym (map-append place_of keys (keys_at graph))
    ∙ ap (map place_of) (more_of keys_at [] graphs i graph keys (keys ++ keys_at graph) h is refl refl)

-- of lent graph types those of the graph types
pub places_through : (lents graphs : List (Bor GraphType)) (own : List GraphType) → lents ≡ graphs → map lent graphs ≡ own →
    map place_of (flat_map keys_at lents) ≡ map place_of (flat_map keys_in own)
places_through lents graphs own same is =
    ap (map place_of) (ap (flat_map keys_at) same ∙ flat_map_through lent keys_in graphs ∙ ap (flat_map keys_in) is)
