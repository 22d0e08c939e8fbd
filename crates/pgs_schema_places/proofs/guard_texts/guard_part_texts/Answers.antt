use Rattle.std.proofs.Common.{◌≡◌, List, ℕ, map, sym, ap, subst, ◌∙◌}
use Rattle.std.specs.Prelude.{IfOk}
use Rattle.pgs_resolve_declared.specs.Declarations.{keys_of}
use Rattle.pgs_resolve_declared.proofs.Walks.{map_through}
use Rattle.pgs_schema_places.specs.declared.parts.PartTexts.{PartTexts}
use Rattle.pgs_schema_places.specs.KeyTexts.{guard_keys, key_tokens, place_of}
use Rattle.pgs_schema_places.specs.KeyParts.{guard_part_texts, part_texts, parts_at}
use Rattle.pgs_schema_places.proofs.guard_texts.guard_part_texts.Goals as goal

pub returns : goal.returns
returns c script are =
    let tokens = c.args.tokens.now in
    let places = map place_of (keys_of script) in
    let parts = map part_texts (key_tokens tokens) in
    let places_are : c.deref.result.now ≡ places = c.deref.ensures.value ∙ c.in_ok-places.ensures script are in
    let wanted_are : c.deref-3.result.now ≡ map place_of (guard_keys script) = c.deref-3.ensures.value ∙ c.in_ok-wanted.ensures script are in
    let parts_are : c.deref-2.result.now ≡ parts = c.deref-2.ensures.value ∙ c.in_ok-parts.ensures in
    let whole : map (parts_at c.deref.result.now c.deref-2.result.now) c.deref-3.result.now ≡ guard_part_texts tokens script =
    ap (λ (ps : List ℕ). map (parts_at ps c.deref-2.result.now) c.deref-3.result.now) places_are
    ∙ ap (λ (ts : List PartTexts). map (parts_at places ts) c.deref-3.result.now) parts_are
    ∙ ap (map (parts_at places parts)) wanted_are ∙ sym (map_through place_of (parts_at places parts) (guard_keys script)) in
    subst (λ (ys : List PartTexts). IfOk c.all_parts_at.result (λ found. found ≡ ys)) whole c.all_parts_at.ensures
