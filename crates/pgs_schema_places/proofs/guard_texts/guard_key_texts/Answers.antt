use Rattle.std.proofs.Common.{◌≡◌, List, ℕ, map, sym, ap, subst, ◌∙◌}
use Rattle.std.specs.Prelude.{IfOk}
use Rattle.pgs_resolve_declared.specs.Declarations.{keys_of}
use Rattle.pgs_resolve_declared.proofs.Walks.{map_through}
use Rattle.pgs_schema_places.specs.KeyTexts.{guard_key_texts, guard_keys, key_texts, place_of, text_at}
use Rattle.pgs_schema_places.proofs.guard_texts.guard_key_texts.Goals as goal

pub returns : goal.returns
returns c script are =
    let tokens = c.args.tokens.now in
    let places = map place_of (keys_of script) in
    let texts = key_texts tokens in
    let places_are : c.deref.result.now ≡ places = c.deref.ensures.value ∙ c.in_ok-places.ensures script are in
    let wanted_are : c.deref-2.result.now ≡ map place_of (guard_keys script) = c.deref-2.ensures.value ∙ c.in_ok-wanted.ensures script are in
    let texts_are : c.as_slice.result.now ≡ texts = c.as_slice.ensures ∙ c.in_ok-texts.ensures in
    let whole : map (text_at c.deref.result.now c.as_slice.result.now) c.deref-2.result.now ≡ guard_key_texts tokens script =
    ap (λ (ps : List ℕ). map (text_at ps c.as_slice.result.now) c.deref-2.result.now) places_are
    ∙ ap (λ (ts : List (List ℕ)). map (text_at places ts) c.deref-2.result.now) texts_are
    ∙ ap (map (text_at places texts)) wanted_are ∙ sym (map_through place_of (text_at places texts) (guard_keys script)) in
    subst (λ (ys : List (List ℕ)). IfOk c.texts_at.result (λ found. found ≡ ys)) whole c.texts_at.ensures
