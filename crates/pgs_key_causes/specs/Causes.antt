-- The causes of the violation of a key.
use Rattle.std.specs.Prelude.{◌≡◌, ℕ, zero, suc, ◌==◌, List, [], ◌++◌, map, slice_get, unwrap_or, option_map, option_and_then, Option, Some, None, if◌then◌else◌}
use Rattle.std.specs.Option.{option_map_or, option_to_list}
use Rattle.pgs_base.specs.declared.element.Elem.{Elem}
use Rattle.pgs_base.specs.Graph.{Graph}
use Rattle.pgs_lexer.specs.Token.{Lexeme}
use Rattle.pgs_syntax.specs.declared.key.Key.{Key}
use Rattle.pgs_syntax.specs.declared.raw.RawKey.{RawKey}
use Rattle.pgs_syntax.specs.declared.resolved.Resolved.{Resolved}
use Rattle.pgs_syntax.specs.declared.script.Script.{Script}
use Rattle.pgs_resolve_declared.specs.declared.order.Numbering.{Numbering}
use Rattle.pgs_resolve_declared.specs.Order.{numbering_of}
use Rattle.pgs_resolve_keys.specs.Patterns.{x_of, resolved_key}
use Rattle.pgs_schema_places.specs.declared.parts.PartTexts.{PartTexts}
use Rattle.pgs_schema_places.specs.KeyTexts.{guard_keys, guard_key_texts}
use Rattle.pgs_schema_places.specs.KeyParts.{guard_part_texts}
use Rattle.pgs_pattern_end.specs.declared.front.PatternEnd.{PatternEnd}
use Rattle.pgs_pattern_end.specs.End.{is_placed, is_defined, least_before, IsEnd}
use Rattle.pgs_pattern_end.specs.Texts.{no_step_text, no_place_text, no_value_text}
use Rattle.pgs_violation.specs.declared.violation.Violation.{Violation}
use Rattle.pgs_violation.specs.declared.violation.Violation.TheVariants.{UntypedNode, UntypedEdge, Mandatory, Singleton, Exclusive, CountOutside}
use Rattle.pgs_key_causes.specs.declared.guide.KeyGuide.{KeyGuide}
use Rattle.pgs_key_causes.specs.declared.walk.Visit.{Visit}
use Rattle.pgs_key_causes.specs.Walk.{is_edge_at, walk}
use Rattle.pgs_key_causes.specs.Fronts.{Descriptor, descriptor_of, place_fronts, expr_fronts}
use Rattle.pgs_key_causes.specs.Reading.{reading}

-- the keys of a guide as they are written
abbrev pub written_keys : KeyGuide → List RawKey
written_keys guide = map (λ key. key.now) guide.keys.items

-- whether a guide is that of a script, which tokens are: the guard's keys in their order with their texts, and the numbers of types
pub record IsGuideOf (tokens : List Lexeme) (script : Script) (guide : KeyGuide) : Type 0 where
  pub keys : written_keys guide ≡ guard_keys script
  pub texts : guide.texts ≡ guard_key_texts tokens script
  pub parts : guide.parts ≡ guard_part_texts tokens script
  pub numbering : guide.numbering ≡ numbering_of script

-- whether its keys are those of a schema
abbrev pub GuidesTo : KeyGuide → Resolved → Type 0
GuidesTo guide schema = map (resolved_key guide.numbering) (written_keys guide) ≡ schema.guard.keys

-- ---- where the pattern of a key ends

-- what is told of the end at a visit of the walk, where an element is told
abbrev pub visit_text : List (List ℕ) → Descriptor → Visit → Elem → List ℕ
visit_text texts descriptor visit elem =
    let read = reading texts descriptor.directions (is_edge_at descriptor.occurrences visit.place) visit in
    if visit.place == visit.from then no_place_text read elem else no_step_text read elem

abbrev pub place_end_texts : List (List ℕ) → Descriptor → PatternEnd → List (List ℕ)
place_end_texts texts descriptor end =
    option_to_list
    (option_and_then (λ visit. option_map (visit_text texts descriptor visit) end.from) (slice_get (walk descriptor.occurrences) end.part))

-- and of the end at an expression
abbrev pub expr_end_texts : List (List ℕ) → PatternEnd → List (List ℕ)
expr_end_texts texts end = option_to_list (option_map (no_value_text (unwrap_or (slice_get texts end.part) [])) end.from)

module _ (schema : Resolved) (g : Graph) (elem : Elem) where
  -- the first expression is told that isn't defined, where there is one
  abbrev pub AreExprTexts : Key → List (List ℕ) → List (List ℕ) → Type 0
  AreExprTexts key exprs texts =
      (end : Option PatternEnd) × IsEnd (is_defined schema g elem) (least_before schema g elem) (expr_fronts key) end
      × (texts ≡ option_map_or (expr_end_texts exprs) end [])

  -- the first place is told that no match meets, and where matches meet all, the first expression
  abbrev pub AreTextsBehind : Numbering → RawKey → PartTexts → Option PatternEnd → List (List ℕ) → Type 0
  AreTextsBehind numbering key parts (Some end) texts = texts ≡ place_end_texts parts.places (descriptor_of numbering key) end
  AreTextsBehind numbering key parts None texts = AreExprTexts (resolved_key numbering key) parts.exprs texts

  abbrev pub AreEndTexts : Numbering → RawKey → PartTexts → List (List ℕ) → Type 0
  AreEndTexts numbering key parts texts =
      (end : Option PatternEnd)
      × IsEnd (is_placed schema g elem) (least_before schema g elem) (place_fronts numbering (descriptor_of numbering key) key.qualifiers) end
      × AreTextsBehind numbering key parts end texts

-- ---- the causes of a violation

-- of the key of a number, from 1: its text, and where its pattern ends at an element
abbrev pub key_place : ℕ → Option ℕ
key_place zero = None
key_place (suc n) = Some n

abbrev pub key_text : KeyGuide → ℕ → List (List ℕ)
key_text guide n = option_to_list (option_and_then (slice_get guide.texts) (key_place n))

-- Of a key that has no x, which no schema has, nothing is told.
abbrev pub AreEndsFrom : Resolved → Graph → Numbering → Elem → Option (List ℕ) → RawKey → PartTexts → List (List ℕ) → Type 0
AreEndsFrom schema g numbering elem None key parts texts = texts ≡ []
AreEndsFrom schema g numbering elem (Some x) key parts texts = AreEndTexts schema g elem numbering key parts texts

abbrev pub AreEndsOf : Resolved → Graph → KeyGuide → Elem → Option RawKey → Option PartTexts → List (List ℕ) → Type 0
AreEndsOf schema g guide elem (Some key) (Some parts) texts = AreEndsFrom schema g guide.numbering elem (x_of key) key parts texts
AreEndsOf schema g guide elem _ _ texts = texts ≡ []

abbrev pub AreEnds : Resolved → Graph → KeyGuide → ℕ → Elem → List (List ℕ) → Type 0
AreEnds schema g guide n elem texts =
    AreEndsOf schema g guide elem (option_and_then (slice_get (written_keys guide)) (key_place n)) (option_and_then (slice_get guide.parts) (key_place n)) texts

-- Of a 27, and of a 39 without a value, both; of a 28, a 29 and a 39 with values the text of the key alone; of a 25 and a 26 nothing.
abbrev pub AreCausesWithEnd : Resolved → Graph → KeyGuide → ℕ → Elem → List (List ℕ) → Type 0
AreCausesWithEnd schema g guide n elem causes = (texts : List (List ℕ)) × AreEnds schema g guide n elem texts × (causes ≡ key_text guide n ++ texts)

abbrev pub AreKeyCauses : Resolved → Graph → KeyGuide → Violation → List (List ℕ) → Type 0
AreKeyCauses schema g guide (UntypedNode node) causes = causes ≡ []
AreKeyCauses schema g guide (UntypedEdge edge) causes = causes ≡ []
AreKeyCauses schema g guide (Mandatory n elem) causes = AreCausesWithEnd schema g guide n elem causes
AreKeyCauses schema g guide (Singleton n elem first second) causes = causes ≡ key_text guide n
AreKeyCauses schema g guide (Exclusive n first second tuple) causes = causes ≡ key_text guide n
AreKeyCauses schema g guide (CountOutside n elem zero least most) causes = AreCausesWithEnd schema g guide n elem causes
AreKeyCauses schema g guide (CountOutside n elem (suc count) least most) causes = causes ≡ key_text guide n
