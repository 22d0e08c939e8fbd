-- What is read as an element type is one by the grammar.
use Rattle.std.proofs.Common.{◌≡◌, ℕ, zero, suc, ◌≤◌, Bool, true, false, List, [], ◌∷◌, length, Some, inl, inr, refl, sym, subst, arith, codes, if◌then◌else◌}
use Rattle.pgs_lexer.specs.Token.{Lexeme}
use Rattle.pgs_syntax.specs.declared.element_type.NodeType.{NodeType}
use Rattle.pgs_syntax.specs.declared.element_type.EdgeType.{EdgeType}
use Rattle.pgs_syntax.specs.declared.specification.Braces.{Braces}
use Rattle.pgs_syntax.specs.declared.specification.Property.{Property}
use Rattle.pgs_parser.specs.Literal.{name}
use Rattle.pgs_parser.specs.Production.{Production, ◌▸◌, never, sign, keyword_if, listed}
use Rattle.pgs_parser.specs.Types.{Written, IsAtom, named, parenthesised, IsUnit, plain, optional, IsConj, one_unit, units, IsLabels, one_conj, conjs, labels_within, labels, kind, property, properties, braces, together, body, node_type, end_of, edge_type}
use Rattle.pgs_parser.specs.Reader.{Reader, a_name, next, sign_at, keyword_at, name_at, keyword_if_at, maybe_at, listed_at}
use Rattle.pgs_parser.specs.TypeReaders.{alternatives, parenthesised_at, atom_at, unit_at, conj_at, level_at, inner_at, labels_at, kind_at, property_at, begins_property, properties_at, open_at, braces_rest_at, body_at, node_type_at, end_at, middle_at, arrow_type_at, edge_type_at}
use Rattle.pgs_parser.proofs.Chains.{bind_some, either_way, chosen_way, holds, Took, TookAny, Sound, SoundAny, sign_sound, keyword_sound, name_sound, keyword_if_sound, maybe_sound, listed_sound, commas_sound}

-- ---- labels

-- what may stand in parentheses
abbrev pub inner_of : ℕ → Written → Production
inner_of zero = λ spec. never
inner_of (suc further) = labels_within further

module _ (reader : Reader Written) (inner : Written → Production) (s : Sound reader inner) where
  parenthesised_sound : Sound (parenthesised_at reader) (λ spec. sign "(" ▸ inner spec ▸ sign ")")
  unfolding parenthesised_at
  parenthesised_sound tokens x e =
      let open_ = bind_some (sign_at "(" tokens) _ x e in
      let spec = bind_some (reader open_.0) _ x open_.2 in
      let close_ = bind_some (sign_at ")" spec.0.1) _ x spec.2 in
      let a = sign_sound "(" tokens open_.0 open_.1 in
      let b = s open_.0 spec.0 spec.1 in
      let c = sign_sound ")" spec.0.1 close_.0 close_.1 in
      holds (Took (λ spec. sign "(" ▸ inner spec ▸ sign ")") tokens) close_.2 ((open_.0, a.0, (spec.0.1, b.0, c.0)), omega arith)

  atom_sound : Sound (atom_at reader) (IsAtom inner)
  unfolding atom_at
  atom_sound tokens x e =
      elim (chosen_way (next a_name tokens) _ _ (Some x) e) [
        | inl w ↦
            let found = bind_some (name_at tokens) _ x w.1 in
            let k = name_sound tokens found.0 found.1 in
            holds (Took (IsAtom inner) tokens) found.2 (named k.0, k.1)
        | inr w ↦ let k = parenthesised_sound tokens x w.1 in (parenthesised k.0, k.1)
      ]

  unit_sound : Sound (unit_at reader) (IsUnit inner)
  unfolding unit_at
  unit_sound tokens x e =
      let P = Took (IsUnit inner) tokens in
      let atom = bind_some (atom_at reader tokens) _ x e in
      let a = atom_sound tokens atom.0 atom.1 in
      elim (either_way (sign_at "?" atom.0.1) _ _ x atom.2) [
        | inl w ↦ let k = sign_sound "?" atom.0.1 w.0 w.1 in holds P w.2 (optional (atom.0.1, a.0, k.0), omega arith)
        | inr w ↦ holds P w.1 (plain a.0, a.1)
      ]

  as_conj : (xs : List Written) (before after : List Lexeme) → listed (sign "&") (IsUnit inner) xs before after → IsConj inner (together xs) before after
  as_conj [] before after h = absurd h
  as_conj (x ∷ []) before after (m, h, e) = one_unit (subst (IsUnit inner x before) e h)
  as_conj (x ∷ y ∷ more) before after h = units x y more h

  conj_sound : Sound (conj_at reader) (IsConj inner)
  unfolding conj_at
  conj_sound tokens x e =
      let found = bind_some (listed_at (sign_at "&") (unit_at reader) tokens) _ x e in
      let k = listed_sound "&" (unit_at reader) (IsUnit inner) unit_sound tokens found.0 found.1 in
      holds (Took (IsConj inner) tokens) found.2 (as_conj found.0.0 tokens found.0.1 k.0, k.1)

  as_labels : (xs : List Written) (before after : List Lexeme) → listed (sign "|") (IsConj inner) xs before after → IsLabels inner (alternatives xs) before after
  as_labels [] before after h = absurd h
  as_labels (x ∷ []) before after (m, h, e) = one_conj (subst (IsConj inner x before) e h)
  as_labels (x ∷ y ∷ more) before after h = conjs x y more h

  level_sound : Sound (level_at reader) (IsLabels inner)
  unfolding level_at
  level_sound tokens x e =
      let found = bind_some (listed_at (sign_at "|") (conj_at reader) tokens) _ x e in
      let k = listed_sound "|" (conj_at reader) (IsConj inner) conj_sound tokens found.0 found.1 in
      holds (Took (IsLabels inner) tokens) found.2 (as_labels found.0.0 tokens found.0.1 k.0, k.1)

-- however many parentheses may be open
pub inner_sound : (further : ℕ) → Sound (inner_at further) (inner_of further)
unfolding inner_at
inner_sound zero tokens x e = cc
inner_sound (suc zero) tokens x e = level_sound (inner_at zero) (inner_of zero) (inner_sound zero) tokens x e
inner_sound (suc (suc further)) tokens x e = level_sound (inner_at (suc further)) (inner_of (suc further)) (inner_sound (suc further)) tokens x e

pub labels_within_sound : (further : ℕ) → Sound (level_at (inner_at further)) (labels_within further)
labels_within_sound zero = level_sound (inner_at zero) (inner_of zero) (inner_sound zero)
labels_within_sound (suc further) = level_sound (inner_at (suc further)) (inner_of (suc further)) (inner_sound (suc further))

pub unit_within_sound : (further : ℕ) → Sound (unit_at (inner_at further)) (IsUnit (inner_of further))
unit_within_sound further = unit_sound (inner_at further) (inner_of further) (inner_sound further)

pub conj_within_sound : (further : ℕ) → Sound (conj_at (inner_at further)) (IsConj (inner_of further))
conj_within_sound further = conj_sound (inner_at further) (inner_of further) (inner_sound further)

labels_sound : Sound labels_at labels
unfolding labels_at
labels_sound = labels_within_sound 64

-- ---- braces

kind_sound : Sound kind_at kind
unfolding kind_at
kind_sound tokens x e =
    let P = Took kind tokens in
    elim (either_way (keyword_at "STRING" tokens) _ _ x e) [
      | inl w ↦ holds P w.2 (keyword_sound "STRING" tokens w.0 w.1)
      | inr v ↦ elim (either_way (keyword_at "INT" tokens) _ _ x v.1) [
        | inl w ↦ holds P w.2 (keyword_sound "INT" tokens w.0 w.1)
        | inr u ↦ elim (either_way (keyword_at "BOOL" tokens) _ _ x u.1) [
          | inl w ↦ holds P w.2 (keyword_sound "BOOL" tokens w.0 w.1)
          | inr t ↦ let w = bind_some (keyword_at "DATE" tokens) _ x t.1 in holds P w.2 (keyword_sound "DATE" tokens w.0 w.1)
        ]
      ]
    ]

pub property_sound : Sound property_at property
unfolding property_at
property_sound tokens x e =
    let optional = bind_some (keyword_if_at (codes "OPTIONAL") tokens) _ x e in
    let key = bind_some (name_at optional.0.1) _ x optional.2 in
    let kind = bind_some (kind_at key.0.1) _ x key.2 in
    let a = keyword_if_sound "OPTIONAL" tokens optional.0 optional.1 in
    let b = name_sound optional.0.1 key.0 key.1 in
    let c = kind_sound key.0.1 kind.0 kind.1 in
    holds (Took property tokens) kind.2 ((optional.0.1, a.0, (key.0.1, b.0, c.0)), omega arith)

-- properties, where some stand
abbrev some_properties : List Property → Production
some_properties [] before after = before ≡ after
some_properties (p ∷ ps) before after = listed (sign ",") property (p ∷ ps) before after

as_some : (ps : List Property) (before after : List Lexeme) → listed (sign ",") property ps before after → some_properties ps before after
as_some [] before after h = absurd h
as_some (p ∷ ps) before after h = h

properties_sound : SoundAny properties_at some_properties
unfolding properties_at
properties_sound tokens x e =
    elim (chosen_way (begins_property tokens) _ _ (Some x) e) [
      | inl w ↦
          let k = commas_sound (codes "OPEN") property_at property property_sound tokens x w.1 in
          (as_some x.0 tokens x.1 k.0, omega arith)
      | inr w ↦ holds (TookAny some_properties tokens) w.1 (refl, omega arith)
    ]

open_alone : (there : Bool) (before after : List Lexeme) → keyword_if there "OPEN" before after → properties [] there before after
open_alone false before after h = h
open_alone true before after h = h

open_sound : (ps : List Property) (start tokens : List Lexeme) (x : Bool × List Lexeme) → some_properties ps start tokens → open_at ps tokens ≡ Some x →
    properties ps x.0 start x.1 × (length x.1 ≤ length tokens)
unfolding open_at
open_sound [] start tokens x h e =
    let k = keyword_if_sound "OPEN" tokens x e in
    (open_alone x.0 start x.1 (subst (λ ts. keyword_if x.0 "OPEN" ts x.1) (sym h) k.0), k.1)
open_sound (p ∷ ps) start tokens x h e =
    let P : Bool × List Lexeme → Type 0 = λ x. properties (p ∷ ps) x.0 start x.1 × (length x.1 ≤ length tokens) in
    elim (either_way (sign_at "," tokens) _ _ x e) [
      | inl w ↦
          let rest = bind_some (keyword_at "OPEN" w.0) _ x w.2 in
          let a = sign_sound "," tokens w.0 w.1 in
          let b = keyword_sound "OPEN" w.0 rest.0 rest.1 in
          holds P rest.2 ((tokens, h, (w.0, a.0, b.0)), omega arith)
      | inr w ↦ holds P w.1 (h, omega arith)
    ]

-- braces after the first of them
abbrev pub braces_rest : Braces → Production
braces_rest b = properties b.properties b.more ▸ sign "}"

braces_rest_sound : Sound braces_rest_at braces_rest
unfolding braces_rest_at
braces_rest_sound tokens x e =
    let found = bind_some (properties_at tokens) _ x e in
    let more = bind_some (open_at found.0.0 found.0.1) _ x found.2 in
    let close_ = bind_some (sign_at "}" more.0.1) _ x more.2 in
    let a = properties_sound tokens found.0 found.1 in
    let b = open_sound found.0.0 tokens found.0.1 more.0 a.0 more.1 in
    let c = sign_sound "}" more.0.1 close_.0 close_.1 in
    holds (Took braces_rest tokens) close_.2 ((more.0.1, b.0, c.0), omega arith)

-- ---- types

body_sound : SoundAny body_at body
unfolding body_at
body_sound tokens x e =
    let some = bind_some (maybe_at (sign_at ":") labels_at tokens) _ x e in
    let is_open = bind_some (keyword_if_at (codes "OPEN") some.0.1) _ x some.2 in
    let between = bind_some (maybe_at (sign_at "{") braces_rest_at is_open.0.1) _ x is_open.2 in
    let a = maybe_sound (sign_at ":") labels_at (λ spec. sign ":" ▸ labels spec)
    (λ tokens rest h x g. let k = sign_sound ":" tokens rest h in let l = labels_sound rest x g in ((rest, k.0, l.0), omega arith)) tokens some.0 some.1 in
    let b = keyword_if_sound "OPEN" some.0.1 is_open.0 is_open.1 in
    let c = maybe_sound (sign_at "{") braces_rest_at braces
    (λ tokens rest h x g. let k = sign_sound "{" tokens rest h in let l = braces_rest_sound rest x g in ((rest, k.0, l.0), omega arith)) is_open.0.1 between.0 between.1 in
    holds (TookAny body tokens) between.2 ((some.0.0, is_open.0.0, between.0.0, refl, (some.0.1, a.0, (is_open.0.1, b.0, c.0))), omega arith)

pub node_type_sound : (hidden : Bool) (place : ℕ) (tokens : List Lexeme) (x : NodeType (List ℕ) × List Lexeme) → node_type_at hidden place tokens ≡ Some x →
    Took node_type tokens x × (x.0.hidden ≡ hidden) × (x.0.place ≡ place)
unfolding node_type_at
node_type_sound hidden place tokens x e =
    let open_ = bind_some (sign_at "(" tokens) _ x e in
    let named = bind_some (name_at open_.0) _ x open_.2 in
    let spec = bind_some (body_at named.0.1) _ x named.2 in
    let close_ = bind_some (sign_at ")" spec.0.1) _ x spec.2 in
    let a = sign_sound "(" tokens open_.0 open_.1 in
    let b = name_sound open_.0 named.0 named.1 in
    let c = body_sound named.0.1 spec.0 spec.1 in
    let d = sign_sound ")" spec.0.1 close_.0 close_.1 in
    holds (λ (x : NodeType (List ℕ) × List Lexeme). Took node_type tokens x × (x.0.hidden ≡ hidden) × (x.0.place ≡ place)) close_.2
    (((open_.0, a.0, (named.0.1, b.0, (spec.0.1, c.0, d.0))), omega arith), refl, refl)

end_sound : Sound end_at end_of
unfolding end_at
end_sound tokens x e =
    let open_ = bind_some (sign_at "(" tokens) _ x e in
    let spec = bind_some (body_at open_.0) _ x open_.2 in
    let close_ = bind_some (sign_at ")" spec.0.1) _ x spec.2 in
    let a = sign_sound "(" tokens open_.0 open_.1 in
    let b = body_sound open_.0 spec.0 spec.1 in
    let c = sign_sound ")" spec.0.1 close_.0 close_.1 in
    holds (Took end_of tokens) close_.2 ((open_.0, a.0, (spec.0.1, b.0, c.0)), omega arith)

-- what stands in an edge type's arrow
abbrev pub middle : List ℕ × Written → Production
middle x = sign "[" ▸ name x.0 ▸ body x.1 ▸ sign "]"

middle_sound : Sound middle_at middle
unfolding middle_at
middle_sound tokens x e =
    let open_ = bind_some (sign_at "[" tokens) _ x e in
    let named = bind_some (name_at open_.0) _ x open_.2 in
    let spec = bind_some (body_at named.0.1) _ x named.2 in
    let close_ = bind_some (sign_at "]" spec.0.1) _ x spec.2 in
    let a = sign_sound "[" tokens open_.0 open_.1 in
    let b = name_sound open_.0 named.0 named.1 in
    let c = body_sound named.0.1 spec.0 spec.1 in
    let d = sign_sound "]" spec.0.1 close_.0 close_.1 in
    holds (Took middle tokens) close_.2 ((open_.0, a.0, (named.0.1, b.0, (spec.0.1, c.0, d.0))), omega arith)

-- an edge type's arrow
abbrev pub arrow_type : Bool × List ℕ × Written → Production
arrow_type (true, n, spec) = sign "-" ▸ middle (n, spec) ▸ sign "->"
arrow_type (false, n, spec) = sign "<-" ▸ middle (n, spec) ▸ sign "-"

arrow_type_sound : Sound arrow_type_at arrow_type
unfolding arrow_type_at
arrow_type_sound tokens x e =
    let P = Took arrow_type tokens in
    elim (either_way (sign_at "-" tokens) _ _ x e) [
      | inl w ↦
          let inside = bind_some (middle_at w.0) _ x w.2 in
          let head = bind_some (sign_at "->" inside.0.1) _ x inside.2 in
          let a = sign_sound "-" tokens w.0 w.1 in
          let b = middle_sound w.0 inside.0 inside.1 in
          let c = sign_sound "->" inside.0.1 head.0 head.1 in
          holds P head.2 ((w.0, a.0, (inside.0.1, b.0, c.0)), omega arith)
      | inr v ↦
          let w = bind_some (sign_at "<-" tokens) _ x v.1 in
          let inside = bind_some (middle_at w.0) _ x w.2 in
          let tail = bind_some (sign_at "-" inside.0.1) _ x inside.2 in
          let a = sign_sound "<-" tokens w.0 w.1 in
          let b = middle_sound w.0 inside.0 inside.1 in
          let c = sign_sound "-" inside.0.1 tail.0 tail.1 in
          holds P tail.2 ((w.0, a.0, (inside.0.1, b.0, c.0)), omega arith)
    ]

-- the edge type of these ends and this arrow
abbrev pub edge_between : Bool → ℕ → Written → Bool × List ℕ × Written → Written → EdgeType (List ℕ)
edge_between hidden place left arrow right = record {
  name = arrow.1;
  hidden = hidden;
  place = place;
  source = if arrow.0 then left else right;
  middle = arrow.2;
  target = if arrow.0 then right else left;
}

an_edge : (hidden : Bool) (place : ℕ) (left right : Written) (arrow : Bool × List ℕ × Written) (before m n after : List Lexeme) → end_of left before m →
    arrow_type arrow m n → end_of right n after → edge_type (edge_between hidden place left arrow right) before after
an_edge hidden place left right (true, word, spec) before m n after h (a, s, (b, (c, o, (d, w, (f, i, g))), t)) k =
    inl (m, h, (a, s, (b, (c, o, (d, w, (f, i, g))), (n, t, k))))
an_edge hidden place left right (false, word, spec) before m n after h (a, s, (b, (c, o, (d, w, (f, i, g))), t)) k =
    inr (m, h, (a, s, (b, (c, o, (d, w, (f, i, g))), (n, t, k))))

pub edge_type_sound : (hidden : Bool) (place : ℕ) (tokens : List Lexeme) (x : EdgeType (List ℕ) × List Lexeme) → edge_type_at hidden place tokens ≡ Some x →
    Took edge_type tokens x × (x.0.hidden ≡ hidden) × (x.0.place ≡ place)
unfolding edge_type_at
edge_type_sound hidden place tokens x e =
    let left = bind_some (end_at tokens) _ x e in
    let arrow = bind_some (arrow_type_at left.0.1) _ x left.2 in
    let right = bind_some (end_at arrow.0.1) _ x arrow.2 in
    let a = end_sound tokens left.0 left.1 in
    let b = arrow_type_sound left.0.1 arrow.0 arrow.1 in
    let c = end_sound arrow.0.1 right.0 right.1 in
    holds (λ (x : EdgeType (List ℕ) × List Lexeme). Took edge_type tokens x × (x.0.hidden ≡ hidden) × (x.0.place ≡ place)) right.2
    ((an_edge hidden place left.0.0 right.0.0 arrow.0.0 tokens left.0.1 arrow.0.1 right.0.1 a.0 b.0 c.0, omega arith), refl, refl)
