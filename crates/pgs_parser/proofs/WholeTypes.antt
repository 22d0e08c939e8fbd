-- Element types of the grammar are read.
use Prim.Native.String.{String}
use Rattle.std.proofs.Common.{◌≡◌, ℕ, zero, suc, Bool, true, false, List, [], ◌∷◌, Option, Some, None, inl, inr, refl, sym, ap, ◌∙◌, subst, codes}
use Rattle.std.specs.List.{list_all}
use Rattle.pgs_base.specs.Options.{◌>>=◌}
use Rattle.pgs_base.specs.declared.value.Kind.TheVariants as kinds
use Rattle.pgs_lexer.specs.Token.{Lexeme}
use Rattle.pgs_lexer.specs.declared.kind.TokenKind.TheVariants.{Name, Keyword, Sign}
use Rattle.pgs_syntax.specs.declared.element_type.NodeType.{NodeType}
use Rattle.pgs_syntax.specs.declared.element_type.EdgeType.{EdgeType}
use Rattle.pgs_syntax.specs.declared.specification.Braces.{Braces}
use Rattle.pgs_syntax.specs.declared.specification.Property.{Property}
use Rattle.pgs_syntax.specs.declared.specification.Spec.{Opt}
use Rattle.pgs_parser.specs.Literal.{name}
use Rattle.pgs_parser.specs.Production.{Production, ◌▸◌, sign, keyword, keyword_if, maybe, listed}
use Rattle.pgs_parser.specs.Types.{Written, IsAtom, named, parenthesised, IsUnit, plain, optional, IsConj, one_unit, units, IsLabels, one_conj, conjs, labels, kind, property, properties, braces, together, body, node_type, end_of, edge_type}
use Rattle.pgs_parser.specs.Reader.{Reader, Test, a_name, the_keyword, the_sign, next, second, sign_at, maybe_at, comma_unless, listed_at}
use Rattle.pgs_parser.specs.TypeReaders.{alternatives, parenthesised_at, atom_at, unit_at, conj_at, level_at, inner_at, labels_at, kind_at, property_at, begins_property, properties_at, open_after_comma_at, open_at, braces_rest_at, body_at, node_type_at, end_at, middle_at, arrow_type_at, edge_type_at}
use Rattle.pgs_parser.proofs.NextToken.{Fails, Passes, maybe_begins, keyword_if_begins, word, tells, next_sign, next_keyword, next_name, next_word, fewer}
use Rattle.pgs_parser.proofs.Chains.{Sound}
use Rattle.pgs_parser.proofs.SoundTypes.{inner_of, unit_within_sound, conj_within_sound, property_sound, braces_rest, middle, arrow_type, edge_between}
use Rattle.pgs_parser.proofs.Whole.{Complete, Anything, sign_read, keyword_read, name_read, keyword_if_read, maybe_read, not_passed, other, comma_then, comma_not_next, second_is, second_is, signs_read, commas_read, no_sign_next}

-- ---- labels

-- the signs that do not follow a unit, a conjunction, labels
abbrev pub after_unit : List String
after_unit = "?" ∷ []

abbrev pub after_conj : List String
after_conj = "&" ∷ "?" ∷ []

abbrev pub after_labels : List String
after_labels = "|" ∷ "&" ∷ "?" ∷ []

module _ (reader : Reader Written) (inner : Written → Production) (whole : Complete (Fails (word after_labels)) reader inner) where
  parenthesised_read : Complete Anything (parenthesised_at reader) (λ spec. sign "(" ▸ inner spec ▸ sign ")")
  unfolding parenthesised_at
  parenthesised_read x before after (m, h, (n, k, l)) f =
      rw (sign_read "(" h, whole x m n k (next_sign (word after_labels) ")" l), sign_read ")" l) refl

  atom_read : Complete Anything (atom_at reader) (IsAtom inner)
  unfolding atom_at
  atom_read x before after (named h) f = rw (next_name a_name true (λ bytes. refl) h, name_read h) refl
  atom_read x before after (parenthesised h) f = rw (next_sign a_name "(" h.1) (parenthesised_read x before after h tt)

  -- an atom, which a sign makes optional
  abbrev maybe_optional : Written × List Lexeme → Option (Written × List Lexeme)
  maybe_optional atom = elim (sign_at "?" atom.1) [ Some rest ↦ Some (Opt atom.0, rest) | None ↦ Some (atom.0, atom.1) ]

  unit_read : Complete (Fails (word after_unit)) (unit_at reader) (IsUnit inner)
  unfolding unit_at
  unit_read x before after (plain h) f =
      ap (λ o. o >>= maybe_optional) (atom_read x before after h tt)
      ∙ ap (λ o. elim o [ Some rest ↦ Some (Opt x, rest) | None ↦ Some (x, after) ]) (no_sign_next "?" [] after f)
  unit_read x before after (optional {spec = spec} (m, h, k)) f =
      ap (λ o. o >>= maybe_optional) (atom_read spec before m h tt)
      ∙ ap (λ o. elim o [ Some rest ↦ Some (Opt spec, rest) | None ↦ Some (spec, m) ]) (sign_read "?" k)

  module _ (unit_sound : Sound (unit_at reader) (IsUnit inner)) (conj_sound : Sound (conj_at reader) (IsConj inner)) where
    units_read : Complete (Fails (word after_conj)) (listed_at (sign_at "&") (unit_at reader)) (listed (sign "&") (IsUnit inner))
    units_read = signs_read "&" (unit_at reader) (IsUnit inner) unit_sound unit_read (λ before between h. next_sign (word after_unit) "&" h)
        (λ tokens f. fewer "&" after_unit tokens f) (λ tokens f. no_sign_next "&" after_unit tokens f)

    conj_read : Complete (Fails (word after_conj)) (conj_at reader) (IsConj inner)
    unfolding conj_at
    conj_read x before after (one_unit h) f =
        ap (λ o. o >>= λ units. Some (together units.0, units.1)) (units_read (x ∷ []) before after (after, h, refl) f)
    conj_read x before after (units first second more h) f =
        ap (λ o. o >>= λ units. Some (together units.0, units.1)) (units_read (first ∷ second ∷ more) before after h f)

    conjs_read : Complete (Fails (word after_labels)) (listed_at (sign_at "|") (conj_at reader)) (listed (sign "|") (IsConj inner))
    conjs_read = signs_read "|" (conj_at reader) (IsConj inner) conj_sound conj_read (λ before between h. next_sign (word after_conj) "|" h)
        (λ tokens f. fewer "|" after_conj tokens f) (λ tokens f. no_sign_next "|" after_conj tokens f)

    level_read : Complete (Fails (word after_labels)) (level_at reader) (IsLabels inner)
    unfolding level_at
    level_read x before after (one_conj h) f =
        ap (λ o. o >>= λ conjs. Some (alternatives conjs.0, conjs.1)) (conjs_read (x ∷ []) before after (after, h, refl) f)
    level_read x before after (conjs first second more h) f =
        ap (λ o. o >>= λ conjs. Some (alternatives conjs.0, conjs.1)) (conjs_read (first ∷ second ∷ more) before after h f)

-- however many parentheses may be open
within_read : (further : ℕ) → Complete (Fails (word after_labels)) (inner_at further) (inner_of further) →
    Complete (Fails (word after_labels)) (level_at (inner_at further)) (IsLabels (inner_of further))
within_read further whole = level_read (inner_at further) (inner_of further) whole (unit_within_sound further) (conj_within_sound further)

inner_read : (further : ℕ) → Complete (Fails (word after_labels)) (inner_at further) (inner_of further)
unfolding inner_at
inner_read zero x before after h f = absurd h
inner_read (suc zero) x before after h f = within_read zero (inner_read zero) x before after h f
inner_read (suc (suc further)) x before after h f = within_read (suc further) (inner_read (suc further)) x before after h f

pub labels_read : Complete (Fails (word after_labels)) labels_at labels
unfolding labels_at
labels_read = within_read 64 (inner_read 64)

-- ---- braces

kind_read : Complete Anything kind_at kind
unfolding kind_at
kind_read kinds.Text before after h f = rw (keyword_read "STRING" h, kind_at) refl
kind_read kinds.Int before after h f = rw (other "STRING" "INT" h refl, kind_at, keyword_read "INT" h) refl
kind_read kinds.Bool before after h f = rw (other "STRING" "BOOL" h refl, kind_at, other "INT" "BOOL" h refl, keyword_read "BOOL" h) refl
kind_read kinds.Date before after h f = rw (other "STRING" "DATE" h refl, kind_at, other "INT" "DATE" h refl, other "BOOL" "DATE" h refl, keyword_read "DATE" h) refl

property_read : Complete Anything property_at property
unfolding property_at
property_read p before after (m, h, (n, k, l)) f =
    let apart : next (the_keyword (codes "OPTIONAL")) m ≡ false = next_name (the_keyword (codes "OPTIONAL")) false (λ bytes. refl) k in
    rw (keyword_if_read "OPTIONAL" p.optional before m h apart, name_read k, kind_read p.kind n after l tt) refl

property_begins : (test : Test) (value : Bool) → test Keyword (codes "OPTIONAL") ≡ value → ((bytes : List ℕ) → test Name bytes ≡ value) →
    (p : Property) (before after : List Lexeme) → property p before after → next test before ≡ value
property_begins test value e f p before after h = keyword_if_begins test value "OPTIONAL" e p.optional before h.0 h.1 (next_name test value f h.2.1)

begins : (p : Property) (before after : List Lexeme) → property p before after → begins_property before ≡ true
begins p before after h = first p.optional before h.0 h.2.0 h.1 h.2.1
  where
    first : (there : Bool) (before m n : List Lexeme) → keyword_if there "OPTIONAL" before m → name p.key m n → begins_property before ≡ true
    first false before m n h k = rw (next_name a_name true (λ bytes. refl) (subst (λ ts. name p.key ts n) (sym h) k)) refl
    first true before m n h k = rw (next_keyword a_name "OPTIONAL" h, next_keyword (the_keyword (codes "OPTIONAL")) "OPTIONAL" h) refl

-- what follows properties: a closing brace, or a comma and OPEN
data PropertiesEnd : List Lexeme → Type 0 where
  closes : {before after : List Lexeme} → sign "}" before after → PropertiesEnd before
  opens : {before between after : List Lexeme} → sign "," before between → keyword "OPEN" between after → PropertiesEnd before

no_property : (tokens : List Lexeme) → PropertiesEnd tokens → comma_unless (codes "OPEN") tokens ≡ None
no_property tokens (closes h) = comma_not_next "OPEN" tokens (next_sign (the_sign (codes ",")) "}" h)
no_property tokens (opens h k) = comma_then "OPEN" h (next_keyword (the_keyword (codes "OPEN")) "OPEN" k)

properties_read : Complete PropertiesEnd (listed_at (comma_unless (codes "OPEN")) property_at) (listed (sign ",") property)
properties_read = commas_read {Inner = Anything} "OPEN" property_at property property_sound property_read
    (λ p before after h. property_begins (the_keyword (codes "OPEN")) false refl (λ bytes. refl) p before after h)
    (λ before between h. tt) (λ tokens f. tt) no_property

no_open : (tokens : List Lexeme) → sign_at "," tokens ≡ None → open_after_comma_at tokens ≡ Some (false, tokens)
no_open tokens e = rw (e, open_after_comma_at) refl

an_open : {before between after : List Lexeme} → sign "," before between → keyword "OPEN" between after → open_after_comma_at before ≡ Some (true, after)
an_open h k = rw (sign_read "," h, open_after_comma_at, keyword_read "OPEN" k) refl

between_read : (ps : List Property) (more : Bool) (before after : List Lexeme) → properties ps more before after → (rest : List Lexeme) → sign "}" after rest →
    (middle : List Lexeme) × (properties_at before ≡ Some (ps, middle)) × (open_at ps middle ≡ Some (more, after))
unfolding properties_at open_at
between_read [] false before after h rest k =
    let e : begins_property before ≡ false = rw (ap (next a_name) h ∙ next_sign a_name "}" k, ap (next (the_keyword (codes "OPTIONAL"))) h ∙ next_sign (the_keyword (codes "OPTIONAL")) "}" k) refl in
    (before, rw e refl, keyword_if_read "OPEN" false before after h (next_sign (the_keyword (codes "OPEN")) "}" k))
between_read [] true before after h rest k =
    let e : begins_property before ≡ false = rw (next_keyword a_name "OPEN" h, next_keyword (the_keyword (codes "OPTIONAL")) "OPEN" h) refl in
    (before, rw e refl, keyword_if_read "OPEN" true before after h (next_sign (the_keyword (codes "OPEN")) "}" k))
between_read (p ∷ ps) false before after h rest k =
    let e = begins p before h.0 h.1 in
    (after, rw e (properties_read (p ∷ ps) before after h (closes k)), no_open after (not_passed (the_sign (codes ",")) after (next_sign (the_sign (codes ",")) "}" k)))
between_read (p ∷ ps) true before after (m, h, (n, c, o)) rest k =
    let e = begins p before h.0 h.1 in
    (m, rw e (properties_read (p ∷ ps) before m h (opens c o)), an_open c o)

braces_rest_read : Complete Anything braces_rest_at braces_rest
unfolding braces_rest_at
braces_rest_read b before after (m, h, k) f =
    let between = between_read b.properties b.more before m h after k in
    rw (between.1, between.2, sign_read "}" k) refl

-- ---- types

-- the signs that may close what holds a body
abbrev pub closers : List String
closers = ")" ∷ "]" ∷ []

braces_begin : (test : Test) (value : Bool) → test Sign (codes "{") ≡ value → list_all (tells test value) closers ≡ true →
    (x : Option Braces) (before after : List Lexeme) → maybe braces x before after → Passes (word closers) after → next test before ≡ value
braces_begin test value e all x before after h f =
    maybe_begins test value (λ y a b k. next_sign test "{" k.1 ∙ e) x before after h (next_word test value closers after all f)

open_or_braces_begin : (test : Test) (value : Bool) → test Keyword (codes "OPEN") ≡ value →
    test Sign (codes "{") ≡ value → list_all (tells test value) closers ≡ true →
    (there : Bool) (x : Option Braces) (before after : List Lexeme) → (keyword_if there "OPEN" ▸ maybe braces x) before after →
    Passes (word closers) after → next test before ≡ value
open_or_braces_begin test value d e all there x before after h f =
    keyword_if_begins test value "OPEN" d there before h.0 h.1 (braces_begin test value e all x h.0 after h.2 f)

abbrev NoColon : List Lexeme → Type 0
NoColon = Fails (word (":" ∷ after_labels))

labels_if_read : Complete NoColon (maybe_at (sign_at ":") labels_at) (maybe (λ spec. sign ":" ▸ labels spec))
labels_if_read = maybe_read (sign_at ":") labels_at (λ spec. sign ":" ▸ labels spec)
    (λ x before after h f. (h.0, sign_read ":" h.1, labels_read x h.0 after h.2 (fewer ":" after_labels after f)))
    (λ tokens f. no_sign_next ":" after_labels tokens f)

braces_if_read : Complete (Fails (word ("{" ∷ []))) (maybe_at (sign_at "{") braces_rest_at) (maybe braces)
braces_if_read = maybe_read (sign_at "{") braces_rest_at braces
    (λ x before after h f. (h.0, sign_read "{" h.1, braces_rest_read x h.0 after h.2 tt))
    (λ tokens f. no_sign_next "{" [] tokens f)

body_read : Complete (Passes (word closers)) body_at body
unfolding body_at
body_read x before after (some, is_open, between, e, (m, h, (n, k, l))) f =
    let a = labels_if_read some before m h (open_or_braces_begin (word (":" ∷ after_labels)) false refl refl refl is_open between m after (n, k, l) f) in
    let b = keyword_if_read "OPEN" is_open m n k (braces_begin (the_keyword (codes "OPEN")) false refl refl between n after l f) in
    let c = braces_if_read between n after l (next_word (word ("{" ∷ [])) false closers after refl f) in
    rw (a, b, c) (ap (λ spec. Some (spec, after)) (sym e))

round_closes : {m n : List Lexeme} → sign ")" m n → Passes (word closers) m
round_closes h = next_sign (word closers) ")" h

square_closes : {m n : List Lexeme} → sign "]" m n → Passes (word closers) m
square_closes h = next_sign (word closers) "]" h

pub node_type_read : (type : NodeType (List ℕ)) (before after : List Lexeme) → node_type type before after →
    node_type_at type.hidden type.place before ≡ Some (type, after)
unfolding node_type_at
node_type_read type before after (a, h, (b, i, (c, j, k))) =
    rw (sign_read "(" h, name_read i, body_read type.spec b c j (round_closes k), sign_read ")" k) refl

end_read : Complete Anything end_at end_of
unfolding end_at
end_read x before after (a, h, (b, i, j)) f = rw (sign_read "(" h, body_read x a b i (round_closes j), sign_read ")" j) refl

middle_read : Complete Anything middle_at middle
unfolding middle_at
middle_read x before after (a, h, (b, i, (c, j, k))) f =
    rw (sign_read "[" h, name_read i, body_read x.1 b c j (square_closes k), sign_read "]" k) refl

arrow_type_read : Complete Anything arrow_type_at arrow_type
unfolding arrow_type_at
arrow_type_read (true, n, spec) before after (a, h, (b, i, j)) f = rw (sign_read "-" h, arrow_type_at, middle_read (n, spec) a b i tt, sign_read "->" j) refl
arrow_type_read (false, n, spec) before after (a, h, (b, i, j)) f =
    let none : sign_at "-" before ≡ None = not_passed (the_sign (codes "-")) before (next_sign (the_sign (codes "-")) "<-" h) in
    rw (none, arrow_type_at, sign_read "<-" h, middle_read (n, spec) a b i tt, sign_read "-" j) refl

edge_read : (hidden : Bool) (place : ℕ) (left right : Written) (arrow : Bool × List ℕ × Written) (before m n after : List Lexeme) → end_of left before m →
    arrow_type arrow m n → end_of right n after → edge_type_at hidden place before ≡ Some (edge_between hidden place left arrow right, after)
unfolding edge_type_at
edge_read hidden place left right arrow before m n after h i j =
    rw (end_read left before m h tt, arrow_type_read arrow m n i tt, end_read right n after j tt) refl

pub edge_type_read : (type : EdgeType (List ℕ)) (before after : List Lexeme) → edge_type type before after →
    edge_type_at type.hidden type.place before ≡ Some (type, after)
edge_type_read type before after (inl (m, h, (a, s, (b, (c, o, (d, w, (f, i, g))), (n, t, k))))) =
    edge_read type.hidden type.place type.source type.target (true, type.name, type.middle) before m n after h (a, s, (b, (c, o, (d, w, (f, i, g))), t)) k
edge_type_read type before after (inr (m, h, (a, s, (b, (c, o, (d, w, (f, i, g))), (n, t, k))))) =
    edge_read type.hidden type.place type.target type.source (false, type.name, type.middle) before m n after h (a, s, (b, (c, o, (d, w, (f, i, g))), t)) k

-- no end has a name right after its parenthesis
body_begins : (x : Written) (before after : List Lexeme) → body x before after → Passes (word closers) after → next a_name before ≡ false
body_begins x before after (some, is_open, between, e, (m, h, k)) f =
    maybe_begins a_name false (λ y a b k. next_sign a_name ":" k.1) some before m h
    (open_or_braces_begin a_name false refl refl refl is_open between m after k f)

pub end_no_name : (x : Written) (before after : List Lexeme) → end_of x before after → second a_name before ≡ false
end_no_name x before after (a, h, (b, i, j)) = second_is a_name false h (body_begins x a b i (round_closes j))
