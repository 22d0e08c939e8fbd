-- Statements of the grammar are read.
use Prim.Native.String.{String}
use Rattle.std.proofs.Common.{◌≡◌, ℕ, ◌+◌, ◌==◌, Bool, true, false, List, [], ◌∷◌, ◌++◌, length, flat_map, Option, Some, None, inl, inr, refl, sym, ap, ◌∙◌, subst, codes, bytes_eq, arith}
use Rattle.std.proofs.lemmas.Bool.{and_parts, eqb-true}
use Rattle.pgs_lexer.specs.Token.{Lexeme}
use Rattle.pgs_lexer.specs.declared.kind.TokenKind.TheVariants as tokens
use Rattle.pgs_syntax.specs.declared.element_type.NodeType.{NodeType}
use Rattle.pgs_syntax.specs.declared.element_type.EdgeType.{EdgeType}
use Rattle.pgs_syntax.specs.declared.raw.RawKey.{RawKey}
use Rattle.pgs_syntax.specs.declared.script.GraphType.{GraphType}
use Rattle.pgs_syntax.specs.declared.script.Member.{Member}
use Rattle.pgs_syntax.specs.declared.script.Member.TheVariants as members
use Rattle.pgs_syntax.specs.declared.script.Statement.{Statement}
use Rattle.pgs_syntax.specs.declared.script.Statement.TheVariants.{Node, Edge, Graph}
use Rattle.pgs_parser.specs.Literal.{name}
use Rattle.pgs_parser.specs.Production.{◌▸◌, sign, keyword, keyword_if, listed}
use Rattle.pgs_parser.specs.Types.{node_type, edge_type}
use Rattle.pgs_parser.specs.Keys.{key}
use Rattle.pgs_parser.specs.Statements.{create, element, elements, keys, members_of, mode, imports, statement, place_of_member, places_in, count_from}
use Rattle.pgs_parser.specs.Reader.{Test, a_name, the_keyword, the_sign, next, second, sign_at, keyword_at, name_at, comma_unless, listed_at}
use Rattle.pgs_parser.specs.TypeReaders.{node_type_at, edge_type_at}
use Rattle.pgs_parser.specs.KeyReaders.{key_at}
use Rattle.pgs_parser.specs.StatementReaders.{element_type_at, element_at, elements_at, place_of_key, keys_at, no_element, elements_if_at, further_keys_at, keys_if_at, mode_at, imports_at, members_at, graph_type_at, hidden_at, declared_node_at, declared_edge_at, declared_at, statement_at}
use Rattle.pgs_parser.proofs.NextToken.{Fails, keyword_if_begins, word, next_sign, next_keyword, next_name}
use Rattle.pgs_parser.proofs.Chains.{name_sound, after_begin, comma_begin}
use Rattle.pgs_parser.proofs.SoundStatements.{TypeWord, element_sound, key_declared, keys_places}
use Rattle.pgs_parser.proofs.Whole.{Complete, Anything, count_parts, sign_read, keyword_read, name_read, keyword_if_read, not_passed, signs_read, numbered_listed_read, no_sign_next, other, comma_read, second_is}
use Rattle.pgs_parser.proofs.WholeTypes.{node_type_read, edge_type_read, end_no_name}
use Rattle.pgs_parser.proofs.WholeKeys.{KeyEnd, last, key_next, no_further, key_read}

-- ---- members

-- the number of one declaration
one_place : (place n : ℕ) → count_from place (n ∷ []) ≡ true → n ≡ place
one_place place n e = eqb-true n place (and_parts (n == place) true e).0

edge_first : (type : EdgeType (List ℕ)) (before after : List Lexeme) → edge_type type before after → (between : List Lexeme) × sign "(" before between
edge_first type before after (inl h) = (h.1.0, h.1.1)
edge_first type before after (inr h) = (h.1.0, h.1.1)

edge_second : (type : EdgeType (List ℕ)) (before after : List Lexeme) → edge_type type before after → second a_name before ≡ false
edge_second type before after (inl h) = end_no_name type.source before h.0 h.1
edge_second type before after (inr h) = end_no_name type.target before h.0 h.1

element_read : (x : Member) (place : ℕ) (before after : List Lexeme) → element x before after → Anything after → count_from place (place_of_member x) ≡ true →
    element_at place before ≡ Some (x, after)
unfolding element_at element_type_at
element_read (members.Named named) place before after h f e = rw (next_name a_name true (λ bytes. refl) h, name_read h) refl
element_read (members.Node type) place before after (m, h, k) f e =
    let no_name = keyword_if_begins a_name false "ABSTRACT" refl type.hidden before m h (next_sign a_name "(" k.1) in
    let hidden = keyword_if_read "ABSTRACT" type.hidden before m h (next_sign (the_keyword (codes "ABSTRACT")) "(" k.1) in
    let named = second_is a_name true k.1 (next_name a_name true (λ bytes. refl) k.2.1) in
    let read = ap (λ n. node_type_at type.hidden n m) (sym (one_place place type.place e)) ∙ node_type_read type m after k in
    rw (no_name, hidden, named, read) refl
element_read (members.Edge type) place before after (m, h, k) f e =
    let open_ = edge_first type m after k in
    let no_name = keyword_if_begins a_name false "ABSTRACT" refl type.hidden before m h (next_sign a_name "(" open_.1) in
    let hidden = keyword_if_read "ABSTRACT" type.hidden before m h (next_sign (the_keyword (codes "ABSTRACT")) "(" open_.1) in
    let read = ap (λ n. edge_type_at type.hidden n m) (sym (one_place place type.place e)) ∙ edge_type_read type m after k in
    rw (no_name, hidden, edge_second type m after k, read) refl

-- what a test tells of a name, of ABSTRACT and of (, it tells of what begins an element
element_begins : (test : Test) (value : Bool) → ((bytes : List ℕ) → test tokens.Name bytes ≡ value) → test tokens.Keyword (codes "ABSTRACT") ≡ value →
    test tokens.Sign (codes "(") ≡ value → (x : Member) (before after : List Lexeme) → element x before after → next test before ≡ value
element_begins test value d e f (members.Named named) before after h = next_name test value d h
element_begins test value d e f (members.Node type) before after h =
    keyword_if_begins test value "ABSTRACT" e type.hidden before h.0 h.1 (next_sign test "(" h.2.1 ∙ f)
element_begins test value d e f (members.Edge type) before after h =
    keyword_if_begins test value "ABSTRACT" e type.hidden before h.0 h.1 (next_sign test "(" (edge_first type h.0 after h.2).1 ∙ f)

no_for : (x : Member) (before after : List Lexeme) → element x before after → next (the_keyword (codes "FOR")) before ≡ false
no_for x before after h = element_begins (the_keyword (codes "FOR")) false (λ bytes. refl) refl refl x before after h

elements_read : (xs : List Member) (place : ℕ) (before after : List Lexeme) → elements xs before after → KeyEnd after → count_from place (flat_map place_of_member xs) ≡ true →
    elements_at place before ≡ Some (xs, after)
elements_read = numbered_listed_read {Inner = Anything} {Ends = KeyEnd} (comma_unless (codes "FOR")) (sign ",") (comma_begin (codes "FOR")) element_at place_of_member element
    (λ place tokens x e. (element_sound place tokens x e).0.1) element_read
    (λ x before between after h k. (comma_read "FOR" h (no_for x between after k), tt)) (λ tokens f. tt) no_further

-- } comes next
abbrev Closed : List Lexeme → Type 0
Closed tokens = (after : List Lexeme) × sign "}" tokens after

one_key_read : (x : RawKey) (place : ℕ) (before after : List Lexeme) → key x before after → KeyEnd after → count_from place (place_of_key x) ≡ true →
    key_at place before ≡ Some (x, after)
one_key_read x place before after h f e = ap (λ n. key_at n before) (sym (one_place place x.place e)) ∙ key_read x before after h f

keys_read : (xs : List RawKey) (place : ℕ) (before after : List Lexeme) → keys xs before after → Closed after → count_from place (flat_map place_of_key xs) ≡ true →
    keys_at place before ≡ Some (xs, after)
keys_read = numbered_listed_read {Inner = KeyEnd} {Ends = Closed} (sign_at ",") (sign ",") (after_begin (the_sign (codes ","))) key_at place_of_key key
    (λ place tokens x e. (key_declared place tokens x e).0.1) one_key_read
    (λ x before between after h k. (sign_read "," h, key_next (between, h, k.1))) (λ tokens f. last f.1)
    (λ tokens f. not_passed (the_sign (codes ",")) tokens (next_sign (the_sign (codes ",")) "}" f.1))

keys_begin : (test : Test) (xs : List RawKey) (before after : List Lexeme) → keys xs before after → next test before ≡ test tokens.Keyword (codes "FOR")
keys_begin test [] before after h = absurd h
keys_begin test (x ∷ xs) before after h = next_keyword test "FOR" h.1.1

-- no element begins here
nothing_else : (x : Member) (xs : List Member) (before after : List Lexeme) → elements (x ∷ xs) before after → no_element before ≡ false
nothing_else x xs before after h =
    rw (no_for x before h.0 h.1, element_begins (the_sign (codes "}")) false (λ bytes. refl) refl refl x before h.0 h.1) refl

shifted : (place : ℕ) (ns : List ℕ) → count_from place ns ≡ true → count_from (place + 0) ns ≡ true
shifted place ns e = subst (λ n. count_from n ns ≡ true) (omega arith) e

no_further_keys : (place : ℕ) (tokens : List Lexeme) → sign_at "," tokens ≡ None → further_keys_at place tokens ≡ Some ([], tokens)
no_further_keys place tokens e = rw (e, further_keys_at) refl

further_keys : (place : ℕ) {before between : List Lexeme} {read : Option (List RawKey × List Lexeme)} → sign "," before between → keys_at place between ≡ read →
    further_keys_at place before ≡ read
further_keys place h e = rw (sign_read "," h, further_keys_at) e

-- the elements, and the keys after them
members_parts : (ms : List Member) (ks : List RawKey) (place : ℕ) (before after : List Lexeme) → members_of ms ks before after → Closed after →
    count_from place (flat_map place_of_member ms ++ flat_map place_of_key ks) ≡ true →
    (middle : List Lexeme) × (elements_if_at place before ≡ Some (ms, middle))
    × (keys_if_at ms (place + length (flat_map place_of_member ms)) middle ≡ Some (ks, after))
unfolding elements_if_at keys_if_at
members_parts [] [] place before after h f e =
    let for : next (the_keyword (codes "FOR")) before ≡ false = ap (next (the_keyword (codes "FOR"))) h ∙ next_sign (the_keyword (codes "FOR")) "}" f.1 in
    let closes : next (the_sign (codes "}")) before ≡ true = ap (next (the_sign (codes "}"))) h ∙ next_sign (the_sign (codes "}")) "}" f.1 in
    (before, rw (for, closes) refl, rw for (ap (λ (tokens : List Lexeme). Some ([], tokens)) h))
members_parts [] (k ∷ ks) place before after h f e =
    let for = keys_begin (the_keyword (codes "FOR")) (k ∷ ks) before after h in
    (before, rw for refl, rw for (keys_read (k ∷ ks) (place + 0) before after h f (shifted place (flat_map place_of_key (k ∷ ks)) e)))
members_parts (m ∷ ms) [] place before after h f e =
    let c = count_parts place (flat_map place_of_member (m ∷ ms)) [] e in
    let none : sign_at "," after ≡ None = not_passed (the_sign (codes ",")) after (next_sign (the_sign (codes ",")) "}" f.1) in
    (after, rw (nothing_else m ms before after h) (elements_read (m ∷ ms) place before after h (last f.1) c.0), no_further_keys (place + length (flat_map place_of_member (m ∷ ms))) after none)
members_parts (m ∷ ms) (k ∷ ks) place before after (a, h, (b, i, j)) f e =
    let c = count_parts place (flat_map place_of_member (m ∷ ms)) (flat_map place_of_key (k ∷ ks)) e in (
      a,
      rw (nothing_else m ms before a h) (elements_read (m ∷ ms) place before a h (key_next (b, i, j.1.1)) c.0),
      further_keys (place + length (flat_map place_of_member (m ∷ ms))) i (keys_read (k ∷ ks) (place + length (flat_map place_of_member (m ∷ ms))) b after j f c.1),
    )

members_read : (ms : List Member) (ks : List RawKey) (place : ℕ) (before after : List Lexeme) → members_of ms ks before after → Closed after →
    count_from place (flat_map place_of_member ms ++ flat_map place_of_key ks) ≡ true → members_at place before ≡ Some ((ms, ks), after)
unfolding members_at
members_read ms ks place before after h f e = let p = members_parts ms ks place before after h f e in rw (p.1, p.2) refl

-- ---- statements

mode_read : Complete Anything mode_at mode
unfolding mode_at
mode_read true before after h f = rw (keyword_read "STRICT" h, mode_at) refl
mode_read false before after h f = rw (other "STRICT" "LOOSE" h refl, mode_at, keyword_read "LOOSE" h) refl

imported_read : Complete (Fails (word ("," ∷ []))) (listed_at (sign_at ",") name_at) (listed (sign ",") name)
imported_read = signs_read {Inner = Anything} "," name_at name name_sound (λ x before after h f. name_read h) (λ before between h. tt) (λ tokens f. tt)
    (λ tokens f. no_sign_next "," [] tokens f)

imports_read : (ns : List (List ℕ)) (before after rest : List Lexeme) → imports ns before after → sign "{" after rest → imports_at before ≡ Some (ns, after)
unfolding imports_at
imports_read [] before after rest h k =
    let none : keyword_at "IMPORTS" before ≡ None =
    ap (keyword_at "IMPORTS") h ∙ not_passed (the_keyword (codes "IMPORTS")) after (next_sign (the_keyword (codes "IMPORTS")) "{" k) in
    rw (none, imports_at) (ap (λ (tokens : List Lexeme). Some ([], tokens)) h)
imports_read (n ∷ ns) before after rest (m, h, i) k =
    rw (keyword_read "IMPORTS" h, imports_at) (imported_read (n ∷ ns) m after i (next_sign (word ("," ∷ [])) "{" k))

graph_read : (type : GraphType) (before after : List Lexeme) →
    (keyword "TYPE" ▸ name type.name ▸ mode type.strict ▸ imports type.imports ▸ sign "{" ▸ members_of type.members type.keys ▸ sign "}") before after →
    count_from type.place (places_in (Graph type)) ≡ true → graph_type_at type.place before ≡ Some (Graph type, after)
unfolding graph_type_at
graph_read type before after (a, h, (b, i, (c, j, (d, k, (f, l, (g, m, n)))))) e =
    let places = (and_parts (type.place == type.place) _ e).1 in
    let numbers : count_from (type.place + 1) (flat_map place_of_member type.members ++ flat_map place_of_key type.keys) ≡ true =
    ap (λ ns. count_from (type.place + 1) (flat_map place_of_member type.members ++ ns)) (sym (keys_places type.keys)) ∙ places in
    rw (
      keyword_read "TYPE" h,
      name_read i,
      mode_read type.strict b c j tt,
      imports_read type.imports c d f k l,
      sign_read "{" l,
      members_read type.members type.keys (type.place + 1) f g m (after, n) numbers,
      sign_read "}" n,
    ) refl

-- TYPE and maybe ABSTRACT
hidden_read : (earlier hidden : Bool) (before after : List Lexeme) → TypeWord earlier hidden before after → next (the_keyword (codes "ABSTRACT")) after ≡ false →
    hidden_at earlier before ≡ Some (hidden, after)
unfolding hidden_at
hidden_read true hidden before after (e, h) f = rw (keyword_read "TYPE" h) (ap (λ hidden. Some (hidden, after)) (sym e))
hidden_read false hidden before after (m, h, k) f = rw (keyword_read "TYPE" h) (keyword_if_read "ABSTRACT" hidden m after k f)

-- the words before a node type or an edge type, one by one
record Head (what : String) (hidden : Bool) (before after : List Lexeme) : Type 0 where
  earlier : Bool
  a : List Lexeme
  b : List Lexeme
  c : List Lexeme
  create : keyword "CREATE" before a
  abstract : keyword_if earlier "ABSTRACT" a b
  word : keyword what b c
  type : TypeWord earlier hidden c after

head : (what : String) (hidden : Bool) (before after : List Lexeme) → create hidden what before after → Head what hidden before after
head what false before after (a, h, (c, i, j)) =
    record { earlier = false; a = a; b = a; c = c; create = h; abstract = refl; word = i; type = (after, j, refl) }
head what true before after (inl (a, h, (b, i, (c, j, k)))) =
    record { earlier = true; a = a; b = b; c = c; create = h; abstract = i; word = j; type = (refl, k) }
head what true before after (inr (a, h, (c, i, (d, j, k)))) =
    record { earlier = false; a = a; b = a; c = c; create = h; abstract = refl; word = i; type = (d, j, k) }

-- NODE and EDGE are not ABSTRACT
no_abstract : (what : String) → bytes_eq (codes what) (codes "ABSTRACT") ≡ false → {before after : List Lexeme} → keyword what before after →
    next (the_keyword (codes "ABSTRACT")) before ≡ false
no_abstract what e h = next_keyword (the_keyword (codes "ABSTRACT")) what h ∙ e

-- what is declared, between CREATE and the last sign
declared_read : (earlier : Bool) (tree : Statement) (place : ℕ) (before a b c after : List Lexeme) → keyword "CREATE" before a → keyword_if earlier "ABSTRACT" a b →
    next (the_keyword (codes "ABSTRACT")) b ≡ false → declared_at earlier place b ≡ Some (tree, c) → sign ";" c after → statement_at place before ≡ Some (tree, after)
unfolding statement_at
declared_read earlier tree place before a b c after h i f e k =
    rw (keyword_read "CREATE" h, keyword_if_read "ABSTRACT" earlier a b i f, e, sign_read ";" k) refl

node_declared : (type : NodeType (List ℕ)) (earlier : Bool) (before c d after : List Lexeme) → keyword "NODE" before c → TypeWord earlier type.hidden c d →
    node_type type d after → declared_at earlier type.place before ≡ Some (Node type, after)
unfolding declared_at declared_node_at
node_declared type earlier before c d after h i k =
    rw (keyword_read "NODE" h, declared_at, hidden_read earlier type.hidden c d i (next_sign (the_keyword (codes "ABSTRACT")) "(" k.1), node_type_read type d after k) refl

edge_declared : (type : EdgeType (List ℕ)) (earlier : Bool) (before c d after : List Lexeme) → keyword "EDGE" before c → TypeWord earlier type.hidden c d →
    edge_type type d after → declared_at earlier type.place before ≡ Some (Edge type, after)
unfolding declared_at declared_edge_at
edge_declared type earlier before c d after h i k =
    let open_ = edge_first type d after k in
    rw (
      other "NODE" "EDGE" h refl,
      declared_at,
      keyword_read "EDGE" h,
      hidden_read earlier type.hidden c d i (next_sign (the_keyword (codes "ABSTRACT")) "(" open_.1),
      edge_type_read type d after k,
    ) refl

graph_declared : (type : GraphType) (before c after : List Lexeme) → keyword "GRAPH" before c → graph_type_at type.place c ≡ Some (Graph type, after) →
    declared_at false type.place before ≡ Some (Graph type, after)
unfolding declared_at
graph_declared type before c after h e = rw (other "NODE" "GRAPH" h refl, declared_at, other "EDGE" "GRAPH" h refl, keyword_read "GRAPH" h) e

pub statement_read : (tree : Statement) (place : ℕ) (before after : List Lexeme) → statement tree before after → count_from place (places_in tree) ≡ true →
    statement_at place before ≡ Some (tree, after)
statement_read (Node type) place before after (d, h, (f, k, l)) e =
    let w = head "NODE" type.hidden before d h in
    ap (λ n. statement_at n before) (sym (one_place place type.place e))
    ∙ declared_read w.earlier (Node type) type.place before w.a w.b f after w.create w.abstract (no_abstract "NODE" refl w.word)
    (node_declared type w.earlier w.b w.c d f w.word w.type k) l
statement_read (Edge type) place before after (d, h, (f, k, l)) e =
    let w = head "EDGE" type.hidden before d h in
    ap (λ n. statement_at n before) (sym (one_place place type.place e))
    ∙ declared_read w.earlier (Edge type) type.place before w.a w.b f after w.create w.abstract (no_abstract "EDGE" refl w.word)
    (edge_declared type w.earlier w.b w.c d f w.word w.type k) l
statement_read (Graph type) place before after (a, h, (b, i, (c, j, (d, k, (f, l, (g, m, (n, o, (p, q, (r, s, t))))))))) e =
    let same : type.place ≡ place = eqb-true type.place place (and_parts (type.place == place) _ e).0 in
    let numbers : count_from type.place (places_in (Graph type)) ≡ true = ap (λ n. count_from n (places_in (Graph type))) same ∙ e in
    ap (λ n. statement_at n before) (sym same)
    ∙ declared_read false (Graph type) type.place before a a r after h refl (no_abstract "GRAPH" refl i)
    (graph_declared type a b r i (graph_read type b r (c, j, (d, k, (f, l, (g, m, (n, o, (p, q, s)))))) numbers)) t
