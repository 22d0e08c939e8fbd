-- What is read as a statement is one by the grammar, and its declarations have the numbers from a place on.
use Prim.Native.String.{String}
use Rattle.std.proofs.Common.{◌≡◌, ℕ, ◌+◌, ◌==◌, ◌<◌, ◌≤◌, Bool, true, false, cond, List, [], ◌∷◌, ◌++◌, length, map, flat_map, Some, None, inl, inr, refl, sym, ap, subst, arith, codes, length-append}
use Rattle.std.proofs.lemmas.Bool.{and_from, eq-eqb}
use Rattle.pgs_lexer.specs.Token.{Lexeme}
use Rattle.pgs_syntax.specs.declared.raw.RawKey.{RawKey}
use Rattle.pgs_syntax.specs.declared.element_type.NodeType.{NodeType}
use Rattle.pgs_syntax.specs.declared.element_type.EdgeType.{EdgeType}
use Rattle.pgs_syntax.specs.declared.script.Member.{Member}
use Rattle.pgs_syntax.specs.declared.script.Member.TheVariants as members
use Rattle.pgs_syntax.specs.declared.script.Statement.{Statement}
use Rattle.pgs_syntax.specs.declared.script.Statement.TheVariants.{Node, Edge}
use Rattle.pgs_parser.specs.Literal.{name}
use Rattle.pgs_parser.specs.Production.{Production, ◌▸◌, sign, keyword, keyword_if, listed}
use Rattle.pgs_parser.specs.Types.{node_type, edge_type}
use Rattle.pgs_parser.specs.Keys.{key}
use Rattle.pgs_parser.specs.Statements.{create, element, elements, keys, members_of, mode, imports, statement, place_of_member, places_in, count_from}
use Rattle.pgs_parser.specs.Reader.{a_name, the_keyword, next, second, sign_at, keyword_at, name_at, keyword_if_at, comma_unless}
use Rattle.pgs_parser.specs.TypeReaders.{node_type_at, edge_type_at}
use Rattle.pgs_parser.specs.KeyReaders.{key_at}
use Rattle.pgs_parser.specs.StatementReaders.{element_type_at, element_at, elements_at, place_of_key, keys_at, no_element, elements_if_at, keys_if_at, mode_at, imports_at, members_at, graph_type_at, hidden_at, declared_node_at, declared_edge_at, declared_at, statement_at}
use Rattle.pgs_parser.proofs.Chains.{bind_some, either_way, chosen_way, holds, Took, TookAny, Sound, SoundAny, sign_sound, keyword_sound, name_sound, keyword_if_sound, listed_sound, sign_before, comma_before, numbered_listed, count_append}
use Rattle.pgs_parser.proofs.SoundTypes.{node_type_sound, edge_type_sound}
use Rattle.pgs_parser.proofs.SoundKeys.{key_sound, key_number}

-- one declaration
pub one_number : (n m : ℕ) → m ≡ n → count_from n (m ∷ []) ≡ true
one_number n m e = and_from (m == n) true (eq-eqb m n e) refl

-- ---- members

-- an item was read whose declarations are numbered from a place on
abbrev pub Declared : {A : Type 0} → (A → Production) → (A → List ℕ) → ℕ → List Lexeme → A × List Lexeme → Type 0
Declared item places place tokens x = Took item tokens x × (count_from place (places x.0) ≡ true)

-- and there were as many tokens as it declares
abbrev pub Enough : {A : Type 0} → (A → List ℕ) → List Lexeme → A × List Lexeme → Type 0
Enough places tokens x = length (places x.0) + length x.1 ≤ length tokens

few_members : (m : Member) → length (place_of_member m) ≤ 1
few_members (members.Named named) = omega arith
few_members (members.Node type) = omega arith
few_members (members.Edge type) = omega arith

few_keys : (k : RawKey) → length (place_of_key k) ≤ 1
few_keys k = omega arith

pub element_type_sound : (hidden : Bool) (place : ℕ) (before tokens : List Lexeme) (x : Member × List Lexeme) → keyword_if hidden "ABSTRACT" before tokens →
    length tokens ≤ length before → element_type_at hidden place tokens ≡ Some x → Declared element place_of_member place before x
unfolding element_type_at
element_type_sound hidden place before tokens x h l e =
    let P = Declared element place_of_member place before in
    elim (chosen_way (second a_name tokens) _ _ (Some x) e) [
      | inl w ↦
          let type = bind_some (node_type_at hidden place tokens) _ x w.1 in
          let k = node_type_sound hidden place tokens type.0 type.1 in
          holds P type.2 (((tokens, subst (λ there. keyword_if there "ABSTRACT" before tokens) (sym k.1) h, k.0.0), let m = k.0.1 in omega arith), one_number place type.0.0.place k.2)
      | inr w ↦
          let type = bind_some (edge_type_at hidden place tokens) _ x w.1 in
          let k = edge_type_sound hidden place tokens type.0 type.1 in
          holds P type.2 (((tokens, subst (λ there. keyword_if there "ABSTRACT" before tokens) (sym k.1) h, k.0.0), let m = k.0.1 in omega arith), one_number place type.0.0.place k.2)
    ]

pub element_sound : (place : ℕ) (tokens : List Lexeme) (x : Member × List Lexeme) → element_at place tokens ≡ Some x →
    Declared element place_of_member place tokens x
unfolding element_at
element_sound place tokens x e =
    elim (chosen_way (next a_name tokens) _ _ (Some x) e) [
      | inl w ↦
          let found = bind_some (name_at tokens) _ x w.1 in
          let k = name_sound tokens found.0 found.1 in
          holds (Declared element place_of_member place tokens) found.2 (k, refl)
      | inr w ↦
          let hidden = bind_some (keyword_if_at (codes "ABSTRACT") tokens) _ x w.1 in
          let k = keyword_if_sound "ABSTRACT" tokens hidden.0 hidden.1 in
          element_type_sound hidden.0.0 place tokens hidden.0.1 x k.0 k.1 hidden.2
    ]

pub key_declared : (place : ℕ) (tokens : List Lexeme) (x : RawKey × List Lexeme) → key_at place tokens ≡ Some x →
    Declared key place_of_key place tokens x
key_declared place tokens x e = (key_sound place tokens x e, one_number place x.0.place (key_number place tokens x e))

elements_sound : (place : ℕ) (tokens : List Lexeme) (x : List Member × List Lexeme) → elements_at place tokens ≡ Some x →
    Declared elements (flat_map place_of_member) place tokens x × Enough (flat_map place_of_member) tokens x
elements_sound place tokens x e =
    let k = numbered_listed (comma_unless (codes "FOR")) (sign ",") (comma_before (codes "FOR")) element_at place_of_member element element_sound place tokens x e in
    ((k.0, k.1), k.2 few_members)

keys_sound : (place : ℕ) (tokens : List Lexeme) (x : List RawKey × List Lexeme) → keys_at place tokens ≡ Some x →
    Declared keys (flat_map place_of_key) place tokens x × Enough (flat_map place_of_key) tokens x
keys_sound place tokens x e =
    let k = numbered_listed (sign_at ",") (sign ",") (sign_before ",") key_at place_of_key key key_declared place tokens x e in
    ((k.0, k.1), k.2 few_keys)

-- elements, which may be left out
abbrev some_elements : List Member → Production
some_elements [] before after = before ≡ after
some_elements (m ∷ ms) before after = elements (m ∷ ms) before after

as_some : (ms : List Member) (before after : List Lexeme) → elements ms before after → some_elements ms before after
as_some [] before after h = absurd h
as_some (m ∷ ms) before after h = h

abbrev DeclaredAny : {A : Type 0} → (A → Production) → (A → List ℕ) → ℕ → List Lexeme → A × List Lexeme → Type 0
DeclaredAny item places place tokens x = TookAny item tokens x × (count_from place (places x.0) ≡ true) × Enough places tokens x

pub elements_if_sound : (place : ℕ) (tokens : List Lexeme) (x : List Member × List Lexeme) → elements_if_at place tokens ≡ Some x →
    DeclaredAny some_elements (flat_map place_of_member) place tokens x
unfolding elements_if_at
elements_if_sound place tokens x e =
    elim (chosen_way (no_element tokens) _ _ (Some x) e) [
      | inl w ↦ holds (DeclaredAny some_elements (flat_map place_of_member) place tokens) w.1 ((refl, omega arith), refl, omega arith)
      | inr w ↦ let k = elements_sound place tokens x w.1 in ((as_some x.0 tokens x.1 k.0.0.0, let l = k.0.0.1 in omega arith), k.0.1, k.1)
    ]

keys_alone : (ks : List RawKey) (before after : List Lexeme) → keys ks before after → members_of [] ks before after
keys_alone [] before after h = absurd h
keys_alone (k ∷ ks) before after h = h

keys_after : (m : Member) (ms : List Member) (ks : List RawKey) (start before between after : List Lexeme) → elements (m ∷ ms) start before →
    sign "," before between → keys ks between after → members_of (m ∷ ms) ks start after
keys_after m ms [] start before between after h c k = absurd k
keys_after m ms (x ∷ ks) start before between after h c k = (before, h, (between, c, k))

keys_if_sound : (ms : List Member) (place : ℕ) (start tokens : List Lexeme) (x : List RawKey × List Lexeme) → some_elements ms start tokens →
    keys_if_at ms place tokens ≡ Some x →
    members_of ms x.0 start x.1 × (length x.1 ≤ length tokens) × (count_from place (flat_map place_of_key x.0) ≡ true) × Enough (flat_map place_of_key) tokens x
unfolding keys_if_at
keys_if_sound [] place start tokens x h e =
    let P : List RawKey × List Lexeme → Type 0 = λ x. members_of [] x.0 start x.1 × (length x.1 ≤ length tokens) × (count_from place (flat_map place_of_key x.0) ≡ true) × Enough (flat_map place_of_key) tokens x in
    elim (chosen_way (next (the_keyword (codes "FOR")) tokens) _ _ (Some x) e) [
      | inl w ↦
          let k = keys_sound place tokens x w.1 in
          let l = k.0.0.1 in
          (keys_alone x.0 start x.1 (subst (λ ts. keys x.0 ts x.1) (sym h) k.0.0.0), omega arith, k.0.1, k.1)
      | inr w ↦ holds P w.1 (h, omega arith, refl, omega arith)
    ]
keys_if_sound (m ∷ ms) place start tokens x h e =
    let P : List RawKey × List Lexeme → Type 0 = λ x. members_of (m ∷ ms) x.0 start x.1 × (length x.1 ≤ length tokens) × (count_from place (flat_map place_of_key x.0) ≡ true) × Enough (flat_map place_of_key) tokens x in
    elim (either_way (sign_at "," tokens) _ _ x e) [
      | inl w ↦
          let c = sign_sound "," tokens w.0 w.1 in
          let k = keys_sound place w.0 x w.2 in
          let l = k.0.0.1 in
          let n = k.1 in
          let r = c.1 in
          (keys_after m ms x.0 start tokens w.0 x.1 h c.0 k.0.0.0, omega arith, k.0.1, omega arith)
      | inr w ↦ holds P w.1 (h, omega arith, refl, omega arith)
    ]

-- the numbers of the declarations of members
abbrev member_places : List Member × List RawKey → List ℕ
member_places x = flat_map place_of_member x.0 ++ flat_map place_of_key x.1

members_sound : (place : ℕ) (tokens : List Lexeme) (x : (List Member × List RawKey) × List Lexeme) → members_at place tokens ≡ Some x →
    DeclaredAny (λ (x : List Member × List RawKey). members_of x.0 x.1) member_places place tokens x
unfolding members_at
members_sound place tokens x e =
    let elements = bind_some (elements_if_at place tokens) _ x e in
    let after = place + length (flat_map place_of_member elements.0.0) in
    let keys = bind_some (keys_if_at elements.0.0 after elements.0.1) _ x elements.2 in
    let a = elements_if_sound place tokens elements.0 elements.1 in
    let b = keys_if_sound elements.0.0 after tokens elements.0.1 keys.0 a.0.0 keys.1 in
    let l = a.0.1 in
    holds (DeclaredAny (λ (x : List Member × List RawKey). members_of x.0 x.1) member_places place tokens) keys.2 (
      (b.0, let m = b.1 in omega arith),
      count_append place (flat_map place_of_member elements.0.0) (flat_map place_of_key keys.0.0) a.1 b.2,
      let m = a.2 in let n = b.3 in omega (arith, length-append (flat_map place_of_member elements.0.0) (flat_map place_of_key keys.0.0)),
    )

-- ---- statements

pub mode_sound : Sound mode_at mode
unfolding mode_at
mode_sound tokens x e =
    let P = Took mode tokens in
    elim (either_way (keyword_at "STRICT" tokens) _ _ x e) [
      | inl w ↦ holds P w.2 (keyword_sound "STRICT" tokens w.0 w.1)
      | inr v ↦ let w = bind_some (keyword_at "LOOSE" tokens) _ x v.1 in holds P w.2 (keyword_sound "LOOSE" tokens w.0 w.1)
    ]

some_imports : (ns : List (List ℕ)) (before m after : List Lexeme) → keyword "IMPORTS" before m → listed (sign ",") name ns m after → imports ns before after
some_imports [] before m after h k = absurd k
some_imports (n ∷ ns) before m after h k = (m, h, k)

pub imports_sound : SoundAny imports_at imports
unfolding imports_at
imports_sound tokens x e =
    elim (either_way (keyword_at "IMPORTS" tokens) _ _ x e) [
      | inl w ↦
          let a = keyword_sound "IMPORTS" tokens w.0 w.1 in
          let b = listed_sound "," name_at name name_sound w.0 x w.2 in
          (some_imports x.0 tokens w.0 x.1 a.0 b.0, omega arith)
      | inr w ↦ holds (TookAny imports tokens) w.1 (refl, omega arith)
    ]

pub keys_places : (ks : List RawKey) → map (λ (k : RawKey). k.place) ks ≡ flat_map place_of_key ks
keys_places [] = refl
keys_places (k ∷ ks) = ap (λ ns. k.place ∷ ns) (keys_places ks)

places_of_graph : (n : ℕ) (ms : List Member) (ks : List RawKey) →
    n ∷ flat_map place_of_member ms ++ map (λ (k : RawKey). k.place) ks ≡ n ∷ flat_map place_of_member ms ++ flat_map place_of_key ks
places_of_graph n ms ks = ap (λ ns. n ∷ flat_map place_of_member ms ++ ns) (keys_places ks)

-- TYPE, and ABSTRACT where it has not stood before
abbrev pub TypeWord : Bool → Bool → List Lexeme → List Lexeme → Type 0
TypeWord true hidden before after = (hidden ≡ true) × keyword "TYPE" before after
TypeWord false hidden before after = (keyword "TYPE" ▸ keyword_if hidden "ABSTRACT") before after

hidden_sound : (earlier : Bool) (tokens : List Lexeme) (x : Bool × List Lexeme) → hidden_at earlier tokens ≡ Some x →
    TypeWord earlier x.0 tokens x.1 × (length x.1 < length tokens)
unfolding hidden_at
hidden_sound true tokens x e =
    let type = bind_some (keyword_at "TYPE" tokens) _ x e in
    let k = keyword_sound "TYPE" tokens type.0 type.1 in
    holds (λ (x : Bool × List Lexeme). TypeWord true x.0 tokens x.1 × (length x.1 < length tokens)) type.2 ((refl, k.0), k.1)
hidden_sound false tokens x e =
    let type = bind_some (keyword_at "TYPE" tokens) _ x e in
    let k = keyword_sound "TYPE" tokens type.0 type.1 in
    let l = keyword_if_sound "ABSTRACT" type.0 x type.2 in
    ((type.0, k.0, l.0), omega arith)

-- the words before a node type or an edge type
created : (what : String) (earlier hidden : Bool) (before a b c d : List Lexeme) → keyword "CREATE" before a → keyword_if earlier "ABSTRACT" a b →
    keyword what b c → TypeWord earlier hidden c d → create hidden what before d
created what true hidden before a b c d h i j (e, k) = subst (λ hidden. create hidden what before d) (sym e) (inl (a, h, (b, i, (c, j, k))))
created what false true before a b c d h i j (m, k, l) = inr (a, h, (c, subst (λ ts. keyword what ts c) (sym i) j, (m, k, l)))
created what false false before a b c d h i j (m, k, l) = (a, h, (c, subst (λ ts. keyword what ts c) (sym i) j, subst (keyword "TYPE" c) l k))

-- what a statement reads after CREATE and maybe ABSTRACT, up to its last sign
abbrev Rest : Bool → Statement → List Lexeme → List Lexeme → Type 0
Rest earlier tree tokens left = (before a after : List Lexeme) → keyword "CREATE" before a → keyword_if earlier "ABSTRACT" a tokens → sign ";" left after →
    statement tree before after

node_rest : (earlier hidden : Bool) (type : NodeType (List ℕ)) (tokens c d e : List Lexeme) → keyword "NODE" tokens c → TypeWord earlier hidden c d → type.hidden ≡ hidden →
    node_type type d e → Rest earlier (Node type) tokens e
node_rest earlier hidden type tokens c d e h i same k before a after p q r =
    (d, subst (λ hidden. create hidden "NODE" before d) (sym same) (created "NODE" earlier hidden before a tokens c d p q h i), (e, k, r))

edge_rest : (earlier hidden : Bool) (type : EdgeType (List ℕ)) (tokens c d e : List Lexeme) → keyword "EDGE" tokens c → TypeWord earlier hidden c d → type.hidden ≡ hidden →
    edge_type type d e → Rest earlier (Edge type) tokens e
edge_rest earlier hidden type tokens c d e h i same k before a after p q r =
    (d, subst (λ hidden. create hidden "EDGE" before d) (sym same) (created "EDGE" earlier hidden before a tokens c d p q h i), (e, k, r))

-- a declaration was read after CREATE and maybe ABSTRACT
abbrev Rested : Bool → ℕ → List Lexeme → Statement × List Lexeme → Type 0
Rested earlier place tokens x = Rest earlier x.0 tokens x.1 × (length x.1 < length tokens) × (count_from place (places_in x.0) ≡ true) × Enough places_in tokens x

graph_type_sound : (place : ℕ) (before tokens : List Lexeme) (x : Statement × List Lexeme) → keyword "GRAPH" before tokens → length tokens < length before →
    graph_type_at place tokens ≡ Some x → Rested false place before x
unfolding graph_type_at
graph_type_sound place before tokens x h l e =
    let type = bind_some (keyword_at "TYPE" tokens) _ x e in
    let named = bind_some (name_at type.0) _ x type.2 in
    let strict = bind_some (mode_at named.0.1) _ x named.2 in
    let imported = bind_some (imports_at strict.0.1) _ x strict.2 in
    let open_ = bind_some (sign_at "{" imported.0.1) _ x imported.2 in
    let inside = bind_some (members_at (place + 1) open_.0) _ x open_.2 in
    let close_ = bind_some (sign_at "}" inside.0.1) _ x inside.2 in
    let a = keyword_sound "TYPE" tokens type.0 type.1 in
    let b = name_sound type.0 named.0 named.1 in
    let c = mode_sound named.0.1 strict.0 strict.1 in
    let d = imports_sound strict.0.1 imported.0 imported.1 in
    let f = sign_sound "{" imported.0.1 open_.0 open_.1 in
    let g = members_sound (place + 1) open_.0 inside.0 inside.1 in
    let i = sign_sound "}" inside.0.1 close_.0 close_.1 in
    let m = g.0.1 in
    let n = g.2 in
    let ms = inside.0.0.0 in
    let ks = inside.0.0.1 in
    let same = places_of_graph place ms ks in
    holds (Rested false place before) close_.2 (
      λ start p after q r s.
          (p, q, (tokens, subst (λ ts. keyword "GRAPH" ts tokens) (sym r) h, (type.0, a.0, (named.0.1, b.0, (strict.0.1, c.0, (imported.0.1, d.0, (open_.0, f.0, (inside.0.1, g.0.0, (close_.0, i.0, s))))))))),
      omega arith,
      subst (λ ns. count_from place ns ≡ true) (sym same) (and_from (place == place) (count_from (place + 1) (member_places (ms, ks))) (eq-eqb place place refl) g.1),
      omega (arith, ap length same, length-append (flat_map place_of_member ms) (flat_map place_of_key ks)),
    )

declared_sound : (earlier : Bool) (place : ℕ) (tokens : List Lexeme) (x : Statement × List Lexeme) → declared_at earlier place tokens ≡ Some x →
    Rested earlier place tokens x
unfolding declared_at declared_node_at declared_edge_at
declared_sound earlier place tokens x e =
    let P = Rested earlier place tokens in
    elim (either_way (keyword_at "NODE" tokens) _ _ x e) [
      | inl w ↦
          let hidden = bind_some (hidden_at earlier w.0) _ x w.2 in
          let type = bind_some (node_type_at hidden.0.0 place hidden.0.1) _ x hidden.2 in
          let a = keyword_sound "NODE" tokens w.0 w.1 in
          let b = hidden_sound earlier w.0 hidden.0 hidden.1 in
          let c = node_type_sound hidden.0.0 place hidden.0.1 type.0 type.1 in
          let l = c.0.1 in
          holds P type.2 (node_rest earlier hidden.0.0 type.0.0 tokens w.0 hidden.0.1 type.0.1 a.0 b.0 c.1 c.0.0, omega arith, one_number place type.0.0.place c.2, omega arith)
      | inr v ↦ elim (either_way (keyword_at "EDGE" tokens) _ _ x v.1) [
        | inl w ↦
            let hidden = bind_some (hidden_at earlier w.0) _ x w.2 in
            let type = bind_some (edge_type_at hidden.0.0 place hidden.0.1) _ x hidden.2 in
            let a = keyword_sound "EDGE" tokens w.0 w.1 in
            let b = hidden_sound earlier w.0 hidden.0 hidden.1 in
            let c = edge_type_sound hidden.0.0 place hidden.0.1 type.0 type.1 in
            let l = c.0.1 in
            holds P type.2 (edge_rest earlier hidden.0.0 type.0.0 tokens w.0 hidden.0.1 type.0.1 a.0 b.0 c.1 c.0.0, omega arith, one_number place type.0.0.place c.2, omega arith)
        | inr u ↦
            let w = bind_some (keyword_at "GRAPH" tokens) _ x u.1 in
            let a = keyword_sound "GRAPH" tokens w.0 w.1 in
            not_earlier earlier place tokens w.0 x a.0 a.1 w.2
      ]
    ]
  where
    not_earlier : (earlier : Bool) (place : ℕ) (before tokens : List Lexeme) (x : Statement × List Lexeme) → keyword "GRAPH" before tokens →
        length tokens < length before → cond earlier None (graph_type_at place tokens) ≡ Some x → Rested earlier place before x
    not_earlier true place before tokens x h l e = cc
    not_earlier false place before tokens x h l e = graph_type_sound place before tokens x h l e

pub statement_sound : (place : ℕ) (tokens : List Lexeme) (x : Statement × List Lexeme) → statement_at place tokens ≡ Some x →
    statement x.0 tokens x.1 × (count_from place (places_in x.0) ≡ true) × Enough places_in tokens x
unfolding statement_at
statement_sound place tokens x e =
    let create = bind_some (keyword_at "CREATE" tokens) _ x e in
    let earlier = bind_some (keyword_if_at (codes "ABSTRACT") create.0) _ x create.2 in
    let declared = bind_some (declared_at earlier.0.0 place earlier.0.1) _ x earlier.2 in
    let end = bind_some (sign_at ";" declared.0.1) _ x declared.2 in
    let a = keyword_sound "CREATE" tokens create.0 create.1 in
    let b = keyword_if_sound "ABSTRACT" create.0 earlier.0 earlier.1 in
    let c = declared_sound earlier.0.0 place earlier.0.1 declared.0 declared.1 in
    let d = sign_sound ";" declared.0.1 end.0 end.1 in
    let m = c.3 in
    holds (λ (x : Statement × List Lexeme). statement x.0 tokens x.1 × (count_from place (places_in x.0) ≡ true) × Enough places_in tokens x) end.2
    (c.0 tokens create.0 end.0 a.0 b.0 d.0, c.2, omega arith)
