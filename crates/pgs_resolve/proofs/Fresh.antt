-- Names that stand once among others, and the types that a script declares once.
use Rattle.std.proofs.Common.{◌≡◌, ℕ, Bool, true, false, cond, ◌⊎◌, inl, inr, List, [], ◌∷◌, ◌++◌, map, filter, Some, refl, sym, ◌∙◌, ap, subst}
use Rattle.std.specs.List.{list_all, list_any, flat_map, filter_map, find}
use Rattle.std.proofs.lemmas.Bool.{and_from, and_parts, or_parts, or_from}
use Rattle.std.proofs.lemmas.List.{append_assoc}
use Rattle.std.proofs.lemmas.List.Elements.{filter_map-append}
use Rattle.pgs_base.specs.Pair.{same_name, has_name}
use Rattle.pgs_syntax.specs.declared.element_type.NodeType.{NodeType}
use Rattle.pgs_syntax.specs.declared.element_type.EdgeType.{EdgeType}
use Rattle.pgs_syntax.specs.declared.script.Member.{Member}
use Rattle.pgs_syntax.specs.declared.script.Member.TheVariants as members
use Rattle.pgs_syntax.specs.declared.script.Script.{Script}
use Rattle.pgs_syntax.specs.declared.script.Statement.{Statement}
use Rattle.pgs_syntax.specs.declared.script.Statement.TheVariants.{Node, Edge, Graph}
use Rattle.pgs_syntax.specs.declared.specification.Spec.{Spec}
use Rattle.pgs_resolve_declared.specs.declared.duplicates.Mark.{Mark}
use Rattle.pgs_resolve_declared.specs.declared.duplicates.Mark.TheVariants as marks
use Rattle.pgs_resolve_declared.specs.Declarations.{braces_of, declared_in, is_declared, types_of, nodes_of, edges_of, node_in, edge_in}
use Rattle.pgs_resolve.specs.Guard.{name_of}
use Rattle.pgs_resolve_declared.specs.Refused.{element_in, marks_in, marks_of_member, marks_of, is_second, repeated_after, seconds_after}
use Rattle.pgs_resolve.proofs.Each.{all_parts, all_joined, flat_from}
use Rattle.pgs_resolve_declared.proofs.Repeats.{elements_marked}
use Rattle.pgs_resolve_declared.proofs.Same.{in_turn, itself}

-- an item of a list
abbrev pub In : {X : Type 0} → X → List X → Type 0
In x [] = ⊥
In x (y ∷ ys) = (x ≡ y) ⊎ In x ys

module _ {X : Type 0} where
  pub in_map : {Y : Type 0} (f : X → Y) (x : X) (xs : List X) → In x xs → In (f x) (map f xs)
  in_map f x [] h = h
  in_map f x (y ∷ ys) (inl e) = inl (ap f e)
  in_map f x (y ∷ ys) (inr i) = inr (in_map f x ys i)

  -- a test of each item, and of an item
  pub in_all : (p : X → Bool) (x : X) (xs : List X) → list_all p xs ≡ true → In x xs → p x ≡ true
  in_all p x [] h i = absurd i
  in_all p x (y ∷ ys) h (inl e) = ap p e ∙ (and_parts (p y) (list_all p ys) h).0
  in_all p x (y ∷ ys) h (inr i) = in_all p x ys (and_parts (p y) (list_all p ys) h).1 i

  pub in_none : (p : X → Bool) (x : X) (xs : List X) → list_any p xs ≡ false → In x xs → p x ≡ false
  in_none p x [] h i = absurd i
  in_none p x (y ∷ ys) h (inl e) = ap p e ∙ (or_parts (p y) (list_any p ys) h).0
  in_none p x (y ∷ ys) h (inr i) = in_none p x ys (or_parts (p y) (list_any p ys) h).1 i

-- names none of which is among the earlier ones, and those before
abbrev pub Fresh : List (List ℕ) → List (List ℕ) → Type 0
Fresh before [] = Unit {0}
Fresh before (name ∷ names) = (has_name name before ≡ false) × Fresh (name ∷ before) names

pub fresh_apart : (before names : List (List ℕ)) (name : List ℕ) → Fresh before names → In name names → has_name name before ≡ false
fresh_apart before [] name f i = absurd i
fresh_apart before (n ∷ ns) name f (inl e) = ap (λ m. has_name m before) e ∙ f.0
fresh_apart before (n ∷ ns) name f (inr i) = (or_parts (same_name name n) (has_name name before) (fresh_apart (n ∷ before) ns name f.1 i)).1

pub fresh_none : (before names : List (List ℕ)) (name : List ℕ) → In name before → Fresh before names → has_name name names ≡ false
fresh_none before [] name i f = refl
fresh_none before (n ∷ ns) name i f =
    or_from _ _ (in_turn name n ∙ in_none (same_name n) name before f.0 i) (fresh_none (n ∷ before) ns name (inr i) f.1)

-- ---- a script without duplicates

-- whether a mark is no property that its braces have before
abbrev pub is_single : Mark → Bool
is_single (marks.Again name) = false
is_single _ = true

-- nothing is second
nothing_more : (b : Bool) (x : List ℕ) (rest : List (List ℕ)) → cond b (x ∷ []) [] ++ rest ≡ [] → (b ≡ false) × (rest ≡ [])
nothing_more true x rest h = cc
nothing_more false x rest h = (refl, h)

pub elements_fresh : (earlier later : List Mark) → seconds_after earlier later ≡ [] → Fresh (filter_map element_in earlier) (filter_map element_in later)
elements_fresh earlier [] h = tt
elements_fresh earlier (marks.Element name ∷ later) h =
    let parts = nothing_more (is_second earlier (marks.Element name)) name (seconds_after (marks.Element name ∷ earlier) later) h in
    (elements_marked name earlier ∙ parts.0, elements_fresh (marks.Element name ∷ earlier) later parts.1)
elements_fresh earlier (marks.Graph name ∷ later) h =
    let parts = nothing_more (is_second earlier (marks.Graph name)) name (seconds_after (marks.Graph name ∷ earlier) later) h in
    elements_fresh (marks.Graph name ∷ earlier) later parts.1
elements_fresh earlier (marks.Again name ∷ later) h = cc

pub all_single : (earlier later : List Mark) → seconds_after earlier later ≡ [] → list_all is_single later ≡ true
all_single earlier [] h = refl
all_single earlier (marks.Element name ∷ later) h =
    all_single (marks.Element name ∷ earlier) later
    (nothing_more (is_second earlier (marks.Element name)) name (seconds_after (marks.Element name ∷ earlier) later) h).1
all_single earlier (marks.Graph name ∷ later) h =
    all_single (marks.Graph name ∷ earlier) later
    (nothing_more (is_second earlier (marks.Graph name)) name (seconds_after (marks.Graph name ∷ earlier) later) h).1
all_single earlier (marks.Again name ∷ later) h = cc

-- the names of elements among marks are those of the declared types
again_none : (names : List (List ℕ)) → filter_map element_in (map marks.Again names) ≡ []
again_none [] = refl
again_none (name ∷ names) = again_none names

abbrev elements : List Mark → List (List ℕ)
elements = filter_map element_in

abbrev pub is_marked : Member → List (List ℕ)
is_marked (members.Named name) = []
is_marked (members.Node type) = type.name ∷ []
is_marked (members.Edge type) = type.name ∷ []

spec_none : (spec : Spec (List ℕ)) (more : List Mark) → elements (marks_in spec ++ more) ≡ elements more
spec_none spec more =
    filter_map-append element_in (marks_in spec) more ∙ ap (λ ns. ns ++ elements more) (again_none (flat_map (repeated_after []) (braces_of spec)))

member_elements : (member : Member) (more : List Mark) → elements (marks_of_member member ++ more) ≡ is_marked member ++ elements more
member_elements (members.Named name) more = refl
member_elements (members.Node type) more = ap (λ ns. type.name ∷ ns) (spec_none type.spec more)
member_elements (members.Edge type) more =
    ap (λ ns. type.name ∷ ns)
    (ap elements (append_assoc (marks_in type.source ++ marks_in type.middle) (marks_in type.target) more ∙ append_assoc (marks_in type.source) (marks_in type.middle) (marks_in type.target ++ more))
    ∙ spec_none type.source (marks_in type.middle ++ (marks_in type.target ++ more)) ∙ spec_none type.middle (marks_in type.target ++ more) ∙ spec_none type.target more)

members_elements : (list : List Member) (more : List Mark) →
    elements (flat_map marks_of_member list ++ more) ≡ map name_of (filter is_declared list) ++ elements more
members_elements [] more = refl
members_elements (members.Named name ∷ rest) more = members_elements rest more
members_elements (members.Node type ∷ rest) more =
    ap elements (append_assoc (marks_of_member (members.Node type)) (flat_map marks_of_member rest) more)
    ∙ member_elements (members.Node type) (flat_map marks_of_member rest ++ more) ∙ ap (λ ns. type.name ∷ ns) (members_elements rest more)
members_elements (members.Edge type ∷ rest) more =
    ap elements (append_assoc (marks_of_member (members.Edge type)) (flat_map marks_of_member rest) more)
    ∙ member_elements (members.Edge type) (flat_map marks_of_member rest ++ more) ∙ ap (λ ns. type.name ∷ ns) (members_elements rest more)

statement_elements : (statement : Statement) (more : List Mark) → elements (marks_of statement ++ more) ≡ map name_of (declared_in statement) ++ elements more
statement_elements (Node type) more = member_elements (members.Node type) more
statement_elements (Edge type) more = member_elements (members.Edge type) more
statement_elements (Graph type) more = members_elements type.members more

map-both : (xs ys : List Member) → map name_of (xs ++ ys) ≡ map name_of xs ++ map name_of ys
map-both [] ys = refl
map-both (x ∷ xs) ys = ap (λ ns. name_of x ∷ ns) (map-both xs ys)

statements_elements : (statements : List Statement) → elements (flat_map marks_of statements) ≡ map name_of (flat_map declared_in statements)
statements_elements [] = refl
statements_elements (statement ∷ rest) =
    statement_elements statement (flat_map marks_of rest) ∙ ap (λ ns. map name_of (declared_in statement) ++ ns) (statements_elements rest)
    ∙ sym (map-both (declared_in statement) (flat_map declared_in rest))

pub types_fresh : (script : Script) → seconds_after [] (flat_map marks_of script.statements) ≡ [] → Fresh [] (map name_of (types_of script))
types_fresh script h =
    let P : List (List ℕ) → Type 0 = λ names. Fresh [] names in
    subst P (statements_elements script.statements) (elements_fresh [] (flat_map marks_of script.statements) h)

-- no type has braces that name a key twice
abbrev pub member_single : Member → Bool
member_single member = list_all is_single (marks_of_member member)

declared_single : (list : List Member) → list_all member_single list ≡ true → list_all member_single (filter is_declared list) ≡ true
declared_single [] h = refl
declared_single (members.Named name ∷ rest) h = declared_single rest h
declared_single (members.Node type ∷ rest) h =
    let parts = and_parts (member_single (members.Node type)) (list_all member_single rest) h in and_from _ _ parts.0 (declared_single rest parts.1)
declared_single (members.Edge type ∷ rest) h =
    let parts = and_parts (member_single (members.Edge type)) (list_all member_single rest) h in and_from _ _ parts.0 (declared_single rest parts.1)

statement_single : (statement : Statement) → list_all is_single (marks_of statement) ≡ true → list_all member_single (declared_in statement) ≡ true
statement_single (Node type) h = and_from _ _ h refl
statement_single (Edge type) h = and_from _ _ h refl
statement_single (Graph type) h = declared_single type.members (flat_from is_single marks_of_member type.members h)

pub types_single : (statements : List Statement) → list_all is_single (flat_map marks_of statements) ≡ true →
    list_all member_single (flat_map declared_in statements) ≡ true
types_single [] h = refl
types_single (statement ∷ rest) h =
    let parts = all_parts is_single (marks_of statement) (flat_map marks_of rest) h in
    all_joined member_single (declared_in statement) (flat_map declared_in rest) (statement_single statement parts.0) (types_single rest parts.1)

-- ---- a type is found by its name

node_among : (list : List Member) (type : NodeType (List ℕ)) → In type (filter_map node_in list) → In (members.Node type) list
node_among [] type i = absurd i
node_among (members.Named name ∷ rest) type i = inr (node_among rest type i)
node_among (members.Node other ∷ rest) type (inl e) = inl (ap members.Node e)
node_among (members.Node other ∷ rest) type (inr i) = inr (node_among rest type i)
node_among (members.Edge other ∷ rest) type i = inr (node_among rest type i)

edge_among : (list : List Member) (type : EdgeType (List ℕ)) → In type (filter_map edge_in list) → In (members.Edge type) list
edge_among [] type i = absurd i
edge_among (members.Named name ∷ rest) type i = inr (edge_among rest type i)
edge_among (members.Edge other ∷ rest) type (inl e) = inl (ap members.Edge e)
edge_among (members.Edge other ∷ rest) type (inr i) = inr (edge_among rest type i)
edge_among (members.Node other ∷ rest) type i = inr (edge_among rest type i)

apart_from : (before : List (List ℕ)) (name : List ℕ) (rest : List Member) (member : Member) → Fresh (name ∷ before) (map name_of rest) → In member rest →
    same_name (name_of member) name ≡ false
apart_from before name rest member f i =
    (or_parts (same_name (name_of member) name) (has_name (name_of member) before) (fresh_apart (name ∷ before) (map name_of rest) (name_of member) f (in_map name_of member rest i))).0

pub node_found : (before : List (List ℕ)) (list : List Member) (type : NodeType (List ℕ)) → Fresh before (map name_of list) → In type (filter_map node_in list) →
    find (λ (other : NodeType (List ℕ)). same_name type.name other.name) (filter_map node_in list) ≡ Some type
node_found before [] type f i = absurd i
node_found before (members.Named name ∷ rest) type f i = node_found (name ∷ before) rest type f.1 i
node_found before (members.Edge other ∷ rest) type f i = node_found (other.name ∷ before) rest type f.1 i
node_found before (members.Node other ∷ rest) type f (inl e) =
    ap (λ (b : Bool). cond b (Some other) (find (λ (u : NodeType (List ℕ)). same_name type.name u.name) (filter_map node_in rest)))
    (ap (λ (u : NodeType (List ℕ)). same_name type.name u.name) (sym e) ∙ itself type.name)
    ∙ ap Some (sym e)
node_found before (members.Node other ∷ rest) type f (inr i) =
    ap (λ (b : Bool). cond b (Some other) (find (λ (u : NodeType (List ℕ)). same_name type.name u.name) (filter_map node_in rest)))
    (apart_from before other.name rest (members.Node type) f.1 (node_among rest type i))
    ∙ node_found (other.name ∷ before) rest type f.1 i

pub edge_found : (before : List (List ℕ)) (list : List Member) (type : EdgeType (List ℕ)) → Fresh before (map name_of list) → In type (filter_map edge_in list) →
    find (λ (other : EdgeType (List ℕ)). same_name type.name other.name) (filter_map edge_in list) ≡ Some type
edge_found before [] type f i = absurd i
edge_found before (members.Named name ∷ rest) type f i = edge_found (name ∷ before) rest type f.1 i
edge_found before (members.Node other ∷ rest) type f i = edge_found (other.name ∷ before) rest type f.1 i
edge_found before (members.Edge other ∷ rest) type f (inl e) =
    ap (λ (b : Bool). cond b (Some other) (find (λ (u : EdgeType (List ℕ)). same_name type.name u.name) (filter_map edge_in rest)))
    (ap (λ (u : EdgeType (List ℕ)). same_name type.name u.name) (sym e) ∙ itself type.name)
    ∙ ap Some (sym e)
edge_found before (members.Edge other ∷ rest) type f (inr i) =
    ap (λ (b : Bool). cond b (Some other) (find (λ (u : EdgeType (List ℕ)). same_name type.name u.name) (filter_map edge_in rest)))
    (apart_from before other.name rest (members.Edge type) f.1 (edge_among rest type i))
    ∙ edge_found (other.name ∷ before) rest type f.1 i

pub nodes_among : (script : Script) (type : NodeType (List ℕ)) → In type (nodes_of script) → In (members.Node type) (types_of script)
nodes_among script type i = node_among (types_of script) type i

pub edges_among : (script : Script) (type : EdgeType (List ℕ)) → In type (edges_of script) → In (members.Edge type) (types_of script)
edges_among script type i = edge_among (types_of script) type i
