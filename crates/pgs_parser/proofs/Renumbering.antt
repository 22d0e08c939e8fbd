-- The declarations of a statement may be numbered from any place on: the grammar says nothing of their numbers.
use Rattle.std.proofs.Common.{◌≡◌, ℕ, ◌+◌, ◌==◌, true, List, [], ◌∷◌, ◌++◌, length, map, flat_map, refl, ap, ◌∙◌}
use Rattle.std.proofs.lemmas.Bool.{and_from, eq-eqb}
use Rattle.pgs_lexer.specs.Token.{Lexeme}
use Rattle.pgs_syntax.specs.declared.raw.RawKey.{RawKey}
use Rattle.pgs_syntax.specs.declared.script.Member.{Member}
use Rattle.pgs_syntax.specs.declared.script.Member.TheVariants as members
use Rattle.pgs_syntax.specs.declared.script.Statement.{Statement}
use Rattle.pgs_syntax.specs.declared.script.Statement.TheVariants.{Node, Edge, Graph}
use Rattle.pgs_parser.specs.Production.{Production, ◌▸◌, sign, each, listed}
use Rattle.pgs_parser.specs.Keys.{key}
use Rattle.pgs_parser.specs.Statements.{element, members_of, statement, place_of_member, places_in, count_from}
use Rattle.pgs_parser.specs.StatementReaders.{place_of_key}
use Rattle.pgs_parser.proofs.Chains.{count_append}
use Rattle.pgs_parser.proofs.SoundStatements.{keys_places, one_number}

-- A list whose items are numbered from a place on, where an item can be, and is read all the same.
module _ {A : Type 0} (places : A → List ℕ) (renumber : ℕ → A → A) (counted : (place : ℕ) (x : A) → count_from place (places (renumber place x)) ≡ true) where
  renumber_all : ℕ → List A → List A
  renumber_all place [] = []
  renumber_all place (x ∷ xs) = renumber place x ∷ renumber_all (place + length (places (renumber place x))) xs

  all_counted : (place : ℕ) (xs : List A) → count_from place (flat_map places (renumber_all place xs)) ≡ true
  unfolding renumber_all
  all_counted place [] = refl
  all_counted place (x ∷ xs) =
      count_append place (places (renumber place x)) (flat_map places (renumber_all (place + length (places (renumber place x))) xs)) (counted place x)
      (all_counted (place + length (places (renumber place x))) xs)

  module _ (item : A → Production) (same : (place : ℕ) (x : A) (before after : List Lexeme) → item x before after → item (renumber place x) before after) where
    each_same : (separator : Production) (place : ℕ) (xs : List A) (before after : List Lexeme) → each (λ y. separator ▸ item y) xs before after →
        each (λ y. separator ▸ item y) (renumber_all place xs) before after
    unfolding renumber_all
    each_same separator place [] before after h = h
    each_same separator place (x ∷ xs) before after (m, (n, s, h), r) =
        (m, (n, s, same place x n m h), each_same separator (place + length (places (renumber place x))) xs m after r)

    list_same : (separator : Production) (place : ℕ) (xs : List A) (before after : List Lexeme) → listed separator item xs before after →
        listed separator item (renumber_all place xs) before after
    unfolding renumber_all
    list_same separator place [] before after h = h
    list_same separator place (x ∷ xs) before after (m, h, r) = (m, same place x before m h, each_same separator (place + length (places (renumber place x))) xs m after r)

abbrev member_at : ℕ → Member → Member
member_at place (members.Named named) = members.Named named
member_at place (members.Node type) = members.Node (record type { place = place })
member_at place (members.Edge type) = members.Edge (record type { place = place })

member_counted : (place : ℕ) (x : Member) → count_from place (place_of_member (member_at place x)) ≡ true
member_counted place (members.Named named) = refl
member_counted place (members.Node type) = one_number place place refl
member_counted place (members.Edge type) = one_number place place refl

member_same : (place : ℕ) (x : Member) (before after : List Lexeme) → element x before after → element (member_at place x) before after
member_same place (members.Named named) before after h = h
member_same place (members.Node type) before after h = h
member_same place (members.Edge type) before after h = h

abbrev key_with : ℕ → RawKey → RawKey
key_with place k = record k { place = place }

-- the members and the keys of a graph type
abbrev members_from : ℕ → List Member → List Member
members_from = renumber_all place_of_member member_at member_counted

abbrev keys_from : ℕ → List RawKey → List RawKey
keys_from = renumber_all place_of_key key_with (λ place x. one_number place place refl)

members_same : (place further : ℕ) (ms : List Member) (ks : List RawKey) (before after : List Lexeme) → members_of ms ks before after →
    members_of (members_from place ms) (keys_from further ks) before after
unfolding renumber_all
members_same place further [] [] before after h = h
members_same place further [] (k ∷ ks) before after h =
    list_same place_of_key key_with (λ place x. one_number place place refl) key (λ place x before after h. h) (sign ",") further (k ∷ ks) before after h
members_same place further (m ∷ ms) [] before after h =
    list_same place_of_member member_at member_counted element member_same (sign ",") place (m ∷ ms) before after h
members_same place further (m ∷ ms) (k ∷ ks) before after (a, h, (b, i, j)) = (
  a,
  list_same place_of_member member_at member_counted element member_same (sign ",") place (m ∷ ms) before a h,
  (b, i, list_same place_of_key key_with (λ place x. one_number place place refl) key (λ place x before after h. h) (sign ",") further (k ∷ ks) b after j),
)

-- a statement that is read from the same tokens, and has its numbers from a place on
pub record Renumbered (place : ℕ) (before after : List Lexeme) : Type 0 where
  pub tree : Statement
  pub is_read : statement tree before after
  pub numbers : count_from place (places_in tree) ≡ true

pub renumbered : (place : ℕ) (tree : Statement) (before after : List Lexeme) → statement tree before after → Renumbered place before after
renumbered place (Node type) before after h = record { tree = Node (record type { place = place }); is_read = h; numbers = one_number place place refl }
renumbered place (Edge type) before after h = record { tree = Edge (record type { place = place }); is_read = h; numbers = one_number place place refl }
renumbered place (Graph type) before after (a, h, (b, i, (c, j, (d, k, (f, l, (g, m, (n, o, (p, q, r)))))))) =
    let ms = members_from (place + 1) type.members in
    let further = place + 1 + length (flat_map place_of_member ms) in
    let ks = keys_from further type.keys in
    let counted : count_from (place + 1) (flat_map place_of_member ms ++ map (λ (k : RawKey). k.place) ks) ≡ true =
    ap (λ ns. count_from (place + 1) (flat_map place_of_member ms ++ ns)) (keys_places ks)
    ∙ count_append (place + 1) (flat_map place_of_member ms) (flat_map place_of_key ks) (all_counted place_of_member member_at member_counted (place + 1) type.members)
    (all_counted place_of_key key_with (λ place x. one_number place place refl) further type.keys) in
    record {
      tree = Graph (record type { place = place; members = ms; keys = ks });
      is_read = (a, h, (b, i, (c, j, (d, k, (f, l, (g, m, (n, o, (p, members_same (place + 1) further type.members type.keys n p q, r))))))));
      numbers = and_from (place == place) _ (eq-eqb place place refl) counted;
    }
