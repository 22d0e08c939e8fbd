-- The variables of a pattern are in one group exactly where each of them is linked with the first.
use Rattle.std.proofs.Common.{◌≡◌, ℕ, zero, suc, ◌<◌, Bool, true, false, ◌&&◌, ◌||◌, ◌==◌, cond, ⊎_elim, List, [], ◌∷◌, map, length, slice_index, refl, sym, ◌∙◌, ap, subst, true≢false, arith}
use Rattle.std.specs.List.{list_any, list_all, enumerate_from}
use Rattle.std.proofs.lemmas.Bool.{and_parts, and_from, or_cases, or_left, or_right, eqb-true, eq-eqb}
use Rattle.std.proofs.lemmas.List.{get_or-map, length-map}
use Rattle.std.proofs.lemmas.List.FromFn.{length-enumerate_from, get_or-enumerate_from}
use Rattle.pgs_syntax.specs.declared.pattern.Atom.{Atom}
use Rattle.pgs_syntax.specs.declared.pattern.Atom.TheVariants.{Ends, HasLabel, FitsNode, FitsEdge, Equals}
use Rattle.pgs_syntax.specs.declared.pattern.Pattern.{Pattern}
use Rattle.pgs_syntax.specs.Linked.{links, IsLinked, itself, further}
use Rattle.pgs_syntax.specs.Valid.{is_edge_var, is_node_var, speaks_of, together, groups_after, is_connected, is_valid_pattern}

-- ---- links go both ways, and one after another

or_swap : (a b : Bool) → (a || b) ≡ (b || a)
or_swap true true = refl
or_swap true false = refl
or_swap false true = refl
or_swap false false = refl

links_back : (a b : ℕ) (atom : Atom) → links a b atom ≡ links b a atom
links_back a b (Ends edge source target) =
    or_swap (a == edge && (b == source || b == target)) (b == edge && (a == source || a == target))
links_back a b (HasLabel var label) = refl
links_back a b (FitsNode var number) = refl
links_back a b (FitsEdge var number) = refl
links_back a b (Equals var key value) = refl

any_back : (a b : ℕ) (atoms : List Atom) → list_any (links a b) atoms ≡ list_any (links b a) atoms
any_back a b [] = refl
any_back a b (atom ∷ atoms) = let first = links_back a b atom in let rest = any_back a b atoms in cc

module _ (atoms : List Atom) where
  after : {a b c : ℕ} → IsLinked atoms a b → IsLinked atoms b c → IsLinked atoms a c
  after first itself = first
  after first (further rest link) = further (after first rest) link

  back : {a b : ℕ} → IsLinked atoms a b → IsLinked atoms b a
  back itself = itself
  back (further {a} {b} {c} rest link) = after (further itself (any_back c b atoms ∙ link)) (back rest)

-- ---- what an atom links

links_source : (edge source target : ℕ) → links edge source (Ends edge source target) ≡ true
links_source edge source target =
    or_left _ (source == edge && (edge == source || edge == target))
    (and_from (edge == edge) (source == source || source == target) (eq-eqb edge edge refl) (or_left (source == source) (source == target) (eq-eqb source source refl)))

links_target : (edge source target : ℕ) → links edge target (Ends edge source target) ≡ true
links_target edge source target =
    or_left _ (target == edge && (edge == source || edge == target))
    (and_from (edge == edge) (target == source || target == target) (eq-eqb edge edge refl) (or_right (target == source) (target == target) (eq-eqb target target refl)))

module _ (Same : ℕ → ℕ → Type 0) (flip : (a b : ℕ) → Same a b → Same b a) (edge source target : ℕ) (first : Same edge source) (second : Same edge target) where
  one_way : (a b : ℕ) → (a == edge && (b == source || b == target)) ≡ true → Same a b
  one_way a b h =
      let parts = and_parts (a == edge) (b == source || b == target) h in
      subst (λ x. Same x b) (sym (eqb-true a edge parts.0))
      (⊎_elim (λ at. subst (Same edge) (sym (eqb-true b source at)) first) (λ at. subst (Same edge) (sym (eqb-true b target at)) second)
      (or_cases (b == source) (b == target) parts.1))

  -- what an edge has in common with its ends, linked variables have
  linked_by : (a b : ℕ) → links a b (Ends edge source target) ≡ true → Same a b
  linked_by a b h =
      ⊎_elim (one_way a b) (λ other. flip b a (one_way b a other))
      (or_cases (a == edge && (b == source || b == target)) (b == edge && (a == source || a == target)) h)

abbrev Below : List Bool → ℕ → ℕ → ℕ → Type 0
Below edge_vars edge source target = (edge < length edge_vars) × (source < length edge_vars) × (target < length edge_vars)

edge_below : (edge_vars : List Bool) (var : ℕ) → is_edge_var edge_vars var ≡ true → var < length edge_vars
edge_below [] var h = absurd (true≢false (sym h))
edge_below (x ∷ xs) zero h = omega arith
edge_below (x ∷ xs) (suc var) h = let rest : var < length xs = edge_below xs var h in omega arith

node_below : (edge_vars : List Bool) (var : ℕ) → is_node_var edge_vars var ≡ true → var < length edge_vars
node_below [] var h = absurd (true≢false (sym h))
node_below (x ∷ xs) zero h = omega arith
node_below (x ∷ xs) (suc var) h = let rest : var < length xs = node_below xs var h in omega arith

ends_below : (edge_vars : List Bool) (edge source target : ℕ) → speaks_of edge_vars (Ends edge source target) ≡ true → Below edge_vars edge source target
ends_below edge_vars edge source target h =
    let parts = and_parts (is_edge_var edge_vars edge && is_node_var edge_vars source) (is_node_var edge_vars target) h in
    let inner = and_parts (is_edge_var edge_vars edge) (is_node_var edge_vars source) parts.0 in
    (edge_below edge_vars edge inner.0, node_below edge_vars source inner.1, node_below edge_vars target parts.1)

-- ---- groups

at_map : (f : ℕ → ℕ) (xs : List ℕ) (i : ℕ) → i < length xs → slice_index (map f xs) i ≡ f (slice_index xs i)
at_map f xs i below = get_or-map f xs i 0 0 below

module _ (a b : ℕ) (groups : List ℕ) where
  together_at : (i : ℕ) → i < length groups →
      slice_index (together a b groups) i ≡ cond (slice_index groups i == slice_index groups a) (slice_index groups b) (slice_index groups i)
  together_at i below = at_map (λ group. cond (group == slice_index groups a) (slice_index groups b) group) groups i below

  -- who was in one group stays so
  together_keeps : (i j : ℕ) → i < length groups → j < length groups → slice_index groups i ≡ slice_index groups j →
      slice_index (together a b groups) i ≡ slice_index (together a b groups) j
  together_keeps i j first second same =
      together_at i first ∙ ap (λ (group : ℕ). cond (group == slice_index groups a) (slice_index groups b) group) same ∙ sym (together_at j second)

  -- the two are in one group then
  together_joins : a < length groups → b < length groups → slice_index (together a b groups) a ≡ slice_index (together a b groups) b
  together_joins first second =
      together_at a first
      ∙ ap (λ t. cond t (slice_index groups b) (slice_index groups a)) (eq-eqb (slice_index groups a) (slice_index groups a) refl)
      ∙ sym (together_at b second ∙ same (slice_index groups b == slice_index groups a))
    where
      same : (t : Bool) → cond t (slice_index groups b) (slice_index groups b) ≡ slice_index groups b
      same true = refl
      same false = refl

  -- who is in one group then, was so before, or is with one of the two as the other is with the other
  together_from : (Claim : ℕ → ℕ → Type 0) (i j : ℕ) → i < length groups → j < length groups →
      slice_index (together a b groups) i ≡ slice_index (together a b groups) j →
      (slice_index groups i ≡ slice_index groups j → Claim i j) →
      (slice_index groups i ≡ slice_index groups a → slice_index groups b ≡ slice_index groups j → Claim i j) →
      (slice_index groups i ≡ slice_index groups b → slice_index groups a ≡ slice_index groups j → Claim i j) → Claim i j
  together_from Claim i j first second same before moved other =
      by (slice_index groups i == slice_index groups a) refl (slice_index groups j == slice_index groups a) refl
      (sym (together_at i first) ∙ same ∙ together_at j second)
    where
      by : (s : Bool) → (slice_index groups i == slice_index groups a) ≡ s → (t : Bool) → (slice_index groups j == slice_index groups a) ≡ t →
          cond s (slice_index groups b) (slice_index groups i) ≡ cond t (slice_index groups b) (slice_index groups j) → Claim i j
      by true s true t e = before (eqb-true _ _ s ∙ sym (eqb-true _ _ t))
      by true s false t e = moved (eqb-true _ _ s) e
      by false s true t e = other e (sym (eqb-true _ _ t))
      by false s false t e = before e

-- after the two unions that an edge with its ends makes
abbrev united : ℕ → ℕ → ℕ → List ℕ → List ℕ
united edge source target groups = together edge source (together edge target groups)

united_size : (edge source target : ℕ) (groups : List ℕ) → length (united edge source target groups) ≡ length groups
united_size edge source target groups = length-map (together edge target groups) _ ∙ length-map groups _

size_after : (atoms : List Atom) (groups : List ℕ) → length (groups_after groups atoms) ≡ length groups
size_after [] groups = refl
size_after (Ends edge source target ∷ atoms) groups = size_after atoms (united edge source target groups) ∙ united_size edge source target groups
size_after (HasLabel var label ∷ atoms) groups = size_after atoms groups
size_after (FitsNode var number ∷ atoms) groups = size_after atoms groups
size_after (FitsEdge var number ∷ atoms) groups = size_after atoms groups
size_after (Equals var key value ∷ atoms) groups = size_after atoms groups

-- ---- who is in one group is linked

module _ (edge_vars : List Bool) (atoms : List Atom) where
  abbrev AreSound : List ℕ → Type 0
  AreSound groups = (i j : ℕ) → i < length edge_vars → j < length edge_vars → slice_index groups i ≡ slice_index groups j → IsLinked atoms i j

  sound_together : (a b : ℕ) (groups : List ℕ) → length groups ≡ length edge_vars → a < length edge_vars → b < length edge_vars → IsLinked atoms a b →
      AreSound groups → AreSound (together a b groups)
  sound_together a b groups size a_in b_in link sound i j i_in j_in same =
      together_from a b groups (IsLinked atoms) i j (omega arith) (omega arith) same (sound i j i_in j_in)
      (λ at_a at_b. after atoms (sound i a i_in a_in at_a) (after atoms link (sound b j b_in j_in at_b)))
      (λ at_b at_a. after atoms (sound i b i_in b_in at_b) (after atoms (back atoms link) (sound a j a_in j_in at_a)))

  sound_after : (rest : List Atom) (groups : List ℕ) → length groups ≡ length edge_vars → list_all (speaks_of edge_vars) rest ≡ true →
      ((a b : ℕ) → list_any (links a b) rest ≡ true → list_any (links a b) atoms ≡ true) → AreSound groups → AreSound (groups_after groups rest)
  sound_after [] groups size speaks within sound = sound
  sound_after (Ends edge source target ∷ rest) groups size speaks within sound =
      let parts = and_parts (speaks_of edge_vars (Ends edge source target)) _ speaks in
      let below = ends_below edge_vars edge source target parts.0 in
      let to_source = further itself (within edge source (or_left _ _ (links_source edge source target))) in
      let to_target = further itself (within edge target (or_left _ _ (links_target edge source target))) in
      sound_after rest (united edge source target groups) (united_size edge source target groups ∙ size) parts.1
      (λ a b h. within a b (or_right _ _ h))
      (sound_together edge source (together edge target groups) (length-map groups _ ∙ size) below.0 below.1 to_source
      (sound_together edge target groups size below.0 below.2 to_target sound))
  sound_after (HasLabel var label ∷ rest) groups size speaks within sound = sound_after rest groups size (and_parts _ _ speaks).1 within sound
  sound_after (FitsNode var number ∷ rest) groups size speaks within sound = sound_after rest groups size (and_parts _ _ speaks).1 within sound
  sound_after (FitsEdge var number ∷ rest) groups size speaks within sound = sound_after rest groups size (and_parts _ _ speaks).1 within sound
  sound_after (Equals var key value ∷ rest) groups size speaks within sound = sound_after rest groups size (and_parts _ _ speaks).1 within sound

-- ---- who is linked is in one group

keeps_after : (atoms : List Atom) (groups : List ℕ) (i j : ℕ) → i < length groups → j < length groups → slice_index groups i ≡ slice_index groups j →
    slice_index (groups_after groups atoms) i ≡ slice_index (groups_after groups atoms) j
keeps_after [] groups i j first second same = same
keeps_after (Ends edge source target ∷ atoms) groups i j first second same =
    let size = united_size edge source target groups in
    let half : length (together edge target groups) ≡ length groups = length-map groups _ in
    keeps_after atoms (united edge source target groups) i j (omega arith) (omega arith)
    (together_keeps edge source (together edge target groups) i j (omega arith) (omega arith) (together_keeps edge target groups i j first second same))
keeps_after (HasLabel var label ∷ atoms) groups i j first second same = keeps_after atoms groups i j first second same
keeps_after (FitsNode var number ∷ atoms) groups i j first second same = keeps_after atoms groups i j first second same
keeps_after (FitsEdge var number ∷ atoms) groups i j first second same = keeps_after atoms groups i j first second same
keeps_after (Equals var key value ∷ atoms) groups i j first second same = keeps_after atoms groups i j first second same

module _ (edge_vars : List Bool) where
  joins_after : (atoms : List Atom) (groups : List ℕ) → length groups ≡ length edge_vars → list_all (speaks_of edge_vars) atoms ≡ true →
      (a b : ℕ) → list_any (links a b) atoms ≡ true → slice_index (groups_after groups atoms) a ≡ slice_index (groups_after groups atoms) b
  joins_after [] groups size speaks a b h = absurd (true≢false (sym h))
  joins_after (Ends edge source target ∷ atoms) groups size speaks a b h =
      let parts = and_parts (speaks_of edge_vars (Ends edge source target)) _ speaks in
      let below = ends_below edge_vars edge source target parts.0 in
      let e : edge < length edge_vars = below.0 in
      let s : source < length edge_vars = below.1 in
      let t : target < length edge_vars = below.2 in
      let half : length (together edge target groups) ≡ length groups = length-map groups _ in
      let whole = united_size edge source target groups in
      let to_source = together_joins edge source (together edge target groups) (omega arith) (omega arith) in
      let to_target =
      together_keeps edge source (together edge target groups) edge target (omega arith) (omega arith) (together_joins edge target groups (omega arith) (omega arith)) in
      ⊎_elim (linked_by (λ i j. slice_index (groups_after (united edge source target groups) atoms) i ≡ slice_index (groups_after (united edge source target groups) atoms) j)
      (λ i j same. sym same) edge source target
      (keeps_after atoms (united edge source target groups) edge source (omega arith) (omega arith) to_source)
      (keeps_after atoms (united edge source target groups) edge target (omega arith) (omega arith) to_target) a b)
      (joins_after atoms (united edge source target groups) (whole ∙ size) parts.1 a b)
      (or_cases (links a b (Ends edge source target)) _ h)
  joins_after (HasLabel var label ∷ atoms) groups size speaks a b h = joins_after atoms groups size (and_parts _ _ speaks).1 a b h
  joins_after (FitsNode var number ∷ atoms) groups size speaks a b h = joins_after atoms groups size (and_parts _ _ speaks).1 a b h
  joins_after (FitsEdge var number ∷ atoms) groups size speaks a b h = joins_after atoms groups size (and_parts _ _ speaks).1 a b h
  joins_after (Equals var key value ∷ atoms) groups size speaks a b h = joins_after atoms groups size (and_parts _ _ speaks).1 a b h

-- ---- patterns

abbrev start : List Bool → List ℕ
start edge_vars = map (λ (place : ℕ × Bool). place.0) (enumerate_from 0 edge_vars)

start_size : (edge_vars : List Bool) → length (start edge_vars) ≡ length edge_vars
start_size edge_vars = length-map (enumerate_from 0 edge_vars) _ ∙ length-enumerate_from 0 edge_vars

start_at : (edge_vars : List Bool) (i : ℕ) → i < length edge_vars → slice_index (start edge_vars) i ≡ i
start_at edge_vars i below =
    let size = length-enumerate_from 0 edge_vars in
    get_or-map (λ (place : ℕ × Bool). place.0) (enumerate_from 0 edge_vars) i (0, false) 0 (omega arith)
    ∙ ap (λ (place : ℕ × Bool). place.0) (get_or-enumerate_from 0 edge_vars i (0, false) below)
    ∙ omega arith

all_at : (test : ℕ → Bool) (xs : List ℕ) → list_all test xs ≡ true → (i : ℕ) → i < length xs → test (slice_index xs i) ≡ true
all_at test [] h i below = absurd (omega arith)
all_at test (x ∷ xs) h zero below = (and_parts _ _ h).0
all_at test (x ∷ xs) h (suc i) below = all_at test xs (and_parts _ _ h).1 i (omega arith)

at_all : (test : ℕ → Bool) (xs : List ℕ) → ((i : ℕ) → i < length xs → test (slice_index xs i) ≡ true) → list_all test xs ≡ true
at_all test [] h = refl
at_all test (x ∷ xs) h = and_from _ _ (h 0 (omega arith)) (at_all test xs (λ i below. h (suc i) (omega arith)))

module _ (pattern : Pattern) (speaks : list_all (speaks_of pattern.edge_vars) pattern.atoms ≡ true) where
  abbrev last : List ℕ
  last = groups_after (start pattern.edge_vars) pattern.atoms

  last_size : length last ≡ length pattern.edge_vars
  last_size = size_after pattern.atoms (start pattern.edge_vars) ∙ start_size pattern.edge_vars

  pub connected_linked : is_connected pattern ≡ true → (var : ℕ) → var < length pattern.edge_vars → IsLinked pattern.atoms 0 var
  connected_linked h var below =
      let size = last_size in
      sound_after pattern.edge_vars pattern.atoms pattern.atoms (start pattern.edge_vars) (start_size pattern.edge_vars) speaks (λ a b link. link)
      (λ i j i_in j_in same. alone i j (sym (start_at pattern.edge_vars i i_in) ∙ same ∙ start_at pattern.edge_vars j j_in))
      0 var (omega arith) below (sym (eqb-true (slice_index last var) (slice_index last 0) (all_at (λ group. group == slice_index last 0) last h var (omega arith))))
    where
      alone : (i j : ℕ) → i ≡ j → IsLinked pattern.atoms i j
      alone i j same = subst (IsLinked pattern.atoms i) same itself

  linked_same : {a b : ℕ} → IsLinked pattern.atoms a b → slice_index last a ≡ slice_index last b
  linked_same itself = refl
  linked_same (further {a} {b} {c} rest link) =
      linked_same rest ∙ joins_after pattern.edge_vars pattern.atoms (start pattern.edge_vars) (start_size pattern.edge_vars) speaks b c link

  pub linked_connected : ((var : ℕ) → var < length pattern.edge_vars → IsLinked pattern.atoms 0 var) → is_connected pattern ≡ true
  linked_connected h =
      let size = last_size in
      at_all (λ group. group == slice_index last 0) last (λ i below. eq-eqb (slice_index last i) (slice_index last 0) (sym (linked_same (h i (omega arith)))))

-- in a valid pattern all are linked
pub all_linked : (pattern : Pattern) → is_valid_pattern pattern ≡ true → (first second : ℕ) → first < length pattern.edge_vars → second < length pattern.edge_vars →
    IsLinked pattern.atoms first second
all_linked pattern valid first second first_in second_in =
    let parts = and_parts _ _ valid in
    let speaks = (and_parts _ _ (and_parts _ _ parts.0).0).1 in
    let linked = connected_linked pattern speaks parts.1 in
    after pattern.atoms (back pattern.atoms (linked first first_in)) (linked second second_in)
