-- Classes of variables: each has the kind of its members, an edge is alone, and the ends of one edge are of one class.
use Rattle.std.proofs.Common.{◌≡◌, ℕ, ◌<◌, Bool, true, false, ◌&&◌, ◌==◌, cond, List, [], ◌∷◌, map, length, slice_index, slice_get, Some, refl, sym, ◌∙◌, ap, subst, arith}
use Rattle.std.specs.List.{list_any, list_all, enumerate_from}
use Rattle.std.proofs.lemmas.Bool.{true≢false, and_parts, and_from, eqb-true, eq-eqb}
use Rattle.std.proofs.lemmas.List.{get_or-map, length-map}
use Rattle.std.proofs.lemmas.List.FromFn.{length-enumerate_from, get_or-enumerate_from}
use Rattle.std.proofs.lemmas.Option.{same_Some, slice_get_within}
use Rattle.pgs_syntax.specs.declared.pattern.Atom.{Atom}
use Rattle.pgs_syntax.specs.declared.pattern.Atom.TheVariants.{Ends, HasLabel, FitsNode, FitsEdge, Equals}
use Rattle.pgs_syntax.specs.Valid.{speaks_of, gives_ends, together}
use Rattle.pgs_key_standing.specs.Joint.{classes_after, numbers}
use Rattle.pgs_key_standing.specs.Placed.{ends_of}
use Rattle.pgs_key_standing.proofs.Renamings.{SpeaksOfEnds, speaks_ends}

pub record AreClasses (kinds : List Bool) (classes : List ℕ) : Type 0 where
  pub size : length classes ≡ length kinds
  pub kind : (var : ℕ) → var < length kinds → slice_get kinds (slice_index classes var) ≡ slice_get kinds var
  pub alone : (var : ℕ) → slice_get kinds var ≡ Some true → slice_index classes var ≡ var

-- ---- at first

pub number_at : (kinds : List Bool) (var : ℕ) → var < length kinds → slice_index (numbers kinds) var ≡ var
number_at kinds var below =
    get_or-map (λ (place : ℕ × Bool). place.0) (enumerate_from 0 kinds) var (0, false) 0 (let size = length-enumerate_from 0 kinds in omega arith)
    ∙ ap (λ (place : ℕ × Bool). place.0) (get_or-enumerate_from 0 kinds var (0, false) below) ∙ omega arith

pub at_first : (kinds : List Bool) → AreClasses kinds (numbers kinds)
at_first kinds = record {
  size = length-map (enumerate_from 0 kinds) _ ∙ length-enumerate_from 0 kinds;
  kind = λ var below. ap (slice_get kinds) (number_at kinds var below);
  alone = λ var is. number_at kinds var (slice_get_within kinds var true is);
}

-- ---- two classes put together

at_map : (f : ℕ → ℕ) (xs : List ℕ) (i : ℕ) → i < length xs → slice_index (map f xs) i ≡ f (slice_index xs i)
at_map f xs i below = get_or-map f xs i 0 0 below

module _ (a b : ℕ) (classes : List ℕ) where
  together_at : (i : ℕ) → i < length classes →
      slice_index (together a b classes) i ≡ cond (slice_index classes i == slice_index classes a) (slice_index classes b) (slice_index classes i)
  together_at i below = at_map (λ class. cond (class == slice_index classes a) (slice_index classes b) class) classes i below

  together_keeps : (i j : ℕ) → i < length classes → j < length classes → slice_index classes i ≡ slice_index classes j →
      slice_index (together a b classes) i ≡ slice_index (together a b classes) j
  together_keeps i j first second same =
      together_at i first ∙ ap (λ (class : ℕ). cond (class == slice_index classes a) (slice_index classes b) class) same ∙ sym (together_at j second)

  together_joins : a < length classes → b < length classes → slice_index (together a b classes) a ≡ slice_index (together a b classes) b
  together_joins first second =
      together_at a first
      ∙ ap (λ t. cond t (slice_index classes b) (slice_index classes a)) (eq-eqb (slice_index classes a) (slice_index classes a) refl)
      ∙ sym (together_at b second ∙ same (slice_index classes b == slice_index classes a))
    where
      same : (t : Bool) → cond t (slice_index classes b) (slice_index classes b) ≡ slice_index classes b
      same true = refl
      same false = refl

  -- what holds of each number and its class does so still, where it does of the two
  pub together_carries : (Claim : ℕ → ℕ → Type 0) (i : ℕ) → i < length classes → Claim i (slice_index classes i) →
      (slice_index classes i ≡ slice_index classes a → Claim i (slice_index classes i) → Claim i (slice_index classes b)) → Claim i (slice_index (together a b classes) i)
  together_carries Claim i below before moved = subst (Claim i) (sym (together_at i below)) (by (slice_index classes i == slice_index classes a) refl)
    where
      by : (t : Bool) → (slice_index classes i == slice_index classes a) ≡ t → Claim i (cond t (slice_index classes b) (slice_index classes i))
      by true e = moved (eqb-true _ _ e) before
      by false e = before

pub together_are : (kinds : List Bool) (a b : ℕ) (classes : List ℕ) → slice_get kinds a ≡ Some false → slice_get kinds b ≡ Some false → AreClasses kinds classes →
    AreClasses kinds (together a b classes)
together_are kinds a b classes first second are = record {
  size = length-map classes _ ∙ are.size;
  kind = λ var below.
      together_carries a b classes (λ v class. slice_get kinds class ≡ slice_get kinds v) var (within var below) (are.kind var below)
      (λ same before. of_b ∙ sym of_a ∙ sym (ap (slice_get kinds) same) ∙ before);
  alone = λ var is.
      let below = slice_get_within kinds var true is in
      together_carries a b classes (λ v class. class ≡ v) var (within var below) (are.alone var is)
      (λ same before. absurd (true≢false (same_Some true false (sym is ∙ ap (slice_get kinds) (sym before ∙ same) ∙ of_a))));
}
  where
    within : (var : ℕ) → var < length kinds → var < length classes
    within var below = let size = are.size in omega arith

    of_a : slice_get kinds (slice_index classes a) ≡ Some false
    of_a = are.kind a (slice_get_within kinds a false first) ∙ first

    of_b : slice_get kinds (slice_index classes b) ≡ Some false
    of_b = are.kind b (slice_get_within kinds b false second) ∙ second

-- ---- after all atoms

-- each edge has ends, which are nodes
abbrev pub HaveEnds : List Bool → List Atom → Type 0
HaveEnds kinds atoms =
    (edge : ℕ) → slice_get kinds edge ≡ Some true →
    (slice_get kinds (ends_of atoms edge).0 ≡ Some false) × (slice_get kinds (ends_of atoms edge).1 ≡ Some false) × (list_any (gives_ends edge) atoms ≡ true)

-- whether the ends that an atom gives are of the classes of those that the edge is first given
abbrev pub is_joined : List Atom → List ℕ → Atom → Bool
is_joined all classes (Ends edge source target) =
    slice_index classes (ends_of all edge).0 == slice_index classes source && slice_index classes (ends_of all edge).1 == slice_index classes target
is_joined all classes _ = true

module _ (kinds : List Bool) (all : List Atom) (have : HaveEnds kinds all) where
  abbrev pub step : ℕ → ℕ → ℕ → List ℕ → List ℕ
  step edge source target classes = together target (ends_of all edge).1 (together source (ends_of all edge).0 classes)

  step_are : (edge source target : ℕ) (classes : List ℕ) → SpeaksOfEnds kinds edge source target → AreClasses kinds classes → AreClasses kinds (step edge source target classes)
  step_are edge source target classes of are =
      let ends = have edge of.edge_is in
      together_are kinds target (ends_of all edge).1 (together source (ends_of all edge).0 classes) of.target_is ends.1
      (together_are kinds source (ends_of all edge).0 classes of.source_is ends.0 are)

  pub after_are : (atoms : List Atom) (classes : List ℕ) → list_all (speaks_of kinds) atoms ≡ true → AreClasses kinds classes → AreClasses kinds (classes_after all classes atoms)
  after_are [] classes speak are = are
  after_are (Ends edge source target ∷ atoms) classes speak are =
      let parts = and_parts (speaks_of kinds (Ends edge source target)) (list_all (speaks_of kinds) atoms) speak in
      after_are atoms (step edge source target classes) parts.1 (step_are edge source target classes (speaks_ends kinds edge source target parts.0) are)
  after_are (HasLabel var label ∷ atoms) classes speak are = after_are atoms classes (and_parts _ _ speak).1 are
  after_are (FitsNode var number ∷ atoms) classes speak are = after_are atoms classes (and_parts _ _ speak).1 are
  after_are (FitsEdge var number ∷ atoms) classes speak are = after_are atoms classes (and_parts _ _ speak).1 are
  after_are (Equals var key value ∷ atoms) classes speak are = after_are atoms classes (and_parts _ _ speak).1 are

  -- who was in one class stays so
  abbrev Same : List ℕ → ℕ → ℕ → Type 0
  Same classes i j = slice_index classes i ≡ slice_index classes j

  step_keeps : (edge source target : ℕ) (classes : List ℕ) (i j : ℕ) → length classes ≡ length kinds → i < length kinds → j < length kinds → Same classes i j →
      Same (step edge source target classes) i j
  step_keeps edge source target classes i j size first second same =
      let once = length-map classes (λ (class : ℕ). cond (class == slice_index classes source) (slice_index classes (ends_of all edge).0) class) in
      together_keeps target (ends_of all edge).1 (together source (ends_of all edge).0 classes) i j (omega arith) (omega arith)
      (together_keeps source (ends_of all edge).0 classes i j (omega arith) (omega arith) same)

  after_keeps : (atoms : List Atom) (classes : List ℕ) (i j : ℕ) → list_all (speaks_of kinds) atoms ≡ true → AreClasses kinds classes → i < length kinds → j < length kinds →
      Same classes i j → Same (classes_after all classes atoms) i j
  after_keeps [] classes i j speak are first second same = same
  after_keeps (Ends edge source target ∷ atoms) classes i j speak are first second same =
      let parts = and_parts (speaks_of kinds (Ends edge source target)) (list_all (speaks_of kinds) atoms) speak in
      after_keeps atoms (step edge source target classes) i j parts.1 (step_are edge source target classes (speaks_ends kinds edge source target parts.0) are) first second
      (step_keeps edge source target classes i j are.size first second same)
  after_keeps (HasLabel var label ∷ atoms) classes i j speak are first second same = after_keeps atoms classes i j (and_parts _ _ speak).1 are first second same
  after_keeps (FitsNode var number ∷ atoms) classes i j speak are first second same = after_keeps atoms classes i j (and_parts _ _ speak).1 are first second same
  after_keeps (FitsEdge var number ∷ atoms) classes i j speak are first second same = after_keeps atoms classes i j (and_parts _ _ speak).1 are first second same
  after_keeps (Equals var key value ∷ atoms) classes i j speak are first second same = after_keeps atoms classes i j (and_parts _ _ speak).1 are first second same

  step_joins : (edge source target : ℕ) (classes : List ℕ) → SpeaksOfEnds kinds edge source target → length classes ≡ length kinds →
      Same (step edge source target classes) source (ends_of all edge).0 × Same (step edge source target classes) target (ends_of all edge).1
  step_joins edge source target classes of size =
      let ends = have edge of.edge_is in
      let once = length-map classes (λ (class : ℕ). cond (class == slice_index classes source) (slice_index classes (ends_of all edge).0) class) in
      let s = slice_get_within kinds source false of.source_is in
      let t = slice_get_within kinds target false of.target_is in
      let first = slice_get_within kinds (ends_of all edge).0 false ends.0 in
      let second = slice_get_within kinds (ends_of all edge).1 false ends.1 in (
        together_keeps target (ends_of all edge).1 (together source (ends_of all edge).0 classes) source (ends_of all edge).0 (omega arith) (omega arith)
            (together_joins source (ends_of all edge).0 classes (omega arith) (omega arith)),
        together_joins target (ends_of all edge).1 (together source (ends_of all edge).0 classes) (omega arith) (omega arith),
      )

  pub after_joins : (atoms : List Atom) (classes : List ℕ) → list_all (speaks_of kinds) atoms ≡ true → AreClasses kinds classes →
      list_all (is_joined all (classes_after all classes atoms)) atoms ≡ true
  after_joins [] classes speak are = refl
  after_joins (Ends edge source target ∷ atoms) classes speak are =
      let parts = and_parts (speaks_of kinds (Ends edge source target)) (list_all (speaks_of kinds) atoms) speak in
      let of = speaks_ends kinds edge source target parts.0 in
      let ends = have edge of.edge_is in
      let now = step_are edge source target classes of are in
      let joins = step_joins edge source target classes of are.size in
      let first = after_keeps atoms (step edge source target classes) source (ends_of all edge).0 parts.1 now (slice_get_within kinds source false of.source_is)
      (slice_get_within kinds (ends_of all edge).0 false ends.0) joins.0 in
      let second = after_keeps atoms (step edge source target classes) target (ends_of all edge).1 parts.1 now (slice_get_within kinds target false of.target_is)
      (slice_get_within kinds (ends_of all edge).1 false ends.1) joins.1 in
      and_from _ _ (and_from _ _ (eq-eqb _ _ (sym first)) (eq-eqb _ _ (sym second))) (after_joins atoms (step edge source target classes) parts.1 now)
  after_joins (HasLabel var label ∷ atoms) classes speak are = after_joins atoms classes (and_parts _ _ speak).1 are
  after_joins (FitsNode var number ∷ atoms) classes speak are = after_joins atoms classes (and_parts _ _ speak).1 are
  after_joins (FitsEdge var number ∷ atoms) classes speak are = after_joins atoms classes (and_parts _ _ speak).1 are
  after_joins (Equals var key value ∷ atoms) classes speak are = after_joins atoms classes (and_parts _ _ speak).1 are
