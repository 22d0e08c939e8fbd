-- The atoms of steps and paths, one at a time.
use Rattle.std.proofs.Common.{◌≡◌, ℕ, suc, ◌+◌, ◌*◌, ◌<◌, List, [], ◌∷◌, ◌++◌, length, drop, get_or, sym, ◌∙◌, ap, arith, add-one, length-append}
use Rattle.std.specs.List.{flat_map}
use Rattle.std.proofs.lemmas.List.{append_assoc, append-nil}
use Rattle.std.proofs.Math.Seq.{drop-cons}
use Rattle.pgs_syntax.specs.declared.pattern.Atom.{Atom}
use Rattle.pgs_syntax.specs.declared.raw.RawPath.{RawPath}
use Rattle.pgs_syntax.specs.declared.raw.RawStep.{RawStep}
use Rattle.pgs_resolve_declared.specs.declared.order.Numbering.{Numbering}
use Rattle.pgs_resolve_keys.specs.Patterns.{Variable, variable_at, step_atoms, path_atoms, places_of, places_of_path, places_of_step}

-- the items that are left
pub left : {X : Type 0} (xs : List X) (i : ℕ) (x : X) → i < length xs → x ≡ get_or xs i x → drop i xs ≡ x ∷ drop (i + 1) xs
left xs i x lt is = drop-cons xs i x lt ∙ ap (λ y. y ∷ drop (suc i) xs) (sym is) ∙ ap (λ n. x ∷ drop n xs) (sym (add-one i))

module _ (numbering : Numbering) (var : Variable → ℕ) where
  pub steps_next : (node place : ℕ) (step : RawStep) (steps : List RawStep) →
      step_atoms numbering var node place (step ∷ steps)
      ≡ step_atoms numbering var node place (step ∷ []) ++ step_atoms numbering var (var (variable_at (place + 1) step.node)) (place + 2) steps
  steps_next node place step steps = sym (append_assoc _ (_ ∷ []) (step_atoms numbering var (var (variable_at (place + 1) step.node)) (place + 2) steps))

  pub more_steps : (steps : List RawStep) (i : ℕ) (step : RawStep) (node next place after : ℕ) (old mid new : List Atom) → i < length steps →
      step ≡ get_or steps i step → next ≡ var (variable_at (place + 1) step.node) → after ≡ place + 2 →
      mid ++ step_atoms numbering var node place (drop i steps) ≡ old → new ≡ mid ++ step_atoms numbering var node place (step ∷ []) →
      new ++ step_atoms numbering var next after (drop (i + 1) steps) ≡ old
  more_steps steps i step node next place after old mid new lt is n a before pushed =
      let rest : List RawStep = drop (i + 1) steps in
      ap (λ atoms. atoms ++ step_atoms numbering var next after rest) pushed
      ∙ ap (λ m. (mid ++ step_atoms numbering var node place (step ∷ [])) ++ step_atoms numbering var m after rest) n
      ∙ ap (λ p. (mid ++ step_atoms numbering var node place (step ∷ [])) ++ step_atoms numbering var (var (variable_at (place + 1) step.node)) p rest) a
      ∙ append_assoc mid _ _ ∙ ap (λ atoms. mid ++ atoms) (sym (steps_next node place step rest))
      ∙ ap (λ xs. mid ++ step_atoms numbering var node place xs) (sym (left steps i step lt is)) ∙ before

pub three_more : (old one two three : List Atom) (a b : List Atom) (e : Atom) → one ≡ old ++ a → two ≡ one ++ b → three ≡ two ++ e ∷ [] →
    three ≡ old ++ (a ++ b ++ e ∷ [])
three_more old one two three a b e x y z =
    z ∙ ap (λ atoms. atoms ++ e ∷ []) (y ∙ ap (λ atoms. atoms ++ b) x ∙ append_assoc old a b) ∙ append_assoc old (a ++ b) (e ∷ [])

module _ (numbering : Numbering) (var : Variable → ℕ) where
  pub paths_next : (place : ℕ) (path : RawPath) (paths : List RawPath) →
      path_atoms numbering var place (path ∷ paths)
      ≡ path_atoms numbering var place (path ∷ []) ++ path_atoms numbering var (place + 1 + 2 * length path.steps) paths
  paths_next place path paths =
      ap (λ atoms. atoms ++ path_atoms numbering var (place + 1 + 2 * length path.steps) paths) (sym (append-nil _))

  pub more_paths : (paths : List RawPath) (i : ℕ) (path : RawPath) (place after : ℕ) (old mid new : List Atom) → i < length paths →
      path ≡ get_or paths i path → after ≡ place + 1 + 2 * length path.steps →
      mid ++ path_atoms numbering var place (drop i paths) ≡ old → new ≡ mid ++ path_atoms numbering var place (path ∷ []) →
      new ++ path_atoms numbering var after (drop (i + 1) paths) ≡ old
  more_paths paths i path place after old mid new lt is a before pushed =
      let rest : List RawPath = drop (i + 1) paths in
      ap (λ atoms. atoms ++ path_atoms numbering var after rest) pushed
      ∙ ap (λ p. (mid ++ path_atoms numbering var place (path ∷ [])) ++ path_atoms numbering var p rest) a
      ∙ append_assoc mid _ _ ∙ ap (λ atoms. mid ++ atoms) (sym (paths_next place path rest))
      ∙ ap (λ xs. mid ++ path_atoms numbering var place xs) (sym (left paths i path lt is)) ∙ before

-- how many places paths have
pub step_places : (steps : List RawStep) → length (flat_map places_of_step steps) ≡ 2 * length steps
step_places [] = omega arith
step_places (step ∷ steps) = let h = step_places steps in omega (arith, h)

pub path_places : (paths : List RawPath) (i : ℕ) (path : RawPath) → i < length paths → path ≡ get_or paths i path →
    length (places_of (drop i paths)) ≡ 1 + 2 * length path.steps + length (places_of (drop (i + 1) paths))
path_places paths i path lt is =
    let e = ap (λ xs. length (places_of xs)) (left paths i path lt is) in
    let l = length-append (places_of_path path) (places_of (drop (i + 1) paths)) in
    let s = step_places path.steps in
    omega (arith, e, l, s)

pub two_more : (old mid new : List Atom) (a b : List Atom) → mid ≡ old ++ a → new ≡ mid ++ b → new ≡ old ++ (a ++ b ++ [])
two_more old mid new a b x y =
    y ∙ ap (λ atoms. atoms ++ b) x ∙ append_assoc old a b ∙ ap (λ atoms. old ++ atoms) (sym (append-nil (a ++ b)))
