-- The lines of some types and keys, and of more, one after another.
use Rattle.std.proofs.Common.{◌≡◌, ℕ, ◌+◌, ◌<◌, true, false, List, [], ◌∷◌, ◌++◌, map, length, get_or, take, refl, ap, ◌∙◌, arith}
use Rattle.std.specs.Prelude.{is_some}
use Rattle.std.proofs.lemmas.List.{append-nil, map-append, take_more}
use Rattle.std.proofs.lemmas.List.Concat.{flat_map-append}
use Rattle.std.proofs.lemmas.List.Elements.{filter_map-append}
use Rattle.std.proofs.lemmas.List.FromFn.{length-range_with_len, get_or-range_with_len}
use Rattle.pgs_answer.specs.Lines.{absent_line, key_value_line}
use Rattle.pgs_base.specs.declared.element.Elem.{Elem}
use Rattle.pgs_base.specs.declared.part.Part.{Part}
use Rattle.pgs_base.specs.Graph.{Graph}
use Rattle.pgs_store.specs.Explained.{types_of, key_values_of}
use Rattle.pgs_syntax.specs.declared.resolved.Resolved.{Resolved}
use Rattle.pgs_syntax.specs.declared.resolved.TypeNo.{TypeNo}
use Rattle.pgs_syntax.specs.Matches.{carried}
use Rattle.pgs_run_store.specs.Explaining.{line_of_type, type_lines, key_lines, keys_lines, key_numbers, explained}

module _ (resolved : Resolved) where
  pub type_lines-append : (xs ys : List TypeNo) → type_lines resolved (xs ++ ys) ≡ type_lines resolved xs ++ type_lines resolved ys
  type_lines-append xs ys = filter_map-append (line_of_type resolved) xs ys

  -- the numbers of the keys before a place, and the number of the key there
  pub next_number : (place : ℕ) → place < length resolved.guard.keys → take (place + 1) (key_numbers resolved) ≡ take place (key_numbers resolved) ++ (place + 1) ∷ []
  next_number place within =
      let count = length resolved.guard.keys in
      let number : get_or (key_numbers resolved) place 0 ≡ place + 1 = get_or-range_with_len 1 count place 0 within ∙ omega arith in
      take_more (key_numbers resolved) place 0 (omega (arith, length-range_with_len 1 count))
      ∙ ap (λ n. take place (key_numbers resolved) ++ n ∷ []) number

  module _ (g : Graph) (elem : Elem) where
    pub keys_lines-append : (xs ys : List ℕ) → keys_lines resolved g elem (xs ++ ys) ≡ keys_lines resolved g elem xs ++ keys_lines resolved g elem ys
    keys_lines-append xs ys = flat_map-append (λ number. key_lines number (key_values_of resolved g number elem)) xs ys

    pub keys_lines_one : (number : ℕ) → keys_lines resolved g elem (number ∷ []) ≡ key_lines number (key_values_of resolved g number elem)
    keys_lines_one number = append-nil (key_lines number (key_values_of resolved g number elem))

    -- what is told of an element, by whether it is in the graph
    pub told_there : is_some (carried g elem) ≡ true → (explained resolved g elem).pieces ≡ type_lines resolved (types_of resolved g elem) ++ keys_lines resolved g elem (key_numbers resolved)
    told_there there = rw there refl

    pub told_absent : is_some (carried g elem) ≡ false → (explained resolved g elem).pieces ≡ absent_line elem ∷ []
    told_absent absent = rw absent refl

module _ (number : ℕ) where
  pub value_lines-append : (xs ys : List (List Part)) → map (key_value_line number) (xs ++ ys) ≡ map (key_value_line number) xs ++ map (key_value_line number) ys
  value_lines-append xs ys = map-append (key_value_line number) xs ys
