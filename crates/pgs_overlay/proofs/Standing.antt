-- Where an edge stands in a list that stands over the base's.
use Rattle.std.proofs.Common.{◌≡◌, ◌∙◌, ℕ, ◌+◌, ◌-◌, ◌<◌, ◌≤◌, List, [], ◌∷◌, ◌++◌, length, take, drop, min, get_or, Some, ap, sym, refl, arith, length-drop, length-take}
use Rattle.std.specs.List.{flat_map, slice_get}
use Rattle.std.proofs.lemmas.List.Concat.{flat_map-append}
use Rattle.std.proofs.lemmas.List.{append-nil, get_or-drop, get_or-take, get_or_default}
use Rattle.std.proofs.lemmas.Option.{slice_get-get_or}
use Rattle.pgs_base.specs.declared.element.EdgeId.{EdgeId}
use Rattle.pgs_tables_edges.specs.Numbers.{numbered}
use Rattle.pgs_tables_edges.specs.Starts.{StartFrom, IsPlaced}
use Rattle.pgs_tables_edges.proofs.Joined.{start_is, item_in, IsItemIn, placed_push}
use Rattle.pgs_overlay.specs.declared.part.Part.{Part}
use Rattle.pgs_overlay.specs.declared.part.Part.TheVariants.{Range, Added}
use Rattle.pgs_overlay.specs.declared.part.Placed.{Placed}
use Rattle.pgs_overlay.specs.declared.edited_list.EditedList.{EditedList}
use Rattle.pgs_overlay.specs.Parts.{part_items, items, first_item, built, StandsOn, IsBuiltOn}

abbrev start_of : Placed → ℕ
start_of placed = placed.start

module _ (xs : List EdgeId) (parts : List Placed) (s : StartFrom start_of (first_item xs) (items xs) 0 parts) (i : ℕ) (d : Placed) (lt : i < length parts) where
  pub start_here : (get_or parts i d).start ≡ length (flat_map (items xs) (take i parts))
  start_here = start_is start_of (first_item xs) (items xs) parts i (get_or parts i d) s lt (get_or_default parts i d (get_or parts i d) lt)

  pub stands_in : (place : ℕ) → length (flat_map (items xs) (take i parts)) ≤ place → place < length (flat_map (items xs) (take (i + 1) parts))
      → IsItemIn start_of (first_item xs) (items xs) parts i (get_or parts i d) s lt (get_or_default parts i d (get_or parts i d) lt) place
  stands_in place before after =
      item_in start_of (first_item xs) (items xs) parts i (get_or parts i d) s lt (get_or_default parts i d (get_or parts i d) lt) place before after

-- a place in a range
pub range_within : (xs : List EdgeId) (from to k : ℕ) → k < length (drop from (take to xs)) → (from + k < to) × (from + k < length xs)
range_within xs from to k lt =
    let len : length (drop from (take to xs)) ≡ min to (length xs) - from = length-drop from (take to xs) ∙ ap (λ n. n - from) (length-take to xs) in
    (omega (arith, len, lt), omega (arith, len, lt))

-- what stands at a place of a range
pub range_read : (xs : List EdgeId) (from to k : ℕ) → k < length (drop from (take to xs))
    → slice_get xs (from + k) ≡ Some (get_or (drop from (take to xs)) k (numbered 0))
range_read xs from to k lt =
    let within = range_within xs from to k lt in
    slice_get-get_or xs (from + k) (numbered 0) within.1
    ∙ ap Some (sym (get_or-take to xs (from + k) (numbered 0) within.0) ∙ sym (get_or-drop from (take to xs) k (numbered 0)))

some_first : (ys : List EdgeId) → 0 < length ys → slice_get ys 0 ≡ Some (get_or ys 0 (numbered 0))
some_first ys lt = slice_get-get_or ys 0 (numbered 0) lt

-- a part of so many edges built last
pub built_on : (xs : List EdgeId) (old : EditedList) (part : Part) (count : ℕ) (new : EditedList) → StandsOn xs old
    → length (part_items xs part) ≡ count → 0 < count
    → new.parts.items ≡ old.parts.items ++ record { start = old.len; part = part } ∷ [] → new.len ≡ old.len + count → new.done ≡ old.done
    → IsBuiltOn xs (part_items xs part) old.done old new
built_on xs old part count new stands long some parts len done =
    let placed : Placed = record { start = old.len; part = part } in
    let all : IsPlaced start_of (first_item xs) (items xs) new.len (old.parts.items ++ placed ∷ []) =
    placed_push start_of (first_item xs) (items xs) old.len new.len old.parts.items placed stands.placed refl
    (some_first (part_items xs part) (omega (arith, long, some))) (omega (arith, len, long)) in
    record {
      stands = record {
        placed = rw parts all;
        in_range = omega (arith, done, stands.in_range);
      };
      edges = ap (flat_map (items xs)) parts ∙ flat_map-append (items xs) old.parts.items (placed ∷ [])
          ∙ ap (λ l. built xs old ++ l) (append-nil (part_items xs part));
      done = done;
    }

abbrev pub unread : Placed
unread = record { start = 0; part = Range 0 0 }

-- what stands at a place that is built, in its part
pub record IsInPart (xs : List EdgeId) (list : EditedList) (placed : Placed) (place : ℕ) : Type 0 where
  pub begun : placed.start ≤ place
  pub in_range : place - placed.start < length (items xs placed)
  pub item : slice_get (built xs list) place ≡ Some (get_or (items xs placed) (place - placed.start) (numbered 0))

-- the part in which a place stands
abbrev pub IsPartOf : List EdgeId → List Placed → ℕ → ℕ → Type 0
IsPartOf xs parts place i = (i < length parts) × (length (flat_map (items xs) (take i parts)) ≤ place)
    × (place < length (flat_map (items xs) (take (i + 1) parts)))

pub in_part : (xs : List EdgeId) (list : EditedList) (parts : List Placed) → parts ≡ list.parts.items → StandsOn xs list
    → (place : ℕ) → place < list.len → (i : ℕ)
    → ((ys : List EdgeId) → StartFrom start_of (first_item ys) (items ys) 0 parts → place < length (flat_map (items ys) parts) → IsPartOf ys parts place i)
    → IsInPart xs list (get_or parts i unread) place
in_part xs list parts e stands place within i found =
    let s : StartFrom start_of (first_item xs) (items xs) 0 parts = rw e stands.placed.starts in
    let all : place < length (flat_map (items xs) parts) =
    omega (arith, stands.placed.counted, ap (λ l. length (flat_map (items xs) l)) e) in
    let at = found xs s all in
    let stands_there = stands_in xs parts s i unread at.0 place at.1 at.2 in
    record {
      begun = stands_there.begun;
      in_range = stands_there.in_range;
      item = ap (λ l. slice_get (flat_map (items xs) l) place) (sym e) ∙ slice_get-get_or (flat_map (items xs) parts) place (numbered 0) all
          ∙ ap Some (sym (stands_there.item (numbered 0)));
    }

-- a place in a range is a place of the base's list
pub read_range : (xs : List EdgeId) (list : EditedList) (placed : Placed) (place from to : ℕ) → IsInPart xs list placed place
    → placed.part ≡ Range from to → slice_get xs (from + min (place - placed.start) (to - from)) ≡ slice_get (built xs list) place
read_range xs list placed place from to inside is =
    let k : ℕ = place - placed.start in
    let same : items xs placed ≡ drop from (take to xs) = ap (part_items xs) is in
    let within : k < length (drop from (take to xs)) = omega (arith, inside.in_range, ap length same) in
    let least : min k (to - from) ≡ k = omega (arith, (range_within xs from to k within).0) in
    ap (λ n. slice_get xs (from + n)) least ∙ range_read xs from to k within
    ∙ ap (λ l. Some (get_or l k (numbered 0))) (sym same) ∙ sym inside.item

-- an edge that is put in is a part of its own
pub read_added : (xs : List EdgeId) (list : EditedList) (placed : Placed) (place : ℕ) (edge : EdgeId) → IsInPart xs list placed place
    → placed.part ≡ Added edge → Some edge ≡ slice_get (built xs list) place
read_added xs list placed place edge inside is =
    let same : items xs placed ≡ edge ∷ [] = ap (part_items xs) is in
    let first : place - placed.start ≡ 0 = omega (arith, inside.in_range, ap length same) in
    sym (inside.item ∙ ap (λ l. Some (get_or l (place - placed.start) (numbered 0))) same
    ∙ ap (λ n. Some (get_or (edge ∷ []) n (numbered 0))) first)
