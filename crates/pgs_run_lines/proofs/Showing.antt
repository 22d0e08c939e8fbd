-- What an output shows when more is put.
use Rattle.std.proofs.Common.{◌≡◌, ℕ, ◌+◌, ◌<◌, List, [], ◌∷◌, ◌++◌, length, take, drop, get_or, Option, Some, None, refl, sym, ap, subst, ◌∙◌, append_assoc, length-append, add-one, arith}
use Rattle.std.proofs.Math.Seq.{drop-cons, take-suc}
use Rattle.std.specs.Option.{option_map}
use Rattle.std.specs.List.{concat}
use Rattle.std.proofs.lemmas.List.{append-nil, take-append-drop}
use Rattle.std.proofs.lemmas.List.Folds.{concat-append}
use Rattle.pgs_world.specs.World.{Adds, AddsFront}
use Rattle.pgs_run_lines.specs.declared.stop.Stop.{Stop}
use Rattle.pgs_run_lines.specs.declared.stop.Stop.TheVariants as stops
use Rattle.pgs_run_lines.specs.Ending.{Shows, Ends}
use Rattle.pgs_run_lines.specs.Machine.{Told}
use Rattle.pgs_run_lines.specs.Pieces.{Shown, ShowsAll, ShowsFirst, ShowsTorn}

more_of : (start : Option (List ℕ)) (xs ys : List (List ℕ)) → option_map (λ (out : List ℕ). out ++ concat ys) (option_map (λ (out : List ℕ). out ++ concat xs) start) ≡ option_map (λ (out : List ℕ). out ++ concat (xs ++ ys)) start
more_of None xs ys = refl
more_of (Some out) xs ys = ap Some (append_assoc out (concat xs) (concat ys) ∙ ap (λ rest. out ++ rest) (sym (concat-append xs ys)))

none_of : (start : Option (List ℕ)) → start ≡ option_map (λ (out : List ℕ). out ++ concat []) start
none_of None = refl
none_of (Some out) = ap Some (sym (append-nil out))

-- nothing was put
pub shows_none : (start : Shown) → ShowsAll start [] start
shows_none start = record { output = none_of start.output; puts = omega arith }

output_on : (start mid now : Option (List ℕ)) (xs ys : List (List ℕ)) → mid ≡ option_map (λ (out : List ℕ). out ++ concat xs) start → now ≡ option_map (λ (out : List ℕ). out ++ concat ys) mid → now ≡ option_map (λ (out : List ℕ). out ++ concat (xs ++ ys)) start
output_on start mid now xs ys p q = q ∙ ap (λ o. option_map (λ (out : List ℕ). out ++ concat ys) o) p ∙ more_of start xs ys

puts_on : (start mid now : ℕ) (xs ys : List (List ℕ)) → mid ≡ start + length xs → now ≡ mid + length ys → now ≡ start + length (xs ++ ys)
puts_on start mid now xs ys p q = let e = length-append xs ys in omega arith

pub shows_on : (start mid now : Shown) (xs ys : List (List ℕ)) → ShowsAll start xs mid → ShowsAll mid ys now → ShowsAll start (xs ++ ys) now
shows_on start mid now xs ys p q = record {
  output = output_on start.output mid.output now.output xs ys p.output q.output;
  puts = puts_on start.puts mid.puts now.puts xs ys p.puts q.puts;
}

one_of : (old : Option (List ℕ)) (piece : List ℕ) → option_map (λ (out : List ℕ). out ++ piece) old ≡ option_map (λ (out : List ℕ). out ++ concat (piece ∷ [])) old
one_of None piece = refl
one_of (Some out) piece = ap (λ (p : List ℕ). Some (out ++ p)) (sym (append-nil piece))

-- a piece was put whole
pub shows_one : (old new : Shown) (piece : List ℕ) → Adds old.output new.output piece → new.puts ≡ old.puts + 1 → ShowsAll old (piece ∷ []) new
shows_one old new piece adds counted = record { output = adds ∙ one_of old.output piece; puts = omega arith }

-- a front of a piece was put
pub torn_one : (old new : Shown) (piece : List ℕ) → AddsFront old.output new.output piece → new.puts ≡ old.puts → ShowsTorn old (piece ∷ []) new
torn_one old new piece adds counted = record {
  first = [];
  front = adds.front;
  back = adds.back;
  later = [];
  parts = ap (λ p. p ∷ []) adds.parts;
  output = adds.added ∙ one_of old.output adds.front;
  puts = omega arith;
}

-- a put that failed isn't counted
pub torn_puts : (start now : Shown) (piece : List ℕ) → ShowsTorn start (piece ∷ []) now → now.puts ≡ start.puts
torn_puts start now piece torn =
    let parts : 1 ≡ length (torn.first ++ (torn.front ++ torn.back) ∷ torn.later) = ap length torn.parts in
    let count = length-append torn.first ((torn.front ++ torn.back) ∷ torn.later) in
    let puts = torn.puts in
    omega arith

pub first_on : (start mid now : Shown) (xs ys : List (List ℕ)) → ShowsAll start xs mid → ShowsFirst mid ys now → ShowsFirst start (xs ++ ys) now
first_on start mid now xs ys p q = record {
  first = xs ++ q.first;
  later = q.later;
  parts = ap (λ more. xs ++ more) q.parts ∙ sym (append_assoc xs q.first q.later);
  shows = shows_on start mid now xs q.first p q.shows;
}

pub torn_on : (start mid now : Shown) (xs ys : List (List ℕ)) → ShowsAll start xs mid → ShowsTorn mid ys now → ShowsTorn start (xs ++ ys) now
torn_on start mid now xs ys p q = record {
  first = xs ++ q.first;
  front = q.front;
  back = q.back;
  later = q.later;
  parts = ap (λ more. xs ++ more) q.parts ∙ sym (append_assoc xs q.first ((q.front ++ q.back) ∷ q.later));
  output = output_on start.output mid.output now.output xs (q.first ++ q.front ∷ []) p.output q.output
      ∙ ap (λ pieces. option_map (λ (out : List ℕ). out ++ concat pieces) start.output) (sym (append_assoc xs q.first (q.front ∷ [])));
  puts = puts_on start.puts mid.puts now.puts xs q.first p.puts q.puts;
}

-- all pieces, and then what a stop shows of more
pub stop_on : {E : Type 0} (stop : Stop E) (start mid now : Shown) (xs ys : List (List ℕ)) → ShowsAll start xs mid → Shows mid ys stop now → Shows start (xs ++ ys) stop now
stop_on (stops.Ended status) start mid now xs ys p q = shows_on start mid now xs ys p q
stop_on stops.ReadFault start mid now xs ys p q = first_on start mid now xs ys p q
stop_on stops.PutFault start mid now xs ys p q = torn_on start mid now xs ys p q
stop_on stops.DiskFault start mid now xs ys p q = first_on start mid now xs ys p q
stop_on stops.Memory start mid now xs ys p q = first_on start mid now xs ys p q

-- what shows some first pieces shows them too where more follow
pub first_of_more : (start now : Shown) (pieces later : List (List ℕ)) → ShowsFirst start pieces now → ShowsFirst start (pieces ++ later) now
first_of_more start now pieces later shows = record {
  first = shows.first;
  later = shows.later ++ later;
  parts = ap (λ all. all ++ later) shows.parts ∙ append_assoc shows.first shows.later later;
  shows = shows.shows;
}

pub torn_of_more : (start now : Shown) (pieces later : List (List ℕ)) → ShowsTorn start pieces now → ShowsTorn start (pieces ++ later) now
torn_of_more start now pieces later shows = record {
  first = shows.first;
  front = shows.front;
  back = shows.back;
  later = shows.later ++ later;
  parts = ap (λ all. all ++ later) shows.parts ∙ append_assoc shows.first ((shows.front ++ shows.back) ∷ shows.later) later;
  output = shows.output;
  puts = shows.puts;
}

-- all pieces are some first ones of more
pub all_first : (start now : Shown) (pieces later : List (List ℕ)) → ShowsAll start pieces now → ShowsFirst start (pieces ++ later) now
all_first start now pieces later shows = record { first = pieces; later = later; parts = refl; shows = shows }

-- all pieces, and then the end of the input
pub ends_on : {E : Type 0} (stop : Stop E) (start mid now : Shown) (xs : List (List ℕ)) (told : Told E) → ShowsAll start xs mid → Ends mid told stop now → Ends start (record { pieces = xs ++ told.pieces; status = told.status }) stop now
ends_on (stops.Ended status) start mid now xs told p q = (shows_on start mid now xs told.pieces p q.0, q.1)
ends_on stops.ReadFault start mid now xs told p q = first_on start mid now xs told.pieces p q
ends_on stops.PutFault start mid now xs told p q = torn_on start mid now xs told.pieces p q
ends_on stops.DiskFault start mid now xs told p q = first_on start mid now xs told.pieces p q
ends_on stops.Memory start mid now xs told p q = first_on start mid now xs told.pieces p q

parts_at : (pieces : List (List ℕ)) (place : ℕ) (d : List ℕ) → place < length pieces → pieces ≡ (take place pieces ++ get_or pieces place d ∷ []) ++ drop (place + 1) pieces
parts_at pieces place d within =
    sym (take-append-drop place pieces) ∙ ap (λ rest. take place pieces ++ rest) (drop-cons pieces place d within ∙ rw add-one refl)
    ∙ sym (append_assoc (take place pieces) (get_or pieces place d ∷ []) (drop (place + 1) pieces))

-- one more of these pieces was put
pub pieces_on : (start mid now : Shown) (pieces : List (List ℕ)) (place : ℕ) (d : List ℕ) → place < length pieces → ShowsAll start (take place pieces) mid → ShowsAll mid (get_or pieces place d ∷ []) now → ShowsAll start (take (place + 1) pieces) now
pieces_on start mid now pieces place d within p q =
    let e : take (place + 1) pieces ≡ take place pieces ++ get_or pieces place d ∷ [] = rw add-one (take-suc pieces place d within) in
    subst (λ front. ShowsAll start front now) (sym e) (shows_on start mid now (take place pieces) (get_or pieces place d ∷ []) p q)

-- or its put failed
pub pieces_stop : {E : Type 0} (start mid now : Shown) (pieces : List (List ℕ)) (place : ℕ) (d : List ℕ) (stop : Stop E) → place < length pieces → stop ≡ stops.PutFault → ShowsAll start (take place pieces) mid → Shows mid (get_or pieces place d ∷ []) stop now → Shows start pieces stop now
pieces_stop start mid now pieces place d stop within is p q =
    let torn : ShowsTorn mid (get_or pieces place d ∷ []) now = subst (λ s. Shows mid (get_or pieces place d ∷ []) s now) is q in
    let on : ShowsTorn start pieces now = subst (λ all. ShowsTorn start all now) (sym (parts_at pieces place d within)) (torn_of_more start now (take place pieces ++ get_or pieces place d ∷ []) (drop (place + 1) pieces) (torn_on start mid now (take place pieces) (get_or pieces place d ∷ []) p torn)) in
    subst (λ s. Shows start pieces s now) (sym is) on
