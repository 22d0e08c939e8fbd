-- Pieces that are put one after another.
use Rattle.std.proofs.Common.{◌≡◌, ℕ, ◌+◌, List, [], ◌∷◌, ◌++◌, ◌<◌, length, get_or, take, drop, Result, Ok, Err, refl, sym, ap, subst, ◌∙◌}
use Rattle.std.specs.Result.{IsErrAnd}
use Rattle.std.proofs.lemmas.List.{take-append-drop, take_more}
use Rattle.std.proofs.lemmas.Result.{err_from_is_err_and}
use Rattle.pgs_run_lines.specs.declared.stop.Stop.{Stop}
use Rattle.pgs_run_lines.specs.declared.stop.Stop.TheVariants as stops
use Rattle.pgs_run_lines.specs.AreasKept.{keeps_none, keeps_on}
use Rattle.pgs_run_lines.specs.Ending.{Shows}
use Rattle.pgs_run_lines.specs.Pieces.{Shown, shown_of}
use Rattle.pgs_run_lines.specs.Puts.{PutsAll, PutsUntil, Puts, StopsPutting}
use Rattle.pgs_run_lines.proofs.Causes.{cause_on}
use Rattle.pgs_run_lines.proofs.Showing.{shows_none, shows_on, stop_on, first_of_more, torn_of_more}
use Rattle.pgs_world.specs.Moment.{IsTimed}
use Rattle.pgs_world.specs.World.{View}

-- nothing was put
pub puts_none : (view : View) → IsTimed view → PutsAll view [] view
puts_none view timed = record { shows = shows_none (shown_of view); faults = refl; areas = keeps_none view timed }

-- there was no memory before the first piece
pub stops_first : {E : Type 0} (view : View) → IsTimed view → (pieces : List (List ℕ)) → PutsUntil {E = E} view pieces stops.Memory view
stops_first view timed pieces = record {
  only = tt;
  shows = record { first = []; later = pieces; parts = refl; shows = shows_none (shown_of view) };
  cause = refl;
  areas = keeps_none view timed;
}

-- all these, and then all those
pub puts_on : {old mid new : View} {xs ys : List (List ℕ)} → PutsAll old xs mid → PutsAll mid ys new → PutsAll old (xs ++ ys) new
puts_on {old} {mid} {new} {xs} {ys} p q = record {
  shows = shows_on (shown_of old) (shown_of mid) (shown_of new) xs ys p.shows q.shows;
  faults = q.faults ∙ p.faults;
  areas = keeps_on old mid new p.areas q.areas;
}

-- all these, and then some of those
pub stops_on : {E : Type 0} {old mid new : View} {xs ys : List (List ℕ)} {stop : Stop E} → PutsAll old xs mid → PutsUntil mid ys stop new → PutsUntil old (xs ++ ys) stop new
stops_on {E} {old} {mid} {new} {xs} {ys} {stop} p q = record {
  only = q.only;
  shows = stop_on stop (shown_of old) (shown_of mid) (shown_of new) xs ys p.shows q.shows;
  cause = cause_on _ _ _ stop p.faults q.cause;
  areas = keeps_on old mid new p.areas q.areas;
}

until_more : {E : Type 0} (stop : Stop E) (start now : Shown) (pieces later : List (List ℕ)) → StopsPutting stop → Shows start pieces stop now → Shows start (pieces ++ later) stop now
until_more (stops.Ended status) start now pieces later only p = absurd only
until_more stops.ReadFault start now pieces later only p = absurd only
until_more stops.DiskFault start now pieces later only p = absurd only
until_more stops.PutFault start now pieces later only p = torn_of_more start now pieces later p
until_more stops.Memory start now pieces later only p = first_of_more start now pieces later p

-- some of these are some of more
pub stops_in : {E : Type 0} {old new : View} {pieces : List (List ℕ)} {stop : Stop E} (later : List (List ℕ)) → PutsUntil old pieces stop new → PutsUntil old (pieces ++ later) stop new
stops_in {E} {old} {new} {pieces} {stop} later p = record {
  only = p.only;
  shows = until_more stop (shown_of old) (shown_of new) pieces later p.only p.shows;
  cause = p.cause;
  areas = p.areas;
}

-- all these, and then those, as a call put them
pub result_on : {T E : Type 0} {old mid : View} {xs : List (List ℕ)} (new : View) (ys : List (List ℕ)) (result : Result T (Stop E)) → PutsAll old xs mid → Puts mid ys result new → Puts old (xs ++ ys) result new
result_on new ys (Ok done) p q = puts_on p q
result_on new ys (Err stop) p q = stops_on p q

-- what a call says that hands the stop on
pub exits : {T E : Type 0} {old new : View} {pieces : List (List ℕ)} {stop : Stop E} (result : Result T (Stop E)) → IsErrAnd result (λ given. given ≡ stop) → PutsUntil old pieces stop new → Puts old pieces result new
exits result handed p = let exit = err_from_is_err_and result handed in rw (exit.1, exit.2) p

-- the items before a place, and the one there
pub at_place : {X : Type 0} (items : List X) (place : ℕ) (x : X) → place < length items → x ≡ get_or items place x → take (place + 1) items ≡ take place items ++ x ∷ []
at_place items place x within is = take_more items place x within ∙ ap (λ y. take place items ++ y ∷ []) (sym is)

-- A loop over items, which tell pieces: one more item, with its pieces.
module _ {X : Type 0} (tells : List X → List (List ℕ)) (append : (xs ys : List X) → tells (xs ++ ys) ≡ tells xs ++ tells ys) (items : List X) (place : ℕ) (x : X)
    (more : take (place + 1) items ≡ take place items ++ x ∷ []) (pieces : List (List ℕ)) (one : tells (x ∷ []) ≡ pieces) where
  next : tells (take (place + 1) items) ≡ tells (take place items) ++ pieces
  next = ap tells more ∙ append (take place items) (x ∷ []) ∙ ap (λ own. tells (take place items) ++ own) one

  parts : tells items ≡ (tells (take place items) ++ pieces) ++ tells (drop (place + 1) items)
  parts = ap tells (sym (take-append-drop (place + 1) items)) ∙ append (take (place + 1) items) (drop (place + 1) items)
      ∙ ap (λ before. before ++ tells (drop (place + 1) items)) next

  -- they were put
  pub item_on : {old mid new : View} → PutsAll old (tells (take place items)) mid → PutsAll mid pieces new → PutsAll old (tells (take (place + 1) items)) new
  item_on {old} {mid} {new} p q = subst (λ all. PutsAll old all new) (sym next) (puts_on p q)

  -- or the putting stopped
  pub item_stop : {E : Type 0} {old mid new : View} {stop : Stop E} → PutsAll old (tells (take place items)) mid → PutsUntil mid pieces stop new → PutsUntil old (tells items) stop new
  item_stop {E} {old} {mid} {new} {stop} p q =
      subst (λ all. PutsUntil old all stop new) (sym parts) (stops_in (tells (drop (place + 1) items)) (stops_on p q))
