-- How calls on a world compose, and what follows on a settled one.
use Rattle.std.proofs.Common.{◌≡◌, ◌⊎◌, inl, inr, ⊎_elim, ℕ, ◌≤◌, List, IsTrue, refl, sym, ◌∙◌, ap, subst, arith, Some, ◌++◌}
use Rattle.std.specs.Option.{option_map}
use Rattle.pgs_world.specs.declared.area.Area.{Area}
use Rattle.pgs_world.specs.declared.area.Area.TheVariants.{A, B}
use Rattle.pgs_world.specs.World.{Triple, View, part, other, output_of, Adds}
use Rattle.pgs_world.specs.Disk.{IsSameBeside, PutsFront}
use Rattle.pgs_world.specs.Moment.{IsTimed, Passes, StopsBy, EachSince, IsQuiet, IsSynced, IsSettled}

-- before the first call
pub passes_none : (view : View) → IsTimed view → Passes view view
passes_none view timed =
    record {
      honest = refl;
      tells_bytes = refl;
      tells_output = refl;
      later = omega arith;
      area_faults = omega arith;
      put_faults = omega arith;
      puts = omega arith;
      since = λ t c le left. inl left;
      past = λ t c le left. left;
      timed = timed;
    }

-- one call, and then another
pub passes_on : (old mid new : View) → Passes old mid → Passes mid new → Passes old new
passes_on old mid new p q =
    record {
      honest = q.honest ∙ p.honest;
      tells_bytes = q.tells_bytes ∙ p.tells_bytes;
      tells_output = q.tells_output ∙ p.tells_output;
      later = omega (arith, p.later, q.later);
      area_faults = omega (arith, p.area_faults, q.area_faults);
      put_faults = omega (arith, p.put_faults, q.put_faults);
      puts = omega (arith, p.puts, q.puts);
      since = λ t c le left. ⊎_elim (earlier t c le) (λ now. inr (q.timed.earlier old.moment mid.moment c p.later now)) (q.since t c (omega (arith, le, p.later)) left);
      past = λ t c le left. q.past t c (omega (arith, le, p.later)) (p.past t c le left);
      timed = q.timed;
    }
  where
    earlier : (t : ℕ) (c : Triple) → t ≤ old.moment → mid.left_since t c → old.left_since t c ⊎ new.left_since old.moment c
    earlier t c le left = ⊎_elim (λ was. inl was) (λ now. inr (q.past old.moment c p.later now)) (p.since t c le left)

-- before the first call a stop leaves only what it may leave now
pub each_none : (view : View) (P : Triple → Type 0) → IsTimed view → ((c : Triple) → view.may_leave c → P c) → EachSince P view view
each_none view P timed here c left = here c (timed.only_now c left)

-- one call more
pub each_on : (old mid new : View) (P : Triple → Type 0) → Passes old mid → Passes mid new → EachSince P old mid → EachSince P mid new → EachSince P old new
each_on old mid new P p q before now c left = ⊎_elim (before c) (now c) (q.since old.moment c p.later left)

-- from P to what follows from it
pub each_weaker : (old new : View) (P Q : Triple → Type 0) → ((c : Triple) → P c → Q c) → EachSince P old new → EachSince Q old new
each_weaker old new P Q follows each c left = follows c (each c left)

-- what a stop may leave now is among what it may have left since the start
pub each_now : (old new : View) (P : Triple → Type 0) → Passes old new → EachSince P old new → (c : Triple) → new.may_leave c → P c
each_now old new P p each c left = each c (p.timed.now old.moment c p.later left)

-- a call on a settled world does its step to a triple whose areas are the shown ones
pub each_settled : (old new : View) (step : Triple → Triple → Type 0) → IsSettled old → StopsBy step old new → EachSince (λ c. (d : Triple) × (d.a ≡ old.shown.a) × (d.b ≡ old.shown.b) × step d c) old new
each_settled old new step settled stops c left =
    let from = stops settled.honest c left in
    (from.0, settled.a from.0 from.1, settled.b from.0 from.1, from.2)

-- a call does its step to one of the triples with P that a stop could leave at its start
pub each_step : (old new : View) (step : Triple → Triple → Type 0) (P Q : Triple → Type 0) → IsTrue old.honest → ((d : Triple) → old.may_leave d → P d) → ((d c : Triple) → P d → step d c → Q c) → StopsBy step old new → EachSince Q old new
each_step old new step P Q honest here follows stops c left =
    let from = stops honest c left in
    follows from.0 c (here from.0 from.1) from.2

-- a call that only reads, where P held of all that a stop could leave
pub each_quiet : (old new : View) (P : Triple → Type 0) → IsTrue old.honest → IsQuiet old new → ((c : Triple) → old.may_leave c → P c) → EachSince P old new
each_quiet old new P honest quiet here c left = here c (quiet.stops honest c left)

pub quiet_none : (view : View) → IsTimed view → IsQuiet view view
quiet_none view timed = record { passes = passes_none view timed; shown = refl; stops = λ honest c left. timed.only_now c left }

-- two calls that only read
pub quiet_on : (old mid new : View) → IsQuiet old mid → IsQuiet mid new → IsQuiet old new
quiet_on old mid new p q =
    record {
      passes = passes_on old mid new p.passes q.passes;
      shown = q.shown ∙ p.shown;
      stops = λ honest c left. ⊎_elim (p.stops honest c) (λ now. p.stops honest c (p.passes.timed.now old.moment c p.passes.later (q.stops (p.passes.honest ∙ honest) c now))) (q.passes.since old.moment c p.passes.later left);
    }

-- a step, and then a call that only reads
pub stops_quiet : (old mid new : View) (step : Triple → Triple → Type 0) → Passes old mid → StopsBy step old mid → IsQuiet mid new → StopsBy step old new
stops_quiet old mid new step p stops quiet honest c left =
    ⊎_elim (stops honest c) (λ now. stops honest c (p.timed.now old.moment c p.later (quiet.stops (p.honest ∙ honest) c now))) (quiet.passes.since old.moment c p.later left)

-- a call that only reads, and then a step
pub quiet_stops : (old mid new : View) (step : Triple → Triple → Type 0) → ((c : Triple) → step c c) → IsQuiet old mid → Passes mid new → StopsBy step mid new → StopsBy step old new
quiet_stops old mid new step same quiet p stops honest c left =
    ⊎_elim (λ was. (c, quiet.stops honest c was, same c)) later (p.since old.moment c quiet.passes.later left)
  where
    later : new.left_since mid.moment c → (d : Triple) × old.may_leave d × step d c
    later now =
        let from = stops (quiet.passes.honest ∙ honest) c now in
        (from.0, quiet.stops honest from.0 (quiet.passes.timed.now old.moment from.0 quiet.passes.later from.1), from.2)

-- what a stop may leave after a call that only reads, it could leave before
pub quiet_now : (old new : View) → IsQuiet old new → IsTrue old.honest → (c : Triple) → new.may_leave c → old.may_leave c
quiet_now old new quiet honest c left = quiet.stops honest c (quiet.passes.timed.now old.moment c quiet.passes.later left)

-- a settled world stays settled where it is only read
pub settled_quiet : (old new : View) → IsSettled old → IsQuiet old new → IsSettled new
settled_quiet old new s quiet =
    record {
      honest = quiet.passes.honest ∙ s.honest;
      tells_bytes = quiet.passes.tells_bytes ∙ s.tells_bytes;
      a = λ c left. s.a c (quiet_now old new quiet s.honest c left) ∙ ap (λ (t : Triple). t.a) (sym quiet.shown);
      b = λ c left. s.b c (quiet_now old new quiet s.honest c left) ∙ ap (λ (t : Triple). t.b) (sym quiet.shown);
    }

-- triples with the same parts are the same
abbrev triple_of : List ℕ → List ℕ → List ℕ → Triple
triple_of x y z = record { a = x; b = y; output = z }

pub same_triple : (c d : Triple) → c.a ≡ d.a → c.b ≡ d.b → c.output ≡ d.output → c ≡ d
same_triple c d a b output =
    ap (λ x. triple_of x c.b c.output) a ∙ ap (λ y. triple_of d.a y c.output) b ∙ ap (λ z. triple_of d.a d.b z) output

-- both areas synced
pub settled_synced : (view : View) → IsTrue view.honest → IsTrue view.tells_bytes → IsSynced A view → IsSynced B view → IsSettled view
settled_synced view honest bytes a b = record { honest = honest; tells_bytes = bytes; a = a honest bytes; b = b honest bytes }

-- on a settled world each area is synced
pub synced_settled : (area : Area) (view : View) → IsSettled view → IsSynced area view
synced_settled A view s honest bytes = s.a
synced_settled B view s honest bytes = s.b

-- where one area and the other are synced, nothing is pending
pub settled_of : (area : Area) (view : View) → IsTrue view.honest → IsTrue view.tells_bytes → IsSynced area view → IsSynced (other area) view → IsSettled view
settled_of A view honest bytes one two = settled_synced view honest bytes one two
settled_of B view honest bytes one two = settled_synced view honest bytes two one

-- an area that was synced stays so where the world is only read
pub synced_quiet : (area : Area) (old new : View) → IsQuiet old new → IsSynced area old → IsSynced area new
synced_quiet area old new quiet synced honest bytes c left =
    synced (sym quiet.passes.honest ∙ honest) (sym quiet.passes.tells_bytes ∙ bytes) c (quiet.stops (sym quiet.passes.honest ∙ honest) c (quiet.passes.timed.now old.moment c quiet.passes.later left))
    ∙ subst (λ t. part area old.shown ≡ part area t) (sym quiet.shown) refl

-- a step of one area from a settled world, and then a sync of that area
pub settled_step : (area : Area) (old mid new : View) (step : Triple → Triple → Type 0) → ((d c : Triple) → step d c → IsSameBeside area d c) → IsSettled old → Passes old mid → StopsBy step old mid → IsSameBeside area old.shown mid.shown → IsQuiet mid new → IsSynced area new → IsSettled new
settled_step area old mid new step same s p stops beside quiet synced =
    settled_of area new (quiet.passes.honest ∙ (p.honest ∙ s.honest)) (quiet.passes.tells_bytes ∙ (p.tells_bytes ∙ s.tells_bytes)) synced (λ _ _ c left. side c left)
  where
    side : (c : Triple) → new.may_leave c → part (other area) c ≡ part (other area) new.shown
    side c left =
        let was = stops_quiet old mid new step p stops quiet s.honest c (q.timed.now old.moment c q.later left) in
        (same was.0 c was.2).beside ∙ synced_settled (other area) old s s.honest s.tells_bytes was.0 was.1 ∙ sym beside.beside ∙ ap (λ t. part (other area) t) (sym quiet.shown)
      where
        q : Passes old new
        q = passes_on old mid new p quiet.passes

-- all that was put is the shown output
pub output_told : (view : View) → IsTrue view.tells_output → output_of view ≡ Some view.shown.output
output_told view tells = rw tells refl

same_some : (x y : List ℕ) → Some x ≡ Some y → x ≡ y
same_some x y is = cc

-- the shown output grows by what is added
pub shown_added : (old new : View) (bytes : List ℕ) → IsTrue old.tells_output → IsTrue new.tells_output → Adds (output_of old) (output_of new) bytes → new.shown.output ≡ old.shown.output ++ bytes
shown_added old new bytes tells still added =
    same_some new.shown.output (old.shown.output ++ bytes) (sym (output_told new still) ∙ added ∙ ap (λ o. option_map (λ output. output ++ bytes) o) (output_told old tells))

-- a settled world stays settled when output is put, also where the put fails
pub settled_put : (old new : View) (piece : List ℕ) → IsSettled old → Passes old new → StopsBy (PutsFront piece) old new → new.shown.a ≡ old.shown.a → new.shown.b ≡ old.shown.b → IsSettled new
settled_put old new piece s p stops a b =
    record {
      honest = p.honest ∙ s.honest;
      tells_bytes = p.tells_bytes ∙ s.tells_bytes;
      a = λ c left. let was = from c left in was.2.a ∙ s.a was.0 was.1 ∙ sym a;
      b = λ c left. let was = from c left in was.2.b ∙ s.b was.0 was.1 ∙ sym b;
    }
  where
    from : (c : Triple) → new.may_leave c → (d : Triple) × old.may_leave d × PutsFront piece d c
    from c left = stops s.honest c (p.timed.now old.moment c p.later left)
