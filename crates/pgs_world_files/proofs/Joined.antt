-- What a stop leaves of the parts of a world together goes on as they do.
use Rattle.std.proofs.Common.{◌≡◌, ◌⊎◌, ⊎_elim, ℕ, ◌<◌, ◌≤◌, List, inl, inr, sym, subst, arith}
use Rattle.std.proofs.Math.Nat.{eq-or-lt_of_le}
use Rattle.std.proofs.lemmas.Bool.{cases_lt}
use Rattle.pgs_world.specs.World.{Triple}
use Rattle.pgs_world_streams.specs.Past.{Past, IsPast, GoesOn}
use Rattle.pgs_world_files.specs.Joined.{Pasts, MayLeaveAll, LeftAllSince, ArePasts, moment_behind}

abbrev pub Step : Type 1
Step = List ℕ → List ℕ → Type 0

-- what a part left at a moment since the calls began comes by their step from what it may have left before
module _ (S : Step) (t : ℕ) (old new : Past) (was : IsPast old) (is : IsPast new) (le : old.until ≤ t) (same : (c : List ℕ) → S c c) (goes : GoesOn S t old new) where
  at_it : (u : ℕ) (c : List ℕ) → t ≡ u → new.left u c → (d : List ℕ) × old.may_leave d × S d c
  at_it u c e left =
      ⊎_elim (λ before. (c, was.settled t c le before, same c)) (λ step. step) (goes.during c (subst (λ m. new.left m c) (sym e) left))

  pub part_from : (u : ℕ) (c : List ℕ) → t ≤ u → new.left u c → (d : List ℕ) × old.may_leave d × S d c
  part_from u c later left =
      ⊎_elim (λ e. at_it u c e left) (λ lt. goes.after c (is.settled u c (omega (arith, goes.until, lt)) left)) (eq-or-lt_of_le later)

-- each part goes on by its step
pub record AllGoOn (Sa Sb So : Step) (t : ℕ) (old new : Pasts) : Type 0 where
  pub a : GoesOn Sa t old.a new.a
  pub b : GoesOn Sb t old.b new.b
  pub output : GoesOn So t old.output new.output

module _ (old new : Pasts) (before after : List ℕ) (was : ArePasts old before) (is : ArePasts new after) (calls : ℕ) (Sa Sb So : Step)
    (same_a : (c : List ℕ) → Sa c c) (same_b : (c : List ℕ) → Sb c c) (same_o : (c : List ℕ) → So c c) (goes : AllGoOn Sa Sb So (moment_behind calls old) old new) where
  abbrev t : ℕ
  t = moment_behind calls old

  -- what a stop since the calls began may have left comes by their steps from what it could leave at their start
  pub all_from : (now : ℕ) (c : Triple) → LeftAllSince new now t c → (d : Triple) × MayLeaveAll old d × Sa d.a c.a × Sb d.b c.b × So d.output c.output
  all_from now c left =
      let a = part_from Sa t old.a new.a was.a is.a (omega arith) same_a goes.a left.at c.a left.later left.left.a in
      let b = part_from Sb t old.b new.b was.b is.b (omega arith) same_b goes.b left.at c.b left.later left.left.b in
      let o = part_from So t old.output new.output was.output is.output (omega arith) same_o goes.output left.at c.output left.later left.left.output in
      (record { a = a.0; b = b.0; output = o.0 }, record { a = a.1; b = b.1; output = o.1 }, a.2, b.2, o.2)

  -- what was left before them is as it was told
  pub all_since : (now u : ℕ) (c : Triple) → LeftAllSince new now u c → LeftAllSince old t u c ⊎ LeftAllSince new now t c
  all_since now u c left = ⊎_elim before_them since_them (cases_lt left.at t)
    where
      before_them : left.at < t → LeftAllSince old t u c ⊎ LeftAllSince new now t c
      before_them lt = inl (record {
        at = left.at;
        later = left.later;
        so_far = omega (arith, lt);
        left = record {
          a = goes.a.earlier left.at c.a lt left.left.a;
          b = goes.b.earlier left.at c.b lt left.left.b;
          output = goes.output.earlier left.at c.output lt left.left.output;
        };
      })

      since_them : t ≤ left.at → LeftAllSince old t u c ⊎ LeftAllSince new now t c
      since_them le = inr (record { at = left.at; later = le; so_far = left.so_far; left = left.left })

  pub all_kept : (now u : ℕ) (c : Triple) → t ≤ now → LeftAllSince old t u c → LeftAllSince new now u c
  all_kept now u c le left =
      record {
        at = left.at;
        later = left.later;
        so_far = omega (arith, le, left.so_far);
        left = record {
          a = goes.a.kept left.at c.a left.so_far left.left.a;
          b = goes.b.kept left.at c.b left.so_far left.left.b;
          output = goes.output.kept left.at c.output left.so_far left.left.output;
        };
      }
