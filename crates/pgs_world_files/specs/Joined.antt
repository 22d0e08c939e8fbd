-- What a stop may leave of a world's parts together: at one moment, of each what it left then.
use Rattle.std.specs.Prelude.{◌≡◌, ℕ, ◌≤◌, max, List}
use Rattle.std.proofs.Common.{arith}
use Rattle.pgs_world.specs.World.{Triple}
use Rattle.pgs_world_streams.specs.Past.{Past, IsPast}

-- the pasts of both areas and of the output
pub record Pasts : Type 1 where
  pub a : Past
  pub b : Past
  pub output : Past

-- the moment behind so many calls of a world, and behind all calls of its parts
abbrev pub moment_behind : ℕ → Pasts → ℕ
moment_behind calls pasts = max (max calls (max pasts.a.until pasts.b.until)) pasts.output.until

-- a stop now may leave this of each part
pub record MayLeaveAll (pasts : Pasts) (c : Triple) : Type 0 where
  pub a : pasts.a.may_leave c.a
  pub b : pasts.b.may_leave c.b
  pub output : pasts.output.may_leave c.output

-- a stop at this moment may have left this of each part
pub record LeftAll (pasts : Pasts) (at : ℕ) (c : Triple) : Type 0 where
  pub a : pasts.a.left at c.a
  pub b : pasts.b.left at c.b
  pub output : pasts.output.left at c.output

-- so it was at some moment since that one
pub record LeftAllSince (pasts : Pasts) (now since : ℕ) (c : Triple) : Type 0 where
  pub at : ℕ
  pub later : since ≤ at
  pub so_far : at ≤ now
  pub left : LeftAll pasts at c

-- each part has a past, and a stop now leaves these bytes as the output
pub record ArePasts (pasts : Pasts) (written : List ℕ) : Type 0 where
  pub a : IsPast pasts.a
  pub b : IsPast pasts.b
  pub output : IsPast pasts.output
  pub shown : pasts.output.may_leave written
  pub all : (c : List ℕ) → pasts.output.may_leave c → c ≡ written

module _ (pasts : Pasts) (written : List ℕ) (are : ArePasts pasts written) (calls : ℕ) where
  -- this moment is one of those since an earlier one, and the only one since itself
  pub left_now : (t : ℕ) (c : Triple) → t ≤ moment_behind calls pasts → MayLeaveAll pasts c → LeftAllSince pasts (moment_behind calls pasts) t c
  left_now t c le may =
      record {
        at = moment_behind calls pasts;
        later = le;
        so_far = omega arith;
        left = record {
          a = are.a.now (moment_behind calls pasts) c.a (omega arith) may.a;
          b = are.b.now (moment_behind calls pasts) c.b (omega arith) may.b;
          output = are.output.now (moment_behind calls pasts) c.output (omega arith) may.output;
        };
      }

  pub only_now : (c : Triple) → LeftAllSince pasts (moment_behind calls pasts) (moment_behind calls pasts) c → MayLeaveAll pasts c
  only_now c was =
      record {
        a = are.a.settled was.at c.a (omega (arith, was.later)) was.left.a;
        b = are.b.settled was.at c.b (omega (arith, was.later)) was.left.b;
        output = are.output.settled was.at c.output (omega (arith, was.later)) was.left.output;
      }

pub since_earlier : (pasts : Pasts) (now t u : ℕ) (c : Triple) → t ≤ u → LeftAllSince pasts now u c → LeftAllSince pasts now t c
since_earlier pasts now t u c le was = record { at = was.at; later = omega (arith, le, was.later); so_far = was.so_far; left = was.left }
