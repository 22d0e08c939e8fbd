-- How a visit of a walk is read from where the walk comes.
use Rattle.std.specs.Prelude.{ℕ, ◌+◌, ◌-◌, ◌==◌, Bool, true, false, not, List, [], ◌++◌, codes, slice_get, unwrap_or, nat_lt, if◌then◌else◌}
use Rattle.pgs_key_causes.specs.declared.walk.Visit.{Visit}

-- an edge, in its brackets, along its direction or against it
abbrev pub arrow : Bool → List ℕ → List ℕ
arrow true edge = codes "-" ++ (edge ++ codes "->")
arrow false edge = codes "<-" ++ (edge ++ codes "-")

-- whether the edge place of a number leads to the node place behind it
abbrev pub is_forward : List Bool → ℕ → Bool
is_forward directions n = unwrap_or (slice_get directions n) true

-- by the texts of all places, and whether each edge place leads to the node place behind it
module _ (texts : List (List ℕ)) (directions : List Bool) where
  abbrev pub text_at : ℕ → List ℕ
  text_at n = unwrap_or (slice_get texts n) []

  -- the edge at a place, read from its left node, and from its right one
  abbrev pub ahead : ℕ → List ℕ
  ahead e = arrow (is_forward directions e) (text_at e)

  abbrev pub back : ℕ → List ℕ
  back e = arrow (not (is_forward directions e)) (text_at e)

  -- An edge place: from itself it is read alone, from its left node with its right one, and from its right node with its left one.
  abbrev pub edge_reading : ℕ → ℕ → List ℕ
  edge_reading e from =
      if from == e then ahead e else (if nat_lt from e then ahead e ++ text_at (e + 1) else back e ++ text_at (e - 1))

  -- A node place: with the edge that stands in front of it or behind it, and alone where it is read from itself. The left node that is
  -- come to from the edge is read as it is written.
  abbrev pub node_reading : ℕ → ℕ → List ℕ
  node_reading n from =
      if from == n then text_at n
      else (if nat_lt from n then ahead (n - 1) ++ text_at n
      else (if from == n + 1 then text_at n ++ ahead from else back (n + 1) ++ text_at n))

  abbrev pub reading : Bool → Visit → List ℕ
  reading true visit = edge_reading visit.place visit.from
  reading false visit = node_reading visit.place visit.from
