-- Regions: what may stand at each of some keys, key by key. What stands at them in a pair is a point, and a region is a set of points.
use Rattle.std.specs.Prelude.{◌≡◌, Bool, true, false, ◌&&◌, ◌||◌, not, List, [], ◌∷◌, Option, Some, None, MatchOption, pos, if◌then◌else◌}
use Rattle.std.specs.List.{list_any, list_all}
use Rattle.pgs_base.specs.declared.value.Value.{Value}
use Rattle.pgs_base.specs.declared.value.Value.TheVariants as values
use Rattle.pgs_conform.specs.Shapes.{admits}
use Rattle.pgs_conform.specs.declared.options.Options.{Options}

-- what stands at some keys, in their order: nothing, or a value
abbrev pub Point : Type 0
Point = List (Option Value)

-- whether a point is in a region: at each key there stands what may
abbrev pub in_region : List Options → Point → Bool
in_region [] [] = true
in_region [] (v ∷ vs) = false
in_region (o ∷ os) [] = false
in_region (o ∷ os) (v ∷ vs) = admits o v && in_region os vs

-- whether a point is in some region
abbrev pub in_some_region : List (List Options) → Point → Bool
in_some_region regions point = list_any (λ region. in_region region point) regions

-- whether something may stand at a key
abbrev pub is_possible : Options → Bool
is_possible o = o.absent || o.text || o.int || o.boolean || o.date

-- what may stand at a key by the first options and not by the second, and what may by both
abbrev pub without : Options → Options → Options
without a b = record {
  absent = a.absent && not b.absent;
  text = a.text && not b.text;
  int = a.int && not b.int;
  boolean = a.boolean && not b.boolean;
  date = a.date && not b.date;
}

abbrev pub common_options : Options → Options → Options
common_options a b = record {
  absent = a.absent && b.absent;
  text = a.text && b.text;
  int = a.int && b.int;
  boolean = a.boolean && b.boolean;
  date = a.date && b.date;
}

-- whether what may stand at a key by the first options may by the second
abbrev pub is_within : Options → Options → Bool
is_within a b =
    (not a.absent || b.absent) && (not a.text || b.text) && (not a.int || b.int) && (not a.boolean || b.boolean)
    && (not a.date || b.date)

-- whether each key's options lie within those of another region
abbrev pub lies_in : List Options → List Options → Bool
lies_in [] [] = true
lies_in [] (b ∷ bs) = false
lies_in (a ∷ as') [] = false
lies_in (a ∷ as') (b ∷ bs) = is_within a b && lies_in as' bs

-- whether two regions have a point in common
abbrev pub meets : List Options → List Options → Bool
meets [] [] = true
meets [] (b ∷ bs) = false
meets (a ∷ as') [] = false
meets (a ∷ as') (b ∷ bs) = is_possible (common_options a b) && meets as' bs

-- each point of a region is in some of others
abbrev pub IsCovered : List Options → List (List Options) → Type 0
IsCovered region taken = (v : Point) → in_region region v ≡ true → in_some_region taken v ≡ true

-- a region in which something may stand at each key lies in another, and has no point of some
pub record IsLeft (region : List Options) (taken : List (List Options)) (found : List Options) : Type 0 where
  pub possible : list_all is_possible found ≡ true
  pub inside : (v : Point) → in_region found v ≡ true → in_region region v ≡ true
  pub outside : (v : Point) → in_region found v ≡ true → in_some_region taken v ≡ false

-- The points that pass a test are those of some regions, and this is what they leave of a region: nothing, or a region.
pub record Leaves (test : Point → Bool) (region : List Options) (answer : Option (List Options)) : Type 0 where
  pub taken : List (List Options)
  pub same : (v : Point) → in_some_region taken v ≡ test v
  pub is : MatchOption answer (IsCovered region taken) (IsLeft region taken)

-- the plainest that may stand at a key: nothing, else the empty text, 0, false or the first day
abbrev pub plainest : Options → Option Value
plainest o =
    if o.absent then None
    else (if o.text then Some (values.Text [])
    else (if o.int then Some (values.Int (pos 0))
    else (if o.boolean then Some (values.Bool false)
    else (if o.date then Some (values.Date (1, 1, 1)) else None))))
