-- The schema of a workload: persons with a number and an address, of whom one may know another; no two share either.
use Rattle.std.specs.Prelude.{ℕ, true, false, List, [], ◌∷◌, None, codes}
use Rattle.pgs_base.specs.declared.value.Kind.TheVariants as kinds
use Rattle.pgs_syntax.specs.declared.key.Key.{Key}
use Rattle.pgs_syntax.specs.declared.pattern.Atom.TheVariants.{FitsNode}
use Rattle.pgs_syntax.specs.declared.pattern.Expr.TheVariants.{Property}
use Rattle.pgs_syntax.specs.declared.resolved.Resolved.{Resolved}
use Rattle.pgs_syntax.specs.declared.resolved.TypeNo.TheVariants as numbers
use Rattle.pgs_syntax.specs.declared.specification.Leaf.TheVariants.{Label, Named}
use Rattle.pgs_syntax.specs.declared.specification.Spec as specs
use Rattle.pgs_syntax.specs.declared.specification.Spec.{Word, And}

-- each person has one value under this key, and no two share it
abbrev pub identified_by : List ℕ → Key
identified_by name = record {
  qualifiers = record { mandatory = true; singleton = true; exclusive = true; count = None };
  scope = record { edge_vars = false ∷ []; atoms = FitsNode 0 0 ∷ [] };
  descriptor = record { edge_vars = false ∷ []; atoms = [] };
  exprs = Property 0 name ∷ [];
}

abbrev pub persons : Resolved
persons = record {
  nodes = record {
    name = codes "p";
    hidden = false;
    place = 2;
    spec = And (
        Word (Label (codes "Person"))
        ∷ specs.Braces (record {
          properties = record { key = codes "id"; kind = kinds.Int; optional = false }
              ∷ record { key = codes "mail"; kind = kinds.Text; optional = false } ∷ [];
          more = false;
        }) ∷ []);
  } ∷ [];
  edges = record {
    name = codes "k";
    hidden = false;
    place = 3;
    source = Word (Named 0);
    middle = Word (Label (codes "knows"));
    target = Word (Named 0);
  } ∷ [];
  guard = record {
    strict = true;
    types = numbers.Node 0 ∷ numbers.Edge 0 ∷ [];
    keys = identified_by (codes "mail") ∷ identified_by (codes "id") ∷ [];
  };
}
