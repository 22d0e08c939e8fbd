-- A node's list after the edges of a delta up to a place: what is built, and what is left of the base's list.
use Rattle.std.specs.Prelude.{List, [], Option, Some, None}
use Rattle.pgs_base.specs.declared.element.EdgeId.{EdgeId}
use Rattle.pgs_tables_edges.specs.Numbers.{AllBelow}
use Rattle.pgs_tables_edges.proofs.Copied.{IsCopied}
use Rattle.pgs_overlay.specs.declared.edited_list.EditedList.{EditedList}
use Rattle.pgs_overlay.specs.Parts.{built, StandsOn}

-- the list xs of the base, edited, is what the state lists, and the edges to come are above all that is done
pub record IsEdited (xs edited later : List EdgeId) (list : EditedList) : Type 0 where
  pub stands : StandsOn xs list
  pub copied : IsCopied xs list.done (built xs list) edited later

-- the same of a node that may have no state yet
abbrev pub IsEditedAt : List EdgeId → List EdgeId → List EdgeId → Option EditedList → Type 0
IsEditedAt xs edited later None = IsCopied xs 0 [] edited later
IsEditedAt xs edited later (Some list) = IsEdited xs edited later list

-- an edge can be looked for behind what is done
pub record IsReadyFor (edge : EdgeId) (xs : List EdgeId) (list : EditedList) : Type 0 where
  pub stands : StandsOn xs list
  pub lower : AllBelow edge xs list.done
