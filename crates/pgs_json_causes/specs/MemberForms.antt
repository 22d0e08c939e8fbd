-- The members of an operation, in the order of their names, and what each has to be.
use Rattle.std.specs.Prelude.{ℕ, Bool, true, false, List, [], ◌∷◌, codes}
use Rattle.pgs_json.specs.declared.kind.Kind.{Kind}
use Rattle.pgs_json.specs.declared.kind.Kind.TheVariants.{AddNode, AddEdge, RemoveNode, DetachNode, RemoveEdge, SetNode, UnsetNode, LabelNode, UnlabelNode, SetEdge, UnsetEdge, LabelEdge, UnlabelEdge}
use Rattle.pgs_json_causes.specs.declared.member_form.MemberForm.{MemberForm}
use Rattle.pgs_json_causes.specs.declared.member_form.MemberForm.TheVariants.{Id, Name, Value, Labels, Props}

-- whether a member of this form may be left out
abbrev pub is_optional : MemberForm → Bool
is_optional Id = false
is_optional Name = false
is_optional Value = false
is_optional Labels = true
is_optional Props = true

-- the member that names a kind
abbrev pub kind_word : Kind → List ℕ
kind_word AddNode = codes "add_node"
kind_word AddEdge = codes "add_edge"
kind_word RemoveNode = codes "remove_node"
kind_word DetachNode = codes "detach_node"
kind_word RemoveEdge = codes "remove_edge"
kind_word SetNode = codes "set_node"
kind_word UnsetNode = codes "unset_node"
kind_word LabelNode = codes "label_node"
kind_word UnlabelNode = codes "unlabel_node"
kind_word SetEdge = codes "set_edge"
kind_word UnsetEdge = codes "unset_edge"
kind_word LabelEdge = codes "label_edge"
kind_word UnlabelEdge = codes "unlabel_edge"

-- the members of an operation of a kind
abbrev pub members_of_kind : Kind → List (List ℕ × MemberForm)
members_of_kind AddNode = (codes "add_node", Id) ∷ (codes "labels", Labels) ∷ (codes "props", Props) ∷ []
members_of_kind AddEdge =
    (codes "add_edge", Id) ∷ (codes "from", Id) ∷ (codes "labels", Labels) ∷ (codes "props", Props) ∷ (codes "to", Id) ∷ []
members_of_kind RemoveNode = (codes "remove_node", Id) ∷ []
members_of_kind DetachNode = (codes "detach_node", Id) ∷ []
members_of_kind RemoveEdge = (codes "remove_edge", Id) ∷ []
members_of_kind SetNode = (codes "key", Name) ∷ (codes "set_node", Id) ∷ (codes "value", Value) ∷ []
members_of_kind UnsetNode = (codes "key", Name) ∷ (codes "unset_node", Id) ∷ []
members_of_kind LabelNode = (codes "label", Name) ∷ (codes "label_node", Id) ∷ []
members_of_kind UnlabelNode = (codes "label", Name) ∷ (codes "unlabel_node", Id) ∷ []
members_of_kind SetEdge = (codes "key", Name) ∷ (codes "set_edge", Id) ∷ (codes "value", Value) ∷ []
members_of_kind UnsetEdge = (codes "key", Name) ∷ (codes "unset_edge", Id) ∷ []
members_of_kind LabelEdge = (codes "label", Name) ∷ (codes "label_edge", Id) ∷ []
members_of_kind UnlabelEdge = (codes "label", Name) ∷ (codes "unlabel_edge", Id) ∷ []
