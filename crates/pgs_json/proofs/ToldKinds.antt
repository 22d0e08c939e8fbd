-- An operation is what its kind says, and the first member with a kind's name tells the kind.
use Rattle.std.proofs.Common.{◌≡◌, ℕ, Bool, true, false, cond, ◌&&◌, List, [], ◌∷◌, Option, Some, None, option_map, option_and_then, inl, inr, ◌⊎◌, refl, sym, ap, ◌∙◌, subst, Ordering, Less, Equal, Greater}
use Rattle.std.specs.Prelude.{codes, bytes_eq}
use Rattle.std.specs.List.{list_any}
use Rattle.std.specs.Option.{option_or}
use Rattle.std.specs.Ordering.{nat_cmp, is_eq, match_ordering}
use Rattle.std.specs.Cmp.Lexicographic.{slice_cmp}
use Rattle.std.proofs.lemmas.Bool.{true≢false}
use Rattle.std.proofs.lemmas.Map.Text.{is_eq-slice_cmp}
use Rattle.std.proofs.lemmas.Slice.Eq.{bytes_eq-Decides}
use Rattle.serde_json.specs.Data.{Data, null, boolean, number, string, array, object, Members, no_members, member}
use Rattle.serde_json.specs.Find.{get_member}
use Rattle.pgs_base.specs.Options.{◌>>=◌}
use Rattle.pgs_graph.specs.declared.operation.Op.{Op}
use Rattle.pgs_json.specs.declared.kind.Kind.{Kind}
use Rattle.pgs_json.specs.declared.kind.Kind.TheVariants.{AddNode, AddEdge, RemoveNode, DetachNode, RemoveEdge, SetNode, UnsetNode, LabelNode, UnlabelNode, SetEdge, UnsetEdge, LabelEdge, UnlabelEdge}
use Rattle.pgs_json.specs.Form.{names_in, are_among, first_of, id_of, add_node, add_edge, with_id, with_name, with_value, node_op, edge_op, op_of}
use Rattle.pgs_json.specs.Kinds.{kind_named, kind_in, op_as, op_told}

-- ---- the members of a kind

-- the name tells this kind, or none and isn't the kind's own
abbrev Tells : List ℕ → Kind → List ℕ → Type 0
Tells own k n = (kind_named n ≡ Some k) ⊎ ((kind_named n ≡ None) × (bytes_eq own n ≡ false))

abbrev AllTell : List ℕ → Kind → List (List ℕ) → Type 0
AllTell own k [] = Unit {0}
AllTell own k (n ∷ ns) = Tells own k n × AllTell own k ns

tells_at : (own : List ℕ) (k : Kind) (n t : List ℕ) (ts : List (List ℕ)) (same : Bool) → bytes_eq n t ≡ same → Tells own k t
    → (list_any (bytes_eq n) ts ≡ true → Tells own k n) → list_any (bytes_eq n) (t ∷ ts) ≡ true → Tells own k n
tells_at own k n t ts true e here later among = subst (Tells own k) (sym ((bytes_eq-Decides n t).0 e)) here
tells_at own k n t ts false e here later among = later (rw e at among)

tells : (own : List ℕ) (k : Kind) (n : List ℕ) (these : List (List ℕ)) → AllTell own k these → list_any (bytes_eq n) these ≡ true → Tells own k n
tells own k n [] all among = absurd (true≢false (sym among))
tells own k n (t ∷ ts) all among = tells_at own k n t ts (bytes_eq n t) refl all.0 (tells own k n ts all.1) among

apart : (o : Ordering) (a b : Option Data) → is_eq o ≡ false → match_ordering o a b a ≡ a
apart Less a b e = refl
apart Equal a b e = absurd (true≢false e)
apart Greater a b e = refl

skipped : (own n : List ℕ) (d : Data) (ms : Members) → bytes_eq own n ≡ false → get_member own (member n d ms) ≡ get_member own ms
skipped own n d ms e = apart (slice_cmp nat_cmp own n) _ _ (is_eq-slice_cmp own n ∙ e)

head_of : (a b : Bool) → (a && b) ≡ true → a ≡ true
head_of true b h = refl
head_of false b h = h

tail_of : (a b : Bool) → (a && b) ≡ true → b ≡ true
tail_of true b h = h
tail_of false b h = absurd (true≢false (sym h))

-- among members with these names the kind's own is absent, or it is what tells the kind
module _ (own : List ℕ) (k : Kind) (these : List (List ℕ)) (all : AllTell own k these) where
  found_at : (n : List ℕ) (d : Data) (ms : Members) → Tells own k n → (get_member own ms ≡ None) ⊎ (kind_in ms ≡ Some k)
      → (get_member own (member n d ms) ≡ None) ⊎ (kind_in (member n d ms) ≡ Some k)
  found_at n d ms (inl told) later = inr (ap (λ o. option_or o (kind_in ms)) told)
  found_at n d ms (inr other) (inl absent) = inl (skipped own n d ms other.1 ∙ absent)
  found_at n d ms (inr other) (inr told) = inr (ap (λ o. option_or o (kind_in ms)) other.0 ∙ told)

  found_in : (ms : Members) → are_among these (names_in ms) ≡ true → (get_member own ms ≡ None) ⊎ (kind_in ms ≡ Some k)
  found_in no_members h = inl refl
  found_in (member n d ms) h =
      found_at n d ms (tells own k n these all (head_of _ _ h)) (found_in ms (tail_of (list_any (bytes_eq n) these) _ h))

  gated_by : {A : Type 0} (f : Data → Option A) (ms : Members) (among : Bool) → are_among these (names_in ms) ≡ among
      → (cond among (option_and_then f (get_member own ms)) None ≡ None) ⊎ (kind_in ms ≡ Some k)
  gated_by f ms false e = inl refl
  gated_by f ms true e = elim (found_in ms e) [ inl absent ↦ inl (ap (option_and_then f) absent) | inr told ↦ inr told ]

  gated : {A : Type 0} (f : Data → Option A) (ms : Members)
      → (cond (are_among these (names_in ms)) (option_and_then f (get_member own ms)) None ≡ None) ⊎ (kind_in ms ≡ Some k)
  gated f ms = gated_by f ms (are_among these (names_in ms)) refl

  gated_more_by : {A B : Type 0} (f : Data → Option A) (g : A → Option B) (ms : Members) (among : Bool) → are_among these (names_in ms) ≡ among
      → (cond among (option_and_then g (option_and_then f (get_member own ms))) None ≡ None) ⊎ (kind_in ms ≡ Some k)
  gated_more_by f g ms false e = inl refl
  gated_more_by f g ms true e = elim (found_in ms e) [ inl absent ↦ inl (ap (λ o. option_and_then g (option_and_then f o)) absent) | inr told ↦ inr told ]

  gated_more : {A B : Type 0} (f : Data → Option A) (g : A → Option B) (ms : Members)
      → (cond (are_among these (names_in ms)) (option_and_then g (option_and_then f (get_member own ms))) None ≡ None) ⊎ (kind_in ms ≡ Some k)
  gated_more f g ms = gated_more_by f g ms (are_among these (names_in ms)) refl

none_still : {A B C : Type 0} (f : A → B) (o : Option A) → (o ≡ None) ⊎ C → (option_map f o ≡ None) ⊎ C
none_still f o (inl e) = inl (ap (option_map f) e)
none_still f o (inr t) = inr t

-- an object is no operation of a kind that its members don't tell
told : (k : Kind) (ms : Members) → (op_as k (object ms) ≡ None) ⊎ (kind_in ms ≡ Some k)
unfolding kind_named add_node add_edge with_id with_name with_value
told AddNode ms = gated_more (codes "add_node") AddNode (codes "add_node" ∷ codes "labels" ∷ codes "props" ∷ []) (inl refl, (inr (refl, refl), (inr (refl, refl), tt))) id_of _ ms
told AddEdge ms = gated_more (codes "add_edge") AddEdge (codes "add_edge" ∷ codes "from" ∷ codes "labels" ∷ codes "props" ∷ codes "to" ∷ []) (inl refl, (inr (refl, refl), (inr (refl, refl), (inr (refl, refl), (inr (refl, refl), tt))))) id_of _ ms
told RemoveNode ms = none_still _ _ (gated (codes "remove_node") RemoveNode (codes "remove_node" ∷ []) (inl refl, tt) id_of ms)
told DetachNode ms = none_still _ _ (gated (codes "detach_node") DetachNode (codes "detach_node" ∷ []) (inl refl, tt) id_of ms)
told RemoveEdge ms = none_still _ _ (gated (codes "remove_edge") RemoveEdge (codes "remove_edge" ∷ []) (inl refl, tt) id_of ms)
told SetNode ms = none_still _ _ (gated_more (codes "set_node") SetNode (codes "key" ∷ codes "set_node" ∷ codes "value" ∷ []) (inr (refl, refl), (inl refl, (inr (refl, refl), tt))) id_of _ ms)
told UnsetNode ms = none_still _ _ (gated_more (codes "unset_node") UnsetNode (codes "key" ∷ codes "unset_node" ∷ []) (inr (refl, refl), (inl refl, tt)) id_of _ ms)
told LabelNode ms = none_still _ _ (gated_more (codes "label_node") LabelNode (codes "label" ∷ codes "label_node" ∷ []) (inr (refl, refl), (inl refl, tt)) id_of _ ms)
told UnlabelNode ms = none_still _ _ (gated_more (codes "unlabel_node") UnlabelNode (codes "label" ∷ codes "unlabel_node" ∷ []) (inr (refl, refl), (inl refl, tt)) id_of _ ms)
told SetEdge ms = none_still _ _ (gated_more (codes "set_edge") SetEdge (codes "key" ∷ codes "set_edge" ∷ codes "value" ∷ []) (inr (refl, refl), (inl refl, (inr (refl, refl), tt))) id_of _ ms)
told UnsetEdge ms = none_still _ _ (gated_more (codes "unset_edge") UnsetEdge (codes "key" ∷ codes "unset_edge" ∷ []) (inr (refl, refl), (inl refl, tt)) id_of _ ms)
told LabelEdge ms = none_still _ _ (gated_more (codes "label_edge") LabelEdge (codes "label" ∷ codes "label_edge" ∷ []) (inr (refl, refl), (inl refl, tt)) id_of _ ms)
told UnlabelEdge ms = none_still _ _ (gated_more (codes "unlabel_edge") UnlabelEdge (codes "label" ∷ codes "unlabel_edge" ∷ []) (inr (refl, refl), (inl refl, tt)) id_of _ ms)

-- ---- the first of all kinds

abbrev each_kind : (Kind → Option Op) → Option Op
each_kind f =
    option_or
    (first_of (f AddNode ∷ f RemoveNode ∷ f DetachNode ∷ f SetNode ∷ f UnsetNode ∷ f LabelNode ∷ f UnlabelNode ∷ []))
    (first_of (f AddEdge ∷ f RemoveEdge ∷ f SetEdge ∷ f UnsetEdge ∷ f LabelEdge ∷ f UnlabelEdge ∷ []))

or_none : {A : Type 0} (o : Option A) → option_or o None ≡ o
or_none None = refl
or_none (Some x) = refl

none_of_all : (f : Kind → Option Op) → ((k : Kind) → f k ≡ None) → each_kind f ≡ None
none_of_all f h = rw (h AddNode, h RemoveNode, h DetachNode, h SetNode, h UnsetNode, h LabelNode, h UnlabelNode, h AddEdge, h RemoveEdge, h SetEdge, h UnsetEdge, h LabelEdge, h UnlabelEdge) refl

one_of_all : (f : Kind → Option Op) (j : Kind) → ((k : Kind) → (k ≡ j → ⊥) → f k ≡ None) → each_kind f ≡ f j
one_of_all f AddNode h = rw (h RemoveNode (λ e. cc), h DetachNode (λ e. cc), h SetNode (λ e. cc), h UnsetNode (λ e. cc), h LabelNode (λ e. cc), h UnlabelNode (λ e. cc), h AddEdge (λ e. cc), h RemoveEdge (λ e. cc), h SetEdge (λ e. cc), h UnsetEdge (λ e. cc), h LabelEdge (λ e. cc), h UnlabelEdge (λ e. cc)) (or_none _ ∙ or_none (f AddNode))
one_of_all f RemoveNode h = rw (h AddNode (λ e. cc), h DetachNode (λ e. cc), h SetNode (λ e. cc), h UnsetNode (λ e. cc), h LabelNode (λ e. cc), h UnlabelNode (λ e. cc), h AddEdge (λ e. cc), h RemoveEdge (λ e. cc), h SetEdge (λ e. cc), h UnsetEdge (λ e. cc), h LabelEdge (λ e. cc), h UnlabelEdge (λ e. cc)) (or_none _ ∙ or_none (f RemoveNode))
one_of_all f DetachNode h = rw (h AddNode (λ e. cc), h RemoveNode (λ e. cc), h SetNode (λ e. cc), h UnsetNode (λ e. cc), h LabelNode (λ e. cc), h UnlabelNode (λ e. cc), h AddEdge (λ e. cc), h RemoveEdge (λ e. cc), h SetEdge (λ e. cc), h UnsetEdge (λ e. cc), h LabelEdge (λ e. cc), h UnlabelEdge (λ e. cc)) (or_none _ ∙ or_none (f DetachNode))
one_of_all f SetNode h = rw (h AddNode (λ e. cc), h RemoveNode (λ e. cc), h DetachNode (λ e. cc), h UnsetNode (λ e. cc), h LabelNode (λ e. cc), h UnlabelNode (λ e. cc), h AddEdge (λ e. cc), h RemoveEdge (λ e. cc), h SetEdge (λ e. cc), h UnsetEdge (λ e. cc), h LabelEdge (λ e. cc), h UnlabelEdge (λ e. cc)) (or_none _ ∙ or_none (f SetNode))
one_of_all f UnsetNode h = rw (h AddNode (λ e. cc), h RemoveNode (λ e. cc), h DetachNode (λ e. cc), h SetNode (λ e. cc), h LabelNode (λ e. cc), h UnlabelNode (λ e. cc), h AddEdge (λ e. cc), h RemoveEdge (λ e. cc), h SetEdge (λ e. cc), h UnsetEdge (λ e. cc), h LabelEdge (λ e. cc), h UnlabelEdge (λ e. cc)) (or_none _ ∙ or_none (f UnsetNode))
one_of_all f LabelNode h = rw (h AddNode (λ e. cc), h RemoveNode (λ e. cc), h DetachNode (λ e. cc), h SetNode (λ e. cc), h UnsetNode (λ e. cc), h UnlabelNode (λ e. cc), h AddEdge (λ e. cc), h RemoveEdge (λ e. cc), h SetEdge (λ e. cc), h UnsetEdge (λ e. cc), h LabelEdge (λ e. cc), h UnlabelEdge (λ e. cc)) (or_none _ ∙ or_none (f LabelNode))
one_of_all f UnlabelNode h = rw (h AddNode (λ e. cc), h RemoveNode (λ e. cc), h DetachNode (λ e. cc), h SetNode (λ e. cc), h UnsetNode (λ e. cc), h LabelNode (λ e. cc), h AddEdge (λ e. cc), h RemoveEdge (λ e. cc), h SetEdge (λ e. cc), h UnsetEdge (λ e. cc), h LabelEdge (λ e. cc), h UnlabelEdge (λ e. cc)) (or_none _ ∙ or_none (f UnlabelNode))
one_of_all f AddEdge h = rw (h AddNode (λ e. cc), h RemoveNode (λ e. cc), h DetachNode (λ e. cc), h SetNode (λ e. cc), h UnsetNode (λ e. cc), h LabelNode (λ e. cc), h UnlabelNode (λ e. cc), h RemoveEdge (λ e. cc), h SetEdge (λ e. cc), h UnsetEdge (λ e. cc), h LabelEdge (λ e. cc), h UnlabelEdge (λ e. cc)) (or_none (f AddEdge))
one_of_all f RemoveEdge h = rw (h AddNode (λ e. cc), h RemoveNode (λ e. cc), h DetachNode (λ e. cc), h SetNode (λ e. cc), h UnsetNode (λ e. cc), h LabelNode (λ e. cc), h UnlabelNode (λ e. cc), h AddEdge (λ e. cc), h SetEdge (λ e. cc), h UnsetEdge (λ e. cc), h LabelEdge (λ e. cc), h UnlabelEdge (λ e. cc)) (or_none (f RemoveEdge))
one_of_all f SetEdge h = rw (h AddNode (λ e. cc), h RemoveNode (λ e. cc), h DetachNode (λ e. cc), h SetNode (λ e. cc), h UnsetNode (λ e. cc), h LabelNode (λ e. cc), h UnlabelNode (λ e. cc), h AddEdge (λ e. cc), h RemoveEdge (λ e. cc), h UnsetEdge (λ e. cc), h LabelEdge (λ e. cc), h UnlabelEdge (λ e. cc)) (or_none (f SetEdge))
one_of_all f UnsetEdge h = rw (h AddNode (λ e. cc), h RemoveNode (λ e. cc), h DetachNode (λ e. cc), h SetNode (λ e. cc), h UnsetNode (λ e. cc), h LabelNode (λ e. cc), h UnlabelNode (λ e. cc), h AddEdge (λ e. cc), h RemoveEdge (λ e. cc), h SetEdge (λ e. cc), h LabelEdge (λ e. cc), h UnlabelEdge (λ e. cc)) (or_none (f UnsetEdge))
one_of_all f LabelEdge h = rw (h AddNode (λ e. cc), h RemoveNode (λ e. cc), h DetachNode (λ e. cc), h SetNode (λ e. cc), h UnsetNode (λ e. cc), h LabelNode (λ e. cc), h UnlabelNode (λ e. cc), h AddEdge (λ e. cc), h RemoveEdge (λ e. cc), h SetEdge (λ e. cc), h UnsetEdge (λ e. cc), h UnlabelEdge (λ e. cc)) (or_none (f LabelEdge))
one_of_all f UnlabelEdge h = rw (h AddNode (λ e. cc), h RemoveNode (λ e. cc), h DetachNode (λ e. cc), h SetNode (λ e. cc), h UnsetNode (λ e. cc), h LabelNode (λ e. cc), h UnlabelNode (λ e. cc), h AddEdge (λ e. cc), h RemoveEdge (λ e. cc), h SetEdge (λ e. cc), h UnsetEdge (λ e. cc), h LabelEdge (λ e. cc)) (or_none (f UnlabelEdge))

by_kind : (ms : Members) (o : Option Kind) → kind_in ms ≡ o → each_kind (λ k. op_as k (object ms)) ≡ (o >>= λ k. op_as k (object ms))
by_kind ms None e = none_of_all _ (λ k. elim (told k ms) [ inl none ↦ none | inr is ↦ absurd (let h : None ≡ Some k = sym e ∙ is in cc) ])
by_kind ms (Some j) e =
    one_of_all _ j (λ k other. elim (told k ms) [ inl none ↦ none | inr is ↦ absurd (other (let h : Some k ≡ Some j = sym is ∙ e in cc)) ])

op_of_each : (d : Data) → op_of d ≡ each_kind (λ k. op_as k d)
unfolding node_op edge_op
op_of_each d = refl

-- the operation of an object is that of its kind
pub op_of_told : (d : Data) → op_of d ≡ op_told d
unfolding node_op edge_op add_node add_edge with_id with_name with_value
op_of_told null = refl
op_of_told (boolean b) = refl
op_of_told (number n) = refl
op_of_told (string s) = refl
op_of_told (array ds) = refl
op_of_told (object ms) = op_of_each (object ms) ∙ by_kind ms (kind_in ms) refl
