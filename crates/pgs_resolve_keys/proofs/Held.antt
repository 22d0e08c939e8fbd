-- One more variable in a table.
use Rattle.std.proofs.Common.{◌≡◌, ℕ, ◌==◌, Bool, true, false, cond, List, [], ◌∷◌, ◌++◌, length, map, Option, Some, None, refl, sym, ◌∙◌, ap, subst, arith}
use Rattle.std.specs.Option.{is_some}
use Rattle.std.specs.List.{position}
use Rattle.std.specs.Ordering.{nat_cmp, is_eq}
use Rattle.std.specs.Cmp.Lexicographic.{slice_cmp}
use Rattle.std.specs.BTreeMap.{get}
use Rattle.std.proofs.lemmas.Bool.Decides.{nat_tests}
use Rattle.std.proofs.lemmas.List.{map-append, length-map}
use Rattle.pgs_base.specs.Pair.{same_name}
use Rattle.pgs_resolve_keys.specs.declared.variables.Variables.{Variables}
use Rattle.pgs_resolve_keys.specs.Patterns.{Variable, called, nameless, is_same, with_variable}
use Rattle.pgs_resolve_keys.specs.VariableTable.{Holds}
use Rattle.pgs_resolve_declared.proofs.Same.{some_place, place_after, in_turn, one_name}

pub known : (variables : List (Variable × Bool)) (v : Variable × Bool) (table : Variables) → is_some (position (is_same v.0) variables) ≡ true →
    Holds variables table → Holds (with_variable variables v) table
known variables v table there holds =
    let e : with_variable variables v ≡ variables =
    ap (λ b. cond b variables (variables ++ v ∷ [])) (sym (some_place (is_same v.0) variables) ∙ there) in
    let P : List (Variable × Bool) → Type 0 = λ vs. Holds vs table in
    subst P (sym e) holds

grown : (variables : List (Variable × Bool)) (v : Variable × Bool) → is_some (position (is_same v.0) variables) ≡ false →
    with_variable variables v ≡ variables ++ v ∷ []
grown variables v new = ap (λ b. cond b variables (variables ++ v ∷ [])) (sym (some_place (is_same v.0) variables) ∙ new)

stays : (o : Option ℕ) → o ≡ cond (is_some o) o None
stays None = refl
stays (Some n) = refl

placed_new : (o : Option ℕ) (b : Bool) (n : ℕ) → (b ≡ true → is_some o ≡ false) → cond b (Some n) o ≡ cond (is_some o) o (cond b (Some n) None)
placed_new None true n h = refl
placed_new None false n h = refl
placed_new (Some m) true n h = let e = h refl in cc
placed_new (Some m) false n h = refl

module _ (variables : List (Variable × Bool)) (is_edge : Bool) (table new : Variables) (number : ℕ)
    (holds : Holds variables table) (is : number ≡ length table.edge_vars.items) (pushed : new.edge_vars.items ≡ table.edge_vars.items ++ is_edge ∷ []) where
  edges_after : (v : Variable) → new.edge_vars.items ≡ map (λ (w : Variable × Bool). w.1) (variables ++ (v, is_edge) ∷ [])
  edges_after v =
      pushed ∙ ap (λ edges. edges ++ is_edge ∷ []) holds.edges
      ∙ sym (map-append (λ (w : Variable × Bool). w.1) variables ((v, is_edge) ∷ []))

  next : number ≡ length variables
  next = is ∙ ap length holds.edges ∙ length-map variables (λ (w : Variable × Bool). w.1)

  pub hold_named : (name : List ℕ) → is_some (get (slice_cmp nat_cmp) table.named name) ≡ false →
      ((q : List ℕ) → get (slice_cmp nat_cmp) new.named q ≡ cond (same_name name q) (Some number) (get (slice_cmp nat_cmp) table.named q)) →
      new.nameless ≡ table.nameless → Holds (with_variable variables (called name, is_edge)) new
  hold_named name absent updated same =
      let fresh : is_some (position (is_same (called name)) variables) ≡ false = ap is_some (sym (holds.named name)) ∙ absent in
      let after : Holds (variables ++ (called name, is_edge) ∷ []) new = record {
        edges = edges_after (called name);
        named = λ q.
            updated q ∙ ap (λ o. cond (same_name name q) (Some number) o) (holds.named q)
            ∙ ap (λ n. cond (same_name name q) (Some n) (position (is_same (called q)) variables)) next
            ∙ ap (λ b. cond b (Some (length variables)) (position (is_same (called q)) variables)) (in_turn name q)
            ∙ placed_new (position (is_same (called q)) variables) (same_name q name) (length variables)
            (λ e. ap (λ n. is_some (position (is_same (called n)) variables)) (one_name q name e) ∙ fresh)
            ∙ sym (place_after (is_same (called q)) variables (called name, is_edge));
        unnamed = λ q.
            ap (λ m. get nat_cmp m q) same ∙ holds.unnamed q ∙ stays _ ∙ sym (place_after (is_same (nameless q)) variables (called name, is_edge));
      } in
      let P : List (Variable × Bool) → Type 0 = λ vs. Holds vs new in
      subst P (sym (grown variables (called name, is_edge) fresh)) after

  turned : (a b : ℕ) → is_eq (nat_cmp a b) ≡ (b == a)
  turned a b = grind (arith, nat_tests)

  one_number : (a b : ℕ) → (a == b) ≡ true → a ≡ b
  one_number a b e = grind (arith, nat_tests)

  pub hold_nameless : (place : ℕ) → is_some (get nat_cmp table.nameless place) ≡ false →
      ((q : ℕ) → get nat_cmp new.nameless q ≡ cond (is_eq (nat_cmp place q)) (Some number) (get nat_cmp table.nameless q)) →
      new.named ≡ table.named → Holds (with_variable variables (nameless place, is_edge)) new
  hold_nameless place absent updated same =
      let fresh : is_some (position (is_same (nameless place)) variables) ≡ false = ap is_some (sym (holds.unnamed place)) ∙ absent in
      let after : Holds (variables ++ (nameless place, is_edge) ∷ []) new = record {
        edges = edges_after (nameless place);
        named = λ q.
            ap (λ m. get (slice_cmp nat_cmp) m q) same ∙ holds.named q ∙ stays _ ∙ sym (place_after (is_same (called q)) variables (nameless place, is_edge));
        unnamed = λ q.
            updated q ∙ ap (λ o. cond (is_eq (nat_cmp place q)) (Some number) o) (holds.unnamed q)
            ∙ ap (λ n. cond (is_eq (nat_cmp place q)) (Some n) (position (is_same (nameless q)) variables)) next
            ∙ ap (λ b. cond b (Some (length variables)) (position (is_same (nameless q)) variables)) (turned place q)
            ∙ placed_new (position (is_same (nameless q)) variables) (q == place) (length variables)
            (λ e. ap (λ n. is_some (position (is_same (nameless n)) variables)) (one_number q place e) ∙ fresh)
            ∙ sym (place_after (is_same (nameless q)) variables (nameless place, is_edge));
      } in
      let P : List (Variable × Bool) → Type 0 = λ vs. Holds vs new in
      subst P (sym (grown variables (nameless place, is_edge) fresh)) after
