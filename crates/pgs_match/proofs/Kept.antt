-- What a search along a way notes: that it is right, and what is paid by it, over one call after the other.
use Rattle.std.proofs.Common.{◌≡◌, ◌⊎◌, ⊎_elim, ℕ, ◌+◌, ◌*◌, ◌≤◌, Bool, true, false, cond, List, length, Option, Some, None, refl, sym, ◌∙◌, ap, subst, arith}
use Rattle.std.specs.Prelude.{is_some}
use Rattle.std.specs.Option.{option_map_or}
use Rattle.std.specs.List.{Contains}
use Rattle.std.proofs.Math.Nat.{mul-le-mul_right}
use Rattle.pgs_base.specs.declared.element.NodeId.{NodeId}
use Rattle.pgs_base.specs.declared.element.EdgeId.{EdgeId}
use Rattle.pgs_base.specs.declared.element.Elem.TheVariants.{Node, Edge}
use Rattle.pgs_base.specs.Graph.{Graph}
use Rattle.pgs_graph.specs.Reads.{degree_of}
use Rattle.pgs_syntax.specs.declared.pattern.Atom.{Atom}
use Rattle.pgs_syntax.specs.declared.resolved.Resolved.{Resolved}
use Rattle.pgs_match.specs.declared.answers.Answers.{Answers}
use Rattle.pgs_match.specs.declared.bindings.Bound.{Bound}
use Rattle.pgs_match.specs.declared.bindings.Bound.TheVariants as bounds
use Rattle.pgs_match.specs.declared.step.Step.{Step}
use Rattle.pgs_match.specs.declared.stand.Stand.{Stand}
use Rattle.pgs_match.specs.declared.notes.Notes.{Notes}
use Rattle.pgs_match.specs.declared.notes.Hop.{Hop}
use Rattle.pgs_match.specs.declared.notes.Link.{Link}
use Rattle.pgs_match.specs.declared.notes.Links.{Links}
use Rattle.pgs_match.specs.Answers.{noted, is_same_place, is_given, AreRight, IsAmong, unnoted, IsPaid, IsPrice, own_most}
use Rattle.pgs_match.specs.Frontier.{hop_bounds, at_nodes, linked, AreAllOf, AreNoted, IsPaidOn, StayFull}
use Rattle.pgs_match.specs.Spread.{stand_at}
use Rattle.pgs_match.specs.Tests.{admitted_node, admitted_edge}
use Rattle.pgs_match.proofs.Noting.{IsNote, IsSame, same_var, same_id, was_room, node_price, node_bound, edge_among, edge_own, unnoted_less, unnoted_drops}

-- ---- what is full stays so

pub full_itself : (notes : Notes) → StayFull notes notes
full_itself notes = (λ was. was, λ was. was)

pub full_both : (before mid after : Notes) → StayFull before mid → StayFull mid after → StayFull before after
full_both before mid after one other = (λ was. other.0 (one.0 was), λ was. other.1 (one.1 was))

-- ---- what is paid

module _ (g : Graph) (pairs : List Stand) where
  -- where nothing was noted
  pub paid_itself : (notes : Notes) (start now own : ℕ) → now ≤ start + own → IsPaidOn g pairs notes notes start now own
  paid_itself notes start now own few = λ on off. omega (arith, few)

  -- where more may be taken
  pub paid_most : (before after : Notes) (start now own most : ℕ) → own ≤ most → IsPaidOn g pairs before after start now own → IsPaidOn g pairs before after start now most
  paid_most before after start now own most less paid = λ on off. let cost = paid on off in omega (arith, cost, less)

  -- where some look-ups come before
  pub paid_before : (before after : Notes) (start tried now more own : ℕ) → tried ≤ start + more → IsPaidOn g pairs before after tried now own → IsPaidOn g pairs before after start now (more + own)
  paid_before before after start tried now more own few paid = λ on off. let cost = paid on off in omega (arith, cost, few)

  -- or after
  pub paid_after : (before after : Notes) (start now last own more : ℕ) → last ≤ now + more → IsPaidOn g pairs before after start now own → IsPaidOn g pairs before after start last (own + more)
  paid_after before after start now last own more few paid = λ on off. let cost = paid on off in omega (arith, cost, few)

  -- one call after the other
  pub paid_twice : (before mid after : Notes) (start between now first second : ℕ) → StayFull mid after → IsPaidOn g pairs before mid start between first →
      IsPaidOn g pairs mid after between now second → IsPaidOn g pairs before after start now (first + second)
  paid_twice before mid after start between now first second stays one other = λ on off.
      let was = one (was_room mid.on after.on stays.0 on) (was_room mid.off after.off stays.1 off) in
      let more = other on off in
      omega (arith, was, more)

  -- and some look-ups between them
  pub paid_between : (before mid after : Notes) (start between tried now first more second : ℕ) → StayFull mid after → IsPaidOn g pairs before mid start between first →
      tried ≤ between + more → IsPaidOn g pairs mid after tried now second → IsPaidOn g pairs before after start now (first + more + second)
  paid_between before mid after start between tried now first more second stays one few other = λ on off.
      let was = one (was_room mid.on after.on stays.0 on) (was_room mid.off after.off stays.1 off) in
      let rest = other on off in
      omega (arith, was, rest, few)

-- ---- the nodes behind a node are noted

-- only the links are others
abbrev pub with_links : Notes → Links → Notes
with_links notes links = record { on = notes.on; off = notes.off; links = links }

module _ (resolved : Resolved) (g : Graph) (atoms : List Atom) (off : List Step) where
  pub noted_links : (notes : Notes) (links : Links) (hop : Hop) (from : NodeId) (ids : List NodeId) → AreNoted resolved g atoms off notes →
      ((var : ℕ) (of : NodeId) (link : Link) → linked links var of ≡ Some link → (linked notes.links var of ≡ Some link) ⊎ ((link.hop ≡ hop) × (link.ids ≡ ids) × (of ≡ from))) →
      AreAllOf (hop_bounds resolved g atoms off hop from) (at_nodes ids) → AreNoted resolved g atoms off (with_links notes links)
  noted_links notes links hop from ids right note all = (right.0, right.1, λ var of link is. ⊎_elim (right.2 var of link) (by link of) (note var of link is))
    where
      by : (link : Link) (of : NodeId) → (link.hop ≡ hop) × (link.ids ≡ ids) × (of ≡ from) → AreAllOf (hop_bounds resolved g atoms off link.hop of) (at_nodes link.ids)
      by link of same =
          subst (λ h. AreAllOf (hop_bounds resolved g atoms off h of) (at_nodes link.ids)) (sym same.0)
          (subst (λ i. AreAllOf (hop_bounds resolved g atoms off hop of) (at_nodes i)) (sym same.1)
          (subst (λ n. AreAllOf (hop_bounds resolved g atoms off hop n) (at_nodes ids)) (sym same.2) all))

-- ---- an answer is noted on the way

-- only the answers on the way are others
abbrev pub with_on : Notes → Answers → Notes
with_on notes on = record { on = on; off = notes.off; links = notes.links }

-- only those off it
abbrev pub with_off : Notes → Answers → Notes
with_off notes off = record { on = notes.on; off = off; links = notes.links }

module _ (resolved : Resolved) (g : Graph) (atoms : List Atom) (off : List Step) where
  pub noted_off : (notes : Notes) (answers : Answers) → AreNoted resolved g atoms off notes → AreRight resolved g atoms off answers → AreNoted resolved g atoms off (with_off notes answers)
  noted_off notes answers right now = (right.0, now, right.2)

  module _ (var : ℕ) (id : NodeId) (answer : Bool) (before after : Answers) (note : after.is_full ≡ false → IsNote var id answer before after) (full : after.is_full ≡ true → IsSame before after)
      (right : answer ≡ is_given resolved g atoms off var id) where
    one_on : (of : ℕ) (other : NodeId) (found : Bool) → is_same_place var id of other ≡ true → answer ≡ found → found ≡ is_given resolved g atoms off of other
    one_on of other found same is =
        sym is ∙ right ∙ ap (λ v. is_given resolved g atoms off v id) (same_var var id of other same) ∙ ap (is_given resolved g atoms off of) (same_id var id of other same)

    all_on : ((of : ℕ) (other : NodeId) (found : Bool) → noted before of other ≡ Some found → found ≡ is_given resolved g atoms off of other) →
        (of : ℕ) (other : NodeId) (found : Bool) → noted after of other ≡ Some found → found ≡ is_given resolved g atoms off of other
    all_on are of other found at = by after.is_full refl
      where
        inner : (b : Bool) → is_same_place var id of other ≡ b → cond b (Some answer) (noted before of other) ≡ Some found → found ≡ is_given resolved g atoms off of other
        inner true same is = let e : answer ≡ found = cc in one_on of other found same e
        inner false same is = are of other found is

        by : (b : Bool) → after.is_full ≡ b → found ≡ is_given resolved g atoms off of other
        by true is = are of other found (sym (full is of other) ∙ at)
        by false is = inner (is_same_place var id of other) refl (sym (note is of other) ∙ at)

  pub noted_on : (var : ℕ) (id : NodeId) (answer : Bool) (notes : Notes) (on : Answers) → (on.is_full ≡ false → IsNote var id answer notes.on on) → (on.is_full ≡ true → IsSame notes.on on) →
      answer ≡ is_given resolved g atoms off var id → AreNoted resolved g atoms off notes → AreNoted resolved g atoms off (with_on notes on)
  noted_on var id answer notes on note full given right = (all_on var id answer notes.on on note full given right.0, right.1, right.2)

-- ---- what is paid by it

pub few_price : (off : List Step) → length off ≤ 19 → IsPrice off 440
few_price off few = by (length off) few
  where
    by : (long : ℕ) → long ≤ 19 → long * (long + 4) ≤ 440
    by long less = let product = mul-le-mul_right (long + 4) less in omega (arith, product, less)

-- what is paid off the way is paid on the way with it
pub paid_off : (g : Graph) (pairs : List Stand) (notes : Notes) (answers : Answers) (start now own : ℕ) → IsPaid g 440 pairs notes.off answers start now own →
    IsPaidOn g pairs notes (with_off notes answers) start now own
paid_off g pairs notes answers start now own paid = λ on off. let cost = paid off in omega (arith, cost)

module _ (resolved : Resolved) (g : Graph) (atoms : List Atom) (pairs : List Stand) (off : List Step) (few : length off ≤ 19) (var : ℕ) (id : NodeId) (answer : Bool) (before mid : Notes) (on : Answers)
    (new : noted mid.on var id ≡ None) (note : on.is_full ≡ false → IsNote var id answer mid.on on) (stays : mid.on.is_full ≡ true → on.is_full ≡ true)
    (has : is_some (admitted_node resolved g atoms var id) ≡ true → Contains pairs (stand_at var (Node id))) where
  pub paid_kept : (admitted : Option Bound) → admitted ≡ admitted_node resolved g atoms var id → (start now : ℕ) →
      IsPaidOn g pairs before mid (start + 1) now (option_map_or (own_most g off) admitted 0) → IsPaidOn g pairs before (with_on mid on) start now 1
  paid_kept admitted same start now paid = λ room free. by room admitted same (paid (was_room mid.on on stays room) free)
    where
      by : on.is_full ≡ false → (o : Option Bound) → o ≡ admitted_node resolved g atoms var id →
          now + 440 * (unnoted g mid.on pairs + unnoted g mid.off pairs) ≤ start + 1 + 440 * (unnoted g before.on pairs + unnoted g before.off pairs) + option_map_or (own_most g off) o 0 →
          now + 440 * (unnoted g on pairs + unnoted g mid.off pairs) ≤ start + 440 * (unnoted g before.on pairs + unnoted g before.off pairs) + 1
      by room None is cost = let less = unnoted_less g var id answer mid.on on (note room) pairs in omega (arith, cost, less)
      by room (Some x) is cost =
          let at : bounds.Node id ≡ x = node_bound resolved g atoms var id x (sym is) in
          let own = subst (λ y. own_most g off y ≤ 440 * (degree_of g id + 2)) at (node_price (length off) (degree_of g id) 440 (few_price off few)) in
          let drop = unnoted_drops g var id answer mid.on on (note room) new pairs (has (ap is_some (sym is))) in
          omega (arith, cost, own, drop)

-- an edge takes three look-ups, and one for each step off the way
pub paid_edge : (resolved : Resolved) (g : Graph) (atoms : List Atom) (pairs : List Stand) (off : List Step) (var : ℕ) (id : EdgeId) →
    (is_some (admitted_edge resolved g atoms var id) ≡ true → Contains pairs (stand_at var (Edge id))) → (admitted : Option Bound) → admitted ≡ admitted_edge resolved g atoms var id →
    (x : Bound) → admitted ≡ Some x → (notes : Notes) (answers : Answers) (start tried now : ℕ) → tried ≤ start + 3 →
    (IsAmong g pairs var x → IsPaid g 440 pairs notes.off answers tried now (own_most g off x)) → IsPaidOn g pairs notes (with_off notes answers) start now (3 + length off)
paid_edge resolved g atoms pairs off var id has admitted same x is notes answers start tried now few paid =
    let one = paid_off g pairs notes answers tried now (own_most g off x) (paid (edge_among resolved g atoms var pairs id has admitted same x is)) in
    let own = subst (λ o. option_map_or (own_most g off) o 0 ≤ length off) is (edge_own resolved g atoms var off id admitted same) in
    paid_most g pairs notes (with_off notes answers) start now (3 + own_most g off x) (3 + length off) (omega (arith, own))
    (paid_before g pairs notes (with_off notes answers) start tried now 3 (own_most g off x) few one)
