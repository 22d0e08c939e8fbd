use Rattle.std.proofs.Common.{◌≡◌, ◌⊎◌, inl, inr, ℕ, Bool, true, false, cond, List, Option, Some, refl, sym, ◌∙◌, ap}
use Rattle.pgs_base.specs.declared.element.NodeId.{NodeId}
use Rattle.pgs_match.specs.declared.notes.Hop.{Hop}
use Rattle.pgs_match.specs.declared.notes.Link.{Link}
use Rattle.pgs_match.specs.Answers.{is_same_place}
use Rattle.pgs_match.specs.Frontier.{linked}
use Rattle.pgs_match.proofs.Noting.{same_id}
use Rattle.pgs_match.proofs.notes.Links.note.Goals as goal

abbrev link_of : Hop → List NodeId → Link
link_of hop ids = record { hop = hop; ids = ids }

module _ (hop : Hop) (ids : List NodeId) (from : NodeId) (var : ℕ) (of : NodeId) (link : Link) (old : Option Link) where
  old_or_new : (b : Bool) → is_same_place hop.edge from var of ≡ b → cond b (Some (link_of hop ids)) old ≡ Some link → (old ≡ Some link) ⊎ ((link.hop ≡ hop) × (link.ids ≡ ids) × (of ≡ from))
  old_or_new true same is =
      let it : link ≡ link_of hop ids = cc in
      inr (ap (λ (l : Link). l.hop) it, ap (λ (l : Link). l.ids) it, sym (same_id hop.edge from var of same))
  old_or_new false same is = inl is

pub returns : goal.returns
returns c = λ var of link found.
    let hop = c.args.hop in
    let from = c.args.from in
    old_or_new hop c.args.ids from var of link (linked c.args.self.now var of) (is_same_place hop.edge from var of) refl (sym (c.in_ok-_former.ensures.updates.0 (var, of.0)) ∙ found)
