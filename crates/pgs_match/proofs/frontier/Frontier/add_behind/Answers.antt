use Rattle.std.proofs.Common.{◌≡◌, ◌++◌, List, Some, length, sym, ap, ◌∙◌, subst}
use Rattle.pgs_base.specs.declared.element.NodeId.{NodeId}
use Rattle.pgs_base.specs.declared.element.Elem.TheVariants.{Node}
use Rattle.pgs_match.specs.declared.notes.Notes.{Notes}
use Rattle.pgs_match.specs.Frontier.{hop_bounds, hop_most, at_nodes, linked, AreAllOf, AreNoted, IsPaidOn}
use Rattle.pgs_match.specs.Spread.{stand_at}
use Rattle.pgs_match.proofs.Behind.{on_ok, same_hop}
use Rattle.pgs_match.proofs.Kept.{with_links, noted_links}
use Rattle.pgs_match.proofs.frontier.Frontier.add_behind.Goals.{in-Some+else-eq, in_default}
use Rattle.pgs_match.proofs.frontier.Frontier.add_behind.Goals as goal

pub returns-then-eq-clause-added : goal.returns-then-eq-clause-added
returns-then-eq-clause-added g c =
    let search = c.args.self.now.asking.search in
    let graph = g.G.GraphRead.meaning search.graph.now in
    let link = c.in-Some.link.now in
    let same : link.hop ≡ c.args.hop = same_hop link.hop c.args.hop (sym c.eq.ensures ∙ c.if-eq.true) in
    let noted : linked c.args.notes.now.links c.args.hop.edge c.args.from ≡ Some link = sym c.in-Some.ensures in (
      link.ids,
      c.in_ok-extend_from_slice.ensures.items ∙ ap (λ ids. c.args.ends.now.items ++ ids) c.as_slice.ensures,
      subst (λ hop. AreAllOf (hop_bounds search.compiled.now graph search.atoms.now c.args.self.now.asking.whole.now hop c.args.from) (at_nodes link.ids)) same (c.requires.right.2 c.args.hop.edge c.args.from link noted),
    )

pub behind-requires-clause-right : goal.behind-requires-clause-right
behind-requires-clause-right g c =
    let search = c.args.self.now.asking.search in
    let graph = g.G.GraphRead.meaning search.graph.now in
    let same : c.match-of.notes ≡ c.args.notes.now = elim c.match-of.branch [
      | in-Some+else-eq w ↦ w.notes-is
      | in_default w ↦ w.notes-is
    ] in
    subst (AreNoted search.compiled.now graph search.atoms.now c.args.self.now.asking.whole.now) (sym same) c.requires.right

pub returns-then-edges-le-FEW_EDGES-clause-added : goal.returns-then-edges-le-FEW_EDGES-clause-added
returns-then-edges-le-FEW_EDGES-clause-added g c =
    (c.in_ok-ids.ids, c.in_ok-extend_from_slice-2.ensures.items ∙ ap (λ ids. c.args.ends.now.items ++ ids) c.as_slice-2.ensures, c.in_ok-ids.ensures.all)

pub returns-then-edges-le-FEW_EDGES-clause-once : goal.returns-then-edges-le-FEW_EDGES-clause-once
returns-then-edges-le-FEW_EDGES-clause-once g c =
    let graph = g.G.GraphRead.meaning c.args.self.now.asking.search.graph.now in
    let same : c.match-of.notes ≡ c.args.notes.now = elim c.match-of.branch [
      | in-Some+else-eq w ↦ w.notes-is
      | in_default w ↦ w.notes-is
    ] in
    λ var pairs few closed among ahead further.
    let most = hop_most graph (length c.args.self.now.asking.whole.now) (stand_at var (Node c.args.from)) in
    subst (λ (n : Notes). IsPaidOn graph pairs n c.behind.new.notes c.args.steps.now c.behind.new.steps most) same (c.in_ok-ids.ensures.once var pairs few closed among ahead further)

pub returns-clause-added : goal.returns-clause-added
returns-clause-added g c =
    let search = c.args.self.now.asking.search in
    let graph = g.G.GraphRead.meaning search.graph.now in
    on_ok c.note.result
    ((ids : List NodeId) × (c.extend_from_slice-2.new.self.items ≡ c.args.ends.now.items ++ ids)
    × AreAllOf (hop_bounds search.compiled.now graph search.atoms.now c.args.self.now.asking.whole.now c.args.hop c.args.from) (at_nodes ids))
    (c.in_ok-ids.ids, c.in_ok-extend_from_slice-2.ensures.items ∙ ap (λ ids. c.args.ends.now.items ++ ids) c.as_slice-2.ensures, c.in_ok-ids.ensures.all)

pub returns-clause-right : goal.returns-clause-right
returns-clause-right g c =
    let search = c.args.self.now.asking.search in
    let graph = g.G.GraphRead.meaning search.graph.now in
    noted_links search.compiled.now graph search.atoms.now c.args.self.now.asking.whole.now c.behind.new.notes c.note.new.self c.args.hop c.args.from c.in_ok-ids.ids c.behind.ensures.right c.note.ensures c.in_ok-ids.ensures.all

pub returns-clause-once : goal.returns-clause-once
returns-clause-once g c =
    let graph = g.G.GraphRead.meaning c.args.self.now.asking.search.graph.now in
    let same : c.match-of.notes ≡ c.args.notes.now = elim c.match-of.branch [
      | in-Some+else-eq w ↦ w.notes-is
      | in_default w ↦ w.notes-is
    ] in
    λ var pairs few closed among ahead further.
    let most = hop_most graph (length c.args.self.now.asking.whole.now) (stand_at var (Node c.args.from)) in
    on_ok c.note.result (IsPaidOn graph pairs c.args.notes.now (with_links c.behind.new.notes c.note.new.self) c.args.steps.now c.behind.new.steps most)
    (subst (λ (n : Notes). IsPaidOn graph pairs n c.behind.new.notes c.args.steps.now c.behind.new.steps most) same (c.in_ok-ids.ensures.once var pairs few closed among ahead further))
