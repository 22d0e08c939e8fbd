use Rattle.std.proofs.Common.{◌∙◌, ap, sym, Some}
use Rattle.std.specs.Prelude.{if◌then◌else◌}
use Rattle.std.specs.BTreeMap.{is_at}
use Rattle.pgs_base.specs.declared.element.Elem.{Elem}
use Rattle.pgs_base.specs.Order.{elem_cmp}
use Rattle.pgs_sessions.specs.Changes.{last_in}
use Rattle.pgs_sessions.proofs.Kept.{node_set, edge_set}
use Rattle.pgs_sessions.proofs.changes.Changes.set.Goals as goal

pub returns-in-Node-clause-set : goal.returns-in-Node-clause-set
returns-in-Node-clause-set c = λ other.
    node_set c.args.self.now.nodes.rows _ c.args.self.now.edges.rows c.in-Node.id c.args.commit c.put.ensures.rows other
    ∙ ap (λ (e : Elem). if is_at (elem_cmp e) other then Some c.args.commit else last_in c.args.self.now other) (sym c.in-Node.is)

pub returns-in-Edge-clause-set : goal.returns-in-Edge-clause-set
returns-in-Edge-clause-set c = λ other.
    edge_set c.args.self.now.edges.rows _ c.args.self.now.nodes.rows c.in-Edge.id c.args.commit c.put-in-Edge.ensures.rows other
    ∙ ap (λ (e : Elem). if is_at (elem_cmp e) other then Some c.args.commit else last_in c.args.self.now other) (sym c.in-Edge.is)
