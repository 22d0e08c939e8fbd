use Rattle.std.proofs.Common.{◌≡◌, ◌∙◌, ap, sym, subst, ℕ, List, Option}
use Rattle.std.specs.Prelude.{flat_map}
use Rattle.pgs_base.specs.declared.element.Elem.{Elem}
use Rattle.pgs_graph.specs.declared.operation.Op.{Op}
use Rattle.pgs_sessions_machine.specs.Machine.{Session, least_after, named, watched}
use Rattle.pgs_sessions.specs.Changes.{last_in}
use Rattle.pgs_sessions.specs.Least.{lesser_of}
use Rattle.pgs_sessions.proofs.Lesser.{least_after-append}
use Rattle.pgs_sessions.proofs.changes.Changes.stale.Goals as goal

pub returns : goal.returns
returns c =
    let last = last_in c.args.self.now in
    let began = c.session.inside.began in
    let read = c.session.inside.read.keys in
    let staged = c.session.inside.staged.ops in
    subst (λ (s : Session). c.lesser.result ≡ least_after last s.began (watched s)) c.session.view_is
    (c.lesser.ensures ∙ ap (λ (o : Option (Elem × ℕ)). lesser_of o c.since_named-named.result) c.since_read-read.ensures
    ∙ ap (lesser_of (least_after last began read)) (c.since_named-named.ensures ∙ ap (λ (ops : List Op). least_after last began (flat_map named ops)) c.as_slice.ensures)
    ∙ sym (least_after-append last began read (flat_map named staged)))
