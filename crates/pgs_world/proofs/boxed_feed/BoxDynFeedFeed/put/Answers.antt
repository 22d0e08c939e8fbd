use Rattle.std.proofs.Common.{subst, ◌≡◌, ◌≤◌, OnOk, OnErr}
use Rattle.pgs_world.specs.Count.{RoseByOne}
use Rattle.pgs_world.specs.World.{Adds, AddsFront}
use Rattle.pgs_world.proofs.boxed_feed.BoxDynFeedFeed.put.Goals as goal

pub returns-clause-whole : goal.returns-clause-whole
returns-clause-whole g c = subst (λ feed. OnOk c.put.result (Adds ((g.dyn-1.0.entry feed.0).1.taken feed.1) ((g.dyn-1.0.entry c.deref_box_mut-1.result.now.0).1.taken c.put.new.self) c.args.piece.now)) c.deref_box_mut-1.ensures.value.1 c.put.ensures.0

pub returns-clause-front : goal.returns-clause-front
returns-clause-front g c = subst (λ feed. OnErr c.put.result (AddsFront ((g.dyn-1.0.entry feed.0).1.taken feed.1) ((g.dyn-1.0.entry c.deref_box_mut-1.result.now.0).1.taken c.put.new.self) c.args.piece.now)) c.deref_box_mut-1.ensures.value.1 c.put.ensures.1.0

pub returns-clause-cause : goal.returns-clause-cause
returns-clause-cause g c = subst (λ feed. OnErr c.put.result (RoseByOne ((g.dyn-1.0.entry feed.0).1.faults feed.1) ((g.dyn-1.0.entry c.deref_box_mut-1.result.now.0).1.faults c.put.new.self))) c.deref_box_mut-1.ensures.value.1 c.put.ensures.1.1.0

pub returns-clause-no_cause : goal.returns-clause-no_cause
returns-clause-no_cause g c = subst (λ feed. OnOk c.put.result ((g.dyn-1.0.entry c.deref_box_mut-1.result.now.0).1.faults c.put.new.self ≡ (g.dyn-1.0.entry feed.0).1.faults feed.1)) c.deref_box_mut-1.ensures.value.1 c.put.ensures.1.1.1.0

pub returns-clause-faults_stay : goal.returns-clause-faults_stay
returns-clause-faults_stay g c = subst (λ feed. (g.dyn-1.0.entry feed.0).1.faults feed.1 ≤ (g.dyn-1.0.entry c.deref_box_mut-1.result.now.0).1.faults c.put.new.self) c.deref_box_mut-1.ensures.value.1 c.put.ensures.1.1.1.1.0
