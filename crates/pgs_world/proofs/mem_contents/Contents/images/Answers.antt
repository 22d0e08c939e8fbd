use Rattle.std.proofs.Common.{sym, ◌∙◌, subst}
use Rattle.pgs_world.specs.declared.area.Area.TheVariants.{A, B}
use Rattle.pgs_world.specs.Held.{IsImage}
use Rattle.pgs_world.specs.MemArea.{held_of}
use Rattle.pgs_world.proofs.Images.{agrees_length, image_left}
use Rattle.pgs_world.proofs.mem_contents.Contents.images.Goals as goal

pub left-requires : goal.left-requires
left-requires c =
    let area = c.args.self.now.a in
    agrees_length area.kept.items area.synced.items (c.requires A).before

pub left-requires-2 : goal.left-requires-2
left-requires-2 c =
    let area = c.args.self.now.b in
    agrees_length area.kept.items area.synced.items (c.requires B).before

pub returns-clause-may_leave : goal.returns-clause-may_leave
returns-clause-may_leave c =
    let contents = c.args.self.now in
    record {
      a = subst (IsImage (held_of contents.a)) (sym c.in_ok-a.ensures) (image_left c.args.how (held_of contents.a) (c.requires A));
      b = subst (IsImage (held_of contents.b)) (sym c.in_ok-b.ensures) (image_left c.args.how (held_of contents.b) (c.requires B));
      output = c.in_ok-output.ensures ∙ c.deref.ensures.value;
    }
