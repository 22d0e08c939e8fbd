use Rattle.std.proofs.Common.{sym, ◌∙◌}
use Rattle.pgs_keyindex.specs.Rows.{has_value}
use Rattle.pgs_check_affected.specs.Local.{is_one_of}
use Rattle.pgs_check.proofs.Owned.{no_owner, listed_owner, own_owner}
use Rattle.pgs_check.proofs.sharing.Owners.unchanged_owner.Goals as goal

pub returns-in_default-clause-owner : goal.returns-in_default-clause-owner
returns-in_default-clause-owner g c =
    no_owner (λ elem. has_value c.args.self.now.index.now.rows c.args.self.now.number elem c.args.tuple.now) (is_one_of c.args.self.now.changed.now) c.in_default.ensures.owner

pub returns-then-is_one_of-clause-owner : goal.returns-then-is_one_of-clause-owner
returns-then-is_one_of-clause-owner g c =
    listed_owner (λ elem. has_value c.args.self.now.index.now.rows c.args.self.now.number elem c.args.tuple.now) (is_one_of c.args.self.now.changed.now)
    c.in-Some.owner c.in-Some.ensures.owner (sym c.is_one_of.ensures ∙ c.if-is_one_of.true)

pub returns-else-is_one_of-clause-owner : goal.returns-else-is_one_of-clause-owner
returns-else-is_one_of-clause-owner g c =
    own_owner (λ elem. has_value c.args.self.now.index.now.rows c.args.self.now.number elem c.args.tuple.now) (is_one_of c.args.self.now.changed.now)
    c.in-Some.owner c.in-Some.ensures.owner (sym c.is_one_of.ensures ∙ c.if-is_one_of.false)
