use Rattle.pgs_key_standing.proofs.Sound.{count_few, valid_sound, scope_valid, descriptor_valid, exprs_read, joint_sound}
use Rattle.pgs_key_standing.proofs.joint.key_facts.Goals as goal

pub returns-clause-scope_few : goal.returns-clause-scope_few
returns-clause-scope_few c = (count_few c.args.key.now.scope (scope_valid c.args.key.now c.requires)).1

pub returns-clause-scope_speak : goal.returns-clause-scope_speak
returns-clause-scope_speak c = (valid_sound c.args.key.now.scope (scope_valid c.args.key.now c.requires)).speak

pub returns-clause-descriptor_few : goal.returns-clause-descriptor_few
returns-clause-descriptor_few c = (count_few c.args.key.now.descriptor (descriptor_valid c.args.key.now c.requires)).1

pub returns-clause-descriptor_speak : goal.returns-clause-descriptor_speak
returns-clause-descriptor_speak c = (valid_sound c.args.key.now.descriptor (descriptor_valid c.args.key.now c.requires)).speak

pub returns-clause-read : goal.returns-clause-read
returns-clause-read c = exprs_read c.args.key.now c.requires

pub returns-clause-joint_few : goal.returns-clause-joint_few
returns-clause-joint_few c = (joint_sound c.args.key.now c.requires).few

pub returns-clause-joint_speak : goal.returns-clause-joint_speak
returns-clause-joint_speak c = (joint_sound c.args.key.now c.requires).speak
