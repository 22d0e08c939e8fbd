use Rattle.pgs_check_affected.proofs.Unseen.{change_agrees, unseen_agree}
use Rattle.pgs_check_affected.proofs.laws.graphs_agree_for_a_key_but_for_seen_elements.Goals as goal

pub returns-clause-unseen : goal.returns-clause-unseen
returns-clause-unseen c = λ resolved touched seen g h agree key each. unseen_agree resolved g h touched seen agree key each

pub returns-clause-rows : goal.returns-clause-rows
returns-clause-rows c = λ resolved g h elems agree key. change_agrees resolved g h key elems agree
