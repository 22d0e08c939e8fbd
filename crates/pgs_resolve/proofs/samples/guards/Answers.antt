use Rattle.pgs_resolve.proofs.Computed as samples
use Rattle.pgs_resolve.proofs.samples.guards.Goals as goal

pub returns-clause-imports_first : goal.returns-clause-imports_first
returns-clause-imports_first c = samples.imports_first

pub returns-clause-own_word : goal.returns-clause-own_word
returns-clause-own_word c = samples.own_word

pub returns-clause-keys_once : goal.returns-clause-keys_once
returns-clause-keys_once c = samples.keys_once
