use Rattle.pgs_base.proofs.Places.{key_searched}
use Rattle.pgs_tables_edges.proofs.Searched.{edge_cmp_total, block_found}
use Rattle.pgs_tables_edges.proofs.block.search_block.Goals as goal

pub returns-clause-there : goal.returns-clause-there
returns-clause-there c = key_searched edge_cmp_total c.args.id c.args.block.now c.requires c.binary_search.result c.binary_search.ensures.bound c.binary_search.ensures.position

pub returns-clause-found : goal.returns-clause-found
returns-clause-found c = block_found c.args.block.now c.args.id c.binary_search.result c.binary_search.ensures.position
