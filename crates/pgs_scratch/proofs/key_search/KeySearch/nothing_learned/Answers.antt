use Rattle.pgs_scratch.proofs.key_search.KeySearch.nothing_learned.Goals as goal

pub returns : goal.returns
returns g c = c.new.ensures c.args.self.now.compiled.now (g.G.GraphRead.meaning c.args.self.now.graph.now) c.args.self.now.key.now
