use Rattle.std.proofs.Common.{◌≡◌, Some, None, sym, ap, ◌∙◌}
use Rattle.std.specs.Option.{option_copied}
use Rattle.std.proofs.lemmas.Result.{IfOk-weaker}
use Rattle.pgs_resolve_keys.specs.Patterns.{x_of}
use Rattle.pgs_key_causes.proofs.Ends.{x_found, from_x, without_x}
use Rattle.pgs_key_causes.proofs.guide.KeyGuide.ends_of.Goals as goal

pub end_texts-requires-clause-x : goal.end_texts-requires-clause-x
end_texts-requires-clause-x g c = x_found c.args.key.now c.in_ok-names.names (Some c.in-Some.x.now) c.in_ok-names.ensures (sym (ap option_copied c.in-Some.is) ∙ c.first.ensures)

pub end_texts-requires-clause-valid : goal.end_texts-requires-clause-valid
end_texts-requires-clause-valid g c = c.requires

pub returns-in-Some-clause-texts : goal.returns-in-Some-clause-texts
returns-in-Some-clause-texts g c =
    let x_is : x_of c.args.key.now ≡ Some c.in-Some.x.now =
    x_found c.args.key.now c.in_ok-names.names (Some c.in-Some.x.now) c.in_ok-names.ensures (sym (ap option_copied c.in-Some.is) ∙ c.first.ensures) in
    IfOk-weaker c.end_texts.result _ _
    (λ told e. from_x c.args.compiled.now (g.G.GraphRead.meaning c.args.graph.now) c.args.elem told.items c.args.self.now.numbering c.args.key.now c.args.parts.now
    c.in-Some.x.now x_is e)
    c.end_texts.ensures.texts

pub returns-clause-texts : goal.returns-clause-texts
returns-clause-texts g c =
    without_x c.args.compiled.now (g.G.GraphRead.meaning c.args.graph.now) c.args.elem c.new.result.items c.args.self.now.numbering c.args.key.now c.args.parts.now
    (x_found c.args.key.now c.in_ok-names.names None c.in_ok-names.ensures (sym (ap option_copied c.in-None.is) ∙ c.first.ensures))
    c.new.ensures.items
