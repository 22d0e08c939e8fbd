use Rattle.std.proofs.Common.{◌≡◌, ◌∷◌, ◌++◌, [], List, ℕ, sym, subst, ap, ◌∙◌}
use Rattle.pgs_run_lines.specs.Driving.{Runs}
use Rattle.pgs_run_lines.specs.Input.{Lines, kept_of}
use Rattle.pgs_run_lines.specs.Machine.{scene_of}
use Rattle.pgs_run_lines.proofs.Cutting.{kept_ended}
use Rattle.pgs_run_lines.proofs.Begun.{begun_none}
use Rattle.pgs_run_lines.proofs.Driven.{stops_none, stops_line, runs_line}
use Rattle.pgs_run_lines.proofs.driving.take_line.Goals as goal

pub returns-in-Err-clause-takes : goal.returns-in-Err-clause-takes
returns-in-Err-clause-takes g c = stops_none g.T.LineTaker.machine g.T.LineTaker.rule c.args.buffer.now.limit (g.T.LineTaker.stands c.args.taker.now) _ _ (g.met.W.World.timed c.args.world.now) c.requires.holds

pub returns-in-Err-end_line-clause-takes : goal.returns-in-Err-end_line-clause-takes
returns-in-Err-end_line-clause-takes g c =
    let line = c.as_slice.result.now in
    let limit = c.args.buffer.now.limit in
    let cut : kept_of limit (c.args.buffer.now.bytes ++ (c.args.part.now ++ 10 ∷ [])) ≡ record { ended = line ∷ []; rest = [] } = kept_ended limit c.args.buffer.now.bytes c.args.part.now c.requires.begun.no_feed c.requires.line ∙ ap (λ (l : List ℕ). let r : Lines = record { ended = l ∷ []; rest = [] } in r) (sym (c.as_slice.ensures.bytes ∙ c.in-Ok.ensures.ok)) in
    stops_line g.T.LineTaker.machine g.T.LineTaker.rule limit (g.T.LineTaker.stands c.args.taker.now) _ _ (c.args.buffer.now.bytes ++ (c.args.part.now ++ 10 ∷ [])) line c.in-Err-end_line.stop cut c.in-Err-end_line.ensures.leads c.in-Err-end_line.ensures.shows c.in-Err-end_line.ensures.allows

pub returns-clause-takes : goal.returns-clause-takes
returns-clause-takes g c =
    let line = c.as_slice.result.now in
    let limit = c.args.buffer.now.limit in
    let cut : kept_of limit (c.args.buffer.now.bytes ++ (c.args.part.now ++ 10 ∷ [])) ≡ record { ended = line ∷ []; rest = [] } = kept_ended limit c.args.buffer.now.bytes c.args.part.now c.requires.begun.no_feed c.requires.line ∙ ap (λ (l : List ℕ). let r : Lines = record { ended = l ∷ []; rest = [] } in r) (sym (c.as_slice.ensures.bytes ∙ c.in-Ok.ensures.ok)) in
    let runs = runs_line g.T.LineTaker.machine g.T.LineTaker.rule limit (g.T.LineTaker.stands c.args.taker.now) _ _ _ (c.args.buffer.now.bytes ++ (c.args.part.now ++ 10 ∷ [])) line cut c.in-Ok-end_line.ensures.leads c.in-Ok-end_line.ensures.holds c.in-Ok-end_line.ensures.shows c.in-Ok-end_line.ensures.allows in
    subst (λ left. Runs g.T.LineTaker.machine g.T.LineTaker.rule limit (g.T.LineTaker.stands c.args.taker.now) (scene_of (g.W.World.view c.args.world.now) (g.T.LineTaker.kept c.args.taker.now)) (c.args.buffer.now.bytes ++ (c.args.part.now ++ 10 ∷ [])) (g.T.LineTaker.stands c.end_line.new.self) left (scene_of (g.W.World.view c.end_line.new.world) (g.T.LineTaker.kept c.end_line.new.self))) (sym c.clear.ensures.bytes) runs

pub returns-clause-begun : goal.returns-clause-begun
returns-clause-begun g c = begun_none c.clear.new.self c.clear.ensures.bytes
