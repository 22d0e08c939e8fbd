use Rattle.std.proofs.Common.{◌∷◌, [], ◌++◌, ◌∙◌, ap, sym, subst, List, ℕ}
use Rattle.pgs_codec.specs.Payload.{payload_of}
use Rattle.pgs_journal.specs.Format.{IsFrames}
use Rattle.pgs_saved_graph.proofs.Joined.{frames_joined}
use Rattle.pgs_saved_graph.proofs.frames.first_frames.Goals as goal

pub returns-clause-frames : goal.returns-clause-frames
returns-clause-frames c =
    let items = c.open_gate.new.frame.items in
    let behind = c.as_slice.ensures ∙ c.in_ok-last.ensures.frame in
    let all = c.from_vec.ensures ∙ (c.in_ok-extend_from_slice.ensures.items ∙ ap (λ (l : List ℕ). items ++ l) behind) in
    subst (λ (l : List ℕ). IsFrames (payload_of c.args.first.now ∷ payload_of c.args.second.now ∷ []) 3 l) (sym all)
    (frames_joined (payload_of c.args.first.now) (payload_of c.args.second.now) items
    (c.open_gate.ensures (payload_of c.args.first.now) (c.into_vec-frames.ensures.items ∙ c.in_ok-record_frame.ensures.frame)))
