use Rattle.std.proofs.Common.{◌≡◌, ◌&&◌, ◌||◌, ◌∙◌, ap}
use Rattle.std.specs.Map.{keys_of}
use Rattle.std.proofs.lemmas.Result.{IfOk-weaker}
use Rattle.pgs_base.specs.Pair.{has_name}
use Rattle.pgs_contain.specs.Known.{names_met_key}
use Rattle.pgs_contain.proofs.shapes.frame_among.Goals as goal

pub returns : goal.returns
returns c =
    let words = c.in_ok-words.words in
    let shape = c.args.shape.now in
    IfOk-weaker c.frame_of.result _ _
    (λ frame made. record {
      keys = words.keys;
      key = words.key;
      known = λ k.
          c.in_ok-words.ensures.keys k
          ∙ ap (λ labels. shape.more_keys && (has_name k (keys_of shape.keys) || names_met_key c.args.others.now labels k)) c.in_ok-labels.ensures;
      new = words.new_key;
      strange = c.in_ok-words.ensures.key;
      framed = (made.0 ∙ c.in_ok-labels.ensures, made.1, made.2);
    }) c.frame_of.ensures
