use Rattle.std.proofs.Common.{◌≡◌, ◌&&◌, ◌||◌, ◌∙◌, ap}
use Rattle.std.proofs.lemmas.Result.{IfOk-weaker}
use Rattle.pgs_contain.specs.declared.labels_of_three.LabelsOfThree.{LabelsOfThree}
use Rattle.pgs_contain.specs.Known.{any_free, three_name, three_name_met_key}
use Rattle.pgs_contain.proofs.triples.frames_among.Goals as goal

pub returns : goal.returns
returns c =
    let words = c.in_ok-words.words in
    let triple = c.args.triple.now in
    let labels = c.in_ok-labels.ensures in
    IfOk-weaker c.frames_of.result _ _
    (λ frames made. record {
      keys = words.keys;
      key = words.key;
      known = λ k.
          c.in_ok-words.ensures.keys k
          ∙ ap (λ (ls : LabelsOfThree). any_free triple && (three_name triple k || three_name_met_key c.args.others.now ls k)) labels;
      new = words.new_key;
      strange = c.in_ok-words.ensures.key;
      framed = (
        (made.0.0 ∙ ap (λ (ls : LabelsOfThree). ls.source) labels, made.0.1, made.0.2),
        (made.1.0 ∙ ap (λ (ls : LabelsOfThree). ls.middle) labels, made.1.1, made.1.2),
        (made.2.0 ∙ ap (λ (ls : LabelsOfThree). ls.target) labels, made.2.1, made.2.2),
      );
    }) c.frames_of.ensures
