use Rattle.std.proofs.Common.{◌++◌, ap, ◌∙◌}
use Rattle.pgs_json.proofs.Joined.{three_pieces}
use Rattle.pgs_json.proofs.Days.{short_day, date_text}
use Rattle.pgs_json.proofs.canonical.push_date.Goals as goal

pub returns : goal.returns
returns c =
    three_pieces _ _ _ _ _ _ _ c.in_ok-push.ensures.ok c.in_ok-push_day.ensures c.in_ok-push-2.ensures.ok
    ∙ ap (λ t. c.args.text.now ++ t) (date_text c.args.day (short_day c.args.day c.day-calendar.ensures.calendar))
