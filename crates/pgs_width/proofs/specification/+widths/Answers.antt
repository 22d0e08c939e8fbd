use Rattle.std.proofs.Common.{map, sym, ◌∙◌, ap}
use Rattle.pgs_syntax.specs.Width.{or_none, width_of}
use Rattle.pgs_width.specs.Capped.{capped_width, both_of, either_of}
use Rattle.pgs_width.proofs.Parts.{width_and, width_or, width_opt}
use Rattle.pgs_width.proofs.specification.+widths.Goals as goal

pub width_of-returns-in-And : goal.width_of-returns-in-And
width_of-returns-in-And t c = λ exact named.
    c.width_of_all.ensures exact named
    ∙ ap capped_width (ap (λ parts. both_of (map (width_of exact) parts)) c.as_slice.ensures ∙ sym (width_and exact c.in-And.parts) ∙ ap (width_of exact) (sym c.in-And.is))

pub width_of-returns-in-Or : goal.width_of-returns-in-Or
width_of-returns-in-Or t c = λ exact named.
    c.width_of_some.ensures exact named
    ∙ ap capped_width (ap (λ parts. either_of (map (width_of exact) parts)) c.as_slice-in-Or.ensures ∙ sym (width_or exact c.in-Or.parts) ∙ ap (width_of exact) (sym c.in-Or.is))

pub width_of-returns-in-Opt : goal.width_of-returns-in-Opt
width_of-returns-in-Opt t c = λ exact named.
    c.or_none.ensures (width_of exact c.get.result.now) (c.width_of.ensures exact named)
    ∙ ap capped_width (ap (λ part. or_none (width_of exact part)) c.get.ensures ∙ sym (width_opt exact c.in-Opt.part) ∙ ap (width_of exact) (sym c.in-Opt.is))
