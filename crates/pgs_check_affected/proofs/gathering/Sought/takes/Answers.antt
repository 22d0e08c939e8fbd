use Rattle.std.proofs.Common.{◌≡◌, ⊎_elim, length, false, sym, ap, ◌∙◌, subst, arith}
use Rattle.std.proofs.lemmas.Bool.{and_parts, cases_lt}
use Rattle.pgs_syntax.specs.declared.pattern.Pattern.{Pattern}
use Rattle.pgs_match.specs.Planned.{pattern_of}
use Rattle.pgs_match.proofs.Known.{valid_most}
use Rattle.pgs_match.proofs.Scopes.{side_valid}
use Rattle.pgs_check_affected.specs.Met.{is_taken_at}
use Rattle.pgs_check_affected.proofs.gathering.Sought.takes.Goals as goal

pub loop-var-preserved : goal.loop-var-preserved
loop-var-preserved c =
    let pattern = pattern_of c.args.self.now.side c.args.self.now.key.now in
    record {
      none = λ var from below.
          ⊎_elim (λ less. c.loop-var.invariant.none var from less)
          (λ last. let same : c.loop-var.var ≡ var = omega (arith, below, last) in
          subst (λ v. is_taken_at c.args.self.now.compiled.now pattern v c.args.known.now ≡ false) same (sym c.takes_at.ensures ∙ c.if-takes_at.false))
          (cases_lt var c.loop-var.var);
    }

pub returns : goal.returns
returns c = λ is var from below.
    let key = c.args.self.now.key.now in
    let side = c.args.self.now.side in
    let few = valid_most (pattern_of side key) (side_valid side key (and_parts _ _ (and_parts _ _ c.requires).0).0) in
    let count = ap (λ (pattern : Pattern). length pattern.edge_vars) c.pattern.ensures.pattern in
    c.loop-var.invariant.none var from (omega (arith, below, count, few, c.len-vars.ensures, c.loop-var-test.false))
