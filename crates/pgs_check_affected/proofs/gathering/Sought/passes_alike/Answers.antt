use Rattle.std.proofs.Common.{◌≡◌, ◌<◌, length, true, sym, ap, ◌∙◌, subst, add-one, arith}
use Rattle.std.proofs.lemmas.Bool.{and_parts, and_from, both_ways, false_from_ne_true}
use Rattle.pgs_syntax.specs.declared.pattern.Pattern.{Pattern}
use Rattle.pgs_match.specs.Planned.{pattern_of}
use Rattle.pgs_match.proofs.Known.{valid_most}
use Rattle.pgs_match.proofs.Scopes.{side_valid}
use Rattle.pgs_check_affected.specs.Unseen.{passes_alike}
use Rattle.pgs_check_affected.proofs.Unseen.{each_outcome}
use Rattle.pgs_check_affected.proofs.gathering.Sought.passes_alike.Goals as goal

pub loop-var-preserved : goal.loop-var-preserved
loop-var-preserved c =
    let pattern = pattern_of c.args.self.now.side c.args.self.now.key.now in
    record {
      so_far = subst (λ vars. passes_alike c.args.self.now.compiled.now pattern vars c.args.known.now ≡ true) (sym (add-one c.loop-var.var))
          (and_from _ _ c.loop-var.invariant.so_far (sym c.passes_alike_at.ensures ∙ c.if-not-passes_alike_at.false));
    }

pub returns-then-not-passes_alike_at : goal.returns-then-not-passes_alike_at
returns-then-not-passes_alike_at c =
    let key = c.args.self.now.key.now in
    let side = c.args.self.now.side in
    let pattern = pattern_of side key in
    let few = valid_most pattern (side_valid side key (and_parts _ _ (and_parts _ _ c.requires).0).0) in
    let count = ap (λ (p : Pattern). length p.edge_vars) c.pattern.ensures.pattern in
    let below : c.loop-var.var < length pattern.edge_vars = omega (arith, count, few, c.len-vars.ensures, c.loop-var-test.true) in
    sym (false_from_ne_true _ (λ all. both_ways _ (sym c.passes_alike_at.ensures ∙ c.if-not-passes_alike_at.true)
    (each_outcome c.args.self.now.compiled.now pattern c.args.known.now (length pattern.edge_vars) all c.loop-var.var below)))

pub returns : goal.returns
returns c =
    let key = c.args.self.now.key.now in
    let side = c.args.self.now.side in
    let pattern = pattern_of side key in
    let few = valid_most pattern (side_valid side key (and_parts _ _ (and_parts _ _ c.requires).0).0) in
    let count = ap (λ (p : Pattern). length p.edge_vars) c.pattern.ensures.pattern in
    let last : c.loop-var.var ≡ length pattern.edge_vars = omega (arith, count, few, c.len-vars.ensures, c.loop-var-test.false, c.loop-var.auto.var-end) in
    sym (subst (λ vars. passes_alike c.args.self.now.compiled.now pattern vars c.args.known.now ≡ true) last c.loop-var.invariant.so_far)
