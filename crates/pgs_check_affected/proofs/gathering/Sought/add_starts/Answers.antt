use Rattle.std.proofs.Common.{◌≡◌, ◌++◌, length, sym, ap, ◌∙◌, arith}
use Rattle.std.proofs.lemmas.Bool.{and_parts}
use Rattle.pgs_syntax.specs.declared.pattern.Pattern.{Pattern}
use Rattle.pgs_match.specs.Planned.{pattern_of}
use Rattle.pgs_match.proofs.Known.{valid_most}
use Rattle.pgs_match.proofs.Scopes.{side_valid}
use Rattle.pgs_check_affected.specs.Found.{starts_of}
use Rattle.pgs_check_affected.proofs.Together.{starts_passed, starts_same}
use Rattle.pgs_check_affected.proofs.gathering.Sought.add_starts.Goals as goal
use Rattle.pgs_check_affected.proofs.gathering.Sought.add_starts.Goals.{then-passes+in_ok-push, else-passes}

pub loop-var-preserved : goal.loop-var-preserved
loop-var-preserved c =
    let resolved = c.args.self.now.compiled.now in
    let pattern = pattern_of c.args.self.now.side c.args.self.now.key.now in
    let past = c.loop-var.invariant in
    record {
      so_far = elim c.if-passes.branch [
        | then-passes+in_ok-push w ↦
            starts_passed resolved pattern c.args.elem c.args.own.now c.loop-var.var c.args.starts.now.items c.loop-var.starts.items c.if-passes.starts.items past.so_far
            (sym c.passes.ensures ∙ w.if-passes.true) (ap (λ v. v.items) w.starts-is ∙ w.in_ok-push.ensures.items)
        | else-passes w ↦
            starts_same resolved pattern c.args.elem c.args.own.now c.loop-var.var c.args.starts.now.items c.loop-var.starts.items c.if-passes.starts.items past.so_far
            (sym c.passes.ensures ∙ w.if-passes.false) (ap (λ v. v.items) w.starts-is)
      ];
    }

pub returns : goal.returns
returns c =
    let key = c.args.self.now.key.now in
    let side = c.args.self.now.side in
    let pattern = pattern_of side key in
    let few = valid_most pattern (side_valid side key (and_parts _ _ (and_parts _ _ c.requires).0).0) in
    let count = ap (λ (p : Pattern). length p.edge_vars) c.pattern.ensures.pattern in
    let last : c.loop-var.var ≡ length pattern.edge_vars = omega (arith, count, few, c.len-vars.ensures, c.loop-var-test.false, c.loop-var.auto.var-end) in
    c.loop-var.invariant.so_far
    ∙ ap (λ vars. c.args.starts.now.items ++ starts_of c.args.self.now.compiled.now pattern c.args.elem c.args.own.now vars) last
