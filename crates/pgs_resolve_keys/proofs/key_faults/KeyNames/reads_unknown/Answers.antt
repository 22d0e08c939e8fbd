use Rattle.std.proofs.Common.{ℕ, List, [], not, sym, ◌∙◌, ap}
use Rattle.std.specs.List.{list_all}
use Rattle.std.specs.Option.{unwrap_or}
use Rattle.pgs_base.specs.Pair.{has_name}
use Rattle.pgs_syntax.specs.declared.raw.RawExpr.{RawExpr}
use Rattle.pgs_resolve_keys.specs.KeyFaults.{descriptor_names}
use Rattle.pgs_resolve_keys.specs.Patterns.{x_of}
use Rattle.pgs_resolve_keys.proofs.key_faults.KeyNames.reads_unknown.Goals as goal

pub returns : goal.returns
returns c key x are exprs is =
    let names = are.descriptor x is ∙ ap (λ o. descriptor_names key (unwrap_or o [])) (sym is) in
    ap not (c.reads_only.ensures ∙ ap (λ (ns : List (List ℕ)). list_all (λ (expr : RawExpr). has_name expr.var ns) c.args.exprs.now) names
    ∙ ap (list_all (λ (expr : RawExpr). has_name expr.var (descriptor_names key (unwrap_or (x_of key) [])))) exprs)
