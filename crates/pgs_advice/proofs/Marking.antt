-- Marks are those of a list of types, while what marked types name is marked.
use Rattle.std.proofs.Common.{◌≡◌, ℕ, true, false, List, ◌++◌, sym, ap, subst, ◌∙◌}
use Rattle.std.proofs.lemmas.Bool.{cond-true, cond-false}
use Rattle.pgs_syntax.specs.declared.resolved.Resolved.{Resolved}
use Rattle.pgs_syntax.specs.declared.resolved.TypeNo.{TypeNo}
use Rattle.pgs_syntax.specs.Valid.{is_type}
use Rattle.pgs_advice.specs.declared.used.Marks.{Marks}
use Rattle.pgs_advice.specs.Used.{is_among, is_marked, AreMarks, named_by, with_named}

module _ (resolved : Resolved) (used : List TypeNo) (marks : Marks) (are : AreMarks resolved used marks) (t : TypeNo) (there : is_type resolved t ≡ true) where
  pub walks_on : (new : Marks) (types : List TypeNo) → is_marked marks t ≡ true → types ≡ named_by resolved t → AreMarks resolved (used ++ types) new → AreMarks resolved (with_named resolved used t) new
  walks_on new types marked same are_new =
      let is : with_named resolved used t ≡ used ++ types = cond-true (is_among t used) (used ++ named_by resolved t) used (sym (are.are t there) ∙ marked) ∙ ap (λ ts. used ++ ts) (sym same) in
      subst (λ (ts : List TypeNo). AreMarks resolved ts new) (sym is) are_new

  pub stays_so : is_marked marks t ≡ false → AreMarks resolved (with_named resolved used t) marks
  stays_so unmarked =
      let is : with_named resolved used t ≡ used = cond-false (is_among t used) (used ++ named_by resolved t) used (sym (are.are t there) ∙ unmarked) in
      subst (λ (ts : List TypeNo). AreMarks resolved ts marks) (sym is) are
