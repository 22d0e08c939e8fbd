use Rattle.std.proofs.Common.{◌≤◌, length, subst}
use Rattle.std.specs.Prelude.{List}
use Rattle.pgs_base.specs.declared.text_limit.TheConstants.{TEXT_LIMIT}
use Rattle.pgs_lexer.specs.Token.{Lexeme}
use Rattle.pgs_lexer.specs.Cut.{AreInOrder, IsFromText}
use Rattle.pgs_lexer.proofs.Spans.{few_spans, AreInOrder-spans, IsFromText-spans}
use Rattle.pgs_lexer.proofs.token.Tokens.len.Goals as goal

pub returns-clause-at_most : goal.returns-clause-at_most
returns-clause-at_most c = subst (λ (tokens : List Lexeme). length tokens ≤ TEXT_LIMIT) c.self.view_is (few_spans _ _ c.self.invariant)

pub returns-clause-in_order : goal.returns-clause-in_order
returns-clause-in_order c = subst AreInOrder c.self.view_is (AreInOrder-spans _ _ c.self.invariant)

pub returns-clause-from_text : goal.returns-clause-from_text
returns-clause-from_text c = subst IsFromText c.self.view_is (IsFromText-spans _ _ c.self.invariant)
