-- The causes of the violation of a key, whose text is taken from the text of the schema.
use Rattle.std.specs.Prelude.{◌≡◌, ℕ, List, Ok}
use Rattle.pgs_base.specs.Graph.{Graph}
use Rattle.pgs_lexer.specs.Cut.{tokens_of}
use Rattle.pgs_lexer.specs.Token.{Lexeme}
use Rattle.pgs_parser.specs.StatementReaders.{script_of}
use Rattle.pgs_syntax.specs.declared.resolved.Resolved.{Resolved}
use Rattle.pgs_syntax.specs.declared.script.Script.{Script}
use Rattle.pgs_violation.specs.declared.violation.Violation.{Violation}
use Rattle.pgs_key_causes.specs.declared.guide.KeyGuide.{KeyGuide}
use Rattle.pgs_key_causes.specs.Causes.{AreKeyCauses, IsGuideOf}

-- they are those that are told by the guide of this text
pub record AreCausesOfKey (text : List ℕ) (schema : Resolved) (g : Graph) (violation : Violation) (texts : List (List ℕ)) : Type 0 where
  pub tokens : List Lexeme
  pub lexed : tokens_of text ≡ Ok tokens
  pub script : Script
  pub parsed : script_of tokens ≡ Ok script
  pub guide : KeyGuide
  pub guides : IsGuideOf tokens script guide
  pub causes : AreKeyCauses schema g guide violation texts
