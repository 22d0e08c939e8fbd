-- A path without steps.
use Rattle.std.proofs.Common.{◌≡◌, List, [], Some, None, length}
use Rattle.pgs_lexer.specs.Token.{Lexeme}
use Rattle.pgs_parser.specs.Reader.{each_at, none_declared}
use Rattle.pgs_parser.specs.KeyReaders.{step_at, step_begins}
use Rattle.pgs_parser.proofs.Items.{more-none}

-- where no step begins, there is none
pub no_step : (tokens : List Lexeme) → step_begins tokens ≡ None → each_at step_begins step_at tokens ≡ Some ([], tokens)
no_step tokens e = more-none step_begins (λ place. step_at) none_declared (length tokens) 0 tokens e
