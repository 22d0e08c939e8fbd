-- The lines of a dry run that no other run puts, each with its line feed.
use Rattle.std.specs.Prelude.{ℕ, List, ◌++◌, codes, decimal}

-- a transaction that is accepted and not kept: the number of its line, and that which its commit would have
unfoldable pub accepted_line : ℕ → ℕ → List ℕ
accepted_line line commit = decimal line ++ (codes " accepted " ++ (decimal commit ++ codes "\n"))

-- a cause of a refused line
unfoldable pub because_line : ℕ → List ℕ → List ℕ
because_line line text = decimal line ++ (codes " because " ++ (text ++ codes "\n"))
