-- The qualifiers of a key, of which the first is read before the others.
use Rattle.std.proofs.Common.{◌≡◌, List, [], ◌∷◌, Some, None, length, refl}
use Rattle.pgs_lexer.specs.Token.{Lexeme}
use Rattle.pgs_parser.specs.Reader.{listed_at, numbered, followed, none_declared}
use Rattle.pgs_parser.specs.KeyReaders.{qualifier_at, qualifier_begins}
use Rattle.pgs_parser.specs.declared.qualifier.Qualifier.{Qualifier}
use Rattle.pgs_parser.proofs.Items.{more-none}

-- where no further one has to follow, the first stands alone
pub one_written : (tokens : List Lexeme) (x : Qualifier × List Lexeme) → qualifier_at tokens ≡ Some x → qualifier_begins x.1 ≡ None →
    listed_at qualifier_begins qualifier_at tokens ≡ Some (x.0 ∷ [], x.1)
unfolding numbered
one_written tokens x e stops = rw (e, more-none qualifier_begins (λ place. qualifier_at) none_declared (length x.1) 0 x.1 stops) refl

-- the first and those that follow it
pub more_written : (tokens : List Lexeme) (x : Qualifier × List Lexeme) → qualifier_at tokens ≡ Some x →
    listed_at qualifier_begins qualifier_at tokens ≡ followed qualifier_begins (λ place. qualifier_at) none_declared 0 x
unfolding numbered
more_written tokens x e = rw e refl

-- without a first there is none
pub none_written : (tokens : List Lexeme) → qualifier_at tokens ≡ None → listed_at qualifier_begins qualifier_at tokens ≡ None
unfolding numbered
none_written tokens e = rw e refl
