-- No other line of the command begins with the line of a schema.
use Rattle.std.proofs.Common.{◌≡◌, ℕ, nat_eq, false, List, ◌++◌, get_or, refl, ◌∙◌, ap, arith}
use Rattle.std.proofs.lemmas.Bool.Decides.{nat_tests}
use Rattle.pgs_answer.specs.Lines.{evolve_refused_line, evolved_line, schema_refused_line, store_refused_line}
use Rattle.pgs_syntax.specs.declared.resolved.Resolved.{Resolved}
use Rattle.pgs_run_renewal.specs.EvolveTold.{line_of}

-- no front of this line is the line of a schema
abbrev pub IsUnlike : List ℕ → Type 0
IsUnlike line = (schema : Resolved) (front back : List ℕ) → line ≡ front ++ back → front ≡ line_of schema → ⊥

other_than : (line : List ℕ) → ((types keys : ℕ) (back : List ℕ) → line ≡ evolved_line types keys ++ back → ⊥) → IsUnlike line
other_than line never schema front back parts is = never _ _ back (parts ∙ ap (λ (f : List ℕ). f ++ back) is)

other_byte : (n m : ℕ) → nat_eq n m ≡ false → n ≡ m → ⊥
other_byte n m differ same = grind (arith, nat_tests)

never_refused : (text : List ℕ) (types keys : ℕ) (back : List ℕ) → evolve_refused_line text ≡ evolved_line types keys ++ back → ⊥
never_refused text types keys back is = other_byte 32 100 refl (ap (λ (line : List ℕ). get_or line 6 0) is)

never_store : (text : List ℕ) (types keys : ℕ) (back : List ℕ) → store_refused_line text ≡ evolved_line types keys ++ back → ⊥
never_store text types keys back is = other_byte 115 101 refl (ap (λ (line : List ℕ). get_or line 0 0) is)

never_schema : (text : List ℕ) (types keys : ℕ) (back : List ℕ) → schema_refused_line text ≡ evolved_line types keys ++ back → ⊥
unfolding schema_refused_line
never_schema text types keys back is = other_byte 115 101 refl (ap (λ (line : List ℕ). get_or line 0 0) is)

pub refused_unlike : (text : List ℕ) → IsUnlike (evolve_refused_line text)
refused_unlike text = other_than (evolve_refused_line text) (never_refused text)

pub store_unlike : (text : List ℕ) → IsUnlike (store_refused_line text)
store_unlike text = other_than (store_refused_line text) (never_store text)

pub schema_unlike : (text : List ℕ) → IsUnlike (schema_refused_line text)
schema_unlike text = other_than (schema_refused_line text) (never_schema text)
