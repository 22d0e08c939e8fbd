-- The text of a workload's schema is a schema: by its derivation, and by computing.
use Rattle.std.proofs.Common.{◌≡◌, ℕ, true, false, List, [], ◌∷◌, Ok, Some, None, inl, refl, ap, arith, codes}
use denote.Hole.Carrier.{hidden}
use Rattle.std.specs.Char.{encode_utf8}
use Rattle.std.specs.Str.{is_utf8, chars}
use Rattle.std.specs.Str.Lossy.{utf8_valid_len}
use Rattle.pgs_base.specs.declared.value.Kind.TheVariants as kinds
use Rattle.pgs_gen.specs.Generated.{schema_text}
use Rattle.pgs_lexer.specs.Scan.{item_at}
use Rattle.pgs_lexer.specs.Cut.{tokens_of, tokens_from}
use Rattle.pgs_parser.specs.Production.{here}
use Rattle.pgs_parser.specs.Samples as samples
use Rattle.pgs_parser.specs.Text.{IsFound, script, is_script}
use Rattle.pgs_parser.specs.Types.{named, plain, one_unit, one_conj}
use Rattle.pgs_parser.proofs.OneToken.{◌⟨◌⟩◌}
use Rattle.pgs_resolve.specs.Resolution.{resolution}
use Rattle.pgs_resolve.specs.SchemaOf.{of_script, schema, schema_of}
use Rattle.pgs_resolve.proofs.OneAnswer.{is_computed}
use Rattle.pgs_syntax.specs.declared.raw.RawKey.{RawKey}
use Rattle.pgs_syntax.specs.declared.script.Member.TheVariants as members
use Rattle.pgs_syntax.specs.declared.script.Script.{Script}
use Rattle.pgs_syntax.specs.declared.specification.Spec as specs
use Rattle.pgs_syntax.specs.declared.specification.Spec.{Word, And}
use Rattle.pgs_syntax.specs.declared.specification.Spec.TheBlock as block
use Rattle.pgs_syntax.specs.Samples.{property, qualifiers}
use Rattle.pgs_syntax.specs.Width.{first_too_wide}
use Rattle.pgs_run_input.specs.Answers.{schema_answer, schema_or_text}
use Rattle.pgs_run_gen.specs.Persons.{persons}

abbrev key_of : ℕ → List ℕ → RawKey
key_of place name = record {
  place = place;
  qualifiers = qualifiers true true true;
  scope = samples.alone (samples.place (Some (codes "x")) (codes "p" ∷ [])) ∷ [];
  exprs = record { var = codes "x"; key = Some name } ∷ [];
  within = None;
}

abbrev persons_script : Script
persons_script = samples.script (samples.graph (codes "g") true 1 []
    (members.Node (samples.written (codes "p") 2 (And (samples.word (codes "Person")
    ∷ specs.Braces (record { properties = property (codes "id") kinds.Int ∷ property (codes "mail") kinds.Text ∷ []; more = false }) ∷ [])))
    ∷ members.Edge (record {
      name = codes "k";
      hidden = false;
      place = 3;
      source = samples.word (codes "p");
      middle = samples.word (codes "knows");
      target = samples.word (codes "p");
    }) ∷ []) (key_of 4 (codes "mail") ∷ key_of 5 (codes "id") ∷ []) ∷ [])

persons_found : IsFound schema_text (script persons_script)
unfolding tokens_of tokens_from item_at is_utf8 utf8_valid_len chars encode_utf8
persons_found = is_script (omega arith) refl (record {
  statements = (
    _ ⟨ here (refl, refl) ⟩ _ ⟨ here (refl, refl) ⟩ _ ⟨ here (refl, refl) ⟩ _ ⟨ here (refl, refl) ⟩
        _ ⟨ here (refl, refl) ⟩ _ ⟨ refl ⟩ _ ⟨ here (refl, refl) ⟩ _ ⟨ (_ ⟨ (_ ⟨ (_ ⟨ refl ⟩ _ ⟨ here (refl, refl) ⟩ _ ⟨ here (refl, refl) ⟩
        _ ⟨ (
          Some (Word (codes "Person")),
          false,
          Some (record {
            properties = record { key = codes "id"; kind = kinds.Int; optional = false }
                ∷ record { key = codes "mail"; kind = kinds.Text; optional = false } ∷ [];
            more = false;
          }),
          refl,
          _ ⟨ (_ ⟨ here (refl, refl) ⟩ one_conj (one_unit (plain (named (here (refl, refl)))))) ⟩ _ ⟨ refl ⟩ _ ⟨ here (refl, refl) ⟩
              _ ⟨ (_ ⟨ (_ ⟨ refl ⟩ _ ⟨ here (refl, refl) ⟩ here (refl, refl)) ⟩ _ ⟨ (_ ⟨ here (refl, refl) ⟩ _ ⟨ refl ⟩ _ ⟨ here (refl, refl) ⟩ here (refl, refl)) ⟩ refl) ⟩ here (refl, refl),
        ) ⟩ here (refl, refl)) ⟩ _ ⟨ (_ ⟨ here (refl, refl) ⟩ _ ⟨ refl ⟩ inl (_ ⟨ (_ ⟨ here (refl, refl) ⟩ _ ⟨ (
          Some (Word (codes "p")),
          false,
          None,
          refl,
          _ ⟨ (_ ⟨ here (refl, refl) ⟩ one_conj (one_unit (plain (named (here (refl, refl)))))) ⟩ _ ⟨ refl ⟩ refl,
        ) ⟩ here (refl, refl)) ⟩ _ ⟨ here (refl, refl) ⟩ _ ⟨ (_ ⟨ here (refl, refl) ⟩ _ ⟨ here (refl, refl) ⟩ _ ⟨ (
          Some (Word (codes "knows")),
          false,
          None,
          refl,
          _ ⟨ (_ ⟨ here (refl, refl) ⟩ one_conj (one_unit (plain (named (here (refl, refl)))))) ⟩ _ ⟨ refl ⟩ refl,
        ) ⟩ here (refl, refl)) ⟩
        _ ⟨ here (refl, refl) ⟩ _ ⟨ here (refl, refl) ⟩ _ ⟨ (
          Some (Word (codes "p")),
          false,
          None,
          refl,
          _ ⟨ (_ ⟨ here (refl, refl) ⟩ one_conj (one_unit (plain (named (here (refl, refl)))))) ⟩ _ ⟨ refl ⟩ refl,
        ) ⟩ here (refl, refl))) ⟩ refl) ⟩
        _ ⟨ here (refl, refl) ⟩ _ ⟨ (_ ⟨ here (refl, refl) ⟩
        _ ⟨ (_ ⟨ (_ ⟨ (_ ⟨ here (refl, refl) ⟩ _ ⟨ (_ ⟨ here (refl, refl) ⟩ _ ⟨ (_ ⟨ here (refl, refl) ⟩ _ ⟨ here (refl, refl) ⟩ refl) ⟩ refl) ⟩ here (refl, refl)) ⟩ refl) ⟩ refl) ⟩
        _ ⟨ inl (refl, here (refl, refl)) ⟩ _ ⟨ (_ ⟨ (_ ⟨ here (refl, refl) ⟩ _ ⟨ here (refl, refl) ⟩ here (refl, refl)) ⟩ refl) ⟩ refl) ⟩ _ ⟨ (_ ⟨ here (refl, refl) ⟩ _ ⟨ here (refl, refl) ⟩
        _ ⟨ (_ ⟨ (_ ⟨ (_ ⟨ here (refl, refl) ⟩ _ ⟨ (_ ⟨ here (refl, refl) ⟩ _ ⟨ (_ ⟨ here (refl, refl) ⟩ _ ⟨ here (refl, refl) ⟩ refl) ⟩ refl) ⟩ here (refl, refl)) ⟩ refl) ⟩ refl) ⟩
        _ ⟨ inl (refl, here (refl, refl)) ⟩ _ ⟨ (_ ⟨ (_ ⟨ here (refl, refl) ⟩ _ ⟨ here (refl, refl) ⟩ here (refl, refl)) ⟩ refl) ⟩ refl) ⟩ refl) ⟩ _ ⟨ here (refl, refl) ⟩ here (refl, refl),
    tt,
  );
  places = refl;
})

persons_resolved : resolution persons_script ≡ Ok persons
unfolding resolution block.hidden-the_row-Spec-0 hidden
persons_resolved = refl

pub text_has_schema : schema_of schema_text ≡ schema persons
unfolding first_too_wide block.hidden-the_row-Spec-0 hidden
text_has_schema = is_computed schema_text (schema persons) (of_script persons_found persons_resolved refl)

pub text_answered : schema_answer schema_text ≡ Ok persons
unfolding schema_answer
text_answered = ap schema_or_text text_has_schema
