-- A text has one answer, and it is the computed one.
use Rattle.std.proofs.Common.{◌≡◌, ◌↔◌, ℕ, List, Option, Some, None, Result, Ok, Err, refl, sym, ap, ◌∙◌, subst}
use Rattle.std.specs.Option.{option_map_or}
use Rattle.pgs_syntax.specs.declared.resolved.Resolved.{Resolved}
use Rattle.pgs_syntax.specs.declared.script.Script.{Script}
use Rattle.pgs_parser.specs.Text.{Found, IsFound, found, too_long, no_item, no_statement, script}
use Rattle.pgs_parser.proofs.Findings.{is_found, findings}
use Rattle.pgs_resolve.specs.declared.fault.ResolveFault.{ResolveFault}
use Rattle.pgs_resolve.specs.Resolution.{resolution}
use Rattle.pgs_resolve.specs.SchemaOf.{Answer, IsSchemaOf, has_wide_type, schema, of_length, of_items, of_statements, of_refusal, of_width, of_script, answer_of_script, answer_of_finding, schema_of}
use Rattle.pgs_syntax.specs.Width.{first_too_wide}

-- ---- the computed answer is one

of_its_width : (text : List ℕ) (tree : Script) (resolved : Resolved) (wide : Option (List ℕ)) → IsFound text (script tree) → resolution tree ≡ Ok resolved →
    first_too_wide resolved ≡ wide → IsSchemaOf text (option_map_or has_wide_type wide (schema resolved))
of_its_width text tree resolved None f r w = of_script f r w
of_its_width text tree resolved (Some name) f r w = of_width f r w

of_its_script : (text : List ℕ) (tree : Script) (result : Result Resolved ResolveFault) → IsFound text (script tree) → resolution tree ≡ result →
    IsSchemaOf text (answer_of_script result)
of_its_script text tree (Ok resolved) f r = of_its_width text tree resolved (first_too_wide resolved) f r refl
of_its_script text tree (Err fault) f r = of_refusal f r

of_its_finding : (text : List ℕ) (finding : Found) → IsFound text finding → IsSchemaOf text (answer_of_finding finding)
of_its_finding text too_long f = of_length f
of_its_finding text (no_item line) f = of_items f
of_its_finding text (no_statement n) f = of_statements f
of_its_finding text (script tree) f = of_its_script text tree (resolution tree) f refl

pub has_answer : (text : List ℕ) → IsSchemaOf text (schema_of text)
unfolding schema_of
has_answer text = of_its_finding text (found text) (is_found text)

-- ---- and each answer is the computed one

pub is_computed : (text : List ℕ) (answer : Answer) → IsSchemaOf text answer → schema_of text ≡ answer
unfolding schema_of
is_computed text answer (of_length f) = ap answer_of_finding ((findings text too_long).1 f)
is_computed text answer (of_items {line = line} f) = ap answer_of_finding ((findings text (no_item line)).1 f)
is_computed text answer (of_statements {n = n} f) = ap answer_of_finding ((findings text (no_statement n)).1 f)
is_computed text answer (of_refusal {tree = tree} f r) = ap answer_of_finding ((findings text (script tree)).1 f) ∙ ap answer_of_script r
is_computed text answer (of_width {tree = tree} {resolved = resolved} f r w) =
    ap answer_of_finding ((findings text (script tree)).1 f) ∙ ap answer_of_script r ∙ ap (λ wide. option_map_or has_wide_type wide (schema resolved)) w
is_computed text answer (of_script {tree = tree} {resolved = resolved} f r w) =
    ap answer_of_finding ((findings text (script tree)).1 f) ∙ ap answer_of_script r ∙ ap (λ wide. option_map_or has_wide_type wide (schema resolved)) w

pub computed_answers : (text : List ℕ) (answer : Answer) → (schema_of text ≡ answer) ↔ IsSchemaOf text answer
computed_answers text answer = (λ e. subst (IsSchemaOf text) e (has_answer text), is_computed text answer)

pub one_answer : (text : List ℕ) (one other : Answer) → IsSchemaOf text one → IsSchemaOf text other → one ≡ other
one_answer text one other h k = sym (is_computed text one h) ∙ is_computed text other k
