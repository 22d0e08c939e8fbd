-- What the definitions give on the samples: each computes.
use Rattle.std.specs.Prelude.{length}
use Rattle.std.proofs.Common.{◌≡◌, true, false, [], ◌∷◌, Ok, Err, None, Some, codes, refl, arith}
use denote.Hole.Carrier.{hidden}
use Rattle.pgs_lexer.specs.Scan.{item_at}
use Rattle.pgs_lexer.specs.Cut.{tokens_of, tokens_from}
use Rattle.pgs_syntax.specs.declared.pattern.Atom.TheVariants.{Ends, HasLabel}
use Rattle.pgs_syntax.specs.declared.resolved.TypeNo.TheVariants as numbers
use Rattle.pgs_syntax.specs.declared.specification.Spec.TheBlock as block
use Rattle.pgs_syntax.specs.Samples.{staff, keyed, two_steps, moderator, pattern}
use Rattle.pgs_syntax.specs.Valid.{is_valid}
use Rattle.pgs_parser.specs.Samples as texts
use Rattle.pgs_parser.specs.Text.{is_script}
use Rattle.pgs_parser.proofs.NoMode.{no_mode_found}
use Rattle.pgs_parser.proofs.Texts as found
use Rattle.pgs_syntax.specs.declared.key_cause.KeyCause.TheVariants.{NoX, TwoKinds, Shared, Disconnected, UnknownVariable, TooLarge}
use Rattle.pgs_resolve.specs.declared.fault.ResolveFault.TheVariants as faults
use Rattle.pgs_resolve_keys.specs.KeyFaults.{cause_of}
use Rattle.pgs_resolve_declared.specs.Order.{numbering_of}
use Rattle.pgs_resolve_keys.specs.Patterns.{resolved_key}
use Rattle.pgs_resolve.specs.Resolution.{resolution, resolved}
use Rattle.pgs_resolve.specs.Samples.{acquaintance_schema, mail_schema, no_names, of_nodes, of_options, widest, narrow}
use Rattle.pgs_resolve.specs.SchemaOf.{IsSchemaOf, refused, schema, begins_no_item, is_no_statement, of_items, of_statements, of_refusal, of_script}
use Rattle.pgs_syntax.specs.Width.{first_too_wide}

pub staff_resolved : resolution texts.staff_script ≡ Ok (staff (numbers.Node 0 ∷ numbers.Node 1 ∷ []))
unfolding resolution block.hidden-the_row-Spec-0 hidden
staff_resolved = refl

pub acquaintance_resolved : resolution texts.acquaintance_script ≡ Ok acquaintance_schema
unfolding resolution block.hidden-the_row-Spec-0 hidden
acquaintance_resolved = refl

pub acquaintance_valid : is_valid acquaintance_schema ≡ true
unfolding block.hidden-the_row-Spec-0 hidden
acquaintance_valid = refl

pub listed_before : (numbering_of texts.backwards_script).nodes ≡ codes "a" ∷ codes "b" ∷ codes "c" ∷ []
listed_before = refl

pub imports_first : (resolved texts.importing).guard.types ≡ numbers.Node 0 ∷ numbers.Node 1 ∷ numbers.Node 2 ∷ []
imports_first = refl

pub keys_once : length (resolved texts.importing).guard.keys ≡ 1
keys_once = refl

pub own_word : (resolved texts.importing).guard.strict ≡ false
own_word = refl

pub steps_resolved : resolution (texts.keyed_script texts.two_steps_written) ≡ Ok (keyed (two_steps ∷ []))
unfolding resolution block.hidden-the_row-Spec-0 hidden
steps_resolved = refl

pub moderator_resolved : resolution (texts.keyed_script texts.moderator_written) ≡ Ok (keyed (moderator ∷ []))
unfolding resolution block.hidden-the_row-Spec-0 hidden
moderator_resolved = refl

pub edge_first : (resolved_key no_names texts.edge_first).scope ≡ pattern (true ∷ false ∷ false ∷ []) (HasLabel 2 (codes "A") ∷ Ends 0 1 2 ∷ [])
edge_first = refl

pub no_graph_type : resolution (texts.script []) ≡ Err faults.NoGraphType
unfolding resolution block.hidden-the_row-Spec-0 hidden
no_graph_type = refl

pub duplicate : resolution texts.declared_twice ≡ Err (faults.Duplicate (codes "a"))
unfolding resolution block.hidden-the_row-Spec-0 hidden
duplicate = refl

pub unknown : resolution texts.not_declared ≡ Err (faults.Unknown (codes "a"))
unfolding resolution block.hidden-the_row-Spec-0 hidden
unknown = refl

pub kind : resolution texts.wrong_kind ≡ Err (faults.Kind (codes "a"))
unfolding resolution block.hidden-the_row-Spec-0 hidden
kind = refl

pub types_cycle : resolution texts.cycle_of_types ≡ Err (faults.Cycle (codes "a"))
unfolding resolution block.hidden-the_row-Spec-0 hidden
types_cycle = refl

pub imports_cycle : resolution texts.cycle_of_imports ≡ Err (faults.Cycle (codes "g"))
unfolding resolution block.hidden-the_row-Spec-0 hidden
imports_cycle = refl

pub bad_key : resolution (texts.keyed_script texts.reads_y) ≡ Err (faults.BadKey 1 UnknownVariable)
unfolding resolution block.hidden-the_row-Spec-0 hidden
bad_key = refl

pub causes_names_nothing : cause_of 1 texts.names_nothing ≡ Some NoX
causes_names_nothing = refl

pub causes_leaves_x_out : cause_of 1 texts.leaves_x_out ≡ Some NoX
causes_leaves_x_out = refl

pub causes_node_and_edge : cause_of 1 texts.node_and_edge ≡ Some TwoKinds
causes_node_and_edge = refl

pub causes_shares_y : cause_of 1 texts.shares_y ≡ Some Shared
causes_shares_y = refl

pub causes_apart : cause_of 1 texts.apart ≡ Some Disconnected
causes_apart = refl

pub causes_reads_y : cause_of 1 texts.reads_y ≡ Some UnknownVariable
causes_reads_y = refl

pub causes_of_five_paths : cause_of 1 texts.of_five_paths ≡ Some TooLarge
causes_of_five_paths = refl

pub causes_of_nine_edges : cause_of 1 (texts.of_edges 9) ≡ Some TooLarge
causes_of_nine_edges = refl

pub causes_of_eight_edges : cause_of 1 (texts.of_edges 8) ≡ None
causes_of_eight_edges = refl

pub causes_of_17_expressions : cause_of 1 (texts.of_exprs 17) ≡ Some TooLarge
causes_of_17_expressions = refl

pub causes_of_16_expressions : cause_of 1 (texts.of_exprs 16) ≡ None
causes_of_16_expressions = refl

pub causes_too_late : cause_of 257 texts.linked ≡ Some TooLarge
causes_too_late = refl

pub causes_linked : cause_of 256 texts.linked ≡ None
causes_linked = refl

pub from_texts_bad_byte : IsSchemaOf texts.bad_byte_text (begins_no_item 1)
from_texts_bad_byte = of_items found.bad_byte_found

pub from_texts_empty : IsSchemaOf [] (refused faults.NoGraphType)
unfolding tokens_of tokens_from item_at resolution
from_texts_empty = of_refusal {tree = texts.script []} (is_script (omega arith) refl (record { statements = tt; places = refl })) refl

pub from_texts_staff : IsSchemaOf texts.staff_text (schema (staff (numbers.Node 0 ∷ numbers.Node 1 ∷ [])))
unfolding first_too_wide block.hidden-the_row-Spec-0 hidden
from_texts_staff = of_script found.staff_found staff_resolved refl

pub from_texts_moderator : IsSchemaOf texts.moderator_text (schema (keyed (moderator ∷ [])))
unfolding first_too_wide
from_texts_moderator = of_script found.moderator_found moderator_resolved refl

pub mail_resolved : resolution texts.mail_script ≡ Ok mail_schema
unfolding resolution block.hidden-the_row-Spec-0 hidden
mail_resolved = refl

pub mail_valid : is_valid mail_schema ≡ true
unfolding block.hidden-the_row-Spec-0 hidden
mail_valid = refl

pub from_texts_mail : IsSchemaOf texts.mail_text (schema mail_schema)
unfolding first_too_wide block.hidden-the_row-Spec-0 hidden
from_texts_mail = of_script found.mail_found mail_resolved refl

pub from_texts_no_mode : IsSchemaOf texts.no_mode_text (is_no_statement 1)
from_texts_no_mode = of_statements no_mode_found

pub widths_thirteen : first_too_wide (of_options 13) ≡ Some (codes "t")
unfolding first_too_wide block.hidden-the_row-Spec-0 block.hidden-the_row-Spec-1 hidden
widths_thirteen = refl

pub widths_twelve : first_too_wide (of_options 12) ≡ None
unfolding first_too_wide block.hidden-the_row-Spec-0 block.hidden-the_row-Spec-1 hidden
widths_twelve = refl

pub widths_one_type : first_too_wide (of_nodes (widest ∷ [])) ≡ None
unfolding first_too_wide block.hidden-the_row-Spec-0 block.hidden-the_row-Spec-1 hidden
widths_one_type = refl

pub widths_one_more : first_too_wide (of_nodes (narrow (codes "q") 3 ∷ narrow (codes "p") 2 ∷ widest ∷ [])) ≡ Some (codes "p")
unfolding first_too_wide block.hidden-the_row-Spec-0 block.hidden-the_row-Spec-1 hidden
widths_one_more = refl
