-- What the samples' texts are found to be, computed.
use Rattle.std.proofs.Common.{◌≡◌, refl}
use Rattle.std.specs.Char.{encode_utf8}
use Rattle.std.specs.Str.{is_utf8, chars}
use Rattle.std.specs.Str.Lossy.{utf8_valid_len}
use Rattle.pgs_lexer.specs.Scan.{item_at}
use Rattle.pgs_lexer.specs.Cut.{tokens_of, tokens_from}
use Rattle.pgs_base.specs.DayForm.{day_in}
use Rattle.pgs_parser.specs.Reader.{keyword_if_at, maybe_at, more, numbered}
use Rattle.pgs_parser.specs.TypeReaders.{parenthesised_at, atom_at, unit_at, conj_at, level_at, inner_at, labels_at, kind_at, property_at, properties_at, open_at, braces_rest_at, body_at, node_type_at, end_at, middle_at, arrow_type_at, edge_type_at}
use Rattle.pgs_parser.specs.KeyReaders.{literal_at, test_at, names_at, tests_at, name_if_at, place_at, node_at, edge_at, arrow_at, step_at, path_at, bound_at, bounds_at, qualifier_at, qualifier_list_at, qualifiers_at, expr_at, key_at}
use Rattle.pgs_parser.specs.StatementReaders.{element_type_at, element_at, elements_if_at, keys_if_at, mode_at, imports_at, members_at, graph_type_at, hidden_at, declared_node_at, declared_edge_at, declared_at, statement_at, statement_of, statements_of, script_of}
use Rattle.pgs_parser.specs.Samples as samples
use Rattle.pgs_parser.specs.Text.{IsFound, found, script, no_item}
use Rattle.pgs_parser.proofs.Findings.{findings}

abbrev AllComputed : Type 0
AllComputed =
    (found samples.least_text ≡ script samples.least_script)
    × (found samples.staff_text ≡ script samples.staff_script)
    × (found samples.acquaintance_text ≡ script samples.acquaintance_script)
    × (found samples.moderator_text ≡ script samples.moderator_script)
    × (found samples.mail_text ≡ script samples.mail_script)
    × (found samples.forms_text ≡ script samples.forms_script)
    × (found samples.bad_byte_text ≡ no_item 1)

computed : AllComputed
unfolding found tokens_of tokens_from item_at is_utf8 utf8_valid_len chars encode_utf8 day_in keyword_if_at maybe_at more numbered parenthesised_at atom_at unit_at conj_at level_at inner_at labels_at kind_at property_at properties_at open_at braces_rest_at body_at node_type_at end_at middle_at arrow_type_at edge_type_at literal_at test_at names_at tests_at name_if_at place_at node_at edge_at arrow_at step_at path_at bound_at bounds_at qualifier_at qualifier_list_at qualifiers_at expr_at key_at element_type_at element_at elements_if_at keys_if_at mode_at imports_at members_at graph_type_at hidden_at declared_node_at declared_edge_at declared_at statement_at statement_of statements_of script_of
computed = (refl, refl, refl, refl, refl, refl, refl)

pub least_found : IsFound samples.least_text (script samples.least_script)
least_found = (findings samples.least_text (script samples.least_script)).0 computed.0

pub staff_found : IsFound samples.staff_text (script samples.staff_script)
staff_found = (findings samples.staff_text (script samples.staff_script)).0 computed.1

pub acquaintance_found : IsFound samples.acquaintance_text (script samples.acquaintance_script)
acquaintance_found = (findings samples.acquaintance_text (script samples.acquaintance_script)).0 computed.2

pub moderator_found : IsFound samples.moderator_text (script samples.moderator_script)
moderator_found = (findings samples.moderator_text (script samples.moderator_script)).0 computed.3

pub mail_found : IsFound samples.mail_text (script samples.mail_script)
mail_found = (findings samples.mail_text (script samples.mail_script)).0 computed.4

pub forms_found : IsFound samples.forms_text (script samples.forms_script)
forms_found = (findings samples.forms_text (script samples.forms_script)).0 computed.5

pub bad_byte_found : IsFound samples.bad_byte_text (no_item 1)
bad_byte_found = (findings samples.bad_byte_text (no_item 1)).0 computed.6
