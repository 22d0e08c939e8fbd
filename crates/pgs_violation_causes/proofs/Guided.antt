-- What is known of a text that is a schema: its tokens, its script, and that a guide of the script is one of the schema.
use Rattle.std.proofs.Common.{◌≡◌, ℕ, ◌≤◌, Bool, true, false, cond, nat_le, List, [], ◌∷◌, length, map, Option, Some, None, Result, Ok, Err, refl, sym, ap, subst, ◌∙◌, arith}
use Rattle.std.specs.Option.{option_map_or}
use Rattle.std.proofs.lemmas.Bool.Decides.{nat_tests}
use Rattle.pgs_base.specs.declared.text_limit.TheConstants.{TEXT_LIMIT}
use Rattle.pgs_lexer.specs.Cut.{tokens_of}
use Rattle.pgs_lexer.specs.Token.{Lexeme}
use Rattle.pgs_parser.specs.StatementReaders.{script_of}
use Rattle.pgs_parser.specs.Text.{Found, found, found_in, too_long, no_item, no_statement, script}
use Rattle.pgs_resolve.specs.declared.fault.ResolveFault.{ResolveFault}
use Rattle.pgs_resolve.specs.Resolution.{first_refusal, refusals, resolution, resolved}
use Rattle.pgs_resolve.specs.SchemaOf.{answer_of_finding, answer_of_script, has_wide_type, schema, schema_of}
use Rattle.pgs_resolve_declared.specs.declared.order.Numbering.{Numbering}
use Rattle.pgs_resolve_declared.specs.Order.{numbering_of}
use Rattle.pgs_resolve_keys.specs.Patterns.{resolved_key}
use Rattle.pgs_syntax.specs.declared.raw.RawKey.{RawKey}
use Rattle.pgs_syntax.specs.declared.resolved.Resolved.{Resolved}
use Rattle.pgs_syntax.specs.declared.script.Script.{Script}
use Rattle.pgs_syntax.specs.Width.{first_too_wide}
use Rattle.pgs_key_causes.specs.declared.guide.KeyGuide.{KeyGuide}
use Rattle.pgs_key_causes.specs.Causes.{GuidesTo, IsGuideOf, written_keys}

-- ---- a text that is a schema has tokens, and is a script

by_finding : (finding : Found) (own : Resolved) → answer_of_finding finding ≡ schema own → (tree : Script) × (finding ≡ script tree) × (answer_of_script (resolution tree) ≡ schema own)
by_finding too_long own is = cc
by_finding (no_item line) own is = cc
by_finding (no_statement n) own is = cc
by_finding (script tree) own is = (tree, refl, is)

by_script : (read : Result Script ℕ) (tree : Script) → elim read [ Ok tree ↦ script tree | Err n ↦ no_statement n ] ≡ script tree → read ≡ Ok tree
by_script (Ok other) tree is = cc
by_script (Err n) tree is = cc

by_tokens : (told : Result (List Lexeme) ℕ) (tree : Script) → found_in told ≡ script tree → (tokens : List Lexeme) × (told ≡ Ok tokens) × (script_of tokens ≡ Ok tree)
by_tokens (Ok tokens) tree is = (tokens, refl, by_script (script_of tokens) tree is)
by_tokens (Err line) tree is = cc

by_length : (short : Bool) (finding : Found) (tree : Script) → cond short finding too_long ≡ script tree → (short ≡ true) × (finding ≡ script tree)
by_length true finding tree is = (refl, is)
by_length false finding tree is = cc

pub record IsRead (text : List ℕ) (own : Resolved) : Type 0 where
  pub short : length text ≤ TEXT_LIMIT
  pub tokens : List Lexeme
  pub lexed : tokens_of text ≡ Ok tokens
  pub tree : Script
  pub parsed : script_of tokens ≡ Ok tree
  pub resolves : answer_of_script (resolution tree) ≡ schema own

pub is_read : (text : List ℕ) (own : Resolved) → schema_of text ≡ schema own → IsRead text own
unfolding schema_of found
is_read text own is =
    let finding = by_finding (found text) own is in
    let whole = by_length (nat_le (length text) TEXT_LIMIT) (found_in (tokens_of text)) finding.0 finding.1 in
    let read = by_tokens (tokens_of text) finding.0 whole.1 in
    let h = whole.0 in
    record {
      short = grind (arith, nat_tests);
      tokens = read.0;
      lexed = read.1;
      tree = finding.0;
      parsed = read.2;
      resolves = finding.2;
    }

-- ---- and its guard's keys are those of the script

by_width : (wide : Option (List ℕ)) (found own : Resolved) → option_map_or has_wide_type wide (schema found) ≡ schema own → found ≡ own
by_width None found own is = cc
by_width (Some name) found own is = cc

by_answer : (answer : Result Resolved ResolveFault) (own : Resolved) → answer_of_script answer ≡ schema own → answer ≡ Ok own
by_answer (Ok found) own is = ap Ok (by_width (first_too_wide found) found own is)
by_answer (Err fault) own is = cc

by_refusals : (faults : List ResolveFault) (found own : Resolved) → first_refusal faults found ≡ Ok own → found ≡ own
by_refusals [] found own is = cc
by_refusals (fault ∷ faults) found own is = cc

resolved_is : (tree : Script) (own : Resolved) → resolution tree ≡ Ok own → resolved tree ≡ own
unfolding resolution
resolved_is tree own is = by_refusals (refusals tree) (resolved tree) own is

guides_to : (tree : Script) (own : Resolved) (tokens : List Lexeme) (guide : KeyGuide) → answer_of_script (resolution tree) ≡ schema own → IsGuideOf tokens tree guide → GuidesTo guide own
guides_to tree own tokens guide is guides =
    ap (λ (numbering : Numbering). map (resolved_key numbering) (written_keys guide)) guides.numbering
    ∙ ap (λ (keys : List RawKey). map (resolved_key (numbering_of tree)) keys) guides.keys
    ∙ ap (λ (r : Resolved). r.guard.keys) (resolved_is tree own (by_answer (resolution tree) own is))

-- the tokens of a text are its alone, and the script that they are is theirs
pub same_tokens : (text : List ℕ) (one other : List Lexeme) → tokens_of text ≡ Ok one → tokens_of text ≡ Ok other → one ≡ other
same_tokens text one other is so = let both : Ok one ≡ Ok other = sym is ∙ so in cc

same_script : (tokens : List Lexeme) (one other : Script) → script_of tokens ≡ Ok one → script_of tokens ≡ Ok other → one ≡ other
same_script tokens one other is so = let both : Ok one ≡ Ok other = sym is ∙ so in cc

-- so a guide that is made of them guides to the schema of the text
pub guided : (text : List ℕ) (own : Resolved) (tokens : List Lexeme) (tree : Script) (guide : KeyGuide) → schema_of text ≡ schema own
    → tokens_of text ≡ Ok tokens → script_of tokens ≡ Ok tree → IsGuideOf tokens tree guide → GuidesTo guide own
guided text own tokens tree guide is lexed parsed guides =
    let read = is_read text own is in
    let same = same_tokens text read.tokens tokens read.lexed lexed in
    let own_tree : script_of tokens ≡ Ok read.tree = subst (λ (ts : List Lexeme). script_of ts ≡ Ok read.tree) same read.parsed in
    let tree_is = same_script tokens read.tree tree own_tree parsed in
    guides_to tree own tokens guide (subst (λ (t : Script). answer_of_script (resolution t) ≡ schema own) tree_is read.resolves) guides
