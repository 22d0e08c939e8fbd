use Rattle.std.proofs.Common.{◌≡◌, List, Ok, subst}
use Rattle.std.proofs.lemmas.Result.{IfOk-weaker}
use Rattle.pgs_lexer.specs.Token.{Lexeme}
use Rattle.pgs_parser.specs.StatementReaders.{script_of}
use Rattle.pgs_violation_causes.proofs.Guided.{guided, is_read, same_tokens}
use Rattle.pgs_violation_causes.proofs.keys.causes_of_key.Goals as goal

pub lexed-requires : goal.lexed-requires
lexed-requires g c =
    let read = is_read c.args.text.now c.args.compiled.now c.requires in record { short = read.short; some = (read.tokens, read.lexed) }

pub parsed-requires : goal.parsed-requires
parsed-requires g c =
    let read = is_read c.args.text.now c.args.compiled.now c.requires in
    let same = same_tokens c.args.text.now read.tokens c.in_ok-tokens.tokens read.lexed c.in_ok-tokens.ensures in
    (read.tree, subst (λ (ts : List Lexeme). script_of ts ≡ Ok read.tree) same read.parsed)

pub key_causes-requires : goal.key_causes-requires
key_causes-requires g c =
    guided c.args.text.now c.args.compiled.now c.in_ok-tokens.tokens c.in_ok-script.script c.in_ok-guide.guide c.requires c.in_ok-tokens.ensures c.in_ok-script.ensures
    (c.in_ok-guide.ensures c.in_ok-script.script c.in_ok-declarations.ensures)

pub returns-clause-causes : goal.returns-clause-causes
returns-clause-causes g c =
    IfOk-weaker c.key_causes.result _ _ (λ texts are. record {
      tokens = c.in_ok-tokens.tokens;
      lexed = c.in_ok-tokens.ensures;
      script = c.in_ok-script.script;
      parsed = c.in_ok-script.ensures;
      guide = c.in_ok-guide.guide;
      guides = c.in_ok-guide.ensures c.in_ok-script.script c.in_ok-declarations.ensures;
      causes = are;
    }) c.key_causes.ensures.causes
