-- What `recover` tells of a saved store, `validate` reads back.
use Rattle.std.proofs.Common.{◌≡◌, ℕ, ◌<◌, true, List, length, sym, ap, subst, ◌∙◌}
use Rattle.std.specs.List.{concat}
use Rattle.std.proofs.lemmas.Bool.{and_parts}
use Rattle.pgs_base.specs.Graph.{Graph}
use Rattle.pgs_codec.proofs.Exact.{IsBytes}
use Rattle.pgs_run_lines.specs.Machine.{Told}
use Rattle.pgs_saved_graph.specs.Small.{has_small_rows}
use Rattle.pgs_command.specs.declared.status.Status.{Status}
use Rattle.pgs_command.specs.declared.status.Status.TheVariants.{Accepted}
use Rattle.pgs_run_input.specs.Answers.{schema_answer}
use Rattle.pgs_command.specs.Areas.{Areas}
use Rattle.pgs_run_input.specs.Session.{standard}
use Rattle.pgs_run_store.proofs.Conforming.{saved_conforms}
use Rattle.pgs_dump.specs.Lines.{graph_ops}
use Rattle.pgs_run_store.specs.Dump.{dump, told_dump}
use Rattle.pgs_run_store.specs.Refusing.{told_of_areas}
use Rattle.pgs_run_try.specs.declared.judging.Judging.TheVariants.{AtEnd}
use Rattle.pgs_run_try.specs.Told.{start, told_judging, told_whole}
use Rattle.pgs_run_laws.specs.DumpOps.{AreReadBack}
use Rattle.pgs_run_laws.proofs.Accepting.{LeadsTo, ops_lead}
use Rattle.pgs_run_laws.proofs.Conformed.{conforming_has_none}
use Rattle.pgs_run_laws.proofs.Cut.{no_separator}
use Rattle.pgs_run_laws.proofs.Dumped.{IsDumped, dumped}
use Rattle.pgs_run_laws.proofs.DumpLines.{dump_schema, dump_transactions}
use Rattle.pgs_run_laws.proofs.GraphOps.{graph_ops_form}
use Rattle.pgs_run_laws.proofs.NoDashes.{no_dashes}
use Rattle.pgs_run_laws.proofs.Rebuilt.{HasSmallRows, rebuilt}
use Rattle.pgs_run_laws.proofs.Saved.{saved_is}
use Rattle.pgs_run_laws.proofs.Validated.{nothing_told, whole_told, told_within}

small_rows : (g : Graph) → has_small_rows g ≡ true → HasSmallRows g
small_rows g small =
    let parts = and_parts _ _ small in
    record { nodes = parts.0; edges = parts.1 }

module _ (reads : AreReadBack) (areas : Areas) (a : IsBytes areas.a) (b : IsBytes areas.b) where
  dump_accepted : (said : Told Status) → IsDumped areas said → told_whole AtEnd (concat said.pieces) ≡ nothing_told
  dump_accepted said it =
      let kept = saved_is standard it.text it.commits it.graph areas.a areas.b a b it.saves in
      let small = small_rows it.graph kept.small in
      let ops = graph_ops it.graph in
      let form = graph_ops_form it.graph kept.graph small in
      let none = no_separator it.text (λ front back is begins. no_dashes it.text front back it.schema it.of_text is begins) in
      let conforms = saved_conforms standard areas.a areas.b it.text it.commits it.graph it.schema it.saves it.answer in
      let leads = ops_lead reads ops start it.graph form (rebuilt it.graph kept.graph small kept.within) in
      ap (λ (pieces : List (List ℕ)). told_whole AtEnd (concat pieces)) it.pieces
      ∙ whole_told it.schema it.graph (concat (dump it.text it.graph))
      (ap schema_answer (dump_schema it.text ops form none) ∙ it.answer)
      (subst (λ (lines : List (List ℕ)). LeadsTo start lines it.graph) (sym (dump_transactions it.text ops form none)) leads)
      (conforming_has_none it.schema it.graph conforms)

  recovered_accepted : (limit : ℕ) → (told_of_areas areas told_dump).status ≡ Accepted → length (concat (told_of_areas areas told_dump).pieces) < limit
      → told_judging AtEnd (concat (told_of_areas areas told_dump).pieces) limit ≡ nothing_told
  recovered_accepted limit accepted below =
      told_within (concat (told_of_areas areas told_dump).pieces) limit below ∙ dump_accepted (told_of_areas areas told_dump) (dumped areas accepted)

pub dump_is_read_back : AreReadBack → (areas : Areas) (limit : ℕ) → IsBytes areas.a → IsBytes areas.b → (told_of_areas areas told_dump).status ≡ Accepted
    → length (concat (told_of_areas areas told_dump).pieces) < limit → told_judging AtEnd (concat (told_of_areas areas told_dump).pieces) limit ≡ nothing_told
dump_is_read_back reads areas limit a b accepted below = recovered_accepted reads areas a b limit accepted below
