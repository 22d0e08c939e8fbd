-- Where a dump is told, a store is saved, and its graph has no violations.
use Rattle.std.proofs.Common.{◌≡◌, ℕ, List, Result, Ok, Err, refl, ap}
use Rattle.pgs_base.specs.Graph.{Graph}
use Rattle.pgs_run_lines.specs.Machine.{Told}
use Rattle.pgs_resolve.specs.SchemaOf.{Answer, longer_than_allowed, begins_no_item, is_no_statement, refused, has_wide_type, schema as schema_found, schema_of}
use Rattle.pgs_snapshot.specs.Saved.{SavedState, saved, foreign, no_store, bad_record, bad_schema, bad_history, store}
use Rattle.pgs_syntax.specs.declared.resolved.Resolved.{Resolved}
use Rattle.pgs_command.specs.declared.status.Status.{Status}
use Rattle.pgs_command.specs.declared.status.Status.TheVariants.{Accepted, SchemaRefused, StoreRefused}
use Rattle.pgs_run_input.specs.Answers.{schema_or_text, schema_answer}
use Rattle.pgs_command.specs.Areas.{Areas}
use Rattle.pgs_run_input.specs.Session.{standard}
use Rattle.pgs_run_store.specs.Dump.{dump, told_dump}
use Rattle.pgs_run_store.specs.Refusing.{SavedStore, store_refused, told_under, told_saved, told_of_areas}
use Rattle.pgs_answer.specs.Refusals.{no_store_text}

-- a store that is saved, whose dump is told
pub record IsDumped (areas : Areas) (said : Told Status) : Type 0 where
  pub text : List ℕ
  pub schema : Resolved
  pub commits : ℕ
  pub graph : Graph
  pub saves : saved standard areas.a areas.b ≡ store text commits graph
  pub of_text : schema_of text ≡ schema_found schema
  pub answer : schema_answer text ≡ Ok schema
  pub pieces : said.pieces ≡ dump text graph

-- a text with a schema
answer_found : (answer : Answer) (resolved : Resolved) → schema_or_text answer ≡ Ok resolved → answer ≡ schema_found resolved
answer_found (schema_found other) resolved is = let same : other ≡ resolved = cc in ap schema_found same
answer_found longer_than_allowed resolved is = absurd (cc)
answer_found (begins_no_item line) resolved is = absurd (cc)
answer_found (is_no_statement n) resolved is = absurd (cc)
answer_found (refused fault) resolved is = absurd (cc)
answer_found (has_wide_type name) resolved is = absurd (cc)

text_found : (text : List ℕ) (resolved : Resolved) → schema_answer text ≡ Ok resolved → schema_of text ≡ schema_found resolved
unfolding schema_answer
text_found text resolved is = answer_found (schema_of text) resolved is

module _ (areas : Areas) where
  by_text : (text : List ℕ) (commits : ℕ) (graph : Graph) (r : Result Resolved (List ℕ)) → schema_answer text ≡ r
      → saved standard areas.a areas.b ≡ store text commits graph → (go : Resolved → SavedStore)
      → ((schema : Resolved) → go schema ≡ record { text = text; schema = schema; commits = commits; graph = graph })
      → (told_under r (λ schema. told_dump (go schema))).status ≡ Accepted → IsDumped areas (told_under r (λ schema. told_dump (go schema)))
  by_text text commits graph (Ok schema) is saves go goes accepted = record {
    text = text;
    schema = schema;
    commits = commits;
    graph = graph;
    saves = saves;
    of_text = text_found text schema is;
    answer = is;
    pieces = ap (λ (it : SavedStore). dump it.text it.graph) (goes schema);
  }
  by_text text commits graph (Err said) is saves go goes accepted = absurd (let h : SchemaRefused ≡ Accepted = accepted in cc)

  not_stored : (r : Result Resolved (List ℕ)) → (told_under r (λ schema. store_refused no_store_text)).status ≡ Accepted → ⊥
  not_stored (Ok schema) accepted = let h : StoreRefused ≡ Accepted = accepted in cc
  not_stored (Err text) accepted = let h : SchemaRefused ≡ Accepted = accepted in cc

  by_state : (state : SavedState) → saved standard areas.a areas.b ≡ state → (told_saved state told_dump).status ≡ Accepted → IsDumped areas (told_saved state told_dump)
  by_state foreign saves accepted = absurd (let h : StoreRefused ≡ Accepted = accepted in cc)
  by_state no_store saves accepted = absurd (let h : StoreRefused ≡ Accepted = accepted in cc)
  by_state (bad_record number) saves accepted = absurd (let h : StoreRefused ≡ Accepted = accepted in cc)
  by_state (bad_schema answer) saves accepted = absurd (not_stored (schema_or_text answer) accepted)
  by_state (bad_history number rejection) saves accepted = absurd (let h : StoreRefused ≡ Accepted = accepted in cc)
  by_state (store text commits graph) saves accepted =
      by_text text commits graph (schema_answer text) refl saves (λ schema. record { text = text; schema = schema; commits = commits; graph = graph }) (λ schema. refl) accepted

  pub dumped : (told_of_areas areas told_dump).status ≡ Accepted → IsDumped areas (told_of_areas areas told_dump)
  unfolding told_of_areas
  dumped accepted = by_state (saved standard areas.a areas.b) refl accepted
