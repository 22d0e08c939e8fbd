-- Where a store is saved, its text has a schema, and nothing of it is refused.
use Rattle.std.proofs.Common.{◌≡◌, ℕ, IsTrue, List, [], ◌∷◌, Ok, Result, sym, ◌∙◌, ap}
use Rattle.pgs_base.specs.Graph.{Graph}
use Rattle.pgs_run_lines.specs.Machine.{Told}
use Rattle.pgs_resolve.specs.SchemaOf.{schema, schema_of}
use Rattle.pgs_command.specs.declared.status.Status.{Status}
use Rattle.pgs_run_input.specs.Answers.{schema_answer, schema_or_text}
use Rattle.pgs_command.specs.Areas.{areas_of}
use Rattle.pgs_run_input.specs.Session.{standard}
use Rattle.pgs_snapshot.specs.Saved.{SavedState, saved, store}
use Rattle.pgs_syntax.specs.declared.resolved.Resolved.{Resolved}
use Rattle.pgs_world.specs.World.{View}
use Rattle.pgs_run_store.specs.Opening.{IsToldOf}
use Rattle.pgs_run_store.proofs.Conforming.{saved_conforming}
use Rattle.pgs_run_store.specs.Refusing.{SavedStore, told_of_areas, told_saved, told_under}

abbrev HasSchema : List ℕ → Type 0
HasSchema text = (resolved : Resolved) × (schema_of text ≡ schema resolved)

saved_schema : (a b text : List ℕ) (commits : ℕ) (graph : Graph) → saved standard a b ≡ store text commits graph → HasSchema text
saved_schema a b text commits graph is =
    let found = saved_conforming standard a b text commits graph is in (found.resolved, found.of_text)

schema_there : (text : List ℕ) → HasSchema text → (resolved : Resolved) × (schema_answer text ≡ Ok resolved)
unfolding schema_answer
schema_there text has = (has.0, ap schema_or_text has.1)

-- what is told of two areas that save a store is what is told of that store
pub told_of_saved : (view : View) (text : List ℕ) (commits : ℕ) (graph : Graph) → saved standard view.shown.a view.shown.b ≡ store text commits graph
    → (it : SavedStore) × ((go : SavedStore → Told Status) → told_of_areas (areas_of view) go ≡ go it)
unfolding told_of_areas
told_of_saved view text commits graph is =
    let has = schema_there text (saved_schema view.shown.a view.shown.b text commits graph is) in (
      record { text = text; schema = has.0; commits = commits; graph = graph },
      λ go.
          ap (λ (s : SavedState). told_saved s go) is
          ∙ ap (λ (a : Result Resolved (List ℕ)). told_under a (λ schema. go (record { text = text; schema = schema; commits = commits; graph = graph }))) has.1,
    )

abbrev nothing : Status → SavedStore → Told Status
nothing status it = record { pieces = []; status = status }

one_is_none : (line : List ℕ) → [] ≡ line ∷ [] → ⊥
one_is_none line is = cc

-- no refusal is told of them
pub never_refused : (view : View) (text : List ℕ) (commits : ℕ) (graph : Graph) (line : List ℕ) (status : Status) → IsTrue view.tells_bytes
    → saved standard view.shown.a view.shown.b ≡ store text commits graph → IsToldOf view line status → ⊥
never_refused view text commits graph line status told is tells =
    let here = told_of_saved view text commits graph is in
    one_is_none line (ap (λ (t : Told Status). t.pieces) (sym (here.1 (nothing status)) ∙ tells told (nothing status)))
