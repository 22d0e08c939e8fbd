use Rattle.std.proofs.Common.{sym, ap, ◌∙◌}
use Rattle.std.specs.List.{list_all, list_any}
use Rattle.std.specs.Map.{keys_of}
use Rattle.std.specs.BTreeMap.{is_at}
use Rattle.std.proofs.lemmas.Bool.{and_parts}
use Rattle.pgs_graph.specs.Changed.{entries_changed}
use Rattle.pgs_tables.specs.Slots.{has_slot}
use Rattle.pgs_tables.proofs.commit.put_rows.Goals as goal

pub put_row-requires : goal.put_row-requires
put_row-requires g c =
    let cmp = g.K.Ord.cmp in
    let table = c.loop-id.table in
    (and_parts (has_slot cmp table c.in-Some.id) (list_all (has_slot cmp table) (keys_of c.next.new.self.rest.items))
    (ap (λ es. list_all (has_slot cmp table) (keys_of es)) (sym c.in-Some.ensures.steps.0) ∙ c.loop-id.invariant.slots)).0

pub loop-id-preserved : goal.loop-id-preserved
loop-id-preserved g c =
    let cmp = g.K.Ord.cmp in
    let table = c.loop-id.table in
    let rest = c.next.new.self.rest.items in
    let before = c.loop-id.invariant in
    let slots = and_parts (has_slot cmp table c.in-Some.id) (list_all (has_slot cmp table) (keys_of rest)) (ap (λ es. list_all (has_slot cmp table) (keys_of es)) (sym c.in-Some.ensures.steps.0) ∙ before.slots) in
    record {
      slots = ap (λ numbers. list_all (λ id. list_any (is_at (cmp id)) numbers) (keys_of rest)) c.put_row.ensures.numbers ∙ slots.1;
      made = ap (λ rows. entries_changed cmp rows rest) c.put_row.ensures.rows ∙ ap (entries_changed cmp table.rows) (sym c.in-Some.ensures.steps.0) ∙ before.made;
      numbers = c.put_row.ensures.numbers ∙ before.numbers;
      seed = c.put_row.ensures.seed ∙ before.seed;
    }
