use Rattle.std.proofs.Common.{◌≡◌, ℕ, ◌+◌, ◌<◌, ◌∙◌, Bool, true, List, [], ◌∷◌, ◌++◌, get_or, length, take, sym, ap, refl, arith}
use Rattle.std.specs.List.{list_all}
use Rattle.std.specs.Map.{keys_of}
use Rattle.std.proofs.lemmas.Bool.{and_parts, and_from}
use Rattle.std.proofs.lemmas.List.{take_more}
use Rattle.pgs_tables.specs.Slots.{has_slot}
use Rattle.pgs_tables.proofs.Placed.{length-with_number}
use Rattle.pgs_tables.proofs.relist.make_slots.Goals as goal

all_kept : {K : Type 0} (p q : K → Bool) → ((k : K) → p k ≡ true → q k ≡ true) → (ks : List K) → list_all p ks ≡ true → list_all q ks ≡ true
all_kept p q keeps [] all = refl
all_kept p q keeps (k ∷ ks) all = and_from _ _ (keeps k (and_parts _ _ all).0) (all_kept p q keeps ks (and_parts _ _ all).1)

all_push : {K V : Type 0} (p : K → Bool) (es : List (K × V)) (e : K × V) → list_all p (keys_of es) ≡ true → p e.0 ≡ true → list_all p (keys_of (es ++ e ∷ [])) ≡ true
all_push p [] e all one = and_from _ _ one refl
all_push p (x ∷ xs) e all one = and_from _ _ (and_parts _ _ all).0 (all_push p xs e (and_parts _ _ all).1 one)

all_one_more : {K V : Type 0} (p : K → Bool) (es : List (K × V)) (i : ℕ) (e : K × V) → i < length es → e ≡ get_or es i e → list_all p (keys_of (take i es)) ≡ true → p e.0 ≡ true →
    list_all p (keys_of (take (i + 1) es)) ≡ true
all_one_more p es i e within is all one =
    ap (λ l. list_all p (keys_of l)) (take_more es i e within ∙ ap (λ x. take i es ++ x ∷ []) (sym is)) ∙ all_push p (take i es) e all one

pub loop-change-preserved : goal.loop-change-preserved
loop-change-preserved g c = record {
  rows = c.in_ok-make_slot.ensures.rows ∙ c.loop-change.invariant.rows;
  seed = c.in_ok-make_slot.ensures.seed ∙ c.loop-change.invariant.seed;
  there = all_one_more (has_slot g.K.Ord.cmp c.make_slot.new.self) c.args.changes.now c.loop-change.change-index c.change-item.result c.loop-change-test.true c.change-item.is
      (all_kept (has_slot g.K.Ord.cmp c.loop-change.table) (has_slot g.K.Ord.cmp c.make_slot.new.self) c.in_ok-make_slot.ensures.kept (keys_of (take c.loop-change.change-index c.args.changes.now)) c.loop-change.invariant.there)
      c.in_ok-make_slot.ensures.there;
  few =
      let made = ap length c.in_ok-make_slot.ensures.ok in
      let one = length-with_number g.K.Ord.cmp c.loop-change.table.numbers c.change-item.result.0 in
      omega (arith, c.loop-change.invariant.few);
}

pub returns-in_err-make_slot-clause-few : goal.returns-in_err-make_slot-clause-few
returns-in_err-make_slot-clause-few g c =
    let same = ap length c.in_err-make_slot.ensures.err in
    omega (arith, c.loop-change.invariant.few)
