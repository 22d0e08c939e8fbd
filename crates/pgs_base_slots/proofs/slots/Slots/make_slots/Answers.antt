use Rattle.std.proofs.Common.{◌≡◌, ℕ, ◌+◌, ◌<◌, ◌∙◌, Bool, true, List, [], ◌∷◌, ◌++◌, get_or, length, take, sym, ap, refl, arith}
use Rattle.std.specs.List.{list_all}
use Rattle.std.specs.Map.{keys_of}
use Rattle.std.proofs.lemmas.Bool.{and_parts, and_from}
use Rattle.std.proofs.lemmas.List.{take_more}
use Rattle.pgs_base_slots.specs.Slots.{has_slot}
use Rattle.pgs_base_slots.proofs.slots.Slots.make_slots.Goals as goal

all_kept : {K : Type 0} (p q : K → Bool) → ((k : K) → p k ≡ true → q k ≡ true) → (ks : List K) → list_all p ks ≡ true → list_all q ks ≡ true
all_kept p q keeps [] all = refl
all_kept p q keeps (k ∷ ks) all = and_from _ _ (keeps k (and_parts _ _ all).0) (all_kept p q keeps ks (and_parts _ _ all).1)

all_push : {K V : Type 0} (p : K → Bool) (es : List (K × V)) (e : K × V) → list_all p (keys_of es) ≡ true → p e.0 ≡ true → list_all p (keys_of (es ++ e ∷ [])) ≡ true
all_push p [] e all one = and_from _ _ one refl
all_push p (x ∷ xs) e all one = and_from _ _ (and_parts _ _ all).0 (all_push p xs e (and_parts _ _ all).1 one)

all_one_more : {K V : Type 0} (p : K → Bool) (es : List (K × V)) (i : ℕ) (e : K × V) → i < length es → e ≡ get_or es i e → list_all p (keys_of (take i es)) ≡ true → p e.0 ≡ true →
    list_all p (keys_of (take (i + 1) es)) ≡ true
all_one_more p es i e within is all one =
    ap (λ l. list_all p (keys_of l)) (take_more es i e within ∙ ap (λ x. take i es ++ x ∷ []) (sym is)) ∙ all_push p (take i es) e all one

pub loop-entry-preserved : goal.loop-entry-preserved
loop-entry-preserved g c = record {
  rows = c.in_ok-make_slot.ensures.rows ∙ c.loop-entry.invariant.rows;
  there = all_one_more (has_slot g.K.Ord.cmp c.make_slot.new.self) c.args.keys.now c.loop-entry.entry-index c.entry-item.result c.loop-entry-test.true c.entry-item.is
      (all_kept (has_slot g.K.Ord.cmp c.loop-entry.self) (has_slot g.K.Ord.cmp c.make_slot.new.self) c.in_ok-make_slot.ensures.kept (keys_of (take c.loop-entry.entry-index c.args.keys.now)) c.loop-entry.invariant.there)
      c.in_ok-make_slot.ensures.there;
  few = omega (arith, c.in_ok-make_slot.ensures.few);
}
