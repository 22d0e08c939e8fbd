-- When a store is chosen, by the state of its area and the epoch of the other one.
use Rattle.std.proofs.Common.{◌≡◌, ℕ, ◌+◌, Bool, true, false, ◌||◌, nat_lt, List, Some, None, refl, sym, ◌∙◌, ap, arith, if◌then◌else◌}
use Rattle.std.specs.declared.option.Option.{Option}
use Rattle.std.proofs.lemmas.Bool.Decides.{nat_tests}
use Rattle.pgs_world.specs.declared.area.Area.{Area}
use Rattle.pgs_world.specs.declared.area.Area.TheVariants.{A, B}
use Rattle.pgs_world.specs.World.{Triple, part, other}
use Rattle.pgs_journal.specs.declared.area_state.AreaState.{AreaState}
use Rattle.pgs_journal.specs.declared.area_state.AreaState.TheVariants.{NoStore, Foreign, Damaged, Store}
use Rattle.pgs_journal.specs.Area.{area_state}
use Rattle.pgs_snapshot.specs.Choice.{no_store, foreign, chosen, store_epoch, greater, taken, is_foreign, without_store, choice_in, choice, choice_of}

abbrev pub state_in : Area → Triple → AreaState
state_in area triple = area_state (part area triple)

-- a store of this epoch in this area is chosen beside an area of that epoch
abbrev pub Leads : Area → ℕ → Option ℕ → Type 0
Leads A epoch beside = greater (Some epoch) beside ≡ Some A
Leads B epoch beside = greater beside (Some epoch) ≡ Some B

-- the state of a chosen area, and that it leads
pub record IsLeading (area : Area) (epoch end : ℕ) (next : Option ℕ) (payloads : List (List ℕ)) (triple : Triple) : Type 0 where
  pub state : state_in area triple ≡ Store epoch end next payloads
  pub leads : Leads area epoch (store_epoch (state_in (other area) triple))

none_chosen : (a b : AreaState) (area : Area) (epoch end : ℕ) (next : Option ℕ) (payloads : List (List ℕ)) → without_store a b ≡ chosen area epoch end next payloads → ⊥
none_chosen a b area epoch end next payloads is = some (is_foreign a || is_foreign b) is
  where
    some : (t : Bool) → (if t then foreign else no_store) ≡ chosen area epoch end next payloads → ⊥
    some true same = cc
    some false same = cc

-- where the choice is this store, its area is in this state
pub taken_area : (at area : Area) (state : AreaState) (epoch end : ℕ) (next : Option ℕ) (payloads : List (List ℕ)) → taken at state ≡ chosen area epoch end next payloads → (at ≡ area) × (state ≡ Store epoch end next payloads)
taken_area at area NoStore epoch end next payloads is = absurd (let h : no_store ≡ chosen area epoch end next payloads = is in cc)
taken_area at area Foreign epoch end next payloads is = absurd (let h : foreign ≡ chosen area epoch end next payloads = is in cc)
taken_area at area (Damaged e n) epoch end next payloads is = absurd (cc)
taken_area at area (Store e n m ps) epoch end next payloads is = (cc, cc)

pub leading : (area : Area) (epoch end : ℕ) (next : Option ℕ) (payloads : List (List ℕ)) (triple : Triple) → choice_of triple.a triple.b ≡ chosen area epoch end next payloads → IsLeading area epoch end next payloads triple
unfolding choice_of
leading area epoch end next payloads triple is = at (greater (store_epoch (state_in A triple)) (store_epoch (state_in B triple))) refl is
  where
    first : (area : Area) → A ≡ area → state_in A triple ≡ Store epoch end next payloads → greater (store_epoch (state_in A triple)) (store_epoch (state_in B triple)) ≡ Some A → IsLeading area epoch end next payloads triple
    first A same state most = record { state = state; leads = ap (λ s. greater (store_epoch s) (store_epoch (state_in B triple))) (sym state) ∙ most }
    first B same state most = absurd (cc)

    second : (area : Area) → B ≡ area → state_in B triple ≡ Store epoch end next payloads → greater (store_epoch (state_in A triple)) (store_epoch (state_in B triple)) ≡ Some B → IsLeading area epoch end next payloads triple
    second A same state most = absurd (cc)
    second B same state most = record { state = state; leads = ap (λ s. greater (store_epoch (state_in A triple)) (store_epoch s)) (sym state) ∙ most }

    at : (o : Option Area) → greater (store_epoch (state_in A triple)) (store_epoch (state_in B triple)) ≡ o → choice_in (state_in A triple) (state_in B triple) o ≡ chosen area epoch end next payloads → IsLeading area epoch end next payloads triple
    at None most same = absurd (none_chosen (state_in A triple) (state_in B triple) area epoch end next payloads same)
    at (Some A) most same = let found = taken_area A area (state_in A triple) epoch end next payloads same in first area found.0 found.1 most
    at (Some B) most same = let found = taken_area B area (state_in B triple) epoch end next payloads same in second area found.0 found.1 most

pub led : (area : Area) (epoch end : ℕ) (next : Option ℕ) (payloads : List (List ℕ)) (triple : Triple) → IsLeading area epoch end next payloads triple → choice_of triple.a triple.b ≡ chosen area epoch end next payloads
unfolding choice_of
led A epoch end next payloads triple is =
    ap (λ s. choice s (state_in B triple)) is.state ∙ ap (λ o. choice_in (Store epoch end next payloads) (state_in B triple) o) is.leads
led B epoch end next payloads triple is =
    ap (λ s. choice (state_in A triple) s) is.state ∙ ap (λ o. choice_in (state_in A triple) (Store epoch end next payloads) o) is.leads

-- a store leads beside an area that is none
pub leads_alone : (area : Area) (epoch : ℕ) → Leads area epoch None
leads_alone A epoch = refl
leads_alone B epoch = refl

-- and a store of the next epoch leads beside it
pub next_leads : (area : Area) (epoch : ℕ) → Leads (other area) (epoch + 1) (Some epoch)
next_leads A epoch = let h : nat_lt epoch (epoch + 1) ≡ true = grind (arith, nat_tests) in ap (λ (b : Bool). if b then Some B else Some A) h
next_leads B epoch = let h : nat_lt (epoch + 1) epoch ≡ false = grind (arith, nat_tests) in ap (λ (b : Bool). if b then Some B else Some A) h

-- ---- no store

greater_there : (epoch : ℕ) (beside : Option ℕ) → greater (Some epoch) beside ≡ None → ⊥
greater_there epoch None is = let o : Option Area = None in let h : Some A ≡ o = is in cc
greater_there epoch (Some other_epoch) is = some (nat_lt epoch other_epoch) is
  where
    some : (b : Bool) → (if b then Some B else Some A) ≡ None → ⊥
    some true same = let o : Option Area = None in let h : Some B ≡ o = same in cc
    some false same = let o : Option Area = None in let h : Some A ≡ o = same in cc

-- where the one area is no store, it isn't chosen
none_first : (beside : Option ℕ) → greater None beside ≡ Some A → ⊥
none_first None is = let o : Option Area = None in let h : o ≡ Some A = is in cc
none_first (Some epoch) is = cc

none_second : (beside : Option ℕ) → greater beside None ≡ Some B → ⊥
none_second None is = let o : Option Area = None in let h : o ≡ Some B = is in cc
none_second (Some epoch) is = cc

taken_none : (at : Area) (state : AreaState) → taken at state ≡ no_store → state ≡ NoStore
taken_none at NoStore is = refl
taken_none at Foreign is = absurd (cc)
taken_none at (Damaged e n) is = absurd (cc)
taken_none at (Store e n m ps) is = absurd (cc)

none_beside : (b : AreaState) → greater None (store_epoch b) ≡ None → without_store NoStore b ≡ no_store → b ≡ NoStore
none_beside NoStore none is = refl
none_beside Foreign none is = absurd (cc)
none_beside (Damaged e n) none is = absurd (let o : Option Area = None in let h : Some B ≡ o = none in cc)
none_beside (Store e n m ps) none is = absurd (let o : Option Area = None in let h : Some B ≡ o = none in cc)

neither : (a b : AreaState) → greater (store_epoch a) (store_epoch b) ≡ None → without_store a b ≡ no_store → (a ≡ NoStore) × (b ≡ NoStore)
neither NoStore b none is = (refl, none_beside b none is)
neither Foreign b none is = absurd (cc)
neither (Damaged e n) b none is = absurd (greater_there e (store_epoch b) none)
neither (Store e n m ps) b none is = absurd (greater_there e (store_epoch b) none)

no_stores : (a b : AreaState) → choice a b ≡ no_store → (a ≡ NoStore) × (b ≡ NoStore)
no_stores a b is = at (greater (store_epoch a) (store_epoch b)) refl is
  where
    at : (o : Option Area) → greater (store_epoch a) (store_epoch b) ≡ o → choice_in a b o ≡ no_store → (a ≡ NoStore) × (b ≡ NoStore)
    at None most same = neither a b most same
    at (Some A) most same = absurd (none_first (store_epoch b) (sym (ap (λ s. greater (store_epoch s) (store_epoch b)) (taken_none A a same)) ∙ most))
    at (Some B) most same = absurd (none_second (store_epoch a) (sym (ap (λ s. greater (store_epoch a) (store_epoch s)) (taken_none B b same)) ∙ most))

-- where no area is a store or foreign, each is no store, and the other way round
pub none_of : (a b : List ℕ) → choice_of a b ≡ no_store → (area_state a ≡ NoStore) × (area_state b ≡ NoStore)
unfolding choice_of
none_of a b is = no_stores (area_state a) (area_state b) is

pub of_none : (a b : List ℕ) → area_state a ≡ NoStore → area_state b ≡ NoStore → choice_of a b ≡ no_store
unfolding choice_of
of_none a b one two = ap (λ s. choice s (area_state b)) one ∙ ap (λ s. choice NoStore s) two
