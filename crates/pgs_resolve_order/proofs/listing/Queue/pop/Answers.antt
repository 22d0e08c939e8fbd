use Rattle.std.proofs.Common.{ℕ, inl, inr, ⊎_elim, map, sym, ◌∙◌, ap}
use Rattle.std.specs.List.{slice_get}
use Rattle.pgs_resolve_order.specs.Listing.{entry_of, next_of}
use Rattle.pgs_resolve_order.specs.Listing.IsKept.{listed}
use Rattle.pgs_resolve_order.proofs.Kept.{stands_popped, kept_popped, next_none, next_some, same_entry, no_key, no_keys}
use Rattle.pgs_resolve_order.proofs.listing.Queue.pop.Goals as goal

pub returns-in-Some-unlisted_item-clause-next : goal.returns-in-Some-unlisted_item-clause-next
returns-in-Some-unlisted_item-clause-next c stands kept =
    let entries = map entry_of c.args.items.now in
    let queue = c.loop-key.self in
    let before = c.loop-key.invariant in
    let item = c.in-Some-unlisted_item.ensures in
    sym (ap (λ names. next_of names entries) (sym before.listed)
    ∙ next_some entries queue c.in-Some.key (entry_of c.in-Some-unlisted_item.item.now) (before.stands stands) (λ entry number is. before.kept entry number is (kept entry number is))
    c.in-Some.ensures.member c.in-Some.ensures.least item.0 item.1)

pub returns-in-Some-unlisted_item-clause-stands : goal.returns-in-Some-unlisted_item-clause-stands
returns-in-Some-unlisted_item-clause-stands c stands =
    let queue = c.loop-key.self in
    stands_popped queue (record queue { ready = c.pop_first.new.self }) c.in-Some.key c.in-Some.ensures.updates.0 (map entry_of c.args.items.now) (c.loop-key.invariant.stands stands)

pub returns-in-Some-unlisted_item-clause-keeps : goal.returns-in-Some-unlisted_item-clause-keeps
returns-in-Some-unlisted_item-clause-keeps c entry number is kept =
    let queue = c.loop-key.self in
    ⊎_elim
    (λ same. inl (same_entry (map entry_of c.args.items.now) c.in-Some.key entry (entry_of c.in-Some-unlisted_item.item.now) number same is c.in-Some-unlisted_item.ensures.0))
    (λ still. inr still)
    (kept_popped queue (record queue { ready = c.pop_first.new.self }) c.in-Some.key c.in-Some.ensures.updates.0 entry number (c.loop-key.invariant.kept entry number is kept))

pub loop-key-preserved : goal.loop-key-preserved
loop-key-preserved c =
    let queue = c.loop-key.self in
    let before = c.loop-key.invariant in
    record {
      listed = before.listed;
      stands = λ stands. stands_popped queue (record queue { ready = c.pop_first.new.self }) c.in-Some.key c.in-Some.ensures.updates.0 (map entry_of c.args.items.now) (before.stands stands);
      kept = λ entry number is kept. ⊎_elim
          (λ same. listed (c.in_default-unlisted_item.ensures entry (ap (λ (k : ℕ × ℕ). slice_get (map entry_of c.args.items.now) k.1) same ∙ is)))
          (λ still. still)
          (kept_popped queue (record queue { ready = c.pop_first.new.self }) c.in-Some.key c.in-Some.ensures.updates.0 entry number (before.kept entry number is kept));
    }

pub returns-clause-next : goal.returns-clause-next
returns-clause-next c stands kept =
    let entries = map entry_of c.args.items.now in
    let before = c.loop-key.invariant in
    sym (ap (λ names. next_of names entries) (sym before.listed)
    ∙ next_none entries c.loop-key.self (before.stands stands) (λ entry number is. before.kept entry number is (kept entry number is)) (no_key c.loop-key.self (no_keys c.loop-key.self.ready.keys c.in_default.ensures.variant.1)))
