-- Bytes that are known of a reader and of a writer.
use Rattle.std.proofs.Common.{◌≡◌, ℕ, ◌+◌, ◌-◌, Bool, List, [], ◌++◌, length, take, drop, Option, Some, None, Result, Ok, Err, sym, ap, ◌∙◌, subst, refl, append_assoc, append-nil}
use Rattle.std.proofs.lemmas.List.{take-append-drop, take_rest}
use Rattle.std.proofs.Math.Seq.{take-add}
use Rattle.std.proofs.lemmas.Bool.{false≢true}
use Rattle.std.specs.Option.{is_some}
use Rattle.std.specs.declared.io.Error.{Error}
use Rattle.std.specs.Io.KnownBytes.{Keeps, Appends, Consumes, WriteAppends}
use Rattle.std.specs.Io.KnownBytes.{IsAtEnd as IsEnd}
use Rattle.pgs_world.specs.Source.{Takes, IsAtEnd}
use Rattle.pgs_world_streams.specs.Pieces.{AppendsFront}
use Rattle.pgs_world_streams.specs.Tries.{WasInterrupted}

pub takes_known : (old new : Option (List ℕ)) (tells : Bool) (taken : List ℕ) → is_some old ≡ tells → is_some new ≡ tells → Consumes old new taken → Takes old new taken
takes_known None None tells taken was is consumes = refl
takes_known None (Some ys) tells taken was is consumes = absurd (false≢true (was ∙ sym is))
takes_known (Some xs) None tells taken was is consumes = absurd consumes
takes_known (Some xs) (Some ys) tells taken was is consumes = ap Some consumes

pub kept_known : (old new : Option (List ℕ)) (tells : Bool) → is_some old ≡ tells → is_some new ≡ tells → Keeps old new → new ≡ old
kept_known None None tells was is keeps = refl
kept_known None (Some ys) tells was is keeps = absurd (false≢true (was ∙ sym is))
kept_known (Some xs) None tells was is keeps = absurd keeps
kept_known (Some xs) (Some ys) tells was is keeps = ap Some keeps

pub end_known : (old new : Option (List ℕ)) → Consumes old new [] → IsEnd new → IsAtEnd old
end_known None new consumes end = tt
end_known (Some xs) None consumes end = absurd consumes
end_known (Some xs) (Some ys) consumes end = consumes ∙ end

-- a call that wrote nothing, after some bytes
pub appends_kept : (old mid new : Option (List ℕ)) (done : List ℕ) → Appends old mid done → Keeps mid new → Appends old new done
appends_kept None mid new done first keeps = tt
appends_kept (Some xs) None new done first keeps = absurd first
appends_kept (Some xs) (Some ys) None done first keeps = absurd keeps
appends_kept (Some xs) (Some ys) (Some zs) done first keeps = keeps ∙ first

-- some bytes, and then some more
appends_more : (old mid new : Option (List ℕ)) (done more : List ℕ) → Appends old mid done → Appends mid new more → Appends old new (done ++ more)
appends_more None mid new done more first second = tt
appends_more (Some xs) None new done more first second = absurd first
appends_more (Some xs) (Some ys) None done more first second = absurd second
appends_more (Some xs) (Some ys) (Some zs) done more first second = second ∙ ap (λ (b : List ℕ). b ++ more) first ∙ append_assoc xs done more

pub appends_none : (old : Option (List ℕ)) → Appends old old []
appends_none None = tt
appends_none (Some xs) = sym (append-nil xs)

-- the bytes up to a place were written
pub front_here : (old new : Option (List ℕ)) (piece : List ℕ) (done : ℕ) → Appends old new (take done piece) → AppendsFront old new piece
front_here old new piece done appends =
    record { front = take done piece; back = drop done piece; parts = sym (take-append-drop done piece); appends = appends }

pub front_kept : (old mid new : Option (List ℕ)) (piece : List ℕ) (done : ℕ) → Appends old mid (take done piece) → Keeps mid new → AppendsFront old new piece
front_kept old mid new piece done appends keeps = front_here old new piece done (appends_kept old mid new (take done piece) appends keeps)

-- a write of what is left of a piece, which took some of it
pub appends_at : (old mid new : Option (List ℕ)) (piece : List ℕ) (done count now : ℕ) → now ≡ done + count → Appends old mid (take done piece)
    → Appends mid new (take count (take (length piece - done) (drop done piece))) → Appends old new (take now piece)
appends_at old mid new piece done count now is first second =
    let added : Appends mid new (take count (drop done piece)) = subst (λ (xs : List ℕ). Appends mid new (take count xs)) (take_rest piece done) second in
    subst (λ n. Appends old new (take n piece)) (sym is)
    (subst (Appends old new) (sym (take-add done count piece)) (appends_more old mid new (take done piece) (take count (drop done piece)) first added))

-- two calls that wrote nothing
pub kept_twice : (old mid new : Option (List ℕ)) → Keeps old mid → Keeps mid new → Keeps old new
kept_twice None mid new first second = tt
kept_twice (Some xs) None new first second = absurd first
kept_twice (Some xs) (Some ys) None first second = absurd second
kept_twice (Some xs) (Some ys) (Some zs) first second = second ∙ first

pub kept_none : (old : Option (List ℕ)) → Keeps old old
kept_none None = tt
kept_none (Some xs) = refl

-- a call that was interrupted, after some that wrote nothing
pub kept_interrupted : (old mid new : Option (List ℕ)) (answer : Result ℕ Error) (bytes : List ℕ) → Keeps old mid → WriteAppends mid new answer bytes → WasInterrupted answer → Keeps old new
kept_interrupted old mid new (Ok count) bytes first wrote was = absurd was
kept_interrupted old mid new (Err error) bytes first wrote was = kept_twice old mid new first wrote

-- a write, after calls that wrote nothing
appends_behind : (old mid new : Option (List ℕ)) (done : List ℕ) → Keeps old mid → Appends mid new done → Appends old new done
appends_behind None mid new done first second = tt
appends_behind (Some xs) None new done first second = absurd first
appends_behind (Some xs) (Some ys) None done first second = absurd second
appends_behind (Some xs) (Some ys) (Some zs) done first second = second ∙ ap (λ (b : List ℕ). b ++ done) first

pub write_behind : (old mid new : Option (List ℕ)) (answer : Result ℕ Error) (bytes : List ℕ) → Keeps old mid → WriteAppends mid new answer bytes → WriteAppends old new answer bytes
write_behind old mid new (Ok count) bytes first wrote = appends_behind old mid new (take count bytes) first wrote
write_behind old mid new (Err error) bytes first wrote = kept_twice old mid new first wrote
