-- A walk over imports with the graph types on the way kept in a list.
use Rattle.std.proofs.Common.{◌≡◌, ℕ, zero, suc, ◌+◌, ◌-◌, ◌*◌, ◌<◌, ◌≤◌, true, false, cond, List, [], ◌∷◌, ◌++◌, length, refl, sym, ◌∙◌, ap, arith}
use Rattle.std.specs.List.{fold, sum_by, slice_get}
use Rattle.std.proofs.lemmas.Nat.{mul-le}
use Rattle.std.proofs.Math.Nat.{suc-mul}
use Rattle.std.proofs.lemmas.List.Sums.{sum_by_push}
use Rattle.pgs_base.specs.Pair.{has_name}
use Rattle.pgs_syntax.specs.declared.script.GraphType.{GraphType}
use Rattle.pgs_syntax.specs.declared.script.Script.{Script}
use Rattle.pgs_resolve_declared.specs.declared.imports.Frame.{Frame}
use Rattle.pgs_resolve_declared.specs.Imports.{walked, last_of}
use Rattle.pgs_resolve_declared.specs.Refused.{imported_by}

-- the names after a graph type and all its imports that are left, and after several graph types, the last first
abbrev pub closed : Script → Frame → List (List ℕ) → List (List ℕ)
closed script frame before = fold (walked script frame.depth) before frame.rest.now ++ frame.name.now ∷ []

abbrev pub finish : Script → List Frame → List (List ℕ) → List (List ℕ)
finish script [] before = before
finish script (frame ∷ frames) before = closed script frame (finish script frames before)

pub finish_push : (script : Script) (frames : List Frame) (frame : Frame) (before : List (List ℕ)) →
    finish script (frames ++ frame ∷ []) before ≡ finish script frames (closed script frame before)
finish_push script [] frame before = refl
finish_push script (first ∷ frames) frame before = ap (closed script first) (finish_push script frames frame before)

-- a walk from a name at a depth
pub walked_none : (script : Script) (depth : ℕ) (before : List (List ℕ)) (name : List ℕ) → depth ≡ 0 → walked script depth before name ≡ before
walked_none script depth before name none = ap (λ d. walked script d before name) none

pub walked_known : (script : Script) (depth : ℕ) (before : List (List ℕ)) (name : List ℕ) → has_name name before ≡ true → walked script depth before name ≡ before
walked_known script zero before name known = refl
walked_known script (suc depth) before name known =
    ap (λ b. cond b before (fold (walked script depth) before (imported_by script name) ++ name ∷ [])) known

pub walked_new : (script : Script) (depth : ℕ) (before : List (List ℕ)) (name : List ℕ) → has_name name before ≡ false →
    walked script (suc depth) before name ≡ fold (walked script depth) before (imported_by script name) ++ name ∷ []
walked_new script depth before name new =
    ap (λ b. cond b before (fold (walked script depth) before (imported_by script name) ++ name ∷ [])) new

-- how many steps a walk from a name at a depth takes at most, where a graph type has at most so many imports
abbrev pub cost : ℕ → ℕ → ℕ
cost most zero = 1
cost most (suc depth) = 2 + most * cost most depth

abbrev pub weight : ℕ → Frame → ℕ
weight most frame = 1 + length frame.rest.now * cost most frame.depth

pub some_cost : (most depth : ℕ) → 1 ≤ cost most depth
some_cost most zero = omega arith
some_cost most (suc depth) = omega arith

pub next_is_less : (most depth n m : ℕ) → m ≡ suc n → 1 + n * cost most depth < 1 + m * cost most depth
next_is_less most depth n m e =
    let c : ℕ = cost most depth in
    let some : 1 ≤ c = some_cost most depth in
    let whole : m * c ≡ n * c + c = ap (λ k. k * c) e ∙ suc-mul n c in
    omega (arith, some, whole)

pub deeper_is_less : (most depth n m k : ℕ) → m ≡ suc n → k ≤ most →
    (1 + n * cost most (suc depth)) + (1 + k * cost most depth) < 1 + m * cost most (suc depth)
deeper_is_less most depth n m k e few =
    let c : ℕ = cost most depth in
    let d : ℕ = 2 + most * c in
    let whole : m * d ≡ n * d + d = ap (λ j. j * d) e ∙ suc-mul n d in
    let less : k * c ≤ most * c = mul-le k c most c few (omega arith) in
    omega (arith, whole, less)

-- ---- one step

pub finish_closed : (script : Script) (all popped : List Frame) (frame : Frame) (names : List (List ℕ)) → all ≡ popped ++ frame ∷ [] →
    finish script all names ≡ finish script popped (closed script frame names)
finish_closed script all popped frame names e = ap (λ frames. finish script frames names) e ∙ finish_push script popped frame names

pub next_walked : (script : Script) (depth : ℕ) (before after : List (List ℕ)) (first name : List ℕ) (rest all : List (List ℕ)) →
    all ≡ first ∷ rest → walked script depth before first ≡ after →
    fold (walked script depth) before all ++ name ∷ [] ≡ fold (walked script depth) after rest ++ name ∷ []
next_walked script depth before after first name rest all e w =
    ap (λ names. fold (walked script depth) before names ++ name ∷ []) e ∙ ap (λ names. fold (walked script depth) names rest ++ name ∷ []) w

pub walked_deeper : (script : Script) (depth : ℕ) (before imports : List (List ℕ)) (name : List ℕ) → (depth ≡ 0 → ⊥) → has_name name before ≡ false →
    imports ≡ imported_by script name → fold (walked script (depth - 1)) before imports ++ name ∷ [] ≡ walked script depth before name
walked_deeper script zero before imports name some new these = absurd (some refl)
walked_deeper script (suc depth) before imports name some new these =
    let e : suc depth - 1 ≡ depth = omega arith in
    ap (λ d. fold (walked script d) before imports ++ name ∷ []) e
    ∙ ap (λ names. fold (walked script depth) before names ++ name ∷ []) these ∙ sym (walked_new script depth before name new)

pub less_after_next : (most : ℕ) (all popped new : List Frame) (frame next : Frame) → all ≡ popped ++ frame ∷ [] → new ≡ popped ++ next ∷ [] →
    weight most next < weight most frame → sum_by (weight most) new < sum_by (weight most) all
less_after_next most all popped new frame next e f less =
    let a = ap (sum_by (weight most)) e ∙ sum_by_push (weight most) popped frame in
    let b = ap (sum_by (weight most)) f ∙ sum_by_push (weight most) popped next in
    omega (arith, a, b, less)

pub less_after_deeper : (most : ℕ) (all popped more new : List Frame) (frame next deeper : Frame) → all ≡ popped ++ frame ∷ [] →
    more ≡ popped ++ next ∷ [] → new ≡ more ++ deeper ∷ [] → weight most next + weight most deeper < weight most frame →
    sum_by (weight most) new < sum_by (weight most) all
less_after_deeper most all popped more new frame next deeper e f g less =
    let a = ap (sum_by (weight most)) e ∙ sum_by_push (weight most) popped frame in
    let b = ap (sum_by (weight most)) f ∙ sum_by_push (weight most) popped next in
    let c = ap (sum_by (weight most)) g ∙ sum_by_push (weight most) more deeper in
    omega (arith, a, b, c, less)

pub deeper_by_one : (most depth n m k : ℕ) → (depth ≡ 0 → ⊥) → m ≡ suc n → k ≤ most →
    (1 + n * cost most depth) + (1 + k * cost most (depth - 1)) < 1 + m * cost most depth
deeper_by_one most zero n m k some e few = absurd (some refl)
deeper_by_one most (suc depth) n m k some e few =
    let d : suc depth - 1 ≡ depth = omega arith in
    let less = deeper_is_less most depth n m k e few in
    let same : cost most (suc depth - 1) ≡ cost most depth = ap (cost most) d in
    let times : k * cost most (suc depth - 1) ≡ k * cost most depth = ap (λ c. k * c) same in
    omega (arith, less, times)

-- ---- the last graph type

pub last_at : (types : List GraphType) (n : ℕ) → length types ≡ suc n → last_of types ≡ slice_get types n
last_at [] n e = refl
last_at (type ∷ []) n e = let z : n ≡ 0 = omega (arith, e) in ap (slice_get (type ∷ [])) (sym z)
last_at (type ∷ other ∷ types) zero e = absurd (omega (arith, e))
last_at (type ∷ other ∷ types) (suc n) e = last_at (other ∷ types) n (omega (arith, e))
