-- A search for a number that leads back to itself, depth first, step by step.
use Rattle.std.proofs.Common.{◌≡◌, ◌≢◌, ℕ, zero, suc, ◌+◌, ◌-◌, ◌*◌, ◌<◌, ◌≤◌, ◌==◌, ◌^◌, Bool, true, false, ◌||◌, cond, ◌⊎◌, inl, inr, List, [], ◌∷◌, ◌++◌, length, take, drop, map, reverse, replicate, get_or, set, refl, sym, ◌∙◌, ap, subst, arith, length-set, get_or-set_same, get_or-set_other}
use Rattle.std.specs.List.{sum_by}
use Rattle.std.proofs.lemmas.Bool.{cases_lt, cases_eq}
use Rattle.std.proofs.lemmas.Bool.Decides.{nat_tests}
use Rattle.std.proofs.lemmas.List.{take_all, get_or_past, get_or-replicate, length-replicate, reverse-append}
use Rattle.std.proofs.lemmas.List.Sums.{count_by-le-length, sum_by-set, sum_by-cons}
use Rattle.pgs_resolve_order.specs.declared.depth_first.Visit.{Visit}
use Rattle.pgs_resolve_order.specs.Links.{row_at, leads_in, leads_back}
use Rattle.pgs_resolve_order.specs.Reached.{is_among}
use Rattle.pgs_resolve_order.specs.Searching.{mark_at, unseen_work}
use Rattle.pgs_resolve_order.specs.DepthFirst.{IsNext, IsWay, IsDepthFirst, StayMarked, visit_work, left_work}
use Rattle.pgs_resolve_order.proofs.Leading.{or_so, in_more_steps}
use Rattle.pgs_resolve_order.proofs.Reaching.{first_step, step_after, has_row, one_of}
use Rattle.pgs_resolve_order.proofs.Work.{within, less, no_more}

-- ---- marks

at_set : (marks : List ℕ) (k m n : ℕ) → k < length marks → ((n ≡ k) × (mark_at (set marks k m) n ≡ m)) ⊎ ((n ≢ k) × (mark_at (set marks k m) n ≡ mark_at marks n))
at_set marks k m n l = elim (cases_eq n k) [
  | inl e ↦ inl (e, ap (mark_at (set marks k m)) e ∙ get_or-set_same marks k m (2 ^ 64 - 1) l)
  | inr e ↦ inr (e, get_or-set_other marks k n m (2 ^ 64 - 1) e)
]

pub stay_set : (marks : List ℕ) (k m : ℕ) → k < length marks → 0 < m → (1 < mark_at marks k → 1 < m) → StayMarked marks (set marks k m)
stay_set marks k m l some done = record {
  seen = λ n e. elim (at_set marks k m n l) [
    | inl s ↦ let f = s.1 in omega (arith, some, f)
    | inr s ↦ let f = s.1 in omega (arith, e, f)
  ];
  done = λ n e. elim (at_set marks k m n l) [
    | inl s ↦ let f = s.1 in let g = done (subst (λ j. 1 < mark_at marks j) s.0 e) in omega (arith, f, g)
    | inr s ↦ let f = s.1 in omega (arith, e, f)
  ];
}

pub stay_same : (marks new : List ℕ) → new ≡ marks → StayMarked marks new
stay_same marks new e = record {
  seen = λ n h. subst (λ all. 0 < mark_at all n) (sym e) h;
  done = λ n h. subst (λ all. 1 < mark_at all n) (sym e) h;
}

pub stay_on : (old marks new : List ℕ) → StayMarked old marks → StayMarked marks new → StayMarked old new
stay_on old marks new a b = record {
  seen = λ n h. b.seen n (a.seen n h);
  done = λ n h. b.done n (a.done n h);
}

way_stays : (rows : List (List ℕ)) (old new : List ℕ) (way : List Visit) → length new ≡ length old → StayMarked old new → IsWay rows old way → IsWay rows new way
way_stays rows old new [] len stay w = tt
way_stays rows old new (visit ∷ way) len stay w = (
  record {
    within = let l = w.0.within in omega (arith, l, len);
    links = w.0.links;
    passed = λ next link left. stay.done next (w.0.passed next link left);
  },
  w.1,
  way_stays rows old new way len stay w.2,
)

one_or_none : (b : Bool) → cond b 1 0 ≤ 1
one_or_none true = omega arith
one_or_none false = omega arith

-- the same of lists that are the same
pub same_search : (rows : List (List ℕ)) (marks new : List ℕ) (way all : List Visit) → new ≡ marks → all ≡ way → IsDepthFirst rows marks way → IsDepthFirst rows new all
same_search rows marks new way all e f h = subst (λ ms. IsDepthFirst rows ms all) (sym e) (subst (IsDepthFirst rows marks) (sym f) h)

-- ---- one number more on the way

pub enters : (rows : List (List ℕ)) (marks : List ℕ) (way : List Visit) (visit : Visit) → visit.rest.now ≡ row_at rows visit.number → mark_at marks visit.number ≡ 0 →
    IsNext rows way visit.number → IsDepthFirst rows marks way → IsDepthFirst rows (set marks visit.number 1) (visit ∷ way)
enters rows marks way visit row new next h =
    let n = visit.number in
    let l : n < length marks = within marks n (2 ^ 64 - 1) (omega arith) new in
    let len : length (set marks n 1) ≡ length marks = length-set marks n 1 in
    let stay : StayMarked marks (set marks n 1) = stay_set marks n 1 l (omega arith) (λ e. absurd (omega (arith, e, new))) in
    let one : ℕ → ℕ = λ mark. cond (mark == 1) 1 0 in
    let off : one (mark_at marks n) ≡ 0 = ap one new in
    let more : sum_by one (set marks n 1) + one (mark_at marks n) ≡ sum_by one marks + 1 = sum_by-set one marks n 1 (2 ^ 64 - 1) l in
    record {
      len = len ∙ h.len;
      is_way = (
        record {
          within = omega (arith, l, len);
          links = λ x a. sym (ap (λ xs. is_among xs x) row) ∙ a;
          passed = λ x a b. let e = ap (λ xs. is_among xs x) row in absurd (cc);
        },
        next,
        way_stays rows marks (set marks n 1) way len stay h.is_way,
      );
      few = let f = h.few in omega (arith, f, more, off);
      on_way = λ x e. elim (at_set marks n 1 x l) [
        | inl s ↦ let f = s.0 in let same : (n == x) ≡ true = grind (arith, nat_tests) in ap (λ b. b || is_among (map (λ (v : Visit). v.number) way) x) same
        | inr s ↦ or_so (n == x) (is_among (map (λ (v : Visit). v.number) way) x) (h.on_way x (sym s.1 ∙ e))
      ];
      closed = λ x y e link. elim (at_set marks n 1 x l) [
        | inl s ↦ let f = s.1 in absurd (omega (arith, e, f))
        | inr s ↦ let f = s.1 in stay.done y (h.closed x y (omega (arith, e, f)) link)
      ];
      none_back = λ x e. elim (at_set marks n 1 x l) [
        | inl s ↦ let f = s.1 in absurd (omega (arith, e, f))
        | inr s ↦ let f = s.1 in h.none_back x (omega (arith, e, f))
      ];
    }

pub enter_work : (rows : List (List ℕ)) (marks : List ℕ) (way : List Visit) (visit : Visit) → visit.rest.now ≡ row_at rows visit.number → mark_at marks visit.number ≡ 0 →
    length marks ≡ length rows → left_work rows (set marks visit.number 1) (visit ∷ way) < left_work rows marks way
enter_work rows marks way visit row new len =
    let l = within marks visit.number (2 ^ 64 - 1) (omega arith) new in
    let a = less rows marks visit.number 1 (2 ^ 64 - 1) (omega arith) len l new in
    let s = sum_by-cons visit_work visit way in
    let r = ap length row in
    omega (arith, a, s, r)

-- ---- one link passed

pub no_link : (links : List ℕ) → length links < 1 → links ≡ []
no_link [] l = refl
no_link (next ∷ links) l = absurd (omega (arith, l))

pub one_link : (links : List ℕ) → 1 ≤ length links → links ≡ get_or links 0 0 ∷ take (length links - 1) (drop 1 links)
one_link [] l = absurd (omega (arith, l))
one_link (next ∷ links) l = let e : suc (length links) - 1 ≡ length links = omega arith in ap (λ more. next ∷ more) (sym (take_all (suc (length links) - 1) links (omega (arith, e))))

pub passes : (rows : List (List ℕ)) (marks : List ℕ) (way : List Visit) (visit left : Visit) (next : ℕ) → visit.rest.now ≡ next ∷ left.rest.now → left.number ≡ visit.number →
    1 < mark_at marks next → IsDepthFirst rows marks (visit ∷ way) → IsDepthFirst rows marks (left ∷ way)
passes rows marks way visit left next split same done h =
    let w = h.is_way.0 in
    record {
      len = h.len;
      is_way = (
        record {
          within = let l = w.within in omega (arith, l, same);
          links = λ x a. ap (λ n. is_among (row_at rows n) x) same ∙ w.links x (ap (λ xs. is_among xs x) split ∙ or_so (next == x) (is_among left.rest.now x) a);
          passed = λ x a b. by x (next == x) refl (sym (ap (λ n. is_among (row_at rows n) x) same) ∙ a) b;
        },
        subst (IsNext rows way) (sym same) h.is_way.1,
        h.is_way.2,
      );
      few = h.few;
      on_way = λ x e. ap (λ n. n == x || is_among (map (λ (v : Visit). v.number) way) x) same ∙ h.on_way x e;
      closed = h.closed;
      none_back = h.none_back;
    }
  where
    by : (x : ℕ) (b : Bool) → (next == x) ≡ b → is_among (row_at rows visit.number) x ≡ true → is_among left.rest.now x ≡ false → 1 < mark_at marks x
    by x true e a b = let f : next ≡ x = grind (arith, nat_tests) in subst (λ n. 1 < mark_at marks n) f done
    by x false e a b = h.is_way.0.passed x a (ap (λ xs. is_among xs x) split ∙ (ap (λ c. c || is_among left.rest.now x) e ∙ b))

pub pass_work : (rows : List (List ℕ)) (marks : List ℕ) (way : List Visit) (visit left : Visit) (next : ℕ) → visit.rest.now ≡ next ∷ left.rest.now →
    left_work rows marks (left ∷ way) < left_work rows marks (visit ∷ way)
pass_work rows marks way visit left next split =
    let a = sum_by-cons visit_work visit way in
    let b = sum_by-cons visit_work left way in
    let e = ap length split in
    omega (arith, a, b, e)

-- ---- back from a number

module _ (rows : List (List ℕ)) (marks : List ℕ) (closed : (number next : ℕ) → 1 < mark_at marks number → is_among (row_at rows number) next ≡ true → 1 < mark_at marks next) where
  led_done : (steps from to : ℕ) → ((next : ℕ) → is_among (row_at rows from) next ≡ true → 1 < mark_at marks next) → leads_in rows steps from to ≡ true → 1 < mark_at marks to
  led_done zero from to each e = absurd (cc)
  led_done (suc steps) from to each e =
      let one = one_of (λ n. n == to || leads_in rows steps n to) (row_at rows from) e in
      by one.0 (each one.0 one.1) (one.0 == to) refl (led_done steps one.0 to) one.2
    where
      by : (n : ℕ) → 1 < mark_at marks n → (b : Bool) → (n == to) ≡ b →
          (((next : ℕ) → is_among (row_at rows n) next ≡ true → 1 < mark_at marks next) → leads_in rows steps n to ≡ true → 1 < mark_at marks to) →
          (b || leads_in rows steps n to) ≡ true → 1 < mark_at marks to
      by n done true same rest f = let g : n ≡ to = grind (arith, nat_tests) in subst (λ m. 1 < mark_at marks m) g done
      by n done false same rest f = rest (λ next link. closed n next done link) f

pub leaves : (rows : List (List ℕ)) (marks : List ℕ) (way : List Visit) (visit : Visit) → visit.rest.now ≡ [] → IsDepthFirst rows marks (visit ∷ way) →
    IsDepthFirst rows (set marks visit.number 2) way
leaves rows marks way visit empty h =
    let n = visit.number in
    let l : n < length marks = h.is_way.0.within in
    let len : length (set marks n 2) ≡ length marks = length-set marks n 2 in
    let stay : StayMarked marks (set marks n 2) = stay_set marks n 2 l (omega arith) (λ e. omega arith) in
    let one : ℕ → ℕ = λ mark. cond (mark == 1) 1 0 in
    let most : one (mark_at marks n) ≤ 1 = one_or_none (mark_at marks n == 1) in
    let fewer : sum_by one (set marks n 2) + one (mark_at marks n) ≡ sum_by one marks + 0 = sum_by-set one marks n 2 (2 ^ 64 - 1) l in
    record {
      len = len ∙ h.len;
      is_way = way_stays rows marks (set marks n 2) way len stay h.is_way.2;
      few = let f = h.few in omega (arith, f, fewer, most);
      on_way = λ x e. elim (at_set marks n 2 x l) [
        | inl s ↦ let f = s.1 in absurd (omega (arith, e, f))
        | inr s ↦ other x (n == x) refl s.0 (h.on_way x (sym s.1 ∙ e))
      ];
      closed = λ x y e link. elim (at_set marks n 2 x l) [
        | inl s ↦ stay.done y (each y (sym (ap (λ m. is_among (row_at rows m) y) s.0) ∙ link))
        | inr s ↦ let f = s.1 in stay.done y (h.closed x y (omega (arith, e, f)) link)
      ];
      none_back = λ x e. elim (at_set marks n 2 x l) [
        | inl s ↦ ap (leads_back rows) s.0 ∙ not_back (leads_back rows n) refl
        | inr s ↦ let f = s.1 in h.none_back x (omega (arith, e, f))
      ];
    }
  where
    each : (x : ℕ) → is_among (row_at rows visit.number) x ≡ true → 1 < mark_at marks x
    each x link = h.is_way.0.passed x link (ap (λ xs. is_among xs x) empty)

    other : (x : ℕ) (b : Bool) → (visit.number == x) ≡ b → x ≢ visit.number → (b || is_among (map (λ (v : Visit). v.number) way) x) ≡ true →
        is_among (map (λ (v : Visit). v.number) way) x ≡ true
    other x true e apart f = let g : x ≡ visit.number = grind (arith, nat_tests) in absurd (apart g)
    other x false e apart f = f

    not_back : (b : Bool) → leads_back rows visit.number ≡ b → b ≡ false
    not_back false e = refl
    not_back true e =
        let off = h.none_back visit.number (led_done rows marks h.closed (length rows) visit.number visit.number each e) in
        cc

pub leave_work : (rows : List (List ℕ)) (marks : List ℕ) (way : List Visit) (visit : Visit) → left_work rows (set marks visit.number 2) way < left_work rows marks (visit ∷ way)
leave_work rows marks way visit =
    let a = no_more rows marks visit.number 2 (omega arith) in
    let s = sum_by-cons visit_work visit way in
    omega (arith, a, s)

-- ---- a link to a number on the way

led_on : (rows : List (List ℕ)) (marks : List ℕ) (way : List Visit) (visit : Visit) (x : ℕ) → IsWay rows marks (visit ∷ way) →
    is_among (map (λ (v : Visit). v.number) (visit ∷ way)) x ≡ true → (x ≡ visit.number) ⊎ (leads_in rows (length way) x visit.number ≡ true)
led_on rows marks [] visit x w e = by (visit.number == x) refl e
  where
    by : (b : Bool) → (visit.number == x) ≡ b → (b || false) ≡ true → (x ≡ visit.number) ⊎ (leads_in rows 0 x visit.number ≡ true)
    by true f g = inl (grind (arith, nat_tests))
    by false f g = absurd (cc)
led_on rows marks (before ∷ way) visit x w e = by (visit.number == x) refl e (led_on rows marks way before x w.2)
  where
    by : (b : Bool) → (visit.number == x) ≡ b → (b || is_among (map (λ (v : Visit). v.number) (before ∷ way)) x) ≡ true →
        (is_among (map (λ (v : Visit). v.number) (before ∷ way)) x ≡ true → (x ≡ before.number) ⊎ (leads_in rows (length way) x before.number ≡ true)) →
        (x ≡ visit.number) ⊎ (leads_in rows (suc (length way)) x visit.number ≡ true)
    by true f g rest = inl (grind (arith, nat_tests))
    by false f g rest = elim (rest g) [
      | inl same ↦ inr (first_step rows (length way) x visit.number (ap (λ n. is_among (row_at rows n) visit.number) same ∙ w.1))
      | inr led ↦ inr (step_after rows (length way) x before.number visit.number led w.1)
    ]

pub turns_back : (rows : List (List ℕ)) (marks : List ℕ) (way : List Visit) (visit : Visit) (next : ℕ) (rest : List ℕ) → visit.rest.now ≡ next ∷ rest → mark_at marks next ≡ 1 →
    IsDepthFirst rows marks (visit ∷ way) → leads_back rows next ≡ true
turns_back rows marks way visit next rest split on h =
    let most = count_by-le-length (λ mark. mark == 1) marks in
    let few = h.few in
    let len = h.len in
    let all : length rows ≡ (length rows - suc (length way)) + suc (length way) = omega (arith, most, few, len) in
    in_more_steps rows (length rows - suc (length way)) (suc (length way)) (length rows) next next all
    (elim (led_on rows marks way visit next h.is_way (h.on_way next on)) [
      | inl same ↦ first_step rows (length way) next next (ap (λ n. is_among (row_at rows n) next) same ∙ link)
      | inr led ↦ step_after rows (length way) next visit.number next led link
    ])
  where
    itself : (next == next) ≡ true
    itself = let e : next ≡ next = refl in grind (arith, nat_tests)

    link : is_among (row_at rows visit.number) next ≡ true
    link = h.is_way.0.links next (ap (λ xs. is_among xs next) split ∙ ap (λ b. b || is_among rest next) itself)

-- ---- at the start and at the end

pub begins : (rows : List (List ℕ)) (marks : List ℕ) → marks ≡ replicate (length rows) 0 → IsDepthFirst rows marks []
begins rows marks e = subst (λ all. IsDepthFirst rows all []) (sym e) record {
  len = length-replicate (length rows) 0;
  is_way = tt;
  few = omega arith;
  on_way = λ x on. elim (cases_lt x (length rows)) [
    | inl l ↦ let off = zeros x l in absurd (omega (arith, on, off))
    | inr l ↦ let off : mark_at (replicate (length rows) 0) x ≡ 2 ^ 64 - 1 = get_or_past (replicate (length rows) 0) x (2 ^ 64 - 1) (subst (λ len. len ≤ x) (sym all) l) in absurd (omega (arith, on, off))
  ];
  closed = λ x y done link. elim (cases_lt x (length rows)) [
    | inl l ↦ let off = zeros x l in absurd (omega (arith, done, off))
    | inr l ↦ let none : is_among (row_at rows x) y ≡ false = ap (λ xs. is_among xs y) (get_or_past rows x [] l) in absurd (cc)
  ];
  none_back = λ x done. elim (cases_lt x (length rows)) [
    | inl l ↦ let off = zeros x l in absurd (omega (arith, done, off))
    | inr l ↦ past x l (leads_back rows x) refl
  ];
}
  where
    all : length (replicate {A = ℕ} (length rows) 0) ≡ length rows
    all = length-replicate {A = ℕ} (length rows) 0

    zeros : (x : ℕ) → x < length rows → mark_at (replicate (length rows) 0) x ≡ 0
    zeros x l = get_or-replicate (length rows) x 0 (2 ^ 64 - 1) l

    past : (x : ℕ) → length rows ≤ x → (b : Bool) → leads_back rows x ≡ b → b ≡ false
    past x l false f = refl
    past x l true f = let m = has_row rows (length rows) x x f in absurd (omega (arith, l, m))

pub first_work : (rows : List (List ℕ)) (marks : List ℕ) → marks ≡ replicate (length rows) 0 → unseen_work rows marks ≡ 2 * length rows + sum_by length rows
first_work rows marks e = ap (unseen_work rows) e ∙ zeros rows
  where
    zeros : (all : List (List ℕ)) → unseen_work all (replicate (length all) 0) ≡ 2 * length all + sum_by length all
    zeros [] = refl
    zeros (row ∷ all) = let i = zeros all in let s = sum_by-cons length row all in omega (arith, i, s)

-- where none is on the way, what is seen is done
pub seen_done : (rows : List (List ℕ)) (marks : List ℕ) (x : ℕ) → IsDepthFirst rows marks [] → 0 < mark_at marks x → 1 < mark_at marks x
seen_done rows marks x h seen = elim (cases_lt 1 (mark_at marks x)) [
  | inl l ↦ l
  | inr l ↦ let none = h.on_way x (omega (arith, l, seen)) in absurd (cc)
]

pub all_done : (rows : List (List ℕ)) (marks : List ℕ) → IsDepthFirst rows marks [] → ((x : ℕ) → x < length rows → 1 < mark_at marks x) → (x : ℕ) → leads_back rows x ≡ false
all_done rows marks h done x = elim (cases_lt x (length rows)) [
  | inl l ↦ h.none_back x (done x l)
  | inr l ↦ let e : mark_at marks x ≡ 2 ^ 64 - 1 = get_or_past marks x (2 ^ 64 - 1) (let len = h.len in omega (arith, l, len)) in h.none_back x (omega (arith, e))
]

-- the last number of a list is the first one on the way
pub last_first : (visits : List Visit) (visit : Visit) → reverse (visits ++ visit ∷ []) ≡ visit ∷ reverse visits
last_first visits visit = reverse-append visits (visit ∷ [])
